-- Each stretch ends before the bound on its words.
use Rattle.std.proofs.Common.{◌≡◌, ℕ, zero, suc, ◌+◌, ◌-◌, ◌*◌, ◌/◌, ◌%◌, ◌^◌, ◌<◌, ◌≤◌, ◌==◌, nat_le, Bool, true, false, ◌&&◌, if◌then◌else◌, ◌⊎◌, inl, inr, List, [], ◌∷◌, ◌++◌, length, slice_get, Option, Some, None, Result, Ok, Err, refl, sym, ap, ◌∙◌, arith, lit<, ℤ}
use Rattle.std.specs.List.{AllByRecursion}
use Rattle.std.proofs.Math.Nat.{mod-lt}
use Rattle.std.proofs.lemmas.Bool.{cases_lt}
use Rattle.std.proofs.lemmas.Option.{slice_get_past}
use Rattle.std.proofs.lemmas.Bool.Decides.{nat_tests}
use Rattle.al_base.specs.declared.trap.Trap.{Trap}
use Rattle.al_base.specs.declared.trap.Trap.TheVariants.{Print as TooLong}
use Rattle.al_event.specs.declared.act.Act.{Act}
use Rattle.rv_isa.specs.Table.{instruction_of}
use Rattle.rv_isa.specs.declared.image.Contents.{Contents}
use Rattle.rv_isa.specs.declared.addresses.TheConstants.{CODE_START}
use Rattle.rv_isa.specs.declared.instr.Instr.{Instr}
use Rattle.rv_isa.specs.declared.instr.Instr.TheVariants.{Upper, Jal, Jalr, Branch, Load, Store, Immediate, Shift, Register, Fence, Ecall, Ebreak}
use Rattle.rv_isa.specs.declared.instr.UpperOp.TheVariants.{Lui, Auipc}
use Rattle.rv_isa.specs.declared.instr.LoadOp.{LoadOp}
use Rattle.rv_isa.specs.declared.instr.StoreOp.{StoreOp}
use Rattle.rv_exec.specs.declared.state.Waits.{Waits}
use Rattle.rv_exec.specs.declared.windows.Window.{Window}
use Rattle.rv_exec.specs.declared.windows.Window.TheVariants.{Stack, Globals, Shared}
use Rattle.rv_exec.specs.Hart.{Hart, register, moved, with_register}
use Rattle.rv_exec.specs.Words.{word, sum_of, is_taken, load_size, store_size}
use Rattle.rv_exec.specs.Windows.{window_of, stack_offset, globals_offset}
use Rattle.rv_exec.specs.Calls.{Privates, Move, Goes, Asks, asks_if_any, illegal, traps, composed, longest_text, decimal_text, hexadecimal_text, x10, x11, x12, calls, called, called_if_any}
use Rattle.rv_exec.specs.Step.{step, performed, performed_if_any, executed, executed_if_any, jumps, jumps_by, most_jumps, loads, loads_at, stores_stack, stores_globals, stores_at, address_of, word_at}
use Rattle.al_world.specs.Control.{Asked}
use Rattle.rv_exec.specs.Machine.{asked, asked_within, longest_stretch}
use Rattle.rv_exec.specs.Laws.{NeverComesToBound}

-- how many words there can still be: for each counted jump that is left all places, and those above the pc
abbrev left : Hart → ℕ
left h = (most_jumps - h.jumps) * 2 ^ 32 + (2 ^ 32 - h.pc)

-- a move goes on to fewer words
abbrev Lessens : Hart → Move → Type 0
Lessens h (Goes next q) = (left next < left h) × (next.pc < 2 ^ 32)
Lessens h (Asks act waiting q) = Unit {0}

-- to the next word
module _ (h : Hart) (near : h.pc + 4 < 2 ^ 32) where
  on_next : ((most_jumps - h.jumps) * 2 ^ 32 + (2 ^ 32 - (h.pc + 4)) < left h) × (h.pc + 4 < 2 ^ 32)
  on_next = (omega arith, near)

  jump_lessens : (is_counted : Bool) (target : ℕ) (next : Hart) (p : Privates) → next.jumps ≡ h.jumps → target < 2 ^ 32
      → (is_counted ≡ false → h.pc < target) → Lessens h (jumps is_counted target next h p)
  jump_lessens false target next p same below above =
      let before : (most_jumps - next.jumps) * 2 ^ 32 ≡ (most_jumps - h.jumps) * 2 ^ 32 = ap (λ (n : ℕ). (most_jumps - n) * 2 ^ 32) same in
      let more : h.pc < target = above refl in
      (omega arith, below)
  jump_lessens true target next p same below above = on (nat_le most_jumps h.jumps) refl where
    on : (b : Bool) → nat_le most_jumps h.jumps ≡ b
        → Lessens h (if b then illegal h p else Goes (record next { pc = target; jumps = h.jumps + 1 }) p)
    on true e = tt
    on false e =
        let few : h.jumps < most_jumps = grind (arith, nat_tests, e) in
        (omega arith, below)

  jump_by : (imm : ℤ) (next : Hart) (p : Privates) → next.jumps ≡ h.jumps → Lessens h (jumps_by imm next h p)
  jump_by imm next p same =
      let target : ℕ = sum_of h.pc (word imm) in
      jump_lessens (nat_le target h.pc) target next p same (mod-lt (h.pc + word imm) (lit< tt)) (λ e. grind (arith, nat_tests, e))

  branches : (b : Bool) (imm : ℤ) (p : Privates) → Lessens h (if b then jumps_by imm h h p else Goes (moved h) p)
  branches true imm p = jump_by imm h p refl
  branches false imm p = on_next

  jump_to : (target : ℕ) (next : Hart) (p : Privates) → next.jumps ≡ h.jumps → target < 2 ^ 32 → Lessens h (jumps true target next h p)
  jump_to target next p same below = jump_lessens true target next p same below (λ e. absurd (cc))

  loading : (op : LoadOp) (rd : ℕ) (f : ℕ → ℕ) (o : Result ℕ Trap) (p : Privates) → Lessens h (loads op rd f o h p)
  loading op rd f (Ok offset) p = on_next
  loading op rd f (Err trap) p = tt

  loading_at : (w : Window) (op : LoadOp) (rd address bytes : ℕ) (p : Privates) → Lessens h (loads_at w op rd address bytes h p)
  loading_at Stack op rd address bytes p = loading op rd h.stack (stack_offset (load_size op) address) p
  loading_at Globals op rd address bytes p = loading op rd p (globals_offset bytes (load_size op) address) p
  loading_at Shared op rd address bytes p = tt

  storing_stack : (op : StoreOp) (value : ℕ) (o : Result ℕ Trap) (p : Privates) → Lessens h (stores_stack op value o h p)
  storing_stack op value (Ok offset) p = on_next
  storing_stack op value (Err trap) p = tt

  storing_globals : (op : StoreOp) (value : ℕ) (o : Result ℕ Trap) (p : Privates) → Lessens h (stores_globals op value o h p)
  storing_globals op value (Ok offset) p = on_next
  storing_globals op value (Err trap) p = tt

  storing_at : (w : Window) (op : StoreOp) (value address bytes : ℕ) (p : Privates) → Lessens h (stores_at w op value address bytes h p)
  storing_at Stack op value address bytes p = storing_stack op value (stack_offset (store_size op) address) p
  storing_at Globals op value address bytes p = storing_globals op value (globals_offset bytes (store_size op) address) p
  storing_at Shared op value address bytes p = tt

  asking : (waits : Waits) (o : Option Act) (p : Privates) → Lessens h (asks_if_any waits o h p)
  asking waits None p = tt
  asking waits (Some act) p = tt

  composing : (piece : List ℕ) (p : Privates) → Lessens h (composed piece h p)
  composing piece p = on (nat_le (length h.text + length piece) longest_text) where
    on : (b : Bool) → Lessens h (if b then Goes (moved (record h { text = h.text ++ piece })) p else traps TooLong h p)
    on true = on_next
    on false = tt

-- ---- calls

abbrev CallLessens : (Contents → Hart → Privates → Move) → Type 0
CallLessens call = (image : Contents) (h : Hart) (p : Privates) → h.pc + 4 < 2 ^ 32 → Lessens h (call image h p)

calls_lessen : AllByRecursion CallLessens calls
calls_lessen = (
  (λ image h p near. tt),
  (
    (λ image h p near. tt),
    (
      (λ image h p near. asking h near _ _ p),
      (
        (λ image h p near. asking h near _ _ p),
        (
          (λ image h p near. asking h near _ _ p),
          (
            (λ image h p near. asking h near _ _ p),
            (
              (λ image h p near. tt),
              (
                (λ image h p near. tt),
                (
                  (λ image h p near. tt),
                  (
                    (λ image h p near. asking h near _ _ p),
                    (
                      (λ image h p near. asking h near _ _ p),
                      (
                        (λ image h p near. asking h near _ _ p),
                        (
                          (λ image h p near. asking h near _ _ p),
                          (
                            (λ image h p near. tt),
                            (
                              (λ image h p near. tt),
                              (
                                (λ image h p near. composing h near (x10 h % 256 ∷ []) p),
                                (
                                  (λ image h p near. composing h near (decimal_text (x10 h) (x11 h) (x12 h)) p),
                                  (
                                    (λ image h p near. composing h near (hexadecimal_text (x10 h) (x11 h)) p),
                                    tt,
                                  ),
                                ),
                              ),
                            ),
                          ),
                        ),
                      ),
                    ),
                  ),
                ),
              ),
            ),
          ),
        ),
      ),
    ),
  ),
)

one_lessens : (all : List (Contents → Hart → Privates → Move)) → AllByRecursion CallLessens all → (n : ℕ) (image : Contents) (h : Hart) (p : Privates)
    → h.pc + 4 < 2 ^ 32 → Lessens h (called_if_any (slice_get all n) image h p)
one_lessens [] each n image h p near = tt
one_lessens (call ∷ all) each zero image h p near = each.0 image h p near
one_lessens (call ∷ all) each (suc n) image h p near = one_lessens all each.1 n image h p near

call_lessens : (number : ℕ) (image : Contents) (h : Hart) (p : Privates) → h.pc + 4 < 2 ^ 32 → Lessens h (called number image h p)
call_lessens zero image h p near = tt
call_lessens (suc n) image h p near = one_lessens calls calls_lessen n image h p near

-- ---- instructions

instr_lessens : (i : Instr) (image : Contents) (h : Hart) (p : Privates) → h.pc + 4 < 2 ^ 32 → Lessens h (executed i image h p)
instr_lessens (Upper Lui rd imm) image h p near = on_next h near
instr_lessens (Upper Auipc rd imm) image h p near = on_next h near
instr_lessens (Jal rd imm) image h p near = jump_by h near imm (with_register rd (h.pc + 4) h) p refl
instr_lessens (Jalr rd rs1 imm) image h p near =
    let target : ℕ = address_of h rs1 imm in
    let below : target < 2 ^ 32 = mod-lt (register h rs1 + word imm) (lit< tt) in
    jump_to h near (target - target % 2) (with_register rd (h.pc + 4) h) p refl (omega arith)
instr_lessens (Branch op rs1 rs2 imm) image h p near = branches h near (is_taken op (register h rs1) (register h rs2)) imm p
instr_lessens (Load op rd rs1 imm) image h p near = loading_at h near (window_of rs1) op rd (address_of h rs1 imm) image.privates p
instr_lessens (Store op rs1 rs2 imm) image h p near = storing_at h near (window_of rs1) op (register h rs2) (address_of h rs1 imm) image.privates p
instr_lessens (Immediate op rd rs1 imm) image h p near = on_next h near
instr_lessens (Shift op rd rs1 amount) image h p near = on_next h near
instr_lessens (Register op rd rs1 rs2) image h p near = on_next h near
instr_lessens (Fence rd rs1 imm) image h p near = on_next h near
instr_lessens Ecall image h p near = call_lessens (register h 17) image h p near
instr_lessens Ebreak image h p near = tt

any_lessens : (o : Option Instr) (image : Contents) (h : Hart) (p : Privates) → h.pc + 4 < 2 ^ 32 → Lessens h (executed_if_any o image h p)
any_lessens None image h p near = tt
any_lessens (Some i) image h p near = instr_lessens i image h p near

perform_lessens : (w : ℕ) (image : Contents) (h : Hart) (p : Privates) → h.pc + 4 < 2 ^ 32 → Lessens h (performed w image h p)
unfolding performed
perform_lessens w image h p near = any_lessens (instruction_of w) image (record h { work = h.work + 1 }) p near

-- the code lies low
pub fetched_near : (code : List ℕ) (pc w : ℕ) → length code ≤ 2 ^ 23 → word_at code pc ≡ Some w → pc + 4 < 2 ^ 32
fetched_near code pc w small e = on (cases_lt ((pc - CODE_START) / 4) (length code)) where
  none : (b : Bool) (o : Option ℕ) → o ≡ None → (if b then o else None) ≡ Some w → ⊥
  none true o f g = absurd (cc)
  none false o f g = absurd (cc)

  on : ((pc - CODE_START) / 4 < length code) ⊎ (length code ≤ (pc - CODE_START) / 4) → pc + 4 < 2 ^ 32
  on (inl less) = omega arith
  on (inr past) = absurd (none (nat_le CODE_START pc && (pc % 4 == 0)) (slice_get code ((pc - CODE_START) / 4)) (slice_get_past code ((pc - CODE_START) / 4) past) e)

step_lessens : (image : Contents) (h : Hart) (p : Privates) → length image.code ≤ 2 ^ 23 → Lessens h (step image h p)
step_lessens image h p small = on (word_at image.code h.pc) refl where
  on : (o : Option ℕ) → word_at image.code h.pc ≡ o → Lessens h (performed_if_any o image h p)
  on None e = tt
  on (Some w) e = perform_lessens w image h p (fetched_near image.code h.pc w small e)

-- ---- stretches

-- what is asked after a move, with so many instructions left
abbrev pub after : Contents → ℕ → Move → Asked Hart Privates
after image most (Goes next q) = asked_within image most next q
after image most (Asks act waiting q) = asked image act waiting q

pub with_more : (image : Contents) (most : ℕ) (h : Hart) (p : Privates) → asked_within image (suc most) h p ≡ after image most (step image h p)
with_more image most h p = on (step image h p) where
  on : (m : Move) → elim m as (λ x. Asked Hart Privates) [ Goes next q ↦ asked_within image most next q | Asks act waiting q ↦ asked image act waiting q ] ≡ after image most m
  on (Goes next q) = refl
  on (Asks act waiting q) = refl

enough : (image : Contents) → length image.code ≤ 2 ^ 23 → (f g : ℕ) (h : Hart) (p : Privates) → left h ≤ f → left h ≤ g → h.pc < 2 ^ 32
    → asked_within image f h p ≡ asked_within image g h p
enough image small zero g h p a b near = absurd (omega arith)
enough image small (suc f) zero h p a b near = absurd (omega arith)
enough image small (suc f) (suc g) h p a b near =
    with_more image f h p ∙ on (λ next q c d e. enough image small f g next q c d e) (step image h p) (step_lessens image h p small)
    ∙ sym (with_more image g h p) where
      on : ((next : Hart) (q : Privates) → left next ≤ f → left next ≤ g → next.pc < 2 ^ 32 → asked_within image f next q ≡ asked_within image g next q)
          → (m : Move) → Lessens h m
          → after image f m ≡ after image g m
      on again (Goes next q) less = again next q (omega (arith, less.0)) (omega (arith, less.0)) less.1
      on again (Asks act waiting q) less = refl

pub never_comes_to_bound : (image : Contents) → length image.code ≤ 2 ^ 23 → NeverComesToBound image
never_comes_to_bound image small h p more near jumps work =
    let first : (most_jumps - h.jumps) * 2 ^ 32 ≡ most_jumps * 2 ^ 32 = ap (λ (n : ℕ). (most_jumps - n) * 2 ^ 32) jumps in
    enough image small (longest_stretch + more) (longest_stretch - h.work) h p (omega arith) (omega arith) near
