-- What calls and instructions ask of harts whose numbers have 32 bits.
use Rattle.std.proofs.Common.{◌≡◌, ℕ, zero, suc, ◌+◌, ◌*◌, ◌%◌, ◌^◌, ◌<◌, ◌≤◌, ◌==◌, nat_le, Bool, true, false, ◌&&◌, if◌then◌else◌, List, [], ◌∷◌, length, slice_get, Option, Some, None, refl, ap, arith, ℤ}
use Rattle.std.specs.Prelude.{option_map, option_and_then}
use Rattle.std.specs.List.{AllByRecursion}
use Rattle.std.specs.Int.{cast_signed, w32}
use Rattle.std.proofs.lemmas.Bool.{and_parts}
use Rattle.std.proofs.lemmas.Bool.Decides.{nat_tests}
use Rattle.al_base.specs.Trap.{trap_of}
use Rattle.al_event.specs.declared.act.Block.{Block}
use Rattle.al_base.specs.declared.trap.Trap.{Trap}
use Rattle.al_event.specs.declared.act.Act.{Act}
use Rattle.al_event.specs.declared.act.Act.TheVariants.{Alloc, Free, NewChan, FreeChan, CanRecv, CanSend, Talk, Proc, Task, Par, Print, Terminate, Pause, Trap as Traps, End}
use Rattle.al_event.specs.declared.act.Branch.{Branch}
use Rattle.al_event.specs.declared.act.Start.{Start}
use Rattle.al_world.specs.Answers.{AreWords, SendsWords}
use Rattle.rv_isa.specs.Table.{table, instruction_of}
use Rattle.rv_isa.specs.declared.image.Contents.{Contents}
use Rattle.rv_isa.specs.declared.instr.Instr.{Instr}
use Rattle.rv_isa.specs.declared.instr.Instr.TheVariants.{Upper, Jal, Jalr, Branch as IsBranch, Load, Store, Immediate, Shift, Register, Fence, Ecall, Ebreak}
use Rattle.rv_isa.specs.declared.instr.UpperOp.TheVariants.{Lui, Auipc}
use Rattle.rv_exec.specs.declared.state.Waits.{Waits}
use Rattle.rv_exec.specs.declared.state.Waits.TheVariants.{Done, Word, Talk as TalkWaits}
use Rattle.rv_exec.specs.Hart.{Hart, register, moved, with_register}
use Rattle.rv_exec.specs.Words.{word, sum_of, computed, computed_immediate, shifted, is_taken}
use Rattle.rv_exec.specs.Windows.{window_of, words_from, stack_place, stack_words}
use Rattle.rv_exec.specs.Calls.{Privates, Move, Goes, asks, decimal_text, hexadecimal_text, x10, x11, x12, block_of, alloc_act, free_act, channel_act, branch_of, branch_at, also, records_from, records_at, talk_branches, talk_act, has_function, start_of, start_at, starts_from, par_act, calls, called, called_if_any}
use Rattle.rv_exec.specs.Step.{step, performed, performed_if_any, executed, executed_if_any, jumps_by, address_of, word_at}
use Rattle.rv_exec.specs.Proper.{AreBelow, IsHart}
use Rattle.rv_exec.proofs.Values.{mod32, computed_below, immediate_below, shifted_below}
use Rattle.rv_exec.proofs.Ending.{fetched_near}
use Rattle.rv_exec.proofs.Propriety.{Operands, table_fits, read_fits, register_below, set_register, Holds, map_holds, IsAskedProperly, StaysWords, plain, waits_so, trapping, asking_any, composing, jumping, loading_at, storing_at, setting}

-- ---- words and records of the stack

words_are : (f : ℕ → ℕ) (first count : ℕ) → AreBelow f → AreWords count (words_from f first count)
words_are f first zero good = record { count = refl; each = tt }
words_are f first (suc count) good =
    let rest = words_are f (first + 1) count good in
    record { count = ap (λ n. suc n) rest.count; each = (good first, rest.each) }

stack_are : (h : Hart) → IsHart h → (address count : ℕ) → Holds (AreWords count) (stack_words h address count)
stack_are h is address count = on (stack_place address count) where
  on : (o : Option ℕ) → Holds (AreWords count) (option_map (λ first. words_from h.stack first count) o)
  on None = tt
  on (Some first) = words_are h.stack first count is.stack

abbrev Sends : Branch → Type 0
Sends b = SendsWords b.words b.send

abbrev Starts : Start → Type 0
Starts start = AllByRecursion (λ w. w < 2 ^ 32) start.words

branch_sends : (h : Hart) → IsHart h → (chan direction address count : ℕ) → Holds Sends (branch_of h chan direction address count)
branch_sends h is chan direction address count = on (nat_le count 1024) (direction == 0) (direction == 1) where
  receives : (o : Option ℕ) → Holds Sends (option_map (λ (place : ℕ). record { chan = chan; words = count; send = None }) o)
  receives None = tt
  receives (Some place) = tt

  sends : Holds Sends (option_map (λ (words : List ℕ). record { chan = chan; words = count; send = Some words }) (stack_words h address count))
  sends = map_holds (AreWords count) Sends (λ (words : List ℕ). record { chan = chan; words = count; send = Some words }) (λ words good. good) (stack_words h address count) (stack_are h is address count)

  on : (few receive send : Bool) → Holds Sends (if few
      then (if receive
      then option_map (λ (place : ℕ). record { chan = chan; words = count; send = None }) (stack_place address count)
      else (if send
      then option_map (λ (words : List ℕ). record { chan = chan; words = count; send = Some words }) (stack_words h address count)
      else None))
      else None)
  on false receive send = tt
  on true true send = receives (stack_place address count)
  on true false true = sends
  on true false false = tt

start_starts : (image : Contents) (h : Hart) → IsHart h → (function address count : ℕ) → Holds Starts (start_of image h function address count)
start_starts image h is function address count = on (has_function image function count) where
  on : (b : Bool) → Holds Starts (if b then option_map (λ (words : List ℕ). record { code = function; words = words }) (stack_words h address count) else None)
  on true =
      map_holds (AreWords count) Starts (λ (words : List ℕ). record { code = function; words = words }) (λ words good. good.each) (stack_words h address count) (stack_are h is address count)
  on false = tt

abbrev Many : {X : Type 0} → (X → Type 0) → ℕ → List X → Type 0
Many P count xs = AllByRecursion P xs × (length xs ≡ count)

also_holds : {X : Type 0} (P : X → Type 0) (count : ℕ) (o : Option X) (rest : Option (List X)) → Holds P o → Holds (Many P count) rest → Holds (Many P (suc count)) (also o rest)
also_holds P count None None a b = tt
also_holds P count None (Some xs) a b = tt
also_holds P count (Some x) None a b = tt
also_holds P count (Some x) (Some xs) a b = ((a, b.0), ap (λ n. suc n) b.1)

records_hold : {X : Type 0} (P : X → Type 0) (record_at : ℕ → Option X) → ((k : ℕ) → Holds P (record_at k)) → (each first count : ℕ) → Holds (Many P count) (records_from record_at each first count)
records_hold P record_at good each first zero = (tt, refl)
records_hold P record_at good each first (suc count) =
    also_holds P count (record_at first) (records_from record_at each (first + each) count) (good first) (records_hold P record_at good each (first + each) count)

abbrev Few : {X : Type 0} → (X → Type 0) → List X → Type 0
Few P xs = AllByRecursion P xs × (length xs ≤ 64)

-- 1 to 64 records at an address
all_records : {X : Type 0} (P : X → Type 0) (record_at : ℕ → Option X) → ((k : ℕ) → Holds P (record_at k)) → (each address count : ℕ)
    → Holds (Few P) (option_and_then (λ first. records_from record_at each first count) (records_at each address count))
all_records {X} P record_at good each address count = on (nat_le 1 count && nat_le count 64) refl where
  few : (nat_le 1 count && nat_le count 64) ≡ true → count ≤ 64
  few e = let second = (and_parts (nat_le 1 count) (nat_le count 64) e).1 in grind (arith, nat_tests, second)

  fewer : (count ≤ 64) → (o : Option (List X)) → Holds (Many P count) o → Holds (Few P) o
  fewer c None m = tt
  fewer c (Some xs) m = (m.0, omega (arith, m.1))

  at : (count ≤ 64) → (o : Option ℕ) → Holds (Few P) (option_and_then (λ first. records_from record_at each first count) o)
  at c None = tt
  at c (Some first) = fewer c (records_from record_at each first count) (records_hold P record_at good each first count)

  on : (b : Bool) → (nat_le 1 count && nat_le count 64) ≡ b → Holds (Few P) (option_and_then (λ first. records_from record_at each first count) (if b then stack_place address (each * count) else None))
  on true e = at (few e) (stack_place address (each * count))
  on false e = tt

-- ---- calls

alloc_proper : (bytes kind : ℕ) → Holds IsAskedProperly (alloc_act bytes kind)
alloc_proper bytes kind = on (bytes == 0) (block_of kind) where
  on : (b : Bool) (o : Option Block) → Holds IsAskedProperly (if b then None else option_map (λ block. Alloc bytes block) o)
  on true o = tt
  on false None = tt
  on false (Some block) = plain (Alloc bytes block) tt tt tt

free_proper : (at kind : ℕ) → Holds IsAskedProperly (free_act at kind)
free_proper at kind = on (block_of kind) where
  on : (o : Option Block) → Holds IsAskedProperly (option_map (λ block. Free at block) o)
  on None = tt
  on (Some block) = plain (Free at block) tt tt tt

channel_proper : (capacity words : ℕ) → Holds IsAskedProperly (channel_act capacity words)
channel_proper capacity words = on (nat_le capacity 4096 && nat_le words 1024) where
  on : (b : Bool) → Holds IsAskedProperly (if b then Some (NewChan capacity words) else None)
  on true = plain (NewChan capacity words) tt tt tt
  on false = tt

trap_proper : (n : ℕ) → Holds IsAskedProperly (option_map (λ trap. Traps trap) (trap_of n))
trap_proper n = on (trap_of n) where
  on : (o : Option Trap) → Holds IsAskedProperly (option_map (λ trap. Traps trap) o)
  on None = tt
  on (Some trap) = plain (Traps trap) tt tt tt

talk_proper : (h : Hart) → IsHart h → Holds IsAskedProperly (talk_act h)
talk_proper h is =
    map_holds (Few Sends) IsAskedProperly (λ branches. Talk branches) (λ branches good. plain (Talk branches) good.0 good.1 tt) (talk_branches h)
    (all_records Sends (branch_at h) (λ k. branch_sends h is (h.stack k) (h.stack (k + 1)) (h.stack (k + 2)) (h.stack (k + 3))) 4 (x10 h) (x11 h))

par_proper : (image : Contents) (h : Hart) → IsHart h → Holds IsAskedProperly (par_act image h)
par_proper image h is =
    map_holds (Few Starts) IsAskedProperly (λ starts. Par starts) (λ starts good. plain (Par starts) tt tt good.0)
    (option_and_then (λ first. starts_from image h first (x11 h)) (records_at 3 (x10 h) (x11 h)))
    (all_records Starts (start_at image h) (λ k. start_starts image h is (h.stack k) (h.stack (k + 1)) (h.stack (k + 2))) 3 (x10 h) (x11 h))

abbrev CallStays : (Contents → Hart → Privates → Move) → Type 0
CallStays call = (image : Contents) (h : Hart) (p : Privates) → IsHart h → AreBelow p → StaysWords (call image h p)

asking : (waits : Waits) (act : Act) → IsAskedProperly act → (h : Hart) (p : Privates) → IsHart h → AreBelow p → StaysWords (asks waits act h p)
asking waits act proper h p is all = (proper, waits_so h is p all waits, all)

calls_stay : AllByRecursion CallStays calls
calls_stay = (
  (λ image h p is all. asking Done End (plain End tt tt tt) h p is all),
  (
    (λ image h p is all. asking Done Pause (plain Pause tt tt tt) h p is all),
    (
      (λ image h p is all. asking_any h is p all Done (option_map (λ trap. Traps trap) (trap_of (x10 h))) (trap_proper (x10 h))),
      (
        (λ image h p is all. asking_any h is p all Word (alloc_act (x10 h) (x11 h)) (alloc_proper (x10 h) (x11 h))),
        (
          (λ image h p is all. asking_any h is p all Done (free_act (x10 h) (x11 h)) (free_proper (x10 h) (x11 h))),
          (
            (λ image h p is all. asking_any h is p all Word (channel_act (x10 h) (x11 h)) (channel_proper (x10 h) (x11 h))),
            (
              (λ image h p is all. asking Done (FreeChan (x10 h)) (plain (FreeChan (x10 h)) tt tt tt) h p is all),
              (
                (λ image h p is all. asking Word (CanRecv (x10 h)) (plain (CanRecv (x10 h)) tt tt tt) h p is all),
                (
                  (λ image h p is all. asking Word (CanSend (x10 h)) (plain (CanSend (x10 h)) tt tt tt) h p is all),
                  (
                    (λ image h p is all. asking_any h is p all TalkWaits (talk_act h) (talk_proper h is)),
                    (
                      (λ image h p is all. asking_any h is p all Done (option_map (λ start. Proc start) (start_of image h (x10 h) (x11 h) (x12 h)))
                          (map_holds Starts IsAskedProperly (λ start. Proc start) (λ start good. plain (Proc start) tt tt (good, tt)) (start_of image h (x10 h) (x11 h) (x12 h)) (start_starts image h is (x10 h) (x11 h) (x12 h)))),
                      (
                        (λ image h p is all. asking_any h is p all Done (option_map (λ start. Task start) (start_of image h (x10 h) (x11 h) (x12 h)))
                            (map_holds Starts IsAskedProperly (λ start. Task start) (λ start good. plain (Task start) tt tt (good, tt)) (start_of image h (x10 h) (x11 h) (x12 h)) (start_starts image h is (x10 h) (x11 h) (x12 h)))),
                        (
                          (λ image h p is all. asking_any h is p all Done (par_act image h) (par_proper image h is)),
                          (
                            (λ image h p is all. (plain (Print h.text) tt tt tt, record { registers = is.registers; stack = is.stack }, all)),
                            (
                              (λ image h p is all. asking Done (Terminate (cast_signed w32 (x10 h))) (plain (Terminate (cast_signed w32 (x10 h))) tt tt tt) h p is all),
                              (
                                (λ image h p is all. composing h is p all (x10 h % 256 ∷ [])),
                                (
                                  (λ image h p is all. composing h is p all (decimal_text (x10 h) (x11 h) (x12 h))),
                                  (
                                    (λ image h p is all. composing h is p all (hexadecimal_text (x10 h) (x11 h))),
                                    tt,
                                  ),
                                ),
                              ),
                            ),
                          ),
                        ),
                      ),
                    ),
                  ),
                ),
              ),
            ),
          ),
        ),
      ),
    ),
  ),
)

one_stays : (every : List (Contents → Hart → Privates → Move)) → AllByRecursion CallStays every → (n : ℕ) (image : Contents) (h : Hart) (p : Privates)
    → IsHart h → AreBelow p → StaysWords (called_if_any (slice_get every n) image h p)
one_stays [] each n image h p is all = trapping h is p all _
one_stays (call ∷ every) each zero image h p is all = each.0 image h p is all
one_stays (call ∷ every) each (suc n) image h p is all = one_stays every each.1 n image h p is all

call_stays : (number : ℕ) (image : Contents) (h : Hart) (p : Privates) → IsHart h → AreBelow p → StaysWords (called number image h p)
call_stays zero image h p is all = trapping h is p all _
call_stays (suc n) image h p is all = one_stays calls calls_stay n image h p is all

-- ---- instructions

module _ (image : Contents) (h : Hart) (p : Privates) (is : IsHart h) (all : AreBelow p) (near : h.pc + 4 < 2 ^ 32) where
  linked : (rd : ℕ) → IsHart (with_register rd (h.pc + 4) h)
  linked rd = set_register h is rd (h.pc + 4) h.pc near

  branching : (b : Bool) (imm : ℤ) → StaysWords (if b then jumps_by imm h h p else Goes (moved h) p)
  branching true imm = jumping h is p all _ _ h is
  branching false imm = (record { registers = is.registers; stack = is.stack }, all)

  instr_stays : (i : Instr) → Operands i → StaysWords (executed i image h p)
  instr_stays (Upper Lui rd imm) fits = setting h is p all rd (imm * 2 ^ 12) (omega (arith, fits))
  instr_stays (Upper Auipc rd imm) fits = setting h is p all rd (sum_of h.pc (imm * 2 ^ 12)) (mod32 _)
  instr_stays (Jal rd imm) fits = jumping h is p all _ _ (with_register rd (h.pc + 4) h) (linked rd)
  instr_stays (Jalr rd rs1 imm) fits = jumping h is p all true _ (with_register rd (h.pc + 4) h) (linked rd)
  instr_stays (IsBranch op rs1 rs2 imm) fits = branching (is_taken op (register h rs1) (register h rs2)) imm
  instr_stays (Load op rd rs1 imm) fits = loading_at h is p all (window_of rs1) op rd (address_of h rs1 imm) image.privates
  instr_stays (Store op rs1 rs2 imm) fits = storing_at h is p all (window_of rs1) op (register h rs2) (address_of h rs1 imm) image.privates
  instr_stays (Immediate op rd rs1 imm) fits = setting h is p all rd (computed_immediate op (register h rs1) (word imm)) (immediate_below (register h rs1) (word imm) (register_below h is rs1) fits op)
  instr_stays (Shift op rd rs1 amount) fits = setting h is p all rd (shifted op (register h rs1) amount) (shifted_below op (register h rs1) amount (register_below h is rs1))
  instr_stays (Register op rd rs1 rs2) fits = setting h is p all rd (computed op (register h rs1) (register h rs2)) (computed_below (register h rs1) (register h rs2) (register_below h is rs1) (register_below h is rs2) op)
  instr_stays (Fence rd rs1 imm) fits = (record { registers = is.registers; stack = is.stack }, all)
  instr_stays Ecall fits = call_stays (register h 17) image h p is all
  instr_stays Ebreak fits = trapping h is p all _

  any_stays : (o : Option Instr) → ((i : Instr) → o ≡ Some i → Operands i) → StaysWords (executed_if_any o image h p)
  any_stays None fits = trapping h is p all _
  any_stays (Some i) fits = instr_stays i (fits i refl)

perform_stays : (w : ℕ) (image : Contents) (h : Hart) (p : Privates) → IsHart h → AreBelow p → h.pc + 4 < 2 ^ 32 → StaysWords (performed w image h p)
unfolding performed
perform_stays w image h p is all near =
    any_stays image (record h { work = h.work + 1 }) p (record { registers = is.registers; stack = is.stack }) all near (instruction_of w) (read_fits table table_fits w)

pub step_stays : (image : Contents) (h : Hart) (p : Privates) → length image.code ≤ 2 ^ 23 → IsHart h → AreBelow p → StaysWords (step image h p)
step_stays image h p small is all = on (word_at image.code h.pc) refl where
  on : (o : Option ℕ) → word_at image.code h.pc ≡ o → StaysWords (performed_if_any o image h p)
  on None e = trapping h is p all _
  on (Some w) e = perform_stays w image h p is all (fetched_near image.code h.pc w small e)
