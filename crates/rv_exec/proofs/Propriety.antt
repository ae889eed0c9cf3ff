-- Harts whose numbers have 32 bits stay so.
use Rattle.std.proofs.Common.{◌≡◌, ℕ, zero, suc, ◌+◌, ◌-◌, ◌*◌, ◌/◌, ◌%◌, ◌^◌, ◌<◌, ◌≤◌, ◌==◌, nat_le, nat_lt, Bool, true, false, if◌then◌else◌, List, [], ◌∷◌, ◌++◌, length, Option, Some, None, Result, Ok, Err, refl, subst, arith, lit<, lit≤, pos, negsuc}
use Rattle.std.specs.Prelude.{option_map}
use Rattle.std.specs.List.{AllByRecursion}
use Rattle.std.proofs.Math.Nat.{mod-lt, mod-le, div-le_self}
use Rattle.std.proofs.lemmas.Bool.Decides.{nat_tests}
use Rattle.al_base.specs.declared.trap.Trap.{Trap}
use Rattle.al_base.specs.declared.trap.Trap.TheVariants.{Print as TooLong}
use Rattle.al_event.specs.declared.act.Act.{Act}
use Rattle.al_event.specs.declared.act.Act.TheVariants.{Load as LoadAct, Store as StoreAct, Trap as Traps}
use Rattle.al_event.specs.declared.act.Start.{Start}
use Rattle.al_world.specs.Alike.{starts_in}
use Rattle.al_world.specs.Answers.{IsProper}
use Rattle.rv_isa.specs.Fields.{bits, signed}
use Rattle.rv_isa.specs.Table.{Row, table, has, read_by}
use Rattle.rv_isa.specs.declared.instr.Instr.{Instr}
use Rattle.rv_isa.specs.declared.instr.Instr.TheVariants.{Upper, Immediate}
use Rattle.rv_isa.specs.declared.instr.LoadOp.{LoadOp}
use Rattle.rv_isa.specs.declared.instr.LoadOp.TheVariants.{Lb, Lh, Lw, Lbu, Lhu}
use Rattle.rv_isa.specs.declared.instr.StoreOp.{StoreOp}
use Rattle.rv_exec.specs.declared.state.Waits.{Waits}
use Rattle.rv_exec.specs.declared.windows.Window.{Window}
use Rattle.rv_exec.specs.declared.windows.Window.TheVariants.{Stack, Globals, Shared}
use Rattle.rv_exec.specs.Hart.{Hart, put, register, moved, with_register}
use Rattle.rv_exec.specs.Words.{word, load_size, store_size}
use Rattle.rv_exec.specs.Windows.{stack_offset, globals_offset}
use Rattle.rv_exec.specs.Calls.{Privates, Move, Goes, Asks, traps, illegal, asks_if_any, composed, longest_text}
use Rattle.rv_exec.specs.Step.{set, jumps, most_jumps, read_unit, loads, loads_at, stores_stack, stores_globals, stores_at}
use Rattle.rv_exec.specs.Proper.{AreBelow, IsHart, AnswersWords}
use Rattle.rv_exec.proofs.Values.{mod32, extended_below}

-- ---- operands

-- operands that words are made of have 32 bits
abbrev pub Operands : Instr → Type 0
Operands (Upper op rd imm) = imm < 2 ^ 20
Operands (Immediate op rd rs1 imm) = word imm < 2 ^ 32
Operands _ = Unit {0}

upper_fits : (w : ℕ) → bits 31 12 w < 2 ^ 20
upper_fits w = mod-lt (w / 2 ^ 12) (lit< tt)

imm_fits : (field : ℕ) → word (signed 12 field) < 2 ^ 32
imm_fits field = on (nat_lt field (2 ^ (12 - 1))) refl where
  on : (b : Bool) → nat_lt field (2 ^ (12 - 1)) ≡ b → word (if b then pos field else negsuc (2 ^ 12 - 1 - field)) < 2 ^ 32
  on true e = let less : field < 2 ^ 11 = grind (arith, nat_tests, e) in omega arith
  on false e = omega arith

pub table_fits : AllByRecursion (λ (row : Row). (w : ℕ) → Operands (row.instruction w)) table
table_fits = (
  (λ w. upper_fits w),
  (
    (λ w. upper_fits w),
    (
      (λ w. tt),
      (
        (λ w. tt),
        (
          (λ w. tt),
          (
            (λ w. tt),
            (
              (λ w. tt),
              (
                (λ w. tt),
                (
                  (λ w. tt),
                  (
                    (λ w. tt),
                    (
                      (λ w. tt),
                      (
                        (λ w. tt),
                        (
                          (λ w. tt),
                          (
                            (λ w. tt),
                            (
                              (λ w. tt),
                              (
                                (λ w. tt),
                                (
                                  (λ w. tt),
                                  (
                                    (λ w. tt),
                                    (
                                      (λ w. imm_fits (bits 31 20 w)),
                                      (
                                        (λ w. imm_fits (bits 31 20 w)),
                                        (
                                          (λ w. imm_fits (bits 31 20 w)),
                                          (
                                            (λ w. imm_fits (bits 31 20 w)),
                                            (
                                              (λ w. imm_fits (bits 31 20 w)),
                                              (
                                                (λ w. imm_fits (bits 31 20 w)),
                                                (
                                                  (λ w. tt),
                                                  (
                                                    (λ w. tt),
                                                    (
                                                      (λ w. tt),
                                                      (
                                                        (λ w. tt),
                                                        (
                                                          (λ w. tt),
                                                          (
                                                            (λ w. tt),
                                                            (
                                                              (λ w. tt),
                                                              (
                                                                (λ w. tt),
                                                                (
                                                                  (λ w. tt),
                                                                  (
                                                                    (λ w. tt),
                                                                    (
                                                                      (λ w. tt),
                                                                      (
                                                                        (λ w. tt),
                                                                        (
                                                                          (λ w. tt),
                                                                          (
                                                                            (λ w. tt),
                                                                            (
                                                                              (λ w. tt),
                                                                              (
                                                                                (λ w. tt),
                                                                                (
                                                                                  (λ w. tt),
                                                                                  (
                                                                                    (λ w. tt),
                                                                                    (
                                                                                      (λ w. tt),
                                                                                      (
                                                                                        (λ w. tt),
                                                                                        (
                                                                                          (λ w. tt),
                                                                                          (
                                                                                            (λ w. tt),
                                                                                            (
                                                                                              (λ w. tt),
                                                                                              (
                                                                                                (λ w. tt),
                                                                                                tt,
                                                                                              ),
                                                                                            ),
                                                                                          ),
                                                                                        ),
                                                                                      ),
                                                                                    ),
                                                                                  ),
                                                                                ),
                                                                              ),
                                                                            ),
                                                                          ),
                                                                        ),
                                                                      ),
                                                                    ),
                                                                  ),
                                                                ),
                                                              ),
                                                            ),
                                                          ),
                                                        ),
                                                      ),
                                                    ),
                                                  ),
                                                ),
                                              ),
                                            ),
                                          ),
                                        ),
                                      ),
                                    ),
                                  ),
                                ),
                              ),
                            ),
                          ),
                        ),
                      ),
                    ),
                  ),
                ),
              ),
            ),
          ),
        ),
      ),
    ),
  ),
)

pub read_fits : (rows : List Row) → AllByRecursion (λ (row : Row). (w : ℕ) → Operands (row.instruction w)) rows → (w : ℕ) (i : Instr) → read_by rows w ≡ Some i → Operands i
read_fits [] each w i e = absurd (cc)
read_fits (row ∷ rows) each w i e = on (has row w) (read_fits rows each.1 w i) e where
  on : (b : Bool) → (read_by rows w ≡ Some i → Operands i) → (if b then Some (row.instruction w) else read_by rows w) ≡ Some i → Operands i
  on true rest f = let is : row.instruction w ≡ i = cc in subst Operands is (each.0 w)
  on false rest f = rest f

-- ---- registers and words

pub below_put : (f : ℕ → ℕ) (at value : ℕ) → AreBelow f → value < 2 ^ 32 → AreBelow (put f at value)
below_put f at value all small n = on (n == at) where
  on : (b : Bool) → (if b then value else f n) < 2 ^ 32
  on true = small
  on false = all n

pub register_below : (h : Hart) → IsHart h → (n : ℕ) → register h n < 2 ^ 32
register_below h is zero = lit< tt
register_below h is (suc n) = is.registers (suc n)

pub set_register : (h : Hart) → IsHart h → (rd value pc : ℕ) → value < 2 ^ 32 → IsHart (record (with_register rd value h) { pc = pc })
set_register h is rd value pc small = record { registers = below_put h.registers rd value is.registers small; stack = is.stack }

-- ---- moves

-- what is asked is proper
pub record IsAskedProperly (act : Act) : Type 0 where
  pub proper : IsProper act
  pub answers : AnswersWords act
  pub starts : AllByRecursion (λ (start : Start). AllByRecursion (λ w. w < 2 ^ 32) start.words) (starts_in act)

abbrev pub StaysWords : Move → Type 0
StaysWords (Goes next q) = IsHart next × AreBelow q
StaysWords (Asks act waiting q) = IsAskedProperly act × IsHart waiting × AreBelow q

abbrev pub Holds : {X : Type 0} → (X → Type 0) → Option X → Type 0
Holds P None = Unit {0}
Holds P (Some x) = P x

pub map_holds : {X Y : Type 0} (P : X → Type 0) (Q : Y → Type 0) (f : X → Y) → ((x : X) → P x → Q (f x)) → (o : Option X) → Holds P o → Holds Q (option_map f o)
map_holds P Q f each None h = tt
map_holds P Q f each (Some x) h = each x h

pub plain : (act : Act) → IsProper act → AnswersWords act → AllByRecursion (λ (start : Start). AllByRecursion (λ w. w < 2 ^ 32) start.words) (starts_in act) → IsAskedProperly act
plain act a b c = record { proper = a; answers = b; starts = c }

module _ (h : Hart) (is : IsHart h) (p : Privates) (all : AreBelow p) where
  pub waits_so : (waits : Waits) → IsHart (record h { waits = waits })
  waits_so waits = record { registers = is.registers; stack = is.stack }

  pub trapping : (trap : Trap) → StaysWords (traps trap h p)
  trapping trap = (plain (Traps trap) tt tt tt, record { registers = is.registers; stack = is.stack }, all)

  pub asking_any : (waits : Waits) (o : Option Act) → Holds IsAskedProperly o → StaysWords (asks_if_any waits o h p)
  asking_any waits None proper = trapping _
  asking_any waits (Some act) proper = (proper, waits_so waits, all)

  pub composing : (piece : List ℕ) → StaysWords (composed piece h p)
  composing piece = on (nat_le (length h.text + length piece) longest_text) where
    on : (b : Bool) → StaysWords (if b then Goes (moved (record h { text = h.text ++ piece })) p else traps TooLong h p)
    on true = (record { registers = is.registers; stack = is.stack }, all)
    on false = trapping TooLong

  pub jumping : (is_counted : Bool) (target : ℕ) (next : Hart) → IsHart next → StaysWords (jumps is_counted target next h p)
  jumping false target next good = (record { registers = good.registers; stack = good.stack }, all)
  jumping true target next good = on (nat_le most_jumps h.jumps) where
    on : (b : Bool) → StaysWords (if b then illegal h p else Goes (record next { pc = target; jumps = h.jumps + 1 }) p)
    on true = trapping _
    on false = (record { registers = good.registers; stack = good.stack }, all)

  read_below : (f : ℕ → ℕ) (size offset : ℕ) → AreBelow f → read_unit f size offset < 2 ^ 32
  read_below f size offset good =
      omega (arith, mod-le (f (offset / 4) / 2 ^ (8 * (offset % 4))) (2 ^ (8 * size)), div-le_self (f (offset / 4)) (2 ^ (8 * (offset % 4))), good (offset / 4))

  loading : (op : LoadOp) (rd : ℕ) (f : ℕ → ℕ) → AreBelow f → (o : Result ℕ Trap) → StaysWords (loads op rd f o h p)
  loading op rd f good (Ok offset) = (set_register h is rd _ (h.pc + 4) (extended_below op _ (read_below f (load_size op) offset good)), all)
  loading op rd f good (Err trap) = trapping trap

  size_few : (op : LoadOp) → load_size op ≤ 4
  size_few Lb = lit≤ tt
  size_few Lh = lit≤ tt
  size_few Lw = lit≤ tt
  size_few Lbu = lit≤ tt
  size_few Lhu = lit≤ tt

  pub loading_at : (w : Window) (op : LoadOp) (rd address bytes : ℕ) → StaysWords (loads_at w op rd address bytes h p)
  loading_at Stack op rd address bytes = loading op rd h.stack is.stack (stack_offset (load_size op) address)
  loading_at Globals op rd address bytes = loading op rd p all (globals_offset bytes (load_size op) address)
  loading_at Shared op rd address bytes = (plain (LoadAct address (load_size op)) tt (size_few op) tt, waits_so _, all)

  storing_stack : (op : StoreOp) (value : ℕ) (o : Result ℕ Trap) → StaysWords (stores_stack op value o h p)
  storing_stack op value (Ok offset) = (record { registers = is.registers; stack = below_put h.stack (offset / 4) _ is.stack (mod32 _) }, all)
  storing_stack op value (Err trap) = trapping trap

  storing_globals : (op : StoreOp) (value : ℕ) (o : Result ℕ Trap) → StaysWords (stores_globals op value o h p)
  storing_globals op value (Ok offset) = (record { registers = is.registers; stack = is.stack }, below_put p (offset / 4) _ all (mod32 _))
  storing_globals op value (Err trap) = trapping trap

  pub storing_at : (w : Window) (op : StoreOp) (value address bytes : ℕ) → StaysWords (stores_at w op value address bytes h p)
  storing_at Stack op value address bytes = storing_stack op value (stack_offset (store_size op) address)
  storing_at Globals op value address bytes = storing_globals op value (globals_offset bytes (store_size op) address)
  storing_at Shared op value address bytes = (plain (StoreAct address (store_size op) (value % 2 ^ (8 * store_size op))) tt tt tt, waits_so _, all)

  pub setting : (rd value : ℕ) → value < 2 ^ 32 → StaysWords (set rd value h p)
  setting rd value small = (set_register h is rd value (h.pc + 4) small, all)
