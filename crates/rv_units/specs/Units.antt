-- Where harts stand that go through the units of a value.
use Rattle.std.specs.Prelude.{◌≡◌, ℕ, zero, suc, ◌+◌, ◌-◌, ◌*◌, nat_le, nat_lt, Bool, true, false, List, [], ◌∷◌, length, Some}
use Rattle.al_meaning.specs.Words.{sum}
use Rattle.al_ir.specs.declared.ir.Run.{Run}
use Rattle.al_ir.specs.Control.{Slots}
use Rattle.rv_isa.specs.declared.addresses.TheConstants.{STACK_START}
use Rattle.rv_exec.specs.Hart.{Hart}
use Rattle.rv_code.specs.Jumps.{place}
use Rattle.rv_form.specs.Units.{Way, Clears, frame_address, units_code, run_code}

-- `a` is the address of the value; the words of its units are those of the frame from word `k` on, and the frame begins at word `sp`
-- of the stack.

-- the words of a loop before its rounds
abbrev pub head_words : (k : ℕ) → ℕ
head_words k = length (frame_address 8 k) + 2

-- words of the frame are cleared by no way
abbrev pub PointsTo : Way → (register cell : ℕ) → Type 0
PointsTo Clears register cell = Unit {0}
PointsTo _ register cell = register ≡ STACK_START + 4 * cell

-- at the start of a round, so many units of the run are done
pub record Looping (way : Way) (r : Run) (at k sp a n : ℕ) (h : Hart) : Type 0 where
  pub there : h.pc ≡ place (at + head_words k)
  pub unit : h.registers 12 ≡ sum a (r.at + n * r.size)
  pub last : h.registers 13 ≡ sum a (r.at + r.count * r.size)
  pub word : PointsTo way (h.registers 8) (sp + k + n)

-- in the loop of a run, of which so many units are done, but not all
abbrev pub InLoop : Way → Run → (at k sp a n : ℕ) → Hart → Type 0
InLoop way r at k sp a zero h = h.pc ≡ place at
InLoop way r at k sp a (suc n) h = Looping way r at k sp a (suc n) h

abbrev pub WhereElse : Bool → (then other : Type 0) → Type 0
WhereElse true A B = A
WhereElse false A B = B

-- in the code of a run
abbrev pub InRun : Way → Run → (at k sp a n : ℕ) → Hart → Type 0
InRun way r at k sp a n h =
    WhereElse (nat_le r.count 4) (h.pc ≡ place (at + length (units_code way r.size r.at k n))) (InLoop way r at k sp a n h)

-- in the code of several runs, of which so many units are done
abbrev pub InRuns : Way → List Run → (at k sp a n : ℕ) → Hart → Type 0
InRuns way [] at k sp a n h = (n ≡ 0) × (h.pc ≡ place at)
InRuns way (r ∷ runs) at k sp a n h =
    WhereElse (nat_lt n r.count) (InRun way r at k sp a n h)
    (InRuns way runs (at + length (run_code way r k)) (k + r.count) sp a (n - r.count) h)

-- before the next unit of a value
pub record AtUnit (way : Way) (runs : List Run) (at k sp a n : ℕ) (h : Hart) : Type 0 where
  pub address : h.registers 10 ≡ a
  pub inside : InRuns way runs at k sp a n h

-- within an operation on the units of a value: `slot` has the address from which the value stands so many bytes further on
abbrev pub AtValue : Way → List Run → (at k slot offset n : ℕ) → Slots → (sp : ℕ) → Hart → Type 0
AtValue way runs at k slot offset n slots sp h = (x : ℕ) × (slots slot ≡ Some x) × AtUnit way runs at k sp (sum x offset) n h
