-- One round of marks.
use Rattle.std.specs.Prelude.{◌≡◌, ℕ, ◌+◌, ◌<◌, Bool, true, false, if◌then◌else◌, List, length, slice_set}
use Rattle.al_ir.specs.declared.ir.Operation.{Operation}
use Rattle.al_ir.specs.declared.ir.Ir.{Ir}
use Rattle.al_ir.specs.declared.op.Op.{Op}
use Rattle.rv_regs.specs.Marks.{marked, all_agree, demands, IsSettled, IsWithin, unmarked}

-- an operation is marked, or settled
abbrev pub Marks : (ir : Ir) (slot : ℕ) (old : List Bool) (pc : ℕ) (o : Op) → Bool → (new : List Bool) → Type 0
Marks ir slot old pc o true new = (new ≡ slice_set old pc true) × (marked old pc ≡ false) × (demands ir slot old pc o ≡ true)
Marks ir slot old pc o false new = (new ≡ old) × (demands ir slot old pc o ≡ true → marked old pc ≡ true)

-- marks stay as few as may be, and are settled unless there are more
pub record Widens (ir : Ir) (slot : ℕ) (code : List Operation) (old : List Bool) (more : Bool) (new : List Bool) : Type 0 where
  pub count : length new ≡ length old
  pub least : (given : List Bool) → all_agree ir slot given 0 code ≡ true → IsWithin old given → IsWithin new given
  pub settled : more ≡ false → IsSettled ir slot new code
  pub fewer : unmarked new + (if more then 1 else 0) < unmarked old + 1

pub record AreNone (count : ℕ) (live : List Bool) : Type 0 where
  pub length_is : length live ≡ count
  pub none : (pc : ℕ) → marked live pc ≡ false
