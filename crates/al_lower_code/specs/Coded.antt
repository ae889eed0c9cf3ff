-- What the operations of expressions, places, targets and rows of them are.
--
-- The value of an expression comes to stand in slots from `dest` on, which are those from `to` on, or slots of a variable. These
-- are written last: behind every change of a variable, and when nothing is read any more. Slots from `to` on are free for
-- all that is needed on the way, and those below stay, but for variables.
use Rattle.std.specs.Prelude.{ℕ, ◌==◌, Bool, true, false, if◌then◌else◌, List, [], ◌++◌, Option, Some, None, unwrap_or}
use Rattle.al_typed.specs.declared.ty.Ty.{Ty}
use Rattle.al_meaning.specs.Words.{integer_words}
use Rattle.al_meaning.specs.Shown.{kind_of}
use Rattle.al_ir.specs.declared.ir.Operation.{Operation}
use Rattle.al_ir.specs.declared.op.Op.TheVariants.{Skip}
use Rattle.al_lower_code.specs.Homes.{Spot, words, here}
use Rattle.al_lower_code.specs.Moving.{Where, Stored, constants}
use Rattle.al_lower_code.specs.Operators.{skip_if_zero}

pub record Coded : Type 0 where
  -- the bits of a constant
  pub known : Option ℕ
  -- the slot from which on it stands without any operation
  pub stands : Option ℕ
  -- whether the variables of the function stay as they are
  pub keeps : Bool
  -- whether it is 0 or 1
  pub is_truth : Bool
  pub value : (dest to : ℕ) → List Operation
  -- it is found and dropped
  pub effect : (to : ℕ) → List Operation
  -- so many operations behind these are left out where it is 0
  pub unless : (to count : ℕ) → List Operation
  -- It is the address of something, which is used at once, or later, when variables may have changed.
  pub pointer : (lasting : Bool) → (to : ℕ) → List Operation
  pub leads : (lasting : Bool) → (to : ℕ) → Where

-- a place, which is used at once, or later
pub record Placed : Type 0 where
  pub keeps : Bool
  pub code : (lasting : Bool) → (to : ℕ) → List Operation
  pub at : (lasting : Bool) → (to : ℕ) → Where

-- what stands in a row
pub record Row : Type 0 where
  pub keeps : Bool
  -- their values, one behind the other
  pub values : (to : ℕ) → List Operation
  -- each is found and dropped
  pub effects : (to : ℕ) → List Operation

-- the object before a function's name, which gives it so many words
pub record Given : Type 0 where
  pub words : ℕ
  pub keeps : Bool
  pub code : (to : ℕ) → List Operation

-- a target: the place that it is, or so many places, whose addresses stand in one slot each
pub record Aimed : Type 0 where
  pub single : Option Placed
  pub count : ℕ
  pub code : (to : ℕ) → List Operation
  -- the parts of a value, whose words stand from `from` on, go into them
  pub save : (to from : ℕ) → List Operation

-- ---- operands

-- a value that is used at once: where it stands, or from `to` on
abbrev pub operand_slot : Coded → (to : ℕ) → ℕ
operand_slot c to = unwrap_or c.stands to

abbrev pub operand_code : Coded → (to : ℕ) → List Operation
operand_code c to = elim c.stands [ Some home ↦ [] | None ↦ c.value to to ]

-- a value that is used when another has been found
abbrev pub first_slot : Coded → (next : Coded) → (to : ℕ) → ℕ
first_slot c next to = if next.keeps then operand_slot c to else to

abbrev pub first_code : Coded → (next : Coded) → (to : ℕ) → List Operation
first_code c next to = if next.keeps then operand_code c to else c.value to to

-- ---- common forms

-- an expression of a type that gives a value so, and may stand in slots already
abbrev pub plain : Spot → Ty → (stands : Option ℕ) → (keeps is_truth : Bool) → ((dest to : ℕ) → List Operation) → Coded
plain s t stands keeps is_truth value = record {
  known = None;
  stands = stands;
  keeps = keeps;
  is_truth = is_truth;
  value = value;
  effect = λ to. elim stands [ Some home ↦ [] | None ↦ value to to ];
  unless = λ to count. elim stands [ Some home ↦ skip_if_zero s (words s t) home to count | None ↦ value to to ++ skip_if_zero s (words s t) to to count ];
  pointer = λ lasting to. if lasting then value to to else elim stands [ Some home ↦ [] | None ↦ value to to ];
  leads = λ lasting to. Stored (if lasting then to else unwrap_or stands to) 0;
}

abbrev pub valued : Spot → Ty → (keeps : Bool) → ((dest to : ℕ) → List Operation) → Coded
valued s t keeps value = plain s t None keeps false value

-- no operation where a condition holds that is known
abbrev pub skips_known : Spot → (bits count : ℕ) → List Operation
skips_known s bits count = if bits == 0 then here s (Skip count) else []

-- an integer with these bits
abbrev pub constant_coded : Spot → Ty → ℕ → Coded
constant_coded s t bits =
    let value : (dest to : ℕ) → List Operation = λ dest to. constants s.line dest (integer_words (kind_of t) bits) in
    record (plain s t None true false value) { known = Some bits; effect = λ to. []; unless = λ to count. skips_known s bits count }

-- an expression that has a constant value is that
abbrev pub folded : Spot → Ty → Option ℕ → Coded → Coded
folded s t (Some bits) c = constant_coded s t bits
folded s t None c = c
