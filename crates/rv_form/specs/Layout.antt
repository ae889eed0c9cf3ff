-- What the instructions of an operation depend on besides the operation itself.
use Rattle.std.specs.Prelude.{ℕ, List}
use Rattle.al_ir.specs.declared.ir.Run.{Run}
use Rattle.rv_long.specs.declared.op.LongOp.{LongOp}
use Rattle.rv_code.specs.declared.home.Home.{Home}
use Rattle.rv_code.specs.declared.reach.Reach.{Reach}

-- Where things stand in the code, by the numbers of their first words; where slots live; how far a function's jumps go; and the
-- sizes of functions. Functions, operations, slots, classes and layouts go by their numbers.
pub record Layout : Type 0 where
  pub entry : (function : ℕ) → ℕ
  pub at : (function pc : ℕ) → ℕ
  pub dispatcher : (class : ℕ) → ℕ
  pub routine : LongOp → ℕ
  pub home : (function slot : ℕ) → Home
  pub reach : (function : ℕ) → Reach
  pub stack : (function : ℕ) → ℕ  -- words of a frame
  pub slots : (function : ℕ) → ℕ  -- those that are slots; behind them stands where to return to
  pub arguments : (function : ℕ) → ℕ
  pub class_arguments : (class : ℕ) → ℕ
  pub runs : (layout : ℕ) → List Run
