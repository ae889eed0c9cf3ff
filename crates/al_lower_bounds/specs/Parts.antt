-- Parts of the bounds of functions.
use Rattle.std.specs.Prelude.{◌≡◌, ℕ, suc, ◌+◌, ◌≤◌, true, length, Some, slice_get}
use Rattle.al_ir.specs.declared.ir.Function.{Function}
use Rattle.al_ir.specs.declared.ir.Operation.{Operation}
use Rattle.al_ir.specs.Bounds.{set_aside, stops}

-- there is room on the stack for the slots of a function, and among these for what it is given
pub record HasRoom (f : Function) : Type 0 where
  pub stack : f.stack ≤ 16384
  pub slots : f.slots + set_aside ≤ f.stack
  pub arguments : f.arguments ≤ f.slots

-- the last operation of a function is one behind which it does not go on
pub record EndsWell (f : Function) : Type 0 where
  pub before_last : ℕ
  pub ends : length f.code ≡ suc before_last
  pub last : Operation
  pub is_last : slice_get f.code before_last ≡ Some last
  pub goes_nowhere : stops last.op ≡ true
