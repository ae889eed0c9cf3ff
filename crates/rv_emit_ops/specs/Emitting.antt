-- What an operation's instructions rest on.
use Rattle.std.specs.Prelude.{◌≡◌, ℕ, ◌^◌, ◌<◌, ◌≤◌, Some, All}
use Rattle.al_ir.specs.declared.ir.Function.{Function}
use Rattle.al_ir.specs.declared.ir.Ir.{Ir}
use Rattle.al_ir.specs.declared.op.Op.{Op}
use Rattle.al_ir.specs.Bounds.{Fits, IsLayout}
use Rattle.al_ir.specs.Control.{function_at}
use Rattle.rv_emit_dispatch.specs.Stacks.{HaveRoom}
use Rattle.rv_emit_ops.specs.declared.plan.Plan.{Plan}
use Rattle.rv_emit_ops.specs.Plans.{AreNear}

-- the parts of a program's bounds that code of one operation rests on
pub record IsEmittable (ir : Ir) : Type 0 where
  pub room : HaveRoom ir
  pub layouts : All IsLayout ir.layouts
  pub privates : ir.privates ≤ 2 ^ 14

-- operation number `pc` of function number `f` of such a program, by a plan
pub record CanEmit (ir : Ir) (plan : Plan) (f pc : ℕ) (op : Op) : Type 0 where
  pub program : IsEmittable ir
  pub near : AreNear plan
  pub number : pc < 2 ^ 32
  pub function : Function
  pub is : function_at ir f ≡ Some function
  pub slots : function.slots ≤ 2 ^ 14
  pub fits : Fits ir function pc op
