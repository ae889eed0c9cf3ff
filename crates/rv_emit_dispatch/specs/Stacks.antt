-- Programs whose frames fit the stack of a task.
use Rattle.std.specs.Prelude.{◌≤◌, ◌^◌, All}
use Rattle.al_ir.specs.declared.ir.Function.{Function}
use Rattle.al_ir.specs.declared.ir.Ir.{Ir}

pub record HasRoom (f : Function) : Type 0 where
  pub stack : f.stack ≤ 2 ^ 14
  pub slots : f.slots ≤ 2 ^ 14
  pub arguments : f.arguments ≤ 2 ^ 14

abbrev pub HaveRoom : Ir → Type 0
HaveRoom ir = All HasRoom ir.functions
