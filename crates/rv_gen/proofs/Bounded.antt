-- What the bounds of a program say of each of its functions and operations.
use Rattle.std.proofs.Common.{◌+◌, ◌≤◌, arith}
use Rattle.std.proofs.lemmas.List.Elements.{All-weaker}
use Rattle.al_ir.specs.declared.ir.Function.{Function}
use Rattle.al_ir.specs.declared.ir.Ir.{Ir}
use Rattle.al_ir.specs.Bounds.{IsBounded, IsFunction}
use Rattle.rv_emit_dispatch.specs.Stacks.{HasRoom}
use Rattle.rv_emit_ops.specs.Emitting.{IsEmittable}

room : (ir : Ir) (f : Function) → IsFunction ir f → HasRoom f
room ir f is =
    let a : f.stack ≤ 16384 = is.stack in
    let b : f.slots + 8 ≤ f.stack = is.slots in
    let d : f.arguments ≤ f.slots = is.arguments in
    record { stack = omega (arith, a); slots = omega (arith, a, b); arguments = omega (arith, a, b, d) }

pub small_of : (ir : Ir) → IsBounded ir → IsEmittable ir
small_of ir is = record {
  room = All-weaker (IsFunction ir) HasRoom (room ir) ir.functions is.functions;
  layouts = is.layouts;
  privates = is.privates;
}
