use Rattle.std.proofs.Common.{◌≡◌, drop}
use Rattle.al_declare.specs.Types.{each, dcl_bounds}
use Rattle.al_declare.proofs.item.fields.Given as goal

abbrev pub invariant-loop-d : goal.invariant-loop-d
invariant-loop-d l = each dcl_bounds l.list l.c l.fn.w ≡ each dcl_bounds (drop l.d-index l.list) l.c l.w
