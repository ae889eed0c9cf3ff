use Rattle.std.proofs.Common.{◌≡◌, drop, map}
use Rattle.al_layout.specs.Types.{all_of, ty_of}
use Rattle.al_layout.proofs.TypesAre.{with_rest}
use Rattle.al_build_types.proofs.instance.arguments.Given as goal

abbrev pub invariant-loop-t : goal.invariant-loop-t
invariant-loop-t l = all_of (map (ty_of l.forms l.numbers) l.list) ≡ with_rest l.types (all_of (map (ty_of l.forms l.numbers) (drop l.t-index l.list)))
