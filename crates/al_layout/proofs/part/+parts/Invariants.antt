use Rattle.std.proofs.Common.{◌≡◌, ◌++◌, drop}
use Rattle.std.specs.List.{flat_map}
use Rattle.al_layout.specs.Types.{parts}
use Rattle.al_layout.proofs.part.+parts.Given as goal

abbrev pub invariant-push_all-loop-t : goal.invariant-push_all-loop-t
invariant-push_all-loop-t l = l.fn.out ++ flat_map (parts l.forms) l.list ≡ l.out ++ flat_map (parts l.forms) (drop l.t-index l.list)
