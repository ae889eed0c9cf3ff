use Rattle.std.proofs.Common.{◌≡◌, take, true}
use Rattle.std.specs.List.{list_all}
use Rattle.al_typed.specs.Types.{is_complete}
use Rattle.al_typed.proofs.complete.+complete.Given as goal

abbrev pub invariant-are_complete-loop-ty : goal.invariant-are_complete-loop-ty
invariant-are_complete-loop-ty l = list_all (is_complete l.aggregates) (take l.ty-index l.tys) ≡ true
