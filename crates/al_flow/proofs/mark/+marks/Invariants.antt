use Rattle.std.proofs.Common.{◌≡◌, ◌++◌, take}
use Rattle.std.specs.List.{flat_map}
use Rattle.al_flow.specs.Flow.{marks}
use Rattle.al_flow.proofs.mark.+marks.Given as goal

abbrev pub invariant-add_all-loop-s : goal.invariant-add_all-loop-s
invariant-add_all-loop-s l = l.marks ≡ l.fn.marks ++ flat_map marks (take l.s-index l.body)
