use Rattle.std.proofs.Common.{◌≡◌, ◌-◌, ◌≤◌}
use Rattle.al_tree.specs.Leaves.{leaves_of}
use Rattle.al_parse_type.specs.Parse.{bounds_from}
use Rattle.al_parse_type.proofs.list.bounds_from.Given as goal

abbrev pub invariant-loop-turn : goal.invariant-loop-turn
invariant-loop-turn l = record { reads : bounds_from (leaves_of l.text) l.types l.turns l.depth l.turns l.fn.found l.fn.height l.fn.tokens ≡ bounds_from (leaves_of l.text) l.types l.turns l.depth (l.turns - l._turn) l.found l.height l.tokens; low : l.height ≤ l.depth }
