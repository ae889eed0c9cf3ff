use Rattle.std.proofs.Common.{◌≡◌, ◌++◌, ◌-◌, drop, length, map}
use Rattle.al_meaning.specs.Calls.{parameter_work}
use Rattle.al_meaning.specs.Parts.{item}
use Rattle.al_control.specs.Models.{item_of}
use Rattle.al_walk_calls.proofs.begins.parameter_items.Given as goal

abbrev pub invariant-loop-i : goal.invariant-loop-i
invariant-loop-i l =
    map item_of l.items ++ map (item l.line) (parameter_work l.p l.i (length l.parameters - l.i) (drop l.i l.parameters) l.rest)
    ≡ map (item l.line) (parameter_work l.p 0 (length l.parameters) l.parameters l.words)
