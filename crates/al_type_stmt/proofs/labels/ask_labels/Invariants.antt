use Rattle.std.proofs.Common.{◌≡◌, ◌++◌, map, drop}
use Rattle.al_statements.specs.Cases.{no_cases}
use Rattle.al_type_stmt.specs.Statements.{part, places, label_faults}
use Rattle.al_type_stmt.proofs.labels.ask_labels.Given as goal

abbrev pub invariant-loop-t : goal.invariant-loop-t
invariant-loop-t l =
    label_faults no_cases (places (map (part l.w l.env l.here) l.body)) l.typed
    ≡ l.faults ++ label_faults l.cases (places (map (part l.w l.env l.here) l.rest)) (drop l.t-index l.typed)
