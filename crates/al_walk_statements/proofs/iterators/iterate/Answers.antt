use Rattle.std.proofs.Common.{◌∙◌, List, ap, map, sym}
use Rattle.al_meaning.specs.Execute.{iterate}
use Rattle.al_control.specs.declared.work.Bounds.{Bounds}
use Rattle.al_control.specs.Models.{bounds_of, here_of}
use Rattle.al_walk_loops.proofs.Goings.{goes_same}
use Rattle.al_walk_statements.proofs.iterators.iterate.Goals as goal

pub returns-in-None-clause-next : goal.returns-in-None-clause-next
returns-in-None-clause-next c =
    c.in_ok-once-in-None.ensures c.args.number
    ∙ ap (λ (l : List Bounds). iterate c.args.number (map bounds_of l) c.args.e.now (here_of c.args.h)) (sym c.in-None.ensures.0)

pub returns-clause-next : goal.returns-clause-next
returns-clause-next c =
    goes_same c.go_through.result _ _
    (ap (λ (l : List Bounds). iterate c.args.number (map bounds_of l) c.args.e.now (here_of c.args.h)) (sym c.in-Some.ensures)) c.go_through.ensures.next
