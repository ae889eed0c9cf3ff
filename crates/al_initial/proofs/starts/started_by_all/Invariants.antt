use Rattle.std.proofs.Common.{◌≡◌, drop, fold}
use Rattle.al_rules.specs.Outcome.{Good}
use Rattle.al_initial.specs.Walks.{started_by}
use Rattle.al_initial.proofs.starts.started_by_all.Given as goal

abbrev pub invariant-loop-d : goal.invariant-loop-d
invariant-loop-d l =
    fold (started_by l.env l.here l.adts) (Good l.fn.starts) l.list ≡ fold (started_by l.env l.here l.adts) (Good l.done) (drop l.d-index l.list)
