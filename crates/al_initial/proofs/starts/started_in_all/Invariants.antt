use Rattle.std.proofs.Common.{◌≡◌, drop, fold}
use Rattle.al_rules.specs.Outcome.{Good}
use Rattle.al_initial.specs.Walks.{started_in}
use Rattle.al_initial.proofs.starts.started_in_all.Given as goal

abbrev pub invariant-loop-item : goal.invariant-loop-item
invariant-loop-item l =
    fold (started_in l.env l.here l.adts) (Good l.fn.starts) l.items ≡ fold (started_in l.env l.here l.adts) (Good l.done) (drop l.item-index l.items)
