use Rattle.std.proofs.Common.{List, length, ap, ◌∙◌, sym, subst}
use Rattle.store_lock.specs.Passes.{AreAllAtRest}
use Rattle.lock_trial.specs.declared.crew.Worker.{Worker}
use Rattle.lock_trial.specs.DeskMemo.{desk_memo}
use Rattle.lock_trial.specs.Working.{AreWorkers, AreStill}
use Rattle.lock_trial.proofs.Room.{are_workers, all_back}
use Rattle.lock_trial.proofs.tests.in_room.Goals as goal

pub run-requires-clause-each : goal.run-requires-clause-each
run-requires-clause-each g c κs within =
    subst (AreWorkers c.args.lock) (sym c.hire.ensures) (are_workers c.args.lock c.args.passes.items c.requires.passes c.requires.seats.1)

pub close-requires : goal.close-requires
close-requires g c =
    let lock = c.args.lock in
    let hired = c.hire.ensures in
    let still = subst (λ (ws : List Worker). AreStill lock ws c.run.new.crew.items) hired c.run.ensures.each in
    let count = c.run.ensures.count ∙ ap (λ (ws : List Worker). length ws) hired in
    subst (AreAllAtRest desk_memo lock) (sym c.dismiss.ensures) (all_back lock c.args.passes.items c.requires.passes c.requires.seats.1 c.run.new.crew.items count still)
