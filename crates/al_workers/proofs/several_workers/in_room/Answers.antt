use Rattle.std.proofs.Common.{List, length, ap, ◌∙◌, sym, subst}
use Rattle.store_lock.specs.declared.pass.Pass.{Pass}
use Rattle.store_lock.specs.Passes.{AreAllAtRest, Closes}
use Rattle.al_core.specs.Sharing.{world_entries, terms_of, world_lent}
use Rattle.al_core.specs.WorldMemo.{world_memo}
use Rattle.al_workers.specs.declared.crew.Worker.{Worker}
use Rattle.al_workers.specs.Crew.{AreReady, HaveWorked}
use Rattle.al_workers.proofs.Room.{are_ready, all_back, merged, nothing_away, is_none}
use Rattle.al_workers.proofs.several_workers.in_room.Goals as goal

pub run-requires-clause-ready : goal.run-requires-clause-ready
run-requires-clause-ready g c κs within =
    subst (AreReady c.args.lock) (sym c.hire.ensures) (are_ready c.args.lock c.args.passes.items c.requires.passes c.requires.seats.1)

pub close-requires : goal.close-requires
close-requires g c =
    let lock = c.args.lock in
    let crew : List Worker = c.run.new.crew.items in
    let done = subst (λ (ws : List Worker). HaveWorked lock ws crew) c.hire.ensures c.run.ensures.each in
    let count = c.run.ensures.count ∙ ap (λ (ws : List Worker). length ws) c.hire.ensures in
    subst (AreAllAtRest world_memo lock) (sym c.dismiss-lack.ensures.passes) (all_back lock c.args.passes.items c.requires.passes c.requires.seats.1 crew count done)

pub returns-clause-merged : goal.returns-clause-merged
returns-clause-merged g c =
    let lock = c.args.lock in
    let crew : List Worker = c.run.new.crew.items in
    let done = subst (λ (ws : List Worker). HaveWorked lock ws crew) c.hire.ensures c.run.ensures.each in
    let count = c.run.ensures.count ∙ ap (λ (ws : List Worker). length ws) c.hire.ensures in
    let closes = subst (λ (qs : List Pass). Closes world_entries terms_of world_lent lock qs c.close.result) c.dismiss-lack.ensures.passes c.close.ensures in
    merged lock c.args.passes.items c.requires.passes c.requires.seats.1 crew count done c.close.result closes

pub returns-clause-here : goal.returns-clause-here
returns-clause-here g c =
    let lock = c.args.lock in
    let crew : List Worker = c.run.new.crew.items in
    let done = subst (λ (ws : List Worker). HaveWorked lock ws crew) c.hire.ensures c.run.ensures.each in
    let count = c.run.ensures.count ∙ ap (λ (ws : List Worker). length ws) c.hire.ensures in
    let closes = subst (λ (qs : List Pass). Closes world_entries terms_of world_lent lock qs c.close.result) c.dismiss-lack.ensures.passes c.close.ensures in
    λ none. nothing_away lock c.args.passes.items c.requires.passes c.requires.seats.1 crew count done c.close.result closes (c.dismiss-lack.ensures.lack (is_none c.dismiss-lack.result none))
