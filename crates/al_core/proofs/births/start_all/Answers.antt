use Rattle.std.proofs.Common.{◌≡◌, ◌<◌, ◌∷◌, [], length, Some, Err, sym, ap, subst, ◌∙◌, arith, length-append}
use Rattle.std.proofs.lemmas.Iterator.Adapters.{YieldsList-from_vec}
use Rattle.std.proofs.lemmas.Iterator.Consumers.{YieldsList-turn}
use Rattle.al_world.specs.Procs.{live_tasks}
use Rattle.task_book.specs.Starting.{StartsProc}
use Rattle.al_core.proofs.Parting.{IsGrown, starts_more, grown_one}
use Rattle.al_core.proofs.Requiring.{only_tasks}
use Rattle.al_core.proofs.births.start_all.Goals as goal

pub loop-begun-preserved : goal.loop-begun-preserved
loop-begun-preserved c =
    let started : StartsProc (Some c.args.slot) c.in-Some.begun.hart c.in-Some.begun.privates (length c.loop-begun.tasks.procs) c.loop-begun.tasks c.start_proc.new.self = subst (λ k. StartsProc (Some c.args.slot) c.in-Some.begun.hart c.in-Some.begun.privates k c.loop-begun.tasks c.start_proc.new.self) c.in-Ok.ensures.number c.in-Ok.ensures.started in record {
      started = starts_more c.args.slot c.loop-begun.yielded c.in-Some.begun c.args.tasks.now c.loop-begun.tasks c.start_proc.new.self c.loop-begun.invariant.started started;
      grown = subst (λ k. IsGrown c.args.slot k c.args.tasks.now c.start_proc.new.self) (sym (length-append c.loop-begun.yielded (c.in-Some.begun ∷ []))) (grown_one c.args.slot (length c.loop-begun.yielded) c.in-Some.begun.hart c.in-Some.begun.privates c.args.tasks.now c.loop-begun.tasks c.start_proc.new.self c.loop-begun.invariant.grown started);
    }

pub unreachable-requires : goal.unreachable-requires
unreachable-requires c =
    let full : live_tasks c.loop-begun.tasks.procs ≡ length c.loop-begun.tasks.tasks = c.in-Err.ensures.full.0 (ap Err (only_tasks c.in-Err.field-0)) in
    let gives = c.into_iter-begun-iterator.ensures.into_iter_gives in
    let turn = YieldsList-turn (YieldsList-from_vec c.args.all.items gives.0 (gives.1 ∙ c.args.all.ok.0)) c.loop-begun.yielded c.loop-begun.begun-iterator c.loop-begun.yielded_by c.next.result c.next.new.self c.in-Some.begun c.in-Some.is c.next.ensures.steps in
    let live = c.loop-begun.invariant.grown.live in
    let tasks = c.loop-begun.invariant.grown.tasks in
    let less : length c.loop-begun.yielded < length c.args.all.items = turn.0 in
    let room = c.requires.room in
    omega (arith, full, live, tasks, less, room)
