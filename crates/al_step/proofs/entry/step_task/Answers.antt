use Rattle.std.proofs.Common.{◌∙◌, Err, refl, ap}
use Rattle.std.proofs.lemmas.Result.{err_from_is_err_and}
use Rattle.al_script.specs.Worlds.{shared_of}
use Rattle.al_walk.specs.Asks.{asked_of}
use Rattle.al_step.specs.Sources.{world_of, ActFits, TaskFits}
use Rattle.al_step.proofs.Entries.{some_asked, none_asked, none_steps, some_steps, stepped_by, act_fits}
use Rattle.al_step.proofs.Whys.{why_else}
use Rattle.al_step.proofs.entry.step_task.Goals as goal

pub returns-in-None-clause-stepped : goal.returns-in-None-clause-stepped
returns-in-None-clause-stepped c =
    record {
      same = refl;
      not_over = c.requires.goes_on;
      refused = none_steps c.args.source.program.now (world_of c.args.source.program.now c.args.source) c.args.task c.args.entry.pick (none_asked _ _ c.in-None.is c.in_ok-asked.ensures.asked);
    }

pub returns-in_ok-stepped-in-Some-clause-stepped : goal.returns-in_ok-stepped-in-Some-clause-stepped
returns-in_ok-stepped-in-Some-clause-stepped c =
    stepped_by c.args.source c.args.entry _ _ c.in_ok-stepped-in-Some.stepped
    (some_steps c.args.source.program.now (world_of c.args.source.program.now c.args.source) c.args.task c.args.entry.pick (asked_of c.in-Some.asked) (some_asked _ _ _ c.in-Some.is c.in_ok-asked.ensures.asked))
    c.in_ok-stepped-in-Some.ensures.stepped

pub returns-in_err-stepped-in-Some-clause-why : goal.returns-in_err-stepped-in-Some-clause-why
returns-in_err-stepped-in-Some-clause-why c =
    let s = c.args.source in
    let p = err_from_is_err_and c.from_residual-in_err-stepped-in-Some.result c.from_residual-in_err-stepped-in-Some.ensures.1 in
    why_else c.from_residual-in_err-stepped-in-Some.result c.in_err-stepped-in-Some.field-0.0 (ActFits s.program.now (shared_of s.made s.state) c.args.task c.args.entry.pick c.in-Some.asked.act) (TaskFits s.program.now (world_of s.program.now s) c.args.task c.args.entry.pick)
    (p.1 ∙ ap Err p.2) (act_fits s.program.now (world_of s.program.now s) c.args.task c.args.entry.pick (asked_of c.in-Some.asked) (some_asked _ _ _ c.in-Some.is c.in_ok-asked.ensures.asked)) c.in_err-stepped-in-Some.ensures.why
