use Rattle.std.proofs.Common.{◌∙◌, Err, refl, ap}
use Rattle.std.proofs.lemmas.Result.{err_from_is_err_and}
use Rattle.al_meaning.specs.Meaning.{run}
use Rattle.al_step.specs.Sources.{StartFits}
use Rattle.al_step.proofs.Worlds.{opens, few_procs}
use Rattle.al_step.proofs.Whys.{no_memory_explains}
use Rattle.al_step.proofs.source.start.Goals as goal

pub returns-clause-sound : goal.returns-clause-sound
returns-clause-sound c =
    record {
      laid_out = c.requires.laid_out;
      slots = c.in_ok-slots.ensures;
      procs = few_procs c.in_ok-state.made c.in_ok-state.state _ _ _ c.in_ok-state.ensures;
    }

pub returns-clause-stands : goal.returns-clause-stands
returns-clause-stands c =
    record {
      program = refl;
      ran = ap (run c.args.p.now c.args.region) c.new.ensures ∙ opens c.args.p.now c.args.region _ _ _ _ _ _ _ _ _ _ c.in_ok-state.ensures c.in_ok-first.ensures.region c.in_ok-first.ensures.opened c.in_ok-begin.ensures.start c.in_ok-control.ensures.control c.no_tasks-tasks.ensures c.in_ok-put_task.ensures c.in_ok-words.ensures.words c.fresh_privates-privates.ensures;
    }

pub returns-in_err-put_task-clause-why : goal.returns-in_err-put_task-clause-why
returns-in_err-put_task-clause-why c =
    let p = err_from_is_err_and c.from_residual-in_err-put_task.result c.from_residual-in_err-put_task.ensures.1 in
    no_memory_explains c.from_residual-in_err-put_task.result (StartFits c.args.p.now) (p.1 ∙ ap Err p.2)
