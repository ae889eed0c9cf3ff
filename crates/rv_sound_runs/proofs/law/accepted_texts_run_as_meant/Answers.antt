use Rattle.rv_sound_runs.proofs.Compilable.{compilable}
use Rattle.rv_sound_runs.proofs.law.accepted_texts_run_as_meant.Goals as goal

pub returns-clause-compilable : goal.returns-clause-compilable
returns-clause-compilable c = compilable

pub returns-clause-runs : goal.returns-clause-runs
returns-clause-runs c = λ text p image accepted is bounded small. c.images_run_as_meant.ensures.runs p image is bounded small (compilable text p accepted)
