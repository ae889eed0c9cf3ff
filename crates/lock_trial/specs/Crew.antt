-- A worker and its pass.
use Rattle.std.specs.Prelude.{false}
use Rattle.store_lock.specs.declared.pass.Pass.{Pass}
use Rattle.lock_trial.specs.declared.crew.Worker.{Worker}

abbrev pub hired : Pass → Worker
hired p = record { pass = p; made = 0; failed = false }

abbrev pub pass_of : Worker → Pass
pass_of w = w.pass
