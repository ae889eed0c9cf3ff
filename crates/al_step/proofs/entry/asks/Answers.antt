use Rattle.std.proofs.Common.{refl}
use Rattle.al_step.proofs.Worlds.{same_asked}
use Rattle.al_step.proofs.entry.asks.Goals as goal

pub returns-in-None-clause-asked : goal.returns-in-None-clause-asked
returns-in-None-clause-asked c = same_asked c.args.source.now.program.now _ _ _ _ c.in-None.ensures refl
