use Rattle.al_fits.proofs.Entries.{entry_fits}
use Rattle.al_fits.proofs.Opened.{room_of}
use Rattle.al_fits.proofs.Runs.{run_asks, run_fits}
use Rattle.al_fits.proofs.Starting.{starts_fit}
use Rattle.al_fits.proofs.laws.numbers_fit.Goals as goal

pub returns-clause-steps : goal.returns-clause-steps
returns-clause-steps c = λ p region h w t d W M le e over is. run_fits p W (room_of p W M region h w le e over) region h w t d e is

pub returns-clause-acts : goal.returns-clause-acts
returns-clause-acts c = λ p region h w t d W M le e over is. run_asks p W (room_of p W M region h w le e over) region h w t d e is

pub returns-clause-entries : goal.returns-clause-entries
returns-clause-entries c = λ p region h w x W M le e few. entry_fits p region h w x W M le e few

pub returns-clause-starts : goal.returns-clause-starts
returns-clause-starts c = λ p W M S. starts_fit p W M S
