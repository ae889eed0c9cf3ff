use Rattle.std.proofs.Common.{◌↔◌, IsTrue, List, subst}
use Rattle.al_typed.specs.declared.program.Local.{Local}
use Rattle.al_walk_calls.specs.Fits.{AreSmall}
use Rattle.al_walk_calls.proofs.rows.begin_fits.Goals as goal

pub returns : goal.returns
returns c = subst (λ (ls : List Local). IsTrue c.are_small.result ↔ AreSmall c.args.p.now ls) c.locals_of.ensures c.are_small.ensures
