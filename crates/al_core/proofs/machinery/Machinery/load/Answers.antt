use Rattle.std.proofs.Common.{sym, ◌∙◌}
use Rattle.al_core.proofs.Prepared.{load_ok, load_err}
use Rattle.al_core.proofs.machinery.Machinery.load.Goals as goal

pub returns-in-Ok : goal.returns-in-Ok
returns-in-Ok c = λ image. rw (← c.self.view_is) (load_ok image _ c.args.at c.args.size c.in-Ok.word (sym c.load.ensures ∙ c.in-Ok.is))

pub returns-in-Err : goal.returns-in-Err
returns-in-Err c = λ image. rw (← c.self.view_is) (load_err image _ c.args.at c.args.size c.in-Err.trap (sym c.load.ensures ∙ c.in-Err.is))
