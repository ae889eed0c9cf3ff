use Rattle.al_core.proofs.Prepared.{give_ok, give_err}
use Rattle.al_core.proofs.machinery.Machinery.give_up.Goals.{in-Ok, in-Err}
use Rattle.al_core.proofs.machinery.Machinery.give_up.Goals as goal

pub returns : goal.returns
returns c =
    λ image. elim c.match-give_up.branch [
      | in-Ok w ↦ rw (← c.self.view_is, w.result-is) (give_ok image _ c.args.chan c.give_up.new.self w.in-Ok.ensures.ok c.give_up.ensures.room)
      | in-Err w ↦ rw (← c.self.view_is, w.result-is, w.trap_of.ensures, w.in-Err.ensures.kept) (give_err image _ c.args.chan _ w.in-Err.ensures.err)
    ]
