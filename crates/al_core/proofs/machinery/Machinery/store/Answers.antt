use Rattle.al_core.proofs.Prepared.{store_ok, store_err}
use Rattle.al_core.proofs.machinery.Machinery.store.Goals.{in-Ok, in-Err}
use Rattle.al_core.proofs.machinery.Machinery.store.Goals as goal

pub returns : goal.returns
returns c =
    λ image. elim c.match-store.branch [
      | in-Ok w ↦ rw (← c.self.view_is, w.result-is) (store_ok image _ c.args.at c.args.size c.args.word c.store.new.self w.in-Ok.ensures.ok c.store.ensures.region)
      | in-Err w ↦ rw (← c.self.view_is, w.result-is, w.in-Err.ensures.kept) (store_err image _ c.args.at c.args.size c.args.word w.in-Err.trap w.in-Err.ensures.err)
    ]
