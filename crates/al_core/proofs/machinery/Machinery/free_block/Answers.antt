use Rattle.al_core.proofs.Prepared.{free_ok, free_err}
use Rattle.al_core.proofs.machinery.Machinery.free_block.Goals.{in-Ok, in-Err}
use Rattle.al_core.proofs.machinery.Machinery.free_block.Goals as goal

pub returns : goal.returns
returns c =
    λ image. elim c.match-free_block.branch [
      | in-Ok w ↦ rw (← c.self.view_is, w.result-is) (free_ok image _ c.args.at c.args.kind c.free_block.new.self w.in-Ok.ensures.ok c.free_block.ensures.region)
      | in-Err w ↦ rw (← c.self.view_is, w.result-is, w.free_trap.ensures, w.in-Err.ensures.kept) (free_err image _ c.args.at c.args.kind w.in-Err.trap w.in-Err.ensures.err)
    ]
