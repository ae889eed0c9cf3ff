use Rattle.al_core.proofs.Prepared.{alloc_ok, alloc_err}
use Rattle.al_core.proofs.machinery.Machinery.alloc_block.Goals.{in-Ok, in-Err}
use Rattle.al_core.proofs.machinery.Machinery.alloc_block.Goals as goal

pub returns : goal.returns
returns c =
    λ image. elim c.match-alloc_block.branch [
      | in-Ok w ↦ rw (← c.self.view_is, w.result-is) (alloc_ok image _ c.args.bytes c.args.kind w.in-Ok.at c.alloc_block.new.self w.in-Ok.ensures.ok c.alloc_block.ensures.region)
      | in-Err w ↦ rw (← c.self.view_is, w.result-is, w.in-Err.ensures.kept) (alloc_err image _ c.args.bytes c.args.kind w.in-Err.trap w.in-Err.ensures.err)
    ]
