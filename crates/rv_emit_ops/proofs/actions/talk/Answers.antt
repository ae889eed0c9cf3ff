use Rattle.std.proofs.Common.{◌*◌, List, All, length, subst, sym}
use Rattle.al_ir.specs.declared.op.TalkBranch.{TalkBranch}
use Rattle.rv_emit_starts.specs.Branches.{IsInFrame}
use Rattle.rv_emit_ops.proofs.Branches.{all_in_frame}
use Rattle.rv_emit_ops.proofs.actions.talk.Goals as goal

pub talk-requires-clause-branches : goal.talk-requires-clause-branches
talk-requires-clause-branches c =
    subst (λ (bs : List TalkBranch). All (IsInFrame c.args.got) bs) (sym c.as_slice.ensures.value)
    (all_in_frame c.requires.function c.args.records (4 * length c.args.branches.now) c.args.to c.args.got c.args.branches.now c.requires.slots c.requires.fits.1.1.1.1)
