use Rattle.std.proofs.Common.{◌+◌, sym, ap, ◌∙◌, take}
use Rattle.al_branches.specs.Tables.{all_uses}
use Rattle.al_branches.proofs.CountsAre.{own_length}
use Rattle.al_branches.proofs.count.all_uses.Goals as goal

pub add-requires-clause-so_far : goal.add-requires-clause-so_far
add-requires-clause-so_far c =
    c.loop-k.invariant ∙ ap (all_uses (take c.loop-k.k c.args.defined.now)) (sym (own_length (take c.loop-k.k c.args.defined.now) c.args.items c.loop-k.uses c.loop-k.invariant))

pub loop-k-preserved : goal.loop-k-preserved
loop-k-preserved c =
    c.add.ensures ∙ ap (all_uses (take (c.loop-k.k + 1) c.args.defined.now)) (own_length (take c.loop-k.k c.args.defined.now) c.args.items c.loop-k.uses c.loop-k.invariant)
