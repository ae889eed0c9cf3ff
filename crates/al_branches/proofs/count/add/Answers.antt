use Rattle.std.proofs.Common.{◌≤◌, length, take, ◌∙◌, arith, None, get_or}
use Rattle.std.proofs.lemmas.List.{length-take}
use Rattle.al_declare.specs.declared.function.Defined.{Defined}
use Rattle.al_branches.proofs.CountsAre.{use-fits, use-more, use-past}
use Rattle.al_branches.proofs.count.add.Goals as goal

past : Defined
past = record { item = 0; instance = None }

pub overflow_add-count : goal.overflow_add-count
unfolding past
overflow_add-count c =
    let h : c.index-count.result.now ≤ length (take c.args.k c.args.defined.now) =
    use-fits (take c.args.k c.args.defined.now) (length c.args.uses.now) (get_or c.args.defined.now c.args.k past).item c.index-count.result.now c.args.uses.now
    c.requires.so_far (omega arith) c.index-count.ensures in
    let l = length-take c.args.k c.args.defined.now in
    omega arith

pub returns-then-d-len : goal.returns-then-d-len
unfolding past
returns-then-d-len c =
    c.set.ensures
    ∙ use-more c.args.defined.now c.args.k (length c.args.uses.now) c.index-count.result.now past c.args.uses.now c.requires.within c.requires.so_far (omega arith) c.index-count.ensures

pub returns-else-d-len : goal.returns-else-d-len
unfolding past
returns-else-d-len c =
    c.requires.so_far ∙ use-past c.args.defined.now c.args.k (length c.args.uses.now) past c.requires.within (omega arith)
