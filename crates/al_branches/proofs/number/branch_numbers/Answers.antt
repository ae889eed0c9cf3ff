use Rattle.std.proofs.Common.{◌+◌, ◌++◌, ◌∷◌, [], ◌∙◌, ap, sym, length, take, drop, None, append_assoc}
use Rattle.std.proofs.lemmas.List.{append-nil}
use Rattle.al_declare.specs.declared.function.Defined.{Defined}
use Rattle.al_branches.specs.Numbers.{numbers_from, branch_numbers}
use Rattle.al_branches.specs.Tables.{all_uses}
use Rattle.al_branches.proofs.CountsAre.{own_length}
use Rattle.al_branches.proofs.NumbersAre.{numbers-from, numbers-end}
use Rattle.al_branches.proofs.number.branch_numbers.Goals as goal

abbrev past : Defined
past = record { item = 0; instance = None }

pub add-requires-clause-so_far : goal.add-requires-clause-so_far
add-requires-clause-so_far c =
    c.loop-k.invariant.1
    ∙ ap (all_uses (take c.loop-k.k c.args.defined.now)) (sym (own_length (take c.loop-k.k c.args.defined.now) (length c.args.items.now) c.loop-k.before c.loop-k.invariant.1))

pub loop-k-preserved : goal.loop-k-preserved
loop-k-preserved c = (
  c.loop-k.invariant.0
      ∙ ap (λ xs. c.loop-k.list ++ xs) (numbers-from c.args.items.now c.args.defined.now c.loop-k.k past c.loop-k-test.true)
      ∙ ap (λ x. c.loop-k.list ++ (x ∷ numbers_from c.args.items.now c.args.defined.now (c.loop-k.k + 1) (drop (c.loop-k.k + 1) c.args.defined.now))) (sym (c.in_ok-numbers.ensures past))
      ∙ sym (append_assoc c.loop-k.list (c.in_ok-numbers.numbers ∷ []) (numbers_from c.args.items.now c.args.defined.now (c.loop-k.k + 1) (drop (c.loop-k.k + 1) c.args.defined.now)))
      ∙ ap (λ xs. xs ++ numbers_from c.args.items.now c.args.defined.now (c.loop-k.k + 1) (drop (c.loop-k.k + 1) c.args.defined.now)) (sym c.in_ok-push.ensures.ok),
  c.add.ensures
      ∙ ap (all_uses (take (c.loop-k.k + 1) c.args.defined.now)) (own_length (take c.loop-k.k c.args.defined.now) (length c.args.items.now) c.loop-k.before c.loop-k.invariant.1),
)

pub returns : goal.returns
unfolding branch_numbers
returns c =
    sym
    (c.loop-k.invariant.0
    ∙ ap (λ xs. c.loop-k.list ++ xs) (numbers-end c.args.items.now c.args.defined.now c.loop-k.k c.loop-k-test.false)
    ∙ append-nil c.loop-k.list
    )
