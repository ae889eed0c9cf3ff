use Rattle.std.proofs.Common.{◌++◌, ◌∷◌, [], length, ◌∙◌, arith, ap, sym}
use Rattle.al_typed.specs.Capped.{capped}
use Rattle.al_branches.specs.Tables.{all_firsts}
use Rattle.al_branches.proofs.CountsAre.{own_length}
use Rattle.al_branches.proofs.TablesAre.{given-is}
use Rattle.al_branches.proofs.FirstsAre.{firsts-more, first-capped}
use Rattle.al_branches.proofs.number.all_firsts.Goals as goal

pub bounds-uses-i : goal.bounds-uses-i
bounds-uses-i c = let l = own_length c.args.defined.now (length c.args.items.now) c.args.uses.now c.requires.uses in omega arith

pub loop-i-preserved : goal.loop-i-preserved
loop-i-preserved c =
    let given-is = given-is c.args.items.now c.args.defined.now c.loop-i.i c.args.places.now c.index-places-i.result c.args.uses.now c.requires.places c.requires.uses c.loop-i-test.true c.index-places-i.is in (
      c.in_ok-push.ensures.ok ∙ ap (λ xs. xs ++ c.loop-i.number ∷ []) c.loop-i.invariant.0 ∙ ap (λ n. all_firsts c.args.items.now c.args.defined.now c.loop-i.i ++ n ∷ []) c.loop-i.invariant.1
          ∙ sym (firsts-more c.args.items.now c.args.defined.now c.loop-i.i),
      c.saturating_add-number.ensures
          ∙ first-capped c.args.items.now c.args.defined.now c.loop-i.i c.loop-i.number c.given.result c.loop-i.invariant.1 (c.given.ensures ∙ ap capped given-is),
    )
