use Rattle.std.proofs.Common.{◌≡◌, ◌+◌, ◌++◌, ◌∷◌, [], take, length, sym, ap, subst, ◌∙◌, arith, get_or}
use Rattle.std.proofs.lemmas.List.{take_more, take_more_set}
use Rattle.std.proofs.Math.ListN.{length-set}
use Rattle.al_core.proofs.Loaning.{take_all}
use Rattle.al_core.proofs.talks.answer_of.Goals as goal

pub loop-k-preserved : goal.loop-k-preserved
loop-k-preserved c =
    let s = c.loop-k.invariant.size in
    let y = get_or c.args.got.now c.loop-k.k 0 in record {
      front = take_more_set c.loop-k.words (c.loop-k.k + 1) y (omega arith) ∙ ap (λ l. l ++ y ∷ []) c.loop-k.invariant.front ∙ ap (λ l. c.args.branch ∷ l) (sym (take_more c.args.got.now c.loop-k.k 0 c.loop-k-test.true));
      size = simp length-set s;
    }

pub returns : goal.returns
returns c =
    let e : c.loop-k.k ≡ length c.args.got.now = omega arith in
    subst (λ k. take (k + 1) c.loop-k.words ≡ c.args.branch ∷ take k c.args.got.now) e c.loop-k.invariant.front ∙ ap (λ l. c.args.branch ∷ l) (take_all c.args.got.now)
