use Rattle.std.proofs.Common.{◌≡◌, ℕ, true, false, List, get_or, ◌∙◌, sym, subst, rules}
use Rattle.al_opening.specs.Opening.{text_blocks}
use Rattle.al_opening.proofs.Placed.{one_text, texts_none, next, all_done, as_placed, as_full}
use Rattle.al_opening.proofs.store.put_texts.Goals as goal

pub returns-then-not-placed-clause-placed : goal.returns-then-not-placed-clause-placed
returns-then-not-placed-clause-placed c =
    let no : c.in_ok-placed.placed ≡ false = search rules in
    let P : List ℕ → Type 0 = λ y. y ≡ get_or c.args.texts.now c.loop-text.text-index y in
    let is : P c.as_slice.result.now = subst P (sym c.as_slice.ensures.value) c.text-item.is in
    λ rest.
    next text_blocks one_text _ _ c.args.texts.now c.loop-text.text-index c.as_slice.result.now _ _ _ c.in_ok-placed.placed c.loop-text.invariant.region c.loop-text-test.true is c.loop-text.invariant.placed c.in_ok-placed.ensures.placed rest
    ∙ as_full _ no _ _ _

pub loop-text-preserved : goal.loop-text-preserved
loop-text-preserved c =
    let yes : c.in_ok-placed.placed ≡ true = search rules in
    let P : List ℕ → Type 0 = λ y. y ≡ get_or c.args.texts.now c.loop-text.text-index y in
    let is : P c.as_slice.result.now = subst P (sym c.as_slice.ensures.value) c.text-item.is in
    record {
      region = c.in_ok-placed.ensures.region ∙ c.loop-text.invariant.region;
      placed = λ rest.
          next text_blocks one_text _ _ c.args.texts.now c.loop-text.text-index c.as_slice.result.now _ _ _ c.in_ok-placed.placed c.loop-text.invariant.region c.loop-text-test.true is c.loop-text.invariant.placed c.in_ok-placed.ensures.placed rest
          ∙ as_placed _ yes _ _ _;
    }

pub returns-clause-placed : goal.returns-clause-placed
returns-clause-placed c = all_done text_blocks texts_none _ c.args.texts.now c.loop-text.text-index _ _ c.loop-text-test.false c.loop-text.invariant.placed
