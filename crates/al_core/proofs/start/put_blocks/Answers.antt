use Rattle.std.proofs.Common.{◌≡◌, ◌+◌, ◌++◌, ◌∷◌, [], Some, sym, ap, subst, subst₂, ◌∙◌, take, get_or}
use Rattle.std.proofs.lemmas.Option.{slice_get-get_or}
use Rattle.std.proofs.lemmas.List.{take_all}
use Rattle.al_event.specs.declared.act.Block.TheVariants.{Global}
use Rattle.al_event.specs.Store.{new_place, spans_of}
use Rattle.al_core.specs.Placing.{Placed}
use Rattle.al_core.proofs.Filling.{zeros_of, block_more, block_none, placed_is, place_none, from_none}
use Rattle.al_core.proofs.start.put_blocks.Goals as goal

pub loop-size-preserved : goal.loop-size-preserved
loop-size-preserved c =
    let h = c.loop-size.invariant in
    let sizes = c.args.sizes.now in
    let k = c.loop-size.size-index in
    let t = c.loop-size.store.blocks in
    let is = placed_is _ t _ _ _ Global c.in-Ok.ensures.ok in
    let place = subst (λ r. new_place r (spans_of t) (get_or sizes k 0) ≡ Some c.in-Ok.at) h.region is.0 in
    let more = block_more c.args.store.now.region sizes c.loop-size.places.items t k (get_or sizes k 0) c.in-Ok.at h.placed (slice_get-get_or sizes k 0 c.loop-size-test.true) place in
    let pushed : c.push.new.self.items ≡ c.loop-size.places.items ++ c.in-Ok.at ∷ [] = c.in_ok-push-in-Ok.ensures.items in
    record {
      region = c.in-Ok.ensures.region ∙ h.region;
      placed = subst₂ (λ ps u. Placed c.args.store.now.region (zeros_of (take (k + 1) sizes)) ps [] u) (sym pushed) (sym is.1) more;
    }

pub returns-in-Err-clause-none : goal.returns-in-Err-clause-none
returns-in-Err-clause-none c =
    let h = c.loop-size.invariant in
    let sizes = c.args.sizes.now in
    let k = c.loop-size.size-index in
    let t = c.loop-size.store.blocks in
    let none = place_none _ t (get_or sizes k 0) Global _ c.in-Err.ensures.err in
    block_none c.args.store.now.region sizes c.loop-size.places.items t k (get_or sizes k 0) h.placed (slice_get-get_or sizes k 0 c.loop-size-test.true) (subst (λ r. new_place r (spans_of t) (get_or sizes k 0) ≡ _) h.region none)

pub returns-clause-placed : goal.returns-clause-placed
returns-clause-placed c =
    let h = c.loop-size.invariant in
    let sizes = c.args.sizes.now in
    subst (λ gs. Placed c.args.store.now.region gs c.loop-size.places.items [] c.loop-size.store.blocks) (ap zeros_of (take_all c.loop-size.size-index sizes c.loop-size-test.false) ∙ sym (from_none 0 sizes)) h.placed
