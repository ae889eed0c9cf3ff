use Rattle.std.proofs.Common.{◌≡◌, refl, [], sym, subst, subst₂, ◌∙◌, arith, map, length}
use Rattle.rv_isa.specs.declared.image.Item.{Item}
use Rattle.al_core.specs.Opening.{globals_from}
use Rattle.al_core.specs.Placing.{Placed}
use Rattle.al_core.proofs.Filling.{item_at, sizes_none, same_blocks}
use Rattle.al_core.proofs.start.put_items.Goals as goal

pub loop-item-init : goal.loop-item-init
loop-item-init c = record { region = refl; placed = c.requires.placed; sizes = sizes_none c.args.image.now.globals }

abbrev zero : Item
zero = record { global = 0; offset = 0; size = 0; value = 0 }

pub bounds-places-item : goal.bounds-places-item
bounds-places-item c =
    let h = c.loop-item.invariant in
    (item_at c.args.store.now.region c.args.image.now c.args.places.now c.loop-item.store.blocks c.loop-item.item-index c.as_slice-item-items.result.now zero c.requires.within c.as_slice-item-items.ensures.value c.loop-item-test.true h.placed h.sizes).within

pub overflow_add-at : goal.overflow_add-at
overflow_add-at c =
    let h = c.loop-item.invariant in
    let s = (item_at c.args.store.now.region c.args.image.now c.args.places.now c.loop-item.store.blocks c.loop-item.item-index c.as_slice-item-items.result.now zero c.requires.within c.as_slice-item-items.ensures.value c.loop-item-test.true h.placed h.sizes).stored in
    let e = s.ends in
    let r = c.requires.region in
    omega (arith, e, r)

pub store-requires : goal.store-requires
store-requires c =
    let h = c.loop-item.invariant in
    (item_at c.args.store.now.region c.args.image.now c.args.places.now c.loop-item.store.blocks c.loop-item.item-index c.as_slice-item-items.result.now zero c.requires.within c.as_slice-item-items.ensures.value c.loop-item-test.true h.placed h.sizes).stored.width

pub unreachable-requires : goal.unreachable-requires
unreachable-requires c =
    let h = c.loop-item.invariant in
    let s = (item_at c.args.store.now.region c.args.image.now c.args.places.now c.loop-item.store.blocks c.loop-item.item-index c.as_slice-item-items.result.now zero c.requires.within c.as_slice-item-items.ensures.value c.loop-item-test.true h.placed h.sizes).stored in
    let no = sym s.is ∙ c.in-Err.ensures.err in
    absurd (cc)

pub loop-item-preserved : goal.loop-item-preserved
loop-item-preserved c =
    let h = c.loop-item.invariant in
    let image = c.args.image.now in
    let x = item_at c.args.store.now.region image c.args.places.now c.loop-item.store.blocks c.loop-item.item-index c.as_slice-item-items.result.now zero c.requires.within c.as_slice-item-items.ensures.value c.loop-item-test.true h.placed h.sizes in
    let s = x.stored in
    let same = same_blocks _ _ (sym s.is ∙ c.in-Ok.ensures.ok) in
    record {
      region = c.in-Ok.ensures.region ∙ h.region;
      placed = subst₂ (λ items u. Placed c.args.store.now.region (globals_from items 0 image.globals) c.args.places.now [] u) x.next same s.placed;
      sizes = subst (λ items. map length (globals_from items 0 image.globals) ≡ image.globals) x.next s.sizes_are;
    }
