use Rattle.std.proofs.Common.{◌≡◌, [], None, sym, ap, refl, subst, ◌∙◌, Some}
use Rattle.std.specs.Prelude.{IfNone}
use Rattle.al_world.specs.Step.{with_globals}
use Rattle.al_core.specs.Opening.{globals_from, globals_of}
use Rattle.al_core.proofs.Placing.{placed_fits, none_by_sizes}
use Rattle.al_core.proofs.Filling.{sizes_none, sizes_all, items_row}
use Rattle.al_core.proofs.start.store_of.Goals as goal

pub returns-in-Some-clause-some : goal.returns-in-Some-clause-some
returns-in-Some-clause-some c =
    let region : c.put_blocks.new.store.region ≡ c.args.bytes = c.put_blocks.ensures.region ∙ ap (λ s. s.region) c.in_ok-store.ensures.empty in
    subst (λ r. with_globals r (globals_of c.args.image.now) [] ≡ Some c.put_items.new.store.blocks) region (placed_fits c.put_blocks.new.store.region (globals_of c.args.image.now) c.as_slice-in-Some.result.now [] c.put_items.new.store.blocks c.put_items.ensures.placed)

pub returns-in-None-clause-none : goal.returns-in-None-clause-none
returns-in-None-clause-none c =
    let image = c.args.image.now in
    let none = subst (λ o. IfNone o (with_globals c.in_ok-store.store.region (globals_from [] 0 c.as_slice.result.now) [] ≡ None)) c.in-None.is c.in_ok-places.ensures.none in
    let sized = subst (λ sizes. with_globals c.in_ok-store.store.region (globals_from [] 0 sizes) [] ≡ None) c.as_slice.ensures.value none in
    let region = subst (λ r. with_globals r (globals_from [] 0 image.globals) [] ≡ None) (ap (λ s. s.region) c.in_ok-store.ensures.empty) sized in
    none_by_sizes c.args.bytes (globals_from [] 0 image.globals) (globals_of image) [] [] (sizes_none image.globals ∙ sym (sizes_all image.items image.globals (items_row image c.requires.within))) refl region
