-- The first world of a program of sound types.
use Rattle.std.proofs.Common.{◌≡◌, ℕ, Bool, if◌then◌else◌, ◌+◌, ◌↔◌, false, List, [], ◌∷◌, ◌++◌, map, length, take, Option, Some, None, refl, ap, sym, ◌∙◌, subst, arith}
use Rattle.std.specs.Prelude.{All, fold, option_map, slice_get}
use Rattle.std.proofs.lemmas.List.{length-map}
use Rattle.std.proofs.lemmas.Option.{get_or_from_slice_get, same_Some, slice_get_within}
use Rattle.al_base.specs.declared.over.Over.TheVariants.{Trapped}
use Rattle.al_base.specs.declared.trap.Trap.TheVariants.{Memory}
use Rattle.al_event.specs.Store.{Live, region_base, spans_of}
use Rattle.al_region.specs.Region.{IsLaid}
use Rattle.al_world.specs.World.{World}
use Rattle.al_world.specs.Step.{opening, opening_with, with_globals}
use Rattle.al_typed.specs.declared.program.Global.{Global}
use Rattle.al_typed.specs.declared.program.Program.{Program}
use Rattle.al_typed.specs.Sound.{HasSoundTypes, IsSoundGlobal}
use Rattle.al_meaning.specs.Places.{behind, block_place, shared_before, global_place, global_bytes, text_place, opening_blocks}
use Rattle.al_meaning.specs.Items.{Address, Private}
use Rattle.al_meaning.specs.Evaluate.{is_private_global}
use Rattle.al_meaning.specs.Meaning.{main_start, run, source}
use Rattle.al_fits.proofs.Blocks.{Filled}
use Rattle.al_fits.proofs.Opened.{blocks_some, sizes_are}
use Rattle.al_opens.specs.Standing.{block_at, HaveRoom, Stand}
use Rattle.al_opens.proofs.Placed.{Placed, all_find_room, all_stand, block_number, blocks_from, ends_within}
use Rattle.al_opens.proofs.Positions.{global_block, text_block}
use Rattle.al_opens.proofs.Reading.{reads}
use Rattle.al_opens.proofs.Started.{is_started}

none_filled : Filled [] region_base
none_filled = record { from = omega arith; aligned = refl; before = tt; covered = λ k m low lt eights one. absurd (omega arith) }

some_is_none : {A : Type 0} (x : A) → Some x ≡ None → ⊥
some_is_none x e = cc

-- what holds of all elements holds of this one
row_is : {A : Type 0} (P : A → Type 0) (xs : List A) (k : ℕ) (x : A) → All P xs → slice_get xs k ≡ Some x → P x
row_is P xs k x all e = subst P (get_or_from_slice_get xs k x x e) (all k x (slice_get_within xs k x e))

module _ (p : Program) (W : HasSoundTypes p) (region : ℕ) where
  place_is : (n : ℕ) → fold behind region_base (take n (map length (opening_blocks p))) ≡ block_place p n
  place_is n = ap (λ sizes. fold behind region_base (take n sizes)) (sizes_are p W)

  module _ (store : List Live) (opened : with_globals region (opening_blocks p) [] ≡ Some store) where
    placed : Placed region region_base (opening_blocks p) [] store
    placed = all_stand region (opening_blocks p) [] region_base store none_filled (blocks_some p W) opened

    laid : IsLaid region_base (spans_of (blocks_from region_base (opening_blocks p))) (region_base + region)
    laid = placed.laid region_base (omega arith) (omega arith)

    apart : IsLaid region_base (spans_of store) (region_base + region)
    apart = subst (λ s. IsLaid region_base (spans_of s) (region_base + region)) (sym placed.all) laid

    number : (n : ℕ) → slice_get store n ≡ option_map (block_at (block_place p n)) (slice_get (opening_blocks p) n)
    number n =
        ap (λ s. slice_get s n) placed.all
        ∙ (block_number (opening_blocks p) region_base n ∙ ap (λ at. option_map (block_at at) (slice_get (opening_blocks p) n)) (place_is n))

    the_global : (k : ℕ) (g : Global) → slice_get p.globals k ≡ Some g → g.is_private ≡ false → slice_get store (shared_before p k) ≡ Some (block_at (global_place p k) (global_bytes p g))
    the_global k g e here = number (shared_before p k) ∙ ap (option_map (block_at (global_place p k))) (global_block p k g e here)

    the_text : (k : ℕ) (text : List ℕ) → slice_get p.strings k ≡ Some text → slice_get store (shared_before p (length p.globals) + k) ≡ Some (block_at (text_place p k) (text ++ 0 ∷ []))
    the_text k text e = number (shared_before p (length p.globals) + k) ∙ ap (option_map (block_at (text_place p k))) (text_block p k text e)

    stand : Stand p region store
    stand = record {
      blocks = number;
      found = λ k g e here. ap (λ (b : Bool). if b then Private k else Address (global_place p k)) (ap is_private_global e ∙ here);
      globals = the_global;
      globals_read = λ k g e here. reads store region_base (region_base + region) (shared_before p k) (global_place p k) (global_bytes p g) apart (the_global k g e here);
      globals_start = λ k g e. is_started p g (row_is (IsSoundGlobal p) p.globals k g W.globals e);
      strings = the_text;
      strings_read = λ k text e. reads store region_base (region_base + region) (shared_before p (length p.globals) + k) (text_place p k) (text ++ 0 ∷ []) apart (the_text k text e);
      apart = apart;
    }

    room : HaveRoom p region
    room = record {
      few = let few = placed.few (omega arith) in omega (arith, few, sym (ap length (sizes_are p W)), length-map (opening_blocks p) length);
      within = λ n size e.
          let ends = ends_within region (opening_blocks p) region_base region_base n size laid (ap (λ sizes. slice_get sizes n) (sizes_are p W) ∙ e) in
          omega (arith, ends, place_is n);
    }

  has_opened : HaveRoom p region → (r : List Live) × (with_globals region (opening_blocks p) [] ≡ Some r)
  has_opened R =
      all_find_room region (opening_blocks p) [] region_base none_filled (blocks_some p W) (let few = R.few in omega (arith, few, ap length (sizes_are p W), length-map (opening_blocks p) length))
      (λ n size e. let within = R.within n size (sym (ap (λ sizes. slice_get sizes n) (sizes_are p W)) ∙ e) in omega (arith, within, place_is n))

  abbrev first : Option (List Live) → World (source p)
  first o = record (opening (source p) region (opening_blocks p) (main_start p)) { shared = opening_with region o }

  pub first_stands : (w : World (source p)) → run p region [] ≡ Some w → w.shared.over ≡ None → Stand p region w.shared.store
  first_stands w e over = on (with_globals region (opening_blocks p) []) refl (same_Some _ w e)
    where
      on : (o : Option (List Live)) → with_globals region (opening_blocks p) [] ≡ o → first o ≡ w → Stand p region w.shared.store
      on None is same = absurd (some_is_none (Trapped Memory 0 0) (ap (λ (w : World (source p)). w.shared.over) same ∙ over))
      on (Some r) is same = subst (λ (w : World (source p)). Stand p region w.shared.store) same (stand r is)

  room_where_opened : (w : World (source p)) → run p region [] ≡ Some w → w.shared.over ≡ None → HaveRoom p region
  room_where_opened w e over = on (with_globals region (opening_blocks p) []) refl (same_Some _ w e)
    where
      on : (o : Option (List Live)) → with_globals region (opening_blocks p) [] ≡ o → first o ≡ w → HaveRoom p region
      on None is same = absurd (some_is_none (Trapped Memory 0 0) (ap (λ (w : World (source p)). w.shared.over) same ∙ over))
      on (Some r) is same = room r is

  opened_where_room : (w : World (source p)) → run p region [] ≡ Some w → HaveRoom p region → w.shared.over ≡ None
  opened_where_room w e R =
      sym (ap (λ (w : World (source p)). w.shared.over) (same_Some _ w e)) ∙ ap (λ o. (opening_with region o).over) (has_opened R).1

  pub opens_where_room : (w : World (source p)) → run p region [] ≡ Some w → (w.shared.over ≡ None) ↔ HaveRoom p region
  opens_where_room w e = (room_where_opened w e, opened_where_room w e)
