-- The first world of a program of sound types, within the measures and short, has numbers that fit.
use Rattle.std.proofs.Common.{◌≡◌, ℕ, suc, ◌+◌, ◌*◌, ◌<◌, ◌≤◌, Bool, true, false, if◌then◌else◌, List, [], ◌∷◌, length, refl, arith, inl, inr, take, map, zero}
use Rattle.std.specs.Prelude.{◌^◌, filter, fold, Option, Some, None}
use Rattle.std.specs.List.{AllByRecursion}
use Rattle.std.proofs.lemmas.Bool.{and_parts}
use Rattle.std.proofs.lemmas.List.Elements.{All-contains, All-filter, All-from_recursion, All-weaker, recursion_from_All}
use Rattle.al_store.specs.Memory.{IsWidth}
use Rattle.al_typed.specs.declared.layout.Unit.{Unit}
use Rattle.al_typed.specs.declared.program.Function.{Function as FunctionRow}
use Rattle.al_typed.specs.declared.program.Global.{Global}
use Rattle.al_typed.specs.declared.program.StartValue.{StartValue}
use Rattle.al_typed.specs.declared.program.StartWord.{StartWord}
use Rattle.al_typed.specs.declared.program.StartWord.TheVariants as start
use Rattle.al_typed.specs.declared.program.Program.{Program}
use Rattle.al_typed.specs.Layout.{size_of, units_of}
use Rattle.al_typed.specs.Measures.{IsWithin}
use Rattle.al_typed.specs.Sound.{HasSoundTypes, IsShort, IsSoundGlobal}
use Rattle.al_typed.specs.WellTyped.{FitsIn, Starts, is_sound}
use Rattle.al_meaning.specs.Places.{behind, block_sizes, function_at, shared_before, is_shared_global, text_place}
use Rattle.al_typed.specs.Types.{is_complete}
use Rattle.al_event.specs.Store.{region_base}
use Rattle.std.proofs.lemmas.Grind.{div_ceil_times}
use Rattle.al_fits.proofs.Going.{each_append}
use Rattle.al_fits.proofs.Rooms.{begin_fits, block_count}
use Rattle.al_opening.specs.Opening.{GlobalFits, OpeningFits, StartFits, WordFits}
use Rattle.al_step.specs.Sources.{MainFits, words_of_parameters}
use Rattle.al_step.specs.Sources as sources
use Rattle.al_fits.proofs.Sizes.{sound_small}
use Rattle.al_fits.proofs.Units.{units_are}
use Rattle.al_fits.proofs.Bytes.{some_bytes}
use Rattle.al_fits.proofs.Weights.{few_parameters, few_private}
use Rattle.al_fits.proofs.Opened.{start_within}

few_bytes : (n : ℕ) → IsWidth n → n ≤ 4
few_bytes n (inl e) = omega (arith, e)
few_bytes n (inr (inl e)) = omega (arith, e)
few_bytes n (inr (inr e)) = omega (arith, e)

-- ---- places of strings

next_place : (at size : ℕ) → behind at size ≤ at + size + 7
next_place at size = let above = (div_ceil_times size 8 (omega arith)).1 in omega arith

places_low : (sizes : List ℕ) (at n : ℕ) → AllByRecursion (λ (s : ℕ). s ≤ 2 ^ 32) sizes → fold behind at (take n sizes) ≤ at + length sizes * (2 ^ 32 + 7)
places_low [] at zero h = omega arith
places_low [] at (suc n) h = omega arith
places_low (s ∷ sizes) at zero h = omega arith
places_low (s ∷ sizes) at (suc n) h =
    one_more at s (length sizes) (behind at s) (fold behind (behind at s) (take n sizes)) h.0 (next_place at s) (places_low sizes (behind at s) n h.1)
  where
    one_more : (at s len next end : ℕ) → s ≤ 2 ^ 32 → next ≤ at + s + 7 → end ≤ next + len * (2 ^ 32 + 7) → end ≤ at + suc len * (2 ^ 32 + 7)
    one_more at s len next end a b c = omega arith

fewer_kept : {A : Type 0} (f : A → Bool) (xs : List A) → length (filter f xs) ≤ length xs
fewer_kept f [] = omega arith
fewer_kept f (x ∷ xs) = on (f x) (fewer_kept f xs)
  where
    on : (b : Bool) → length (filter f xs) ≤ length xs → length (if b then x ∷ filter f xs else filter f xs) ≤ suc (length xs)
    on true le = omega arith
    on false le = omega arith

global_sizes_low : (p : Program) (gs : List Global) → AllByRecursion (IsSoundGlobal p) gs → AllByRecursion (λ (s : ℕ). s ≤ 2 ^ 32) (map (λ (g : Global). size_of p.aggregates g.ty) gs)
global_sizes_low p [] h = tt
global_sizes_low p (g ∷ gs) h =
    (omega (arith, sound_small p g.ty (and_parts (is_sound p.aggregates g.ty) (is_complete p.aggregates g.ty) h.0.stored).0), global_sizes_low p gs h.1)

text_sizes_low : (texts : List (List ℕ)) → AllByRecursion (λ (s : List ℕ). length s + 1 < 2 ^ 32) texts → AllByRecursion (λ (s : ℕ). s ≤ 2 ^ 32) (map (λ s. length s + 1) texts)
text_sizes_low [] h = tt
text_sizes_low (s ∷ texts) h = (omega (arith, h.0), text_sizes_low texts h.1)

module _ (p : Program) (W : HasSoundTypes p) (M : IsWithin p) (S : IsShort p) where
  text_low : (number : ℕ) → text_place p number + 1 < 2 ^ 64
  text_low number =
      let gs : List Global = filter is_shared_global p.globals in
      let sizes = each_append (λ (s : ℕ). s ≤ 2 ^ 32) (map (λ (g : Global). size_of p.aggregates g.ty) gs) (map (λ s. length s + 1) p.strings)
      (global_sizes_low p gs (recursion_from_All (IsSoundGlobal p) gs (All-filter is_shared_global (IsSoundGlobal p) p.globals W.globals)))
      (text_sizes_low p.strings (recursion_from_All (λ (s : List ℕ). length s + 1 < 2 ^ 32) p.strings S.strings)) in
      bounded (length (block_sizes p)) (text_place p number)
      (omega (arith, block_count p, fewer_kept is_shared_global p.globals, S.globals, S.texts))
      (places_low (block_sizes p) region_base (shared_before p (length p.globals) + number) sizes)
    where
      bounded : (count place : ℕ) → count ≤ 2 ^ 29 → place ≤ region_base + count * (2 ^ 32 + 7) → place + 1 < 2 ^ 64
      bounded count place few low = omega arith

  word_fits : (size : ℕ) (word : StartWord) → FitsIn p size word → WordFits p word
  word_fits size (start.Number n) h = tt
  word_fits size (start.Text number) h = text_low number

  value_fits : (g : Global) (v : StartValue) → Starts p g v → StartFits p (size_of p.aggregates g.ty) v
  value_fits g v s =
      let units = units_of p.aggregates g.ty in
      record {
        within = start_within p g v s;
        few =
            few_bytes v.size
            (All-contains (λ (u : Unit). IsWidth u.size) units (record { at = v.at; size = v.size })
            (All-from_recursion (λ (u : Unit). IsWidth u.size) units (units_are p.aggregates g.ty)) s.0);
        word = word_fits v.size v.word s.1;
      }

  global_fits : (g : Global) → IsSoundGlobal p g → GlobalFits p g
  global_fits g h =
      let stored = and_parts (is_sound p.aggregates g.ty) _ h.stored in
      record {
        small = sound_small p g.ty stored.0;
        some = some_bytes p W g.ty stored.0 stored.1;
        starts = All-weaker (Starts p g) (StartFits p (size_of p.aggregates g.ty)) (value_fits g) g.start h.starts;
      }

  opening_fits : OpeningFits p
  opening_fits = record {
    globals =
        All-weaker (IsSoundGlobal p) (GlobalFits p) global_fits (filter is_shared_global p.globals)
        (All-filter is_shared_global (IsSoundGlobal p) p.globals W.globals);
    strings = S.strings;
  }

  -- ---- words

  main_words : MainFits p
  main_words = on (function_at p p.main) refl
    where
      on : (o : Option FunctionRow) → function_at p p.main ≡ o → words_of_parameters p o + 1 < 2 ^ 64
      on None e = omega arith
      on (Some f) e = omega (arith, few_parameters p M p.main f e)

  pub starts_fit : sources.StartFits p
  starts_fit = record {
    opening = opening_fits;
    privates = omega (arith, few_private p M);
    parameters = main_words;
    main = begin_fits p W p.main;
  }
