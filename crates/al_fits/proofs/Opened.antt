-- A first world that is not over has room for all that starts.
use Rattle.std.proofs.Common.{◌≡◌, ℕ, zero, suc, ◌+◌, ◌/◌, ◌<◌, ◌≤◌, List, [], ◌∷◌, ◌++◌, map, length, length-append, take, drop, Option, Some, None, refl, ap, ap₂, sym, ◌∙◌, arith}
use Rattle.std.specs.Prelude.{◌^◌, filter, fold, replicate}
use Rattle.std.specs.List.{AllByRecursion}
use Rattle.std.proofs.lemmas.Bool.{and_parts}
use Rattle.std.proofs.lemmas.List.{length-take, length-drop, length-replicate, map-append}
use Rattle.std.proofs.lemmas.List.Elements.{All-contains, All-filter, All-from_recursion, recursion_from_All}
use Rattle.al_event.specs.declared.entry.Entry.{Entry}
use Rattle.al_event.specs.Store.{Live, bytes_of, overwritten, region_base}
use Rattle.al_world.specs.World.{World}
use Rattle.al_world.specs.Step.{opening, opening_with, step, with_globals}
use Rattle.al_world.specs.Step as world
use Rattle.al_typed.specs.declared.layout.Unit.{Unit}
use Rattle.al_typed.specs.declared.program.Global.{Global}
use Rattle.al_typed.specs.declared.program.StartValue.{StartValue}
use Rattle.al_typed.specs.declared.program.Program.{Program}
use Rattle.al_typed.specs.Layout.{size_of, units_of}
use Rattle.al_typed.specs.Types.{is_complete}
use Rattle.al_typed.specs.Measures.{IsWithin}
use Rattle.al_typed.specs.Sound.{HasSoundTypes, IsSoundGlobal}
use Rattle.al_typed.specs.WellTyped.{Starts, is_sound}
use Rattle.al_meaning.specs.Places.{behind, block_place, block_sizes, global_bytes, is_shared_global, opening_blocks, start_number, with_start}
use Rattle.al_meaning.specs.Meaning.{main_start, run, source}
use Rattle.al_fits.specs.Controls.{HasRoom}
use Rattle.al_fits.proofs.Going.{each_append}
use Rattle.al_fits.proofs.Within.{units_within}
use Rattle.al_fits.proofs.Bytes.{some_bytes}
use Rattle.al_fits.proofs.Blocks.{Filled, all_placed}
use Rattle.al_weights.proofs.Weights.{few_functions}
use Rattle.al_fits.proofs.Weights.{few_iterators}

-- ---- how many bytes blocks have

pub length-bytes : (n w : ℕ) → length (bytes_of n w) ≡ n
length-bytes zero w = refl
length-bytes (suc n) w = omega (arith, length-bytes n (w / 256))

length-overwritten : (xs : List ℕ) (k : ℕ) (ys : List ℕ) → k + length ys ≤ length xs → length (overwritten xs k ys) ≡ length xs
length-overwritten xs k ys le =
    length-append (take k xs) (ys ++ drop (k + length ys) xs)
    ∙ omega (arith, le, length-append ys (drop (k + length ys) xs), length-take k xs, length-drop (k + length ys) xs)

pub length-started : (p : Program) (size : ℕ) (starts : List StartValue) (bytes : List ℕ) → length bytes ≡ size
    → AllByRecursion (λ (v : StartValue). v.at + v.size ≤ size) starts → length (fold (with_start p) bytes starts) ≡ size
length-started p size [] bytes e h = e
length-started p size (v ∷ starts) bytes e h =
    let count = length-bytes v.size (start_number p v.word) in
    length-started p size starts (with_start p bytes v)
    (length-overwritten bytes v.at (bytes_of v.size (start_number p v.word)) (omega (arith, e, h.0, count)) ∙ e) h.1

-- a start value lies in its global
pub start_within : (p : Program) (g : Global) (v : StartValue) → Starts p g v → v.at + v.size ≤ size_of p.aggregates g.ty
start_within p g v s =
    let n = size_of p.aggregates g.ty in
    let units = units_of p.aggregates g.ty in
    All-contains (λ (u : Unit). u.at + u.size ≤ n) units (record { at = v.at; size = v.size })
    (All-from_recursion (λ (u : Unit). u.at + u.size ≤ n) units (units_within p.aggregates g.ty)) s.0

each_weaker : {A : Type 0} (P Q : A → Type 0) → ((a : A) → P a → Q a) → (xs : List A) → AllByRecursion P xs → AllByRecursion Q xs
each_weaker P Q f [] h = tt
each_weaker P Q f (x ∷ xs) h = (f x h.0, each_weaker P Q f xs h.1)

pub length-global : (p : Program) (g : Global) → IsSoundGlobal p g → length (global_bytes p g) ≡ size_of p.aggregates g.ty
length-global p g h =
    length-started p (size_of p.aggregates g.ty) g.start (replicate (size_of p.aggregates g.ty) 0) (length-replicate (size_of p.aggregates g.ty) 0)
    (each_weaker (Starts p g) (λ (v : StartValue). v.at + v.size ≤ size_of p.aggregates g.ty) (start_within p g) g.start (recursion_from_All (Starts p g) g.start h.starts))

global_sizes : (p : Program) (gs : List Global) → AllByRecursion (IsSoundGlobal p) gs → map length (map (global_bytes p) gs) ≡ map (λ (g : Global). size_of p.aggregates g.ty) gs
global_sizes p [] h = refl
global_sizes p (g ∷ gs) h = ap₂ (λ n ns. n ∷ ns) (length-global p g h.0) (global_sizes p gs h.1)

text_sizes : (texts : List (List ℕ)) → map length (map (λ s. s ++ 0 ∷ []) texts) ≡ map (λ s. length s + 1) texts
text_sizes [] = refl
text_sizes (s ∷ texts) = ap₂ (λ n ns. n ∷ ns) (length-append s (0 ∷ [])) (text_sizes texts)

module _ (p : Program) (W : HasSoundTypes p) where
  shared : AllByRecursion (IsSoundGlobal p) (filter is_shared_global p.globals)
  shared = recursion_from_All (IsSoundGlobal p) (filter is_shared_global p.globals) (All-filter is_shared_global (IsSoundGlobal p) p.globals W.globals)

  pub sizes_are : map length (opening_blocks p) ≡ block_sizes p
  sizes_are =
      map-append length (map (global_bytes p) (filter is_shared_global p.globals)) (map (λ s. s ++ 0 ∷ []) p.strings)
      ∙ ap₂ (λ ms ns. ms ++ ns) (global_sizes p (filter is_shared_global p.globals) shared) (text_sizes p.strings)

  globals_some : (gs : List Global) → AllByRecursion (IsSoundGlobal p) gs → AllByRecursion (λ (b : List ℕ). 1 ≤ length b) (map (global_bytes p) gs)
  globals_some [] h = tt
  globals_some (g ∷ gs) h =
      let stored = and_parts (is_sound p.aggregates g.ty) (is_complete p.aggregates g.ty) h.0.stored in
      (omega (arith, length-global p g h.0, some_bytes p W g.ty stored.0 stored.1), globals_some gs h.1)

  texts_some : (texts : List (List ℕ)) → AllByRecursion (λ (b : List ℕ). 1 ≤ length b) (map (λ s. s ++ 0 ∷ []) texts)
  texts_some [] = tt
  texts_some (s ∷ texts) = (omega (arith, length-append s (0 ∷ [])), texts_some texts)

  pub blocks_some : AllByRecursion (λ (b : List ℕ). 1 ≤ length b) (opening_blocks p)
  blocks_some =
      each_append (λ (b : List ℕ). 1 ≤ length b) (map (global_bytes p) (filter is_shared_global p.globals)) (map (λ s. s ++ 0 ∷ []) p.strings)
      (globals_some (filter is_shared_global p.globals) shared) (texts_some p.strings)

  -- where all blocks have a place in a region of at most 256 MiB
  pub blocks_lie : (region : ℕ) (r : List Live) → region ≤ 2 ^ 28 → with_globals region (opening_blocks p) [] ≡ Some r → (n : ℕ) → block_place p n < 2 ^ 32
  blocks_lie region r le e n =
      let F : Filled [] region_base = record { from = omega arith; aligned = refl; before = tt; covered = λ k m low lt eights one. absurd (omega arith) } in
      let placed = all_placed region (opening_blocks p) [] region_base r F (omega arith) blocks_some e n in
      let same : block_place p n ≡ fold behind region_base (take n (map length (opening_blocks p))) = ap (λ sizes. fold behind region_base (take n sizes)) (sym sizes_are) in
      omega arith

-- ---- runs

-- a run whose world is not over began with all blocks
none_run : (p : Program) (h : List Entry) (w : World (source p)) → world.run (source p) h None ≡ Some w → ⊥
none_run p [] w e = cc
none_run p (x ∷ h) w e = none_run p h w e

abbrev Opens : Program → ℕ → Type 0
Opens p region = (r : List Live) × (with_globals region (opening_blocks p) [] ≡ Some r)

began : (p : Program) (region : ℕ) (h : List Entry) (w : World (source p)) → run p region h ≡ Some w → w.shared.over ≡ None → Opens p region
began p region h w e over = on (with_globals region (opening_blocks p) []) refl h e
  where
    first : Option (List Live) → World (source p)
    first o = record (opening (source p) region (opening_blocks p) (main_start p)) { shared = opening_with region o }

    on : (o : Option (List Live)) → with_globals region (opening_blocks p) [] ≡ o → (h : List Entry) → world.run (source p) h (Some (first o)) ≡ Some w → Opens p region
    on (Some r) is h e = (r, is)
    on None is [] e = let same : first None ≡ w = cc in absurd (let end = ap (λ (w : World (source p)). w.shared.over) same ∙ over in cc)
    on None is (x ∷ h) e = absurd (none_run p h w e)

pub room_of : (p : Program) → HasSoundTypes p → IsWithin p → (region : ℕ) (h : List Entry) (w : World (source p)) → region ≤ 2 ^ 28 → run p region h ≡ Some w
    → w.shared.over ≡ None → HasRoom p
room_of p W M region h w le e over =
    let opens = began p region h w e over in
    record {
      blocks = λ n within. blocks_lie p W region opens.0 le opens.1 n;
      functions = few_functions p M W;
      iterators = few_iterators p M;
    }
