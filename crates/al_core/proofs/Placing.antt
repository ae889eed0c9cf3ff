-- Blocks of globals, put into a store one after another.
use Rattle.std.proofs.Common.{◌≡◌, ℕ, zero, suc, ◌+◌, ◌-◌, ◌/◌, ◌≤◌, Bool, true, false, cond, ltb, List, [], ◌∷◌, ◌++◌, length, map, Option, Some, None, refl, sym, ap, ap₂, subst, ◌∙◌, arith, rules}
use Rattle.std.specs.Prelude.{option_and_then}
use Rattle.std.proofs.lemmas.Bool.Decides.{nat_tests}
use Rattle.std.proofs.lemmas.List.{places}
use Rattle.al_event.specs.declared.act.Block.TheVariants.{Global}
use Rattle.al_event.specs.Store.{Span, Live, lies_in, new_place, span_of, spans_of, with_span, with_block, with_word, bytes_of, overwritten}
use Rattle.al_world.specs.Step.{with_globals}
use Rattle.al_core.specs.Placing.{Placed}

-- a global's block
abbrev pub block : ℕ → List ℕ → Live
block at bytes = record { at = at; kind = Global; bytes = bytes }

-- ---- one block more

pub placed_end : (region : ℕ) (gs : List (List ℕ)) (ps : List ℕ) (s t : List Live) (bytes : List ℕ) (at : ℕ) → Placed region gs ps s t → new_place region (spans_of t) (length bytes) ≡ Some at → Placed region (gs ++ bytes ∷ []) (ps ++ at ∷ []) s (with_block (block at bytes) t)
placed_end region [] [] s t bytes at p n = (subst (λ l. new_place region (spans_of l) (length bytes) ≡ Some at) p n, ap (with_block (block at bytes)) p)
placed_end region [] (q ∷ ps) s t bytes at p n = absurd p
placed_end region (g ∷ gs) [] s t bytes at p n = absurd p
placed_end region (g ∷ gs) (q ∷ ps) s t bytes at p n = (p.0, placed_end region gs ps _ t bytes at p.1 n)

pub placed_fits : (region : ℕ) (gs : List (List ℕ)) (ps : List ℕ) (s t : List Live) → Placed region gs ps s t → with_globals region gs s ≡ Some t
placed_fits region [] [] s t p = ap Some (sym p)
placed_fits region [] (q ∷ ps) s t p = absurd p
placed_fits region (g ∷ gs) [] s t p = absurd p
placed_fits region (g ∷ gs) (q ∷ ps) s t p =
    ap (option_and_then (λ at. with_globals region gs (with_block (block at g) s))) p.0 ∙ placed_fits region gs ps _ t p.1

pub placed_none : (region : ℕ) (gs : List (List ℕ)) (ps : List ℕ) (s t : List Live) (bytes : List ℕ) (rest : List (List ℕ)) → Placed region gs ps s t → new_place region (spans_of t) (length bytes) ≡ None → with_globals region (gs ++ bytes ∷ rest) s ≡ None
placed_none region [] [] s t bytes rest p n =
    ap (option_and_then (λ at. with_globals region rest (with_block (block at bytes) s))) (subst (λ l. new_place region (spans_of l) (length bytes) ≡ None) p n)
placed_none region [] (q ∷ ps) s t bytes rest p n = absurd p
placed_none region (g ∷ gs) [] s t bytes rest p n = absurd p
placed_none region (g ∷ gs) (q ∷ ps) s t bytes rest p n =
    ap (option_and_then (λ at. with_globals region (gs ++ bytes ∷ rest) (with_block (block at g) s))) p.0 ∙ placed_none region gs ps _ t bytes rest p.1 n

pub placed_length : (region : ℕ) (gs : List (List ℕ)) (ps : List ℕ) (s t : List Live) → Placed region gs ps s t → length ps ≡ length gs
placed_length region [] [] s t p = refl
placed_length region [] (q ∷ ps) s t p = absurd p
placed_length region (g ∷ gs) [] s t p = absurd p
placed_length region (g ∷ gs) (q ∷ ps) s t p = ap suc (placed_length region gs ps _ t p.1)

-- ---- whether they fit depends on their sizes alone

spans-with_block : (b : Live) (s : List Live) → spans_of (with_block b s) ≡ with_span (span_of b) (spans_of s)
spans-with_block b [] = refl
spans-with_block b (c ∷ cs) = on (ltb b.at c.at) (spans-with_block b cs)
  where
    on : (t : Bool) → spans_of (with_block b cs) ≡ with_span (span_of b) (spans_of cs) → map span_of (cond t (b ∷ c ∷ cs) (c ∷ with_block b cs)) ≡ cond t (span_of b ∷ span_of c ∷ spans_of cs) (span_of c ∷ with_span (span_of b) (spans_of cs))
    on true e = refl
    on false e = ap (λ l. span_of c ∷ l) e

same_head : (xs ys : List ℕ) (x y : ℕ) → x ∷ xs ≡ y ∷ ys → x ≡ y
same_head xs ys x y e = cc

same_tail : (xs ys : List ℕ) (x y : ℕ) → x ∷ xs ≡ y ∷ ys → xs ≡ ys
same_tail xs ys x y e = cc

abbrev sized : ℕ → ℕ → Span
sized at n = record { at = at; size = n; kind = Global }

pub none_by_sizes : (region : ℕ) (gs hs : List (List ℕ)) (s t : List Live) → map length gs ≡ map length hs → spans_of s ≡ spans_of t → with_globals region gs s ≡ None → with_globals region hs t ≡ None
none_by_sizes region [] hs s t e same none = absurd (cc)
none_by_sizes region (g ∷ gs) [] s t e same none = absurd (cc)
none_by_sizes region (g ∷ gs) (h ∷ hs) s t e same none = on (new_place region (spans_of s) (length g)) refl none (λ at n. none_by_sizes region gs hs (with_block (block at g) s) (with_block (block at h) t) (same_tail _ _ (length g) (length h) e) (spans-with_block (block at g) s ∙ ap₂ (λ n l. with_span (sized at n) l) size same ∙ sym (spans-with_block (block at h) t)) n)
  where
    size : length g ≡ length h
    size = same_head (map length gs) (map length hs) _ _ e

    there : new_place region (spans_of t) (length h) ≡ new_place region (spans_of s) (length g)
    there = ap₂ (λ l n. new_place region l n) (sym same) (sym size)

    on : (o : Option ℕ) → new_place region (spans_of s) (length g) ≡ o → option_and_then (λ at. with_globals region gs (with_block (block at g) s)) o ≡ None → ((at : ℕ) → with_globals region gs (with_block (block at g) s) ≡ None → with_globals region hs (with_block (block at h) t) ≡ None) → option_and_then (λ at. with_globals region hs (with_block (block at h) t)) (new_place region (spans_of t) (length h)) ≡ None
    on None is n more = ap (option_and_then (λ at. with_globals region hs (with_block (block at h) t))) (there ∙ is)
    on (Some at) is n more = ap (option_and_then (λ at. with_globals region hs (with_block (block at h) t))) (there ∙ is) ∙ more at n

pub length-bytes_of : (n word : ℕ) → length (bytes_of n word) ≡ n
length-bytes_of zero word = refl
length-bytes_of (suc n) word = ap suc (length-bytes_of n (word / 256))

pub length-overwritten : (xs ys : List ℕ) (k : ℕ) → k + length ys ≤ length xs → length (overwritten xs k ys) ≡ length xs
length-overwritten xs ys k within = search (rules, places)

map-in_order : (f : Live → Live) → ((b : Live) → (f b).at ≡ b.at) → (b : Live) (s : List Live) → map f (with_block b s) ≡ with_block (f b) (map f s)
map-in_order f at b [] = refl
map-in_order f at b (c ∷ cs) =
    on (ltb b.at c.at) (map-in_order f at b cs) ∙ sym (ap₂ (λ x y. cond (ltb x y) (f b ∷ f c ∷ map f cs) (f c ∷ with_block (f b) (map f cs))) (at b) (at c))
  where
    on : (t : Bool) → map f (with_block b cs) ≡ with_block (f b) (map f cs) → map f (cond t (b ∷ c ∷ cs) (c ∷ with_block b cs)) ≡ cond t (f b ∷ f c ∷ map f cs) (f c ∷ with_block (f b) (map f cs))
    on true e = refl
    on false e = ap (λ l. f c ∷ l) e

-- ---- a word is written

module _ (at n word : ℕ) where
  -- the bytes of a block after it
  abbrev pub after : ℕ → List ℕ → List ℕ
  after place bytes = (with_word at n word (block place bytes)).bytes

  abbrev pub written : List (List ℕ) → List ℕ → List (List ℕ)
  written [] ps = []
  written (g ∷ gs) [] = []
  written (g ∷ gs) (p ∷ ps) = after p g ∷ written gs ps

  size_kept : (b : Live) → length (with_word at n word b).bytes ≡ length b.bytes
  size_kept b = on (lies_in at n (span_of b)) refl
    where
      on : (t : Bool) → lies_in at n (span_of b) ≡ t → length (cond t (record b { bytes = overwritten b.bytes (at - b.at) (bytes_of n word) }) b).bytes ≡ length b.bytes
      on false e = refl
      on true e =
          let from : b.at ≤ at = grind (arith, nat_tests) in
          let to : at + n ≤ b.at + length b.bytes = grind (arith, nat_tests) in
          let l = length-bytes_of n word in
          length-overwritten b.bytes (bytes_of n word) (at - b.at) (omega (arith, l, from, to))

  place_kept : (b : Live) → (with_word at n word b).at ≡ b.at
  place_kept b = on (lies_in at n (span_of b))
    where
      on : (t : Bool) → (cond t (record b { bytes = overwritten b.bytes (at - b.at) (bytes_of n word) }) b).at ≡ b.at
      on false = refl
      on true = refl

  span_kept : (b : Live) → span_of (with_word at n word b) ≡ span_of b
  span_kept b = on (lies_in at n (span_of b)) (size_kept b)
    where
      on : (t : Bool) → length (cond t (record b { bytes = overwritten b.bytes (at - b.at) (bytes_of n word) }) b).bytes ≡ length b.bytes → span_of (cond t (record b { bytes = overwritten b.bytes (at - b.at) (bytes_of n word) }) b) ≡ span_of b
      on false e = refl
      on true e = ap (λ k. let s : Span = record { at = b.at; size = k; kind = b.kind } in s) e

  block_kept : (p : ℕ) (g : List ℕ) → with_word at n word (block p g) ≡ block p (after p g)
  block_kept p g = on (lies_in at n (span_of (block p g)))
    where
      on : (t : Bool) → cond t (block p (overwritten g (at - p) (bytes_of n word))) (block p g) ≡ block p (cond t (block p (overwritten g (at - p) (bytes_of n word))) (block p g)).bytes
      on false = refl
      on true = refl

  spans_kept : (s : List Live) → spans_of (map (with_word at n word) s) ≡ spans_of s
  spans_kept [] = refl
  spans_kept (b ∷ bs) = ap₂ (λ x xs. x ∷ xs) (span_kept b) (spans_kept bs)

  map-with_block : (b : Live) (s : List Live) → map (with_word at n word) (with_block b s) ≡ with_block (with_word at n word b) (map (with_word at n word) s)
  map-with_block b s = map-in_order (with_word at n word) place_kept b s

  pub placed_written : (region : ℕ) (gs : List (List ℕ)) (ps : List ℕ) (s t : List Live) → Placed region gs ps s t → Placed region (written gs ps) ps (map (with_word at n word) s) (map (with_word at n word) t)
  placed_written region [] [] s t p = ap (map (with_word at n word)) p
  placed_written region [] (q ∷ ps) s t p = absurd p
  placed_written region (g ∷ gs) [] s t p = absurd p
  placed_written region (g ∷ gs) (q ∷ ps) s t p = (
    ap₂ (λ l k. new_place region l k) (spans_kept s) (size_kept (block q g)) ∙ p.0,
    subst (λ l. Placed region (written gs ps) ps l (map (with_word at n word) t)) (map-with_block (block q g) s ∙ ap (λ b. with_block b (map (with_word at n word) s)) (block_kept q g)) (placed_written region gs ps _ t p.1),
  )

  pub sizes_kept : (gs : List (List ℕ)) (ps : List ℕ) → length ps ≡ length gs → map length (written gs ps) ≡ map length gs
  sizes_kept [] ps e = refl
  sizes_kept (g ∷ gs) [] e = absurd (cc)
  sizes_kept (g ∷ gs) (p ∷ ps) e = ap₂ (λ x xs. x ∷ xs) (size_kept (block p g)) (sizes_kept gs ps (omega (arith, e)))
