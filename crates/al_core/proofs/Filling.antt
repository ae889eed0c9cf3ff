-- The values of items go into the blocks of their globals.
use Rattle.std.proofs.Common.{◌≡◌, ◌≢◌, ℕ, zero, suc, ◌+◌, ◌-◌, ◌%◌, ◌<◌, ◌≤◌, ◌⊎◌, inl, inr, Bool, true, false, cond, not, ◌&&◌, ◌||◌, ◌==◌, ltb, leb, eqb, List, [], ◌∷◌, ◌++◌, length, map, take, drop, get_or, Option, Some, None, Result, Ok, Err, refl, sym, ap, ap₂, subst, ◌∙◌, arith}
use Rattle.std.specs.Prelude.{slice_get, slice_index, fold, replicate}
use Rattle.std.specs.List.{list_any, list_all}
use Rattle.std.proofs.lemmas.Bool.{and_parts}
use Rattle.std.proofs.lemmas.Bool.Decides.{nat_tests, eqb_tells}
use Rattle.std.proofs.lemmas.Option.{same_Some, slice_get-get_or}
use Rattle.std.proofs.lemmas.List.Sums.{fold-append}
use Rattle.std.proofs.lemmas.List.{length-replicate}
use Rattle.al_base.specs.declared.trap.Trap.{Trap}
use Rattle.al_base.specs.declared.trap.Trap.TheVariants.{Fault, Align}
use Rattle.al_event.specs.declared.act.Block.{Block}
use Rattle.al_event.specs.Store.{Span, Live, region_base, most_blocks, lies_in, least, IsPlace, new_place, span_of, spans_of, with_block, with_word, store_word, bytes_of, overwritten, alloc_block, placed, zeros}
use Rattle.al_event.proofs.Least.{least_is}
use Rattle.al_region.proofs.Laid.{IsClear, clear_is}
use Rattle.al_store.specs.Memory.{IsWidth}
use Rattle.al_world.specs.Step.{with_globals}
use Rattle.rv_isa.specs.declared.image.Item.{Item}
use Rattle.rv_isa.specs.declared.image.Contents.{Contents}
use Rattle.rv_isa.specs.Image.{is_item, is_global, is_within}
use Rattle.al_core.specs.Opening.{with_item, global_bytes, globals_from}
use Rattle.al_core.specs.Placing.{Placed}
use Rattle.al_core.proofs.Placing.{block, after, written, placed_written, placed_length, placed_end, placed_none, sizes_kept, length-bytes_of, length-overwritten}

-- ---- the blocks that are there

abbrev In : Span → List Span → Type 0
In b [] = ⊥
In b (c ∷ cs) = (c ≡ b) ⊎ In b cs

in_new : (b : Live) (s : List Live) → In (span_of b) (spans_of (with_block b s))
in_new b [] = inl refl
in_new b (c ∷ cs) = on (ltb b.at c.at) (in_new b cs)
  where
    on : (t : Bool) → In (span_of b) (spans_of (with_block b cs)) → In (span_of b) (spans_of (cond t (b ∷ c ∷ cs) (c ∷ with_block b cs)))
    on true i = inl refl
    on false i = inr i

in_more : (b : Live) (d : Span) (s : List Live) → In d (spans_of s) → In d (spans_of (with_block b s))
in_more b d [] i = absurd i
in_more b d (c ∷ cs) i = on (ltb b.at c.at) i (in_more b d cs)
  where
    on : (t : Bool) → (span_of c ≡ d) ⊎ In d (spans_of cs) → (In d (spans_of cs) → In d (spans_of (with_block b cs))) → In d (spans_of (cond t (b ∷ c ∷ cs) (c ∷ with_block b cs)))
    on true i more = inr i
    on false (inl e) more = inl e
    on false (inr i) more = inr (more i)

stays : (region : ℕ) (gs : List (List ℕ)) (ps : List ℕ) (s t : List Live) (b : Span) → Placed region gs ps s t → In b (spans_of s) → In b (spans_of t)
stays region [] [] s t b p i = subst (λ l. In b (spans_of l)) (sym p) i
stays region [] (q ∷ ps) s t b p i = absurd p
stays region (g ∷ gs) [] s t b p i = absurd p
stays region (g ∷ gs) (q ∷ ps) s t b p i = stays region gs ps _ t b p.1 (in_more (block q g) b s i)

in_any : (at n : ℕ) (b : Span) (s : List Live) → lies_in at n b ≡ true → In b (spans_of s) → list_any (λ (c : Live). lies_in at n (span_of c)) s ≡ true
in_any at n b [] l i = absurd i
in_any at n b (c ∷ cs) l (inl e) =
    ap (λ (t : Bool). t || list_any (λ (c : Live). lies_in at n (span_of c)) cs) (ap (lies_in at n) e ∙ l)
in_any at n b (c ∷ cs) l (inr i) = on (lies_in at n (span_of c)) (in_any at n b cs l i)
  where
    on : (t : Bool) → list_any (λ (c : Live). lies_in at n (span_of c)) cs ≡ true → (t || list_any (λ (c : Live). lies_in at n (span_of c)) cs) ≡ true
    on true e = refl
    on false e = e

-- ---- their places

not_true : (b : Bool) → not b ≡ true → b ≡ false
not_true true h = absurd (cc)
not_true false h = refl

-- a place for n bytes in the region, clear of these blocks
record Spot (region : ℕ) (spans : List Span) (n at : ℕ) : Type 0 where
  from : region_base ≤ at
  aligned : at % 8 ≡ 0
  ends : at + n ≤ region_base + region
  clear : IsClear n at spans

spot : (region : ℕ) (spans : List Span) (n at : ℕ) → new_place region spans n ≡ Some at → Spot region spans n at
spot region spans n at h = of (on (ltb (length spans) most_blocks) h)
  where
    on : (t : Bool) → cond t (least region spans n) None ≡ Some at → IsPlace region spans n at
    on true h = ((least_is region spans n at).0 h).place
    on false h = absurd (cc)

    of : IsPlace region spans n at → Spot region spans n at
    of p =
        let b = and_parts _ _ p.room in
        let ends : leb (at + n) (region_base + region) ≡ true = b.0 in
        record {
          from = p.from_base;
          aligned = p.aligned;
          ends = grind (arith, nat_tests, ends);
          clear = clear_is spans n at (not_true _ b.1);
        }

clear_of : (n at : ℕ) (bs : List Span) (b : Span) → IsClear n at bs → In b bs → (at + n ≤ b.at) ⊎ (b.at + b.size ≤ at)
clear_of n at [] b h i = absurd i
clear_of n at (c ∷ cs) b h (inl e) = subst (λ (b : Span). (at + n ≤ b.at) ⊎ (b.at + b.size ≤ at)) e h.0
clear_of n at (c ∷ cs) b h (inr i) = clear_of n at cs b h.1 i

-- n bytes from at on are apart from each of these blocks
abbrev AllApart : (at n : ℕ) → List (List ℕ) → List ℕ → Type 0
AllApart at n [] ps = Unit {0}
AllApart at n (g ∷ gs) [] = Unit {0}
AllApart at n (g ∷ gs) (p ∷ ps) = ((at + n ≤ p) ⊎ (p + length g ≤ at)) × AllApart at n gs ps

abbrev Pairs : List (List ℕ) → List ℕ → Type 0
Pairs [] ps = Unit {0}
Pairs (g ∷ gs) [] = Unit {0}
Pairs (g ∷ gs) (p ∷ ps) = AllApart p (length g) gs ps × Pairs gs ps

swapped : (A B : Type 0) → A ⊎ B → B ⊎ A
swapped A B (inl a) = inr a
swapped A B (inr b) = inl b

later_apart : (region : ℕ) (gs : List (List ℕ)) (ps : List ℕ) (s t : List Live) (b : Span) → Placed region gs ps s t → In b (spans_of s) → AllApart b.at b.size gs ps
later_apart region [] ps s t b p i = tt
later_apart region (g ∷ gs) [] s t b p i = tt
later_apart region (g ∷ gs) (q ∷ ps) s t b p i =
    (swapped _ _ (clear_of (length g) q (spans_of s) b (spot region (spans_of s) (length g) q p.0).clear i), later_apart region gs ps _ t b p.1 (in_more (block q g) b s i))

pairs : (region : ℕ) (gs : List (List ℕ)) (ps : List ℕ) (s t : List Live) → Placed region gs ps s t → Pairs gs ps
pairs region [] ps s t p = tt
pairs region (g ∷ gs) [] s t p = tt
pairs region (g ∷ gs) (q ∷ ps) s t p = (later_apart region gs ps _ t (span_of (block q g)) p.1 (in_new (block q g) s), pairs region gs ps _ t p.1)

-- the block of a global
record Found (region : ℕ) (at : ℕ) (bytes : List ℕ) (t : List Live) : Type 0 where
  from : region_base ≤ at
  aligned : at % 8 ≡ 0
  ends : at + length bytes ≤ region_base + region
  there : In (span_of (block at bytes)) (spans_of t)

found : (region : ℕ) (gs : List (List ℕ)) (ps : List ℕ) (s t : List Live) (j at : ℕ) (bytes : List ℕ) → Placed region gs ps s t → slice_get gs j ≡ Some bytes → slice_get ps j ≡ Some at → Found region at bytes t
found region [] ps s t j at bytes p g h = absurd (cc)
found region (b ∷ gs) [] s t j at bytes p g h = absurd p
found region (b ∷ gs) (q ∷ ps) s t zero at bytes p g h =
    let x = spot region (spans_of s) (length b) q p.0 in
    let f : Found region q b t = record { from = x.from; aligned = x.aligned; ends = x.ends; there = stays region gs ps _ t (span_of (block q b)) p.1 (in_new (block q b) s) } in
    subst (λ b. Found region at b t) (same_Some b bytes g) (subst (λ q. Found region q b t) (same_Some q at h) f)
found region (b ∷ gs) (q ∷ ps) s t (suc j) at bytes p g h = found region gs ps _ t j at bytes p.1 g h

-- ---- which blocks an item's value goes to

apart_at : (at n : ℕ) (gs : List (List ℕ)) (ps : List ℕ) (j : ℕ) (g : List ℕ) (p : ℕ) → AllApart at n gs ps → slice_get gs j ≡ Some g → slice_get ps j ≡ Some p → (at + n ≤ p) ⊎ (p + length g ≤ at)
apart_at at n [] ps j g p a e f = absurd (cc)
apart_at at n (b ∷ gs) [] j g p a e f = absurd (cc)
apart_at at n (b ∷ gs) (q ∷ ps) zero g p a e f =
    subst (λ (g : List ℕ). (at + n ≤ p) ⊎ (p + length g ≤ at)) (same_Some b g e) (subst (λ p. (at + n ≤ p) ⊎ (p + length b ≤ at)) (same_Some q p f) a.0)
apart_at at n (b ∷ gs) (q ∷ ps) (suc j) g p a e f = apart_at at n gs ps j g p a.1 e f

misses : (at n p m : ℕ) → 0 < n → (at + n ≤ p) ⊎ (p + m ≤ at) → (leb p at && leb (at + n) (p + m)) ≡ false
misses at n p m some (inl before) = grind (arith, nat_tests)
misses at n p m some (inr past) = grind (arith, nat_tests)

within_apart : (at n P N p m : ℕ) → P ≤ at → at + n ≤ P + N → (P + N ≤ p) ⊎ (p + m ≤ P) → (at + n ≤ p) ⊎ (p + m ≤ at)
within_apart at n P N p m from to (inl before) = inl (omega (arith, from, to, before))
within_apart at n P N p m from to (inr past) = inr (omega (arith, from, to, past))

other_number : (a b : ℕ) → a ≢ b → (a == b) ≡ false
other_number a b ne = on (eqb_tells a b)
  where
    on : ((a == b ≡ true) × (a ≡ b)) ⊎ ((a == b ≡ false) × (a ≢ b)) → (a == b) ≡ false
    on (inl e) = absurd (ne e.1)
    on (inr e) = e.0

same_number : (a b : ℕ) → a ≡ b → (a == b) ≡ true
same_number a b e = on (eqb_tells a b)
  where
    on : ((a == b ≡ true) × (a ≡ b)) ⊎ ((a == b ≡ false) × (a ≢ b)) → (a == b) ≡ true
    on (inl e) = e.0
    on (inr n) = absurd (n.1 e)

module _ (i : Item) (at : ℕ) where
  abbrev Hit : (k p : ℕ) → List ℕ → Type 0
  Hit k p g =
      ((i.global == k ≡ true) × ((at ≡ p + i.offset) × (i.offset + i.size ≤ length g))) ⊎ ((i.global == k ≡ false) × (lies_in at i.size (span_of (block p g)) ≡ false))

  abbrev Hits : (k : ℕ) → List (List ℕ) → List ℕ → Type 0
  Hits k [] ps = Unit {0}
  Hits k (g ∷ gs) [] = Unit {0}
  Hits k (g ∷ gs) (p ∷ ps) = Hit k p g × Hits (k + 1) gs ps

  beyond : (P N : ℕ) → P ≤ at → at + i.size ≤ P + N → 0 < i.size → (k : ℕ) (gs : List (List ℕ)) (ps : List ℕ) → i.global < k → AllApart P N gs ps → Hits k gs ps
  beyond P N from to some k [] ps lt a = tt
  beyond P N from to some k (g ∷ gs) [] lt a = tt
  beyond P N from to some k (g ∷ gs) (p ∷ ps) lt a = (
    inr (other_number i.global k (λ e. absurd (omega (arith, e, lt))), misses at i.size p (length g) some (within_apart at i.size P N p (length g) from to a.0)),
    beyond P N from to some (k + 1) gs ps (omega (arith, lt)) a.1,
  )

  hits : (j k : ℕ) (gs : List (List ℕ)) (ps : List ℕ) (p : ℕ) (g : List ℕ) → i.global ≡ k + j → slice_get gs j ≡ Some g → slice_get ps j ≡ Some p → at ≡ p + i.offset → i.offset + i.size ≤ length g → 0 < i.size → Pairs gs ps → Hits k gs ps
  hits j k [] ps p g n e f is le some a = tt
  hits j k (b ∷ gs) [] p g n e f is le some a = tt
  hits zero k (b ∷ gs) (q ∷ ps) p g n e f is le some a =
      let same : b ≡ g = same_Some b g e in
      let there : q ≡ p = same_Some q p f in
      let size : length b ≡ length g = ap length same in (
        inl (same_number i.global k (omega (arith, n)), (omega (arith, is, there), omega (arith, le, size))),
        beyond q (length b) (omega (arith, is, there)) (omega (arith, is, there, le, size)) some (k + 1) gs ps (omega (arith, n)) a.0,
      )
  hits (suc j) k (b ∷ gs) (q ∷ ps) p g n e f is le some a =
      let apart = apart_at q (length b) gs ps j g p a.0 e f in (
        inr (other_number i.global k (λ x. absurd (omega (arith, n, x))), misses at i.size q (length b) some (on apart)),
        hits j (k + 1) gs ps p g (omega (arith, n)) e f is le some a.1,
      )
    where
      on : (q + length b ≤ p) ⊎ (p + length g ≤ q) → (at + i.size ≤ q) ⊎ (q + length b ≤ at)
      on (inl before) = inr (omega (arith, is, before))
      on (inr past) = inl (omega (arith, is, past, le))

  hits_inside : (p n : ℕ) → at ≡ p + i.offset → i.offset + i.size ≤ n → (leb p at && leb (at + i.size) (p + n)) ≡ true
  hits_inside p n is le = grind (arith, nat_tests)

  filled_one : (k p : ℕ) (g : List ℕ) → Hit k p g → after at i.size i.value p g ≡ with_item k g i
  filled_one k p g h = on h
    where
      left : (t : Bool) → lies_in at i.size (span_of (block p g)) ≡ t → after at i.size i.value p g ≡ cond t (overwritten g (at - p) (bytes_of i.size i.value)) g
      left t e = ap (λ (t : Bool). (cond t (block p (overwritten g (at - p) (bytes_of i.size i.value))) (block p g)).bytes) e ∙ by t
        where
          by : (t : Bool) → (cond t (block p (overwritten g (at - p) (bytes_of i.size i.value))) (block p g)).bytes ≡ cond t (overwritten g (at - p) (bytes_of i.size i.value)) g
          by true = refl
          by false = refl

      right : (t : Bool) → (i.global == k) ≡ t → with_item k g i ≡ cond t (overwritten g i.offset (bytes_of i.size i.value)) g
      right t e = ap (λ (t : Bool). cond t (overwritten g i.offset (bytes_of i.size i.value)) g) e

      on : Hit k p g → after at i.size i.value p g ≡ with_item k g i
      on (inr h) = left false h.1 ∙ sym (right false h.0)
      on (inl h) =
          let place : at - p ≡ i.offset = omega (arith, h.1.0) in
          left true (hits_inside p (length g) h.1.0 h.1.1) ∙ ap (λ o. overwritten g o (bytes_of i.size i.value)) place ∙ sym (right true h.0)

  filled : (items : List Item) (k : ℕ) (sizes ps : List ℕ) → length ps ≡ length sizes → Hits k (globals_from items k sizes) ps → written at i.size i.value (globals_from items k sizes) ps ≡ globals_from (items ++ i ∷ []) k sizes
  filled items k [] ps e h = refl
  filled items k (z ∷ sizes) [] e h = absurd (cc)
  filled items k (z ∷ sizes) (p ∷ ps) e h =
      ap₂ (λ x xs. x ∷ xs) (filled_one k p (global_bytes items k z) h.0 ∙ sym (fold-append (with_item k) (replicate z 0) items (i ∷ []))) (filled items (k + 1) sizes ps (omega (arith, e)) h.1)

-- ---- an item is stored

-- what the bounds of an image say of an item
record Itemized (sizes : List ℕ) (i : Item) : Type 0 where
  global : i.global < length sizes
  width : IsWidth i.size
  aligned : i.offset % i.size ≡ 0
  inside : i.offset + i.size ≤ slice_index sizes i.global

width_is : (n : ℕ) → (((n == 1) || (n == 2)) || (n == 4)) ≡ true → IsWidth n
width_is n h = on (eqb_tells n 1) (eqb_tells n 2) (eqb_tells n 4)
  where
    on : ((n == 1 ≡ true) × (n ≡ 1)) ⊎ ((n == 1 ≡ false) × (n ≢ 1)) → ((n == 2 ≡ true) × (n ≡ 2)) ⊎ ((n == 2 ≡ false) × (n ≢ 2)) → ((n == 4 ≡ true) × (n ≡ 4)) ⊎ ((n == 4 ≡ false) × (n ≢ 4)) → IsWidth n
    on (inl a) b c = inl a.1
    on (inr a) (inl b) c = inr (inl b.1)
    on (inr a) (inr b) (inl c) = inr (inr c.1)
    on (inr a) (inr b) (inr c) =
        let none = ap₂ (λ x y. x || y) (ap₂ (λ x y. x || y) a.0 b.0) c.0 in
        let no = sym h ∙ none in
        absurd (cc)

itemized : (sizes : List ℕ) (i : Item) → is_item sizes i ≡ true → Itemized sizes i
itemized sizes i h =
    let all = and_parts _ _ (and_parts _ _ h).0 in
    let le : leb (i.offset + i.size) (slice_index sizes i.global) ≡ true = all.1 in
    let more = and_parts _ _ all.0 in
    let even : eqb (i.offset % i.size) 0 ≡ true = more.1 in
    let first = and_parts _ _ more.0 in
    let lt : ltb i.global (length sizes) ≡ true = first.0 in
    record {
      global = grind (arith, nat_tests, lt);
      width = width_is i.size first.1;
      aligned = grind (arith, nat_tests, even);
      inside = grind (arith, nat_tests, le);
    }

some_width : (n : ℕ) → IsWidth n → 0 < n
some_width n (inl e) = omega (arith, e)
some_width n (inr (inl e)) = omega (arith, e)
some_width n (inr (inr e)) = omega (arith, e)

aligned_sum : (p o n : ℕ) → IsWidth n → p % 8 ≡ 0 → o % n ≡ 0 → (p + o) % n ≡ 0
aligned_sum p o n (inl e) a b = subst (λ n. (p + o) % n ≡ 0) (sym e) (omega arith)
aligned_sum p o n (inr (inl e)) a b = let b' : o % 2 ≡ 0 = subst (λ n. o % n ≡ 0) e b in subst (λ n. (p + o) % n ≡ 0) (sym e) (omega (arith, a, b'))
aligned_sum p o n (inr (inr e)) a b = let b' : o % 4 ≡ 0 = subst (λ n. o % n ≡ 0) e b in subst (λ n. (p + o) % n ≡ 0) (sym e) (omega (arith, a, b'))

-- the bytes of a global of a size
record Sized (gs : List (List ℕ)) (j n : ℕ) : Type 0 where
  bytes : List ℕ
  is : slice_get gs j ≡ Some bytes
  size : length bytes ≡ n

sized_at : (gs : List (List ℕ)) (j : ℕ) → j < length (map length gs) → Sized gs j (slice_index (map length gs) j)
sized_at [] j lt = absurd (omega (arith, lt))
sized_at (g ∷ gs) zero lt = record { bytes = g; is = refl; size = refl }
sized_at (g ∷ gs) (suc j) lt = let r = sized_at gs j (omega (arith, lt)) in record { bytes = r.bytes; is = r.is; size = r.size }

pub record Stored (region : ℕ) (items : List Item) (sizes ps : List ℕ) (t : List Live) (i : Item) (at : ℕ) : Type 0 where
  pub from : region_base ≤ at
  pub ends : at + i.offset + i.size ≤ region_base + region
  pub width : IsWidth i.size
  pub is : store_word t (at + i.offset) i.size i.value ≡ Ok (map (with_word (at + i.offset) i.size i.value) t)
  pub placed : Placed region (globals_from (items ++ i ∷ []) 0 sizes) ps [] (map (with_word (at + i.offset) i.size i.value) t)
  pub sizes_are : map length (globals_from (items ++ i ∷ []) 0 sizes) ≡ sizes

pub stored : (region : ℕ) (items : List Item) (sizes ps : List ℕ) (t : List Live) (i : Item) (at : ℕ) → Placed region (globals_from items 0 sizes) ps [] t → map length (globals_from items 0 sizes) ≡ sizes → is_item sizes i ≡ true → slice_get ps i.global ≡ Some at → Stored region items sizes ps t i at
stored region items sizes ps t i at p sizes_are item there =
    let x = itemized sizes i item in
    let gs = globals_from items 0 sizes in
    let sized : Sized gs i.global (slice_index sizes i.global) =
    subst (λ l. Sized gs i.global (slice_index l i.global)) sizes_are (sized_at gs i.global (subst (λ (l : List ℕ). i.global < length l) (sym sizes_are) x.global)) in
    let f = found region gs ps [] t i.global at sized.bytes p sized.is there in
    let some = some_width i.size x.width in
    let inside : i.offset + i.size ≤ length sized.bytes = let s = sized.size in let l = x.inside in omega (arith, s, l) in
    let long : length gs ≡ length sizes = sym (length-map gs) ∙ ap length sizes_are in
    let hit = hits i (at + i.offset) i.global 0 gs ps at sized.bytes (omega arith) sized.is there refl inside some (pairs region gs ps [] t p) in
    let is = filled i (at + i.offset) items 0 sizes ps (placed_length region gs ps [] t p ∙ long) hit in
    let lies : lies_in (at + i.offset) i.size (span_of (block at sized.bytes)) ≡ true = hits_inside i (at + i.offset) at (length sized.bytes) refl inside in
    let any = in_any (at + i.offset) i.size (span_of (block at sized.bytes)) t lies f.there in
    let aligned : eqb ((at + i.offset) % i.size) 0 ≡ true = same_number _ 0 (aligned_sum at i.offset i.size x.width f.aligned x.aligned) in
    record {
      from = f.from;
      ends = let e = f.ends in omega (arith, e, inside);
      width = x.width;
      is = goes (eqb ((at + i.offset) % i.size) 0) (list_any (λ b. lies_in (at + i.offset) i.size (span_of b)) t) (map (with_word (at + i.offset) i.size i.value) t) aligned any;
      placed = subst (λ gs. Placed region gs ps [] (map (with_word (at + i.offset) i.size i.value) t)) is (placed_written (at + i.offset) i.size i.value region gs ps [] t p);
      sizes_are = ap (map length) (sym is) ∙ sizes_kept (at + i.offset) i.size i.value gs ps (placed_length region gs ps [] t p) ∙ sizes_are;
    }
  where
    goes : (a b : Bool) (u : List Live) → a ≡ true → b ≡ true → cond a (cond b (Ok u) (Err Fault)) (Err Align) ≡ Ok u
    goes a b u e f = ap (λ (a : Bool). cond a (cond b (Ok u) (Err Fault)) (Err Align)) e ∙ ap (λ (b : Bool). cond b (Ok u) (Err Fault)) f

    length-map : (gs : List (List ℕ)) → length (map length gs) ≡ length gs
    length-map [] = refl
    length-map (g ∷ gs) = ap suc (length-map gs)

-- ---- before the first item, and after the last

abbrev pub zeros_of : List ℕ → List (List ℕ)
zeros_of sizes = map (λ n. replicate n 0) sizes

pub from_none : (k : ℕ) (sizes : List ℕ) → globals_from [] k sizes ≡ zeros_of sizes
from_none k [] = refl
from_none k (n ∷ ns) = ap (λ l. replicate n 0 ∷ l) (from_none (k + 1) ns)

sizes_of_zeros : (sizes : List ℕ) → map length (zeros_of sizes) ≡ sizes
sizes_of_zeros [] = refl
sizes_of_zeros (n ∷ ns) = ap₂ (λ x xs. x ∷ xs) (length-replicate n 0) (sizes_of_zeros ns)

pub sizes_none : (sizes : List ℕ) → map length (globals_from [] 0 sizes) ≡ sizes
sizes_none sizes = ap (map length) (from_none 0 sizes) ∙ sizes_of_zeros sizes

item_kept : (sizes : List ℕ) (g n : ℕ) (i : Item) (bytes : List ℕ) → is_item sizes i ≡ true → slice_index sizes g ≡ n → length bytes ≡ n → length (with_item g bytes i) ≡ n
item_kept sizes g n i bytes item is size = on (eqb_tells i.global g)
  where
    x : Itemized sizes i
    x = itemized sizes i item

    on : ((i.global == g ≡ true) × (i.global ≡ g)) ⊎ ((i.global == g ≡ false) × (i.global ≢ g)) → length (with_item g bytes i) ≡ n
    on (inr e) = rw e.0 size
    on (inl e) =
        let inside : i.offset + i.size ≤ slice_index sizes g = subst (λ g. i.offset + i.size ≤ slice_index sizes g) e.1 x.inside in
        let l = length-bytes_of i.size i.value in
        rw e.0 (length-overwritten bytes (bytes_of i.size i.value) i.offset (omega (arith, inside, is, size, l)) ∙ size)

items_kept : (sizes : List ℕ) (g n : ℕ) (items : List Item) (bytes : List ℕ) → list_all (is_item sizes) items ≡ true → slice_index sizes g ≡ n → length bytes ≡ n → length (fold (with_item g) bytes items) ≡ n
items_kept sizes g n [] bytes all is size = size
items_kept sizes g n (i ∷ items) bytes all is size =
    let a = and_parts _ _ all in
    items_kept sizes g n items (with_item g bytes i) a.1 is (item_kept sizes g n i bytes a.0 is size)

sizes_from : (items : List Item) (sizes : List ℕ) (k : ℕ) (rest : List ℕ) → list_all (is_item sizes) items ≡ true → ((j : ℕ) → slice_index sizes (k + j) ≡ slice_index rest j) → map length (globals_from items k rest) ≡ rest
sizes_from items sizes k [] all at = refl
sizes_from items sizes k (n ∷ ns) all at =
    let here : slice_index sizes k ≡ n = (let e : k ≡ k + 0 = omega arith in ap (slice_index sizes) e) ∙ at 0 in
    ap₂ (λ x xs. x ∷ xs) (items_kept sizes k n items (replicate n 0) all here (length-replicate n 0)) (sizes_from items sizes (k + 1) ns all (λ j. (let e : k + 1 + j ≡ k + suc j = omega arith in ap (slice_index sizes) e) ∙ at (suc j)))

pub sizes_all : (items : List Item) (sizes : List ℕ) → list_all (is_item sizes) items ≡ true → map length (globals_from items 0 sizes) ≡ sizes
sizes_all items sizes all = sizes_from items sizes 0 sizes all (λ j. let e : 0 + j ≡ j = omega arith in ap (slice_index sizes) e)

-- ---- lists up to a place

pub take_one : {X : Type 0} (xs : List X) (k : ℕ) (x : X) → slice_get xs k ≡ Some x → take (suc k) xs ≡ take k xs ++ x ∷ []
take_one [] k x g = absurd (cc)
take_one (y ∷ ys) zero x g = ap (λ y. y ∷ []) (same_Some y x g)
take_one (y ∷ ys) (suc k) x g = ap (λ l. y ∷ l) (take_one ys k x g)

pub taken_one : {X : Type 0} (xs : List X) (k : ℕ) (x : X) → slice_get xs k ≡ Some x → take (k + 1) xs ≡ take k xs ++ x ∷ []
taken_one xs k x g = (let e : k + 1 ≡ suc k = omega arith in ap (λ n. take n xs) e) ∙ take_one xs k x g

pub split_at : {X : Type 0} (xs : List X) (k : ℕ) (x : X) → slice_get xs k ≡ Some x → take k xs ++ x ∷ drop (suc k) xs ≡ xs
split_at [] k x g = absurd (cc)
split_at (y ∷ ys) zero x g = ap (λ (z : _). z ∷ ys) (sym (same_Some y x g))
split_at (y ∷ ys) (suc k) x g = ap (λ l. y ∷ l) (split_at ys k x g)

pub pass_at : {X : Type 0} (p : X → Bool) (xs : List X) (k : ℕ) (x : X) → list_all p xs ≡ true → slice_get xs k ≡ Some x → p x ≡ true
pass_at p [] k x all g = absurd (cc)
pass_at p (y ∷ ys) zero x all g = subst (λ y. p y ≡ true) (same_Some y x g) (and_parts _ _ all).0
pass_at p (y ∷ ys) (suc k) x all g = pass_at p ys k x (and_parts _ _ all).1 g

map-append : (f : ℕ → List ℕ) (xs ys : List ℕ) → map f (xs ++ ys) ≡ map f xs ++ map f ys
map-append f [] ys = refl
map-append f (x ∷ xs) ys = ap (λ l. f x ∷ l) (map-append f xs ys)

-- one block more
pub block_more : (region : ℕ) (sizes ps : List ℕ) (t : List Live) (k n at : ℕ) → Placed region (zeros_of (take k sizes)) ps [] t → slice_get sizes k ≡ Some n → new_place region (spans_of t) n ≡ Some at → Placed region (zeros_of (take (k + 1) sizes)) (ps ++ at ∷ []) [] (with_block (block at (replicate n 0)) t)
block_more region sizes ps t k n at p g new =
    subst (λ gs. Placed region gs (ps ++ at ∷ []) [] (with_block (block at (replicate n 0)) t))
    (sym (ap zeros_of (taken_one sizes k n g) ∙ map-append (λ n. replicate n 0) (take k sizes) (n ∷ [])))
    (placed_end region (zeros_of (take k sizes)) ps [] t (replicate n 0) at p (subst (λ m. new_place region (spans_of t) m ≡ Some at) (sym (length-replicate n 0)) new))

-- one that has no place
pub block_none : (region : ℕ) (sizes ps : List ℕ) (t : List Live) (k n : ℕ) → Placed region (zeros_of (take k sizes)) ps [] t → slice_get sizes k ≡ Some n → new_place region (spans_of t) n ≡ None → with_globals region (globals_from [] 0 sizes) [] ≡ None
block_none region sizes ps t k n p g new =
    subst (λ gs. with_globals region gs [] ≡ None)
    (sym (map-append (λ n. replicate n 0) (take k sizes) (n ∷ drop (suc k) sizes)) ∙ ap zeros_of (split_at sizes k n g) ∙ sym (from_none 0 sizes))
    (placed_none region (zeros_of (take k sizes)) ps [] t (replicate n 0) (zeros_of (drop (suc k) sizes)) p (subst (λ m. new_place region (spans_of t) m ≡ None) (sym (length-replicate n 0)) new))

-- ---- what the store answers

same_Ok : (x y : ℕ × List Live) → (let r : Result (ℕ × List Live) Trap = Ok x in r) ≡ Ok y → x ≡ y
same_Ok x y e = cc

pub placed_is : (region : ℕ) (t u : List Live) (n at : ℕ) (kind : Block) → alloc_block region t n kind ≡ Ok (at, u) → (new_place region (spans_of t) n ≡ Some at) × (u ≡ with_block (zeros at n kind) t)
placed_is region t u n at kind e = on (new_place region (spans_of t) n) refl e
  where
    on : (o : Option ℕ) → new_place region (spans_of t) n ≡ o → placed t n kind o ≡ Ok (at, u) → (new_place region (spans_of t) n ≡ Some at) × (u ≡ with_block (zeros at n kind) t)
    on None is e = absurd (cc)
    on (Some a) is e =
        let pair : (a, with_block (zeros a n kind) t) ≡ (at, u) = same_Ok _ _ e in
        let same : a ≡ at = ap (λ (p : ℕ × List Live). p.0) pair in
        (is ∙ ap Some same, sym (ap (λ (p : ℕ × List Live). p.1) pair) ∙ ap (λ a. with_block (zeros a n kind) t) same)

pub place_none : (region : ℕ) (t : List Live) (n : ℕ) (kind : Block) (trap : Trap) → alloc_block region t n kind ≡ Err trap → new_place region (spans_of t) n ≡ None
place_none region t n kind trap e = on (new_place region (spans_of t) n) refl e
  where
    on : (o : Option ℕ) → new_place region (spans_of t) n ≡ o → placed t n kind o ≡ Err trap → new_place region (spans_of t) n ≡ None
    on None is e = is
    on (Some a) is e = absurd (cc)

-- ---- the items of an image

pub items_row : (c : Contents) → is_within c ≡ true → list_all (is_item c.globals) c.items ≡ true
items_row c h = (and_parts _ _ (and_parts _ _ (and_parts _ _ (and_parts _ _ (and_parts _ _ h).1).0).0).0).1

pub globals_row : (c : Contents) → is_within c ≡ true → list_all is_global c.globals ≡ true
globals_row c h = (and_parts _ _ (and_parts _ _ (and_parts _ _ (and_parts _ _ (and_parts _ _ (and_parts _ _ h).1).0).0).0).0).1

pub record ItemAt (region : ℕ) (image : Contents) (places : List ℕ) (t : List Live) (k : ℕ) (i : Item) : Type 0 where
  pub within : i.global < length places
  pub stored : Stored region (take k image.items) image.globals places t i (get_or places i.global 0)
  pub next : take k image.items ++ i ∷ [] ≡ take (k + 1) image.items

-- the item at place k of a list that is that of the image
pub item_at : (region : ℕ) (image : Contents) (places : List ℕ) (t : List Live) (k : ℕ) (items : List Item) (d : Item) → is_within image ≡ true → items ≡ image.items → k < length items → Placed region (globals_from (take k image.items) 0 image.globals) places [] t → map length (globals_from (take k image.items) 0 image.globals) ≡ image.globals → ItemAt region image places t k (get_or items k d)
item_at region image places t k items d within same lt placed sizes =
    let i = get_or items k d in
    let here : slice_get items k ≡ Some i = slice_get-get_or items k d lt in
    let there : slice_get image.items k ≡ Some i = subst (λ l. slice_get l k ≡ Some i) same here in
    let item = pass_at (is_item image.globals) image.items k i (items_row image within) there in
    let global = (itemized image.globals i item).global in
    let long : length places ≡ length image.globals = placed_length region (globals_from (take k image.items) 0 image.globals) places [] t placed ∙ sym (long_map (globals_from (take k image.items) 0 image.globals)) ∙ ap length sizes in
    let lt : i.global < length places = omega (arith, global, long) in
    record {
      within = lt;
      stored = stored region (take k image.items) image.globals places t i (get_or places i.global 0) placed sizes item (slice_get-get_or places i.global 0 lt);
      next = sym (taken_one image.items k i there);
    }
  where
    long_map : (gs : List (List ℕ)) → length (map length gs) ≡ length gs
    long_map [] = refl
    long_map (g ∷ gs) = ap suc (long_map gs)

pub same_blocks : (x y : List Live) → (let r : Result (List Live) Trap = Ok x in r) ≡ Ok y → x ≡ y
same_blocks x y e = cc
