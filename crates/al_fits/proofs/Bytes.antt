-- A value of a complete type that is sound has a byte at least.
use Rattle.std.proofs.Common.{◌≡◌, ℕ, zero, suc, ◌*◌, ◌<◌, ◌≤◌, Bool, true, false, List, [], ◌∷◌, map, length, take, Option, Some, None, refl, ap, ◌∙◌, subst, arith, inl, inr}
use Rattle.std.specs.Prelude.{All, slice_get, unwrap_or, filter, fold, is_some}
use Rattle.std.specs.List.{AllByRecursion, list_all}
use Rattle.std.proofs.lemmas.Bool.{and_parts, leb-true}
use Rattle.std.proofs.lemmas.List.{take_all}
use Rattle.std.proofs.lemmas.List.Elements.{All-filter, All-map, All-weaker, recursion_from_All}
use Rattle.al_base.specs.declared.arith.Kind.{Kind}
use Rattle.al_base.specs.declared.arith.Kind.TheVariants.{Byte, Sint, Usint, Int, Uint, Lint, Ulint}
use Rattle.al_store.specs.Memory.{IsWidth}
use Rattle.al_typed.specs.declared.program.Aggregate.{Aggregate}
use Rattle.al_typed.specs.declared.program.Local.{Local as LocalRow}
use Rattle.al_typed.specs.declared.program.Function.{Function as FunctionRow}
use Rattle.al_typed.specs.declared.program.Program.{Program}
use Rattle.al_typed.specs.declared.ty.Ty.{Ty, Void, Integer, Pointer', Array', Chan', Tuple', Aggregate as Aggregate_, Function', Row_of-Ty, end_of-Ty, more_of-Ty}
use Rattle.al_typed.specs.declared.ty.Ty.TheVariants as ty
use Rattle.al_typed.specs.TyFold.{fold_types}
use Rattle.al_typed.specs.Types.{bytes_of, has_body, is_complete, is_complete_step}
use Rattle.al_typed.specs.Layout.{Layout, Run, layout, layout_of, layout_step, layouts_after, members_layout, of_bytes, repeated, in_order, followed, begun, size_of}
use Rattle.al_typed.specs.Sound.{HasSoundTypes}
use Rattle.al_typed.specs.WellTyped.{is_sound, are_sound, is_stored, shared_types}
use Rattle.al_typed.proofs.Placing.{in_order-end}
use Rattle.al_typed.proofs.CappedLemmas.{rounded_above}
use Rattle.al_meaning.specs.Places.{block_size, function_at, locals_of}
use Rattle.al_fits.proofs.Members.{aggregate_size, all_at, function_is, union_covers}
use Rattle.al_fits.proofs.Units.{IsSplit, fold_all_split, known_after_split, layouts_split}

some_width : (n : ℕ) → IsWidth n → 1 ≤ n
some_width n (inl e) = omega (arith, e)
some_width n (inr (inl e)) = omega (arith, e)
some_width n (inr (inr e)) = omega (arith, e)

grows : (ls : List Layout) (run : Run) → AllByRecursion IsSplit ls → run.at ≤ (fold followed run ls).at
unfolding followed
grows [] run h = omega arith
grows (l ∷ ls) run h =
    let above = rounded_above run.at l.align (some_width l.align h.0.0) in
    let rest = grows ls (followed run l) h.1 in
    omega arith

first_fits : (l : Layout) (ls : List Layout) → AllByRecursion IsSplit ls → 1 ≤ l.size → 1 ≤ (in_order (l ∷ ls)).size
unfolding followed
first_fits l ls h some =
    let rest = grows ls (followed begun l) h in
    let end = in_order-end (l ∷ ls) in
    omega arith

none_fits : 1 ≤ (in_order []).size
unfolding in_order
none_fits = omega arith

integer_some : (kind : Kind) → 1 ≤ (of_bytes (bytes_of kind)).size
integer_some Byte = omega arith
integer_some Sint = omega arith
integer_some Usint = omega arith
integer_some Int = omega arith
integer_some Uint = omega arith
integer_some Lint = omega arith
integer_some Ulint = omega arith

times_some : (a b : ℕ) → 1 ≤ a → 1 ≤ b → 1 ≤ a * b
times_some a b x y = grind arith

repeated_some : (count : ℕ) (l : Layout) → 1 ≤ count → 1 ≤ l.size → 1 ≤ (repeated count l).size
unfolding repeated
repeated_some count l x y = times_some count l.size x y

taken : {A : Type 0} (n k : ℕ) (xs : List A) (x : A) → slice_get (take n xs) k ≡ Some x → (k < n) × (slice_get xs k ≡ Some x)
taken zero k xs x e = absurd (cc)
taken (suc n) k [] x e = absurd (cc)
taken (suc n) zero (y ∷ xs) x e = (omega arith, e)
taken (suc n) (suc k) (y ∷ xs) x e = let rest = taken n k xs x e in (omega (arith, rest.0), rest.1)

module _ (p : Program) (W : HasSoundTypes p) where
  abbrev Some_of : ℕ → Type 0
  Some_of k = (t : Ty) → is_sound p.aggregates t ≡ true → is_complete (take k p.aggregates) t ≡ true → 1 ≤ size_of p.aggregates t

  members_some : (is_union : Bool) (ms : List Ty) → (is_union ≡ true → ms ≡ [] → ⊥) → ((m : Ty) (rest : List Ty) → ms ≡ m ∷ rest → 1 ≤ size_of p.aggregates m)
      → 1 ≤ (members_layout is_union (map (layout p.aggregates) ms)).size
  members_some true [] none first = absurd (none refl refl)
  members_some false [] none first = none_fits
  members_some true (m ∷ ms) none first =
      let wide = union_covers (map (layout p.aggregates) (m ∷ ms)) 0 (layout p.aggregates m) refl in
      let some = first m ms refl in
      omega arith
  members_some false (m ∷ ms) none first =
      first_fits (layout p.aggregates m) (map (layout p.aggregates) ms) (layouts_split p.aggregates ms) (first m ms refl)

  aggregate_some : (k number : ℕ) → ((j : ℕ) → j < k → Some_of j) → has_body (slice_get (take k p.aggregates) number) ≡ true → 1 ≤ size_of p.aggregates (ty.Aggregate number)
  aggregate_some k number more h = on (slice_get (take k p.aggregates) number) refl h
    where
      body : (a : Aggregate) → number < k → slice_get p.aggregates number ≡ Some a → (o : Option (List Ty)) → a.members ≡ o → is_some o ≡ true
          → 1 ≤ size_of p.aggregates (ty.Aggregate number)
      body a lt e None m h = absurd (cc)
      body a lt e (Some ms) m h =
          let size = aggregate_size p.aggregates number a ms W.laid_out e m in
          let ordered : All (λ t. is_complete (take number p.aggregates) t ≡ true) ms =
          subst (λ (o : Option (List Ty)). All (λ t. is_complete (take number p.aggregates) t ≡ true) (unwrap_or o [])) m (W.laid_out.ordered number a e) in
          let stored : All (λ t. is_stored p.aggregates t ≡ true) ms =
          subst (λ (o : Option (List Ty)). All (λ t. is_stored p.aggregates t ≡ true) (unwrap_or o [])) m (W.members number a e) in
          let some = members_some a.is_union ms (λ u n. W.unions number a e u (m ∙ ap Some n))
          (λ t rest is. more number lt t
          (and_parts _ _ (all_at (λ t. is_stored p.aggregates t ≡ true) ms 0 t stored (ap (λ l. slice_get l 0) is))).0
          (all_at (λ t. is_complete (take number p.aggregates) t ≡ true) ms 0 t ordered (ap (λ l. slice_get l 0) is))) in
          omega arith

      on : (o : Option Aggregate) → slice_get (take k p.aggregates) number ≡ o → has_body o ≡ true → 1 ≤ size_of p.aggregates (ty.Aggregate number)
      on None e h = absurd (cc)
      on (Some a) e h = let t = taken k number p.aggregates a e in body a t.0 t.1 a.members refl h

  mutual
    unfolding layout layout_of is_complete

    some_at : (k : ℕ) → ((j : ℕ) → j < k → Some_of j) → Some_of k
    some_at k more Void s h = absurd (cc)
    some_at k more (Integer kind) s h = integer_some kind
    some_at k more (Pointer' _ (more_of-Ty to end_of-Ty)) s h = omega arith
    some_at k more (Array' _ (more_of-Ty element end_of-Ty) count) s h =
        let parts = and_parts _ _ (and_parts _ _ s).0 in
        repeated_some count (layout p.aggregates element) (leb-true 1 count parts.1) (some_at k more element (and_parts _ _ parts.0).0 h)
    some_at k more (Chan' _ (more_of-Ty element end_of-Ty) capacity) s h = omega arith
    some_at k more (Tuple' _ parts) s h = some_parts k more parts (and_parts _ _ s).0 h
    some_at k more (Aggregate_ number) s h = aggregate_some k number more h
    some_at k more (Function' _ (more_of-Ty returns end_of-Ty) _ parameters) s h = absurd (cc)

    some_parts : (k : ℕ) → ((j : ℕ) → j < k → Some_of j) → {m : _} (row : Row_of-Ty m) → are_sound p.aggregates row ≡ true
        → list_all (λ b. b) (fold_types (is_complete_step (take k p.aggregates)) row) ≡ true → 1 ≤ (in_order (fold_types (layout_step (layouts_after [] p.aggregates)) row)).size
    some_parts k more end_of-Ty s h = none_fits
    some_parts k more (more_of-Ty t rest) s h =
        first_fits (layout p.aggregates t) (fold_types (layout_step (layouts_after [] p.aggregates)) rest)
        (fold_all_split (layouts_after [] p.aggregates) rest (known_after_split [] p.aggregates tt))
        (some_at k more t (and_parts _ _ (and_parts _ _ s).0).0 (and_parts _ _ h).0)

  below : (n k : ℕ) → k ≤ n → Some_of k
  below zero k le = some_at k (λ j lt. absurd (omega arith))
  below (suc n) k le = some_at k (λ j lt. below n j (omega arith))

  pub some_bytes : (t : Ty) → is_sound p.aggregates t ≡ true → is_complete p.aggregates t ≡ true → 1 ≤ size_of p.aggregates t
  some_bytes t s h =
      let all : take (length p.aggregates) p.aggregates ≡ p.aggregates = take_all (length p.aggregates) p.aggregates (omega arith) in
      below (length p.aggregates) (length p.aggregates) (omega arith) t s (ap (λ rows. is_complete rows t) all ∙ h)

  -- ---- blocks of functions

  shared_some : (ls : List LocalRow) → All (λ (l : LocalRow). is_stored p.aggregates l.ty ≡ true) ls → AllByRecursion (λ t. 1 ≤ size_of p.aggregates t) (shared_types ls)
  shared_some ls h =
      let each : All (λ (l : LocalRow). 1 ≤ size_of p.aggregates l.ty) ls =
      All-weaker (λ (l : LocalRow). is_stored p.aggregates l.ty ≡ true) (λ (l : LocalRow). 1 ≤ size_of p.aggregates l.ty)
      (λ l s. let b = and_parts _ _ s in some_bytes l.ty b.0 b.1) ls h in
      let kept : List LocalRow = filter (λ (l : LocalRow). l.is_shared) ls in
      recursion_from_All (λ t. 1 ≤ size_of p.aggregates t) (shared_types ls)
      (All-map (λ t. 1 ≤ size_of p.aggregates t) (λ (l : LocalRow). l.ty) kept
      (All-filter (λ (l : LocalRow). l.is_shared) (λ (l : LocalRow). 1 ≤ size_of p.aggregates l.ty) ls each))

  in_order_some : (ts : List Ty) → AllByRecursion (λ t. 1 ≤ size_of p.aggregates t) ts → 1 ≤ (in_order (map (layout p.aggregates) ts)).size
  in_order_some [] h = none_fits
  in_order_some (t ∷ ts) h = first_fits (layout p.aggregates t) (map (layout p.aggregates) ts) (layouts_split p.aggregates ts) h.0

  pub block_some : (n : ℕ) → 1 ≤ block_size p (locals_of (function_at p n))
  block_some n = on (function_at p n) refl
    where
      on : (o : Option FunctionRow) → function_at p n ≡ o → 1 ≤ block_size p (locals_of o)
      on None e = none_fits
      on (Some f) e = in_order_some (shared_types f.locals) (shared_some f.locals (function_is p W n f e).locals)
