-- What the types of values and places have.
use Rattle.std.proofs.Common.{◌≡◌, ℕ, zero, suc, List, [], ◌∷◌, length, Option, Some, None, refl, sym, ap, ◌∙◌, subst, inl}
use Rattle.std.specs.Prelude.{Bool, true, false, ◌&&◌, ◌||◌, not, All, slice_get}
use Rattle.std.proofs.lemmas.List.Elements.{recursion_from_All}
use Rattle.std.specs.List.{AllByRecursion}
use Rattle.al_typed.specs.declared.program.Aggregate.{Aggregate}
use Rattle.al_typed.specs.declared.ty.Ty.{Ty, Void, Integer, Pointer', Array', Chan', Tuple', Aggregate as Aggregate_, Function', Row_of-Ty, end_of-Ty, more_of-Ty, items-the_row-Ty}
use Rattle.al_typed.specs.declared.ty.Ty.TheVariants as ty
use Rattle.al_typed.specs.declared.ty.Ty.TheViews.{out-Ty}
use Rattle.al_typed.specs.declared.ty.Ty.TheBlock.{hidden-the_row-Ty-0, shown-the_row-Ty-0}
use denote.Hole.Carrier.{hidden, out, shown}
use Rattle.al_typed.specs.Types.{IsAggregate, is_void, is_array, is_scalar, is_complete, is_whole, may_be_private, points_to_complete, int}
use Rattle.al_typed.specs.Layout.{Member, layout, layout_of, words_of, member, row_of, members_of, member_offsets, beyond}
use Rattle.al_typed.specs.WellTyped.{LeadsTo, is_sound, are_sound, is_stored, is_word}
use Rattle.al_meaning.specs.Here.{pointee}
use Rattle.al_lower_words.proofs.Integers.{words_are}
use Rattle.al_lower_claims.proofs.Claims.{Setting, count_of, IsTest, IsWord}
use Rattle.al_lower_conversions.proofs.Integers.{integer_test}
use Rattle.al_lower_conversions.proofs.Words.{single}

pub both_hold : (a b : Bool) → (a && b) ≡ true → (a ≡ true) × (b ≡ true)
both_hold true true e = (refl, refl)
both_hold true false e = absurd (cc)
both_hold false b e = absurd (cc)

-- ---- parts

-- a type of a value that is no array
pub record IsPart (t : Ty) : Type 0 where
  pub not_void : is_void t ≡ false
  pub not_array : is_array t ≡ false

abbrev pub AreParts : List Ty → Type 0
AreParts ts = AllByRecursion IsPart ts

pub aggregate_part : (t : Ty) → IsAggregate t → IsPart t
unfolding is_void is_array out-Ty out
aggregate_part t a = record { not_void = ap is_void a.1; not_array = ap is_array a.1 }

not_true : (b : Bool) → not b ≡ true → b ≡ false
not_true true e = absurd (cc)
not_true false e = refl

complete_not_void : (rows : List Aggregate) (t : Ty) → is_complete rows t ≡ true → is_void t ≡ false
unfolding is_complete is_void out-Ty out
complete_not_void rows Void e = absurd (cc)
complete_not_void rows (Integer k) e = refl
complete_not_void rows (Pointer' _ to) e = refl
complete_not_void rows (Array' _ element n) e = refl
complete_not_void rows (Chan' _ element n) e = refl
complete_not_void rows (Tuple' _ parts) e = refl
complete_not_void rows (Aggregate_ n) e = refl
complete_not_void rows (Function' _ r _ ps) e = refl

pub whole_part : (rows : List Aggregate) (t : Ty) → is_whole rows t ≡ true → IsPart t
whole_part rows t e =
    let b = both_hold (is_complete rows t) (not (is_array t)) e in
    record { not_void = complete_not_void rows t b.0; not_array = not_true (is_array t) b.1 }

pub stored_part : (rows : List Aggregate) (t : Ty) → is_stored rows t ≡ true → is_array t ≡ false → IsPart t
stored_part rows t e na = record { not_void = complete_not_void rows t (both_hold (is_sound rows t) (is_complete rows t) e).1; not_array = na }

pub row_parts : (rows : List Aggregate) {m : _} (r : Row_of-Ty m) → are_sound rows r ≡ true → AreParts (items-the_row-Ty m r)
row_parts rows end_of-Ty e = tt
row_parts rows (more_of-Ty t rest) e =
    let q = both_hold (is_sound rows t && is_whole rows t) (are_sound rows rest) e in
    (whole_part rows t (both_hold (is_sound rows t) (is_whole rows t) q.0).1, row_parts rows rest q.1)

-- a void function or one that gives a part
pub given_or_void : (rows : List Aggregate) (t : Ty) → (is_void t || is_whole rows t) ≡ true → is_void t ≡ false → is_array t ≡ false
given_or_void rows t e nv = (whole_part rows t (on (is_void t) nv e)).not_array
  where
    on : (b : Bool) → b ≡ false → (b || is_whole rows t) ≡ true → is_whole rows t ≡ true
    on true q e = absurd (cc)
    on false q e = e

-- ---- words and conditions

pub word_of : (k : Setting) (t : Ty) → is_word t ≡ true → IsWord k t
word_of k t e =
    let x = single k.ways.program t e in
    record { not_void = x.not_void; scalar = x.scalar; counts = words_are k.ways.program t x.not_array ∙ ap length x.units; units = x.units }

pub int_word : is_word int ≡ true
unfolding is_word out-Ty out
int_word = refl

pub pointer_word : (to : Ty) → is_word (ty.Pointer to) ≡ true
unfolding is_word out-Ty out
pointer_word to = refl

pub channel_word : (t : Ty) (n : ℕ) → is_word (ty.Chan t n) ≡ true
unfolding is_word out-Ty out
channel_word t n = refl

scalar_test : (k : Setting) (t : Ty) → is_scalar t ≡ true → is_word t ≡ true → IsTest k t
scalar_test k t e w = let x = word_of k t w in record { not_void = x.not_void; scalar = x.scalar; counts = x.counts ∙ sym (ap length x.units); words = inl x.units }

pub test_of : (k : Setting) (t : Ty) → is_scalar t ≡ true → IsTest k t
unfolding is_scalar is_word out-Ty out
test_of k (Integer j) e = integer_test k j
test_of k (Pointer' s to) e = scalar_test k (Pointer' s to) refl refl
test_of k (Chan' s element n) e = scalar_test k (Chan' s element n) refl refl
test_of k Void e = absurd (cc)
test_of k (Array' _ element n) e = absurd (cc)
test_of k (Tuple' _ parts) e = absurd (cc)
test_of k (Aggregate_ n) e = absurd (cc)
test_of k (Function' _ r _ ps) e = absurd (cc)

-- a pointer to a complete type
pub record IsPointer (t : Ty) : Type 0 where
  pub to : Ty
  pub is : t ≡ ty.Pointer to

pub complete_pointer : (rows : List Aggregate) (t : Ty) → points_to_complete rows t ≡ true → IsPointer t
unfolding points_to_complete out-Ty out hidden-the_row-Ty-0 hidden
complete_pointer rows (Pointer' tt (more_of-Ty to end_of-Ty)) e = record { to = to; is = refl }
complete_pointer rows Void e = absurd (cc)
complete_pointer rows (Integer k) e = absurd (cc)
complete_pointer rows (Array' _ element n) e = absurd (cc)
complete_pointer rows (Chan' _ element n) e = absurd (cc)
complete_pointer rows (Tuple' _ parts) e = absurd (cc)
complete_pointer rows (Aggregate_ n) e = absurd (cc)
complete_pointer rows (Function' _ r _ ps) e = absurd (cc)

pub pointee_is : (to : Ty) → pointee (ty.Pointer to) ≡ to
unfolding pointee out-Ty out hidden-the_row-Ty-0 shown-the_row-Ty-0 hidden shown
pointee_is to = refl

pub void_words : (k : Setting) (t : Ty) → is_void t ≡ true → count_of k t ≡ 0
unfolding is_void is_array words_of layout layout_of out-Ty out
void_words k Void e = refl
void_words k (Integer j) e = absurd (cc)
void_words k (Pointer' _ to) e = absurd (cc)
void_words k (Array' _ element n) e = absurd (cc)
void_words k (Chan' _ element n) e = absurd (cc)
void_words k (Tuple' _ parts) e = absurd (cc)
void_words k (Aggregate_ n) e = absurd (cc)
void_words k (Function' _ r _ ps) e = absurd (cc)

pub void_is : is_void ty.Void ≡ true
unfolding is_void out-Ty out
void_is = refl

pub private_not_array : (t : Ty) → may_be_private t ≡ true → is_array t ≡ false
unfolding may_be_private is_array out-Ty out
private_not_array Void e = refl
private_not_array (Integer k) e = refl
private_not_array (Pointer' _ to) e = refl
private_not_array (Array' _ element n) e = absurd (cc)
private_not_array (Chan' _ element n) e = refl
private_not_array (Tuple' _ parts) e = refl
private_not_array (Aggregate_ n) e = refl
private_not_array (Function' _ r _ ps) e = refl

pub array_is : (element : Ty) (n : ℕ) → is_array (ty.Array element n) ≡ true
unfolding is_array out-Ty out
array_is element n = refl

-- ---- soundness of parts of types

pub sound_pointer : (rows : List Aggregate) (to : Ty) → is_sound rows (ty.Pointer to) ≡ is_sound rows to
unfolding hidden-the_row-Ty-0 hidden
sound_pointer rows to = refl

-- a member of an aggregate is sound
pub member_sound : (rows : List Aggregate) → ((k : ℕ) (a : Aggregate) → slice_get rows k ≡ Some a → All (λ t. is_stored rows t ≡ true) (members_of (Some a))) → (t u : Ty) (i : ℕ) → slice_get (members_of (row_of rows t)) i ≡ Some u → is_sound rows u ≡ true
unfolding row_of out-Ty out
member_sound rows h (Aggregate_ n) u i e = on (slice_get rows n) refl e
  where
    each : (ts : List Ty) (i : ℕ) → AllByRecursion (λ t. is_stored rows t ≡ true) ts → slice_get ts i ≡ Some u → is_stored rows u ≡ true
    each [] i all e = absurd (cc)
    each (t ∷ ts) zero all e = let same : t ≡ u = cc in subst (λ t. is_stored rows t ≡ true) same all.0
    each (t ∷ ts) (suc i) all e = each ts i all.1 e

    on : (o : Option Aggregate) → slice_get rows n ≡ o → slice_get (members_of o) i ≡ Some u → is_sound rows u ≡ true
    on None q e = absurd (cc)
    on (Some a) q e = (both_hold (is_sound rows u) (is_complete rows u) (each (members_of (Some a)) i (recursion_from_All (λ t. is_stored rows t ≡ true) (members_of (Some a)) (h n a q)) e)).0
member_sound rows h Void u i e = absurd (cc)
member_sound rows h (Integer k) u i e = absurd (cc)
member_sound rows h (Pointer' _ to) u i e = absurd (cc)
member_sound rows h (Array' _ element n) u i e = absurd (cc)
member_sound rows h (Chan' _ element n) u i e = absurd (cc)
member_sound rows h (Tuple' _ parts) u i e = absurd (cc)
member_sound rows h (Function' _ r _ ps) u i e = absurd (cc)

-- what has members that are parts is a part
row_part : (rows : List Aggregate) (t u : Ty) (i : ℕ) → slice_get (members_of (row_of rows t)) i ≡ Some u → IsPart t
unfolding row_of is_void is_array out-Ty out
row_part rows (Aggregate_ n) u i e = record { not_void = refl; not_array = refl }
row_part rows Void u i e = absurd (cc)
row_part rows (Integer k) u i e = absurd (cc)
row_part rows (Pointer' _ to) u i e = absurd (cc)
row_part rows (Array' _ element n) u i e = absurd (cc)
row_part rows (Chan' _ element n) u i e = absurd (cc)
row_part rows (Tuple' _ parts) u i e = absurd (cc)
row_part rows (Function' _ r _ ps) u i e = absurd (cc)

pub leads_part : (rows : List Aggregate) (path : List ℕ) (t u : Ty) → LeadsTo rows path t u → IsPart u → IsPart t
unfolding member
leads_part rows [] t u l p = let same : record { ty = t; at = 0 } ≡ l.0 = some_is l.1.0 in subst IsPart (sym (ap (λ (m : Member). m.ty) same ∙ l.1.1)) p
  where
    some_is : {x y : Member} → Some x ≡ Some y → x ≡ y
    some_is e = cc
leads_part rows (i ∷ path) t u l p = on (slice_get (members_of (row_of rows t)) i) refl l.1.0
  where
    on : (o : Option Ty) → slice_get (members_of (row_of rows t)) i ≡ o → beyond o (slice_get (member_offsets rows (row_of rows t)) i) (member rows path) ≡ Some l.0 → IsPart t
    on None q e = absurd (cc)
    on (Some v) q e = row_part rows t v i q
