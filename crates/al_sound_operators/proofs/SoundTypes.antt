-- Sound types, and types of values: their parts, and what they are converted to.
use Rattle.std.proofs.Common.{◌≡◌, ℕ, Bool, true, false, ◌&&◌, List, [], ◌∷◌, Option, Some, None, refl, sym, ap, ap₂, ◌∙◌}
use Rattle.std.specs.Prelude.{nat_lt, if◌then◌else◌}
use Rattle.std.specs.List.{list_all}
use Rattle.std.proofs.lemmas.Bool.{eqb-true, eq-eqb}
use Rattle.al_base.specs.declared.arith.Kind.{Kind}
use Rattle.al_base.specs.declared.arith.Kind.TheVariants as kind
use Rattle.al_typed.specs.declared.program.Aggregate.{Aggregate as AggregateRow}
use Rattle.al_typed.specs.declared.ty.Ty.{Ty, Void, Integer, Pointer', Array', Chan', Tuple', Aggregate, Function', Row_of-Ty, end_of-Ty, more_of-Ty, items-the_row-Ty}
use Rattle.al_typed.specs.declared.ty.Ty.TheVariants as ty
use Rattle.al_typed.specs.declared.ty.Ty.TheViews.{out-Ty}
use Rattle.al_typed.specs.declared.ty.Ty.TheBlock.{hidden-the_row-Ty-0, hidden-the_row-Ty-1}
use denote.Hole.Carrier.{hidden, out}
use Rattle.al_typed.specs.TyFold.{fold_types}
use Rattle.al_typed.specs.Types.{is_void, is_array, is_complete, is_complete_step, is_whole, promoted}
use Rattle.al_typed.specs.WellTyped as well
use Rattle.al_typed.specs.WellTyped.{are_sound, is_small, is_sound, is_word}
use Rattle.al_convert.specs.Kinds.{common, rank}
use Rattle.al_convert.specs.Same.{same, same_list, are_same, passes, pointed, parts_of, chan_element}
use Rattle.al_convert.proofs.SameIs.{same-Integer, same-Pointer, same-Chan, same-Tuple, same-Aggregate}
use Rattle.al_sound_operators.proofs.TypeForms.{aggregate_is, any_channel_is, of_kind_is, pointer_is, tuple_is}
use Rattle.al_sound_operators.proofs.SameTypes.{and_both, row_tuple_is}
use Rattle.al_sound_operators.proofs.Conversions.{channel_converts, each_converts, pointer_converts, tuples_convert}

-- ---- wholes

pub whole-Integer : (rows : List AggregateRow) (k : Kind) → is_whole rows (ty.Integer k) ≡ true
unfolding is_complete is_array out-Ty out
whole-Integer rows k = refl

pub whole-Pointer : (rows : List AggregateRow) (x : Ty) → is_whole rows (ty.Pointer x) ≡ true
unfolding is_complete is_array out-Ty out hidden-the_row-Ty-0 hidden
whole-Pointer rows x = refl

pub whole-Chan : (rows : List AggregateRow) (x : Ty) (n : ℕ) → is_whole rows (ty.Chan x n) ≡ true
unfolding is_complete is_array out-Ty out hidden-the_row-Ty-0 hidden
whole-Chan rows x n = refl

-- ---- sound

pub sound-Pointer : (rows : List AggregateRow) (x : Ty) → is_sound rows (ty.Pointer x) ≡ is_sound rows x
unfolding hidden-the_row-Ty-0 hidden
sound-Pointer rows x = refl

-- the first, and the second, of four and of three tests
first : (a b : Bool) → (a && b) ≡ true → a ≡ true
first a b h = (and_both a b h).0

last : (a b : Bool) → (a && b) ≡ true → b ≡ true
last a b h = (and_both a b h).1

pub sound-Array : (rows : List AggregateRow) (x : Ty) (n : ℕ) → is_sound rows (ty.Array x n) ≡ true → is_sound rows x ≡ true
unfolding hidden-the_row-Ty-0 hidden
sound-Array rows x n h = first _ _ (first _ _ (first _ _ h))

pub sound-Chan : (rows : List AggregateRow) (x : Ty) (n : ℕ) → is_sound rows (ty.Chan x n) ≡ true → (is_sound rows x ≡ true) × (is_whole rows x ≡ true)
unfolding hidden-the_row-Ty-0 hidden
sound-Chan rows x n h = (first _ _ (first _ _ h), last _ _ (first _ _ h))

parts_complete : (rows : List AggregateRow) {m : _} (r : Row_of-Ty m) → are_sound rows r ≡ true → list_all (λ part. part) (fold_types (is_complete_step rows) r) ≡ true
unfolding is_complete
parts_complete rows end_of-Ty h = refl
parts_complete rows (more_of-Ty x r) h =
    ap₂ (λ (a b : Bool). a && b) (first _ _ (last _ _ (first _ _ h))) (parts_complete rows r (last _ _ h))

tuple_whole : (rows : List AggregateRow) (s : _) (r : Row_of-Ty _) → is_sound rows (Tuple' s r) ≡ true → is_whole rows (Tuple' s r) ≡ true
unfolding is_complete is_array out-Ty out
tuple_whole rows s r h = ap (λ b. b && true) (parts_complete rows r (first _ _ h))

pub tuple_is_whole : (rows : List AggregateRow) (ts : List Ty) → is_sound rows (ty.Tuple ts) ≡ true → is_whole rows (ty.Tuple ts) ≡ true
tuple_is_whole rows ts h = tuple_whole rows _ (hidden-the_row-Ty-1 ts) h

-- ---- what a value is converted to

same_whole : (rows : List AggregateRow) (a b : ℕ) → (a ≡ b) → is_whole rows (Aggregate a) ≡ true → is_whole rows (Aggregate b) ≡ true
same_whole rows a b e h = sym (ap (λ n. is_whole rows (Aggregate n)) e) ∙ h

-- nothing is converted to what no value has
not_true : {X : Type 0} → false ≡ true → X
not_true h = absurd (cc)

none_void : (a : Ty) → well.converts a Void ≡ true → ⊥
unfolding is_word out-Ty out
none_void Void h = not_true h
none_void a h = not_true (last (is_word a) false h)

none_array : (a : Ty) (s : _) (r : Row_of-Ty _) (n : ℕ) → well.converts a (Array' s r n) ≡ true → ⊥
unfolding is_word out-Ty out
none_array Void s r n h = not_true h
none_array a s r n h = not_true (last (is_word a) false h)

none_function : (a : Ty) (s : _) (x : Row_of-Ty _) (t : _) (r : Row_of-Ty _) → well.converts a (Function' s x t r) ≡ true → ⊥
unfolding is_word out-Ty out
none_function Void s x t r h = not_true h
none_function a s x t r h = not_true (last (is_word a) false h)

aggregate_after : (rows : List AggregateRow) (a : Ty) (n : ℕ) → well.converts a (Aggregate n) ≡ true → is_whole rows a ≡ true → is_whole rows (Aggregate n) ≡ true
unfolding is_word out-Ty out
aggregate_after rows (Aggregate m) n h w = same_whole rows m n (eqb-true m n h) w
aggregate_after rows a n h w = not_true (last (is_word a) false h)

-- a value of a whole type is converted to a sound one: that is whole too
pub whole_after : (rows : List AggregateRow) (a b : Ty) → well.converts a b ≡ true → is_whole rows a ≡ true → is_sound rows b ≡ true → is_whole rows b ≡ true
unfolding is_complete is_array out-Ty out
whole_after rows a Void c w h = absurd (none_void a c)
whole_after rows a (Integer k) c w h = refl
whole_after rows a (Pointer' _ (more_of-Ty x end_of-Ty)) c w h = refl
whole_after rows a (Array' s r n) c w h = absurd (none_array a s r n c)
whole_after rows a (Chan' _ (more_of-Ty x end_of-Ty) n) c w h = refl
whole_after rows a (Tuple' s r) c w h = tuple_whole rows s r h
whole_after rows a (Aggregate n) c w h = aggregate_after rows a n c w
whole_after rows a (Function' s x t r) c w h = absurd (none_function a s x t r c)

-- a whole type is no void
pub whole_no_void : (rows : List AggregateRow) (t : Ty) → is_whole rows t ≡ true → is_void t ≡ false
unfolding is_complete is_void out-Ty out
whole_no_void rows Void h = not_true h
whole_no_void rows _ h = refl

-- what is whole is complete, and no array
pub whole_complete : (rows : List AggregateRow) (t : Ty) → is_whole rows t ≡ true → is_complete rows t ≡ true
whole_complete rows t h = first _ _ h

-- ---- types that are the same, but for capacities

passed : (x : Ty) (o : Option Ty) → passes (same false x) o ≡ true → (y : Ty) × (o ≡ Some y) × (same false x y ≡ true)
passed x None h = absurd (cc)
passed x (Some y) h = (y, refl, h)

listed : (xs : List Ty) (o : Option (List Ty)) → are_same false xs o ≡ true → (ys : List Ty) × (o ≡ Some ys) × (same_list false xs ys ≡ true)
listed xs None h = absurd (cc)
listed xs (Some ys) h = (ys, refl, h)

mutual
  unfolding hidden-the_row-Ty-0 hidden is_complete is_array out-Ty out

  same_types_convert : (rows : List AggregateRow) (a b : Ty) → is_sound rows a ≡ true → is_whole rows a ≡ true → same false a b ≡ true → well.converts a b ≡ true
  same_types_convert rows Void b o w h = not_true w
  same_types_convert rows (Integer k) b o w h = ap (well.converts (Integer k)) (of_kind_is k b (sym (same-Integer false k b) ∙ h))
  same_types_convert rows (Pointer' _ (more_of-Ty x end_of-Ty)) b o w h =
      let y = passed x (pointed b) (sym (same-Pointer false x b) ∙ h) in
      ap (well.converts (ty.Pointer x)) (pointer_is b y.0 y.1) ∙ pointer_converts x y.0
  same_types_convert rows (Array' _ (more_of-Ty x end_of-Ty) n) b o w h = not_true (last _ false w)
  same_types_convert rows (Chan' _ (more_of-Ty x end_of-Ty) n) b o w h =
      let y = passed x (chan_element false n b) (sym (same-Chan false x n b) ∙ h) in
      let m = any_channel_is n b y.0 y.1 in
      ap (well.converts (ty.Chan x n)) m.1 ∙ channel_converts x y.0 n m.0
  same_types_convert rows (Tuple' s r) b o w h =
      let k : are_same false (items-the_row-Ty _ r) (parts_of b) ≡ true = sym (same-Tuple false (items-the_row-Ty _ r) b) ∙ sym (ap (λ a. same false a b) (row_tuple_is s r)) ∙ h in
      let ys = listed (items-the_row-Ty _ r) (parts_of b) k in
      ap₂ well.converts (row_tuple_is s r) (tuple_is b ys.0 ys.1)
      ∙ tuples_convert (items-the_row-Ty _ r) ys.0
      ∙ same_rows_convert rows r ys.0 (first (are_sound rows r) _ o) ys.2
  same_types_convert rows (Aggregate n) b o w h = ap (well.converts (Aggregate n)) (aggregate_is n b (sym (same-Aggregate false n b) ∙ h)) ∙ eq-eqb n n refl
  same_types_convert rows (Function' _ (more_of-Ty x end_of-Ty) s r) b o w h = not_true w

  same_rows_convert : (rows : List AggregateRow) {m : _} (r : Row_of-Ty m) (ys : List Ty) → are_sound rows r ≡ true → same_list false (items-the_row-Ty m r) ys ≡ true
      → each_converts (items-the_row-Ty m r) ys ≡ true
  same_rows_convert rows end_of-Ty [] o h = refl
  same_rows_convert rows end_of-Ty (y ∷ ys) o h = not_true h
  same_rows_convert rows (more_of-Ty x r) [] o h = not_true h
  same_rows_convert rows (more_of-Ty x r) (y ∷ ys) o h =
      let both = and_both (same false x y) (same_list false (items-the_row-Ty _ r) ys) h in
      ap₂ (λ (a b : Bool). a && b)
      (same_types_convert rows x y (first _ (is_whole rows x) (first _ (are_sound rows r) o)) (last (is_sound rows x) _ (first _ (are_sound rows r) o)) both.0)
      (same_rows_convert rows r ys (last _ (are_sound rows r) o) both.1)

-- a value of a sound type is converted to a type that is the same but for capacities
pub same_converts : (rows : List AggregateRow) (a b : Ty) → is_sound rows a ≡ true → is_whole rows a ≡ true → same false a b ≡ true → well.converts a b ≡ true
same_converts rows a b o w h = same_types_convert rows a b o w h

-- ---- arithmetic

pub promoted_twice : (k : Kind) → promoted (promoted k) ≡ promoted k
promoted_twice kind.Byte = refl
promoted_twice _ = refl

pub promoted-common : (a b : Kind) → promoted (common a b) ≡ common a b
promoted-common a b = on (nat_lt (rank a) (rank b))
  where
    on : (c : Bool) → promoted (if c then promoted b else promoted a) ≡ (if c then promoted b else promoted a)
    on true = promoted_twice b
    on false = promoted_twice a
