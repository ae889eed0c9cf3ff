-- Types that are the same, capacities counted, are equal.
use Rattle.std.proofs.Common.{◌≡◌, Bool, true, false, ◌&&◌, List, [], ◌∷◌, Option, Some, None, refl, sym, ap, ap₂, ◌∙◌}
use Rattle.al_typed.specs.declared.ty.Ty.{Ty, Void, Integer, Pointer', Array', Chan', Tuple', Aggregate, Function', Row_of-Ty, end_of-Ty, more_of-Ty, items-the_row-Ty, items_hidden-the_row-Ty-1}
use Rattle.al_typed.specs.declared.ty.Ty.TheVariants as ty
use Rattle.al_typed.specs.declared.ty.Ty.TheViews.{out-Ty, roll-out-Ty}
use Rattle.al_typed.specs.declared.ty.Ty.TheBlock.{hidden-the_row-Ty-0, shown-the_row-Ty-0, shown-the_row-Ty-1}
use denote.Hole.Carrier.{hidden, out, shown}
use Rattle.al_convert.specs.Same.{same, same_list, are_same, passes, pointed, chan_element, array_element, returns_of, parameters_of, parts_of}
use Rattle.al_convert.proofs.SameIs.{same-Void, same-Integer, same-Pointer, same-Array, same-Chan, same-Tuple, same-Aggregate, same-Function}
use Rattle.al_sound_operators.proofs.TypeForms.{void_is, of_kind_is, pointer_is, array_of_is, channel_of_is, tuple_is, aggregate_is, function_is}

pub and_both : (a b : Bool) → (a && b) ≡ true → (a ≡ true) × (b ≡ true)
and_both true b h = (refl, h)
and_both false b h = absurd (cc)

-- ---- the two spellings of a row

abbrev tuple_items : Ty → List Ty
tuple_items (Tuple' _ r) = items-the_row-Ty _ r
tuple_items _ = []

pub tuple_rolls : (s : _) (r : Row_of-Ty _) → Tuple' s r ≡ ty.Tuple (shown-the_row-Ty-1 s r)
unfolding out-Ty out
tuple_rolls s r = sym (roll-out-Ty (Tuple' s r)) ∙ ty.rolls-Tuple (shown-the_row-Ty-1 s r)

pub items_are : (s : _) (r : Row_of-Ty _) → items-the_row-Ty _ r ≡ shown-the_row-Ty-1 s r
items_are s r = ap tuple_items (tuple_rolls s r) ∙ items_hidden-the_row-Ty-1 (shown-the_row-Ty-1 s r)

pub row_tuple_is : (s : _) (r : Row_of-Ty _) → Tuple' s r ≡ ty.Tuple (items-the_row-Ty _ r)
row_tuple_is s r = tuple_rolls s r ∙ ap ty.Tuple (sym (items_are s r))

pub row_function_is : (x : Ty) (s : _) (r : Row_of-Ty _) → Function' tt (more_of-Ty x end_of-Ty) s r ≡ ty.Function x (items-the_row-Ty _ r)
unfolding out-Ty out shown-the_row-Ty-0 shown
row_function_is x s r =
    sym (roll-out-Ty (Function' tt (more_of-Ty x end_of-Ty) s r)) ∙ ty.rolls-Function x (shown-the_row-Ty-1 s r) ∙ ap (ty.Function x) (sym (items_are s r))

-- ----

-- what passes is there
passed : (x : Ty) (o : Option Ty) → passes (same true x) o ≡ true → (y : Ty) × (o ≡ Some y) × (same true x y ≡ true)
passed x None h = absurd (cc)
passed x (Some y) h = (y, refl, h)

listed : (xs : List Ty) (o : Option (List Ty)) → are_same true xs o ≡ true → (ys : List Ty) × (o ≡ Some ys) × (same_list true xs ys ≡ true)
listed xs None h = absurd (cc)
listed xs (Some ys) h = (ys, refl, h)

mutual
  unfolding hidden-the_row-Ty-0 hidden

  equal_types : (a b : Ty) → same true a b ≡ true → a ≡ b
  equal_types Void b h = sym (void_is b (sym (same-Void true b) ∙ h))
  equal_types (Integer k) b h = sym (of_kind_is k b (sym (same-Integer true k b) ∙ h))
  equal_types (Pointer' _ (more_of-Ty x end_of-Ty)) b h =
      let y = passed x (pointed b) (sym (same-Pointer true x b) ∙ h) in
      ap ty.Pointer (equal_types x y.0 y.2) ∙ sym (pointer_is b y.0 y.1)
  equal_types (Array' _ (more_of-Ty x end_of-Ty) n) b h =
      let y = passed x (array_element n b) (sym (same-Array true x n b) ∙ h) in
      ap (λ (u : Ty). ty.Array u n) (equal_types x y.0 y.2) ∙ sym (array_of_is n b y.0 y.1)
  equal_types (Chan' _ (more_of-Ty x end_of-Ty) n) b h =
      let y = passed x (chan_element true n b) (sym (same-Chan true x n b) ∙ h) in
      ap (λ (u : Ty). ty.Chan u n) (equal_types x y.0 y.2) ∙ sym (channel_of_is n b y.0 y.1)
  equal_types (Tuple' s r) b h =
      let k : are_same true (items-the_row-Ty _ r) (parts_of b) ≡ true = sym (same-Tuple true (items-the_row-Ty _ r) b) ∙ sym (ap (λ a. same true a b) (row_tuple_is s r)) ∙ h in
      let ys = listed (items-the_row-Ty _ r) (parts_of b) k in
      row_tuple_is s r ∙ ap ty.Tuple (equal_rows r ys.0 ys.2) ∙ sym (tuple_is b ys.0 ys.1)
  equal_types (Aggregate n) b h = sym (aggregate_is n b (sym (same-Aggregate true n b) ∙ h))
  equal_types (Function' _ (more_of-Ty x end_of-Ty) s r) b h =
      let k : (passes (same true x) (returns_of b) && are_same true (items-the_row-Ty _ r) (parameters_of b)) ≡ true =
      sym (same-Function true x (items-the_row-Ty _ r) b) ∙ sym (ap (λ a. same true a b) (row_function_is x s r)) ∙ h in
      let both = and_both (passes (same true x) (returns_of b)) (are_same true (items-the_row-Ty _ r) (parameters_of b)) k in
      let y = passed x (returns_of b) both.0 in
      let ys = listed (items-the_row-Ty _ r) (parameters_of b) both.1 in
      row_function_is x s r ∙ ap₂ ty.Function (equal_types x y.0 y.2) (equal_rows r ys.0 ys.2) ∙ sym (function_is b y.0 ys.0 y.1 ys.1)

  equal_rows : {m : _} (r : Row_of-Ty m) (ys : List Ty) → same_list true (items-the_row-Ty m r) ys ≡ true → items-the_row-Ty m r ≡ ys
  equal_rows end_of-Ty [] h = refl
  equal_rows end_of-Ty (y ∷ ys) h = absurd (cc)
  equal_rows (more_of-Ty x r) [] h = absurd (cc)
  equal_rows (more_of-Ty x r) (y ∷ ys) h =
      let both = and_both (same true x y) (same_list true (items-the_row-Ty _ r) ys) h in
      ap₂ (λ (u : Ty) (us : List Ty). u ∷ us) (equal_types x y both.0) (equal_rows r ys both.1)

-- types that are the same, capacities counted
pub same_types : (a b : Ty) → same true a b ≡ true → a ≡ b
same_types a b h = equal_types a b h
