-- What converts by the rules converts in a well typed program.
use Rattle.std.proofs.Common.{◌≡◌, ℕ, Bool, true, false, ◌&&◌, List, [], ◌∷◌, Option, Some, None, refl, sym, ap, ap₂, ◌∙◌}
use Rattle.std.proofs.lemmas.Bool.{eq-eqb}
use Rattle.al_typed.specs.declared.ty.Ty.{Ty, Void, Integer, Pointer', Array', Chan', Tuple', Aggregate, Function', Row_of-Ty, end_of-Ty, more_of-Ty, items-the_row-Ty, items_hidden-the_row-Ty-1}
use Rattle.al_typed.specs.declared.ty.Ty.TheVariants as ty
use Rattle.al_typed.specs.declared.ty.Ty.TheViews.{out-Ty}
use Rattle.al_typed.specs.declared.ty.Ty.TheBlock.{hidden-the_row-Ty-0, hidden-the_row-Ty-1}
use denote.Hole.Carrier.{hidden, out}
use Rattle.al_typed.specs.WellTyped as well
use Rattle.al_typed.specs.WellTyped.{convert_all, is_word}
use Rattle.al_convert.specs.Same.{pointed, parts_of}
use Rattle.al_convert.specs.Kinds.{element_of}
use Rattle.al_convert.specs.Conversions.{pointers_convert, channels_convert, type_converts, row_converts}
use Rattle.al_sound_operators.proofs.TypeForms.{an_integer, pointer_is, channel_is, tuple_is, aggregate_is}
use Rattle.al_sound_operators.proofs.SameTypes.{and_both}

-- two pointers, two channels

words : (a b : Ty) → is_word a ≡ true → is_word b ≡ true → (is_word a && is_word b) ≡ true
words a b h k = ap₂ (λ (x y : Bool). x && y) h k

pointers : (x : Ty) (o : Option Ty) → pointers_convert x o ≡ true → (y : Ty) × (o ≡ Some y)
pointers x None h = absurd (cc)
pointers x (Some y) h = (y, refl)

channels : (x : Ty) (o : Option Ty) → channels_convert x o ≡ true → (y : Ty) × (o ≡ Some y)
channels x None h = absurd (cc)
channels x (Some y) h = (y, refl)

parts : {m : _} (r : Row_of-Ty m) (o : Option (List Ty)) → row_converts r o ≡ true → (ys : List Ty) × (o ≡ Some ys)
parts end_of-Ty None h = absurd (cc)
parts (more_of-Ty x r) None h = absurd (cc)
parts r (Some ys) h = (ys, refl)

pub pointer_converts : (x y : Ty) → well.converts (ty.Pointer x) (ty.Pointer y) ≡ true
unfolding is_word out-Ty out hidden-the_row-Ty-0 hidden
pointer_converts x y = refl

pub channel_converts : (x y : Ty) (m n : ℕ) → well.converts (ty.Chan x m) (ty.Chan y n) ≡ true
unfolding is_word out-Ty out hidden-the_row-Ty-0 hidden
channel_converts x y m n = refl

mutual
  unfolding hidden-the_row-Ty-0 hidden

  types_well : (a b : Ty) → type_converts a b ≡ true → well.converts a b ≡ true
  types_well Void b h = absurd (cc)
  types_well (Integer k) b h = let j = an_integer b h in ap (well.converts (Integer k)) j.1
  types_well (Pointer' _ (more_of-Ty x end_of-Ty)) b h =
      let y = pointers x (pointed b) h in
      ap (well.converts (ty.Pointer x)) (pointer_is b y.0 y.1) ∙ pointer_converts x y.0
  types_well (Array' _ (more_of-Ty x end_of-Ty) n) b h = absurd (cc)
  types_well (Chan' _ (more_of-Ty x end_of-Ty) n) b h =
      let y = channels x (element_of b) h in
      let m = channel_is b y.0 y.1 in
      ap (well.converts (ty.Chan x n)) m.1 ∙ channel_converts x y.0 n m.0
  types_well (Tuple' s r) b h =
      let ys = parts r (parts_of b) h in
      let k : row_converts r (Some ys.0) ≡ true = sym (ap (row_converts r) ys.1) ∙ h in
      ap (well.converts (Tuple' s r)) (tuple_is b ys.0 ys.1)
      ∙ rows_well r (hidden-the_row-Ty-1 ys.0) (ap (λ l. row_converts r (Some l)) (items_hidden-the_row-Ty-1 ys.0) ∙ k)
  types_well (Aggregate n) b h = ap (well.converts (Aggregate n)) (aggregate_is n b h) ∙ eq-eqb n n refl
  types_well (Function' _ (more_of-Ty x end_of-Ty) s r) b h = absurd (cc)

  rows_well : {m n : _} (r : Row_of-Ty m) (q : Row_of-Ty n) → row_converts r (Some (items-the_row-Ty n q)) ≡ true → convert_all r q ≡ true
  rows_well end_of-Ty end_of-Ty h = refl
  rows_well end_of-Ty (more_of-Ty y q) h = absurd (cc)
  rows_well (more_of-Ty x r) end_of-Ty h = absurd (cc)
  rows_well (more_of-Ty x r) (more_of-Ty y q) h =
      let both = and_both (type_converts x y) (row_converts r (Some (items-the_row-Ty _ q))) h in
      ap₂ (λ (a b : Bool). a && b) (types_well x y both.0) (rows_well r q both.1)

pub types_convert_well : (a b : Ty) → type_converts a b ≡ true → well.converts a b ≡ true
types_convert_well a b h = types_well a b h

-- ---- types of parts, as lists

abbrev pub each_converts : List Ty → List Ty → Bool
each_converts [] [] = true
each_converts (x ∷ xs) (y ∷ ys) = well.converts x y && each_converts xs ys
each_converts _ _ = false

rows_each : {m n : _} (r : Row_of-Ty m) (q : Row_of-Ty n) → convert_all r q ≡ each_converts (items-the_row-Ty m r) (items-the_row-Ty n q)
rows_each end_of-Ty end_of-Ty = refl
rows_each end_of-Ty (more_of-Ty y q) = refl
rows_each (more_of-Ty x r) end_of-Ty = refl
rows_each (more_of-Ty x r) (more_of-Ty y q) = ap (λ b. well.converts x y && b) (rows_each r q)

pub tuples_convert : (xs ys : List Ty) → well.converts (ty.Tuple xs) (ty.Tuple ys) ≡ each_converts xs ys
tuples_convert xs ys =
    rows_each (hidden-the_row-Ty-1 xs) (hidden-the_row-Ty-1 ys) ∙ ap₂ each_converts (items_hidden-the_row-Ty-1 xs) (items_hidden-the_row-Ty-1 ys)

-- what a pointer converts to
pub pointer_after : (x b : Ty) → type_converts (ty.Pointer x) b ≡ true → (y : Ty) × (b ≡ ty.Pointer y)
unfolding hidden-the_row-Ty-0 hidden
pointer_after x b h = let y = pointers x (pointed b) h in (y.0, pointer_is b y.0 y.1)
