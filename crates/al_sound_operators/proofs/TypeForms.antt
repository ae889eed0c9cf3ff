-- What a type is whose kind, target, element or parts are known.
use Rattle.std.proofs.Common.{◌≡◌, ℕ, Bool, true, false, ◌==◌, if◌then◌else◌, List, Option, Some, None, refl, sym, ap, ◌∙◌}
use Rattle.std.proofs.lemmas.Bool.{eqb-true}
use Rattle.std.specs.Prelude.{is_some}
use Rattle.al_base.specs.declared.arith.Kind.{Kind}
use Rattle.al_base.specs.declared.arith.Kind.TheVariants as kind
use Rattle.al_typed.specs.declared.ty.Ty.{Ty, roll-Ty}
use Rattle.al_typed.specs.declared.ty.Ty.TheOpen.{Ty-F}
use Rattle.al_typed.specs.declared.ty.Ty.TheVariants as ty
use Rattle.al_typed.specs.declared.ty.Ty.TheViews.{out-Ty, roll-out-Ty, out-roll-Ty}
use Rattle.al_typed.specs.Types.{is_void, is_void_at, points_to_complete, points_to_complete_at, is_complete}
use Rattle.al_typed.specs.declared.program.Aggregate.{Aggregate as AggregateRow}
use Rattle.al_convert.specs.Same.{same_kind, is_of_kind, is_of_kind_at, is_aggregate, is_aggregate_at, parts_of, parts_at, pointed, pointed_at, chan_element, chan_at, array_element, array_at, returns_of, returns_at, parameters_of, parameters_at}
use Rattle.al_convert.specs.Kinds.{kind_of, kind_at, is_integer, element_of, element_at, is_channel, items_of, items_at}
use Rattle.al_operands.specs.Rules.{is_pointer}

pub some_is : {A : Type 0} {a b : A} → Some a ≡ Some b → a ≡ b
some_is h = cc

-- an option that is there has something
pub there : {A : Type 0} (o : Option A) → is_some o ≡ true → (a : A) × (o ≡ Some a)
there (Some a) h = (a, refl)
there None h = absurd (cc)

pub kind_same : (a b : Kind) → same_kind a b ≡ true → a ≡ b
kind_same kind.Byte kind.Byte h = refl
kind_same kind.Byte _ h = absurd (cc)
kind_same kind.Sint kind.Sint h = refl
kind_same kind.Sint _ h = absurd (cc)
kind_same kind.Usint kind.Usint h = refl
kind_same kind.Usint _ h = absurd (cc)
kind_same kind.Int kind.Int h = refl
kind_same kind.Int _ h = absurd (cc)
kind_same kind.Uint kind.Uint h = refl
kind_same kind.Uint _ h = absurd (cc)
kind_same kind.Lint kind.Lint h = refl
kind_same kind.Lint _ h = absurd (cc)
kind_same kind.Ulint kind.Ulint h = refl
kind_same kind.Ulint _ h = absurd (cc)

-- ---- each form

pub void_is : (t : Ty) → is_void t ≡ true → t ≡ ty.Void
unfolding is_void
void_is t h = sym (roll-out-Ty t) ∙ at (out-Ty t) h
  where
    at : (y : Ty-F Ty) → is_void_at y ≡ true → roll-Ty y ≡ ty.Void
    at Ty-F.Void h = ty.rolls-Void
    at _ h = absurd (cc)

pub integer_is : (t : Ty) (k : Kind) → kind_of t ≡ Some k → t ≡ ty.Integer k
unfolding kind_of
integer_is t k h = sym (roll-out-Ty t) ∙ at (out-Ty t) h
  where
    at : (y : Ty-F Ty) → kind_at y ≡ Some k → roll-Ty y ≡ ty.Integer k
    at (Ty-F.Integer j) h = ty.rolls-Integer j ∙ ap ty.Integer (some_is h)
    at _ h = absurd (cc)

pub of_kind_is : (k : Kind) (t : Ty) → is_of_kind k t ≡ true → t ≡ ty.Integer k
unfolding is_of_kind
of_kind_is k t h = sym (roll-out-Ty t) ∙ at (out-Ty t) h
  where
    at : (y : Ty-F Ty) → is_of_kind_at k y ≡ true → roll-Ty y ≡ ty.Integer k
    at (Ty-F.Integer j) h = ty.rolls-Integer j ∙ sym (ap ty.Integer (kind_same k j h))
    at _ h = absurd (cc)

pub pointer_is : (t x : Ty) → pointed t ≡ Some x → t ≡ ty.Pointer x
unfolding pointed
pointer_is t x h = sym (roll-out-Ty t) ∙ at (out-Ty t) h
  where
    at : (y : Ty-F Ty) → pointed_at y ≡ Some x → roll-Ty y ≡ ty.Pointer x
    at (Ty-F.Pointer z) h = ty.rolls-Pointer z ∙ ap ty.Pointer (some_is h)
    at _ h = absurd (cc)

pub channel_is : (t x : Ty) → element_of t ≡ Some x → (n : ℕ) × (t ≡ ty.Chan x n)
unfolding element_of
channel_is t x h = let a = at (out-Ty t) h in (a.0, sym (roll-out-Ty t) ∙ a.1)
  where
    at : (y : Ty-F Ty) → element_at y ≡ Some x → (n : ℕ) × (roll-Ty y ≡ ty.Chan x n)
    at (Ty-F.Chan z n) h = (n, ty.rolls-Chan z n ∙ ap (λ (u : Ty). ty.Chan u n) (some_is h))
    at _ h = absurd (cc)

pub array_is : (t x : Ty) → items_of t ≡ Some x → (n : ℕ) × (t ≡ ty.Array x n)
unfolding items_of
array_is t x h = let a = at (out-Ty t) h in (a.0, sym (roll-out-Ty t) ∙ a.1)
  where
    at : (y : Ty-F Ty) → items_at y ≡ Some x → (n : ℕ) × (roll-Ty y ≡ ty.Array x n)
    at (Ty-F.Array z n) h = (n, ty.rolls-Array z n ∙ ap (λ (u : Ty). ty.Array u n) (some_is h))
    at _ h = absurd (cc)

pub tuple_is : (t : Ty) (xs : List Ty) → parts_of t ≡ Some xs → t ≡ ty.Tuple xs
unfolding parts_of
tuple_is t xs h = sym (roll-out-Ty t) ∙ at (out-Ty t) h
  where
    at : (y : Ty-F Ty) → parts_at y ≡ Some xs → roll-Ty y ≡ ty.Tuple xs
    at (Ty-F.Tuple zs) h = ty.rolls-Tuple zs ∙ ap ty.Tuple (some_is h)
    at _ h = absurd (cc)

pub aggregate_is : (n : ℕ) (t : Ty) → is_aggregate n t ≡ true → t ≡ ty.Aggregate n
unfolding is_aggregate
aggregate_is n t h = sym (roll-out-Ty t) ∙ at (out-Ty t) h
  where
    at : (y : Ty-F Ty) → is_aggregate_at n y ≡ true → roll-Ty y ≡ ty.Aggregate n
    at (Ty-F.Aggregate m) h = ty.rolls-Aggregate m ∙ sym (ap ty.Aggregate (eqb-true n m h))
    at _ h = absurd (cc)

-- where the number of elements, or the capacity, is known

if_some : {A : Type 0} (b : Bool) (x y : A) → (if b then Some x else None) ≡ Some y → (b ≡ true) × (x ≡ y)
if_some true x y h = (refl, some_is h)
if_some false x y h = absurd (cc)

pub array_of_is : (n : ℕ) (t x : Ty) → array_element n t ≡ Some x → t ≡ ty.Array x n
unfolding array_element
array_of_is n t x h = sym (roll-out-Ty t) ∙ at (out-Ty t) h
  where
    at : (y : Ty-F Ty) → array_at n y ≡ Some x → roll-Ty y ≡ ty.Array x n
    at (Ty-F.Array z m) h =
        let both = if_some (n == m) z x h in
        ty.rolls-Array z m ∙ ap (λ (u : Ty). ty.Array u m) both.1 ∙ ap (ty.Array x) (sym (eqb-true n m both.0))
    at _ h = absurd (cc)

pub channel_of_is : (n : ℕ) (t x : Ty) → chan_element true n t ≡ Some x → t ≡ ty.Chan x n
unfolding chan_element
channel_of_is n t x h = sym (roll-out-Ty t) ∙ at (out-Ty t) h
  where
    at : (y : Ty-F Ty) → chan_at true n y ≡ Some x → roll-Ty y ≡ ty.Chan x n
    at (Ty-F.Chan z m) h =
        let both = if_some (n == m) z x h in
        ty.rolls-Chan z m ∙ ap (λ (u : Ty). ty.Chan u m) both.1 ∙ ap (ty.Chan x) (sym (eqb-true n m both.0))
    at _ h = absurd (cc)

-- a channel, whatever its capacity
pub any_channel_is : (n : ℕ) (t x : Ty) → chan_element false n t ≡ Some x → (m : ℕ) × (t ≡ ty.Chan x m)
unfolding chan_element
any_channel_is n t x h = let a = at (out-Ty t) h in (a.0, sym (roll-out-Ty t) ∙ a.1)
  where
    at : (y : Ty-F Ty) → chan_at false n y ≡ Some x → (m : ℕ) × (roll-Ty y ≡ ty.Chan x m)
    at (Ty-F.Chan z m) h = (m, ty.rolls-Chan z m ∙ ap (λ (u : Ty). ty.Chan u m) (some_is h))
    at _ h = absurd (cc)

pub function_is : (t x : Ty) (xs : List Ty) → returns_of t ≡ Some x → parameters_of t ≡ Some xs → t ≡ ty.Function x xs
unfolding returns_of parameters_of
function_is t x xs h k = sym (roll-out-Ty t) ∙ at (out-Ty t) h k
  where
    at : (y : Ty-F Ty) → returns_at y ≡ Some x → parameters_at y ≡ Some xs → roll-Ty y ≡ ty.Function x xs
    at (Ty-F.Function z zs) h k = ty.rolls-Function z zs ∙ ap (λ (u : Ty). ty.Function u zs) (some_is h) ∙ ap (ty.Function x) (some_is k)
    at _ h k = absurd (cc)

-- ---- the same, by tests

pub an_integer : (t : Ty) → is_integer t ≡ true → (k : Kind) × (t ≡ ty.Integer k)
an_integer t h = let k = there (kind_of t) h in (k.0, integer_is t k.0 k.1)

pub a_pointer : (t : Ty) → is_pointer t ≡ true → (x : Ty) × (t ≡ ty.Pointer x)
a_pointer t h = let x = there (pointed t) h in (x.0, pointer_is t x.0 x.1)

pub a_channel : (t : Ty) → is_channel t ≡ true → (x : Ty) × (n : ℕ) × (t ≡ ty.Chan x n)
a_channel t h = let x = there (element_of t) h in let n = channel_is t x.0 x.1 in (x.0, n.0, n.1)

pub a_complete_pointer : (rows : List AggregateRow) (t : Ty) → points_to_complete rows t ≡ true → (x : Ty) × (t ≡ ty.Pointer x) × (is_complete rows x ≡ true)
unfolding points_to_complete
a_complete_pointer rows t h = let a = at (out-Ty t) h in (a.0, sym (roll-out-Ty t) ∙ a.1, a.2)
  where
    at : (y : Ty-F Ty) → points_to_complete_at rows y ≡ true → (x : Ty) × (roll-Ty y ≡ ty.Pointer x) × (is_complete rows x ≡ true)
    at (Ty-F.Pointer z) h = (z, ty.rolls-Pointer z, h)
    at _ h = absurd (cc)

-- ---- back: the tests of types that are known

pub out_at-Void : out-Ty ty.Void ≡ Ty-F.Void
out_at-Void = ap out-Ty (sym ty.rolls-Void) ∙ out-roll-Ty Ty-F.Void

pub out_at-Integer : (k : Kind) → out-Ty (ty.Integer k) ≡ Ty-F.Integer k
out_at-Integer k = ap out-Ty (sym (ty.rolls-Integer k)) ∙ out-roll-Ty (Ty-F.Integer k)

pub out_at-Pointer : (x : Ty) → out-Ty (ty.Pointer x) ≡ Ty-F.Pointer x
out_at-Pointer x = ap out-Ty (sym (ty.rolls-Pointer x)) ∙ out-roll-Ty (Ty-F.Pointer x)

pub out_at-Array : (x : Ty) (n : ℕ) → out-Ty (ty.Array x n) ≡ Ty-F.Array x n
out_at-Array x n = ap out-Ty (sym (ty.rolls-Array x n)) ∙ out-roll-Ty (Ty-F.Array x n)

pub out_at-Chan : (x : Ty) (n : ℕ) → out-Ty (ty.Chan x n) ≡ Ty-F.Chan x n
out_at-Chan x n = ap out-Ty (sym (ty.rolls-Chan x n)) ∙ out-roll-Ty (Ty-F.Chan x n)

pub out_at-Tuple : (xs : List Ty) → out-Ty (ty.Tuple xs) ≡ Ty-F.Tuple xs
out_at-Tuple xs = ap out-Ty (sym (ty.rolls-Tuple xs)) ∙ out-roll-Ty (Ty-F.Tuple xs)

pub out_at-Aggregate : (n : ℕ) → out-Ty (ty.Aggregate n) ≡ Ty-F.Aggregate n
out_at-Aggregate n = ap out-Ty (sym (ty.rolls-Aggregate n)) ∙ out-roll-Ty (Ty-F.Aggregate n)

pub out_at-Function : (x : Ty) (xs : List Ty) → out-Ty (ty.Function x xs) ≡ Ty-F.Function x xs
out_at-Function x xs = ap out-Ty (sym (ty.rolls-Function x xs)) ∙ out-roll-Ty (Ty-F.Function x xs)

pub pointed-Pointer : (x : Ty) → pointed (ty.Pointer x) ≡ Some x
unfolding pointed
pointed-Pointer x = ap pointed_at (out_at-Pointer x)

pub element_of-Chan : (x : Ty) (n : ℕ) → element_of (ty.Chan x n) ≡ Some x
unfolding element_of
element_of-Chan x n = ap element_at (out_at-Chan x n)

pub kind_of-Integer : (k : Kind) → kind_of (ty.Integer k) ≡ Some k
unfolding kind_of
kind_of-Integer k = ap kind_at (out_at-Integer k)

pub parts_of-Tuple : (xs : List Ty) → parts_of (ty.Tuple xs) ≡ Some xs
unfolding parts_of
parts_of-Tuple xs = ap parts_at (out_at-Tuple xs)
