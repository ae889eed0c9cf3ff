-- Kinds of arithmetic, and types that are converted to them.
use Rattle.std.proofs.Common.{◌≡◌, ℕ, Bool, true, false, Option, Some, None, refl, sym, ap, ◌∙◌, inl, inr}
use Rattle.std.specs.Prelude.{◌⊎◌, ◌||◌, not, is_some}
use Rattle.al_base.specs.declared.arith.Kind.{Kind}
use Rattle.al_base.specs.declared.arith.Kind.TheVariants as kind
use Rattle.al_base.specs.declared.place.Place.{Place}
use Rattle.al_typed.specs.declared.ty.Ty.{Ty}
use Rattle.al_typed.specs.declared.ty.Ty.TheVariants as ty
use Rattle.al_typed.specs.declared.ty.Ty.TheViews.{out-Ty}
use Rattle.al_typed.specs.declared.ty.Ty.TheBlock.{hidden-the_row-Ty-0}
use denote.Hole.Carrier.{hidden, out}
use Rattle.al_typed.specs.Types.{promoted, void_pointer}
use Rattle.al_typed.specs.WellTyped as well
use Rattle.al_typed.specs.WellTyped.{is_word}
use Rattle.al_convert.specs.declared.literal.Literal.{Literal, roll-Literal}
use Rattle.al_convert.specs.declared.literal.Literal.TheViews.{out-Literal, roll-out-Literal}
use Rattle.al_convert.specs.declared.literal.Literal.TheOpen.{Literal-F}
use Rattle.al_convert.specs.declared.literal.Literal.TheVariants as literal
use Rattle.al_convert.specs.Same.{same, passes, pointed}
use Rattle.al_convert.specs.Kinds.{is_integer, kind_of, kind_at}
use Rattle.al_convert.proofs.SameIs.{same-Pointer}
use Rattle.al_operands.specs.Rules.{is_nil, is_nil_at}
use Rattle.al_operands.specs.Operands.{number_kind, promoted_kind, arithmetic_kind}
use Rattle.al_sound_operators.specs.Typed.{has_type}
use Rattle.al_sound_operators.proofs.TypeForms.{an_integer, out_at-Pointer, out_at-Chan, pointer_is}
use Rattle.al_sound_operators.proofs.SoundTypes.{promoted_twice, promoted-common}
use Rattle.al_sound_operators.proofs.Literals.{has_type-Nil, nil_type}

pub either : (a b : Bool) → (a || b) ≡ true → (a ≡ true) ⊎ (b ≡ true)
either true b h = inl refl
either false b h = inr h

pub not_true : {X : Type 0} → false ≡ true → X
not_true h = absurd (cc)

pub negated : (b : Bool) → not b ≡ true → b ≡ false
negated true h = not_true h
negated false h = refl

-- ---- kinds

pub promoted-promoted_kind : (t : Ty) → promoted (promoted_kind t) ≡ promoted_kind t
promoted-promoted_kind t = promoted_twice (number_kind t)

pub promoted-arithmetic_kind : (a b : Ty) → promoted (arithmetic_kind a b) ≡ arithmetic_kind a b
promoted-arithmetic_kind a b = promoted-common (number_kind a) (number_kind b)

-- an integer is converted to each kind
pub integer_converts : (t : Ty) (k : Kind) → is_integer t ≡ true → well.converts t (ty.Integer k) ≡ true
integer_converts t k h = let j = an_integer t h in ap (λ u. well.converts u (ty.Integer k)) j.1

-- ---- addresses: pointers and channels

abbrev pub IsAddress : Ty → Type 0
IsAddress t = ((x : Ty) × (t ≡ ty.Pointer x)) ⊎ ((x : Ty) × (n : _) × (t ≡ ty.Chan x n))

word_pointer : (x : Ty) → well.converts (ty.Pointer x) (ty.Integer kind.Uint) ≡ true
unfolding is_word out-Ty out hidden-the_row-Ty-0 hidden
word_pointer x = refl

word_channel : (x : Ty) (n : ℕ) → well.converts (ty.Chan x n) (ty.Integer kind.Uint) ≡ true
unfolding is_word out-Ty out hidden-the_row-Ty-0 hidden
word_channel x n = refl

pub address_converts : (t : Ty) → IsAddress t → well.converts t (ty.Integer kind.Uint) ≡ true
address_converts t (inl p) = ap (λ u. well.converts u (ty.Integer kind.Uint)) p.1 ∙ word_pointer p.0
address_converts t (inr p) = ap (λ u. well.converts u (ty.Integer kind.Uint)) p.2 ∙ word_channel p.0 p.1

pub address_no_integer : (t : Ty) → IsAddress t → is_integer t ≡ false
unfolding kind_of
address_no_integer t (inl p) = ap is_integer p.1 ∙ ap (λ y. is_some (kind_at y)) (out_at-Pointer p.0)
address_no_integer t (inr p) = ap is_integer p.2 ∙ ap (λ y. is_some (kind_at y)) (out_at-Chan p.0 p.1)

-- ---- nil

pub is_nil_is : (l : Literal) → is_nil l ≡ true → (at : Place) × (l ≡ literal.Nil at)
unfolding is_nil
is_nil_is l h = let a = on (out-Literal l) h in (a.0, sym (roll-out-Literal l) ∙ a.1)
  where
    on : (y : Literal-F Literal) → is_nil_at y ≡ true → (at : Place) × (roll-Literal y ≡ literal.Nil at)
    on (Literal-F.Nil at) h = (at, literal.rolls-Nil at)
    on _ h = not_true h

-- nil has the type `void*`
pub nil_operand : (l : Literal) (t : Ty) → has_type l t ≡ true → is_nil l ≡ true → t ≡ void_pointer
nil_operand l t h n = let at = is_nil_is l n in nil_type t (sym (has_type-Nil at.0 t) ∙ sym (ap (λ m. has_type m t) at.1) ∙ h)

-- ---- what is compared

behind_same : (x : Ty) (o : Option Ty) → passes (same false x) o ≡ true → (y : Ty) × (o ≡ Some y)
behind_same x None h = not_true h
behind_same x (Some y) h = (y, refl)

pub same_pointer : (x b : Ty) → same false (ty.Pointer x) b ≡ true → (y : Ty) × (b ≡ ty.Pointer y)
same_pointer x b h =
    let y = behind_same x (pointed b) (sym (same-Pointer false x b) ∙ h) in (y.0, pointer_is b y.0 y.1)

-- two integers, or two addresses
abbrev pub AreCompared : Ty → Ty → Type 0
AreCompared a b = ((is_integer a ≡ true) × (is_integer b ≡ true)) ⊎ (IsAddress a × IsAddress b)
