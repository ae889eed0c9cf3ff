-- Operands that are converted and taken.
use Rattle.std.proofs.Common.{◌≡◌, ℕ, Bool, true, false, Option, Some, None, refl, sym, subst}
use Rattle.std.specs.Prelude.{if◌then◌else◌}
use Rattle.al_base.specs.declared.arith.Kind.{Kind}
use Rattle.al_base.specs.declared.place.Place.{Place}
use Rattle.al_rules.specs.Outcome.{judge}
use Rattle.al_typed.specs.declared.ty.Ty.{Ty}
use Rattle.al_typed.specs.declared.ty.Ty.TheVariants as ty
use Rattle.al_typed.specs.declared.expression.TExpr.{TExpr}
use Rattle.al_typed.specs.Typed.{type_of}
use Rattle.al_typed.specs.WellTyped as well
use Rattle.al_typed.specs.WellTyped.{IsValue, Scope, is_sound, rows}
use Rattle.al_typed.proofs.ValueRules.{IsValue-Convert}
use Rattle.al_convert.specs.Same.{same}
use Rattle.al_convert.specs.Conversions.{nil_in}
use Rattle.al_operands.specs.declared.operand.Operand.{Operand}
use Rattle.al_operands.specs.Rules.{rule_33_converts}
use Rattle.al_operands.specs.Operands.{conversion, converted, in_kind, nil_faults, plain, plains, taken}
use Rattle.al_sound_operators.specs.Typed.{IfGood, IsOperand, IsUsable}
use Rattle.al_sound_operators.specs.Operands.{AreUsable, IsOf, OperandsAreSound}
use Rattle.al_sound_operators.proofs.SameTypes.{same_types}
use Rattle.al_sound_operators.proofs.SoundTypes.{whole_after}
use Rattle.al_sound_operators.proofs.Literals.{literal_converts}
use Rattle.al_sound_operators.proofs.Outcomes.{also, asked, paired}

conversion_is : (s : Scope) (to : Ty) (e : TExpr) → IsUsable s e → is_sound (rows s) to ≡ true → well.converts (type_of e) to ≡ true → IsOf s to (conversion to e)
conversion_is s to e u o h = record {
  usable = record {
    value = rw (IsValue-Convert s to e) ((o, (u.value, h)));
    sound = o;
    whole = whole_after (rows s) (type_of e) to h u.whole o;
  };
  is = refl;
}

pub converted_is : (s : Scope) (to : Ty) (e : TExpr) → IsUsable s e → is_sound (rows s) to ≡ true → well.converts (type_of e) to ≡ true → IsOf s to (converted to e)
unfolding converted
converted_is s to e u o h = on (same true (type_of e) to) refl
  where
    on : (b : Bool) → same true (type_of e) to ≡ b → IsOf s to (if b then e else conversion to e)
    on true q = record { usable = u; is = same_types (type_of e) to q }
    on false q = conversion_is s to e u o h

pub in_kind_is : (s : Scope) (k : Kind) (e : TExpr) → IsUsable s e → well.converts (type_of e) (ty.Integer k) ≡ true → IsOf s (ty.Integer k) (in_kind k e)
unfolding in_kind
in_kind_is s k e u h = converted_is s (ty.Integer k) e u refl h

-- by the rules
pub operand_converts : (s : Scope) (x : Operand) (to : Ty) → IsOperand s x → rule_33_converts x to ≡ true → well.converts (type_of x.value) to ≡ true
unfolding rule_33_converts
operand_converts s x to o h = literal_converts x.written (type_of x.value) to o.written h

pub taken_is : (s : Scope) (number : ℕ) (at : Place) (to : Ty) (x : Operand) → IsOperand s x → is_sound (rows s) to ≡ true → IfGood (taken number at to x) (IsOf s to)
unfolding taken
taken_is s number at to x o h =
    asked (IsOf s to) number at (rule_33_converts x to) (converted to x.value) (λ q. converted_is s to x.value o.usable h (operand_converts s x to o q))

pub plain_is : (x : Operand) → IfGood (plain x) (λ e. e ≡ x.value)
unfolding plain
plain_is x = on (nil_in x.written)
  where
    on : (n : Option Place) → IfGood (judge (nil_faults n) x.value) (λ e. e ≡ x.value)
    on None = refl
    on (Some at) = tt

pub plain_usable : (s : Scope) (x : Operand) → IsOperand s x → IfGood (plain x) (IsUsable s)
plain_usable s x o = also (λ e. e ≡ x.value) (IsUsable s) (plain x) (plain_is x) (λ e is. subst (IsUsable s) (sym is) o.usable)

pub plains_are : (s : Scope) (x y : Operand) → IsOperand s x → IsOperand s y → IfGood (plains x y) (AreUsable s)
unfolding plains
plains_are s x y o p = paired (IsUsable s) (IsUsable s) (plain x) (plain y) (plain_usable s x o) (plain_usable s y p)

pub operands_are_sound : OperandsAreSound
operands_are_sound = record { converted = converted_is; in_kind = in_kind_is; taken = taken_is; plain = plain_is; plains = plains_are }
