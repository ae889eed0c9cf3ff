-- Which forms of expressions and places keep variables as they are.
use Rattle.std.proofs.Common.{◌≡◌, ℕ, Bool, true, false, if◌then◌else◌, List, refl}
use Rattle.al_typed.specs.declared.ty.Ty.{Ty, Integer, Tuple'}
use Rattle.al_typed.specs.declared.expression.UnaryOp.{UnaryOp}
use Rattle.al_typed.specs.declared.expression.UnaryOp.TheVariants as unary
use Rattle.al_typed.specs.declared.expression.Passed.{Passed}
use Rattle.al_typed.specs.declared.expression.Passed.TheVariants as passed
use Rattle.al_meaning.specs.Evaluate.{is_shared_local, is_private_global}
use Rattle.al_meaning.specs.Places.{function_at, locals_of}
use Rattle.std.specs.Prelude.{slice_get}
use Rattle.al_lower_code.specs.Homes.{Spot}
use Rattle.al_lower_code.specs.Operators.{keeps_bits, all_stay}
use Rattle.al_lower_code.specs.Coded.{Coded, Placed}
use Rattle.al_lower_code.specs.Values.{local_placed, global_placed, unary_coded, converted_coded}
use Rattle.al_lower_code.specs.Actions.{object_at, object_in}
use Rattle.al_lower_operands.proofs.Plain.{of_either, complement_keeps}

pub unary_keeps : (s : Spot) (t : Ty) (op : UnaryOp) (c : Coded) → (unary_coded s t op c).keeps ≡ c.keeps
unary_keeps s t unary.Plus c = refl
unary_keeps s t unary.Minus c = refl
unary_keeps s t unary.Complement c = complement_keeps s t _ c

pub converted_keeps : (s : Spot) (from into : Ty) (c : Coded) → (converted_coded s from into c).keeps ≡ c.keeps
converted_keeps s (Integer k) (Integer j) c = of_either (λ (x : Coded). x.keeps) (keeps_bits k j) c _ c.keeps refl refl
converted_keeps s (Integer k) _ c = refl
converted_keeps s (Tuple' l ts) (Tuple' m us) c = of_either (λ (x : Coded). x.keeps) (all_stay ts us) c _ c.keeps refl refl
converted_keeps s (Tuple' l ts) _ c = refl
converted_keeps s _ _ c = refl

pub object_at_keeps : (s : Spot) (how : Passed) (t : Ty) (pl : Placed) → (object_at s how t pl).keeps ≡ pl.keeps
object_at_keeps s passed.Address t pl = refl
object_at_keeps s passed.Value t pl = refl
object_at_keeps s passed.Nothing t pl = refl

pub object_in_keeps : (s : Spot) (how : Passed) (whole part : Ty) (path : List ℕ) (c : Coded) → (object_in s how whole part path c).keeps ≡ c.keeps
object_in_keeps s passed.Address whole part path c = refl
object_in_keeps s passed.Value whole part path c = refl
object_in_keeps s passed.Nothing whole part path c = refl

either_placed : (b : Bool) (x y : Placed) → x.keeps ≡ true → y.keeps ≡ true → (if b then x else y).keeps ≡ true
either_placed true x y p q = p
either_placed false x y p q = q

pub local_keeps : (s : Spot) (number : ℕ) → (local_placed s number).keeps ≡ true
local_keeps s number = either_placed (is_shared_local (slice_get (locals_of (function_at s.program s.function)) number)) _ _ refl refl

pub global_keeps : (s : Spot) (number : ℕ) → (global_placed s number).keeps ≡ true
global_keeps s number = either_placed (is_private_global (slice_get s.program.globals number)) _ _ refl refl

pub ruleset objects_keep = (object_at_keeps, object_in_keeps)

pub ruleset places_keep = (local_keeps, global_keeps)
