-- What operators and places are given and give: values and places that are well typed, of types that are sound.
use Rattle.std.specs.Prelude.{◌≡◌, true, ◌||◌, ⊤}
use Rattle.al_base.specs.declared.arith.Kind.TheVariants as kind
use Rattle.al_rules.specs.Outcome.{Outcome, Good, Bad}
use Rattle.al_typed.specs.declared.expression.TExpr.{TExpr}
use Rattle.al_typed.specs.declared.expression.TPlace.{TPlace}
use Rattle.al_typed.specs.Types.{is_void, is_whole}
use Rattle.al_typed.specs.Typed.{type_of, place_type}
use Rattle.al_typed.specs.WellTyped.{IsPlace, IsValue, Scope, is_sound, rows}
use Rattle.al_convert.specs.declared.literal.Literal.{Literal, fold-Literal}
use Rattle.al_convert.specs.declared.literal.Literal.TheOpen.{Literal-F}
use Rattle.al_convert.specs.Same.{Test, pass, passes, is_of_kind, parts_of, pointed}
use Rattle.al_operands.specs.declared.operand.Operand.{Operand}

-- what an outcome gives, where it gives anything
abbrev pub IfGood : {A : Type 0} → Outcome A → (A → Type 0) → Type 0
IfGood (Good a) P = P a
IfGood (Bad fs) P = ⊤

-- A well typed expression of a sound type, which is void or that of a value: complete, and no array.
pub record IsTyped (s : Scope) (e : TExpr) : Type 0 where
  pub value : IsValue s e
  pub sound : is_sound (rows s) (type_of e) ≡ true
  pub whole : (is_void (type_of e) || is_whole (rows s) (type_of e)) ≡ true

-- the same, and no void
pub record IsUsable (s : Scope) (e : TExpr) : Type 0 where
  pub value : IsValue s e
  pub sound : is_sound (rows s) (type_of e) ≡ true
  pub whole : is_whole (rows s) (type_of e) ≡ true

-- A place of a sound type. It may be incomplete, where it is behind a pointer.
pub record IsSoundPlace (s : Scope) (p : TPlace) : Type 0 where
  pub place : IsPlace s p
  pub sound : is_sound (rows s) (place_type p) ≡ true

-- the type of what is written so: 0 is an int, nil a `void*`, a tuple a tuple part by part
abbrev pub written_step : Literal-F Test → Test
written_step Literal-F.Other t = true
written_step Literal-F.Zero t = is_of_kind kind.Int t
written_step (Literal-F.Nil at) t = passes is_void (pointed t)
written_step (Literal-F.Tuple tests) t = pass tests (parts_of t)

unfoldable pub has_type : Literal → Test
has_type = fold-Literal Test written_step

-- an operand, before it is known whether it is used
pub record IsFoundValue (s : Scope) (x : Operand) : Type 0 where
  pub typed : IsTyped s x.value
  pub written : has_type x.written (type_of x.value) ≡ true

pub record IsOperand (s : Scope) (x : Operand) : Type 0 where
  pub usable : IsUsable s x.value
  pub written : has_type x.written (type_of x.value) ≡ true
