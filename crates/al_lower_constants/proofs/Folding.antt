-- Constant expressions are folded.
use Rattle.std.proofs.Common.{◌≡◌, ℕ, List, Option, Some, None, refl, sym, ap, ◌∙◌}
use Rattle.al_typed.specs.declared.expression.Logic.TheVariants as logic
use Rattle.al_typed.specs.declared.expression.TExpr.{TExpr, Constant, SizeofType}
use Rattle.al_typed.specs.ExpressionForms as form
use Rattle.al_typed.specs.Typed.{type_of}
use Rattle.al_typed.specs.WellTyped.{Scope, IsValue}
use Rattle.al_constant.specs.Constants.{constant}
use Rattle.al_meaning.specs.Words.{integer_words}
use Rattle.al_meaning.specs.Shown.{kind_of}
use Rattle.al_meaning.specs.Tasks.{Ways}
use Rattle.al_meaning.specs.Told.{told}
use Rattle.al_lower_code.specs.Coded.{Coded, folded}
use Rattle.al_lower_claims.proofs.Claims.{Setting, spot, CodedDoes}
use Rattle.al_lower_integers.proofs.Constants.{known_integer, integer_does}
use Rattle.al_lower_constants.proofs.Operators.{kind_shown}
use Rattle.al_lower_constants.proofs.Constants.{Means, IsConstant, constant_is, sizeof_type_is, sizeof_place_is, sizeof_value_is, unary_is, negation_is, binary_is, and_is, or_is, cast_is, convert_is}

pub constants_mean : (w : Ways) (s : Scope) (e : TExpr) → IsValue s e → IsConstant w e
unfolding IsValue constant
constants_mean w s (Constant t n) v = constant_is w t n v
constants_mean w s (SizeofType t of) v = sizeof_type_is w t of v.0
constants_mean w s (form.sizeof_place t place) v = sizeof_place_is w t place v.0
constants_mean w s (form.sizeof_value t of) v = sizeof_value_is w t of v.0
constants_mean w s (form.unary t op of) v = unary_is w t op of v.0 v.1.1 (constants_mean w s of v.1.0)
constants_mean w s (form.negation t of) v = negation_is w t of v.0 (constants_mean w s of v.1.0)
constants_mean w s (form.binary t op j left right) v = binary_is w t op j left right v.0 (constants_mean w s left v.1.1.0) (constants_mean w s right v.1.1.1.1.0)
constants_mean w s (form.logical t logic.And left right) v = and_is w t left right v.0 (constants_mean w s left v.1.0) (constants_mean w s right v.1.1.1.0)
constants_mean w s (form.logical t logic.Or left right) v = or_is w t left right v.0 (constants_mean w s left v.1.0) (constants_mean w s right v.1.1.1.0)
constants_mean w s (form.cast t of) v = cast_is w t of (constants_mean w s of v.1.0)
constants_mean w s (form.convert t of) v = convert_is w t of (constants_mean w s of v.1.0)
constants_mean w s e v = λ bits x. absurd (cc)

module _ (k : Setting) where
  -- an expression that has a constant value is that
  pub folded_does : {c : Coded} (s : Scope) (e : TExpr) → IsValue s e → CodedDoes k (told e k.ways) (type_of e) c → CodedDoes k (told e k.ways) (type_of e) (folded (spot k) (type_of e) (constant k.ways.program.aggregates e) c)
  folded_does {c} s e v h = on (constant k.ways.program.aggregates e) refl
    where
      on : (o : Option ℕ) → constant k.ways.program.aggregates e ≡ o → CodedDoes k (told e k.ways) (type_of e) (folded (spot k) (type_of e) o c)
      on None q = h
      on (Some bits) q =
          let m = constants_mean k.ways s e v bits q in
          integer_does k (type_of e) m.kind bits m.type (known_integer k (type_of e) m.kind bits m.type m.small (λ env s next. m.means env s next ∙ ap (λ j. next (Some (integer_words j bits)) env s) (sym (ap kind_of m.type ∙ kind_shown m.kind))))
