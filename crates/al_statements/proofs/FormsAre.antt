-- What each kind of expression is to an alt.
use Rattle.std.proofs.Common.{◌≡◌, refl}
use Rattle.al_typed.specs.declared.ty.Ty.{Ty}
use Rattle.al_typed.specs.declared.expression.TExpr.{TExpr}
use Rattle.al_typed.specs.declared.expression.TExpr.TheBlock.{hidden-the_row-TPlace-0, hidden-the_row-TExpr-1, hidden-the_row-TTarget-2, hidden-the_row-TReceiver-4}
use Rattle.al_typed.specs.declared.expression.TExpr.TheVariants as expr
use Rattle.al_typed.specs.ExpressionForms as kind
use Rattle.al_typed.specs.declared.expression.TTarget.{TTarget}
use denote.Hole.Carrier.{hidden}
use Rattle.al_statements.specs.declared.form.Form.TheVariants as form
use Rattle.al_statements.specs.Cases.{form_of}

pub form-Convert : (t : Ty) (a : TExpr) → form_of (expr.Convert t a) ≡ form.Convert a
unfolding form_of hidden-the_row-TPlace-0 hidden-the_row-TExpr-1 hidden-the_row-TTarget-2 hidden-the_row-TReceiver-4 hidden
form-Convert t a = refl

pub form-Assign : (t : Ty) (x : TTarget) (a : TExpr) → form_of (expr.Assign t x a) ≡ form.Assign x a
unfolding form_of hidden-the_row-TPlace-0 hidden-the_row-TExpr-1 hidden-the_row-TTarget-2 hidden-the_row-TReceiver-4 hidden
form-Assign t x a = refl

pub form-Receive : (t : Ty) (a : TExpr) → form_of (expr.Receive t a) ≡ form.Receive t a
unfolding form_of hidden-the_row-TPlace-0 hidden-the_row-TExpr-1 hidden-the_row-TTarget-2 hidden-the_row-TReceiver-4 hidden
form-Receive t a = refl

pub form-Send : (t : Ty) (a b : TExpr) → form_of (expr.Send t a b) ≡ form.Send a b
unfolding form_of hidden-the_row-TPlace-0 hidden-the_row-TExpr-1 hidden-the_row-TTarget-2 hidden-the_row-TReceiver-4 hidden
form-Send t a b = refl

-- all others
pub form-rest : (e : TExpr) → ((t : Ty) (a : TExpr) → e ≡ expr.Receive t a → ⊥) → ((t : Ty) (a : TExpr) → e ≡ expr.Convert t a → ⊥) → ((t : Ty) (x : TTarget) (a : TExpr) → e ≡ expr.Assign t x a → ⊥) → ((t : Ty) (a b : TExpr) → e ≡ expr.Send t a b → ⊥) → form_of e ≡ form.Other
unfolding form_of hidden-the_row-TPlace-0 hidden-the_row-TExpr-1 hidden-the_row-TTarget-2 hidden-the_row-TReceiver-4 hidden
form-rest (kind.receive t a) r c x s = absurd (r t a refl)
form-rest (kind.convert t a) r c x s = absurd (c t a refl)
form-rest (kind.assign t y a) r c x s = absurd (x t y a refl)
form-rest (kind.send t a b) r c x s = absurd (s t a b refl)
form-rest _ r c x s = refl

pub ruleset form_is = (form-Receive, form-Convert, form-Assign, form-Send)
