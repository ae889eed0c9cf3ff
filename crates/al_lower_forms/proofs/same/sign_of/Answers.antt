use Rattle.std.proofs.Common.{◌≡◌, sym, ap, ◌∙◌}
use Rattle.al_typed.specs.declared.expression.UnaryOp.{UnaryOp}
use Rattle.al_lower_code.specs.Values.{unary_coded}
use Rattle.al_lower_forms.proofs.SameParts.{long_complement, word_complement}
use Rattle.al_lower_forms.proofs.same.sign_of.Goals as goal

pub returns-in-Minus-clause-some : goal.returns-in-Minus-clause-some
returns-in-Minus-clause-some c = λ s from x dest to. ap (λ (o : UnaryOp). (unary_coded s c.args.ty.now o x).value dest to) c.in-Minus.is

pub returns-then-is_long-clause-some : goal.returns-then-is_long-clause-some
returns-then-is_long-clause-some c = λ s from x dest to.
    ap (λ (o : UnaryOp). (unary_coded s c.args.ty.now o x).value dest to) c.in-Complement.is
    ∙ long_complement c.args.ty.now (rw c.kind_of.ensures at (sym c.is_long.ensures ∙ c.if-is_long.true)) s x dest to

pub returns-else-is_long-clause-some : goal.returns-else-is_long-clause-some
returns-else-is_long-clause-some c = λ s from x dest to.
    ap (λ (o : UnaryOp). (unary_coded s c.args.ty.now o x).value dest to) c.in-Complement.is
    ∙ word_complement c.args.ty.now (rw c.kind_of.ensures at (sym c.is_long.ensures ∙ c.if-is_long.false)) s x dest to
