use Rattle.std.proofs.Common.{◌+◌, ap₂, sym, ◌∙◌, arith}
use Rattle.al_lex.proofs.Steps.{digit_over}
use Rattle.al_lex.proofs.number.value.Goals as goal

pub returns-in_err-checked_mul : goal.returns-in_err-checked_mul
returns-in_err-checked_mul c =
    c.from_residual.ensures ∙ sym (digit_over c.args.base c.loop-b.value c.args.digits.now c.loop-b.b-index c.loop-b-test.true c.requires.base c.loop-b.invariant.1 (omega (arith, c.in_err-checked_mul.ensures)))

pub returns-in_err-value : goal.returns-in_err-value
returns-in_err-value c =
    let sum = ap₂ (λ m d. m + d) c.in_ok-checked_mul.ensures.1 c.digit_value.ensures.value in
    let over = rw sum at c.in_err-value.ensures in
    c.from_residual-in_err-value.ensures ∙ sym (digit_over c.args.base c.loop-b.value c.args.digits.now c.loop-b.b-index c.loop-b-test.true c.requires.base c.loop-b.invariant.1 (omega (arith, over)))
