use Rattle.std.proofs.Common.{ap, ap₂, ◌∙◌}
use Rattle.al_lex.specs.Bytes.{value_of}
use Rattle.al_lex.specs.Scan.{fitting}
use Rattle.al_lex.proofs.Numbers.{whole_value}
use Rattle.al_lex.proofs.Steps.{numeral_hex}
use Rattle.al_lex.proofs.number.number_value.Goals as goal

pub value-requires-clause-digits : goal.value-requires-clause-digits
value-requires-clause-digits c = rw c.leading_numeral-number.ensures.digits (numeral_hex c.args.bytes.now)

pub returns : goal.returns
returns c =
    let computed = c.value.ensures ∙ ap fitting (ap₂ value_of c.leading_numeral-number.ensures.base c.leading_numeral-number.ensures.digits) in
    record { value = λ v d. computed ∙ ap fitting (whole_value c.args.bytes.now v d); computed = computed }
