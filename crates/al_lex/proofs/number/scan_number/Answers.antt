use Rattle.al_lex.proofs.Steps.{numeral_hex}
use Rattle.al_lex.proofs.number.scan_number.Goals as goal

pub value-requires-clause-digits : goal.value-requires-clause-digits
value-requires-clause-digits c = rw c.leading_numeral-number.ensures.digits (numeral_hex c.args.rest.now)
