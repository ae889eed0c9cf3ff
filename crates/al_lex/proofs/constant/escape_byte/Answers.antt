use Rattle.std.proofs.Common.{◌-◌, length, take, drop}
use Rattle.std.specs.List.{take_while}
use Rattle.al_lex.specs.Bytes.{is_hex, is_octal}
use Rattle.al_lex.proofs.Runs.{run_all, widen}
use Rattle.al_lex.proofs.Steps.{octal_hex}
use Rattle.al_lex.proofs.constant.escape_byte.Goals as goal

pub value-requires-clause-digits : goal.value-requires-clause-digits
value-requires-clause-digits c =
    let rest = c.args.rest.now in
    rw c.hex_digits-n.ensures.value (run_all is_hex (take (length rest - 1) (drop 1 rest)))

pub value-requires-else-first-eq120-clause-digits : goal.value-requires-else-first-eq120-clause-digits
value-requires-else-first-eq120-clause-digits c =
    let rest = c.args.rest.now in
    rw c.octal_digits-n.ensures.value (widen is_octal is_hex octal_hex (take_while is_octal rest) (run_all is_octal rest))
