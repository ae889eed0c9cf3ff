use Rattle.std.proofs.Common.{ap}
use Rattle.al_lex.specs.Scan.{scan_operator, operator_found}
use Rattle.al_lex.proofs.spelling.scan_operator.Goals as goal

pub returns-in-Some : goal.returns-in-Some
unfolding scan_operator
returns-in-Some c = ap operator_found c.in-Some.ensures

pub returns-in-None : goal.returns-in-None
unfolding scan_operator
returns-in-None c = ap operator_found c.in-None.ensures
