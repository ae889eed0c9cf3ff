use Rattle.std.proofs.Common.{◌≡◌, drop}
use Rattle.al_lex.specs.Scan.{first_of}
use Rattle.al_lex.specs.Rows.{rows}
use Rattle.al_lex.proofs.spelling.first_of.Given as goal

abbrev pub invariant-loop-row : goal.invariant-loop-row
invariant-loop-row l = first_of (rows (drop l.row-index l.table)) l.rest ≡ first_of (rows l.table) l.rest
