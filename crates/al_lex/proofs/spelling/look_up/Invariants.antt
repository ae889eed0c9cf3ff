use Rattle.std.proofs.Common.{◌≡◌, drop}
use Rattle.al_lex.specs.Scan.{look_up}
use Rattle.al_lex.specs.Rows.{rows}
use Rattle.al_lex.proofs.spelling.look_up.Given as goal

abbrev pub invariant-loop-row : goal.invariant-loop-row
invariant-loop-row l = look_up (rows (drop l.row-index l.table)) l.word ≡ look_up (rows l.table) l.word
