use Rattle.al_control_values.proofs.Paths.{Way}
use Rattle.al_control_values.proofs.members.member_at.Given as goal

abbrev pub invariant-loop-number : goal.invariant-loop-number
invariant-loop-number l = Way l.rows l.path l.ty l.number-index l.reached l.at
