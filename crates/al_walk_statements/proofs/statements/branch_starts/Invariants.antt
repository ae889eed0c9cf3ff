use Rattle.std.proofs.Common.{◌≡◌, map, take}
use Rattle.al_walk_statements.specs.Forms.{start_at}
use Rattle.al_walk_statements.proofs.statements.branch_starts.Given as goal

abbrev pub invariant-loop-code : goal.invariant-loop-code
invariant-loop-code l = l.starts ≡ map (start_at l.around l.block) (take l.code-index l.branches)
