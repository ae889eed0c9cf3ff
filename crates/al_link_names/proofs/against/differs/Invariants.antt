use Rattle.std.proofs.Common.{◌≡◌, ◌+◌}
use Rattle.al_link_names.proofs.against.differs.Given as goal

abbrev pub invariant-loop-file : goal.invariant-loop-file
invariant-loop-file l = l.number ≡ l.file-index + 1
