use Rattle.std.proofs.Common.{◌≡◌, take}
use Rattle.al_rounds.specs.Later.{followed_by}
use Rattle.alef_run.proofs.along.make_entries.Given as goal

abbrev pub invariant-loop-entry : goal.invariant-loop-entry
invariant-loop-entry l = l.world ≡ followed_by (take l.entry-index l.entries) l.initial.world
