use Rattle.std.proofs.Common.{◌≡◌, take}
use Rattle.std.specs.List.{fold}
use Rattle.al_meaning.specs.Places.{with_start}
use Rattle.al_opening.proofs.global.put_starts.Given as goal

abbrev pub invariant-loop-start : goal.invariant-loop-start
invariant-loop-start l = l.bytes ≡ fold (with_start l.p) l.fn.bytes (take l.start-index l.starts)
