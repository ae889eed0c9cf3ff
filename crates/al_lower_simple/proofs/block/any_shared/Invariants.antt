use Rattle.std.proofs.Common.{◌≡◌, drop}
use Rattle.al_meaning.specs.Places.{has_block}
use Rattle.al_lower_simple.proofs.block.any_shared.Given as goal

abbrev pub invariant-loop-local : goal.invariant-loop-local
invariant-loop-local l = has_block (drop l.local-index l.locals) ≡ has_block l.locals
