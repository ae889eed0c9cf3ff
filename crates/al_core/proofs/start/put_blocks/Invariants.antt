use Rattle.std.proofs.Common.{◌≡◌, [], take}
use Rattle.al_core.specs.Placing.{Placed}
use Rattle.al_core.proofs.Filling.{zeros_of}
use Rattle.al_core.proofs.start.put_blocks.Given as goal

abbrev pub invariant-loop-size : goal.invariant-loop-size
invariant-loop-size l = record {
  region : l.store.region ≡ l.fn.store.region;
  placed : Placed l.fn.store.region (zeros_of (take l.size-index l.sizes)) l.places.items [] l.store.blocks;
}
