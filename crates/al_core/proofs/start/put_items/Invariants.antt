use Rattle.std.proofs.Common.{◌≡◌, [], take, map, length}
use Rattle.al_core.specs.Opening.{globals_from}
use Rattle.al_core.specs.Placing.{Placed}
use Rattle.al_core.proofs.start.put_items.Given as goal

abbrev pub invariant-loop-item : goal.invariant-loop-item
invariant-loop-item l = record {
  region : l.store.region ≡ l.fn.store.region;
  placed : Placed l.fn.store.region (globals_from (take l.item-index l.image.items) 0 l.image.globals) l.places [] l.store.blocks;
  sizes : map length (globals_from (take l.item-index l.image.items) 0 l.image.globals) ≡ l.image.globals;
}
