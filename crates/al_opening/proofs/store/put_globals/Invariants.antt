use Rattle.std.proofs.Common.{◌≡◌, ℕ, List, ◌++◌, drop}
use Rattle.al_world.specs.Step.{with_globals}
use Rattle.al_opening.specs.Opening.{global_blocks}
use Rattle.al_opening.proofs.store.put_globals.Given as goal

abbrev pub invariant-loop-global : goal.invariant-loop-global
invariant-loop-global l = record {
  region : l.store.region ≡ l.fn.store.region;
  placed : (rest : List (List ℕ)) → with_globals l.fn.store.region (global_blocks l.p l.globals ++ rest) l.fn.store.blocks ≡ with_globals l.fn.store.region (global_blocks l.p (drop l.global-index l.globals) ++ rest) l.store.blocks;
}
