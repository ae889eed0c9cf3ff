use Rattle.std.proofs.Common.{◌≡◌, ℕ, List, ◌++◌, drop}
use Rattle.al_world.specs.Step.{with_globals}
use Rattle.al_opening.specs.Opening.{text_blocks}
use Rattle.al_opening.proofs.store.put_texts.Given as goal

abbrev pub invariant-loop-text : goal.invariant-loop-text
invariant-loop-text l = record {
  region : l.store.region ≡ l.fn.store.region;
  placed : (rest : List (List ℕ)) → with_globals l.fn.store.region (text_blocks l.texts ++ rest) l.fn.store.blocks ≡ with_globals l.fn.store.region (text_blocks (drop l.text-index l.texts) ++ rest) l.store.blocks;
}
