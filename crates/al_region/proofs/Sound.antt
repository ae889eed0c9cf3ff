-- What a new block and a removal leave of a region.
use Rattle.std.proofs.Common.{◌≡◌, ℕ, ◌+◌, ◌<◌, ◌≤◌, true, length, Some, None, sym, ◌∙◌, arith}
use Rattle.std.specs.List.{list_any}
use Rattle.std.proofs.lemmas.Bool.Decides.{nat_tests}
use Rattle.al_event.specs.Store.{Span, region_base, most_blocks, begins_at, with_span, without_span, least, new_place}
use Rattle.al_event.proofs.Least.{least_is}
use Rattle.al_event.specs.declared.act.Block.{Block}
use Rattle.al_run_tree.specs.Tree.{Tree, blocks}
use Rattle.al_run_tree.specs.Balance.{inserted, taken_out}
use Rattle.al_run_tree.specs.Order.{found}
use Rattle.al_run_tree.specs.Runs.{first_gap}
use Rattle.al_run_tree.proofs.Changes.{blocks-inserted, blocks-taken_out}
use Rattle.al_run_tree.proofs.Sizes.{length-inserted, length-taken_out}
use Rattle.al_region.specs.Region.{Area, IsSound}
use Rattle.al_region.proofs.Laid.{laid_with, laid_without}
use Rattle.al_region.proofs.Gaps.{first_gap-least, place_fits}
use Rattle.al_region.proofs.Found.{laid-rises, found-begins}

pub new_place-room : (r : Area) (n : ℕ) → length r.blocks < most_blocks → new_place r.bytes r.blocks n ≡ least r.bytes r.blocks n
new_place-room r n few = grind (arith, nat_tests)

pub new_place-full : (r : Area) (n : ℕ) → most_blocks ≤ length r.blocks → new_place r.bytes r.blocks n ≡ None
new_place-full r n full = grind (arith, nat_tests)

pub place-gap : (r : Area) (n : ℕ) → IsSound r → length r.blocks < most_blocks → new_place r.bytes r.blocks n ≡ first_gap region_base r.blocks (region_base + r.bytes) n
place-gap r n s few = new_place-room r n few ∙ sym (first_gap-least r n s)

-- a new block in a tree
module _ (bytes : ℕ) (s : Tree) (sound : IsSound (record { bytes = bytes; blocks = blocks s })) (at n : ℕ) (kind : Block) (new : ℕ) (some : 0 < n) (few : length (blocks s) < most_blocks) (gap : first_gap region_base (blocks s) (region_base + bytes) n ≡ Some at) where
  abbrev e : Span
  e = record { at = at; size = n; kind = kind }

  pub blocks_with : blocks (inserted new e s) ≡ with_span e (blocks s)
  blocks_with = blocks-inserted s new e region_base (region_base + bytes) (laid-rises (blocks s) region_base (region_base + bytes) sound.laid)

  least_at : least bytes (blocks s) n ≡ Some at
  least_at = sym (first_gap-least (record { bytes = bytes; blocks = blocks s }) n sound) ∙ gap

  pub sound_with : IsSound (record { bytes = bytes; blocks = blocks (inserted new e s) })
  sound_with =
      let fits = place_fits (record { bytes = bytes; blocks = blocks s }) n at ((least_is bytes (blocks s) n at).0 least_at).place in
      let laid = laid_with (blocks s) region_base (region_base + bytes) e sound.laid fits.begins fits.ends fits.aligned some fits.clear in
      record {
        sized = sound.sized;
        laid = rw blocks_with laid;
        few = omega (arith, length-inserted s new e);
      }

  pub ends_with : at + n ≤ region_base + bytes
  ends_with = let fits = place_fits (record { bytes = bytes; blocks = blocks s }) n at ((least_is bytes (blocks s) n at).0 least_at).place in fits.ends

-- a block less
module _ (bytes : ℕ) (s : Tree) (sound : IsSound (record { bytes = bytes; blocks = blocks s })) (at : ℕ) (kind : Block) (there : list_any (begins_at at kind) (blocks s) ≡ true) (b : Span) (is : found at s ≡ Some b) where
  pub blocks_without : blocks (taken_out at s).rest ≡ without_span at kind (blocks s)
  blocks_without =
      let rises = laid-rises (blocks s) region_base (region_base + bytes) sound.laid in
      blocks-taken_out s at kind b region_base (region_base + bytes) rises is (found-begins s region_base (region_base + bytes) at kind b rises there is)

  pub sound_without : IsSound (record { bytes = bytes; blocks = blocks (taken_out at s).rest })
  sound_without =
      let laid = laid_without (blocks s) region_base (region_base + bytes) at kind sound.laid in
      record {
        sized = sound.sized;
        laid = rw blocks_without laid;
        few = omega (arith, length-taken_out s at b is, sound.few);
      }
