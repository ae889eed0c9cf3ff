-- What the calls of a region make of its table.
use Rattle.std.proofs.Common.{◌≡◌, ℕ, ◌+◌, ◌<◌, ◌≤◌, true, List, [], ◌∷◌, ◌++◌, length, get_or, Some, IsSome, replicate, refl, sym, ap, subst, ◌∙◌, arith}
use Rattle.std.specs.List.{list_any}
use Rattle.std.specs.Option.{is_some}
use Rattle.std.proofs.lemmas.List.{length-replicate, get_or-replicate}
use Rattle.al_event.specs.Store.{Span, region_base, most_blocks, begins_at, with_span, without_span}
use Rattle.al_event.specs.declared.act.Block.{Block}
use Rattle.al_run_tree.specs.declared.node.Node.{Node}
use Rattle.al_run_tree.specs.Tree.{Tree, Leaf, blocks, uses}
use Rattle.al_run_tree.specs.Balance.{inserted, taken_out}
use Rattle.al_run_tree.specs.Order.{found}
use Rattle.al_run_tree.specs.Runs.{first_gap, blank}
use Rattle.al_run_tree.specs.Table.{HasPlace, HasBlock, IsNow, IsOut}
use Rattle.al_run_tree.proofs.Sizes.{length-taken_out}
use Rattle.al_region.specs.Region.{IsRegionSize, IsSound}
use Rattle.al_region.specs.Kept.{tree_at, uses_in, IsKept, IsFresh}
use Rattle.al_region.proofs.Found.{laid-rises, found-some}
use Rattle.al_region.proofs.Kept.{at_is, IsPlaced, placed, kept_with, kept_without}
use Rattle.al_region.proofs.Sound.{blocks_with, sound_with, ends_with, blocks_without, sound_without}

-- ---- a new region

pub new_kept : (t : List Node) (free : List ℕ) → t ≡ replicate 65537 blank → free ≡ [] → IsKept t 0 0 1 free Leaf
new_kept t free is none = record {
  is = record {
    holds = (omega (arith, ap length is ∙ length-replicate 65537 blank), ap (λ (t : List Node). get_or t 0 blank) is ∙ get_or-replicate 65537 0 blank blank (omega arith));
    top_is = refl;
    apart = λ k. omega arith;
    balanced = tt;
    short = omega arith;
  };
  live_is = refl;
  size = ap length is ∙ length-replicate 65537 blank;
  apart = λ k. subst (λ fs. uses k Leaf + uses_in k fs ≤ 1) (sym none) (omega arith);
  unused = λ k le. subst (λ fs. uses k Leaf + uses_in k fs ≡ 0) (sym none) refl;
  some = subst (λ fs. uses_in 0 fs ≡ 0) (sym none) refl;
  used_is = subst (λ (fs : List ℕ). 1 ≡ 0 + length fs + 1) (sym none) refl;
  most = omega arith;
}

pub new_sound : (bytes : ℕ) (t : List Node) → tree_at t 0 ≡ Leaf → IsRegionSize bytes → IsSound (record { bytes = bytes; blocks = blocks (tree_at t 0) })
new_sound bytes t zero sized =
    let none : IsSound (record { bytes = bytes; blocks = [] }) = record { sized = sized; laid = omega arith; few = omega arith } in
    subst (λ w. IsSound (record { bytes = bytes; blocks = blocks w })) (sym zero) none

-- ---- a block is placed

module _ (bytes : ℕ) (t : List Node) (top live used : ℕ) (free : List ℕ) (sound : IsSound (record { bytes = bytes; blocks = blocks (tree_at t top) })) (kept : IsKept t top live used free (tree_at t top)) (few : live < 65536) (at n : ℕ) (kind : Block) (some : 0 < n) (gap : first_gap region_base (blocks (tree_at t top)) (region_base + bytes) n ≡ Some at) (i next : ℕ) (left : List ℕ) (fresh : IsFresh used free i next left) where
  abbrev s : Tree
  s = tree_at t top

  abbrev e : Span
  e = record { at = at; size = n; kind = kind }

  few_blocks : length (blocks s) < most_blocks
  few_blocks = omega (arith, kept.live_is)

  place : IsPlaced t s live i next left
  place = placed t top live used free s i next left kept few fresh

  pub has_place : HasPlace t top i e
  has_place =
      let ends = ends_with bytes s sound at n kind i some few_blocks gap in
      record { tree = s; is = kept.is; fresh = place.fresh; some = place.some; within = place.within; low = omega (arith, ends, sound.sized.most) }

  pub is_fresh : uses i s ≡ 0
  is_fresh = place.fresh

  module _ (u : List Node) (p : ℕ) (now : IsNow t u p (inserted i e s)) where
    kept_more : IsKept u p (live + 1) next left (inserted i e s)
    kept_more = kept_with t u top p live next left s i e used free kept few place now

    same_more : tree_at u p ≡ inserted i e s
    same_more = at_is u p (inserted i e s) kept_more.is

    pub took-kept : IsKept u p (live + 1) next left (tree_at u p)
    took-kept = subst (λ w. IsKept u p (live + 1) next left w) (sym same_more) kept_more

    pub took-sound : IsSound (record { bytes = bytes; blocks = blocks (tree_at u p) })
    took-sound = subst (λ w. IsSound (record { bytes = bytes; blocks = blocks w })) (sym same_more) (sound_with bytes s sound at n kind i some few_blocks gap)

    pub took-blocks : blocks (tree_at u p) ≡ with_span e (blocks s)
    took-blocks = ap blocks same_more ∙ blocks_with bytes s sound at n kind i some few_blocks gap

-- ---- a block is given back

module _ (bytes : ℕ) (t : List Node) (top live used : ℕ) (free : List ℕ) (sound : IsSound (record { bytes = bytes; blocks = blocks (tree_at t top) })) (kept : IsKept t top live used free (tree_at t top)) (at : ℕ) (kind : Block) (there : list_any (begins_at at kind) (blocks (tree_at t top)) ≡ true) where
  abbrev w : Tree
  w = tree_at t top

  it : (b : Span) × (found at w ≡ Some b)
  it = found-some w region_base (region_base + bytes) at kind (laid-rises (blocks w) region_base (region_base + bytes) sound.laid) there

  pub is_there : IsSome (found at w)
  is_there = ap is_some it.1

  pub has_block : HasBlock t top at
  has_block = record { tree = w; is = kept.is; there = is_there }

  pub some_live : 0 < live
  some_live = omega (arith, kept.live_is, length-taken_out w at it.0 it.1)

  module _ (u : List Node) (p i : ℕ) (c : Span) (out : IsOut t u i c p (taken_out at w)) (less : ℕ) (less_is : live ≡ less + 1) (more : List ℕ) (more_is : more ≡ free ++ i ∷ []) where
    kept_less : IsKept t top (less + 1) used free w
    kept_less = subst (λ n. IsKept t top n used free w) less_is kept

    kept_fewer : IsKept u p less used more (taken_out at w).rest
    kept_fewer = kept_without t u top p less used free more w at i it.0 c kept_less (omega (arith, kept.live_is, sound.few)) it.1 out more_is

    same_fewer : tree_at u p ≡ (taken_out at w).rest
    same_fewer = at_is u p (taken_out at w).rest kept_fewer.is

    pub gave-kept : IsKept u p less used more (tree_at u p)
    gave-kept = subst (λ z. IsKept u p less used more z) (sym same_fewer) kept_fewer

    pub gave-sound : IsSound (record { bytes = bytes; blocks = blocks (tree_at u p) })
    gave-sound = subst (λ z. IsSound (record { bytes = bytes; blocks = blocks z })) (sym same_fewer) (sound_without bytes w sound at kind there it.0 it.1)

    pub gave-blocks : blocks (tree_at u p) ≡ without_span at kind (blocks w)
    gave-blocks = ap blocks same_fewer ∙ blocks_without bytes w sound at kind there it.0 it.1
