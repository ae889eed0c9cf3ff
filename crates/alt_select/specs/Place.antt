-- A pair by the number of its branch and its place there.
use Rattle.std.specs.Prelude.{◌≡◌, ℕ, List, Some, slice_get}
use Rattle.al_event.specs.declared.act.Branch.{Branch}
use Rattle.al_world.specs.Channels.{Book, ready, pairs_at, channel}

-- pair number pick is the one at this place among the pairs of that branch
pub record IsPairAt (book : Book ℕ) (branches : List Branch) (pick number place : ℕ) : Type 0 where
  pub branch : Branch
  pub is : slice_get branches number ≡ Some branch
  pub pair : slice_get (ready book branches) pick ≡ slice_get (pairs_at book.waiting number branch (channel book.channels branch.chan)) place
