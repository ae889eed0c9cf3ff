-- What a talk that goes is answered with, beside what the world's definition has.
use Rattle.std.specs.Prelude.{◌≡◌, ℕ, ◌<◌, ◌==◌, Bool, false, not, List, [], length, Option, Some, None, option_map}
use Rattle.al_world.specs.Channels.{Channel, Book, Offer, channel, opposites, pairs_at}
use Rattle.al_event.specs.declared.act.Branch.{Branch}
use Rattle.al_world.specs.Talks as world
use Rattle.al_world.specs.Transfers.{IsIn}
use Rattle.alt_select.specs.declared.answer.Woke.{Woke}
use Rattle.alt_select.specs.declared.answer.Fired.{Fired}
use Rattle.chan_book.specs.declared.book.Waiter.{Waiter}
use Rattle.chan_book.specs.Named.{waiter_of}

abbrev pub woken_of : Woke → world.Woken ℕ
woken_of w = record { by = w.task; branch = w.branch; words = w.got }

-- an answer and a book are those of the definition
pub record IsFired (fired : Option (world.Fired ℕ)) (after : Book ℕ) (answer : Fired) : Type 0 where
  pub outcome : world.Fired ℕ
  pub is : fired ≡ Some outcome
  pub book : outcome.book ≡ after
  pub branch : outcome.branch ≡ answer.branch
  pub words : outcome.words ≡ answer.got
  pub woke : outcome.woke ≡ option_map woken_of answer.woke

-- this branch waits
pub record IsOf (book : Book ℕ) (waiter : Waiter) (offer : Offer ℕ) : Type 0 where
  pub within : IsIn book.waiting offer
  pub is : waiter_of offer ≡ waiter

-- some branch waits under this task and number
pub record Waits (book : Book ℕ) (waiter : Waiter) : Type 0 where
  pub offer : Offer ℕ
  pub of : IsOf book waiter offer

-- the branches that wait to receive from a channel, and those that wait to send to it
abbrev pub receivers : ℕ → Book ℕ → List (Offer ℕ)
receivers c book = opposites book.waiting (record { chan = c; words = 0; send = Some [] })

abbrev pub senders : ℕ → Book ℕ → List (Offer ℕ)
senders c book = opposites book.waiting (record { chan = c; words = 0; send = None })

-- the channel holds a value and can be used
pub record IsFilled (channels : List Channel) (c : ℕ) : Type 0 where
  pub at : Channel
  pub is : channel channels c ≡ Some at
  pub usable : at.given_up ≡ false
  pub some : 0 < length at.held

abbrev pub is_full : Option Channel → Bool
is_full None = false
is_full (Some ch) = length ch.held == ch.capacity

abbrev pub is_buffered : Option Channel → Bool
is_buffered None = false
is_buffered (Some ch) = not (ch.capacity == 0)

-- a branch on a channel that can be used has a pair at a place
pub record CanGo (book : Book ℕ) (branch : Branch) (place : ℕ) : Type 0 where
  pub at : Channel
  pub is : channel book.channels branch.chan ≡ Some at
  pub usable : at.given_up ≡ false
  pub there : place < length (pairs_at book.waiting 0 branch (Some at))
