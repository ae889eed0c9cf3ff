-- Channels, the waiting list, and what can go. A talk is a send, a receive or an alt. `By` is what a blocked talk is
-- called by: the world uses the task with its entry, a table of tasks may use a slot.
use Rattle.std.specs.Prelude.{ℕ, zero, suc, ◌+◌, Bool, true, false, cond, ◌&&◌, not, if◌then◌else◌, ◌==◌, nat_lt, List, [], ◌∷◌, ◌++◌, map, filter, length, take, slice_get, Option, Some, None, is_some, is_none, Result, Ok, Err}
use Rattle.std.specs.List.{list_any}
use Rattle.al_base.specs.declared.trap.Trap.{Trap}
use Rattle.al_base.specs.declared.trap.Trap.TheVariants.{Chan, Busy}
use Rattle.al_event.specs.declared.act.Branch.{Branch}

-- a channel: how many values it may hold, the words of each, those that it holds with the oldest first, and whether it
-- was given up
pub record Channel : Type 0 where
  pub capacity : ℕ
  pub words : ℕ
  pub held : List (List ℕ)
  pub given_up : Bool

-- a branch of a blocked talk, with its number among the branches of that talk
pub record Offer (By : Type 0) : Type 0 where
  pub by : By
  pub number : ℕ
  pub branch : Branch

-- all channels in the order of their numbers, and the branches of the blocked talks: talks in the order in which they
-- blocked, and each with its branches in their order
pub record Book (By : Type 0) : Type 0 where
  pub channels : List Channel
  pub waiting : List (Offer By)

-- a branch that can go: its number, itself, and its partner; or no partner where it goes with the channel's buffer
pub record Pair (By : Type 0) : Type 0 where
  pub number : ℕ
  pub branch : Branch
  pub partner : Option (Offer By)

-- the list with its k-th element changed
abbrev pub changed_at : {X : Type 0} → ℕ → (X → X) → List X → List X
changed_at k f [] = []
changed_at zero f (x ∷ xs) = f x ∷ xs
changed_at (suc k) f (x ∷ xs) = x ∷ changed_at k f xs

-- ---- one channel

-- the channel of a number: they are numbered from 1, and 0 is nil, as is each number that no channel was given
abbrev pub channel : List Channel → ℕ → Option Channel
channel channels zero = None
channel channels (suc k) = slice_get channels k

abbrev pub with_channel : ℕ → (Channel → Channel) → List Channel → List Channel
with_channel zero f channels = channels
with_channel (suc k) f channels = changed_at k f channels

abbrev pub new_channel : ℕ → ℕ → Channel
new_channel capacity words = record { capacity = capacity; words = words; held = []; given_up = false }

-- given up, with what it holds
abbrev pub without_values : Channel → Channel
without_values ch = record ch { held = []; given_up = true }

-- what the channel of a number holds
abbrev pub held_of : Option Channel → List (List ℕ)
held_of None = []
held_of (Some ch) = ch.held

-- a channel that is there and was not given up
abbrev pub is_usable : Option Channel → Bool
is_usable None = false
is_usable (Some ch) = not ch.given_up

abbrev pub takes_words : ℕ → Option Channel → Bool
takes_words n None = false
takes_words n (Some ch) = ch.words == n

-- a branch that traps: on nil, on a channel that was given up, or on one made for another number of words
abbrev pub is_bad : List Channel → Branch → Bool
is_bad channels b = not (is_usable (channel channels b.chan) && takes_words b.words (channel channels b.chan))

-- the buffer has room for a send, or a value for a receive
abbrev pub is_open : Channel → Option (List ℕ) → Bool
is_open ch None = nat_lt 0 (length ch.held)
is_open ch (Some words) = nat_lt (length ch.held) ch.capacity

-- ---- what can go

-- the one sends and the other receives, on one channel
abbrev pub is_opposite : Branch → Branch → Bool
is_opposite a b = (a.chan == b.chan) && cond (is_some a.send) (is_none b.send) (is_some b.send)

module _ {By : Type 0} where
  -- the waiting branches that are opposite to a branch, in waiting order
  abbrev pub opposites : List (Offer By) → Branch → List (Offer By)
  opposites waiting b = filter (λ (o : Offer By). is_opposite b o.branch) waiting

  -- branch number i with a partner, or with the buffer
  abbrev pub pair : ℕ → Branch → Option (Offer By) → Pair By
  pair i b partner = record { number = i; branch = b; partner = partner }

  -- the pairs of branch number i: on an unbuffered channel one for each opposite branch that waits, on a buffered one at
  -- most the one with the buffer
  abbrev pub pairs_at : List (Offer By) → ℕ → Branch → Option Channel → List (Pair By)
  pairs_at waiting i b None = []
  pairs_at waiting i b (Some ch) =
      if ch.capacity == 0
      then map (λ (o : Offer By). pair i b (Some o)) (opposites waiting b)
      else (if is_open ch b.send then pair i b None ∷ [] else [])

  -- the pairs of these branches, which are numbered from i on
  abbrev pub pairs_from : Book By → ℕ → List Branch → List (Pair By)
  pairs_from book i [] = []
  pairs_from book i (b ∷ bs) = pairs_at book.waiting i b (channel book.channels b.chan) ++ pairs_from book (i + 1) bs

  -- what can go, branch by branch; an entry's pick is an index of this list
  abbrev pub ready : Book By → List Branch → List (Pair By)
  ready book branches = take 65536 (pairs_from book 0 branches)

  -- some branch traps
  abbrev pub has_bad : Book By → List Branch → Bool
  has_bad book branches = list_any (is_bad book.channels) branches

  -- ---- a channel made, given up, and asked

  abbrev pub makes : Book By → ℕ → ℕ → Book By
  makes book capacity words = record book { channels = book.channels ++ new_channel capacity words ∷ [] }

  -- the number of the channel that is made next
  abbrev pub next_number : Book By → ℕ
  next_number book = length book.channels + 1

  -- a blocked talk has a branch on this channel
  abbrev pub is_waited_for : Book By → ℕ → Bool
  is_waited_for book c = list_any (λ (o : Offer By). o.branch.chan == c) book.waiting

  abbrev pub gives_up_one : Book By → ℕ → Option Channel → Result (Book By) Trap
  gives_up_one book c None = Ok book
  gives_up_one book c (Some ch) =
      if ch.given_up then Err Chan
      else (if is_waited_for book c then Err Busy else Ok (record book { channels = with_channel c without_values book.channels }))

  -- the book without a channel: nil is given up in vain, and a channel that was given up before, or that a blocked talk
  -- waits for, traps
  abbrev pub gives_up : Book By → ℕ → Result (Book By) Trap
  gives_up book c = gives_up_one book c (channel book.channels c)

  abbrev pub is_some_ready : List (Pair By) → Bool
  is_some_ready [] = false
  is_some_ready (_ ∷ _) = true

  -- whether a talk of this one branch could go at once
  abbrev pub could_go : Book By → Branch → Result Bool Trap
  could_go book b = if is_usable (channel book.channels b.chan) then Ok (is_some_ready (ready book (b ∷ []))) else Err Chan

  abbrev pub can_recv : Book By → ℕ → Result Bool Trap
  can_recv book c = could_go book (record { chan = c; words = 0; send = None })

  abbrev pub can_send : Book By → ℕ → Result Bool Trap
  can_send book c = could_go book (record { chan = c; words = 0; send = Some [] })
