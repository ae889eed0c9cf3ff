-- How a book is kept: the branches of each blocked task, the order in which tasks blocked, and one list in which all waiting
-- branches stand by queues. A channel has two queues, of those that wait to receive and of those that wait to send.
use Rattle.std.specs.Prelude.{◌≡◌, ℕ, zero, suc, ◌+◌, ◌-◌, ◌*◌, ◌^◌, ◌≤◌, ◌<◌, ◌⊎◌, ◌==◌, Bool, true, false, ◌&&◌, not, if◌then◌else◌, List, [], ◌∷◌, ◌++◌, map, filter, length, slice_index_or, Option, Some, None}
use Rattle.std.specs.List.{AllByRecursion, list_any}
use Rattle.al_event.specs.declared.act.Branch.{Branch}
use Rattle.al_base.specs.declared.trap.Trap.{Trap}
use Rattle.al_base.specs.declared.trap.Trap.TheVariants as traps
use Rattle.chan_book.specs.declared.fault.ChanFault.{ChanFault}
use Rattle.chan_book.specs.declared.fault.ChanFault.TheVariants as faults
use Rattle.al_world.specs.Channels.{Channel, Offer, Book, channel}
use Rattle.al_world.specs.Talks.{offers_from}
use Rattle.chan_book.specs.Links.{Ring, IsRing, has, inserted, without, behind, until}

-- a book with room for the talks of so many tasks, which are called by the numbers below that
pub record Bounded : Type 0 where
  pub room : ℕ
  pub book : Book ℕ

-- a task is blocked: a branch of its talk waits
abbrev pub is_blocked : Book ℕ → ℕ → Bool
is_blocked book t = list_any (λ (o : Offer ℕ). o.by == t) book.waiting

-- ---- the waiting list

abbrev pub branches_in : Option (List Branch) → List Branch
branches_in None = []
branches_in (Some branches) = branches

-- the branches of a task's talk
abbrev pub branches_at : List (Option (List Branch)) → ℕ → List Branch
branches_at talks t = branches_in (slice_index_or talks t None)

-- the waiting list of tasks that blocked in this order
abbrev pub waiting_of : List (Option (List Branch)) → List ℕ → List (Offer ℕ)
waiting_of talks [] = []
waiting_of talks (t ∷ ts) = offers_from t 0 (branches_at talks t) ++ waiting_of talks ts

-- the book that is kept so
abbrev pub bounded : List Channel → List (Option (List Branch)) → Ring → Bounded
bounded channels talks order = record { room = length talks; book = record { channels = channels; waiting = waiting_of talks order.items } }

-- ---- queues

-- the queue of a branch: two for each channel
abbrev pub side : Option (List ℕ) → ℕ
side None = 0
side (Some _) = 1

abbrev pub queue_of : Branch → ℕ
queue_of b = 2 * (b.chan - 1) + side b.send

-- the number of a waiting branch
abbrev pub node_of : Offer ℕ → ℕ
node_of o = 64 * o.by + o.number

-- the waiting branches of a queue, in waiting order
abbrev pub in_queue : ℕ → List (Offer ℕ) → List (Offer ℕ)
in_queue q waiting = filter (λ (o : Offer ℕ). queue_of o.branch == q) waiting

abbrev pub nodes : List (Offer ℕ) → List ℕ
nodes offers = map node_of offers

-- so many queues from number q on, each with its mark behind it; the marks are the numbers above the root
abbrev pub rows : List (Offer ℕ) → ℕ → ℕ → ℕ → List ℕ
rows waiting root q zero = []
rows waiting root q (suc m) = nodes (in_queue q waiting) ++ suc (root + q) ∷ rows waiting root (suc q) m

-- ---- what is always true

-- a branch on a channel that was made
pub record IsOnMade (channels : List Channel) (b : Branch) : Type 0 where
  pub some : 0 < b.chan
  pub made : b.chan ≤ length channels

-- the branches of a talk that may wait
pub record IsTalk (channels : List Channel) (branches : List Branch) : Type 0 where
  pub some : 0 < length branches
  pub most : length branches ≤ 64
  pub made : AllByRecursion (IsOnMade channels) branches

pub record IsKept (room : ℕ) (channels : List Channel) (talks : List (Option (List Branch))) (order queues : Ring) : Type 0 where
  pub room_bound : room < 2 ^ 32
  pub channels_bound : length channels < 2 ^ 32
  pub talks_size : length talks ≡ room
  pub order_ring : IsRing order
  pub order_root : order.root ≡ room
  pub order_size : order.size ≡ room + 1
  pub talks_none : (t : ℕ) → has t order.items ≡ false → slice_index_or talks t None ≡ None
  pub talks_held : AllByRecursion (λ t. IsTalk channels (branches_at talks t)) order.items
  pub queues_ring : IsRing queues
  pub queues_root : queues.root ≡ 64 * room
  pub queues_size : queues.size ≡ 64 * room + 1 + 2 * length channels
  pub queues_held : queues.items ≡ rows (waiting_of talks order.items) (64 * room) 0 (2 * length channels)

-- ---- a talk put in, and taken out

-- the numbers from node on, each put in before the mark of its branch
abbrev pub entered : ℕ → ℕ → List Branch → List ℕ → List ℕ
entered root node [] items = items
entered root node (b ∷ bs) items = entered root (suc node) bs (inserted node (suc (root + queue_of b)) items)

-- without so many numbers from node on
abbrev pub left : ℕ → ℕ → List ℕ → List ℕ
left node zero items = items
left node (suc n) items = left (suc node) n (without node items)

-- these branches may be put in, from number node on
pub record CanEnter (r : Ring) (node : ℕ) (branches : List Branch) : Type 0 where
  pub below : node + length branches ≤ r.root
  pub new : (n : ℕ) → node ≤ n → n < node + length branches → has n r.items ≡ false
  pub marks : AllByRecursion (λ b. has (suc (r.root + queue_of b)) r.items ≡ true) branches

-- so many numbers from node on stand there
pub record CanLeave (r : Ring) (node count : ℕ) : Type 0 where
  pub there : (n : ℕ) → node ≤ n → n < node + count → has n r.items ≡ true

-- ---- one queue

-- a queue begins behind the root or the mark of the queue before it
pub record IsStart (r : Ring) (queue : ℕ) : Type 0 where
  pub is : (queue ≡ 0) ⊎ (has (r.root + queue) r.items ≡ true)

-- the numbers of a queue
abbrev pub queue_in : Ring → ℕ → List ℕ
queue_in r queue = until r.root (behind (r.root + queue) (r.root ∷ r.items))

-- the queue of the branches that a branch can go with
abbrev pub other_side : Option (List ℕ) → ℕ
other_side None = 1
other_side (Some _) = 0

abbrev pub opposite_queue : Branch → ℕ
opposite_queue b = 2 * (b.chan - 1) + other_side b.send

-- ---- a channel

-- a channel of this number was made
pub record IsThere (channels : List Channel) (c : ℕ) : Type 0 where
  pub at : Channel
  pub is : channel channels c ≡ Some at

-- it can be used, and its buffer has room
pub record IsOpen (channels : List Channel) (c : ℕ) : Type 0 where
  pub at : Channel
  pub is : channel channels c ≡ Some at
  pub usable : at.given_up ≡ false
  pub room : length at.held < at.capacity

-- it holds a value
pub record IsHolding (channels : List Channel) (c : ℕ) : Type 0 where
  pub at : Channel
  pub is : channel channels c ≡ Some at
  pub some : 0 < length at.held

-- how the world names the cause
abbrev pub trap_of : ChanFault → Trap
trap_of faults.Chan = traps.Chan
trap_of faults.Busy = traps.Busy

-- ---- who waits for a channel

-- the tasks with a waiting branch on a channel, each once
abbrev pub tasks_on : ℕ → List (Offer ℕ) → List ℕ
tasks_on c [] = []
tasks_on c (o ∷ os) = if (o.branch.chan == c) && not (has o.by (tasks_on c os)) then o.by ∷ tasks_on c os else tasks_on c os

-- a talk has a branch on a channel
abbrev pub is_on : ℕ → List Branch → Bool
is_on c branches = list_any (λ (b : Branch). b.chan == c) branches

-- among tasks in an order, those of which a talk has a branch on a channel
abbrev pub count_on : ℕ → List (Option (List Branch)) → List ℕ → ℕ
count_on c talks [] = 0
count_on c talks (t ∷ ts) = if is_on c (branches_at talks t) then suc (count_on c talks ts) else count_on c talks ts
