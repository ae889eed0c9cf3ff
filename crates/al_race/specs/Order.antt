-- Which entries of a run come before which, by what each of them did. What was done is listed with the last entry first: the
-- list behind an entry is its past, and its number is how many entries stand there.
use Rattle.std.specs.Prelude.{ℕ, zero, suc, ◌+◌, Bool, true, false, ◌&&◌, ◌||◌, not, if◌then◌else◌, ◌==◌, nat_le, nat_lt, List, [], ◌∷◌, ◌++◌, length, slice_get, Option, Some, None, is_some, is_none, IsTrue}
use Rattle.al_world.specs.World.{TaskName, same_task}
use Rattle.al_seen.specs.declared.seen.Went.{Went}
use Rattle.al_seen.specs.declared.seen.Seen.{Seen}

-- ---- entries and procs

-- what entry number i did
abbrev pub entry : List Seen → ℕ → Option Seen
entry [] i = None
entry (e ∷ past) i = if i == length past then Some e else entry past i

-- how many procs were made, proc 0 counted
abbrev pub procs : List Seen → ℕ
procs [] = 1
procs (e ∷ past) = procs past + e.started

-- an entry with this past started proc q
abbrev pub starts : Seen → List Seen → ℕ → Bool
starts e past q = nat_le (procs past) q && nat_lt q (procs past + e.started)

-- the number of a task's latest entry
abbrev pub latest : List Seen → TaskName → Option ℕ
latest [] t = None
latest (e ∷ past) t = if same_task e.task t then Some (length past) else latest past t

abbrev pub is_number : Option ℕ → ℕ → Bool
is_number None i = false
is_number (Some k) i = k == i

-- an entry made task t ready
abbrev pub wakes : Seen → TaskName → Bool
wakes e t = elim e.woke [ None ↦ false | Some u ↦ same_task u t ]

-- entry number i is one of proc q
abbrev pub is_of : Option Seen → ℕ → Bool
is_of None q = false
is_of (Some e) q = e.task.proc == q

-- ---- edges: entry number i of the past leads to the entry that comes next

-- 1. entry i is one of the same proc q
abbrev pub same_proc : List Seen → ℕ → ℕ → Bool
same_proc past q i = is_of (entry past i) q

-- 2. entry i started its proc q
abbrev pub started : List Seen → ℕ → ℕ → Bool
started [] q i = false
started (e ∷ past) q i = (starts e past q && (i == length past)) || started past q i

-- 3. entry i made its task t ready, which was blocked, and the next one is that task's first entry since
abbrev pub woke : List Seen → TaskName → ℕ → Bool
woke [] t i = false
woke (e ∷ past) t i =
    if same_task e.task t then false
    else ((wakes e t && is_some e.went && (i == length past)) || woke past t i)

-- proc q was started by task t's latest entry: where that is a par, q is one of its branches
abbrev pub is_branch : List Seen → TaskName → ℕ → Bool
is_branch [] t q = false
is_branch (e ∷ past) t q = if same_task e.task t then starts e past q else is_branch past t q

abbrev pub is_of_branch : List Seen → TaskName → Option Seen → Bool
is_of_branch past t None = false
is_of_branch past t (Some e) = is_branch past t e.task.proc

-- 4. entry i is one of a branch of task t's par, which is over, and the next one is that task's first entry since
abbrev pub joined : List Seen → TaskName → ℕ → Bool
joined [] t i = false
joined (e ∷ past) t i =
    if same_task e.task t then false
    else ((wakes e t && is_none e.went && is_of_branch (e ∷ past) t (entry (e ∷ past) i)) || joined past t i)

-- the latest entry of a task that is made ready: where its talk was blocked, the entry of that talk
abbrev pub talk_of : List Seen → Option TaskName → Option ℕ
talk_of past None = None
talk_of past (Some t) = latest past t

-- 5. the next one goes on an unbuffered channel with a blocked talk, which entry i is
abbrev pub met : List Seen → Option Went → Option TaskName → ℕ → Bool
met past None woken i = false
met past (Some w) woken i = not w.buffered && is_number (talk_of past woken) i

-- ---- buffered channels

-- the talk of a blocked send whose value is let in, if one was
abbrev pub let_in : List Seen → Option TaskName → List (Option ℕ)
let_in past None = []
let_in past (Some t) = latest past t ∷ []

-- the talks whose values an entry puts into channel c: its own, or one that was blocked
abbrev pub puts_by : List Seen → Option Went → Option TaskName → ℕ → List (Option ℕ)
puts_by past None woken c = []
puts_by past (Some w) woken c =
    if w.buffered && (w.chan == c)
    then (if w.send then Some (length past) ∷ [] else let_in past woken)
    else []

-- the talks of all puts into channel c, in order
abbrev pub puts : List Seen → ℕ → List (Option ℕ)
puts [] c = []
puts (e ∷ past) c = puts past c ++ puts_by past e.went e.woke c

abbrev pub one_if : Bool → ℕ
one_if true = 1
one_if false = 0

-- how many values an entry gets from channel c: one by its own receive, or by a blocked one to which its send hands the value
abbrev pub gets_by : Option Went → Option TaskName → ℕ → ℕ
gets_by None woken c = 0
gets_by (Some w) woken c = one_if (w.buffered && (w.chan == c) && (not w.send || is_some woken))

-- how many gets from channel c there were
abbrev pub gets : List Seen → ℕ → ℕ
gets [] c = 0
gets (e ∷ past) c = gets past c + gets_by e.went e.woke c

abbrev pub is_talk : Option (Option ℕ) → ℕ → Bool
is_talk None i = false
is_talk (Some talk) i = is_number talk i

-- 6. the next one gets the n-th value of a buffered channel, and entry i is the talk of the n-th put. (A value that a send hands
-- to a blocked receive was asked for before it was sent, so that no edge leads there.)
abbrev pub passed : List Seen → Option Went → ℕ → Bool
passed past None i = false
passed past (Some w) i = w.buffered && not w.send && is_talk (slice_get (puts past w.chan) (gets past w.chan)) i

-- ---- paths

-- entry i of the past leads to an entry by one edge
abbrev pub leads : Seen → List Seen → ℕ → Bool
leads e past i =
    same_proc past e.task.proc i || started past e.task.proc i || woke past e.task i || joined past e.task i || met past e.went e.woke i || passed past e.went i

-- an edge leads from entry i to entry j, which is later
abbrev pub has_edge : List Seen → ℕ → ℕ → Bool
has_edge [] i j = false
has_edge (e ∷ past) i j = if j == length past then nat_lt i (length past) && leads e past i else has_edge past i j

-- entry i is before entry j: a path of edges leads there
pub data IsBefore (run : List Seen) : ℕ → ℕ → Type 0 where
  by_edge : (i j : ℕ) → IsTrue (has_edge run i j) → IsBefore run i j
  by_path : (i k j : ℕ) → IsBefore run i k → IsTrue (has_edge run k j) → IsBefore run i j

-- f holds of some number below n
abbrev pub some_below : ℕ → (ℕ → Bool) → Bool
some_below zero f = false
some_below (suc n) f = f n || some_below n f

-- the same, found by looking: the last edge of the path comes from i itself, or from an entry that i is before
abbrev pub is_before : List Seen → ℕ → ℕ → Bool
is_before [] i j = false
is_before (e ∷ past) i j =
    if j == length past
    then some_below (length past) (λ k. leads e past k && ((k == i) || is_before past i k))
    else is_before past i j
