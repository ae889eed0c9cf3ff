-- The data races of a run, and their text.
use Rattle.std.specs.Prelude.{ℕ, zero, suc, ◌+◌, Bool, true, false, ◌&&◌, ◌||◌, not, if◌then◌else◌, ◌==◌, nat_le, nat_lt, List, [], ◌∷◌, ◌++◌, length, reverse, Option, Some, None, codes, decimal}
use Rattle.al_seen.specs.declared.seen.Access.{Access}
use Rattle.al_seen.specs.declared.seen.Placed.{Placed}
use Rattle.al_seen.specs.declared.seen.Seen.{Seen}
use Rattle.al_race.specs.Order.{entry, is_before, some_below}

-- ---- shared bytes

-- an access touches byte b
abbrev pub touches : Access → ℕ → Bool
touches a b = nat_le a.at b && nat_lt b (a.at + a.size)

-- a block was placed over byte b
abbrev pub places : Option Placed → ℕ → Bool
places None b = false
places (Some p) b = nat_le p.at b && nat_lt b (p.at + p.bytes)

-- after entry i no block was placed over byte b
abbrev pub is_kept : List Seen → ℕ → ℕ → Bool
is_kept [] i b = true
is_kept (e ∷ past) i b = if i == length past then true else (not (places e.placed b) && is_kept past i b)

-- an access of entry i and one that comes next share a byte over which no block was placed between them
abbrev pub shares : List Seen → ℕ → Access → Access → Bool
shares past i a next = some_below next.size (λ k. touches a (next.at + k) && is_kept past i (next.at + k))

-- ---- races

-- two accesses of which one is a store, by entry i of the past and by the next one
abbrev pub conflict : List Seen → ℕ → Option Access → Option Access → Bool
conflict past i (Some a) (Some next) = (a.store || next.store) && shares past i a next
conflict past i a next = false

abbrev pub conflicts : List Seen → ℕ → Option Seen → Seen → Bool
conflicts past i None e = false
conflicts past i (Some d) e = not (d.task.proc == e.task.proc) && conflict past i d.access e.access

-- an entry races with entry i of its past: their accesses conflict, they are of different procs, and i is not before it
abbrev pub races_with : Seen → List Seen → ℕ → Bool
races_with e past i = conflicts past i (entry past i) e && not (is_before (e ∷ past) i (length past))

-- the greatest number below n of which f holds
abbrev pub greatest_below : ℕ → (ℕ → Bool) → Option ℕ
greatest_below zero f = None
greatest_below (suc n) f = if f n then Some n else greatest_below n f

-- the last entry with which an entry races
abbrev pub race_of : Seen → List Seen → Option ℕ
race_of e past = greatest_below (length past) (races_with e past)

abbrev pub with_race : ℕ → Option ℕ → List (ℕ × ℕ)
with_race j None = []
with_race j (Some i) = (j, i) ∷ []

-- each entry that races, with the last one with which it does
abbrev pub races : List Seen → List (ℕ × ℕ)
races [] = []
races (e ∷ past) = races past ++ with_race (length past) (race_of e past)

-- ---- the text

abbrev pub race_lines : List (ℕ × ℕ) → List ℕ
race_lines [] = []
race_lines ((j, i) ∷ more) = codes "race " ++ decimal j ++ codes " " ++ decimal i ++ codes "\n" ++ race_lines more

-- a line for each entry that races, and one with their number
abbrev pub race_text : List Seen → List ℕ
race_text run = race_lines (races run) ++ codes "races " ++ decimal (length (races run)) ++ codes "\n"

-- the text of what the entries did, in their order
abbrev pub text_of : List Seen → List ℕ
text_of seens = race_text (reverse seens)
