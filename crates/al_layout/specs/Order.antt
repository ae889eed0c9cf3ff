-- An order in which what stands in others by value comes before them.
--
-- Round by round each comes all whose parts have come; within a round they come in the order of the list. As many rounds as
-- there are reach all that come so. What is left contains itself, or stands on what contains itself: it comes last.
use Rattle.std.specs.Prelude.{ℕ, zero, suc, ◌+◌, Bool, true, false, not, ◌&&◌, if◌then◌else◌, List, [], ◌∷◌, ◌++◌, map, length, slice_get, slice_set, unwrap_or}
use Rattle.std.specs.List.{list_all}
use Rattle.al_layout.specs.declared.order.Placed.{Placed}

-- the parts of each, by number
abbrev pub Graph : Type 0
Graph = List (List ℕ)

abbrev pub has_come : List Bool → ℕ → Bool
has_come come k = unwrap_or (slice_get come k) false

-- one that comes next
abbrev pub coming : Placed → ℕ → Placed
coming w k = record { order = w.order ++ k ∷ []; come = slice_set w.come k true }

-- it comes, if its parts have come and it has not
unfoldable pub placed : Placed → (k : ℕ) → (parts : List ℕ) → Placed
placed w k parts = if not (has_come w.come k) && list_all (has_come w.come) parts then coming w k else w

-- a round over those from the one of the number `from` on
unfoldable pub round : (from : ℕ) → Graph → Placed → Placed
round from [] w = w
round from (parts ∷ rest) w = round (from + 1) rest (placed w from parts)

unfoldable pub rounds : (n : ℕ) → Graph → Placed → Placed
rounds zero graph w = w
rounds (suc n) graph w = rounds n graph (round 0 graph w)

-- it comes, if it has not
unfoldable pub left : Placed → ℕ → Placed
left w k = if has_come w.come k then w else coming w k

unfoldable pub with_left : (from : ℕ) → Graph → Placed → Placed
with_left from [] w = w
with_left from (parts ∷ rest) w = with_left (from + 1) rest (left w from)

abbrev pub begun : Graph → Placed
begun graph = record { order = []; come = map (λ _. false) graph }

-- all, in that order
unfoldable pub order : Graph → List ℕ
order graph = (with_left 0 graph (rounds (length graph) graph (begun graph))).order

-- the place of each in a list of them, where the first of the list has the place `from`
unfoldable pub places : (from : ℕ) → List ℕ → List ℕ → List ℕ
places from [] ns = ns
places from (k ∷ ks) ns = places (from + 1) ks (slice_set ns k from)

-- the place of each in the order
unfoldable pub numbers : Graph → List ℕ
numbers graph = places 0 (order graph) (map (λ _. 0) graph)
