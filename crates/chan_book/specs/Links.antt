-- A list of different numbers, kept as the number after each and the number before each. It closes at a root, which is
-- none of them.
use Rattle.std.specs.Prelude.{◌≡◌, ℕ, zero, suc, ◌<◌, Bool, true, false, ◌&&◌, ◌||◌, not, if◌then◌else◌, ◌==◌, nat_lt, List, [], ◌∷◌, length, slice_index}
use Rattle.std.specs.List.{AllByRecursion}

-- the root, a bound on all numbers, and the numbers in their order
pub record Ring : Type 0 where
  pub root : ℕ
  pub size : ℕ
  pub items : List ℕ

abbrev pub has : ℕ → List ℕ → Bool
has x [] = false
has x (y ∷ ys) = (y == x) || has x ys

abbrev pub are_different : List ℕ → Bool
are_different [] = true
are_different (x ∷ xs) = not (has x xs) && are_different xs

-- x before the first y, or at the end where there is none
abbrev pub inserted : ℕ → ℕ → List ℕ → List ℕ
inserted x y [] = x ∷ []
inserted x y (z ∷ zs) = if z == y then x ∷ z ∷ zs else z ∷ inserted x y zs

-- all but x
abbrev pub without : ℕ → List ℕ → List ℕ
without x [] = []
without x (y ∷ ys) = if y == x then without x ys else y ∷ without x ys

-- the first of a list, or the root where it is empty
abbrev pub first_or : ℕ → List ℕ → ℕ
first_or root [] = root
first_or root (x ∷ _) = x

-- the one after x, or the root behind the last
abbrev pub after : ℕ → ℕ → List ℕ → ℕ
after root x [] = root
after root x (y ∷ ys) = if y == x then first_or root ys else after root x ys

-- the one after x in a ring, of which the root is the first
abbrev pub next_in : Ring → ℕ → ℕ
next_in r x = after r.root x (r.root ∷ r.items)

-- what comes behind the first x
abbrev pub behind : ℕ → List ℕ → List ℕ
behind x [] = []
behind x (y ∷ ys) = if y == x then ys else behind x ys

-- the numbers below a bound up to the first that is not
abbrev pub until : ℕ → List ℕ → List ℕ
until bound [] = []
until bound (x ∷ xs) = if nat_lt x bound then x ∷ until bound xs else []

-- ---- how it is kept

-- from a over these to b, each step written down in both directions
abbrev pub IsPath : List ℕ → List ℕ → ℕ → List ℕ → ℕ → Type 0
IsPath next prev a [] b = (slice_index next a ≡ b) × (slice_index prev b ≡ a)
IsPath next prev a (x ∷ xs) b = (slice_index next a ≡ x) × (slice_index prev x ≡ a) × IsPath next prev x xs b

-- from i on until the root, in at most so many steps
abbrev pub walk : ℕ → List ℕ → ℕ → ℕ → List ℕ
walk zero next root i = []
walk (suc n) next root i = if i == root then [] else i ∷ walk n next root (slice_index next i)

abbrev pub ring_of : ℕ → List ℕ → Ring
ring_of root next = record { root = root; size = length next; items = walk (length next) next root (slice_index next root) }

-- what is always true of a ring
pub record IsRing (r : Ring) : Type 0 where
  pub root_within : r.root < r.size
  pub within : AllByRecursion (λ x. x < r.size) r.items
  pub different : are_different r.items ≡ true
  pub unrooted : has r.root r.items ≡ false

-- these numbers spell this ring
pub record IsLinked (next prev : List ℕ) (r : Ring) : Type 0 where
  pub ring : IsRing r
  pub next_size : length next ≡ r.size
  pub prev_size : length prev ≡ r.size
  pub path : IsPath next prev r.root r.items r.root
