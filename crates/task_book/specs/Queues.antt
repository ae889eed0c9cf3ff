-- Queues of slots that share their links: the link of a slot is the slot behind it.
use Rattle.std.specs.Prelude.{◌≡◌, ℕ, zero, suc, ◌+◌, ◌-◌, ◌<◌, Bool, true, false, ◌&&◌, ◌||◌, not, if◌then◌else◌, ◌==◌, List, [], ◌∷◌, length, slice_index, slice_set, Option, Some, None}
use Rattle.std.specs.List.{AllByRecursion}
use Rattle.task_book.specs.declared.queue.Queue.{Queue}

-- so many slots from one on
abbrev pub chain : List ℕ → ℕ → ℕ → List ℕ
chain links zero slot = []
chain links (suc n) slot = slot ∷ chain links n (slice_index links slot)

abbrev pub slots_of : List ℕ → Queue → List ℕ
slots_of links q = chain links q.len q.head

abbrev pub has : ℕ → List ℕ → Bool
has x [] = false
has x (y ∷ ys) = (y == x) || has x ys

abbrev pub are_different : List ℕ → Bool
are_different [] = true
are_different (x ∷ xs) = not (has x xs) && are_different xs

-- the last of these, where there is one
abbrev pub EndsIn : ℕ → List ℕ → Type 0
EndsIn tail [] = Unit {0}
EndsIn tail (x ∷ []) = x ≡ tail
EndsIn tail (x ∷ (y ∷ ys)) = EndsIn tail (y ∷ ys)

-- the links spell a queue of different slots
pub record IsQueue (links : List ℕ) (q : Queue) : Type 0 where
  pub different : are_different (slots_of links q) ≡ true
  pub within : AllByRecursion (λ x. x < length links) (slots_of links q)
  pub last : EndsIn q.tail (slots_of links q)

-- ---- what is done

abbrev pub queue_of : ℕ → Queue
queue_of slot = record { head = slot; tail = slot; len = 1 }

abbrev pub first_in : Queue → Option ℕ
first_in q = if q.len == 0 then None else Some q.head

abbrev pub pushed : Queue → ℕ → Queue
pushed q slot = record { head = if q.len == 0 then slot else q.head; tail = slot; len = q.len + 1 }

abbrev pub pushed_links : Queue → List ℕ → ℕ → List ℕ
pushed_links q links slot = if q.len == 0 then links else slice_set links q.tail slot

abbrev pub popped : List ℕ → Queue → Queue
popped links q = record { head = slice_index links q.head; tail = q.tail; len = q.len - 1 }
