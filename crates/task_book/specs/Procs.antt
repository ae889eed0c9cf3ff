-- The procs that have live tasks, by rising numbers.
use Rattle.std.specs.Prelude.{ℕ, suc, ◌+◌, ◌<◌, ◌≤◌, Bool, if◌then◌else◌, ◌==◌, nat_lt, List, [], ◌∷◌, Option, Some, None, is_some, ◌&&◌}
use Rattle.task_book.specs.declared.proc.Proc.{Proc}

-- the proc of a number
abbrev pub proc_at : ℕ → List Proc → Option Proc
proc_at n [] = None
proc_at n (r ∷ rs) = if r.number == n then Some r else proc_at n rs

-- numbers rise, from `low` on
abbrev pub IsRising : ℕ → List Proc → Type 0
IsRising low [] = Unit {0}
IsRising low (r ∷ rs) = (low ≤ r.number) × IsRising (r.number + 1) rs

-- all numbers are below `high`
abbrev pub IsUnder : ℕ → List Proc → Type 0
IsUnder high [] = Unit {0}
IsUnder high (r ∷ rs) = (r.number < high) × IsUnder high rs

-- how many come before a number
abbrev pub count_before : ℕ → List Proc → ℕ
count_before n [] = 0
count_before n (r ∷ rs) = if nat_lt r.number n then suc (count_before n rs) else 0

-- the proc, if it has this number
abbrev pub of_number : ℕ → Option Proc → Option Proc
of_number n None = None
of_number n (Some r) = if r.number == n then Some r else None

-- the proc is not away and has a ready task
abbrev pub runs : Proc → Bool
runs r = nat_lt 0 r.ready.len && is_some r.privates
