-- The procs of the tasks.
use Rattle.std.specs.Prelude.{ℕ, Bool, false, ◌==◌, List, map, slice_index_or, Option, Some, None, option_map}
use Rattle.task_book.specs.declared.proc.Task.{Task}

abbrev pub homes_of : List (Option Task) → List (Option ℕ)
homes_of tasks = map (option_map (λ (x : Task). x.proc)) tasks

abbrev pub home_at : List (Option ℕ) → ℕ → Option ℕ
home_at homes t = slice_index_or homes t None

abbrev pub is_of : ℕ → Option ℕ → Bool
is_of p None = false
is_of p (Some q) = q == p
