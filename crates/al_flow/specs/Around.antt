-- The loops, switches and alts round a statement, the innermost last.
use Rattle.std.specs.Prelude.{ℕ, Bool, true, false, List, length, count_by, Option, unwrap_or}
use Rattle.al_flow.specs.declared.around.Enclosing.{Enclosing}
use Rattle.al_flow.specs.declared.around.Enclosing.TheVariants as enclosing
use Rattle.al_flow.specs.declared.around.Outside.{Outside}

abbrev pub is_loop : Enclosing → Bool
is_loop enclosing.Loop = true
is_loop enclosing.Choice = false

-- how many targets a continue has there
abbrev pub loops_in : List Enclosing → ℕ
loops_in around = count_by is_loop around

-- inside no branch of a par
abbrev pub outermost : Outside
outermost = record { left = 0; loops = 0 }

-- what is round a branch, which begins inside these
abbrev pub outside_of : List Enclosing → Outside
outside_of around = record { left = length around; loops = loops_in around }

-- how many a break or continue counts, which is 1 where none is written
abbrev pub count_of : Option ℕ → ℕ
count_of count = unwrap_or count 1
