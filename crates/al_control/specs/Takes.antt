-- How a step goes on with what was taken.
use Rattle.std.specs.Prelude.{◌≡◌, ⊤}
use Rattle.al_typed.specs.declared.program.Program.{Program}
use Rattle.al_meaning.specs.Here as step
use Rattle.al_control.specs.declared.take.Taken.{Taken}
use Rattle.al_control.specs.declared.take.Taken.TheVariants.{Took, Lost}
use Rattle.al_control.specs.Models.{here_of, next_of}

abbrev pub taken_by : {T : Type 0} → Taken T → (T → step.Here → step.Next) → step.Next
taken_by (Took x h) k = k x (here_of h)
taken_by (Lost n) k = next_of n

-- the frame is of the same program
abbrev pub Keeps : {T : Type 0} → Program → Taken T → Type 0
Keeps p (Took x h) = h.program.now ≡ p
Keeps p (Lost n) = ⊤
