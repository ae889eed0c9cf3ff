-- What a task asks after the answers so far, where it is asked and answered one action at a time.
use Rattle.std.specs.Prelude.{ℕ, Bool, true, false, if◌then◌else◌, List, [], ◌∷◌}
use Rattle.al_event.specs.declared.act.Act.{Act}
use Rattle.al_event.specs.declared.act.Act.TheVariants as act
use Rattle.al_event.specs.declared.act.Start.{Start}
use Rattle.al_world.specs.Control.{Asked, fitted}
use Rattle.al_typed.specs.declared.program.Program.{Program}
use Rattle.al_meaning.specs.Items.{Control}
use Rattle.al_meaning.specs.Meaning.{ask, resume, start}
use Rattle.al_meaning.specs.Tasks.{Answer, Outcome, Asks, Over}

-- actions that have no answer
abbrev pub is_last : Act → Bool
is_last (act.Trap t) = true
is_last act.End = true
is_last (act.Terminate status) = true
is_last _ = false

-- where the task has asked this, and these are the answers to it and to what it asks then
abbrev pub after : Program → Asked Control (List ℕ) → List Answer → Outcome
after p a [] = Asks a.act a.line a.privates
after p a (r ∷ answers) = if is_last a.act then Over else after p (ask p (resume a.control (fitted a.act r.words)) r.privates) answers

-- what a task that starts so asks after these answers
abbrev pub task_asked : Program → Start → List ℕ → List Answer → Outcome
task_asked p s privates answers = after p (ask p (start p s) privates) answers
