-- The meaning of a typed program: a task's next action and how it goes on with the answer, and the run along a schedule.
use Rattle.std.specs.Prelude.{ℕ, List, [], ◌∷◌, Option, Some, None, replicate, sum_by}
use Rattle.al_event.specs.declared.act.Act.TheVariants as act
use Rattle.al_event.specs.declared.act.Start.{Start}
use Rattle.al_event.specs.declared.entry.Entry.{Entry}
use Rattle.al_world.specs.Control.{Kind, Asked, kind_of}
use Rattle.al_world.specs.Turns.{ask_within}
use Rattle.al_world.specs.World.{World}
use Rattle.al_world.specs.Step.{run_from}
use Rattle.al_typed.specs.declared.program.Function.{Function}
use Rattle.al_typed.specs.declared.program.Program.{Program}
use Rattle.al_typed.specs.Typed.{parameter_types}
use Rattle.al_meaning.specs.Places.{opening_blocks, fresh_privates, function_at, words_in}
use Rattle.al_meaning.specs.Items.{Control, most_turns}
use Rattle.al_meaning.specs.Calls.{begun, with_given}
use Rattle.al_meaning.specs.Step.{private_step}
use Rattle.al_meaning.specs.Weight.{control_weight}

-- private steps up to the next action
abbrev pub ask : Program → Control → List ℕ → Asked Control (List ℕ)
ask p c privates = ask_within (private_step p) (control_weight p) most_turns act.Pause c privates

-- an answer with words is a value that was found
abbrev pub resume : Control → List ℕ → Control
resume c [] = c
resume c (w ∷ words) = record c { frames = with_given (Some (w ∷ words)) c.frames }

-- a task that starts with a function
abbrev pub start : Program → Start → Control
start p s = record { entering = None; frames = begun p s.code s.words ∷ [] }

-- the tasks of a program, as a kind of control of the world
abbrev pub source : Program → Kind
source p = kind_of (ask p) resume (start p) (fresh_privates p)

-- parameters of main are 0 and nil
abbrev pub main_words : Program → Option Function → List ℕ
main_words p (Some f) = replicate (sum_by (words_in p) (parameter_types f)) 0
main_words p None = []

abbrev pub main_start : Program → Start
main_start p = record { code = p.main; words = main_words p (function_at p p.main) }

-- the world of a program after the entries of a schedule, in a region of so many bytes
abbrev pub run : (p : Program) → ℕ → List Entry → Option (World (source p))
run p region h = run_from (source p) region (opening_blocks p) (main_start p) h
