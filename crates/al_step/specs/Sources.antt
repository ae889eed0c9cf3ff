-- The world that a source stands for, and what an entry needs so that its numbers fit in words.
use Rattle.std.specs.Prelude.{ℕ, ◌≡◌, ◌++◌, ◌+◌, ◌<◌, ◌^◌, List, [], ◌∷◌, All, length, sum_by, Option, Some, None, IsSome, ⊤}
use Rattle.al_event.specs.declared.act.Act.{Act}
use Rattle.al_event.specs.declared.entry.Entry.{Entry}
use Rattle.al_world.specs.Control.{Asked}
use Rattle.al_world.specs.World.{TaskName, Shared, Held, Goes, Told, Answered, Begins, Effect, World}
use Rattle.al_world.specs.Actions.{performs}
use Rattle.al_world.specs.Step.{task_of, step}
use Rattle.al_typed.specs.declared.program.Function.{Function}
use Rattle.al_typed.specs.declared.program.Program.{Program}
use Rattle.al_typed.specs.Layout.{IsLaidOut}
use Rattle.al_typed.specs.Typed.{parameter_types}
use Rattle.al_meaning.specs.Places.{function_at, words_in, private_words_of}
use Rattle.al_meaning.specs.Items.{Control}
use Rattle.al_meaning.specs.Meaning.{source, ask, run}
use Rattle.al_script.specs.Scripts.{IsSized}
use Rattle.al_script.specs.Worlds.{shared_of, Fits}
use Rattle.al_tasks.specs.Tables.{tasks_of, privates_of}
use Rattle.al_opening.specs.Opening.{OpeningFits}
use Rattle.al_walk_calls.specs.Fits.{BeginFits}
use Rattle.al_walk_calls.specs.Slots.{slots_in}
use Rattle.al_walk.specs.Asks.{AskFits}
use Rattle.al_step.specs.declared.source.Source.{Source}
use Rattle.al_step.specs.declared.entry.Stepped.{Stepped}
use Rattle.al_step.specs.declared.entry.Stepped.TheVariants as stepped

abbrev pub world_of : (p : Program) → Source → World (source p)
world_of p s = record { shared = shared_of s.made s.state; tasks = tasks_of s.tasks; privates = privates_of s.privates; work = 0 }

-- what is true of each source
pub record IsSound (s : Source) : Type 0 where
  pub laid_out : IsLaidOut s.program.now.aggregates
  pub slots : s.slots ≡ slots_in s.program.now
  pub procs : length s.state.procs < 2 ^ 32

-- A source stands for the run of its program, in a region of so many bytes, along the entries that it took.
pub record Stands (p : Program) (region : ℕ) (s : Source) : Type 0 where
  pub program : s.program.now ≡ p
  pub ran : run p region s.entries ≡ Some (world_of p s)

-- ---- the first world

-- the words that the parameters of main take
abbrev pub words_of_parameters : Program → Option Function → ℕ
words_of_parameters p (Some f) = sum_by (words_in p) (parameter_types f)
words_of_parameters p None = 0

abbrev pub main_count : Program → ℕ
main_count p = words_of_parameters p (function_at p p.main)

abbrev pub MainFits : Program → Type 0
MainFits p = main_count p + 1 < 2 ^ 64

-- the words of private globals
abbrev pub PrivatesFit : Program → Type 0
PrivatesFit p = sum_by (private_words_of p) p.globals + 1 < 2 ^ 64

-- what the first world needs of the program
pub record StartFits (p : Program) : Type 0 where
  pub opening : OpeningFits p
  pub privates : PrivatesFit p
  pub parameters : MainFits p
  pub main : BeginFits p p.main

-- ---- an entry

-- what a task asks that goes on
abbrev pub asked_by : Program → Held Control → List ℕ → Option (Asked Control (List ℕ))
asked_by p (Goes c) privates = Some (ask p c privates)
asked_by p _ privates = None

-- each private step on the way to its action fits
abbrev pub HeldFits : Program → Held Control → List ℕ → Type 0
HeldFits p (Goes c) privates = AskFits p c privates
HeldFits p _ privates = ⊤

-- a task that starts has locals that fit
abbrev pub ToldFits : Program → Told → Type 0
ToldFits p (Answered words) = ⊤
ToldFits p (Begins start) = BeginFits p start.code

-- what the effect of an action needs
pub record EffectFits (p : Program) (e : Effect) : Type 0 where
  pub procs : length e.shared.procs < 2 ^ 32
  pub told : All (λ (m : TaskName × Told). ToldFits p m.1) e.told

-- what an action under a pick needs
pub record ActFits (p : Program) (s : Shared) (t : TaskName) (pick : ℕ) (act : Act) : Type 0 where
  pub sized : IsSized act
  pub fits : Fits s t act
  pub effect : (e : Effect) → performs s t act pick ≡ Some e → EffectFits p e

-- what an entry of a task needs, under a pick
pub record TaskFits (p : Program) (w : World (source p)) (t : TaskName) (pick : ℕ) : Type 0 where
  pub ask : HeldFits p (w.tasks t) (w.privates t.proc)
  pub act : (a : Asked Control (List ℕ)) → asked_by p (w.tasks t) (w.privates t.proc) ≡ Some a → ActFits p w.shared t pick a.act

-- What an entry needs: the private steps of its task fit; its action is an access of 1, 2 or 4 bytes if it is one, and takes a
-- block of 1 byte at least if it takes one; it brings no number past 32 bits; and the tasks that it starts have locals that fit.
abbrev pub EntryFits : (p : Program) → World (source p) → Entry → Type 0
EntryFits p w e = (t : TaskName) → task_of w.shared w.shared.over e.proc ≡ Some t → TaskFits p w t e.pick

-- the source after an entry, where the definition gives this world
pub record IsMade (s : Source) (e : Entry) (o : Option (World (source s.program.now))) (t : Source) : Type 0 where
  pub program : t.program.now ≡ s.program.now
  pub sound : IsSound t
  pub entries : t.entries ≡ s.entries ++ e ∷ []
  pub world : o ≡ Some (world_of s.program.now t)

-- a source that is as it was, where the entry is not permitted
pub record IsRefused (s : Source) (o : Option (World (source s.program.now))) (t : Source) : Type 0 where
  pub same : t ≡ s
  pub not_over : s.state.over ≡ None
  pub refused : o ≡ None

-- what an entry comes to, where the definition gives this world or none
abbrev pub IsSteppedBy : (s : Source) → Entry → Option (World (source s.program.now)) → Stepped → Type 0
IsSteppedBy s e o (stepped.Made t) = IsMade s e o t
IsSteppedBy s e o (stepped.NotPermitted t) = IsRefused s o t
IsSteppedBy s e o (stepped.Over t) = (t ≡ s) × IsSome s.state.over

abbrev pub IsStepped : Source → Entry → Stepped → Type 0
IsStepped s e r = IsSteppedBy s e (step (source s.program.now) (world_of s.program.now s) e) r

abbrev pub source_of : Stepped → Source
source_of (stepped.Made t) = t
source_of (stepped.NotPermitted t) = t
source_of (stepped.Over t) = t
