-- What the walk of a program along the entries of a schedule comes to.
use Rattle.std.specs.Prelude.{◌≡◌, ℕ, ◌⊎◌, ⊤, List, [], ◌∷◌, ◌++◌, length, take, Some, None, slice_get}
use Rattle.al_event.specs.declared.entry.Entry.{Entry}
use Rattle.al_world.specs.World.{World}
use Rattle.al_world.specs.Step.{step}
use Rattle.al_typed.specs.declared.program.Program.{Program}
use Rattle.al_meaning.specs.Meaning.{source, run}
use Rattle.al_step_text.specs.StepText.{step_text}
use Rattle.al_step.specs.declared.source.Source.{Source}
use Rattle.al_step.specs.Sources.{Stands, IsSound, StartFits, EntryFits, world_of}
use Rattle.al_show.specs.declared.walking.WalkStop.{WalkStop}
use Rattle.al_show.specs.declared.walking.WalkStop.TheVariants as stop
use Rattle.al_show.specs.declared.walking.ShowStop.{ShowStop}
use Rattle.al_show.specs.declared.walking.ShowStop.TheVariants as show

-- ---- along all entries

-- Entry k, counted from 0, is the first that is not permitted: those before it are, and the world that they lead to has no step by it.
-- A world that is over has no step.
pub record IsRefused (p : Program) (region : ℕ) (h : List Entry) (k : ℕ) : Type 0 where
  pub world : World (source p)
  pub entry : Entry
  pub here : slice_get h k ≡ Some entry
  pub ran : run p region (take k h) ≡ Some world
  pub none : step (source p) world entry ≡ None

-- an entry does not fit, and those before it are permitted
pub record HasLarge (p : Program) (region : ℕ) (h : List Entry) : Type 0 where
  pub number : ℕ
  pub world : World (source p)
  pub entry : Entry
  pub here : slice_get h number ≡ Some entry
  pub ran : run p region (take number h) ≡ Some world
  pub large : EntryFits p world entry → ⊥

-- the first world does not fit, or an entry
abbrev pub IsTooLarge : Program → (region : ℕ) → List Entry → Type 0
IsTooLarge p region h = (StartFits p → ⊥) ⊎ HasLarge p region h

-- why a walk stops
abbrev pub Stops : Program → (region : ℕ) → List Entry → WalkStop → Type 0
Stops p region h (stop.NotPermitted k) = IsRefused p region h k
Stops p region h stop.TooLarge = IsTooLarge p region h
Stops p region h stop.NoMemory = ⊤

-- why a world is not shown
abbrev pub StopsShow : Program → (region : ℕ) → List Entry → ShowStop → Type 0
StopsShow p region h (show.NotPermitted k) = IsRefused p region h k
StopsShow p region h show.NoMemory = ⊤

-- the text of the world that the entries lead to
pub record IsShown (p : Program) (region : ℕ) (h : List Entry) (text : List ℕ) : Type 0 where
  pub world : World (source p)
  pub ran : run p region h ≡ Some world
  pub text_is : text ≡ step_text p world (length h)

-- ---- on the way

-- a source stands for a longer run, of each program and in each region
abbrev pub StandsStill : Source → Source → Type 0
StandsStill s t = (p : Program) (region : ℕ) → Stands p region s → Stands p region t

-- one entry more was made
pub record GoesOn (s : Source) (e : Entry) (t : Source) : Type 0 where
  pub sound : IsSound t
  pub entries : t.entries ≡ s.entries ++ e ∷ []
  pub stands : StandsStill s t

-- why the entry of that number was not made
abbrev pub StopsHere : Source → Entry → (at : ℕ) → WalkStop → Type 0
StopsHere s e at (stop.NotPermitted k) = (k ≡ at) × (step (source s.program.now) (world_of s.program.now s) e ≡ None)
StopsHere s e at stop.TooLarge = EntryFits s.program.now (world_of s.program.now s) e → ⊥
StopsHere s e at stop.NoMemory = ⊤

-- these entries were made
pub record GoesAlong (s : Source) (h : List Entry) (t : Source) : Type 0 where
  pub sound : IsSound t
  pub entries : t.entries ≡ h
  pub stands : StandsStill s t

-- why not all of these entries were made of a source that stands for a run
abbrev pub StopsAlong : Source → List Entry → WalkStop → Type 0
StopsAlong s h stop = (p : Program) (region : ℕ) → Stands p region s → Stops p region h stop
