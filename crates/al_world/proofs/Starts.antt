-- An effect begins only tasks that its action starts.
use Rattle.std.proofs.Common.{ℕ, ◌+◌, List, [], ◌∷◌, Bool, true, false, cond, Option, Some, None, Result, Ok, Err}
use Rattle.std.specs.List.{AllByRecursion}
use Rattle.al_base.specs.declared.trap.Trap.{Trap}
use Rattle.al_event.specs.declared.act.Start.{Start}
use Rattle.al_event.specs.declared.act.Act.{Act}
use Rattle.al_event.specs.declared.act.Act.TheVariants.{Proc, Task, Par, End}
use Rattle.al_world.specs.Talks.{Woken, Fired}
use Rattle.al_world.specs.World.{TaskName, TalkName, Shared, Told, Answered, Begins, Effect}
use Rattle.al_world.specs.Actions.{acts, performs, or_trap, goes, wake_told, join_told, begins_from}
use Rattle.al_world.specs.Alike.{starts_in}
use Rattle.al_world.proofs.Cases.{IfSome', performs_cases}

-- a start that is told is known
abbrev pub IsKnown : (Start → Type 0) → TaskName × Told → Type 0
IsKnown P m = elim m.1 [ Answered words ↦ Unit {0} | Begins start ↦ P start ]

pub record TellsKnown (P : Start → Type 0) (e : Effect) : Type 0 where
  pub known : AllByRecursion (IsKnown P) e.told

module _ (P : Start → Type 0) (s : Shared) (t : TaskName) where
  tells_or_trap : {X : Type 0} (r : Result X Trap) (f : X → Effect) → ((x : X) → TellsKnown P (f x)) → TellsKnown P (or_trap s t r f)
  tells_or_trap (Ok x) f h = h x
  tells_or_trap (Err trap) f h = record { known = tt }

  tells_if : (b : Bool) (x y : Effect) → TellsKnown P x → TellsKnown P y → TellsKnown P (cond b x y)
  tells_if true x y h k = h
  tells_if false x y h k = k

  tells_none : (x : Shared) → TellsKnown P (record { shared = x; told = [] })
  tells_none x = record { known = tt }

  tells_one : (x : Shared) (u : TaskName) (words : List ℕ) → TellsKnown P (record { shared = x; told = (u, Answered words) ∷ [] })
  tells_one x u words = record { known = (tt, tt) }

  tells_these : (x : Shared) (ms : List (TaskName × Told)) → AllByRecursion (IsKnown P) ms → TellsKnown P (record { shared = x; told = ms })
  tells_these x ms h = record { known = h }

  ruleset tells = (tells_or_trap, tells_if, tells_none, tells_one)

  known_from : (p : ℕ) (starts : List Start) → AllByRecursion P starts → AllByRecursion (IsKnown P) (begins_from p starts)
  known_from p [] h = tt
  known_from p (x ∷ xs) h = (h.0, known_from (p + 1) xs h.1)

  known_woken : (o : Option (Woken TalkName)) → AllByRecursion (IsKnown P) (wake_told o)
  known_woken None = tt
  known_woken (Some w) = (tt, tt)

  known_joined : (o : Option TaskName) → AllByRecursion (IsKnown P) (join_told o)
  known_joined None = tt
  known_joined (Some u) = (tt, tt)

  tells_goes : (f : Fired TalkName) → TellsKnown P (goes s t f)
  tells_goes f = record { known = (tt, known_woken f.woke) }

  tells_acts : (act : Act) → AllByRecursion P (starts_in act) → TellsKnown P (acts s t act)
  tells_acts End h = record { known = known_joined _ }
  tells_acts (Proc start) h = search (tells, tells_these)
  tells_acts (Task start) h = search (tells, tells_these)
  tells_acts (Par starts) h = search (tells, tells_these, known_from)
  tells_acts act h = search tells

pub known_performs : (P : Start → Type 0) (s : Shared) (t : TaskName) (act : Act) (pick : ℕ) → AllByRecursion P (starts_in act) → IfSome' (TellsKnown P) (performs s t act pick)
known_performs P s t act pick h =
    performs_cases (TellsKnown P) s t (record { known = tt }) (λ bs k f nb e. tells_goes P s t f) act pick (tells_acts P s t act h)
