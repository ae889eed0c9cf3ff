-- What is known of controls is known of those of all tasks in a run.
use Rattle.std.proofs.Common.{◌≡◌, ℕ, Bool, true, false, if◌then◌else◌, List, [], ◌∷◌, Option, Some, None, subst}
use Rattle.std.specs.Prelude.{⊤, option_map, option_and_then}
use Rattle.al_event.specs.declared.entry.Entry.{Entry}
use Rattle.al_world.specs.Control.{Asked}
use Rattle.al_world.specs.World.{TaskName, Held, Absent, Goes, Waits, World, Effect, Told, Answered, Begins, at_task, same_task, told, told_one}
use Rattle.al_world.specs.Actions.{first_task, performs}
use Rattle.al_world.specs.Step.{after, opening, run_from, step, step_asked, step_held, task_of}
use Rattle.al_world.specs.Step as world
use Rattle.al_typed.specs.declared.program.Program.{Program}
use Rattle.al_typed.specs.Sound.{HasSoundTypes}
use Rattle.al_meaning.specs.Places.{opening_blocks}
use Rattle.al_meaning.specs.Items.{Control}
use Rattle.al_meaning.specs.Meaning.{ask, main_start, run, source, start}
use Rattle.al_walk.specs.Asks.{AskFits}
use Rattle.al_fits.specs.Controls.{ActIs, HasRoom, ControlIs, WaitIs}
use Rattle.al_fits.proofs.Keeping.{ask_keeps, start_is}
use Rattle.al_fits.proofs.Rooms.{asks_fit}

-- a task as it is held
abbrev pub HeldIs : Program → Held Control → Type 0
HeldIs p Absent = ⊤
HeldIs p (Goes c) = ControlIs p c
HeldIs p (Waits a c) = WaitIs p a c

abbrev pub AllHeld : (p : Program) → World (source p) → Type 0
AllHeld p w = (t : TaskName) → HeldIs p (w.tasks t)

-- a world, if there is one
abbrev pub SomeHeld : (p : Program) → Option (World (source p)) → Type 0
SomeHeld p (Some w) = AllHeld p w
SomeHeld p None = ⊤

module _ (p : Program) (W : HasSoundTypes p) (R : HasRoom p) where
  one_is : (m : Told) (h : Held Control) → HeldIs p h → HeldIs p (told_one (source p) m h)
  one_is (Answered words) (Waits a c) k = k words
  one_is (Answered words) (Goes c) k = k
  one_is (Answered words) Absent k = k
  one_is (Begins s) Absent k = start_is p W R s
  one_is (Begins s) (Goes c) k = k
  one_is (Begins s) (Waits a c) k = k

  at_is : (t u : TaskName) (x : Held Control) (f : TaskName → Held Control) → HeldIs p x → HeldIs p (f u) → HeldIs p (at_task t x f u)
  at_is t u x f k l = on (same_task u t)
    where
      on : (b : Bool) → HeldIs p (if b then x else f u)
      on true = k
      on false = l

  told_is : (ms : List (TaskName × Told)) (tasks : TaskName → Held Control) → ((t : TaskName) → HeldIs p (tasks t)) → (t : TaskName) → HeldIs p (told (source p) ms tasks t)
  told_is [] tasks k t = k t
  told_is (m ∷ ms) tasks k t =
      told_is ms (at_task m.0 (told_one (source p) m.1 (tasks m.0)) tasks)
      (λ u. at_is m.0 u (told_one (source p) m.1 (tasks m.0)) tasks (one_is m.1 (tasks m.0) (k m.0)) (k u)) t

  asked_is : (w : World (source p)) (t : TaskName) (pick : ℕ) (a : Asked Control (List ℕ)) → AllHeld p w → WaitIs p a.act a.control
      → SomeHeld p (step_asked (source p) w t pick a)
  asked_is w t pick a k x = on (performs w.shared t a.act pick)
    where
      on : (o : Option Effect) → SomeHeld p (option_map (after (source p) w t a) o)
      on (Some e) = told_is e.told (at_task t (Waits a.act a.control) w.tasks) (λ u. at_is t u (Waits a.act a.control) w.tasks x (k u))
      on None = tt

  held_is : (w : World (source p)) (t : TaskName) (pick : ℕ) (h : Held Control) → AllHeld p w → HeldIs p h → SomeHeld p (step_held (source p) w t pick h)
  held_is w t pick (Goes c) k x = asked_is w t pick (ask p c (w.privates t.proc)) k (ask_keeps p W R c (w.privates t.proc) x).1
  held_is w t pick Absent k x = tt
  held_is w t pick (Waits a c) k x = tt

  entry_is : (w : World (source p)) (e : Entry) → AllHeld p w → SomeHeld p (step (source p) w e)
  entry_is w e k = on (task_of w.shared w.shared.over e.proc)
    where
      on : (o : Option TaskName) → SomeHeld p (option_and_then (λ (t : TaskName). step_held (source p) w t e.pick (w.tasks t)) o)
      on (Some t) = held_is w t e.pick (w.tasks t) k (k t)
      on None = tt

  run_is : (h : List Entry) (o : Option (World (source p))) → SomeHeld p o → SomeHeld p (world.run (source p) h o)
  run_is [] o k = k
  run_is (e ∷ h) (Some w) k = run_is h (step (source p) w e) (entry_is w e k)
  run_is (e ∷ h) None k = run_is h None tt

  -- the tasks of each world that a run comes to
  pub run_held : (region : ℕ) (h : List Entry) (w : World (source p)) → run p region h ≡ Some w → AllHeld p w
  run_held region h w e =
      subst (SomeHeld p) e
      (run_is h (Some (opening (source p) region (opening_blocks p) (main_start p)))
      (λ t. at_is (first_task 0) t (Goes (start p (main_start p))) (λ _. Absent) (start_is p W R (main_start p)) tt))

  -- in a run all private steps of each task that goes on fit, up to what it asks
  pub run_fits : (region : ℕ) (h : List Entry) (w : World (source p)) (t : TaskName) (c : Control) → run p region h ≡ Some w → w.tasks t ≡ Goes c
      → AskFits p c (w.privates t.proc)
  run_fits region h w t c e is = asks_fit p W R c (w.privates t.proc) (subst (HeldIs p) is (run_held region h w e t))

  -- and what it asks is an action with sizes that there are
  pub run_asks : (region : ℕ) (h : List Entry) (w : World (source p)) (t : TaskName) (c : Control) → run p region h ≡ Some w → w.tasks t ≡ Goes c
      → ActIs (ask p c (w.privates t.proc)).act
  run_asks region h w t c e is = (ask_keeps p W R c (w.privates t.proc) (subst (HeldIs p) is (run_held region h w e t))).0
