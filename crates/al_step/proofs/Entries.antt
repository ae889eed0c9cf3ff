-- Entries of a source.
use Rattle.std.proofs.Common.{◌≡◌, ℕ, ◌<◌, ◌^◌, true, false, List, length, map, Option, Some, None, option_map, option_and_then, IsTrue, ◌↔◌, ap, sym, subst, ◌∙◌, arith}
use Rattle.std.specs.List.{All}
use Rattle.al_event.specs.declared.act.Act.{Act}
use Rattle.al_event.specs.declared.entry.Entry.{Entry}
use Rattle.al_world.specs.Control.{Asked}
use Rattle.al_world.specs.World.{TaskName, Shared, Held, Waits, World, Told, Effect, at_task, told}
use Rattle.al_world.specs.Actions.{performs}
use Rattle.al_world.specs.Step.{step_asked, step_held, step, task_of}
use Rattle.al_typed.specs.declared.program.Program.{Program}
use Rattle.al_meaning.specs.Items.{Control}
use Rattle.al_meaning.specs.Meaning.{source}
use Rattle.al_control.specs.declared.unmade.Unmade.{Unmade}
use Rattle.al_control.specs.Fits.{Explains}
use Rattle.al_opening.proofs.Explained.{explains}
use Rattle.al_script.specs.declared.tells.Effect.{Effect as Done}
use Rattle.al_script.specs.declared.tells.Message.{Message}
use Rattle.al_script.specs.declared.world.Made.{Made}
use Rattle.al_script.specs.Scripts.{IsSized}
use Rattle.al_script.specs.Worlds.{effect_of, message_of, Fits}
use Rattle.al_walk.specs.declared.asks.Asked.{Asked as Asking}
use Rattle.al_walk.specs.Asks.{asked_of}
use Rattle.al_step.specs.declared.source.Source.{Source}
use Rattle.al_step.specs.declared.entry.Stepped.{Stepped}
use Rattle.al_step.specs.Sources.{asked_by, HeldFits, ToldFits, EffectFits, ActFits, TaskFits, EntryFits, IsSteppedBy}
use Rattle.al_step.proofs.Worlds.{held_asks}

-- ---- what fits

-- the tasks are told what the effect tells
pub tells_as : (p : Program) (t : TaskName) (ms ns : List Message) (a b : Act) (c : Control) (f g : TaskName → Held Control) → f ≡ told (source p) (map message_of ms) (at_task t (Waits b c) g) → ms ≡ ns → b ≡ a → f ≡ told (source p) (map message_of ns) (at_task t (Waits a c) g)
tells_as p t ms ns a b c f g is same act =
    is
    ∙ (ap (λ (l : List Message). told (source p) (map message_of l) (at_task t (Waits b c) g)) same
    ∙ ap (λ (x : Act). told (source p) (map message_of ns) (at_task t (Waits x c) g)) act)

pub told_fits : (p : Program) (made : Made) (o : Option Effect) (done : Done) (ms : List Message) → o ≡ Some (effect_of made done) → ms ≡ done.told → ((x : Effect) → o ≡ Some x → EffectFits p x) → All (λ (m : TaskName × Told). ToldFits p m.1) (map message_of ms)
told_fits p made o done ms is same all =
    subst (λ (l : List Message). All (λ (m : TaskName × Told). ToldFits p m.1) (map message_of l)) (sym same) (all (effect_of made done) is).told

pub procs_explain : (p : Program) (o : Option Effect) (f : Effect) → o ≡ Some f → 4294967295 < length f.shared.procs → ((x : Effect) → o ≡ Some x → EffectFits p x) → ⊥
procs_explain p o f is many all =
    let few : length f.shared.procs < 2 ^ 32 = (all f is).procs in
    omega (arith, many, few)

pub effect_explains : (p : Program) (e : Unmade) (s : Shared) (t : TaskName) (pick : ℕ) (act : Act) → Explains e ((f : Effect) → performs s t act pick ≡ Some f → EffectFits p f) → Explains e (ActFits p s t pick act)
effect_explains p e s t pick act h =
    explains e ((f : Effect) → performs s t act pick ≡ Some f → EffectFits p f) (ActFits p s t pick act) (λ (a : ActFits p s t pick act). a.effect) h

pub not_sized : (p : Program) (s : Shared) (t : TaskName) (pick : ℕ) (act : Act) → (IsTrue false ↔ IsSized act) → ActFits p s t pick act → ⊥
not_sized p s t pick act n a =
    let no : false ≡ true = n.1 a.sized in
    cc

pub no_room : (p : Program) (s : Shared) (t : TaskName) (pick : ℕ) (act : Act) → (IsTrue false ↔ Fits s t act) → ActFits p s t pick act → ⊥
no_room p s t pick act n a =
    let no : false ≡ true = n.1 a.fits in
    cc

pub ruleset acts_explain = (effect_explains, not_sized, no_room)

pub ask_explains : (p : Program) (e : Unmade) (w : World (source p)) (t : TaskName) (pick : ℕ) → Explains e (HeldFits p (w.tasks t) (w.privates t.proc)) → Explains e (TaskFits p w t pick)
ask_explains p e w t pick h =
    explains e (HeldFits p (w.tasks t) (w.privates t.proc)) (TaskFits p w t pick) (λ (f : TaskFits p w t pick). f.ask) h

pub act_fits : (p : Program) (w : World (source p)) (t : TaskName) (pick : ℕ) (a : Asked Control (List ℕ)) → Some a ≡ asked_by p (w.tasks t) (w.privates t.proc) → TaskFits p w t pick → ActFits p w.shared t pick a.act
act_fits p w t pick a is fits = fits.act a (sym is)

pub ruleset tasks_explain = (ask_explains)

pub entry_explains : (p : Program) (e : Unmade) (w : World (source p)) (t : TaskName) (entry : Entry) → Some t ≡ task_of w.shared w.shared.over entry.proc → Explains e (TaskFits p w t entry.pick) → Explains e (EntryFits p w entry)
entry_explains p e w t entry is h =
    explains e (TaskFits p w t entry.pick) (EntryFits p w entry) (λ (f : EntryFits p w entry). f t (sym is)) h

pub ruleset entries_explain = (entry_explains)

-- ---- what an entry comes to

pub some_asked : (o : Option Asking) (a : Asking) (q : Option (Asked Control (List ℕ))) → o ≡ Some a → option_map asked_of o ≡ q → Some (asked_of a) ≡ q
some_asked o a q some is = ap (option_map asked_of) (sym some) ∙ is

pub none_asked : (o : Option Asking) (q : Option (Asked Control (List ℕ))) → o ≡ None → option_map asked_of o ≡ q → q ≡ None
none_asked o q none is = sym is ∙ ap (option_map asked_of) none

module _ (p : Program) (w : World (source p)) (t : TaskName) where
  abbrev asks : (pick : ℕ) → Option (Asked Control (List ℕ)) → Option (World (source p))
  asks pick o = option_and_then (λ (a : Asked Control (List ℕ)). step_asked (source p) w t pick a) o

  -- a task that asks nothing
  pub none_steps : (pick : ℕ) → asked_by p (w.tasks t) (w.privates t.proc) ≡ None → step_held (source p) w t pick (w.tasks t) ≡ None
  none_steps pick none = held_asks p w t pick (w.tasks t) ∙ ap (asks pick) none

  -- a task that asks this
  pub some_steps : (pick : ℕ) (a : Asked Control (List ℕ)) → Some a ≡ asked_by p (w.tasks t) (w.privates t.proc) → step_held (source p) w t pick (w.tasks t) ≡ step_asked (source p) w t pick a
  some_steps pick a some = held_asks p w t pick (w.tasks t) ∙ ap (asks pick) (sym some)

module _ (p : Program) (w : World (source p)) (e : Entry) where
  abbrev turns : Option TaskName → Option (World (source p))
  turns o = option_and_then (λ (t : TaskName). step_held (source p) w t e.pick (w.tasks t)) o

  -- no turn, and the turn of a task
  pub no_turn : None ≡ task_of w.shared w.shared.over e.proc → step (source p) w e ≡ None
  no_turn none = ap turns (sym none)

  pub turn_of : (t : TaskName) → Some t ≡ task_of w.shared w.shared.over e.proc → step (source p) w e ≡ step_held (source p) w t e.pick (w.tasks t)
  turn_of t some = ap turns (sym some)

pub stepped_by : (s : Source) (e : Entry) (o q : Option (World (source s.program.now))) (r : Stepped) → o ≡ q → IsSteppedBy s e q r → IsSteppedBy s e o r
stepped_by s e o q r same h = subst (λ (x : Option (World (source s.program.now))). IsSteppedBy s e x r) (sym same) h
