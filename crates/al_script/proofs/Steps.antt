-- Entries of a world in lists.
use Rattle.std.proofs.Common.{ℕ, ◌≡◌, List, map, true, false, IsTrue, ◌↔◌, Option, Some, option_map, sym, ap, subst, ◌∙◌}
use Rattle.al_event.specs.declared.act.Act.{Act}
use Rattle.al_world.specs.World as world
use Rattle.al_world.specs.World.{TaskName, Shared, at_task, told}
use Rattle.al_world.specs.Control.{Asked}
use Rattle.al_world.specs.Actions.{performs}
use Rattle.al_world.specs.Step.{counted, after, step_held}
use Rattle.al_script.specs.declared.script.Instruction.{Instruction}
use Rattle.al_script.specs.declared.script.Control.{Control}
use Rattle.al_script.specs.declared.world.Held.{Held}
use Rattle.al_script.specs.declared.world.Change.{Change}
use Rattle.al_script.specs.declared.world.World.{World}
use Rattle.al_script.specs.declared.tells.Effect.{Effect}
use Rattle.al_script.specs.Scripts.{scripts, act_of, line_in}
use Rattle.al_script.specs.Worlds.{shared_of, held_of, held_at, tasks_of, world_of, message_of, effect_of, Fits}
use Rattle.al_script.proofs.Tasks.{held_is}

module _ (functions : List (List Instruction)) where
  -- a task as it is held
  pub held_now : (w : World) (task : TaskName) (held : Held) → held ≡ held_at w.tasks task → tasks_of functions w.tasks task ≡ held_of functions held
  held_now w task held e = held_is functions w.tasks task ∙ ap (λ (h : Held). held_of functions h) (sym e)

  pub held_from : (w : World) (task : TaskName) (tasks : List Change) (a b : Held) → a ≡ b → a ≡ held_at tasks task → tasks ≡ w.tasks → b ≡ held_at w.tasks task
  held_from w task tasks a b same e is = sym same ∙ (e ∙ ap (λ (l : List Change). held_at l task) is)

  abbrev pub steps : World → TaskName → ℕ → world.Held Control → Option (world.World (scripts functions))
  steps w task pick h = step_held (scripts functions) (world_of functions w) task pick h

  -- an entry goes by what the task is held as
  pub steps_held : (w : World) (task : TaskName) (pick : ℕ) (held : Held) → held ≡ held_at w.tasks task → steps w task pick (tasks_of functions w.tasks task) ≡ steps w task pick (held_of functions held)
  steps_held w task pick held e = ap (λ (h : world.Held Control). steps w task pick h) (held_now w task held e)

  pub steps_goes : (w : World) (task : TaskName) (pick : ℕ) (c : Control) (o : Option (world.World (scripts functions))) → tasks_of functions w.tasks task ≡ world.Goes c → o ≡ steps w task pick (world.Goes c) → steps w task pick (tasks_of functions w.tasks task) ≡ o
  steps_goes w task pick c o g e = ap (λ (h : world.Held Control). steps w task pick h) g ∙ sym e

  pub steps_to : (w : World) (task : TaskName) (pick : ℕ) (c : Control) (r o : Option World) → tasks_of functions w.tasks task ≡ world.Goes c → r ≡ o → option_map (world_of functions) r ≡ steps w task pick (world.Goes c) → steps w task pick (tasks_of functions w.tasks task) ≡ option_map (world_of functions) o
  steps_to w task pick c r o g same e =
      steps_goes w task pick c _ g (ap (λ (x : Option World). option_map (world_of functions) x) (sym same) ∙ e)

  pub no_room : (s : Shared) (t : TaskName) (a b : Act) → a ≡ b → (IsTrue false ↔ Fits s t a) → ¬ Fits s t b
  no_room s t a b e n h =
      let f : Fits s t a = subst (λ (x : Act). Fits s t x) (sym e) h in
      let no : false ≡ true = n.1 f in
      cc

  pub performed : (w : World) (task : TaskName) (pick : ℕ) (act : Act) (r : Option Effect) (e : Effect) → r ≡ Some e → option_map (effect_of w.made) r ≡ performs (shared_of w.made w.state) task act pick → Some (effect_of w.made e) ≡ performs (shared_of w.made w.state) task act pick
  performed w task pick act r e same p = ap (λ (x : Option Effect). option_map (effect_of w.made) x) (sym same) ∙ p

  abbrev asked_by : Control → Asked Control (Unit {0})
  asked_by c = record { act = act_of functions c; line = line_in c; work = 0; control = c; privates = tt }

  abbrev made_of : Shared → (TaskName → world.Held Control) → world.World (scripts functions)
  made_of s tasks = record { shared = s; tasks = tasks; privates = λ _. tt; work = 0 }

  -- the world after an entry is what its parts say
  pub step_is : (w v : World) (task : TaskName) (pick : ℕ) (c : Control) (act : Act) (e : Effect) → act ≡ act_of functions c → Some (effect_of w.made e) ≡ performs (shared_of w.made w.state) task act pick → shared_of v.made v.state ≡ counted task.proc (line_in c) (shared_of w.made e.state) → tasks_of functions v.tasks ≡ told (scripts functions) (map message_of e.told) (at_task task (world.Waits (act_of functions c) c) (tasks_of functions w.tasks)) → Some (world_of functions v) ≡ steps w task pick (world.Goes c)
  step_is w v task pick c act e same p s t =
      ap (λ (x : Shared). Some (made_of x (tasks_of functions v.tasks))) s
      ∙ (ap (λ (x : TaskName → world.Held Control). Some (made_of (counted task.proc (line_in c) (shared_of w.made e.state)) x)) t
      ∙ ap (λ (o : Option world.Effect). option_map (after (scripts functions) (world_of functions w) task (asked_by c)) o) (p ∙ ap (λ (a : Act). performs (shared_of w.made w.state) task a pick) same))
