-- The tasks of a world after an entry are those of the table after the action.
use Rattle.std.proofs.Common.{◌≡◌, ℕ, ◌*◌, ◌^◌, Option, Some, None, option_map, option_and_then, refl, sym, ap, ◌∙◌, subst}
use Rattle.al_base.specs.declared.over.Over.{Over}
use Rattle.al_event.specs.declared.entry.Entry.{Entry}
use Rattle.al_world.specs.Procs.{first_ready}
use Rattle.al_world.specs.Control.{Asked, Kind}
use Rattle.al_world.specs.World.{TaskName, Goes, Waits, World, Effect, at_task, at_proc, told}
use Rattle.al_world.specs.Actions.{performs}
use Rattle.al_world.specs.Step.{step, step_held, task_of, after}
use Rattle.al_world.specs.Laws.{IsGoing}
use Rattle.al_world.proofs.Local.{IsStepBy}
use Rattle.al_world.proofs.Roles.{is_ready_to_go}
use Rattle.rv_exec.specs.declared.run.Asked.{Asked as AskedFields}
use Rattle.rv_exec.specs.Hart.{Hart}
use Rattle.rv_exec.specs.Calls.{Privates}
use Rattle.rv_exec.specs.Machine.{machine}
use Rattle.rv_exec.specs.Shown.{hart_of as machine_of, privates_of, asked_of}
use Rattle.al_core.specs.Opening.{globals_of, main_of}
use Rattle.al_core.specs.History.{History, run_of, with_entry}
use Rattle.al_core.specs.Lends.{IsAsked}
use Rattle.al_core.specs.Asks.{IsStart}
use Rattle.al_core.specs.Acting.{Machinery, IsDone}
use Rattle.al_core.specs.Stands.{Parts, Stands, AreTasks, AreHere, task_at}
use Rattle.al_core.proofs.Lawful.{run_with}
use Rattle.al_core.proofs.OnWay.{tasks_after, privates_after, way_after}
use Rattle.al_core.proofs.Waiting.{at_slot, next, slot, machinery, posed}

-- a step of the task that goes next
step_is : (K : Kind) (w : World K) (e : Entry) (t : TaskName) (c : K.Control) (effect : Effect) → w.shared.over ≡ None → first_ready w.shared.procs e.proc ≡ Some t → w.tasks t ≡ Goes c → performs w.shared t (K.ask c (w.privates t.proc)).act e.pick ≡ Some effect → step K w e ≡ Some (after K w t (K.ask c (w.privates t.proc)) effect)
step_is K w e t c effect live first goes does =
    ap (λ (o : Option Over). option_and_then (λ (t : TaskName). step_held K w t e.pick (w.tasks t)) (task_of w.shared o e.proc)) live ∙ ap (option_and_then (λ (t : TaskName). step_held K w t e.pick (w.tasks t))) first ∙ ap (step_held K w t e.pick) goes ∙ ap (option_map (after K w t (K.ask c (w.privates t.proc)))) does

module _ (h : History) (x : Parts) (s : Stands h x) (worker : ℕ) (asked : AskedFields) (a : IsAsked h worker asked) (live : s.world.shared.over ≡ None) (start : IsStart h.image (main_of h.image)) (maker pick : ℕ) (over : Option Over) (left : Machinery) (D : IsDone h.image (slot h x s worker asked a live start) asked.act (machinery h x s worker asked a live start) (posed h x s worker asked a live start) pick over left) where
  abbrev K : Kind
  K = machine h.image

  abbrev w : World K
  w = s.world

  abbrev p : ℕ
  p = asked.held.proc

  abbrev t : TaskName
  t = (next h x s worker asked a live start).task

  abbrev c : Hart
  c = (next h x s worker asked a live start).control

  abbrev pub entry : Entry
  entry = record { proc = p; pick = pick; worker = maker }

  pub home : t.proc ≡ p
  home =
      (is_ready_to_go K (h.region * 2 ^ 20) (globals_of h.image) (main_of h.image) h.entries w p t s.runs live (next h x s worker asked a live start).first).0

  pub asks : K.ask c (w.privates t.proc) ≡ asked_of h.image asked
  asks = ap (λ q. K.ask c (w.privates q)) home ∙ (next h x s worker asked a live start).asks

  named_so : task_at (s.tasks live).name (slot h x s worker asked a live start) ≡ t
  named_so = (at_slot h x s worker asked a live start).is

  does : performs w.shared t (K.ask c (w.privates t.proc)).act pick ≡ Some D.effect
  unfolding posed
  does =
      ap (λ (b : Asked Hart Privates). performs w.shared t b.act pick) asks ∙ ap (λ (k : TaskName). performs w.shared k asked.act pick) (sym named_so) ∙ D.performs_so

  -- the world after the entry
  abbrev pub world_after : World K
  world_after = after K w t (K.ask c (w.privates t.proc)) D.effect

  pub steps : step K w entry ≡ Some world_after
  steps = step_is K w entry t c D.effect live (next h x s worker asked a live start).first (next h x s worker asked a live start).goes does

  pub runs_after : run_of (with_entry entry h) ≡ Some world_after
  runs_after = run_with h entry w s.runs ∙ steps

  by : IsStepBy K w world_after entry
  by = record {
    task = t;
    first = (next h x s worker asked a live start).first;
    over = live;
    control = c;
    goes_on = (next h x s worker asked a live start).goes;
    effect = D.effect;
    comes = does;
    is = refl;
  }

  going : (q : ℕ) (n : TaskName) → first_ready w.shared.procs q ≡ Some n → (n.proc ≡ q) × IsGoing (w.tasks n)
  going q n f = is_ready_to_go K (h.region * 2 ^ 20) (globals_of h.image) (main_of h.image) h.entries w q n s.runs live f

  -- while it is not over, its tasks are those of the table
  pub tasks_stand : world_after.shared.over ≡ None → AreTasks h.image world_after left.book.book left.table
  unfolding posed by
  tasks_stand still = record {
    name = D.name;
    named = D.named;
    tasks = tasks_after K w world_after entry by (s.tasks live).tasks (s.tasks live).privates (s.tasks live).on_way going homes;
    privates = privates_after K w world_after entry by (s.tasks live).tasks (s.tasks live).privates (s.tasks live).on_way going homes;
    here = here;
    on_way = way_after K w world_after entry by (s.tasks live).tasks (s.tasks live).privates (s.tasks live).on_way going homes;
  }
    where
      homes : (q : ℕ) (n : TaskName) → first_ready world_after.shared.procs q ≡ Some n → n.proc ≡ q
      homes q n f =
          (is_ready_to_go K (h.region * 2 ^ 20) (globals_of h.image) (main_of h.image) (with_entry entry h).entries world_after q n runs_after still f).0

      here : AreHere h.image (told K D.effect.told (at_task t (Waits (K.ask c (w.privates t.proc)).act (K.ask c (w.privates t.proc)).control) (s.tasks live).tasks)) (at_proc t.proc (K.ask c (w.privates t.proc)).privates (s.tasks live).privates) D.name left.table
      here =
          subst (λ (b : Asked Hart Privates). AreHere h.image (told K D.effect.told (at_task t (Waits b.act b.control) (s.tasks live).tasks)) (at_proc t.proc b.privates (s.tasks live).privates) D.name left.table) (sym asks)
          (subst (λ q. AreHere h.image (told K D.effect.told (at_task t (Waits asked.act (machine_of asked.held.hart)) (s.tasks live).tasks)) (at_proc q (privates_of asked.held.privates) (s.tasks live).privates) D.name left.table) (sym home)
          (subst (λ (k : TaskName). AreHere h.image (told K D.effect.told (at_task k (Waits asked.act (machine_of asked.held.hart)) (s.tasks live).tasks)) (at_proc p (privates_of asked.held.privates) (s.tasks live).privates) D.name left.table) named_so
          D.here))
