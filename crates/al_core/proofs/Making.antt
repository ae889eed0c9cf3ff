-- An entry of what a task asked that came back.
use Rattle.std.proofs.Common.{◌≡◌, ℕ, ◌+◌, ◌^◌, ◌<◌, List, [], ◌∷◌, ◌++◌, length, Option, Some, None, option_map, option_and_then, refl, sym, ap, ap₂, ◌∙◌, subst}
use Rattle.std.specs.Prelude.{IsSome, slice_set}
use Rattle.al_base.specs.declared.over.Over.{Over}
use Rattle.al_event.specs.declared.entry.Entry.{Entry}
use Rattle.rv_isa.specs.declared.image.Contents.{Contents}
use Rattle.al_world.specs.Procs.{first_ready}
use Rattle.al_world.specs.Control.{Asked, Kind}
use Rattle.al_world.specs.World.{TaskName, Goes, World}
use Rattle.al_world.specs.Actions.{performs}
use Rattle.al_world.specs.Step.{step, step_held, task_of, after, over_or, line_of}
use Rattle.rv_exec.specs.declared.run.Asked.{Asked as AskedFields}
use Rattle.rv_exec.specs.Hart.{Hart}
use Rattle.rv_exec.specs.Calls.{Privates}
use Rattle.rv_exec.specs.Machine.{machine, line_of as line_at}
use Rattle.rv_exec.specs.Shown.{hart_of as machine_of, asked_of}
use Rattle.al_core.specs.declared.order.Stop.{Stop}
use Rattle.al_core.specs.Opening.{main_of}
use Rattle.al_core.specs.History.{History, run_of, with_entry, settled}
use Rattle.al_core.specs.Lends.{IsAsked}
use Rattle.al_core.specs.Asks.{IsStart}
use Rattle.al_core.specs.Acting.{Machinery, Posed, IsDone, end_of}
use Rattle.al_core.specs.Preparing.{IsHomed, NeedsPick, over_from, over_of, with_home}
use Rattle.al_core.specs.Stands.{Parts, Stands, task_at}
use Rattle.al_core.proofs.Lawful.{run_with}
use Rattle.al_core.proofs.Main.{main_is}
use Rattle.al_core.proofs.Posing.{AsksNext}
use Rattle.al_core.proofs.Waiting.{next, slot, machinery, posed, at_slot, was_away, home_there, ready, entries}
use Rattle.al_core.proofs.Entry.{runs_after}
use Rattle.al_core.proofs.Afterwards.{stands_after}

-- no step where the action is not permitted
no_step : (K : Kind) (w : World K) (e : Entry) (t : TaskName) (c : K.Control) → w.shared.over ≡ None → first_ready w.shared.procs e.proc ≡ Some t → w.tasks t ≡ Goes c → performs w.shared t (K.ask c (w.privates t.proc)).act e.pick ≡ None → step K w e ≡ None
no_step K w e t c live first goes does =
    ap (λ (o : Option Over). option_and_then (λ (t : TaskName). step_held K w t e.pick (w.tasks t)) (task_of w.shared o e.proc)) live ∙ ap (option_and_then (λ (t : TaskName). step_held K w t e.pick (w.tasks t))) first ∙ ap (step_held K w t e.pick) goes ∙ ap (option_map (after K w t (K.ask c (w.privates t.proc)))) does

-- what was done by an image is done by an equal one
pub does_at : (asked : AskedFields) (before left : Machinery) (pick : ℕ) (stop : Option Stop) (image image' : Contents) → image' ≡ image → ((k : ℕ) → first_ready before.table.procs asked.held.proc ≡ Some k → (P : Posed image' k asked.act (with_home asked.held before)) → IsDone image' k asked.act (with_home asked.held before) P pick (over_of P stop) left) → (k : ℕ) → first_ready before.table.procs asked.held.proc ≡ Some k → (P : Posed image k asked.act (with_home asked.held before)) → IsDone image k asked.act (with_home asked.held before) P pick (over_of P stop) left
does_at asked before left pick stop image image' e f =
    subst (λ (i : Contents). (k : ℕ) → first_ready before.table.procs asked.held.proc ≡ Some k → (P : Posed i k asked.act (with_home asked.held before)) → IsDone i k asked.act (with_home asked.held before) P pick (over_of P stop) left) e f

module _ (h : History) (x : Parts) (s : Stands h x) (worker : ℕ) (asked : AskedFields) (a : IsAsked h worker asked) (live : s.world.shared.over ≡ None) where
  abbrev p : ℕ
  p = asked.held.proc

  abbrev pub start : IsStart h.image (main_of h.image)
  start = main_is h.image s.limited.image

  -- the parts before it
  abbrev pub before : Machinery
  before = record { store = x.store; book = x.book; table = x.table; output = x.output }

  pub homed : IsHomed h.image asked before
  homed = record {
    slot = slot h x s worker asked a live start;
    first = (at_slot h x s worker asked a live start).first;
    away = was_away h x s worker asked a live start;
    home = home_there h x s worker asked a live start;
    posed = posed h x s worker asked a live start;
  }

  -- it is not permitted
  module _ (maker pick : ℕ) where
    abbrev e : Entry
    e = record { proc = p; pick = pick; worker = maker }

    pub no_run : NeedsPick asked.act pick before → run_of (with_entry e h) ≡ None
    unfolding posed
    no_run needs =
        run_with h e s.world s.runs ∙ no_step (machine h.image) s.world e n.task n.control live n.first n.goes does
      where
        n : AsksNext (machine h.image) s.world p (asked_of h.image asked)
        n = next h x s worker asked a live start

        none : performs s.world.shared (task_at (s.tasks live).name (slot h x s worker asked a live start)) asked.act pick ≡ None
        none = needs.none h.image (slot h x s worker asked a live start) (machinery h x s worker asked a live start).table (posed h x s worker asked a live start)

        asks : (machine h.image).ask n.control (s.world.privates n.task.proc) ≡ asked_of h.image asked
        asks = ap (λ q. (machine h.image).ask n.control (s.world.privates q)) (ready h x s worker asked a live start).0 ∙ n.asks

        does : performs s.world.shared n.task ((machine h.image).ask n.control (s.world.privates n.task.proc)).act pick ≡ None
        does =
            ap (λ (b : Asked Hart Privates). performs s.world.shared n.task b.act pick) asks ∙ ap (λ (k : TaskName). performs s.world.shared k asked.act pick) (sym (at_slot h x s worker asked a live start).is) ∙ none

    -- it was made
    module _ (small : asked.work < 2 ^ 64) (stop : Option Stop) (left : Machinery) (D : IsDone h.image (slot h x s worker asked a live start) asked.act (machinery h x s worker asked a live start) (posed h x s worker asked a live start) pick (over_of (posed h x s worker asked a live start) stop) left) where
      abbrev over : Option Over
      over = over_from p (length h.entries) stop

      same_over : over_of (posed h x s worker asked a live start) stop ≡ over
      unfolding posed
      same_over =
          ap₂ (λ q k. over_from q k stop) (ap (λ (t : TaskName). t.proc) (at_slot h x s worker asked a live start).is ∙ (ready h x s worker asked a live start).0) (entries h x s worker asked a live start)

      pub made_runs : IsSome (run_of (with_entry e h))
      made_runs = rw (runs_after h x s worker asked a live start maker pick (over_of (posed h x s worker asked a live start) stop) left D) refl

      pub made_stands : Stands (settled worker (with_entry e h)) (record {
        store = left.store;
        book = left.book;
        table = left.table;
        output = left.output;
        over = over_or over (end_of left.table.procs);
        line = line_of over (line_at h.image (machine_of asked.held.hart).pc);
        work = x.work + asked.work;
      })
      made_stands =
          subst (λ (o : Option Over). Stands (settled worker (with_entry e h)) (record {
            store = left.store;
            book = left.book;
            table = left.table;
            output = left.output;
            over = over_or o (end_of left.table.procs);
            line = line_of o (line_at h.image (machine_of asked.held.hart).pc);
            work = x.work + asked.work;
          })) same_over (stands_after h x s worker asked a live start maker pick small (over_of (posed h x s worker asked a live start) stop) left D)

    -- by what the machinery does
    module _ (small : asked.work < 2 ^ 64) (stop : Option Stop) (left : Machinery) (does : (k : ℕ) → first_ready before.table.procs p ≡ Some k → (P : Posed h.image k asked.act (with_home asked.held before)) → IsDone h.image k asked.act (with_home asked.held before) P pick (over_of P stop) left) where
      done_at : IsDone h.image (slot h x s worker asked a live start) asked.act (machinery h x s worker asked a live start) (posed h x s worker asked a live start) pick (over_of (posed h x s worker asked a live start) stop) left
      done_at = does (slot h x s worker asked a live start) (at_slot h x s worker asked a live start).first (posed h x s worker asked a live start)

      pub runs_so : IsSome (run_of (with_entry e h))
      runs_so = made_runs small stop left done_at

      abbrev over_2 : Option Over
      over_2 = over_from p (length h.entries) stop

      pub stands_so : (entries' : List Entry) (over' : Option Over) (line' work' k : ℕ) → entries' ≡ h.entries ++ e ∷ [] → over' ≡ over_or over_2 (end_of left.table.procs) → line' ≡ line_of over_2 (line_at h.image (machine_of asked.held.hart).pc) → work' ≡ x.work + asked.work → k ≡ worker → Stands (record h { entries = entries'; loans = slice_set h.loans k None }) (record { store = left.store; book = left.book; table = left.table; output = left.output; over = over'; line = line'; work = work' })
      stands_so entries' over' line' work' k ee eo el ew ek =
          subst (λ es. Stands (record h { entries = es; loans = slice_set h.loans k None }) (record { store = left.store; book = left.book; table = left.table; output = left.output; over = over'; line = line'; work = work' })) (sym ee)
          (subst (λ (o : Option Over). Stands (record h { entries = h.entries ++ e ∷ []; loans = slice_set h.loans k None }) (record { store = left.store; book = left.book; table = left.table; output = left.output; over = o; line = line'; work = work' })) (sym eo)
          (subst (λ l. Stands (record h { entries = h.entries ++ e ∷ []; loans = slice_set h.loans k None }) (record { store = left.store; book = left.book; table = left.table; output = left.output; over = over_or over_2 (end_of left.table.procs); line = l; work = work' })) (sym el)
          (subst (λ n. Stands (record h { entries = h.entries ++ e ∷ []; loans = slice_set h.loans k None }) (record { store = left.store; book = left.book; table = left.table; output = left.output; over = over_or over_2 (end_of left.table.procs); line = line_of over_2 (line_at h.image (machine_of asked.held.hart).pc); work = n })) (sym ew)
          (subst (λ j. Stands (record h { entries = h.entries ++ e ∷ []; loans = slice_set h.loans j None }) (record { store = left.store; book = left.book; table = left.table; output = left.output; over = over_or over_2 (end_of left.table.procs); line = line_of over_2 (line_at h.image (machine_of asked.held.hart).pc); work = x.work + asked.work })) (sym ek)
          (made_stands small stop left done_at)))))
