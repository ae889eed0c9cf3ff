-- One entry of a schedule, a run along a whole one, and how it ends.
use Rattle.std.specs.Prelude.{ℕ, ◌+◌, if◌then◌else◌, ◌==◌, List, [], ◌∷◌, length, Option, Some, None, option_map, option_and_then}
use Rattle.std.specs.List.{list_any}
use Rattle.al_base.specs.declared.trap.Trap.TheVariants.{Memory}
use Rattle.al_base.specs.declared.over.Over.{Over}
use Rattle.al_base.specs.declared.over.Over.TheVariants.{Done, Trapped, Blocked}
use Rattle.al_event.specs.declared.act.Block.TheVariants.{Global}
use Rattle.al_event.specs.declared.act.Start.{Start}
use Rattle.al_event.specs.declared.entry.Entry.{Entry}
use Rattle.al_event.specs.Store.{Live, new_place, spans_of, with_block}
use Rattle.al_world.specs.Procs.{ProcState, first_ready, has_ready, live_tasks, new_proc}
use Rattle.al_world.specs.Control.{Asked, Kind}
use Rattle.al_world.specs.World.{TaskName, Shared, Held, Absent, Goes, Waits, World, Effect, at_task, at_proc, told}
use Rattle.al_world.specs.Actions.{first_task, performs}

-- ---- the end

-- how a world is over that neither trapped nor was terminated: every task has ended, or none of those that live is ready
abbrev pub end_by_lists : List (ProcState TaskName) → Option Over
end_by_lists procs =
    if list_any has_ready procs then None
    else (if live_tasks procs == 0 then Some Done else Some Blocked)

abbrev pub over_or : Option Over → Option Over → Option Over
over_or None o = o
over_or (Some over) _ = Some over

-- the line of an action that trapped, else 0
abbrev pub line_of : Option Over → ℕ → ℕ
line_of (Some (Trapped _ _ _)) line = line
line_of _ line = 0

-- an entry of proc p is made, by an action in this line
abbrev pub counted : ℕ → ℕ → Shared → Shared
counted p line s = record s {
  entries = s.entries + 1;
  entries_of = at_proc p (s.entries_of p + 1) s.entries_of;
  over = over_or s.over (end_by_lists s.procs);
  line = line_of s.over line;
}

-- ---- the first world

-- the blocks of globals and strings, in their order, each at the least place for it; none where one has no place
abbrev pub with_globals : ℕ → List (List ℕ) → List Live → Option (List Live)
with_globals region [] store = Some store
with_globals region (bytes ∷ rest) store =
    option_and_then (λ at. with_globals region rest (with_block (record { at = at; kind = Global; bytes = bytes }) store)) (new_place region (spans_of store) (length bytes))

-- proc 0 with one task, over a store or as it is over
abbrev pub opening_shared : ℕ → List Live → Option Over → Shared
opening_shared region store over = record {
  region = region;
  store = store;
  book = record { channels = []; waiting = [] };
  procs = new_proc None (first_task 0) ∷ [];
  started = at_proc 0 1 (λ _. 0);
  entries_of = λ _. 0;
  entries = 0;
  output = [];
  went = [];
  over = over;
  line = 0;
}

-- where the globals do not fit the region, the world is over before its first entry, with an empty store
abbrev pub opening_with : ℕ → Option (List Live) → Shared
opening_with region None = opening_shared region [] (Some (Trapped Memory 0 0))
opening_with region (Some store) = opening_shared region store None

-- ---- an entry and a run

-- the task whose turn it is by an entry of proc p: the first of its ready list, unless the world is over
abbrev pub task_of : Shared → Option Over → ℕ → Option TaskName
task_of s (Some _) p = None
task_of s None p = first_ready s.procs p

module _ (K : Kind) where
  -- a world after an entry of task t that asked this and had this effect
  abbrev pub after : World K → TaskName → Asked K.Control K.Privates → Effect → World K
  after w t a e = record {
    shared = counted t.proc a.line e.shared;
    tasks = told K e.told (at_task t (Waits a.act a.control) w.tasks);
    privates = at_proc t.proc a.privates w.privates;
    work = w.work + a.work;
  }

  abbrev pub step_asked : World K → TaskName → ℕ → Asked K.Control K.Privates → Option (World K)
  step_asked w t pick a = option_map (after w t a) (performs w.shared t a.act pick)

  abbrev pub step_held : World K → TaskName → ℕ → Held K.Control → Option (World K)
  step_held w t pick (Goes c) = step_asked w t pick (K.ask c (w.privates t.proc))
  step_held w t pick _ = None

  -- the world after an entry; none where the entry is not permitted
  abbrev pub step : World K → Entry → Option (World K)
  step w e = option_and_then (λ (t : TaskName). step_held w t e.pick (w.tasks t)) (task_of w.shared w.shared.over e.proc)

  -- the world after the entries of a schedule; none where one of them is not permitted
  abbrev pub run : List Entry → Option (World K) → Option (World K)
  run [] o = o
  run (e ∷ es) o = run es (option_and_then (λ w. step w e) o)

  -- the first world: one task in proc 0, over the blocks of these globals in a region of so many bytes
  abbrev pub opening : ℕ → List (List ℕ) → Start → World K
  opening region globals start = record {
    shared = opening_with region (with_globals region globals []);
    tasks = at_task (first_task 0) (Goes (K.start start)) (λ _. Absent);
    privates = λ _. K.fresh;
    work = 0;
  }

  -- the run along a schedule from the first world
  abbrev pub run_from : ℕ → List (List ℕ) → Start → List Entry → Option (World K)
  run_from region globals start h = run h (Some (opening region globals start))

  -- how the world is over, or none
  abbrev pub end_of : World K → Option Over
  end_of w = w.shared.over

  -- what all can see after a schedule, or none where an entry is not permitted
  abbrev pub seen : World K → List Entry → Option Shared
  seen w h = option_map (λ (v : World K). v.shared) (run h (Some w))
