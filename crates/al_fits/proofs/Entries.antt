-- An entry of a run fits.
use Rattle.std.proofs.Common.{◌≡◌, ℕ, ◌≤◌, List, Some, None, refl, subst, arith}
use Rattle.std.specs.Prelude.{◌^◌}
use Rattle.al_event.specs.declared.act.Act.{Act}
use Rattle.al_event.specs.declared.entry.Entry.{Entry}
use Rattle.al_world.specs.Control.{Asked}
use Rattle.al_world.specs.World.{Absent, Answered, Begins, Goes, Held, Shared, TaskName, Told, Waits, World}
use Rattle.al_world.specs.Step.{task_of}
use Rattle.al_typed.specs.declared.program.Program.{Program}
use Rattle.al_typed.specs.Measures.{IsWithin}
use Rattle.al_typed.specs.Sound.{HasSoundTypes}
use Rattle.al_meaning.specs.Items.{Control}
use Rattle.al_meaning.specs.Meaning.{ask, run, source}
use Rattle.al_step.specs.Sources.{ActFits, EntryFits, HeldFits, ToldFits, asked_by}
use Rattle.al_fits.specs.Controls.{ActIs, HasRoom}
use Rattle.al_fits.specs.Laws.{HasFew}
use Rattle.al_fits.proofs.Keeping.{ask_keeps}
use Rattle.al_fits.proofs.Opened.{room_of}
use Rattle.al_fits.proofs.Rooms.{asks_fit, begin_fits}
use Rattle.al_fits.proofs.Runs.{HeldIs, run_held}

told_fits : (p : Program) → HasSoundTypes p → (m : Told) → ToldFits p m
told_fits p W (Answered words) = tt
told_fits p W (Begins start) = begin_fits p W start.code

held_fits : (p : Program) → HasSoundTypes p → HasRoom p → (h : Held Control) (u : List ℕ) → HeldIs p h → HeldFits p h u
held_fits p W R (Goes c) u k = asks_fit p W R c u k
held_fits p W R Absent u k = tt
held_fits p W R (Waits a c) u k = tt

-- what a task asks
asked_is : (p : Program) → HasSoundTypes p → HasRoom p → (h : Held Control) (u : List ℕ) (a : Asked Control (List ℕ)) → HeldIs p h → asked_by p h u ≡ Some a → ActIs a.act
asked_is p W R (Goes c) u a k e =
    let same : ask p c u ≡ a = cc in
    subst (λ (a : Asked Control (List ℕ)). ActIs a.act) same (ask_keeps p W R c u k).0
asked_is p W R Absent u a k e = absurd (cc)
asked_is p W R (Waits b c) u a k e = absurd (cc)

act_fits : (p : Program) → HasSoundTypes p → (s : Shared) (t : TaskName) (pick : ℕ) (act : Act) → ActIs act → HasFew s t pick → ActFits p s t pick act
act_fits p W s t pick act A few = record {
  sized = A.0;
  fits = record {
    entries = few.entries;
    own_entries = few.own_entries;
    tasks = few.tasks;
    procs = few.procs;
    channels = few.channels;
    branches = omega (arith, A.1);
  };
  effect = λ e is. record {
    procs = few.more_procs act e is;
    told = λ k d lt. told_fits p W _;
  };
}

not_over : (s : Shared) (n : ℕ) (t : TaskName) → task_of s s.over n ≡ Some t → s.over ≡ None
not_over s n t e = on s.over refl e
  where
    on : (o : _) → s.over ≡ o → task_of s o n ≡ Some t → s.over ≡ None
    on None is e = is
    on (Some x) is e = absurd (cc)

pub entry_fits : (p : Program) (region : ℕ) (h : List Entry) (w : World (source p)) (e : Entry) → HasSoundTypes p → IsWithin p → region ≤ 2 ^ 28
    → run p region h ≡ Some w → ((t : TaskName) → task_of w.shared w.shared.over e.proc ≡ Some t → HasFew w.shared t e.pick) → EntryFits p w e
entry_fits p region h w e W M le is few t turn =
    let R : HasRoom p = room_of p W M region h w le is (not_over w.shared e.proc t turn) in
    let held : HeldIs p (w.tasks t) = run_held p W R region h w is t in
    record {
      ask = held_fits p W R (w.tasks t) (w.privates t.proc) held;
      act = λ a asked. act_fits p W w.shared t e.pick a.act (asked_is p W R (w.tasks t) (w.privates t.proc) a held asked) (few t turn);
    }
