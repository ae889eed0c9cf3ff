-- A par: a proc for each branch, for which the task waits that asked.
use Rattle.std.proofs.Common.{◌≡◌, ℕ, zero, suc, ◌+◌, ◌<◌, ◌≤◌, List, [], ◌∷◌, ◌++◌, length, drop, Some, None, refl, sym, ap, ap₂, ◌∙◌, subst, true, false, cond, arith, le_refl, append-nil, append_assoc, length-append}
use Rattle.std.specs.Prelude.{slice_set}
use Rattle.std.proofs.lemmas.Option.{same_Some}
use Rattle.al_event.specs.declared.act.Start.{Start}
use Rattle.al_event.specs.declared.act.Act.TheVariants.{Par}
use Rattle.rv_isa.specs.declared.image.Contents.{Contents}
use Rattle.al_world.specs.Channels.{Book, changed_at}
use Rattle.al_world.specs.Procs.{ProcState, leaves_ready, new_proc, is_full}
use Rattle.al_world.specs.Renamed.{renamed_proc}
use Rattle.al_world.specs.World.{TaskName, TalkName, Held, Absent, Begins, told, told_one, at_task, at_proc}
use Rattle.al_world.specs.Actions.{trapped, first_task, begins_from, procs_from, counts_from, starts_par}
use Rattle.al_base.specs.declared.trap.Trap.TheVariants.{Tasks}
use Rattle.al_world.proofs.Maps.{at_task_cases, at_proc_cases}
use Rattle.al_world.proofs.Sound.{length-changed}
use Rattle.rv_exec.specs.Hart.{Hart}
use Rattle.rv_exec.specs.Calls.{Privates}
use Rattle.rv_exec.specs.Machine.{machine}
use Rattle.task_book.specs.Table.{Table, lives, home_of, is_away}
use Rattle.al_core.specs.Stands.{task_at, IsNamed, AreHere}
use Rattle.al_core.specs.Acting.{Machinery, Posed, IsDone, BeginBranches}
use Rattle.al_core.proofs.Moving.{leaves_named, away-changed}
use Rattle.al_core.proofs.Beginning.{Began, proc_begins, length-map, first_within}
use Rattle.al_core.proofs.Branching.{n, asking, slot_lives, home_is, full_same, absent_asking, length-set, away-more}

-- all branches began
pub record AllBegan (image : Contents) (tb : Book TalkName) (tp : List (ProcState TaskName)) (st : ℕ → ℕ) (T : TaskName → Held Hart) (U : ℕ → Privates) (name : ℕ → TalkName) (book : Book ℕ) (s after : Table) : Type 0 where
  pub began : Began image tb tp st T U name book s after
  pub away : (q : ℕ) → is_away after q ≡ is_away s q
  pub places : length after.privates ≡ length after.procs
  pub slots : length after.tasks ≡ length s.tasks

module _ (image : Contents) (slot : ℕ) (tb : Book TalkName) (book : Book ℕ) (U : ℕ → Privates) where
  one_more : {X : Type 0} (xs : List X) (x : X) → length (xs ++ x ∷ []) ≡ length xs + 1
  one_more xs x = length-append xs (x ∷ [])

  all_begin : (starts : List Start) (tp : List (ProcState TaskName)) (st : ℕ → ℕ) (T : TaskName → Held Hart) (name : ℕ → TalkName) (s after : Table) → IsNamed tb tp st name book s → AreHere image T U name s → lives s slot ≡ true → length s.privates ≡ length s.procs → ((q : ℕ) → length tp ≤ q → st q ≡ 0) → ((q : ℕ) → length tp ≤ q → U q ≡ (machine image).fresh) → ((t : TaskName) → st t.proc ≤ t.number → T t ≡ Absent) → BeginBranches image slot starts s after → AllBegan image tb (tp ++ procs_from (Some (task_at name slot)) (length tp) starts) (counts_from (length tp) starts st) (told (machine image) (begins_from (length tp) starts) T) U name book s after
  all_begin [] tp st T name s after N H l room unstarted fresh absent is =
      subst (λ (after : Table). AllBegan image tb (tp ++ []) st T U name book s after) (sym is)
      (record {
        began = record { name_after = name; named = subst (λ l. IsNamed tb l st name book s) (sym (append-nil tp)) N; here = H; same = λ u l. refl; still = λ u l. l; homes = λ u l. refl };
        away = λ q. refl;
        places = room;
        slots = refl;
      })
  all_begin (start ∷ starts) tp st T name s after N H l room unstarted fresh absent b =
      convert (all_begin starts tp_1 st_1 T_1 one.name_after b.0 after one.named one.here (one.still slot l) room_1 unstarted_1 fresh_1 absent_1 b.2)
    where
      tp_1 : List (ProcState TaskName)
      tp_1 = tp ++ new_proc (Some (task_at name slot)) (first_task (length tp)) ∷ []

      st_1 : ℕ → ℕ
      st_1 = at_proc (length tp) 1 st

      T_1 : TaskName → Held Hart
      T_1 = at_task (first_task (length tp)) (told_one (machine image) (Begins start) (T (first_task (length tp)))) T

      one : Began image tb tp_1 st_1 T_1 U name book s b.0
      one = proc_begins N H start (Some slot) b.1.hart b.1.privates b.0 b.1.hart_is b.1.bytes_are b.1.zeros (λ u e. subst (λ u. lives s u ≡ true) (same_Some slot u e) l) room unstarted (fresh (length tp) (le_refl _)) b.1.begins (absent (first_task (length tp)) (let none = unstarted (length tp) (le_refl _) in omega (arith, none)))

      count : length tp_1 ≡ length tp + 1
      count = one_more tp (new_proc (Some (task_at name slot)) (first_task (length tp)))

      room_1 : length b.0.privates ≡ length b.0.procs
      room_1 = ap (λ (t : Table). length t.privates) b.1.begins.table ∙ one_more s.privates (Some b.1.privates) ∙ ap (λ k. k + 1) room ∙ sym (one_more s.procs (new_proc (Some slot) b.1.begins.slot)) ∙ sym (ap (λ (t : Table). length t.procs) b.1.begins.table)

      unstarted_1 : (q : ℕ) → length tp_1 ≤ q → st_1 q ≡ 0
      unstarted_1 q le = at_proc_cases (λ y. y ≡ 0) (length tp) q 1 st (λ e. absurd (omega (arith, count, le, e))) (λ _. unstarted q (omega (arith, count, le)))

      fresh_1 : (q : ℕ) → length tp_1 ≤ q → U q ≡ (machine image).fresh
      fresh_1 q le = fresh q (omega (arith, count, le))

      fewer : (q : ℕ) → st q ≤ st_1 q
      fewer q = at_proc_cases (λ y. st q ≤ y) (length tp) q 1 st (λ e. let none = unstarted q (subst (λ x. length tp ≤ x) (sym e) (le_refl _)) in omega (arith, none)) (λ _. omega arith)

      absent_1 : (t : TaskName) → st_1 t.proc ≤ t.number → T_1 t ≡ Absent
      absent_1 t le =
          at_task_cases (λ y. y ≡ Absent) (first_task (length tp)) t _ T (λ e. absurd (not_first t e le)) (λ _. absent t (let f = fewer t.proc in omega (arith, f, le)))
        where
          not_first : (t : TaskName) → t ≡ first_task (length tp) → st_1 t.proc ≤ t.number → ⊥
          not_first t e le =
              let one_is : st_1 (length tp) ≡ 1 = at_proc_cases (λ y. y ≡ 1) (length tp) (length tp) 1 st (λ _. refl) (λ ne. absurd (ne refl)) in
              let le_too : st_1 (length tp) ≤ 0 = subst (λ (t : TaskName). st_1 t.proc ≤ t.number) e le in
              omega (arith, one_is, le_too)

      convert : AllBegan image tb (tp_1 ++ procs_from (Some (task_at one.name_after slot)) (length tp_1) starts) (counts_from (length tp_1) starts st_1) (told (machine image) (begins_from (length tp_1) starts) T_1) U one.name_after book b.0 after → AllBegan image tb (tp ++ procs_from (Some (task_at name slot)) (length tp) (start ∷ starts)) (counts_from (length tp) (start ∷ starts) st) (told (machine image) (begins_from (length tp) (start ∷ starts)) T) U name book s after
      convert x = record {
        began = record {
          name_after = x.began.name_after;
          named = subst (λ (k : List (ProcState TaskName)). IsNamed tb k (counts_from (length tp + 1) starts st_1) x.began.name_after book after) procs_are (subst (λ k. IsNamed tb (tp_1 ++ procs_from (Some (task_at one.name_after slot)) (length tp_1) starts) (counts_from k starts st_1) x.began.name_after book after) count x.began.named);
          here = subst (λ k. AreHere image (told (machine image) (begins_from k starts) T_1) U x.began.name_after after) count x.began.here;
          same = λ u l. x.began.same u (one.still u l) ∙ one.same u l;
          still = λ u l. x.began.still u (one.still u l);
          homes = λ u l. x.began.homes u (one.still u l) ∙ one.homes u l;
        };
        away = λ q. x.away q ∙ ap (λ (t : Table). is_away t q) b.1.begins.table ∙ away-more s (new_proc (Some slot) b.1.begins.slot) b.1.privates (slice_set s.tasks b.1.begins.slot (Some (record { home = length s.procs; hart = Some b.1.hart }))) room q;
        places = x.places;
        slots = x.slots ∙ ap (λ (t : Table). length t.tasks) b.1.begins.table ∙ length-set s.tasks b.1.begins.slot (Some (record { home = length s.procs; hart = Some b.1.hart }));
      }
        where
          procs_are : tp_1 ++ procs_from (Some (task_at one.name_after slot)) (length tp_1) starts ≡ tp ++ procs_from (Some (task_at name slot)) (length tp) (start ∷ starts)
          procs_are =
              ap₂ (λ (k : TaskName) i. tp_1 ++ procs_from (Some k) i starts) (one.same slot l) count ∙ append_assoc tp (new_proc (Some (task_at name slot)) (first_task (length tp)) ∷ []) (procs_from (Some (task_at name slot)) (length tp + 1) starts)

changed_left : {X : Type 0} (k : ℕ) (f : X → X) (xs ys : List X) → k < length xs → changed_at k f (xs ++ ys) ≡ changed_at k f xs ++ ys
changed_left k f [] ys lt = absurd (omega (arith, lt))
changed_left zero f (x ∷ xs) ys lt = refl
changed_left (suc k) f (x ∷ xs) ys lt = ap (λ l. x ∷ l) (changed_left k f xs ys (omega (arith, lt)))

module _ {image : Contents} {slot : ℕ} {starts : List Start} {m : Machinery} (P : Posed image slot (Par starts) m) (between : Table) (fine : is_full m.table.procs (length starts) ≡ false) (begin : BeginBranches image slot starts m.table between) where
  all : AllBegan image P.shared.book (P.shared.procs ++ procs_from (Some (n P)) (length P.shared.procs) starts) (counts_from (length P.shared.procs) starts P.shared.started) (told (machine image) (begins_from (length P.shared.procs) starts) (asking P)) P.privates P.name m.book.book m.table between
  all =
      all_begin image slot P.shared.book m.book.book P.privates starts P.shared.procs P.shared.started (asking P) P.name m.table between P.named P.here (slot_lives P) P.procs_room P.sound.unstarted P.fresh (absent_asking P) begin

  home_same : home_of between slot ≡ (n P).proc
  home_same = all.began.homes slot (slot_lives P) ∙ sym (home_is P)

  within : (n P).proc < length P.shared.procs
  within =
      let lt = first_within m.table.procs (home_of m.table slot) slot P.first in
      let h = home_is P in
      let c : length P.shared.procs ≡ length m.table.procs = ap length (sym P.named.procs_is) ∙ length-map (renamed_proc (task_at P.name)) m.table.procs in
      omega (arith, lt, h, c)

  left_procs : leaves_ready (home_of between slot) (P.shared.procs ++ procs_from (Some (n P)) (length P.shared.procs) starts) ≡ leaves_ready (n P).proc P.shared.procs ++ procs_from (Some (n P)) (length (leaves_ready (n P).proc P.shared.procs)) starts
  left_procs =
      ap (λ p. leaves_ready p (P.shared.procs ++ procs_from (Some (n P)) (length P.shared.procs) starts)) home_same
      ∙ changed_left (n P).proc (λ (q : ProcState TaskName). record q { ready = drop 1 q.ready }) P.shared.procs (procs_from (Some (n P)) (length P.shared.procs) starts) within
      ∙ ap (λ k. leaves_ready (n P).proc P.shared.procs ++ procs_from (Some (n P)) k starts) (sym (length-changed (n P).proc (λ (q : ProcState TaskName). record q { ready = drop 1 q.ready }) P.shared.procs))

  pub done_par : IsDone image slot (Par starts) m P 0 None (record { store = m.store; book = m.book; table = record between { procs = leaves_ready (home_of between slot) between.procs }; output = m.output ++ [] })
  done_par = record {
    effect = starts_par P.shared (n P) starts;
    performs_so = ap (λ b. Some (cond b (trapped P.shared (n P) Tasks) (starts_par P.shared (n P) starts))) (full_same P (length starts) ∙ fine);
    over_is = sym P.not_over;
    name = all.began.name_after;
    named = subst (λ k. IsNamed P.shared.book (leaves_ready (n P).proc P.shared.procs ++ procs_from (Some (n P)) (length (leaves_ready (n P).proc P.shared.procs)) starts) (counts_from k starts P.shared.started) all.began.name_after m.book.book (record between { procs = leaves_ready (home_of between slot) between.procs })) (sym (length-changed (n P).proc (λ (q : ProcState TaskName). record q { ready = drop 1 q.ready }) P.shared.procs)) (subst (λ (l : List (ProcState TaskName)). IsNamed P.shared.book l (counts_from (length P.shared.procs) starts P.shared.started) all.began.name_after m.book.book (record between { procs = leaves_ready (home_of between slot) between.procs })) left_procs (leaves_named all.began.named (home_of between slot) (all.away (home_of between slot) ∙ ap (is_away m.table) (all.began.homes slot (slot_lives P)) ∙ P.home)));
    here = record { harts = all.began.here.harts; privates_are = all.began.here.privates_are; bytes = all.began.here.bytes };
    away = λ q. away-changed between (home_of between slot) (λ (q : ProcState ℕ). record q { ready = drop 1 q.ready }) (λ r. refl) q ∙ all.away q;
    store_is = P.store_is;
    shown = [];
    output = refl;
    output_is = sym (append-nil P.shared.output);
    book_room = P.book_room;
    tasks_room = all.slots ∙ P.tasks_room;
    procs_room = all.places ∙ sym (length-changed (home_of between slot) (λ (q : ProcState ℕ). record q { ready = drop 1 q.ready }) between.procs);
  }
