-- Actions that start tasks and procs.
use Rattle.std.proofs.Common.{◌≡◌, ◌≢◌, ℕ, zero, suc, ◌+◌, ◌<◌, ◌≤◌, List, [], ◌∷◌, ◌++◌, length, Option, Some, None, option_and_then, refl, sym, ap, ap₂, ◌∙◌, subst, true, false, Bool, cond, ◌==◌, ◌&&◌, ◌⊎◌, inl, inr, arith, le_refl, append-nil, length-append}
use Rattle.std.specs.Prelude.{slice_get, slice_set, nat_lt, is_none}
use Rattle.std.specs.Option.{option_map_or}
use Rattle.std.proofs.lemmas.Option.{slice_get_past}
use Rattle.std.proofs.lemmas.Bool.Decides.{eqb_tells, leb_tells}
use Rattle.al_base.specs.declared.over.Over.TheVariants.{Trapped}
use Rattle.al_base.specs.declared.trap.Trap.TheVariants.{Tasks}
use Rattle.al_event.specs.declared.act.Start.{Start}
use Rattle.al_event.specs.declared.act.Act.{Act}
use Rattle.al_event.specs.declared.act.Act.TheVariants.{Proc, Task}
use Rattle.rv_isa.specs.declared.image.Contents.{Contents}
use Rattle.al_world.specs.Procs.{ProcState, starts_in_proc, new_proc, is_full}
use Rattle.al_world.specs.Control.{fitted}
use Rattle.al_world.specs.World.{TaskName, Held, Absent, Waits, Answered, Begins, Effect, at_task, at_proc, told_one}
use Rattle.al_world.specs.Actions.{performs, trapped, unless_full, first_task, starts_proc, next_task, starts_one_task}
use Rattle.al_world.proofs.Maps.{at_task_cases}
use Rattle.al_world.proofs.Sound.{length-changed}
use Rattle.rv_exec.specs.declared.run.Hart.{Hart as HartFields}
use Rattle.rv_exec.specs.declared.run.Privates.{Privates as PrivatesFields}
use Rattle.rv_exec.specs.Hart.{Hart}
use Rattle.rv_exec.specs.Machine.{machine, started}
use Rattle.rv_exec.specs.Shown.{hart_of as machine_of, privates_of, bytes_of}
use Rattle.task_book.specs.Table.{Table, TaskState, at, lives, home_of, live_of, is_away}
use Rattle.task_book.specs.Lending.{re_harted, TakesAnswer}
use Rattle.task_book.specs.Starting.{StartsTask, StartsProc}
use Rattle.al_core.specs.Stands.{task_at, IsNamed, AreHere}
use Rattle.al_core.specs.Acting.{Machinery, Posed, IsDone}
use Rattle.al_core.proofs.Naming.{procs_named, first_lives}
use Rattle.al_core.proofs.Holding.{answered}
use Rattle.al_core.proofs.Beginning.{Began, task_begins, proc_begins, get_append_left, away-other}
use Rattle.al_core.proofs.Acts.{stops, asking_is}

-- ---- small facts

pub length-set : {X : Type 0} (xs : List X) (k : ℕ) (x : X) → length (slice_set xs k x) ≡ length xs
length-set [] k x = refl
length-set (y ∷ ys) zero x = refl
length-set (y ∷ ys) (suc k) x = ap suc (length-set ys k x)

second_false : (a b : Bool) → (a && b) ≡ false → a ≡ true → b ≡ false
second_false true b e t = e
second_false false b e t = absurd (cc)

pub and_false : (a b : Bool) → b ≡ false → (a && b) ≡ false
and_false true b e = e
and_false false b e = refl

some_lt : (n : ℕ) → 0 < n → nat_lt 0 n ≡ true
some_lt n lt = on (leb_tells 1 n)
  where
    on : ((nat_lt 0 n ≡ true) × (1 ≤ n)) ⊎ ((nat_lt 0 n ≡ false) × (n < 1)) → nat_lt 0 n ≡ true
    on (inl y) = y.0
    on (inr y) = let z = y.1 in absurd (omega (arith, z, lt))

get_seam : {X : Type 0} (xs : List X) (x : X) → slice_get (xs ++ x ∷ []) (length xs) ≡ Some x
get_seam [] x = refl
get_seam (y ∷ ys) x = get_seam ys x

-- the private globals of a proc that is not away are here
pub privates_here : (s : Table) (p : ℕ) → is_away s p ≡ false → 0 < live_of s p → is_none (at s.privates p) ≡ false
privates_here s p home alive = second_false (nat_lt 0 (live_of s p)) (is_none (at s.privates p)) home (some_lt (live_of s p) alive)

-- one proc more changes nothing of who is away
pub away-more : (s : Table) (x : ProcState ℕ) (v : PrivatesFields) (tasks : List (Option TaskState)) → length s.privates ≡ length s.procs → (q : ℕ) → is_away (record { procs = s.procs ++ x ∷ []; tasks = tasks; privates = s.privates ++ Some v ∷ [] }) q ≡ is_away s q
away-more s x v tasks room q = on (leb_tells (suc q) (length s.procs))
  where
    none : length s.procs ≤ q → is_away s q ≡ false
    none le = ap (λ (o : Option (ProcState ℕ)). nat_lt 0 (option_map_or (λ (r : ProcState ℕ). r.live) o 0) && is_none (at s.privates q)) (slice_get_past s.procs q le)

    past : q ≢ length s.procs → length s.procs ≤ q → is_away (record { procs = s.procs ++ x ∷ []; tasks = tasks; privates = s.privates ++ Some v ∷ [] }) q ≡ false
    past ne le =
        let n = length-append s.procs (x ∷ []) in
        ap (λ (o : Option (ProcState ℕ)). nat_lt 0 (option_map_or (λ (r : ProcState ℕ). r.live) o 0) && is_none (at (s.privates ++ Some v ∷ []) q)) (slice_get_past (s.procs ++ x ∷ []) q (beyond (omega (arith, n))))
      where
        beyond : length (s.procs ++ x ∷ []) ≡ length s.procs + 1 → length (s.procs ++ x ∷ []) ≤ q
        beyond n = at_least (length s.procs) q n ne le
          where
            at_least : (a b : ℕ) → length (s.procs ++ x ∷ []) ≡ a + 1 → b ≢ a → a ≤ b → length (s.procs ++ x ∷ []) ≤ b
            at_least a b n ne le = pick (leb_tells (suc a) b)
              where
                pick : ((nat_lt a b ≡ true) × (suc a ≤ b)) ⊎ ((nat_lt a b ≡ false) × (b < suc a)) → length (s.procs ++ x ∷ []) ≤ b
                pick (inl y) = let z = y.1 in omega (arith, n, z)
                pick (inr y) = let z = y.1 in absurd (ne (omega (arith, z, le)))

    seam : q ≡ length s.procs → is_away (record { procs = s.procs ++ x ∷ []; tasks = tasks; privates = s.privates ++ Some v ∷ [] }) q ≡ false
    seam e =
        and_false (nat_lt 0 (live_of (record { procs = s.procs ++ x ∷ []; tasks = tasks; privates = s.privates ++ Some v ∷ [] }) q)) _ (ap (λ (o : Option (Option PrivatesFields)). is_none (option_and_then (λ o. o) o)) (ap (slice_get (s.privates ++ Some v ∷ [])) (e ∙ sym room) ∙ get_seam s.privates (Some v)))

    on : ((nat_lt q (length s.procs) ≡ true) × (suc q ≤ length s.procs)) ⊎ ((nat_lt q (length s.procs) ≡ false) × (length s.procs < suc q)) → is_away (record { procs = s.procs ++ x ∷ []; tasks = tasks; privates = s.privates ++ Some v ∷ [] }) q ≡ is_away s q
    on (inl y) =
        let lt = y.1 in
        ap₂ (λ (o : Option (ProcState ℕ)) (p : Option (Option PrivatesFields)). nat_lt 0 (option_map_or (λ (r : ProcState ℕ). r.live) o 0) && is_none (option_and_then (λ p. p) p)) (get_append_left s.procs x q (omega (arith, lt))) (get_append_left s.privates (Some v) q (omega (arith, lt, room)))
    on (inr y) = here (eqb_tells q (length s.procs))
      where
        le : length s.procs ≤ q
        le = let z = y.1 in omega (arith, z)

        here : ((q == length s.procs ≡ true) × (q ≡ length s.procs)) ⊎ ((q == length s.procs ≡ false) × (q ≢ length s.procs)) → is_away (record { procs = s.procs ++ x ∷ []; tasks = tasks; privates = s.privates ++ Some v ∷ [] }) q ≡ is_away s q
        here (inl e) = seam e.1 ∙ sym (none le)
        here (inr e) = past e.1 le ∙ sym (none le)

-- ---- the task that asked

module _ {image : Contents} {slot : ℕ} {act : Act} {m : Machinery} (P : Posed image slot act m) where
  abbrev pub n : TaskName
  n = task_at P.name slot

  abbrev pub asking : TaskName → Held Hart
  asking = at_task n (Waits act P.control) P.tasks

  pub slot_lives : lives m.table slot ≡ true
  slot_lives = first_lives P.named (home_of m.table slot) slot P.first

  pub home_is : n.proc ≡ home_of m.table slot
  home_is = P.named.homes slot slot_lives

  pub full_same : (k : ℕ) → is_full P.shared.procs k ≡ is_full m.table.procs k
  full_same k =
      ap (λ (l : List (ProcState TaskName)). is_full l k) (sym P.named.procs_is) ∙ ap (λ l. nat_lt 1024 (l + k)) ((procs_named P.named).live_same)

  -- a task that was not started is another
  unstarted_other : (k : TaskName) → P.shared.started k.proc ≤ k.number → k ≢ n
  unstarted_other k le e =
      let lt : n.number < P.shared.started n.proc = subst (λ q. n.number < P.shared.started q) (sym home_is) (P.named.were_started slot slot_lives) in
      let le_too : P.shared.started n.proc ≤ n.number = subst (λ (k : TaskName). P.shared.started k.proc ≤ k.number) e le in
      omega (arith, lt, le_too)

  pub absent_asking : (k : TaskName) → P.shared.started k.proc ≤ k.number → asking k ≡ Absent
  absent_asking k le = at_task_cases (λ y. y ≡ Absent) n k _ P.tasks (λ e. absurd (unstarted_other k le e)) (λ _. P.sound.absent k le)

  -- too many tasks
  pub done_full : (k : ℕ) (e : Effect) → performs P.shared n act 0 ≡ Some (unless_full P.shared n k e) → is_full m.table.procs k ≡ true → IsDone image slot act m P 0 (Some (Trapped Tasks n.proc P.shared.entries)) m
  done_full k e does full =
      stops P 0 (Trapped Tasks n.proc P.shared.entries) (does ∙ ap (λ b. Some (cond b (trapped P.shared n Tasks) e)) (full_same k ∙ full))

  abbrev answered_tasks : TaskName → Held Hart
  answered_tasks = at_task n (told_one (machine image) (Answered []) (asking n)) asking

  absent_answered : (k : TaskName) → P.shared.started k.proc ≤ k.number → answered_tasks k ≡ Absent
  absent_answered k le = at_task_cases (λ y. y ≡ Absent) n k _ asking (λ e. absurd (unstarted_other k le e)) (λ _. absent_asking k le)

  own : (table : Table) → fitted act [] ≡ [] → TakesAnswer m.table slot [] table → IsNamed P.shared.book P.shared.procs P.shared.started P.name m.book.book table × AreHere image answered_tasks P.privates P.name table
  own table fits takes = answered P.named {T = asking} P.here slot act P.control [] table (asking_is P) fits takes

-- ---- a task

module _ {image : Contents} {slot : ℕ} {start : Start} {m : Machinery} (P : Posed image slot (Task start) m) (table after : Table) (t : ℕ) (hart : HartFields) (fine : is_full m.table.procs 1 ≡ false) (takes : TakesAnswer m.table slot [] table) (is : machine_of hart ≡ started image start.code start.words) (begins : StartsTask (home_of m.table slot) hart t table after) where
  abbrev p : ℕ
  p = home_of m.table slot

  begun_task : Began image P.shared.book (starts_in_proc (n P).proc (next_task P.shared (n P).proc) P.shared.procs) (at_proc (n P).proc (P.shared.started (n P).proc + 1) P.shared.started) (at_task (next_task P.shared (n P).proc) (told_one (machine image) (Begins start) (answered_tasks P (next_task P.shared (n P).proc))) (answered_tasks P)) P.privates P.name m.book.book table after
  begun_task =
      let o = own P table refl takes in
      subst (λ q. Began image P.shared.book (starts_in_proc q (next_task P.shared q) P.shared.procs) (at_proc q (P.shared.started q + 1) P.shared.started) (at_task (next_task P.shared q) (told_one (machine image) (Begins start) (answered_tasks P (next_task P.shared q))) (answered_tasks P)) P.privates P.name m.book.book table after) (sym (home_is P))
      (task_begins {T = answered_tasks P} o.0 o.1 start p t hart after is (ap (λ (t : Table). is_away t p) takes.table ∙ P.home) begins (absent_answered P (next_task P.shared p) (le_refl _)))

  task_away : (q : ℕ) → is_away after q ≡ is_away m.table q
  task_away q = ap (λ (t : Table). is_away t q) begins.table ∙ on (eqb_tells q p) ∙ ap (λ (t : Table). is_away t q) takes.table
    where
      f : ProcState ℕ → ProcState ℕ
      f q = record q { ready = q.ready ++ t ∷ []; live = q.live + 1 }

      here : is_none (at table.privates p) ≡ false
      here = ap (λ (t : Table). is_none (at t.privates p)) takes.table ∙ privates_here m.table p P.home P.alive

      on : ((q == p ≡ true) × (q ≡ p)) ⊎ ((q == p ≡ false) × (q ≢ p)) → is_away (record table { procs = starts_in_proc p t table.procs; tasks = slice_set table.tasks t (Some (record { home = p; hart = Some hart })) }) q ≡ is_away table q
      on (inl e) =
          subst (λ q. is_away (record table { procs = starts_in_proc p t table.procs; tasks = slice_set table.tasks t (Some (record { home = p; hart = Some hart })) }) q ≡ is_away table q) (sym e.1)
          (and_false _ _ here ∙ sym (and_false (nat_lt 0 (live_of table p)) _ here))
      on (inr e) = away-other table p q (λ (q : ProcState ℕ). record q { ready = q.ready ++ t ∷ []; live = q.live + 1 }) e.1

  pub done_task : IsDone image slot (Task start) m P 0 None (record { store = m.store; book = m.book; table = after; output = m.output ++ [] })
  done_task = record {
    effect = starts_one_task P.shared (n P) start;
    performs_so = ap (λ b. Some (cond b (trapped P.shared (n P) Tasks) (starts_one_task P.shared (n P) start))) (full_same P 1 ∙ fine);
    over_is = sym P.not_over;
    name = begun_task.name_after;
    named = begun_task.named;
    here = begun_task.here;
    away = task_away;
    store_is = P.store_is;
    shown = [];
    output = refl;
    output_is = sym (append-nil P.shared.output);
    book_room = P.book_room;
    tasks_room = ap (λ (t : Table). length t.tasks) begins.table ∙ length-set table.tasks t _ ∙ ap (λ (t : Table). length t.tasks) takes.table ∙ length-changed slot (re_harted (Some takes.hart)) m.table.tasks ∙ P.tasks_room;
    procs_room = ap (λ (t : Table). length t.privates) begins.table ∙ subst (λ (t : Table). length t.privates ≡ length t.procs) (sym takes.table) P.procs_room ∙ sym (length-changed p (λ (q : ProcState ℕ). record q { ready = q.ready ++ t ∷ []; live = q.live + 1 }) table.procs) ∙ sym (ap (λ (t : Table). length t.procs) begins.table);
  }

-- ---- a proc

module _ {image : Contents} {slot : ℕ} {start : Start} {m : Machinery} (P : Posed image slot (Proc start) m) (table after : Table) (hart : HartFields) (privates : PrivatesFields) (fine : is_full m.table.procs 1 ≡ false) (takes : TakesAnswer m.table slot [] table) (is : machine_of hart ≡ started image start.code start.words) (bytes_are : bytes_of privates ≡ image.privates) (zeros : (k : ℕ) → privates_of privates k ≡ 0) (begins : StartsProc None hart privates (length table.procs) table after) where
  room : length table.privates ≡ length table.procs
  room = subst (λ (t : Table). length t.privates ≡ length t.procs) (sym takes.table) P.procs_room

  begun_proc : Began image P.shared.book (P.shared.procs ++ new_proc None (first_task (length P.shared.procs)) ∷ []) (at_proc (length P.shared.procs) 1 P.shared.started) (at_task (first_task (length P.shared.procs)) (told_one (machine image) (Begins start) (answered_tasks P (first_task (length P.shared.procs)))) (answered_tasks P)) P.privates P.name m.book.book table after
  begun_proc =
      let o = own P table refl takes in
      let none : P.shared.started (length P.shared.procs) ≡ 0 = P.sound.unstarted (length P.shared.procs) (le_refl _) in
      proc_begins {T = answered_tasks P} o.0 o.1 start None hart privates after is bytes_are zeros (λ u e. absurd (cc)) room P.sound.unstarted (P.fresh (length P.shared.procs) (le_refl _)) begins (absent_answered P (first_task (length P.shared.procs)) (omega (arith, none)))

  pub done_proc : IsDone image slot (Proc start) m P 0 None (record { store = m.store; book = m.book; table = after; output = m.output ++ [] })
  done_proc = record {
    effect = starts_proc P.shared (n P) start;
    performs_so = ap (λ b. Some (cond b (trapped P.shared (n P) Tasks) (starts_proc P.shared (n P) start))) (full_same P 1 ∙ fine);
    over_is = sym P.not_over;
    name = begun_proc.name_after;
    named = begun_proc.named;
    here = begun_proc.here;
    away = λ q. ap (λ (t : Table). is_away t q) begins.table ∙ away-more table (new_proc None begins.slot) privates (slice_set table.tasks begins.slot (Some (record { home = length table.procs; hart = Some hart }))) room q ∙ ap (λ (t : Table). is_away t q) takes.table;
    store_is = P.store_is;
    shown = [];
    output = refl;
    output_is = sym (append-nil P.shared.output);
    book_room = P.book_room;
    tasks_room = ap (λ (t : Table). length t.tasks) begins.table ∙ length-set table.tasks begins.slot _ ∙ ap (λ (t : Table). length t.tasks) takes.table ∙ length-changed slot (re_harted (Some takes.hart)) m.table.tasks ∙ P.tasks_room;
    procs_room = ap (λ (t : Table). length t.privates) begins.table ∙ one_more table.privates (Some privates) ∙ ap (λ k. k + 1) room ∙ sym (one_more table.procs (new_proc None begins.slot)) ∙ sym (ap (λ (t : Table). length t.procs) begins.table);
  }
    where
      one_more : {X : Type 0} (xs : List X) (x : X) → length (xs ++ x ∷ []) ≡ length xs + 1
      one_more xs x = length-append xs (x ∷ [])
