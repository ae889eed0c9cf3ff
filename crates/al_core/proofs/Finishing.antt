-- A task that ends.
use Rattle.std.proofs.Common.{◌≡◌, ◌≢◌, ℕ, zero, suc, ◌<◌, List, [], ◌∷◌, ◌++◌, length, Option, Some, None, option_map, option_and_then, refl, sym, ap, ap₂, ◌∙◌, subst, true, false, Bool, cond, ◌==◌, ◌&&◌, ◌⊎◌, inl, inr, append-nil}
use Rattle.std.specs.Prelude.{slice_get, slice_set, nat_eq, nat_lt, is_some, is_none}
use Rattle.std.proofs.lemmas.Option.{slice_get_within}
use Rattle.std.proofs.lemmas.Bool.Decides.{eqb_tells}
use Rattle.al_event.specs.declared.act.Act.TheVariants.{End, Par}
use Rattle.rv_isa.specs.declared.image.Contents.{Contents}
use Rattle.al_world.specs.Procs.{ProcState, Ended, first_ready, ends}
use Rattle.al_world.specs.World.{TaskName, same_task, Waits, Answered, told, told_one, at_task}
use Rattle.al_world.specs.Actions.{ends_task, join_told}
use Rattle.al_world.specs.Renamed.{renamed_ended}
use Rattle.al_world.proofs.Maps.{at_task_cases}
use Rattle.al_world.specs.Sound.{IsJoining}
use Rattle.al_world.proofs.Sound.{length-changed}
use Rattle.rv_exec.specs.declared.run.Privates.{Privates as PrivatesFields}
use Rattle.rv_exec.specs.Machine.{machine}
use Rattle.task_book.specs.Table.{Table, TaskState, at, lives, home_of, live_of, is_away}
use Rattle.task_book.specs.Lending.{re_harted, TakesAnswer}
use Rattle.al_core.specs.Stands.{task_at, IsNamed, AreHere}
use Rattle.al_core.specs.Acting.{Machinery, Posed, IsDone}
use Rattle.al_core.proofs.Tables.{at-set-other}
use Rattle.al_core.proofs.Naming.{AllIn}
use Rattle.al_core.proofs.Holding.{answered}
use Rattle.al_core.proofs.Starting.{ended_named, ended_here}
use Rattle.al_core.proofs.Branching.{n, asking, slot_lives, length-set, privates_here, and_false}
use Rattle.al_core.proofs.Ending.{Remains, proc_ok, ends_named, all_ended}
use Rattle.al_core.proofs.Ends.{EndKeeps, end_keeps, none_waits}

not_set : {X : Type 0} (xs : List (Option X)) (k : ℕ) (y : X) → at (slice_set xs k None) k ≡ Some y → ⊥
not_set [] k y e = absurd (cc)
not_set (z ∷ zs) zero y e = absurd (cc)
not_set (z ∷ zs) (suc k) y e = not_set zs k y e

live_slot : (table : Table) (t : ℕ) → lives table t ≡ true → t < length table.tasks
live_slot table t l = on (slice_get table.tasks t) refl l
  where
    on : (o : Option (Option TaskState)) → slice_get table.tasks t ≡ o → is_some (option_and_then (λ o. o) o) ≡ true → t < length table.tasks
    on None g e = absurd (cc)
    on (Some x) g e = slice_get_within table.tasks t x g

module _ {image : Contents} {slot : ℕ} {m : Machinery} (P : Posed image slot End m) (procs : List (ProcState ℕ)) (privates : List (Option PrivatesFields)) (over : Bool) (woke : Option ℕ)
    (is : ends nat_eq (home_of m.table) m.table.procs (home_of m.table slot) ≡ record { procs = procs; proc_ended = over; woke = woke })
    (privates_are : privates ≡ cond over (slice_set m.table.privates (home_of m.table slot) None) m.table.privates) where
  abbrev p : ℕ
  p = home_of m.table slot

  -- the table after the end
  abbrev pub left : Table
  left = record { procs = procs; tasks = slice_set m.table.tasks slot None; privates = privates }

  pub keeps : EndKeeps (home_of m.table) p m.table.procs (record { procs = procs; proc_ended = over; woke = woke })
  keeps = subst (EndKeeps (home_of m.table) p m.table.procs) is (end_keeps (home_of m.table) p m.table.procs)

  remain : AllIn (Remains P) procs
  remain = subst (λ (e : Ended ℕ). AllIn (Remains P) e.procs) is (all_ended P)

  same_end : ends same_task (λ (u : TaskName). u.proc) P.shared.procs (n P).proc ≡ renamed_ended (task_at P.name) (record { procs = procs; proc_ended = over; woke = woke })
  same_end = ends_named P ∙ ap (renamed_ended (task_at P.name)) is

  -- private globals of other procs
  others_same : (q : ℕ) → q ≢ p → at privates q ≡ at m.table.privates q
  others_same q ne = ap (λ (l : List (Option PrivatesFields)). at l q) privates_are ∙ on over
    where
      on : (b : Bool) → at (cond b (slice_set m.table.privates p None) m.table.privates) q ≡ at m.table.privates q
      on true = at-set-other m.table.privates p q None ne
      on false = refl

  were_there : (q : ℕ) (v : PrivatesFields) → at privates q ≡ Some v → at m.table.privates q ≡ Some v
  were_there q v e = on over (ap (λ (l : List (Option PrivatesFields)). at l q) (sym privates_are) ∙ e)
    where
      on : (b : Bool) → at (cond b (slice_set m.table.privates p None) m.table.privates) q ≡ Some v → at m.table.privates q ≡ Some v
      on false e = e
      on true e = of (eqb_tells q p)
        where
          of : ((q == p ≡ true) × (q ≡ p)) ⊎ ((q == p ≡ false) × (q ≢ p)) → at m.table.privates q ≡ Some v
          of (inl y) = absurd (not_set m.table.privates p v (subst (λ q. at (slice_set m.table.privates p None) q ≡ Some v) y.1 e))
          of (inr y) = sym (at-set-other m.table.privates p q None y.1) ∙ e

  out : (q u : ℕ) → u ≢ slot → (is_away m.table q ≡ true) × (first_ready m.table.procs q ≡ Some u) → (is_away (record { procs = procs; tasks = m.table.tasks; privates = privates }) q ≡ true) × (first_ready procs q ≡ Some u)
  out q u other x =
      let ne : q ≢ p = λ e. let c = sym P.home ∙ ap (is_away m.table) (sym e) ∙ x.0 in cc in
      (ap₂ (λ k (v : Option PrivatesFields). nat_lt 0 k && is_none v) (keeps.others.live q ne) (others_same q ne) ∙ x.0, keeps.others.first q u ne x.1)

  within : slot < length m.table.tasks
  within = live_slot m.table slot (slot_lives P)

  named_left : IsNamed P.shared.book (ends same_task (λ (u : TaskName). u.proc) P.shared.procs (n P).proc).procs P.shared.started P.name m.book.book left
  named_left =
      ended_named P.named slot procs privates (ends same_task (λ (u : TaskName). u.proc) P.shared.procs (n P).proc).procs within (sym (ap (λ (e : Ended TaskName). e.procs) same_end)) remain (none_waits P) out

  here_left : AreHere image (asking P) P.privates P.name left
  here_left =
      ended_here P.named slot procs privates (ends same_task (λ (u : TaskName). u.proc) P.shared.procs (n P).proc).procs within (sym (ap (λ (e : Ended TaskName). e.procs) same_end)) remain (none_waits P) out image (asking P) P.privates
      (record { harts = P.here.harts; privates_are = λ q v e. P.here.privates_are q v (were_there q v e); bytes = λ q v e. P.here.bytes q v (were_there q v e) })

  away_left : (q : ℕ) → is_away left q ≡ is_away m.table q
  away_left q = on (eqb_tells q p)
    where
      mine : (b : Bool) → over ≡ b → is_away left p ≡ false
      mine true e = ap (λ k. nat_lt 0 k && is_none (at privates p)) (keeps.over e)
      mine false e =
          and_false (nat_lt 0 (live_of left p)) (is_none (at privates p)) (ap (λ (l : List (Option PrivatesFields)). is_none (at l p)) (privates_are ∙ ap (λ b. cond b (slice_set m.table.privates p None) m.table.privates) e) ∙ privates_here m.table p P.home P.alive)

      on : ((q == p ≡ true) × (q ≡ p)) ⊎ ((q == p ≡ false) × (q ≢ p)) → is_away left q ≡ is_away m.table q
      on (inl e) = subst (λ q. is_away left q ≡ is_away m.table q) (sym e.1) (mine over refl ∙ sym P.home)
      on (inr e) = ap₂ (λ k (v : Option PrivatesFields). nat_lt 0 k && is_none v) (keeps.others.live q e.1) (others_same q e.1)

  -- no task goes on by it
  pub done_end : woke ≡ None → length privates ≡ length procs → IsDone image slot End m P 0 None (record { store = m.store; book = m.book; table = left; output = m.output ++ [] })
  done_end none rooms = record {
    effect = ends_task P.shared (n P);
    performs_so = refl;
    over_is = sym P.not_over;
    name = P.name;
    named = named_left;
    here = subst (λ (o : Option TaskName). AreHere image (told (machine image) (join_told o) (asking P)) P.privates P.name left) (sym (ap (λ (e : Ended TaskName). e.woke) same_end ∙ ap (option_map (task_at P.name)) none)) here_left;
    away = away_left;
    store_is = P.store_is;
    shown = [];
    output = refl;
    output_is = sym (append-nil P.shared.output);
    book_room = P.book_room;
    tasks_room = length-set m.table.tasks slot None ∙ P.tasks_room;
    procs_room = rooms;
  }

  -- the task that waited goes on
  module _ (u : ℕ) (some : woke ≡ Some u) (after : Table) (takes : TakesAnswer left u [] after) where
    joining : IsJoining (P.tasks (task_at P.name u))
    joining = let w = keeps.woke u some in (proc_ok P p w.0 w.1).parent (task_at P.name u) (ap (option_map (task_at P.name)) w.2)

    waits : asking P (task_at P.name u) ≡ Waits (Par joining.starts) joining.control
    waits =
        at_task_cases (λ y. y ≡ Waits (Par joining.starts) joining.control) (n P) (task_at P.name u) _ P.tasks (λ e. let i = joining.is in let g = P.going.is in let c = sym g ∙ ap P.tasks (sym e) ∙ i in absurd (cc)) (λ _. joining.is)

    both : IsNamed P.shared.book (ends same_task (λ (u : TaskName). u.proc) P.shared.procs (n P).proc).procs P.shared.started P.name m.book.book after × AreHere image (at_task (task_at P.name u) (told_one (machine image) (Answered []) (asking P (task_at P.name u))) (asking P)) P.privates P.name after
    both = answered named_left {T = asking P} here_left u (Par joining.starts) joining.control [] after waits refl takes

    pub done_end_woke : length privates ≡ length procs → IsDone image slot End m P 0 None (record { store = m.store; book = m.book; table = after; output = m.output ++ [] })
    done_end_woke rooms = record {
      effect = ends_task P.shared (n P);
      performs_so = refl;
      over_is = sym P.not_over;
      name = P.name;
      named = both.0;
      here = subst (λ (o : Option TaskName). AreHere image (told (machine image) (join_told o) (asking P)) P.privates P.name after) (sym (ap (λ (e : Ended TaskName). e.woke) same_end ∙ ap (option_map (task_at P.name)) some)) both.1;
      away = λ q. ap (λ (t : Table). is_away t q) takes.table ∙ away_left q;
      store_is = P.store_is;
      shown = [];
      output = refl;
      output_is = sym (append-nil P.shared.output);
      book_room = P.book_room;
      tasks_room = ap (λ (t : Table). length t.tasks) takes.table ∙ length-changed u (re_harted (Some takes.hart)) left.tasks ∙ length-set m.table.tasks slot None ∙ P.tasks_room;
      procs_room = subst (λ (t : Table). length t.privates ≡ length t.procs) (sym takes.table) rooms;
    }
