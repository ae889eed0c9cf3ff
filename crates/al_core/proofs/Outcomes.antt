-- What each action with more than an answer comes to, over the parts as the calls leave them.
use Rattle.std.proofs.Common.{◌≡◌, ◌≢◌, ℕ, ◌-◌, ◌<◌, List, [], ◌∷◌, ◌++◌, length, drop, Option, Some, None, option_map, refl, sym, ap, ap₂, ◌∙◌, subst, true, false, Bool, cond, ◌==◌, arith}
use Rattle.std.specs.Prelude.{slice_get, slice_set, nat_eq, IsSomeAnd}
use Rattle.al_event.specs.declared.act.Branch.{Branch}
use Rattle.al_event.specs.declared.act.Start.{Start}
use Rattle.al_event.specs.declared.act.Act.TheVariants.{Talk, Task, Proc, Par, End}
use Rattle.rv_isa.specs.declared.image.Contents.{Contents}
use Rattle.al_world.specs.Channels.{Book, Pair, has_bad, ready, is_some_ready}
use Rattle.al_world.specs.Talks.{Fired, blocks, fires}
use Rattle.al_world.specs.Procs.{ProcState, Ended, ends, ends_proc, joins, leaves_ready, joins_ready, loses_first, without_parent, has_branches, is_full}
use Rattle.al_world.proofs.Sound.{length-changed}
use Rattle.rv_exec.specs.declared.run.Hart.{Hart as HartFields}
use Rattle.rv_exec.specs.Shown.{CanTake}
use Rattle.chan_book.specs.Book.{Bounded}
use Rattle.alt_select.specs.Answer.{IsFired, woken_of}
use Rattle.alt_select.specs.declared.answer.Fired.{Fired as FiredFields}
use Rattle.alt_select.specs.declared.answer.Woke.{Woke}
use Rattle.task_book.specs.Table.{Table, home_of, hart_of, lives, ready_of}
use Rattle.task_book.specs.Queues.{has}
use Rattle.task_book.specs.Lending.{TakesAnswer}
use Rattle.task_book.specs.Starting.{StartsTask, StartsProc}
use Rattle.al_core.specs.declared.order.Begun.{Begun}
use Rattle.al_core.specs.Stands.{task_at}
use Rattle.al_core.specs.Acting.{Machinery, Posed, IsDone}
use Rattle.al_core.specs.Preparing.{IsStarted, IsBegun, AreBegun, StartsAll}
use Rattle.al_core.proofs.Talking.{done_block, done_alone, done_both}
use Rattle.al_core.proofs.Branching.{done_task, done_proc, length-set}
use Rattle.al_core.proofs.Par.{done_par}
use Rattle.al_core.proofs.Finishing.{done_end, done_end_woke, keeps}
use Rattle.al_core.proofs.Prepared.{silent}
use Rattle.al_core.proofs.Parting.{begin_all, same_count}
use Rattle.al_core.proofs.Tables.{hart-filled-other}
use Rattle.al_core.proofs.Requiring.{other_is, other_takes, proc_named, own_few, own_answer, their_few, their_answer, wake_lives, wake_blocked, wake_alone}
use Rattle.al_world.specs.Sound.{IsJoining}

none_ready : {X : Type 0} (l : List (Pair X)) → l ≡ [] → is_some_ready l ≡ false
none_ready l e = ap is_some_ready e

pub some_is_ready : {X : Type 0} (l : List (Pair X)) (k : ℕ) → k < length l → is_some_ready l ≡ true
some_is_ready [] k lt = absurd (omega (arith, lt))
some_is_ready (p ∷ ps) k lt = refl

-- ---- talks

module _ {image : Contents} {slot : ℕ} {branches : List Branch} {m : Machinery} (P : Posed image slot (Talk branches) m) where
  pub wait_done : (book : Bounded) (table : Table) → has_bad m.book.book branches ≡ false → ready m.book.book branches ≡ [] → book ≡ record m.book { book = blocks m.book.book slot branches } → table ≡ record m.table { procs = leaves_ready (home_of m.table slot) m.table.procs } → IsDone image slot (Talk branches) m P 0 None (record { store = m.store; book = book; table = table; output = m.output })
  wait_done book table fine none book_is table_is =
      subst (λ (b : Bounded). IsDone image slot (Talk branches) m P 0 None (record { store = m.store; book = b; table = table; output = m.output })) (sym book_is)
      (subst (λ (t : Table). IsDone image slot (Talk branches) m P 0 None (record { store = m.store; book = record m.book { book = blocks m.book.book slot branches }; table = t; output = m.output })) (sym table_is)
      (silent P 0 None m.store (record m.book { book = blocks m.book.book slot branches }) (record m.table { procs = leaves_ready (home_of m.table slot) m.table.procs }) (done_block P fine (none_ready (ready m.book.book branches) none))))

  -- the answer of a talk that went
  module _ (pick : ℕ) (book : Bounded) (fired : FiredFields) (fine : has_bad m.book.book branches ≡ false) (lt : pick < length (ready m.book.book branches)) (is : IsFired (fires nat_eq m.book.book slot branches pick) book.book fired) (room : book.room ≡ m.book.room) (table : Table) (takes : TakesAnswer m.table slot (fired.branch ∷ fired.got) table) where
    abbrev f : Fired ℕ
    f = is.outcome

    takes_so : TakesAnswer m.table slot (f.branch ∷ f.words) table
    takes_so = subst (λ b. TakesAnswer m.table slot (b ∷ f.words) table) (sym is.branch) (subst (λ ws. TakesAnswer m.table slot (fired.branch ∷ ws) table) (sym is.words) takes)

    book_so : record { room = m.book.room; book = f.book } ≡ book
    book_so = ap₂ (λ r (b : Book ℕ). record { room = r; book = b }) (sym room) is.book

    pub alone_done : fired.woke ≡ None → IsDone image slot (Talk branches) m P pick None (record { store = m.store; book = book; table = table; output = m.output })
    alone_done none =
        subst (λ (b : Bounded). IsDone image slot (Talk branches) m P pick None (record { store = m.store; book = b; table = table; output = m.output })) book_so
        (silent P pick None m.store (record { room = m.book.room; book = f.book }) table (done_alone P pick f fine (some_is_ready (ready m.book.book branches) pick lt) is.is table takes_so (is.woke ∙ ap (option_map woken_of) none)))

    module _ (w : Woke) (some : fired.woke ≡ Some w) (between after : Table) (takes_too : TakesAnswer table w.task (w.branch ∷ w.got) between) (woken : after ≡ record between { procs = joins_ready (home_of between w.task) w.task between.procs }) where
      pub both_done : IsDone image slot (Talk branches) m P pick None (record { store = m.store; book = book; table = after; output = m.output })
      both_done =
          subst (λ (b : Bounded). IsDone image slot (Talk branches) m P pick None (record { store = m.store; book = b; table = after; output = m.output })) book_so
          (subst (λ (t : Table). IsDone image slot (Talk branches) m P pick None (record { store = m.store; book = record { room = m.book.room; book = f.book }; table = t; output = m.output })) (sym woken)
          (silent P pick None m.store (record { room = m.book.room; book = f.book }) (record between { procs = joins_ready (home_of between w.task) w.task between.procs }) (done_both P pick f fine (some_is_ready (ready m.book.book branches) pick lt) is.is table takes_so (woken_of w) (is.woke ∙ ap (option_map woken_of) some) between takes_too)))

-- ---- what starts

pub task_done : {image : Contents} {slot : ℕ} {start : Start} {m : Machinery} (P : Posed image slot (Task start) m) (table after : Table) (t : ℕ) (hart : HartFields) → is_full m.table.procs 1 ≡ false → TakesAnswer m.table slot [] table → IsStarted image start hart → StartsTask (home_of m.table slot) hart t table after → IsDone image slot (Task start) m P 0 None (record { store = m.store; book = m.book; table = after; output = m.output })
task_done {image} {slot} {start} {m} P table after t hart fine takes is begins =
    silent P 0 None m.store m.book after (done_task P table after t hart fine takes is.is begins)

pub proc_done : {image : Contents} {slot : ℕ} {start : Start} {m : Machinery} (P : Posed image slot (Proc start) m) (table after : Table) (begun : Begun) → is_full m.table.procs 1 ≡ false → TakesAnswer m.table slot [] table → IsBegun image start begun → StartsProc None begun.hart begun.privates (length table.procs) table after → IsDone image slot (Proc start) m P 0 None (record { store = m.store; book = m.book; table = after; output = m.output })
proc_done {image} {slot} {start} {m} P table after begun fine takes is begins =
    silent P 0 None m.store m.book after (done_proc P table after begun.hart begun.privates fine takes is.hart is.bytes is.zeros begins)

pub par_done : {image : Contents} {slot : ℕ} {starts : List Start} {m : Machinery} (P : Posed image slot (Par starts) m) (between after : Table) (all : List Begun) → is_full m.table.procs (length all) ≡ false → AreBegun image starts all → StartsAll slot all m.table between → after ≡ record between { procs = leaves_ready (home_of between slot) between.procs } → IsDone image slot (Par starts) m P 0 None (record { store = m.store; book = m.book; table = after; output = m.output })
par_done {image} {slot} {starts} {m} P between after all fine are begin is =
    subst (λ (t : Table). IsDone image slot (Par starts) m P 0 None (record { store = m.store; book = m.book; table = t; output = m.output })) (sym is)
    (silent P 0 None m.store m.book (record between { procs = leaves_ready (home_of between slot) between.procs }) (done_par P between (ap (is_full m.table.procs) (same_count image starts all are) ∙ fine) (begin_all image slot starts all m.table between are begin)))

-- ---- the end

-- no proc is lost
ends_length : (home : ℕ → ℕ) (p : ℕ) (procs : List (ProcState ℕ)) → length (ends nat_eq home procs p).procs ≡ length procs
ends_length home p procs = on (slice_get lost p)
  where
    lost : List (ProcState ℕ)
    lost = loses_first p procs

    lost_length : length lost ≡ length procs
    lost_length = length-changed p (λ (q : ProcState ℕ). record q { ready = drop 1 q.ready; live = q.live - 1 }) procs

    bare : List (ProcState ℕ)
    bare = without_parent p lost

    bare_length : length bare ≡ length procs
    bare_length = length-changed p (λ (q : ProcState ℕ). record q { parent = None }) lost ∙ lost_length

    by : (b : Bool) (x y : Ended ℕ) → length x.procs ≡ length procs → length y.procs ≡ length procs → length (cond {A = Ended ℕ} b x y).procs ≡ length procs
    by true x y a c = a
    by false x y a c = c

    joined : (o : Option ℕ) → length (joins nat_eq home bare o).procs ≡ length procs
    joined None = bare_length
    joined (Some u) =
        by (has_branches nat_eq home u bare) (record { procs = bare; proc_ended = true; woke = None }) (record { procs = joins_ready (home u) u bare; proc_ended = true; woke = Some u }) bare_length (length-changed (home u) (λ (q : ProcState ℕ). record q { ready = q.ready ++ u ∷ [] }) bare ∙ bare_length)

    on : (o : Option (ProcState ℕ)) → length (ends_proc nat_eq home lost p o).procs ≡ length procs
    on None = lost_length
    on (Some q) = by (q.live == 0) (joins nat_eq home bare q.parent) (record { procs = lost; proc_ended = false; woke = None }) (joined q.parent) lost_length

module _ {image : Contents} {slot : ℕ} {m : Machinery} (P : Posed image slot End m) (left : Table) (over : Bool) (woke : Option ℕ)
    (is : ends nat_eq (home_of m.table) m.table.procs (home_of m.table slot) ≡ record { procs = left.procs; proc_ended = over; woke = woke })
    (tasks : left.tasks ≡ slice_set m.table.tasks slot None)
    (privates : left.privates ≡ cond over (slice_set m.table.privates (home_of m.table slot) None) m.table.privates) where
  abbrev same : Table
  same = record { procs = left.procs; tasks = slice_set m.table.tasks slot None; privates = left.privates }

  left_is : same ≡ left
  left_is = ap (λ l. record { procs = left.procs; tasks = l; privates = left.privates }) (sym tasks)

  rooms : length left.privates ≡ length left.procs
  rooms = ap length privates ∙ by over ∙ P.procs_room ∙ sym (ap (λ (e : Ended ℕ). length e.procs) (sym is) ∙ ends_length (home_of m.table) (home_of m.table slot) m.table.procs)
    where
      by : (b : Bool) → length (cond b (slice_set m.table.privates (home_of m.table slot) None) m.table.privates) ≡ length m.table.privates
      by true = length-set m.table.privates (home_of m.table slot) None
      by false = refl

  pub end_done : woke ≡ None → IsDone image slot End m P 0 None (record { store = m.store; book = m.book; table = left; output = m.output })
  end_done none =
      subst (λ (t : Table). IsDone image slot End m P 0 None (record { store = m.store; book = m.book; table = t; output = m.output })) left_is
      (silent P 0 None m.store m.book same (done_end P left.procs left.privates over woke is privates none rooms))

  module _ (u : ℕ) (some : woke ≡ Some u) where
    -- the hart of the task that goes on
    pub woken_answer : IsSomeAnd (hart_of left u) (λ hart. CanTake hart [])
    woken_answer =
        subst (λ (t : Table). IsSomeAnd (hart_of t u) (λ hart. CanTake hart [])) left_is
        (subst (λ (o : Option HartFields). IsSomeAnd o (λ hart. CanTake hart [])) (sym (hart-filled-other m.table slot None u (other_is P u (Par joins_so.starts) joins_so.control joins_so.is)))
        (other_takes P u (Par joins_so.starts) joins_so.control joins_so.is [] (P.named.parents (home_of m.table slot) parent.0 u parent.1 parent.2) tt apart refl))
      where
        parent : (r : ProcState ℕ) × (slice_get m.table.procs (home_of m.table slot) ≡ Some r) × (r.parent ≡ Some u)
        parent = (keeps P left.procs left.privates over woke is privates).woke u some

        joins_so : IsJoining (P.tasks (task_at P.name u))
        joins_so = (proc_named P (home_of m.table slot) parent.0 parent.1).parent (task_at P.name u) (ap (option_map (task_at P.name)) parent.2)

        apart : task_at P.name u ≢ task_at P.name slot
        apart e = let i = joins_so.is in let g = P.going.is in let no = sym g ∙ ap P.tasks (sym e) ∙ i in cc

    pub end_woke_done : (after : Table) → TakesAnswer left u [] after → IsDone image slot End m P 0 None (record { store = m.store; book = m.book; table = after; output = m.output })
    end_woke_done after takes =
        silent P 0 None m.store m.book after (done_end_woke P left.procs left.privates over woke is privates u some after (subst (λ (t : Table). TakesAnswer t u [] after) (sym left_is) takes) rooms)

-- ---- what the calls after a talk that went require

module _ {image : Contents} {slot : ℕ} {branches : List Branch} {m : Machinery} (P : Posed image slot (Talk branches) m) (pick : ℕ) (book : Bounded) (fired : FiredFields) (fine : has_bad m.book.book branches ≡ false) (lt : pick < length (ready m.book.book branches)) (is : IsFired (fires nat_eq m.book.book slot branches pick) book.book fired) where
  abbrev f_1 : Fired ℕ
  f_1 = is.outcome

  abbrev some_1 : is_some_ready (ready m.book.book branches) ≡ true
  some_1 = some_is_ready (ready m.book.book branches) pick lt

  pub fired_few : length fired.got < 1025
  fired_few = subst (λ ws. length ws < 1025) is.words (own_few P pick f_1 fine some_1 is.is)

  pub fired_answer : IsSomeAnd (hart_of m.table slot) (λ hart. CanTake hart (fired.branch ∷ fired.got))
  fired_answer = subst (λ b. IsSomeAnd (hart_of m.table slot) (λ hart. CanTake hart (b ∷ fired.got))) is.branch (subst (λ ws. IsSomeAnd (hart_of m.table slot) (λ hart. CanTake hart (f_1.branch ∷ ws))) is.words (own_answer P pick f_1 fine some_1 is.is))

  module _ (table : Table) (takes : TakesAnswer m.table slot (fired.branch ∷ fired.got) table) (w : Woke) (with : fired.woke ≡ Some w) where
    takes_1 : TakesAnswer m.table slot (f_1.branch ∷ f_1.words) table
    takes_1 = subst (λ b. TakesAnswer m.table slot (b ∷ f_1.words) table) (sym is.branch) (subst (λ ws. TakesAnswer m.table slot (fired.branch ∷ ws) table) (sym is.words) takes)

    with_1 : f_1.woke ≡ Some (woken_of w)
    with_1 = is.woke ∙ ap (option_map woken_of) with

    pub woken_few_too : length w.got < 1025
    woken_few_too = their_few P pick f_1 fine some_1 is.is table takes_1 (woken_of w) with_1

    pub woken_answer_too : IsSomeAnd (hart_of table w.task) (λ hart. CanTake hart (w.branch ∷ w.got))
    woken_answer_too = their_answer P pick f_1 fine some_1 is.is table takes_1 (woken_of w) with_1

    module _ (after : Table) (takes_too : TakesAnswer table w.task (w.branch ∷ w.got) after) where
      pub woken_lives : lives after w.task ≡ true
      woken_lives = wake_lives P pick f_1 fine some_1 is.is table takes_1 (woken_of w) with_1 after takes_too

      pub woken_blocked : has w.task (ready_of after (home_of after w.task)) ≡ false
      woken_blocked = wake_blocked P pick f_1 fine some_1 is.is table takes_1 (woken_of w) with_1 after takes_too

      pub woken_alone : has_branches nat_eq (λ t. 0) w.task after.procs ≡ false
      woken_alone = wake_alone P pick f_1 fine some_1 is.is table takes_1 (woken_of w) with_1 after takes_too
