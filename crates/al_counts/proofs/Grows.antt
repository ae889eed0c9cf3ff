-- How the counts of a world may change by an action.
use Rattle.std.proofs.Common.{◌≡◌, ℕ, ◌+◌, ◌≤◌, List, [], ◌∷◌, ◌++◌, length, drop, Option, Some, None, Result, Ok, Err, refl, sym, subst, true, false, Bool, cond, arith, length-append}
use Rattle.std.specs.Prelude.{slice_get}
use Rattle.al_base.specs.declared.trap.Trap.{Trap}
use Rattle.al_base.specs.declared.trap.Trap.TheVariants.{Chan, Tasks}
use Rattle.al_event.specs.declared.act.Start.{Start}
use Rattle.al_event.specs.declared.act.Act.{Act}
use Rattle.al_event.specs.declared.act.Act.TheVariants.{Load, Store, Alloc, Free, NewChan, FreeChan, CanRecv, CanSend, Talk, Proc, Task, Par, Print, Terminate, Pause, Trap as Traps, End}
use Rattle.al_event.specs.Store.{load, store_word, alloc_block, free_block}
use Rattle.al_world.specs.Channels.{Book, new_channel, gives_up, can_recv, can_send}
use Rattle.al_world.specs.Talks.{Woken}
use Rattle.al_world.specs.Procs.{ProcState, live_tasks, is_full, most_tasks, loses_first, leaves_ready}
use Rattle.al_world.specs.World.{TaskName, TalkName, Shared, Effect, at_proc}
use Rattle.al_world.specs.Actions.{acts, performs, or_trap, or_free_trap, answer, trapped, with_book, with_store, with_went, lost, word_of, wakes, talk_of, next_task, unless_full, counts_from}
use Rattle.al_world.proofs.Cases.{IfSome', performs_cases}
use Rattle.al_world.proofs.Maps.{at_proc_cases}
use Rattle.al_world.proofs.Sound.{length-changed}
use Rattle.al_counts.proofs.Procs.{ProcsGrow, stay, changed_grows, loses_grows, not_full, starts_grow, more_grow, ends_grow, live_same}
use Rattle.al_counts.proofs.Channels.{free_length, fires_keep}

pub record Grows (s : Shared) (e : Effect) : Type 0 where
  pub procs : ProcsGrow s.procs e.shared.procs
  pub tasks : (p : ℕ) → e.shared.started p ≤ s.started p + 1
  pub channels : length e.shared.book.channels ≤ length s.book.channels + 1
  pub entries : e.shared.entries ≡ s.entries
  pub own_entries : e.shared.entries_of ≡ s.entries_of

-- ---- how many tasks were started in each proc

more_started : (started : ℕ → ℕ) (p q : ℕ) → at_proc p (started p + 1) started q ≤ started q + 1
more_started started p q = at_proc_cases (λ n. n ≤ started q + 1) p q (started p + 1) started (λ e. subst (λ p. started p + 1 ≤ started q + 1) e (omega arith)) (λ _. omega arith)

-- the new procs have one each
new_started : (starts : List Start) (p : ℕ) (started now : ℕ → ℕ) (q : ℕ) → now q ≤ started q + 1 → counts_from p starts now q ≤ started q + 1
new_started [] p started now q h = h
new_started (s ∷ ss) p started now q h = new_started ss (p + 1) started (at_proc p 1 now) q (at_proc_cases (λ n. n ≤ started q + 1) p q 1 now (λ _. omega arith) (λ _. h))

-- ---- each action

module _ (s : Shared) (t : TaskName) where
  started_now : (p : ℕ) → s.started p ≤ s.started p + 1
  started_now p = omega arith

  -- only procs and their tasks change
  grows_procs : (e : Effect) → ProcsGrow s.procs e.shared.procs → ((p : ℕ) → e.shared.started p ≤ s.started p + 1) → e.shared.book ≡ s.book → e.shared.entries ≡ s.entries → e.shared.entries_of ≡ s.entries_of → Grows s e
  grows_procs e p started b n o = record {
    procs = p;
    tasks = started;
    channels = subst (λ (k : Book TalkName). length k.channels ≤ length s.book.channels + 1) (sym b) (omega arith);
    entries = n;
    own_entries = o;
  }

  -- the book changes
  grows_book : (e : Effect) → e.shared.procs ≡ s.procs → e.shared.started ≡ s.started → length e.shared.book.channels ≤ length s.book.channels + 1 → e.shared.entries ≡ s.entries → e.shared.entries_of ≡ s.entries_of → Grows s e
  grows_book e p started b n o = record {
    procs = subst (ProcsGrow s.procs) (sym p) (stay s.procs);
    tasks = subst (λ (f : ℕ → ℕ). (p : ℕ) → f p ≤ s.started p + 1) (sym started) started_now;
    channels = b;
    entries = n;
    own_entries = o;
  }

  grows_same : (e : Effect) → e.shared.procs ≡ s.procs → e.shared.started ≡ s.started → e.shared.book ≡ s.book → e.shared.entries ≡ s.entries → e.shared.entries_of ≡ s.entries_of → Grows s e
  grows_same e p started b n o = grows_book e p started (subst (λ (k : Book TalkName). length k.channels ≤ length s.book.channels + 1) (sym b) (omega arith)) n o

  grows_or_trap : {X : Type 0} (r : Result X Trap) (f : X → Effect) → ((x : X) → r ≡ Ok x → Grows s (f x)) → Grows s (or_trap s t r f)
  grows_or_trap (Ok x) f h = h x refl
  grows_or_trap (Err trap) f h = grows_same (trapped s t trap) refl refl refl refl refl

  grows_unless : (n : ℕ) (e : Effect) → (live_tasks s.procs + n ≤ most_tasks → Grows s e) → Grows s (unless_full s t n e)
  grows_unless n e h = on (is_full s.procs n) refl
    where
      on : (b : Bool) → is_full s.procs n ≡ b → Grows s (cond b (trapped s t Tasks) e)
      on true f = grows_same (trapped s t Tasks) refl refl refl refl refl
      on false f = h (not_full s.procs n f)

  grows_acts : (act : Act) → Grows s (acts s t act)
  grows_acts (Load at size) = grows_or_trap (load s.store at size) (λ word. answer s t (word ∷ [])) (λ word _. grows_same (answer s t (word ∷ [])) refl refl refl refl refl)
  grows_acts (Store at size word) = grows_or_trap (store_word s.store at size word) (λ store. answer (with_store store s) t []) (λ store _. grows_same (answer (with_store store s) t []) refl refl refl refl refl)
  grows_acts (Alloc bytes kind) = grows_or_trap (alloc_block s.region s.store bytes kind) (λ r. answer (with_store r.1 s) t (r.0 ∷ [])) (λ r _. grows_same (answer (with_store r.1 s) t (r.0 ∷ [])) refl refl refl refl refl)
  grows_acts (Free at kind) = grows_or_trap (or_free_trap kind (free_block s.store at kind)) (λ store. answer (with_store store s) t []) (λ store _. grows_same (answer (with_store store s) t []) refl refl refl refl refl)
  grows_acts (NewChan capacity words) =
      let n = length-append s.book.channels (new_channel capacity words ∷ []) in grows_book _ refl refl (omega (arith, n)) refl refl
  grows_acts (FreeChan c) =
      grows_or_trap (gives_up s.book c) (λ book. answer (with_went (lost s c) (with_book book s)) t []) (λ book e. let n = free_length s.book c book e in grows_book (answer (with_went (lost s c) (with_book book s)) t []) refl refl (omega (arith, n)) refl refl)
  grows_acts (CanRecv c) = grows_or_trap (can_recv s.book c) (λ b. answer s t (word_of b ∷ [])) (λ b _. grows_same (answer s t (word_of b ∷ [])) refl refl refl refl refl)
  grows_acts (CanSend c) = grows_or_trap (can_send s.book c) (λ b. answer s t (word_of b ∷ [])) (λ b _. grows_same (answer s t (word_of b ∷ [])) refl refl refl refl refl)
  grows_acts (Talk branches) = record { procs = changed_grows s.procs s.procs t.proc (λ (q : ProcState TaskName). record q { ready = drop 1 q.ready }) (λ q. refl) (stay s.procs); tasks = started_now; channels = omega arith; entries = refl; own_entries = refl }
  grows_acts (Proc start) = grows_unless 1 _ (λ room. grows_procs _ (more_grow s.procs s.procs None (length s.procs) (start ∷ []) room refl refl) (λ p. new_started (start ∷ []) (length s.procs) s.started s.started p (started_now p)) refl refl refl)
  grows_acts (Task start) = grows_unless 1 _ (λ room. grows_procs _ (starts_grow s.procs s.procs t.proc room refl refl (next_task s t.proc)) (more_started s.started t.proc) refl refl refl)
  grows_acts (Par starts) = grows_unless (length starts) _ (λ room. grows_procs _ (more_grow s.procs (leaves_ready t.proc s.procs) (Some t) (length (leaves_ready t.proc s.procs)) starts room (live_same _ (λ q. refl) t.proc s.procs) (length-changed t.proc _ s.procs)) (λ p. new_started starts (length (leaves_ready t.proc s.procs)) s.started s.started p (started_now p)) refl refl refl)
  grows_acts (Print text) = grows_same _ refl refl refl refl refl
  grows_acts (Terminate status) = grows_same _ refl refl refl refl refl
  grows_acts Pause = grows_same _ refl refl refl refl refl
  grows_acts (Traps trap) = grows_same _ refl refl refl refl refl
  grows_acts End = grows_procs _ (ends_grow s.procs (loses_first t.proc s.procs) t.proc (loses_grows t.proc s.procs) (slice_get (loses_first t.proc s.procs) t.proc)) started_now refl refl refl

  grows_wakes : (o : Option (Woken TalkName)) → ProcsGrow s.procs (wakes o s.procs)
  grows_wakes None = stay s.procs
  grows_wakes (Some w) = changed_grows s.procs s.procs w.by.task.proc (λ (q : ProcState TaskName). record q { ready = q.ready ++ w.by.task ∷ [] }) (λ q. refl) (stay s.procs)

  pub grows_performs : (act : Act) (pick : ℕ) → IfSome' (Grows s) (performs s t act pick)
  grows_performs act pick =
      performs_cases (Grows s) s t (grows_same (trapped s t Chan) refl refl refl refl refl)
      (λ branches pick f fine e. let n = (fires_keep s.book (talk_of s t) branches pick f e).count in record { procs = grows_wakes f.woke; tasks = started_now; channels = omega (arith, n); entries = refl; own_entries = refl }) act pick (grows_acts act)
