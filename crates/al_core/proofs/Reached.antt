-- What holds of each world that an image comes to: its harts are proper, and its counts are bounded.
use Rattle.std.proofs.Common.{◌≡◌, ℕ, zero, suc, ◌+◌, ◌-◌, ◌*◌, ◌<◌, ◌≤◌, List, [], ◌∷◌, ◌++◌, length, drop, Option, Some, None, Result, Ok, Err, option_and_then, refl, sym, ap, ap₂, ◌∙◌, subst, true, false, Bool, cond, ◌==◌, ◌⊎◌, inl, inr, arith, length-append, le_refl}
use Rattle.std.specs.Prelude.{slice_get, nat_lt}
use Rattle.std.proofs.lemmas.Option.{same_Some, slice_get_within}
use Rattle.std.proofs.lemmas.Bool.Decides.{leb_tells}
use Rattle.std.proofs.lemmas.List.Sums.{sum_by-cons}
use Rattle.al_base.specs.declared.trap.Trap.{Trap}
use Rattle.al_base.specs.declared.trap.Trap.TheVariants.{Chan, Tasks, Busy}
use Rattle.al_event.specs.declared.act.Branch.{Branch}
use Rattle.al_event.specs.declared.act.Start.{Start}
use Rattle.al_event.specs.declared.act.Act.{Act}
use Rattle.al_event.specs.declared.act.Act.TheVariants.{Load, Store, Alloc, Free, NewChan, FreeChan, CanRecv, CanSend, Talk, Proc, Task, Par, Print, Terminate, Pause, Trap as Traps, End}
use Rattle.al_event.specs.declared.entry.Entry.{Entry}
use Rattle.al_event.specs.Store.{Live, load, store_word, alloc_block, free_block}
use Rattle.al_world.specs.Channels.{Channel, Book, Offer, changed_at, with_channel, channel, gives_up, gives_up_one, can_recv, can_send, is_waited_for, without_values, opposites, Pair, ready, new_channel}
use Rattle.al_world.specs.Talks.{Fired, Woken, fires, goes_with, by_buffer, sends, receives, meets}
use Rattle.al_world.specs.Procs.{ProcState, Ended, live_tasks, is_full, most_tasks, joins, ends_proc, has_branches, new_proc, loses_first, without_parent, joins_ready, leaves_ready, starts_in_proc}
use Rattle.al_world.specs.Control.{Asked, Kind, fitted}
use Rattle.al_world.specs.World.{TaskName, TalkName, same_task, same_talker, World, Shared, Goes, Effect}
use Rattle.al_world.specs.Actions.{acts, performs, or_trap, answer, trapped, with_book, with_store, with_went, lost, or_free_trap, word_of, wakes, talk_of, first_task, procs_from, next_task, unless_full}
use Rattle.al_world.specs.Step.{step, run, run_from, opening, opening_with, with_globals, after}
use Rattle.al_world.specs.Alike.{Relation, Alike, AsksAlike}
use Rattle.al_world.specs.Answers.{Propriety, StaysProper}
use Rattle.al_world.proofs.Cases.{IfSome', got_some, performs_cases}
use Rattle.al_world.proofs.Lift.{OnBoth, HeldAlike, WorldsAlike, step_alike, alike_openings}
use Rattle.al_world.proofs.Runs.{along, run_none}
use Rattle.al_world.proofs.Local.{IsStepBy, step_by}
use Rattle.al_world.proofs.Maps.{at_proc_cases}
use Rattle.al_world.proofs.Sound.{length-changed}
use Rattle.al_world.proofs.Roles.{SoundWorld, sound_step, sound_opening, first_is_ready, is_first}
use Rattle.al_world.proofs.Lists.{same_ok}
use Rattle.rv_isa.specs.declared.image.Contents.{Contents}
use Rattle.rv_exec.specs.Hart.{Hart}
use Rattle.rv_exec.specs.Calls.{Privates, longest_text}
use Rattle.rv_exec.specs.Machine.{machine, ask}
use Rattle.al_core.specs.Asks.{IsStart, IsAskable}
use Rattle.al_core.proofs.Proper.{AsksOk, ask_ok, proper, stays_proper}

-- ---- harts

-- controls that are the same and that there are
abbrev pub Same : {C U : Type 0} → Propriety C U → Relation C C U U
Same P = record {
  Going = λ c d. (c ≡ d) × P.Going c;
  Waiting = λ act c d. (c ≡ d) × P.Waiting act c;
  Private = λ u v. (u ≡ v) × P.Private u;
  IsStart = P.IsStart;
}

module _ (K : Kind) (P : Propriety K.Control K.Privates) (S : StaysProper K P) where
  pub alike : Alike K K (Same P)
  alike = record {
    asks = λ c d u v r s. asks_alike c d u v r s;
    resumes = λ act c d words r. (ap (λ c. K.resume c (fitted act words)) r.0, S.resumes act c words r.1);
    starts = λ start i. (refl, S.starts start i);
    fresh = (refl, S.fresh);
  }
    where
      asks_alike : (c d : K.Control) (u v : K.Privates) → (c ≡ d) × P.Going c → (u ≡ v) × P.Private u → AsksAlike (Same P) (K.ask c u) (K.ask d v)
      asks_alike c d u v r s =
          let e : K.ask c u ≡ K.ask d v = ap₂ K.ask r.0 s.0 in
          let a = S.asks c u r.1 s.1 in
          record { act = ap (λ (x : Asked K.Control K.Privates). x.act) e; line = ap (λ (x : Asked K.Control K.Privates). x.line) e; control = (ap (λ (x : Asked K.Control K.Privates). x.control) e, a.control); privates = (ap (λ (x : Asked K.Control K.Privates). x.privates) e, a.privates); starts = a.starts }

  good_step : (w v : World K) (e : Entry) → WorldsAlike K K (Same P) alike w w → step K w e ≡ Some v → WorldsAlike K K (Same P) alike v v
  good_step w v e good h = on (step K w e) h (step_alike K K (Same P) alike w w e good)
    where
      on : (o : Option (World K)) → o ≡ Some v → OnBoth (WorldsAlike K K (Same P) alike) o o → WorldsAlike K K (Same P) alike v v
      on None e r = absurd (cc)
      on (Some u) e r = subst (λ v. WorldsAlike K K (Same P) alike v v) (same_Some u v e) r

  good_run : (region : ℕ) (globals : List (List ℕ)) (start : Start) (h : List Entry) (w : World K) → P.IsStart start → run_from K region globals start h ≡ Some w → WorldsAlike K K (Same P) alike w w
  good_run region globals start h w i r =
      along K (λ w. WorldsAlike K K (Same P) alike w w) good_step h _ w (alike_openings K K (Same P) alike region globals start i) r

  going_good : (w : World K) (t : TaskName) (c : K.Control) → WorldsAlike K K (Same P) alike w w → w.tasks t ≡ Goes c → P.Going c
  going_good w t c good e = let h : HeldAlike K K (Same P) alike (Goes c) (Goes c) = subst (λ x. HeldAlike K K (Same P) alike x x) e (good.tasks t) in h.1

-- in each world that an image comes to, a task that goes on asks within the bounds
pub asks_within : (image : Contents) (region : ℕ) (globals : List (List ℕ)) (start : Start) (h : List Entry) (w : World (machine image)) (t : TaskName) (c : Hart) (u : Privates) → IsStart image start → run_from (machine image) region globals start h ≡ Some w → w.tasks t ≡ Goes c → AsksOk image (ask image c u)
asks_within image region globals start h w t c u i r g =
    ask_ok image c u (going_good (machine image) (proper image) (stays_proper image) w t c (good_run (machine image) (proper image) (stays_proper image) region globals start h w i r) g)

-- ---- counts

-- procs in which some tasks live
abbrev Procs : Type 0
Procs = List (ProcState TaskName)

live_cons : (q : ProcState TaskName) (qs : Procs) → live_tasks (q ∷ qs) ≡ q.live + live_tasks qs
live_cons q qs = sum_by-cons (λ (q : ProcState TaskName). q.live) q qs

module _ (f : ProcState TaskName → ProcState TaskName) where
  live_same : ((q : ProcState TaskName) → (f q).live ≡ q.live) → (k : ℕ) (procs : Procs) → live_tasks (changed_at k f procs) ≡ live_tasks procs
  live_same h k [] = refl
  live_same h zero (q ∷ qs) = live_cons (f q) qs ∙ ap (λ n. n + live_tasks qs) (h q) ∙ sym (live_cons q qs)
  live_same h (suc k) (q ∷ qs) = live_cons q (changed_at k f qs) ∙ ap (λ n. q.live + n) (live_same h k qs) ∙ sym (live_cons q qs)

  live_at_most : (n : ℕ) → ((q : ProcState TaskName) → (f q).live ≤ q.live + n) → (k : ℕ) (procs : Procs) → live_tasks (changed_at k f procs) ≤ live_tasks procs + n
  live_at_most n h k [] = omega arith
  live_at_most n h zero (q ∷ qs) = let one = h q in let a = live_cons (f q) qs in let b = live_cons q qs in omega (arith, one, a, b)
  live_at_most n h (suc k) (q ∷ qs) = let rest = live_at_most n h k qs in let a = live_cons q (changed_at k f qs) in let b = live_cons q qs in omega (arith, rest, a, b)

  live_at_least : (n : ℕ) → ((q : ProcState TaskName) → q.live ≤ (f q).live + n) → (k : ℕ) (procs : Procs) → live_tasks procs ≤ live_tasks (changed_at k f procs) + n
  live_at_least n h k [] = omega arith
  live_at_least n h zero (q ∷ qs) = let one = h q in let a = live_cons (f q) qs in let b = live_cons q qs in omega (arith, one, a, b)
  live_at_least n h (suc k) (q ∷ qs) = let rest = live_at_least n h k qs in let a = live_cons q (changed_at k f qs) in let b = live_cons q qs in omega (arith, rest, a, b)

live_append : (procs more : Procs) → live_tasks (procs ++ more) ≡ live_tasks procs + live_tasks more
live_append [] more = omega arith
live_append (q ∷ qs) more = let rest = live_append qs more in let a = live_cons q (qs ++ more) in let b = live_cons q qs in omega (arith, rest, a, b)

live_from : (parent : Option TaskName) (p : ℕ) (starts : List Start) → live_tasks (procs_from parent p starts) ≡ length starts
live_from parent p [] = refl
live_from parent p (s ∷ ss) = let rest = live_from parent (p + 1) ss in let a = live_cons (new_proc parent (first_task p)) (procs_from parent (p + 1) ss) in omega (arith, rest, a)

length_from : (parent : Option TaskName) (p : ℕ) (starts : List Start) → length (procs_from parent p starts) ≡ length starts
length_from parent p [] = refl
length_from parent p (s ∷ ss) = ap suc (length_from parent (p + 1) ss)

-- how procs may change by an entry
pub record ProcsGrow (before now : Procs) : Type 0 where
  pub more : length before ≤ length now
  pub kept : length now + live_tasks before ≤ length before + live_tasks now + 1
  pub few : live_tasks before ≤ most_tasks → live_tasks now ≤ most_tasks

stay : (procs : Procs) → ProcsGrow procs procs
stay procs = record { more = le_refl _; kept = omega arith; few = λ h. h }

-- a change that keeps how many there are
changed_grows : (before now : Procs) (k : ℕ) (f : ProcState TaskName → ProcState TaskName) → ((q : ProcState TaskName) → (f q).live ≡ q.live) → ProcsGrow before now → ProcsGrow before (changed_at k f now)
changed_grows before now k f same g =
    let live = live_same f same k now in
    let count = length-changed k f now in
    let more = g.more in
    let kept = g.kept in record {
      more = omega (arith, count, more);
      kept = omega (arith, count, kept, live);
      few = λ h. let few = g.few h in omega (arith, few, live);
    }

loses_grows : (k : ℕ) (procs : Procs) → ProcsGrow procs (loses_first k procs)
loses_grows k procs =
    let least = live_at_least (λ (q : ProcState TaskName). record q { ready = drop 1 q.ready; live = q.live - 1 }) 1 (λ q. omega arith) k procs in
    let most = live_at_most (λ (q : ProcState TaskName). record q { ready = drop 1 q.ready; live = q.live - 1 }) 0 (λ q. omega arith) k procs in
    let count = length-changed k (λ (q : ProcState TaskName). record q { ready = drop 1 q.ready; live = q.live - 1 }) procs in record {
      more = omega (arith, count);
      kept = omega (arith, count, least);
      few = λ h. omega (arith, h, most);
    }

not_full : (procs : Procs) (n : ℕ) → is_full procs n ≡ false → live_tasks procs + n ≤ most_tasks
not_full procs n e = below (most_tasks) (live_tasks procs + n) e
  where
    below : (a b : ℕ) → nat_lt a b ≡ false → b ≤ a
    below a b e = on (leb_tells (suc a) b)
      where
        on : ((nat_lt a b ≡ true) × (suc a ≤ b)) ⊎ ((nat_lt a b ≡ false) × (b < suc a)) → b ≤ a
        on (inl x) = absurd (let no = sym e ∙ x.0 in cc)
        on (inr x) = let y = x.1 in omega (arith, y)

starts_grow : (before now : Procs) (p : ℕ) → live_tasks before + 1 ≤ most_tasks → (live_tasks now ≡ live_tasks before) → length now ≡ length before → (t : TaskName) → ProcsGrow before (starts_in_proc p t now)
starts_grow before now p room same count t =
    let least = live_at_least (λ (q : ProcState TaskName). record q { ready = q.ready ++ t ∷ []; live = q.live + 1 }) 0 (λ q. omega arith) p now in
    let most = live_at_most (λ (q : ProcState TaskName). record q { ready = q.ready ++ t ∷ []; live = q.live + 1 }) 1 (λ q. omega arith) p now in
    let length_is = length-changed p (λ (q : ProcState TaskName). record q { ready = q.ready ++ t ∷ []; live = q.live + 1 }) now in record {
      more = omega (arith, length_is, count);
      kept = omega (arith, length_is, count, least, same);
      few = λ h. omega (arith, most, same, room);
    }

more_grow : (before now : Procs) (parent : Option TaskName) (p : ℕ) (starts : List Start) → live_tasks before + length starts ≤ most_tasks → live_tasks now ≡ live_tasks before → length now ≡ length before → ProcsGrow before (now ++ procs_from parent p starts)
more_grow before now parent p starts room same count =
    let live = live_append now (procs_from parent p starts) in
    let new = live_from parent p starts in
    let all = length-append now (procs_from parent p starts) in
    let added = length_from parent p starts in record {
      more = omega (arith, all, count);
      kept = omega (arith, all, added, count, live, new, same);
      few = λ h. omega (arith, live, new, same, room);
    }

abbrev GrowsEnd : Procs → Ended TaskName → Type 0
GrowsEnd before e = ProcsGrow before e.procs

end_if : (before : Procs) (b : Bool) (x y : Ended TaskName) → GrowsEnd before x → GrowsEnd before y → GrowsEnd before (cond b x y)
end_if before true x y h k = h
end_if before false x y h k = k

joins_grow : (before now : Procs) → ProcsGrow before now → (o : Option TaskName) → GrowsEnd before (joins same_task (λ (u : TaskName). u.proc) now o)
joins_grow before now g None = g
joins_grow before now g (Some u) =
    end_if before (has_branches same_task (λ (u : TaskName). u.proc) u now) (record { procs = now; proc_ended = true; woke = None }) (record { procs = joins_ready u.proc u now; proc_ended = true; woke = Some u }) g (changed_grows before now u.proc (λ (q : ProcState TaskName). record q { ready = q.ready ++ u ∷ [] }) (λ q. refl) g)

ends_grow : (before now : Procs) (p : ℕ) → ProcsGrow before now → (o : Option (ProcState TaskName)) → GrowsEnd before (ends_proc same_task (λ (u : TaskName). u.proc) now p o)
ends_grow before now p g None = g
ends_grow before now p g (Some q) =
    end_if before (q.live == 0) (joins same_task (λ (u : TaskName). u.proc) (without_parent p now) q.parent) (record { procs = now; proc_ended = false; woke = None }) (joins_grow before (without_parent p now) (changed_grows before now p (λ (q : ProcState TaskName). record q { parent = None }) (λ q. refl) g) q.parent) g

-- ---- channels

channels_changed : (c : ℕ) (f : Channel → Channel) (channels : List Channel) → length (with_channel c f channels) ≡ length channels
channels_changed zero f channels = refl
channels_changed (suc k) f channels = length-changed k f channels

free_length : (book : Book TalkName) (c : ℕ) (after : Book TalkName) → gives_up book c ≡ Ok after → length after.channels ≡ length book.channels
free_length book c after e = one (channel book.channels c) e
  where
    waits : (b : Bool) → cond b (Err Busy) (Ok (record book { channels = with_channel c without_values book.channels })) ≡ Ok after → length after.channels ≡ length book.channels
    waits true e = absurd (cc)
    waits false e =
        ap (λ (b : Book TalkName). length b.channels) (sym (same_ok _ _ e)) ∙ channels_changed c without_values book.channels

    gone : (ch : Channel) (b : Bool) → cond b (Err Chan) (cond (is_waited_for book c) (Err Busy) (Ok (record book { channels = with_channel c without_values book.channels }))) ≡ Ok after → length after.channels ≡ length book.channels
    gone ch true e = absurd (cc)
    gone ch false e = waits (is_waited_for book c) e

    one : (o : Option Channel) → gives_up_one book c o ≡ Ok after → length after.channels ≡ length book.channels
    one None e = ap (λ (b : Book TalkName). length b.channels) (sym (same_ok _ _ e))
    one (Some ch) e = gone ch ch.given_up e

-- a talk that goes makes no channel
pub record KeepsChannels (book : Book TalkName) (f : Fired TalkName) : Type 0 where
  pub count : length f.book.channels ≡ length book.channels

module _ (book : Book TalkName) (t : TalkName) where
  sends_keep : (i c : ℕ) (words : List ℕ) (held : List (List ℕ)) (os : List (Offer TalkName)) → KeepsChannels book (sends same_talker book t i c words held os)
  sends_keep i c words [] (o ∷ _) = record { count = refl }
  sends_keep i c words [] [] = record { count = channels_changed c _ book.channels }
  sends_keep i c words (v ∷ vs) os = record { count = channels_changed c _ book.channels }

  receives_keep : (i c : ℕ) (full : Bool) (held : List (List ℕ)) (os : List (Offer TalkName)) → IfSome' (KeepsChannels book) (receives same_talker book t i c full held os)
  receives_keep i c full [] os = tt
  receives_keep i c true (words ∷ _) (o ∷ _) = record { count = channels_changed c _ book.channels }
  receives_keep i c true (words ∷ _) [] = record { count = channels_changed c _ book.channels }
  receives_keep i c false (words ∷ _) os = record { count = channels_changed c _ book.channels }

  buffer_keeps : (i : ℕ) (b : Branch) (send : Option (List ℕ)) (o : Option Channel) → IfSome' (KeepsChannels book) (by_buffer same_talker book t i b send o)
  buffer_keeps i b send None = tt
  buffer_keeps i b (Some words) (Some ch) = sends_keep i b.chan words ch.held (opposites book.waiting b)
  buffer_keeps i b None (Some ch) = receives_keep i b.chan (length ch.held == ch.capacity) ch.held (opposites book.waiting b)

  pair_keeps : (i : ℕ) (b : Branch) (o : Option (Offer TalkName)) → IfSome' (KeepsChannels book) (goes_with same_talker book t i b o)
  pair_keeps i b (Some o) = on b.send
    where
      on : (send : Option (List ℕ)) → KeepsChannels book (meets same_talker book t i b.chan send o)
      on None = record { count = refl }
      on (Some words) = record { count = refl }
  pair_keeps i b None = buffer_keeps i b b.send (channel book.channels b.chan)

  fires_keep : (branches : List Branch) (pick : ℕ) (f : Fired TalkName) → fires same_talker book t branches pick ≡ Some f → KeepsChannels book f
  fires_keep branches pick f e = on (slice_get (ready book branches) pick) e
    where
      on : (o : Option (Pair TalkName)) → option_and_then (λ (p : Pair TalkName). goes_with same_talker book t p.number p.branch p.partner) o ≡ Some f → KeepsChannels book f
      on None e = absurd (cc)
      on (Some p) e = got_some (KeepsChannels book) _ f (pair_keeps p.number p.branch p.partner) e

-- ---- an entry

pub record Grows (s : Shared) (e : Effect) : Type 0 where
  pub procs : ProcsGrow s.procs e.shared.procs
  pub channels : length e.shared.book.channels ≤ length s.book.channels + 1
  pub output : length e.shared.output ≤ length s.output + longest_text
  pub entries : e.shared.entries ≡ s.entries

module _ (image : Contents) (s : Shared) (t : TaskName) where
  -- only procs change
  grows_procs : (e : Effect) → ProcsGrow s.procs e.shared.procs → e.shared.book ≡ s.book → e.shared.output ≡ s.output → e.shared.entries ≡ s.entries → Grows s e
  grows_procs e p b o n = record {
    procs = p;
    channels = subst (λ (k : Book TalkName). length k.channels ≤ length s.book.channels + 1) (sym b) (omega arith);
    output = subst (λ k. length k ≤ length s.output + longest_text) (sym o) (omega arith);
    entries = n;
  }

  grows_same : (e : Effect) → e.shared.procs ≡ s.procs → e.shared.book ≡ s.book → e.shared.output ≡ s.output → e.shared.entries ≡ s.entries → Grows s e
  grows_same e p b o n = grows_procs e (subst (ProcsGrow s.procs) (sym p) (stay s.procs)) b o n

  grows_or_trap : {X : Type 0} (r : Result X Trap) (f : X → Effect) → ((x : X) → r ≡ Ok x → Grows s (f x)) → Grows s (or_trap s t r f)
  grows_or_trap (Ok x) f h = h x refl
  grows_or_trap (Err trap) f h = grows_same (trapped s t trap) refl refl refl refl

  grows_unless : (n : ℕ) (e : Effect) → (live_tasks s.procs + n ≤ most_tasks → Grows s e) → Grows s (unless_full s t n e)
  grows_unless n e h = on (is_full s.procs n) refl
    where
      on : (b : Bool) → is_full s.procs n ≡ b → Grows s (cond b (trapped s t Tasks) e)
      on true f = grows_same (trapped s t Tasks) refl refl refl refl
      on false f = h (not_full s.procs n f)

  grows_acts : (act : Act) → IsAskable image act → Grows s (acts s t act)
  grows_acts (Load at size) a = grows_or_trap (load s.store at size) (λ word. answer s t (word ∷ [])) (λ word _. grows_same (answer s t (word ∷ [])) refl refl refl refl)
  grows_acts (Store at size word) a = grows_or_trap (store_word s.store at size word) (λ store. answer (with_store store s) t []) (λ store _. grows_same (answer (with_store store s) t []) refl refl refl refl)
  grows_acts (Alloc bytes kind) a = grows_or_trap (alloc_block s.region s.store bytes kind) (λ r. answer (with_store r.1 s) t (r.0 ∷ [])) (λ r _. grows_same (answer (with_store r.1 s) t (r.0 ∷ [])) refl refl refl refl)
  grows_acts (Free at kind) a = grows_or_trap (or_free_trap kind (free_block s.store at kind)) (λ store. answer (with_store store s) t []) (λ store _. grows_same (answer (with_store store s) t []) refl refl refl refl)
  grows_acts (NewChan capacity words) a =
      let n = length-append s.book.channels (new_channel capacity words ∷ []) in record { procs = stay s.procs; channels = omega (arith, n); output = omega arith; entries = refl }
  grows_acts (FreeChan c) a =
      grows_or_trap (gives_up s.book c) (λ book. answer (with_went (lost s c) (with_book book s)) t []) (λ book e. let n = free_length s.book c book e in record { procs = stay s.procs; channels = omega (arith, n); output = omega arith; entries = refl })
  grows_acts (CanRecv c) a = grows_or_trap (can_recv s.book c) (λ b. answer s t (word_of b ∷ [])) (λ b _. grows_same (answer s t (word_of b ∷ [])) refl refl refl refl)
  grows_acts (CanSend c) a = grows_or_trap (can_send s.book c) (λ b. answer s t (word_of b ∷ [])) (λ b _. grows_same (answer s t (word_of b ∷ [])) refl refl refl refl)
  grows_acts (Talk branches) a = record { procs = changed_grows s.procs s.procs t.proc (λ (q : ProcState TaskName). record q { ready = drop 1 q.ready }) (λ q. refl) (stay s.procs); channels = omega arith; output = omega arith; entries = refl }
  grows_acts (Proc start) a = grows_unless 1 _ (λ room. grows_procs _ (more_grow s.procs s.procs None (length s.procs) (start ∷ []) room refl refl) refl refl refl)
  grows_acts (Task start) a = grows_unless 1 _ (λ room. grows_procs _ (starts_grow s.procs s.procs t.proc room refl refl (next_task s t.proc)) refl refl refl)
  grows_acts (Par starts) a = grows_unless (length starts) _ (λ room. grows_procs _ (more_grow s.procs (leaves_ready t.proc s.procs) (Some t) (length (leaves_ready t.proc s.procs)) starts room (live_same _ (λ q. refl) t.proc s.procs) (length-changed t.proc _ s.procs)) refl refl refl)
  grows_acts (Print text) a =
      let n = length-append s.output text in record { procs = stay s.procs; channels = omega arith; output = omega (arith, n, a); entries = refl }
  grows_acts (Terminate status) a = grows_same _ refl refl refl refl
  grows_acts Pause a = grows_same _ refl refl refl refl
  grows_acts (Traps trap) a = grows_same _ refl refl refl refl
  grows_acts End a = grows_procs _ (ends_grow s.procs (loses_first t.proc s.procs) t.proc (loses_grows t.proc s.procs) (slice_get (loses_first t.proc s.procs) t.proc)) refl refl refl

  grows_wakes : (o : Option (Woken TalkName)) → ProcsGrow s.procs (wakes o s.procs)
  grows_wakes None = stay s.procs
  grows_wakes (Some w) = changed_grows s.procs s.procs w.by.task.proc (λ (q : ProcState TaskName). record q { ready = q.ready ++ w.by.task ∷ [] }) (λ q. refl) (stay s.procs)

  pub grows_performs : (act : Act) (pick : ℕ) → IsAskable image act → IfSome' (Grows s) (performs s t act pick)
  grows_performs act pick a =
      performs_cases (Grows s) s t (grows_same (trapped s t Chan) refl refl refl refl)
      (λ branches pick f fine e. let n = (fires_keep s.book (talk_of s t) branches pick f e).count in record { procs = grows_wakes f.woke; channels = omega (arith, n); output = omega arith; entries = refl }) act pick (grows_acts act a)

-- ---- a run

pub record IsCounted (s : Shared) : Type 0 where
  pub procs : length s.procs ≤ live_tasks s.procs + s.entries
  pub live : live_tasks s.procs ≤ most_tasks
  pub channels : length s.book.channels ≤ s.entries
  pub output : length s.output ≤ longest_text * s.entries

abbrev pub Counted : (image : Contents) → World (machine image) → Type 0
Counted image w = IsCounted w.shared

counted_step : (image : Contents) (w v : World (machine image)) (e : Entry) → ((t : TaskName) (c : Hart) → w.tasks t ≡ Goes c → (u : Privates) → AsksOk image (ask image c u)) → Counted image w → step (machine image) w e ≡ Some v → Counted image v
counted_step image w v e within k h =
    let x = step_by (machine image) w v e h in
    let a = within x.task x.control x.goes_on (w.privates x.task.proc) in
    let g = got_some (Grows w.shared) _ x.effect (grows_performs image w.shared x.task (ask image x.control (w.privates x.task.proc)).act e.pick a.act) x.comes in
    let same = g.entries in
    let kept = g.procs.kept in
    let procs = k.procs in
    let channels = g.channels in
    let were = k.channels in
    let output = g.output in
    let was = k.output in
    subst (Counted image) x.is (record {
      procs = omega (arith, same, kept, procs);
      live = g.procs.few k.live;
      channels = omega (arith, same, channels, were);
      output = omega (arith, same, output, was);
    })

counted_opening : (image : Contents) (region : ℕ) (globals : List (List ℕ)) (start : Start) → Counted image (opening (machine image) region globals start)
counted_opening image region globals start = on (with_globals region globals [])
  where
    one : live_tasks (new_proc None (first_task 0) ∷ []) ≡ 1
    one = live_cons (new_proc None (first_task 0)) []

    shared : (s : Shared) → s.procs ≡ new_proc None (first_task 0) ∷ [] → s.entries ≡ 0 → s.book.channels ≡ [] → s.output ≡ [] → IsCounted s
    shared s p n c o = record {
      procs = subst (λ l. length l ≤ live_tasks l + s.entries) (sym p) (omega (arith, one));
      live = subst (λ l. live_tasks l ≤ most_tasks) (sym p) (omega (arith, one));
      channels = subst (λ l. length l ≤ s.entries) (sym c) (omega arith);
      output = subst (λ l. length l ≤ longest_text * s.entries) (sym o) (omega arith);
    }

    on : (o : Option (List Live)) → IsCounted (opening_with region o)
    on None = shared (opening_with region None) refl refl refl refl
    on (Some store) = shared (opening_with region (Some store)) refl refl refl refl

pub record Both (image : Contents) (w : World (machine image)) : Type 0 where
  pub good : WorldsAlike (machine image) (machine image) (Same (proper image)) (alike (machine image) (proper image) (stays_proper image)) w w
  pub counts : Counted image w
  pub sound : SoundWorld (machine image) w
  pub fresh : (q : ℕ) → length w.shared.procs ≤ q → w.privates q ≡ (machine image).fresh

module _ (image : Contents) where
  abbrev K : Kind
  K = machine image

  -- the proc of a step is there
  there : (w v : World K) (e : Entry) (x : IsStepBy K w v e) → SoundWorld K w → x.task.proc < length w.shared.procs
  there w v e x sound =
      let r = first_is_ready K w e.proc x.task sound x.over x.first in
      let f = is_first K w e.proc x.task x.first in
      subst (λ p. p < length w.shared.procs) (sym r.home) (slice_get_within w.shared.procs e.proc f.proc f.at)

  grown : (w v : World K) (e : Entry) (x : IsStepBy K w v e) → Both image w → Grows w.shared x.effect
  grown w v e x b =
      let a = ask_ok image x.control (w.privates x.task.proc) (going_good K (proper image) (stays_proper image) w x.task x.control b.good x.goes_on) in
      got_some (Grows w.shared) _ x.effect (grows_performs image w.shared x.task (ask image x.control (w.privates x.task.proc)).act e.pick a.act) x.comes

  both_step : (w v : World K) (e : Entry) → Both image w → step K w e ≡ Some v → Both image v
  both_step w v e b h = record {
    good = good_step K (proper image) (stays_proper image) w v e b.good h;
    counts = counted_step image w v e (λ t c g u. ask_ok image c u (going_good K (proper image) (stays_proper image) w t c b.good g)) b.counts h;
    sound = sound_step K w v e b.sound h;
    fresh = fresh (step_by K w v e h);
  }
    where
      fresh : IsStepBy K w v e → (q : ℕ) → length v.shared.procs ≤ q → v.privates q ≡ K.fresh
      fresh x q le =
          let g = grown w v e x b in
          let more = g.procs.more in
          let here = there w v e x b.sound in
          let count : length v.shared.procs ≡ length x.effect.shared.procs = ap (λ (v : World K). length v.shared.procs) (sym x.is) in
          let old : length w.shared.procs ≤ q = omega (arith, more, count, le) in
          ap (λ (v : World K). v.privates q) (sym x.is) ∙ at_proc_cases (λ y. y ≡ K.fresh) x.task.proc q _ w.privates (λ y. absurd (omega (arith, here, old, y))) (λ _. b.fresh q old)

  both_opening : (region : ℕ) (globals : List (List ℕ)) (start : Start) → IsStart image start → Both image (opening K region globals start)
  both_opening region globals start i = record {
    good = alike_openings K K (Same (proper image)) (alike K (proper image) (stays_proper image)) region globals start i;
    counts = counted_opening image region globals start;
    sound = sound_opening K region globals start;
    fresh = λ q le. refl;
  }

  -- what holds of each world that an image comes to
  pub both_run : (region : ℕ) (globals : List (List ℕ)) (start : Start) (h : List Entry) (w : World K) → IsStart image start → run_from K region globals start h ≡ Some w → Both image w
  both_run region globals start h w i r = along K (Both image) both_step h _ w (both_opening region globals start i) r

  -- a world has as many entries as its schedule
  pub entries_run : (region : ℕ) (globals : List (List ℕ)) (start : Start) (h : List Entry) (w : World K) → IsStart image start → run_from K region globals start h ≡ Some w → w.shared.entries ≡ length h
  entries_run region globals start h w i r =
      counted_from h _ w (both_opening region globals start i) r ∙ ap (λ n. n + length h) (on (with_globals region globals [])) ∙ omega arith
    where
      on : (o : Option (List Live)) → (opening_with region o).entries ≡ 0
      on None = refl
      on (Some store) = refl

      counted_from : (h : List Entry) (w v : World K) → Both image w → run K h (Some w) ≡ Some v → v.shared.entries ≡ w.shared.entries + length h
      counted_from [] w v b r = ap (λ (w : World K). w.shared.entries) (sym (same_Some _ _ r)) ∙ omega arith
      counted_from (e ∷ es) w v b r = of (step K w e) refl r (λ x c k. counted_from es x v c k)
        where
          one : (x : World K) → step K w e ≡ Some x → x.shared.entries ≡ w.shared.entries + 1
          one x h =
              let y = step_by K w x e h in
              ap (λ (x : World K). x.shared.entries) (sym y.is) ∙ ap (λ n. n + 1) (grown w x e y b).entries

          of : (o : Option (World K)) → step K w e ≡ o → run K es o ≡ Some v → ((x : World K) → Both image x → run K es (Some x) ≡ Some v → v.shared.entries ≡ x.shared.entries + length es) → v.shared.entries ≡ w.shared.entries + suc (length es)
          of None h r later = absurd (let no = run_none K es in cc)
          of (Some x) h r later = let n = later x (both_step w x e b h) r in let m = one x h in omega (arith, n, m)
