-- What each action that answers at once comes to, or its trap.
use Rattle.std.proofs.Common.{◌≡◌, ℕ, zero, suc, ◌<◌, ◌≤◌, List, [], ◌∷◌, ◌++◌, length, Option, Some, None, Result, Ok, Err, refl, sym, ap, ap₂, ◌∙◌, subst, true, false, Bool, cond, arith, append-nil}
use Rattle.std.specs.Prelude.{ℤ, IfOk, option_map, option_and_then}
use Rattle.std.proofs.lemmas.Option.{slice_get_past}
use mir.Val.{bool_byte}
use Rattle.al_base.specs.declared.trap.Trap.{Trap}
use Rattle.al_base.specs.declared.trap.Trap.TheVariants.{Tasks, Chan, Busy}
use Rattle.al_base.specs.declared.over.Over.{Over}
use Rattle.al_base.specs.declared.over.Over.TheVariants.{Trapped}
use Rattle.al_event.specs.declared.act.Block.{Block}
use Rattle.al_event.specs.declared.act.Branch.{Branch}
use Rattle.al_event.specs.declared.act.Start.{Start}
use Rattle.al_event.specs.declared.act.Act.{Act}
use Rattle.al_event.specs.declared.act.Act.TheVariants.{Talk, Load, Store, Alloc, Free, NewChan, FreeChan, CanRecv, CanSend, Print, Pause, Terminate, Trap as Traps, End, Proc, Task, Par}
use Rattle.al_event.specs.Store.{load, store_word, alloc_block, free_block}
use Rattle.al_store.specs.Memory.{Contents as StoreContents}
use Rattle.rv_isa.specs.declared.image.Contents.{Contents}
use Rattle.al_world.specs.Channels.{Book, makes, next_number, gives_up, gives_up_one, channel, Channel, with_channel, without_values, is_waited_for, can_recv, can_send, has_bad, ready, is_some_ready, Pair}
use Rattle.al_world.specs.Talks.{goes_with}
use Rattle.al_world.specs.Procs.{is_full}
use Rattle.al_world.specs.World.{TalkName, same_talker, Effect}
use Rattle.al_world.specs.Actions.{at_zero, goes, goes_or_waits, waits_for, talk_of, performs, answer, trapped, or_trap, or_free_trap, free_trap, with_store, with_book, with_went, lost, word_of, starts_proc, starts_one_task, starts_par}
use Rattle.al_world.specs.Renamed.{renamed_result, renamed_pair}
use Rattle.al_world.proofs.Lists.{same_ok}
use Rattle.chan_book.specs.Book.{Bounded}
use Rattle.rv_exec.specs.declared.run.Hart.{Hart as HartFields}
use Rattle.task_book.specs.Table.{Table}
use Rattle.task_book.specs.Lending.{TakesAnswer}
use Rattle.al_core.specs.declared.order.Stop.TheVariants as stops
use Rattle.al_core.specs.declared.order.Begun.{Begun}
use Rattle.al_core.specs.declared.order.Prepared.{Prepared as What}
use Rattle.al_core.specs.declared.order.Prepared.TheVariants as what
use Rattle.al_core.specs.Acting.{Machinery, Posed, IsDone}
use Rattle.al_core.specs.Preparing.{Prepares, NeedsPick, Finishes, IsStarted, IsBegun, with_table}
use Rattle.al_core.proofs.Naming.{talks_named}
use Rattle.al_core.proofs.Acts.{n, stops as stops_by, blocks_are, region_is, done_load, done_store, done_alloc, done_free, done_make, done_recv, done_send, done_print, done_pause, done_terminate, done_trap, done_give_up}
use Rattle.al_core.proofs.Branching.{done_full}
use Rattle.al_core.proofs.Beginning.{length-map}
use Rattle.al_core.proofs.Talking.{done_bad, bad_same}

pub word_is : (b : Bool) → bool_byte b ≡ word_of b
word_is true = refl
word_is false = refl

-- nothing was put out
module _ {image : Contents} {slot : ℕ} {act : Act} {m : Machinery} (P : Posed image slot act m) where
  pub silent : (pick : ℕ) (over : Option Over) (store : StoreContents) (book : Bounded) (table : Table) → IsDone image slot act m P pick over (record { store = store; book = book; table = table; output = m.output ++ [] }) → IsDone image slot act m P pick over (record { store = store; book = book; table = table; output = m.output })
  silent pick over store book table d = subst (λ o. IsDone image slot act m P pick over (record { store = store; book = book; table = table; output = o })) (append-nil m.output) d

  -- it traps
  trap_by : (trap : Trap) → performs P.shared (n P) act 0 ≡ Some (trapped P.shared (n P) trap) → Finishes image slot act m P 0 (what.Stop (stops.Trap trap)) m
  trap_by trap does = stops_by P 0 (Trapped trap (n P).proc P.shared.entries) does

module _ (image : Contents) (m : Machinery) where
  -- ---- the store

  pub load_ok : (at size word : ℕ) → load m.store.blocks at size ≡ Ok word → Prepares image (Load at size) 0 m (what.Answer (Some word)) m
  load_ok at size word is = record {
    table = refl;
    finishes = λ slot table same P. (refl, λ after takes. silent P 0 None m.store m.book after (done_load P word after is takes));
  }

  pub load_err : (at size : ℕ) (trap : Trap) → load m.store.blocks at size ≡ Err trap → Prepares image (Load at size) 0 m (what.Stop (stops.Trap trap)) m
  load_err at size trap is = record {
    table = refl;
    finishes = λ slot table same P. trap_by P trap (ap (λ r. Some (or_trap P.shared (n P) r (λ word. answer P.shared (n P) (word ∷ [])))) (ap (λ b. load b at size) (sym (blocks_are P)) ∙ is));
  }

  pub store_ok : (at size word : ℕ) (store : StoreContents) → store_word m.store.blocks at size word ≡ Ok store.blocks → store.region ≡ m.store.region → Prepares image (Store at size word) 0 m (what.Answer None) (record m { store = store })
  store_ok at size word store is region = record {
    table = refl;
    finishes = λ slot table same P. (refl, λ after takes. silent P 0 None store m.book after (done_store P store after is region takes));
  }

  pub store_err : (at size word : ℕ) (trap : Trap) → store_word m.store.blocks at size word ≡ Err trap → Prepares image (Store at size word) 0 m (what.Stop (stops.Trap trap)) m
  store_err at size word trap is = record {
    table = refl;
    finishes = λ slot table same P. trap_by P trap (ap (λ r. Some (or_trap P.shared (n P) r (λ store. answer (with_store store P.shared) (n P) []))) (ap (λ b. store_word b at size word) (sym (blocks_are P)) ∙ is));
  }

  pub alloc_ok : (bytes : ℕ) (kind : Block) (at : ℕ) (store : StoreContents) → alloc_block m.store.region m.store.blocks bytes kind ≡ Ok (at, store.blocks) → store.region ≡ m.store.region → Prepares image (Alloc bytes kind) 0 m (what.Answer (Some at)) (record m { store = store })
  alloc_ok bytes kind at store is region = record {
    table = refl;
    finishes = λ slot table same P. (refl, λ after takes. silent P 0 None store m.book after (done_alloc P at store after is region takes));
  }

  pub alloc_err : (bytes : ℕ) (kind : Block) (trap : Trap) → alloc_block m.store.region m.store.blocks bytes kind ≡ Err trap → Prepares image (Alloc bytes kind) 0 m (what.Stop (stops.Trap trap)) m
  alloc_err bytes kind trap is = record {
    table = refl;
    finishes = λ slot table same P. trap_by P trap (ap (λ r. Some (or_trap P.shared (n P) r (λ r. answer (with_store r.1 P.shared) (n P) (r.0 ∷ [])))) (ap₂ (λ r b. alloc_block r b bytes kind) (sym (region_is P)) (sym (blocks_are P)) ∙ is));
  }

  pub free_ok : (at : ℕ) (kind : Block) (store : StoreContents) → free_block m.store.blocks at kind ≡ Ok store.blocks → store.region ≡ m.store.region → Prepares image (Free at kind) 0 m (what.Answer None) (record m { store = store })
  free_ok at kind store is region = record {
    table = refl;
    finishes = λ slot table same P. (refl, λ after takes. silent P 0 None store m.book after (done_free P store after is region takes));
  }

  pub free_err : (at : ℕ) (kind : Block) (trap : Trap) → free_block m.store.blocks at kind ≡ Err trap → Prepares image (Free at kind) 0 m (what.Stop (stops.Trap (free_trap kind trap))) m
  free_err at kind trap is = record {
    table = refl;
    finishes = λ slot table same P. trap_by P (free_trap kind trap) (ap (λ r. Some (or_trap P.shared (n P) (or_free_trap kind r) (λ store. answer (with_store store P.shared) (n P) []))) (ap (λ b. free_block b at kind) (sym (blocks_are P)) ∙ is));
  }

  -- ---- channels

  pub make_ok : (capacity words number : ℕ) (book : Bounded) → book ≡ record m.book { book = makes m.book.book capacity words } → number ≡ next_number m.book.book → Prepares image (NewChan capacity words) 0 m (what.Answer (Some number)) (record m { book = book })
  make_ok capacity words number book is number_is = record {
    table = refl;
    finishes = λ slot table same P. (refl, λ after takes. subst (λ (book : Bounded). IsDone image slot (NewChan capacity words) (with_table table m) P 0 None (record { store = m.store; book = book; table = after; output = m.output })) (sym is) (silent P 0 None m.store (record m.book { book = makes m.book.book capacity words }) after (done_make P after (subst (λ k. TakesAnswer table slot (k ∷ []) after) number_is takes))));
  }

  pub recv_ok : (c : ℕ) (b : Bool) (word : ℕ) → can_recv m.book.book c ≡ Ok b → word ≡ word_of b → Prepares image (CanRecv c) 0 m (what.Answer (Some word)) m
  recv_ok c b word is word_is = record {
    table = refl;
    finishes = λ slot table same P. (refl, λ after takes. silent P 0 None m.store m.book after (done_recv P b after is (subst (λ k. TakesAnswer table slot (k ∷ []) after) word_is takes)));
  }

  pub recv_err : (c : ℕ) (trap : Trap) → can_recv m.book.book c ≡ Err trap → Prepares image (CanRecv c) 0 m (what.Stop (stops.Trap trap)) m
  recv_err c trap is = record {
    table = refl;
    finishes = λ slot table same P. trap_by P trap (ap (λ r. Some (or_trap P.shared (n P) r (λ b. answer P.shared (n P) (word_of b ∷ [])))) (ap (λ (k : Book TalkName). can_recv k c) (sym P.named.book_is) ∙ (talks_named P.named).can_recv_same c ∙ is));
  }

  pub send_ok : (c : ℕ) (b : Bool) (word : ℕ) → can_send m.book.book c ≡ Ok b → word ≡ word_of b → Prepares image (CanSend c) 0 m (what.Answer (Some word)) m
  send_ok c b word is word_is = record {
    table = refl;
    finishes = λ slot table same P. (refl, λ after takes. silent P 0 None m.store m.book after (done_send P b after is (subst (λ k. TakesAnswer table slot (k ∷ []) after) word_is takes)));
  }

  pub send_err : (c : ℕ) (trap : Trap) → can_send m.book.book c ≡ Err trap → Prepares image (CanSend c) 0 m (what.Stop (stops.Trap trap)) m
  send_err c trap is = record {
    table = refl;
    finishes = λ slot table same P. trap_by P trap (ap (λ r. Some (or_trap P.shared (n P) r (λ b. answer P.shared (n P) (word_of b ∷ [])))) (ap (λ (k : Book TalkName). can_send k c) (sym P.named.book_is) ∙ (talks_named P.named).can_send_same c ∙ is));
  }

  -- giving a channel up keeps the waiting list
  keeps_waiting : (book after : Book ℕ) (c : ℕ) → gives_up book c ≡ Ok after → after.waiting ≡ book.waiting
  keeps_waiting book after c is = on (channel book.channels c) refl is
    where
      of : (a b : Bool) (ch : Channel) → cond {A = Result (Book ℕ) Trap} a (Err Chan) (cond {A = Result (Book ℕ) Trap} b (Err Busy) (Ok (record book { channels = with_channel c without_values book.channels }))) ≡ Ok after → after.waiting ≡ book.waiting
      of true b ch e = absurd (cc)
      of false true ch e = absurd (cc)
      of false false ch e = sym (ap (λ (k : Book ℕ). k.waiting) (same_ok _ _ e))

      on : (o : Option Channel) → channel book.channels c ≡ o → gives_up_one book c o ≡ Ok after → after.waiting ≡ book.waiting
      on None g e = sym (ap (λ (k : Book ℕ). k.waiting) (same_ok _ _ e))
      on (Some ch) g e = of ch.given_up (is_waited_for book c) ch e

  pub give_ok : (c : ℕ) (book : Bounded) → gives_up m.book.book c ≡ Ok book.book → book.room ≡ m.book.room → Prepares image (FreeChan c) 0 m (what.Answer None) (record m { book = book })
  give_ok c book is room = record {
    table = refl;
    finishes = λ slot table same P. (refl, λ after takes. silent P 0 None m.store book after (done_give_up P book after is room (keeps_waiting m.book.book book.book c is) takes));
  }

  pub give_err : (c : ℕ) (trap : Trap) → gives_up m.book.book c ≡ Err trap → Prepares image (FreeChan c) 0 m (what.Stop (stops.Trap trap)) m
  give_err c trap is = record {
    table = refl;
    finishes = λ slot table same P. trap_by P trap (ap (λ r. Some (or_trap P.shared (n P) r (λ book. answer (with_went (lost P.shared c) (with_book book P.shared)) (n P) []))) (ap (λ (k : Book TalkName). gives_up k c) (sym P.named.book_is) ∙ (talks_named P.named).gives_up_same c ∙ ap (renamed_result P.name) is));
  }

  -- ---- others

  pub print_ok : (text output : List ℕ) → output ≡ m.output ++ text → Prepares image (Print text) 0 m (what.Answer None) (record m { output = output })
  print_ok text output is = record {
    table = refl;
    finishes = λ slot table same P. (refl, λ after takes. subst (λ o. IsDone image slot (Print text) (with_table table m) P 0 None (record { store = m.store; book = m.book; table = after; output = o })) (sym is) (done_print P after takes));
  }

  pub pause : Prepares image Pause 0 m (what.Answer None) m
  pause = record {
    table = refl;
    finishes = λ slot table same P. (refl, λ after takes. silent P 0 None m.store m.book after (done_pause P after takes));
  }

  pub terminate : (status : ℤ) → Prepares image (Terminate status) 0 m (what.Stop (stops.Status status)) m
  terminate status = record { table = refl; finishes = λ slot table same P. done_terminate P }

  pub traps : (t : Trap) → Prepares image (Traps t) 0 m (what.Stop (stops.Trap t)) m
  traps t = record { table = refl; finishes = λ slot table same P. done_trap P }

  pub end : Prepares image End 0 m what.End m
  end = record { table = refl; finishes = λ slot table same P. (refl, refl, refl) }

  -- ---- what starts

  pub task_full : (start : Start) → is_full m.table.procs 1 ≡ true → Prepares image (Task start) 0 m (what.Stop (stops.Trap Tasks)) m
  task_full start full = record {
    table = refl;
    finishes = λ slot table same P. done_full P 1 (starts_one_task P.shared (n P) start) refl (ap (λ l. is_full l 1) same ∙ full);
  }

  pub task_fits : (start : Start) (hart : HartFields) → is_full m.table.procs 1 ≡ false → IsStarted image start hart → Prepares image (Task start) 0 m (what.Task hart) m
  task_fits start hart fine is = record {
    table = refl;
    finishes = λ slot table same P. (refl, refl, record { start = start; is = refl; room = ap (λ l. is_full l 1) same ∙ fine; started = is });
  }

  pub proc_full : (start : Start) → is_full m.table.procs 1 ≡ true → Prepares image (Proc start) 0 m (what.Stop (stops.Trap Tasks)) m
  proc_full start full = record {
    table = refl;
    finishes = λ slot table same P. done_full P 1 (starts_proc P.shared (n P) start) refl (ap (λ l. is_full l 1) same ∙ full);
  }

  pub proc_fits : (start : Start) (begun : Begun) → is_full m.table.procs 1 ≡ false → IsBegun image start begun → Prepares image (Proc start) 0 m (what.Proc begun) m
  proc_fits start begun fine is = record {
    table = refl;
    finishes = λ slot table same P. (refl, refl, record { start = start; is = refl; room = ap (λ l. is_full l 1) same ∙ fine; begins = is });
  }

  pub par_full : (starts : List Start) → is_full m.table.procs (length starts) ≡ true → Prepares image (Par starts) 0 m (what.Stop (stops.Trap Tasks)) m
  par_full starts full = record {
    table = refl;
    finishes = λ slot table same P. done_full P (length starts) (starts_par P.shared (n P) starts) refl (ap (λ l. is_full l (length starts)) same ∙ full);
  }

-- ---- talks

pub positive_of : (k : ℕ) → (k ≡ 0 → ⊥) → 0 < k
positive_of zero not = absurd (not refl)
positive_of (suc k) not = omega arith

zero_none : (k : ℕ) (e : Effect) → 0 < k → at_zero k e ≡ None
zero_none zero e lt = absurd (omega (arith, lt))
zero_none (suc k) e lt = refl

module _ (image : Contents) (m : Machinery) (branches : List Branch) (pick : ℕ) where
  pub talk_goes : has_bad m.book.book branches ≡ false → pick < length (ready m.book.book branches) → Prepares image (Talk branches) pick m what.Goes m
  talk_goes fine lt = record { table = refl; finishes = λ slot table same P. (refl, record { branches = branches; is = refl; usable = fine; within = lt }) }

  pub talk_waits : pick ≡ 0 → has_bad m.book.book branches ≡ false → length (ready m.book.book branches) ≡ 0 → Prepares image (Talk branches) pick m what.Waits m
  talk_waits e fine none = record { table = refl; finishes = λ slot table same P. (refl, e, record { branches = branches; is = refl; usable = fine; none = empty (ready m.book.book branches) none }) }
    where
      empty : {X : Type 0} (xs : List X) → length xs ≡ 0 → xs ≡ []
      empty [] n = refl
      empty (x ∷ xs) n = absurd (omega (arith, n))

  pub talk_bad : pick ≡ 0 → has_bad m.book.book branches ≡ true → Prepares image (Talk branches) pick m (what.Stop (stops.Trap Chan)) m
  talk_bad e bad = record {
    table = refl;
    finishes = λ slot table same P. subst (λ k. IsDone image slot (Talk branches) (with_table table m) P k (Some (Trapped Chan (n P).proc P.shared.entries)) (with_table table m)) (sym e) (done_bad P bad);
  }

module _ (m : Machinery) (branches : List Branch) (pick : ℕ) (some : 0 < pick) where
  pub bad_range : has_bad m.book.book branches ≡ true → NeedsPick (Talk branches) pick m
  bad_range bad = record {
    some = some;
    none = λ image slot table P. ap (λ b. cond b (at_zero pick (trapped P.shared (n P) Chan)) (goes_or_waits P.shared (n P) branches pick (is_some_ready (ready P.shared.book branches)))) (bad_same P ∙ bad) ∙ zero_none pick (trapped P.shared (n P) Chan) some;
  }

  pub past_range : has_bad m.book.book branches ≡ false → length (ready m.book.book branches) ≤ pick → NeedsPick (Talk branches) pick m
  past_range fine past = record {
    some = some;
    none = λ image slot table P. ap (λ b. cond b (at_zero pick (trapped P.shared (n P) Chan)) (goes_or_waits P.shared (n P) branches pick (is_some_ready (ready P.shared.book branches)))) (bad_same P ∙ fine) ∙ on image slot table P (is_some_ready (ready P.shared.book branches));
  }
    where
      many : (image : Contents) (slot : ℕ) (table : Table) (P : Posed image slot (Talk branches) (with_table table m)) → length (ready P.shared.book branches) ≡ length (ready m.book.book branches)
      many image slot table P =
          ap (λ (b : Book TalkName). length (ready b branches)) (sym P.named.book_is) ∙ ap (λ l. length l) ((talks_named P.named).ready_same branches) ∙ length-map (renamed_pair P.name) (ready m.book.book branches)

      on : (image : Contents) (slot : ℕ) (table : Table) (P : Posed image slot (Talk branches) (with_table table m)) (b : Bool) → goes_or_waits P.shared (n P) branches pick b ≡ None
      on image slot table P true =
          let k = many image slot table P in
          ap (λ (o : Option (Pair TalkName)). option_map (goes P.shared (n P)) (option_and_then (λ (p : Pair TalkName). goes_with same_talker P.shared.book (talk_of P.shared (n P)) p.number p.branch p.partner) o)) (slice_get_past (ready P.shared.book branches) pick (omega (arith, k, past)))
      on image slot table P false = zero_none pick (waits_for P.shared (n P) branches) some

-- an answer for each image is one for this
pub prepared_for : {E : Type 0} (r : Result What E) (image : Contents) (act : Act) (m parts : Machinery) → IfOk r (λ w. (image : Contents) → Prepares image act 0 m w parts) → IfOk r (λ w. Prepares image act 0 m w parts)
prepared_for (Ok w) image act m parts h = h image
prepared_for (Err e) image act m parts h = tt
