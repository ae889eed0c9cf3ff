-- Actions that answer the task which asked, or trap.
use Rattle.std.proofs.Common.{◌≡◌, ℕ, List, [], ◌∷◌, ◌++◌, length, Some, None, Ok, refl, sym, ap, ap₂, ◌∙◌, subst, true, Bool, append-nil}
use Rattle.std.specs.Prelude.{ℤ}
use Rattle.std.specs.List.{AllByRecursion}
use Rattle.al_base.specs.declared.trap.Trap.{Trap}
use Rattle.al_base.specs.declared.over.Over.{Over}
use Rattle.al_base.specs.declared.over.Over.TheVariants.{Stopped, Trapped}
use Rattle.al_event.specs.declared.act.Block.{Block}
use Rattle.al_event.specs.declared.act.Act.{Act}
use Rattle.al_event.specs.declared.act.Act.TheVariants.{Load, Store, Alloc, Free, NewChan, FreeChan, CanRecv, CanSend, Print, Pause, Terminate, Trap as Traps}
use Rattle.al_event.specs.Store.{load, store_word, alloc_block, free_block}
use Rattle.al_store.specs.Memory.{Contents as StoreContents}
use Rattle.rv_isa.specs.declared.image.Contents.{Contents}
use Rattle.al_world.specs.Channels.{Book, Offer, makes, next_number, gives_up, can_recv, can_send}
use Rattle.al_world.specs.World.{TaskName, TalkName, Shared, Held, Waits, at_task}
use Rattle.al_world.specs.Actions.{performs, answer, trapped, ended_by, or_trap, with_store, with_book, with_went, lost, word_of, or_free_trap}
use Rattle.al_world.specs.Renamed.{renamed_book, renamed_result}
use Rattle.al_world.proofs.Maps.{at_task_cases}
use Rattle.al_world.proofs.Sound.{length-changed}
use Rattle.rv_exec.specs.Hart.{Hart}
use Rattle.task_book.specs.Table.{Table, at, lives, is_away}
use Rattle.task_book.specs.Lending.{re_harted, TakesAnswer}
use Rattle.chan_book.specs.Book.{Bounded}
use Rattle.al_core.specs.Stands.{task_at, IsNamed, AreHere}
use Rattle.al_core.specs.Acting.{Machinery, Posed, IsDone}
use Rattle.al_core.proofs.Naming.{talks_named}
use Rattle.al_core.proofs.Holding.{answered}
use Rattle.al_core.proofs.Moving.{book_named}

module _ {image : Contents} {slot : ℕ} {act : Act} {m : Machinery} (P : Posed image slot act m) where
  abbrev pub n : TaskName
  n = task_at P.name slot

  abbrev pub asking : TaskName → Held Hart
  asking = at_task n (Waits act P.control) P.tasks

  pub asking_is : asking n ≡ Waits act P.control
  asking_is = at_task_cases (λ y. y ≡ Waits act P.control) n n _ P.tasks (λ _. refl) (λ ne. absurd (ne refl))

  -- the task is answered
  pub answers : (pick : ℕ) (s : Shared) (words : List ℕ) (store : StoreContents) (book : Bounded) (table : Table) (shown : List ℕ)
      → performs P.shared n act pick ≡ Some (answer s n words)
      → s.procs ≡ P.shared.procs → s.started ≡ P.shared.started → s.over ≡ None
      → IsNamed s.book P.shared.procs P.shared.started P.name book.book m.table
      → book.room ≡ m.book.room
      → TakesAnswer m.table slot words table
      → store ≡ record { region = s.region; blocks = s.store }
      → s.output ≡ P.shared.output ++ shown
      → IsDone image slot act m P pick None (record { store = store; book = book; table = table; output = m.output ++ shown })
  answers pick s words store book table shown does procs started over named room takes store_is output =
      let fits = (P.fits pick (answer s n words) does).0 act P.control asking_is in
      let h : AreHere image asking P.privates P.name m.table = P.here in
      let a = answered named {T = asking} h slot act P.control words table asking_is fits takes in record {
        effect = answer s n words;
        performs_so = does;
        over_is = sym over;
        name = P.name;
        named = subst (λ c. IsNamed s.book s.procs c P.name book.book table) (sym started) (subst (λ l. IsNamed s.book l P.shared.started P.name book.book table) (sym procs) a.0);
        here = a.1;
        away = λ q. ap (λ (t : Table). is_away t q) takes.table;
        store_is = store_is;
        shown = shown;
        output = refl;
        output_is = output;
        book_room = room ∙ P.book_room;
        tasks_room = ap (λ (t : Table). length t.tasks) takes.table ∙ length-changed slot (re_harted (Some takes.hart)) m.table.tasks ∙ P.tasks_room;
        procs_room = subst (λ (t : Table). length t.privates ≡ length t.procs) (sym takes.table) P.procs_room;
      }

  -- the world is over, and nothing else changes
  pub stops : (pick : ℕ) (over : Over) → performs P.shared n act pick ≡ Some (ended_by P.shared over) → IsDone image slot act m P pick (Some over) m
  stops pick over does = record {
    effect = ended_by P.shared over;
    performs_so = does;
    over_is = refl;
    name = P.name;
    named = P.named;
    here = P.here;
    away = λ q. refl;
    store_is = P.store_is;
    shown = [];
    output = sym (append-nil m.output);
    output_is = sym (append-nil P.shared.output);
    book_room = P.book_room;
    tasks_room = P.tasks_room;
    procs_room = P.procs_room;
  }

  pub region_is : m.store.region ≡ P.shared.region
  region_is = ap (λ (s : StoreContents). s.region) P.store_is

  pub blocks_are : m.store.blocks ≡ P.shared.store
  blocks_are = ap (λ (s : StoreContents). s.blocks) P.store_is

-- ---- each action

module _ {image : Contents} {slot : ℕ} {m : Machinery} where
  -- a trap of the store, as an action of some kind gives it
  pub traps : {act : Act} (P : Posed image slot act m) (trap : Trap) → performs P.shared (task_at P.name slot) act 0 ≡ Some (trapped P.shared (task_at P.name slot) trap) → IsDone image slot act m P 0 (Some (Trapped trap (task_at P.name slot).proc P.shared.entries)) m
  traps P trap does = stops P 0 (Trapped trap (task_at P.name slot).proc P.shared.entries) does

  pub done_load : {at size : ℕ} (P : Posed image slot (Load at size) m) (word : ℕ) (table : Table) → load m.store.blocks at size ≡ Ok word → TakesAnswer m.table slot (word ∷ []) table → IsDone image slot (Load at size) m P 0 None (record { store = m.store; book = m.book; table = table; output = m.output ++ [] })
  done_load {at} {size} P word table is takes =
      answers P 0 P.shared (word ∷ []) m.store m.book table []
      (ap (λ r. Some (or_trap P.shared (task_at P.name slot) r (λ word. answer P.shared (task_at P.name slot) (word ∷ [])))) (ap (λ b. load b at size) (sym (blocks_are P)) ∙ is))
      refl refl P.not_over P.named refl takes P.store_is (sym (append-nil P.shared.output))

  pub done_store : {at size word : ℕ} (P : Posed image slot (Store at size word) m) (store : StoreContents) (table : Table) → store_word m.store.blocks at size word ≡ Ok store.blocks → store.region ≡ m.store.region → TakesAnswer m.table slot [] table → IsDone image slot (Store at size word) m P 0 None (record { store = store; book = m.book; table = table; output = m.output ++ [] })
  done_store {at} {size} {word} P store table is region takes =
      answers P 0 (with_store store.blocks P.shared) [] store m.book table []
      (ap (λ r. Some (or_trap P.shared (task_at P.name slot) r (λ store. answer (with_store store P.shared) (task_at P.name slot) []))) (ap (λ b. store_word b at size word) (sym (blocks_are P)) ∙ is))
      refl refl P.not_over P.named refl takes (ap (λ r. record { region = r; blocks = store.blocks }) (region ∙ region_is P)) (sym (append-nil P.shared.output))

  pub done_alloc : {bytes : ℕ} {kind : Block} (P : Posed image slot (Alloc bytes kind) m) (at : ℕ) (store : StoreContents) (table : Table) → alloc_block m.store.region m.store.blocks bytes kind ≡ Ok (at, store.blocks) → store.region ≡ m.store.region → TakesAnswer m.table slot (at ∷ []) table → IsDone image slot (Alloc bytes kind) m P 0 None (record { store = store; book = m.book; table = table; output = m.output ++ [] })
  done_alloc {bytes} {kind} P at store table is region takes =
      answers P 0 (with_store store.blocks P.shared) (at ∷ []) store m.book table []
      (ap (λ r. Some (or_trap P.shared (task_at P.name slot) r (λ r. answer (with_store r.1 P.shared) (task_at P.name slot) (r.0 ∷ [])))) (ap₂ (λ r b. alloc_block r b bytes kind) (sym (region_is P)) (sym (blocks_are P)) ∙ is))
      refl refl P.not_over P.named refl takes (ap (λ r. record { region = r; blocks = store.blocks }) (region ∙ region_is P)) (sym (append-nil P.shared.output))

  pub done_free : {at : ℕ} {kind : Block} (P : Posed image slot (Free at kind) m) (store : StoreContents) (table : Table) → free_block m.store.blocks at kind ≡ Ok store.blocks → store.region ≡ m.store.region → TakesAnswer m.table slot [] table → IsDone image slot (Free at kind) m P 0 None (record { store = store; book = m.book; table = table; output = m.output ++ [] })
  done_free {at} {kind} P store table is region takes =
      answers P 0 (with_store store.blocks P.shared) [] store m.book table []
      (ap (λ r. Some (or_trap P.shared (task_at P.name slot) (or_free_trap kind r) (λ store. answer (with_store store P.shared) (task_at P.name slot) []))) (ap (λ b. free_block b at kind) (sym (blocks_are P)) ∙ is))
      refl refl P.not_over P.named refl takes (ap (λ r. record { region = r; blocks = store.blocks }) (region ∙ region_is P)) (sym (append-nil P.shared.output))

  pub done_make : {capacity words : ℕ} (P : Posed image slot (NewChan capacity words) m) (table : Table) → TakesAnswer m.table slot (next_number m.book.book ∷ []) table → IsDone image slot (NewChan capacity words) m P 0 None (record { store = m.store; book = record { room = m.book.room; book = makes m.book.book capacity words }; table = table; output = m.output ++ [] })
  done_make {capacity} {words} P table takes =
      answers P 0 (with_book (makes P.shared.book capacity words) P.shared) (next_number m.book.book ∷ []) m.store (record { room = m.book.room; book = makes m.book.book capacity words }) table []
      (ap (λ (b : Book TalkName). Some (answer (with_book (makes P.shared.book capacity words) P.shared) (task_at P.name slot) (next_number b ∷ []))) (sym P.named.book_is))
      refl refl P.not_over (book_named P.named (makes P.shared.book capacity words) (makes m.book.book capacity words) (ap (λ (b : Book TalkName). makes b capacity words) P.named.book_is) P.named.waiting) refl takes P.store_is (sym (append-nil P.shared.output))

  pub done_recv : {c : ℕ} (P : Posed image slot (CanRecv c) m) (b : Bool) (table : Table) → can_recv m.book.book c ≡ Ok b → TakesAnswer m.table slot (word_of b ∷ []) table → IsDone image slot (CanRecv c) m P 0 None (record { store = m.store; book = m.book; table = table; output = m.output ++ [] })
  done_recv {c} P b table is takes =
      answers P 0 P.shared (word_of b ∷ []) m.store m.book table []
      (ap (λ r. Some (or_trap P.shared (task_at P.name slot) r (λ b. answer P.shared (task_at P.name slot) (word_of b ∷ [])))) (ap (λ (k : Book TalkName). can_recv k c) (sym P.named.book_is) ∙ (talks_named P.named).can_recv_same c ∙ is))
      refl refl P.not_over P.named refl takes P.store_is (sym (append-nil P.shared.output))

  pub done_send : {c : ℕ} (P : Posed image slot (CanSend c) m) (b : Bool) (table : Table) → can_send m.book.book c ≡ Ok b → TakesAnswer m.table slot (word_of b ∷ []) table → IsDone image slot (CanSend c) m P 0 None (record { store = m.store; book = m.book; table = table; output = m.output ++ [] })
  done_send {c} P b table is takes =
      answers P 0 P.shared (word_of b ∷ []) m.store m.book table []
      (ap (λ r. Some (or_trap P.shared (task_at P.name slot) r (λ b. answer P.shared (task_at P.name slot) (word_of b ∷ [])))) (ap (λ (k : Book TalkName). can_send k c) (sym P.named.book_is) ∙ (talks_named P.named).can_send_same c ∙ is))
      refl refl P.not_over P.named refl takes P.store_is (sym (append-nil P.shared.output))

  pub done_print : {text : List ℕ} (P : Posed image slot (Print text) m) (table : Table) → TakesAnswer m.table slot [] table → IsDone image slot (Print text) m P 0 None (record { store = m.store; book = m.book; table = table; output = m.output ++ text })
  done_print {text} P table takes =
      answers P 0 (record P.shared { output = P.shared.output ++ text }) [] m.store m.book table text refl refl refl P.not_over P.named refl takes P.store_is refl

  pub done_pause : (P : Posed image slot Pause m) (table : Table) → TakesAnswer m.table slot [] table → IsDone image slot Pause m P 0 None (record { store = m.store; book = m.book; table = table; output = m.output ++ [] })
  done_pause P table takes =
      answers P 0 P.shared [] m.store m.book table [] refl refl refl P.not_over P.named refl takes P.store_is (sym (append-nil P.shared.output))

  pub done_terminate : {status : ℤ} (P : Posed image slot (Terminate status) m) → IsDone image slot (Terminate status) m P 0 (Some (Stopped status)) m
  done_terminate {status} P = stops P 0 (Stopped status) refl

  pub done_trap : {trap : Trap} (P : Posed image slot (Traps trap) m) → IsDone image slot (Traps trap) m P 0 (Some (Trapped trap (task_at P.name slot).proc P.shared.entries)) m
  done_trap {trap} P = stops P 0 (Trapped trap (task_at P.name slot).proc P.shared.entries) refl

  -- a channel is given up; in the waiting list none waits for it
  pub done_give_up : {c : ℕ} (P : Posed image slot (FreeChan c) m) (book : Bounded) (table : Table) → gives_up m.book.book c ≡ Ok book.book → book.room ≡ m.book.room → book.book.waiting ≡ m.book.book.waiting → TakesAnswer m.table slot [] table → IsDone image slot (FreeChan c) m P 0 None (record { store = m.store; book = book; table = table; output = m.output ++ [] })
  done_give_up {c} P book table is room same takes =
      answers P 0 (with_went (lost P.shared c) (with_book (renamed_book P.name book.book) P.shared)) [] m.store book table []
      (ap (λ r. Some (or_trap P.shared (task_at P.name slot) r (λ book. answer (with_went (lost P.shared c) (with_book book P.shared)) (task_at P.name slot) []))) (ap (λ (k : Book TalkName). gives_up k c) (sym P.named.book_is) ∙ (talks_named P.named).gives_up_same c ∙ ap (renamed_result P.name) is))
      refl refl P.not_over (book_named P.named (renamed_book P.name book.book) book.book refl (subst (λ ws. AllByRecursion (λ (o : Offer ℕ). lives m.table o.by ≡ true) ws) (sym same) P.named.waiting)) room takes P.store_is (sym (append-nil P.shared.output))
