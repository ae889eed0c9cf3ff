-- Channels, the waiting list and ready lists under other names of tasks. What a task is called by does not matter, as long
-- as two names are of one task exactly where their new names are.
use Rattle.std.specs.Prelude.{ℕ, ◌≡◌, Bool, List, map, Some, option_map, Result, Ok, Err}
use Rattle.al_base.specs.declared.trap.Trap.{Trap}
use Rattle.al_event.specs.declared.act.Branch.{Branch}
use Rattle.al_world.specs.Channels.{Offer, Book, Pair, ready, gives_up, can_recv, can_send}
use Rattle.al_world.specs.Talks.{Went, Transfer, Put, Get, Lost, Woken, Fired, blocks, fires}
use Rattle.al_world.specs.Procs.{ProcState, Ended, first_ready, joins_ready, leaves_ready, starts_in_proc, live_tasks, ends}
use Rattle.al_world.specs.Transfers.{IsIn}

module _ {A B : Type 0} (f : A → B) where
  abbrev pub renamed_offer : Offer A → Offer B
  renamed_offer o = record { by = f o.by; number = o.number; branch = o.branch }

  abbrev pub renamed_book : Book A → Book B
  renamed_book book = record { channels = book.channels; waiting = map renamed_offer book.waiting }

  abbrev pub renamed_pair : Pair A → Pair B
  renamed_pair p = record { number = p.number; branch = p.branch; partner = option_map renamed_offer p.partner }

  abbrev pub renamed_woken : Woken A → Woken B
  renamed_woken w = record { by = f w.by; branch = w.branch; words = w.words }

  abbrev pub renamed_went : Went A → Went B
  renamed_went (Transfer c s r words) = Transfer c (f s) (f r) words
  renamed_went (Put c s words) = Put c (f s) words
  renamed_went (Get c r words) = Get c (f r) words
  renamed_went (Lost c values) = Lost c values

  abbrev pub renamed_fired : Fired A → Fired B
  renamed_fired x = record {
    book = renamed_book x.book;
    branch = x.branch;
    words = x.words;
    woke = option_map renamed_woken x.woke;
    went = map renamed_went x.went;
  }

  abbrev pub renamed_result : Result (Book A) Trap → Result (Book B) Trap
  renamed_result (Ok book) = Ok (renamed_book book)
  renamed_result (Err trap) = Err trap

  abbrev pub renamed_proc : ProcState A → ProcState B
  renamed_proc q = record { ready = map f q.ready; live = q.live; parent = option_map f q.parent }

  abbrev pub renamed_procs : List (ProcState A) → List (ProcState B)
  renamed_procs procs = map renamed_proc procs

  abbrev pub renamed_ended : Ended A → Ended B
  renamed_ended e = record { procs = renamed_procs e.procs; proc_ended = e.proc_ended; woke = option_map f e.woke }

  -- two names of branches that wait are of one task exactly where their new names are
  pub record AgreeInWaiting (same_a : A → A → Bool) (same_b : B → B → Bool) (waiting : List (Offer A)) : Type 0 where
    pub agree : (o x : Offer A) → IsIn waiting o → IsIn waiting x → same_b (f o.by) (f x.by) ≡ same_a o.by x.by

  -- so are two names of tasks that wait for a proc, and they are in the proc that they were in
  pub record AgreeInParents (same_a : A → A → Bool) (same_b : B → B → Bool) (home_a : A → ℕ) (home_b : B → ℕ) (procs : List (ProcState A)) : Type 0 where
    pub agree : (q r : ProcState A) (t u : A) → IsIn procs q → IsIn procs r → q.parent ≡ Some t → r.parent ≡ Some u → same_b (f t) (f u) ≡ same_a t u
    pub homes : (q : ProcState A) (t : A) → IsIn procs q → q.parent ≡ Some t → home_b (f t) ≡ home_a t

-- what talks and channels do is the same under other names
pub record TalksAreRenamed {A B : Type 0} (f : A → B) (same_a : A → A → Bool) (same_b : B → B → Bool) (book : Book A) : Type 0 where
  pub ready_same : (branches : List Branch) → ready (renamed_book f book) branches ≡ map (renamed_pair f) (ready book branches)
  pub fires_same : (t : A) (branches : List Branch) (pick : ℕ) → fires same_b (renamed_book f book) (f t) branches pick ≡ option_map (renamed_fired f) (fires same_a book t branches pick)
  pub blocks_same : (t : A) (branches : List Branch) → blocks (renamed_book f book) (f t) branches ≡ renamed_book f (blocks book t branches)
  pub gives_up_same : (c : ℕ) → gives_up (renamed_book f book) c ≡ renamed_result f (gives_up book c)
  pub can_recv_same : (c : ℕ) → can_recv (renamed_book f book) c ≡ can_recv book c
  pub can_send_same : (c : ℕ) → can_send (renamed_book f book) c ≡ can_send book c

-- what ready lists do is the same under other names
pub record ProcsAreRenamed {A B : Type 0} (f : A → B) (same_a : A → A → Bool) (same_b : B → B → Bool) (home_a : A → ℕ) (home_b : B → ℕ) (procs : List (ProcState A)) : Type 0 where
  pub first_same : (p : ℕ) → first_ready (renamed_procs f procs) p ≡ option_map f (first_ready procs p)
  pub joins_same : (p : ℕ) (t : A) → joins_ready p (f t) (renamed_procs f procs) ≡ renamed_procs f (joins_ready p t procs)
  pub leaves_same : (p : ℕ) → leaves_ready p (renamed_procs f procs) ≡ renamed_procs f (leaves_ready p procs)
  pub starts_same : (p : ℕ) (t : A) → starts_in_proc p (f t) (renamed_procs f procs) ≡ renamed_procs f (starts_in_proc p t procs)
  pub live_same : live_tasks (renamed_procs f procs) ≡ live_tasks procs
  pub ends_same : (p : ℕ) → ends same_b home_b (renamed_procs f procs) p ≡ renamed_ended f (ends same_a home_a procs p)
