-- A world after its proc was lent, and after one came back.
use Rattle.std.proofs.Common.{◌≡◌, ◌≢◌, ℕ, suc, ◌+◌, ◌*◌, ◌^◌, ◌<◌, ◌≤◌, List, [], ◌∷◌, take, drop, length, Option, Some, None, option_map, option_and_then, refl, sym, ap, ap₂, ◌∙◌, subst, true, false, ◌==◌, ◌&&◌, ◌||◌, ◌⊎◌, inl, inr, arith, le_refl}
use Rattle.std.specs.Prelude.{slice_set, nat_lt, nat_le, is_none, IsSome, IfSome}
use Rattle.std.specs.Option.{option_map_or}
use Rattle.std.specs.List.{AllByRecursion}
use Rattle.std.proofs.lemmas.Option.{same_Some, slice_get_past}
use Rattle.std.proofs.lemmas.Bool.Decides.{eqb_tells, leb_tells}
use Rattle.al_event.specs.declared.entry.Entry.{Entry}
use Rattle.al_event.specs.declared.entry.Loan.{Loan}
use Rattle.al_world.specs.Channels.{Offer}
use Rattle.al_world.specs.Procs.{ProcState, first_ready}
use Rattle.al_world.specs.Control.{Asked, Kind}
use Rattle.al_world.specs.World.{TaskName, Held, Goes, World, at_task, at_proc}
use Rattle.al_world.specs.Laws.{IsGoing}
use Rattle.al_world.proofs.Lists.{all_to}
use Rattle.al_world.proofs.Maps.{at_proc_cases, at_task_cases}
use Rattle.al_world.proofs.Roles.{is_ready_to_go}
use Rattle.al_world.proofs.Permits.{is_still_lent}
use Rattle.al_world.proofs.Sound.{length-changed}
use Rattle.rv_exec.specs.declared.run.Hart.{Hart as HartFields}
use Rattle.rv_exec.specs.declared.run.Privates.{Privates as PrivatesFields}
use Rattle.rv_exec.specs.declared.run.Held.{Held as HeldFields}
use Rattle.rv_exec.specs.Hart.{Hart}
use Rattle.rv_exec.specs.Calls.{Privates}
use Rattle.rv_exec.specs.Machine.{machine, ask}
use Rattle.rv_exec.specs.Shown.{hart_of as machine_of, privates_of}
use Rattle.al_core.specs.Opening.{globals_of, main_of}
use Rattle.al_core.specs.History.{History, run_along, over_of, asked_by, asked_next, next_ask, loan_of, away, is_away, is_full, lending, settled}
use Rattle.al_core.specs.Lends.{IsLent}
use Rattle.al_core.specs.Stands.{Parts, Stands, AreTasks, IsNamed, AreHere, HasHart, IsOnItsWay, task_at}
use Rattle.task_book.specs.Table.{Table, TaskState, at, lives, home_of, hart_of, live_of, is_away as is_away_in}
use Rattle.task_book.specs.Lending.{lent, re_harted, one_with, first_with, with_held, without}
use Rattle.al_core.proofs.Naming.{first_named, first_lives}
use Rattle.al_core.proofs.OnWay.{asks_goes}
use Rattle.al_core.proofs.Returning.{home_named, home_here}
use Rattle.al_core.proofs.Beginning.{first_within}
use Rattle.al_core.proofs.Branching.{length-set, and_false}
use Rattle.al_core.proofs.Tables.{at-set-same, at-set-other, harted, lives-harted, home-harted_of, hart-harted-same, hart-harted-other}
use Rattle.al_core.proofs.Loans.{one_ended, others_lent, left_loans, ended_count, begun_count, length_loans, loan_set, begun_any, begun_loans}
use Rattle.al_core.proofs.Standing.{over_none}
use Rattle.al_core.proofs.Posing.{AsksNext, asks_next, loan_away, loan_there}
use Rattle.al_core.proofs.Waiting.{IsSlot, slot_of, positive}

-- ---- tables

eq_self : (p : ℕ) → (p == p) ≡ true
eq_self p = on (eqb_tells p p)
  where
    on : ((p == p ≡ true) × (p ≡ p)) ⊎ ((p == p ≡ false) × (p ≢ p)) → (p == p) ≡ true
    on (inl y) = y.0
    on (inr y) = absurd (y.1 refl)

eq_not : (p q : ℕ) → p ≢ q → (p == q) ≡ false
eq_not p q ne = on (eqb_tells p q)
  where
    on : ((p == q ≡ true) × (p ≡ q)) ⊎ ((p == q ≡ false) × (p ≢ q)) → (p == q) ≡ false
    on (inl y) = absurd (ne y.1)
    on (inr y) = y.0

pub take_all : {X : Type 0} (xs : List X) → take (length xs) xs ≡ xs
take_all [] = refl
take_all (x ∷ xs) = ap (λ l. x ∷ l) (take_all xs)

some_positive : (n : ℕ) → 0 < n → nat_lt 0 n ≡ true
some_positive n lt = on (leb_tells 1 n)
  where
    on : ((nat_lt 0 n ≡ true) × (1 ≤ n)) ⊎ ((nat_lt 0 n ≡ false) × (n < 1)) → nat_lt 0 n ≡ true
    on (inl y) = y.0
    on (inr y) = let z = y.1 in absurd (omega (arith, z, lt))

first_with_length : (s : Table) (p : ℕ) (h : Option HartFields) → length (first_with s p h) ≡ length s.tasks
first_with_length s p h = on (first_ready s.procs p)
  where
    on : (o : Option ℕ) → length (one_with o h s.tasks) ≡ length s.tasks
    on None = refl
    on (Some t) = length-changed t (re_harted h) s.tasks

-- a proc that lives was made
live_within : (s : Table) (p : ℕ) → 0 < live_of s p → p < length s.procs
live_within s p lt = on (leb_tells (suc p) (length s.procs))
  where
    on : ((nat_lt p (length s.procs) ≡ true) × (suc p ≤ length s.procs)) ⊎ ((nat_lt p (length s.procs) ≡ false) × (length s.procs < suc p)) → p < length s.procs
    on (inl y) = let z = y.1 in omega (arith, z)
    on (inr y) =
        let z = y.1 in
        let none : live_of s p ≡ 0 = ap (λ (o : Option (ProcState ℕ)). option_map_or (λ (q : ProcState ℕ). q.live) o 0) (slice_get_past s.procs p (omega (arith, z))) in
        absurd (omega (arith, lt, none))

-- private globals go out or come home, and no other proc is less or more away
away_with : (s : Table) (tasks : List (Option TaskState)) (p q : ℕ) (v : Option PrivatesFields) → q ≢ p → is_away_in (record s { tasks = tasks; privates = slice_set s.privates p v }) q ≡ is_away_in s q
away_with s tasks p q v ne = ap (λ (o : Option PrivatesFields). nat_lt 0 (live_of s q) && is_none o) (at-set-other s.privates p q v ne)

pub held_away_other : (s : Table) (held : HeldFields) (q : ℕ) → q ≢ held.proc → is_away_in (with_held held s) q ≡ is_away_in s q
held_away_other s held q ne = away_with s (first_with s held.proc (Some held.hart)) held.proc q (Some held.privates) ne

pub held_away_same : (s : Table) (held : HeldFields) → length s.privates ≡ length s.procs → is_away_in s held.proc ≡ true → is_away_in (with_held held s) held.proc ≡ false
held_away_same s held room away =
    let l = live_within s held.proc (positive (live_of s held.proc) (is_none (at s.privates held.proc)) away) in
    and_false (nat_lt 0 (live_of s held.proc)) _ (ap is_none (at-set-same s.privates held.proc (Some held.privates) (omega (arith, l, room))))

-- ---- what is lent out of a table

pub record IsLentOut (s : Table) (p : ℕ) (held : HeldFields) : Type 0 where
  pub slot : ℕ
  pub first : first_ready s.procs p ≡ Some slot
  pub hart : hart_of s slot ≡ Some held.hart
  pub privates : at s.privates p ≡ Some held.privates
  pub proc : held.proc ≡ p

pub lent_out : (s : Table) (p : ℕ) (held : HeldFields) → lent s p ≡ Some held → IsLentOut s p held
lent_out s p held e = on (first_ready s.procs p) refl e
  where
    last : (t : ℕ) → first_ready s.procs p ≡ Some t → (h : HartFields) → hart_of s t ≡ Some h → (o : Option PrivatesFields) → at s.privates p ≡ o → option_map (λ (v : PrivatesFields). record { proc = p; hart = h; privates = v }) o ≡ Some held → IsLentOut s p held
    last t f h g None a e = absurd (cc)
    last t f h g (Some v) a e =
        let is : record { proc = p; hart = h; privates = v } ≡ held = same_Some _ _ e in record {
          slot = t;
          first = f;
          hart = g ∙ ap (λ (x : HeldFields). Some x.hart) is;
          privates = a ∙ ap (λ (x : HeldFields). Some x.privates) is;
          proc = sym (ap (λ (x : HeldFields). x.proc) is);
        }

    of : (t : ℕ) → first_ready s.procs p ≡ Some t → (o : Option HartFields) → hart_of s t ≡ o → option_and_then (λ (h : HartFields). option_map (λ (v : PrivatesFields). record { proc = p; hart = h; privates = v }) (at s.privates p)) o ≡ Some held → IsLentOut s p held
    of t f None g e = absurd (cc)
    of t f (Some h) g e = last t f h g (at s.privates p) refl e

    on : (o : Option ℕ) → first_ready s.procs p ≡ o → option_and_then (λ t. option_and_then (λ (h : HartFields). option_map (λ (v : PrivatesFields). record { proc = p; hart = h; privates = v }) (at s.privates p)) (hart_of s t)) o ≡ Some held → IsLentOut s p held
    on None f e = absurd (cc)
    on (Some t) f e = of t f (hart_of s t) refl e

-- ---- a proc is lent

module _ (h : History) (x : Parts) (s : Stands h x) (worker p : ℕ) (held : HeldFields) (out : IsLentOut x.table p held) (small : worker < 64) (idle : loan_of h worker ≡ None) (live : s.world.shared.over ≡ None) (room : is_full h ≡ false) (owned : 0 < live_of x.table p) where
  abbrev K : Kind
  K = machine h.image

  abbrev w : World K
  w = s.world

  abbrev A : AreTasks h.image w x.book.book x.table
  A = s.tasks live

  abbrev t : ℕ
  t = out.slot

  abbrev gone : Table
  gone = harted x.table t None

  abbrev pub left : Table
  left = record gone { privates = slice_set x.table.privates p None }

  pub left_is : without p x.table ≡ left
  left_is = ap (λ o. record x.table { tasks = one_with o None x.table.tasks; privates = slice_set x.table.privates p None }) out.first

  slot_lives : lives x.table t ≡ true
  slot_lives = first_lives A.named p t out.first

  first_there : first_ready w.shared.procs p ≡ Some (task_at A.name t)
  first_there = first_named A.named p ∙ ap (option_map (task_at A.name)) out.first

  ready : ((task_at A.name t).proc ≡ p) × IsGoing (w.tasks (task_at A.name t))
  ready = is_ready_to_go K (h.region * 2 ^ 20) (globals_of h.image) (main_of h.image) h.entries w p (task_at A.name t) s.runs live first_there

  home_slot : home_of x.table t ≡ p
  home_slot = sym (A.named.homes t slot_lives) ∙ ready.0

  was_home : is_away_in x.table p ≡ false
  was_home = and_false (nat_lt 0 (live_of x.table p)) _ (ap is_none out.privates)

  within : p < length x.table.privates
  within = let lt = first_within x.table.procs p t out.first in let r = s.parts.procs_room in omega (arith, lt, r)

  now_away : is_away_in left p ≡ true
  now_away =
      ap₂ (λ b (o : Option PrivatesFields). b && is_none o) (some_positive (live_of x.table p) owned) (at-set-same x.table.privates p None within)

  away_other : (q : ℕ) → q ≢ p → is_away_in left q ≡ is_away_in x.table q
  away_other q ne = away_with x.table gone.tasks p q None ne

  old : (u : ℕ) → lives left u ≡ true → lives x.table u ≡ true
  old u l = sym (lives-harted x.table t None u) ∙ l

  new : (u : ℕ) → lives x.table u ≡ true → lives left u ≡ true
  new u l = lives-harted x.table t None u ∙ l

  left_named : IsNamed w.shared.book w.shared.procs w.shared.started A.name x.book.book left
  left_named = record {
    book_is = A.named.book_is;
    procs_is = A.named.procs_is;
    apart = λ u v l m. A.named.apart u v (old u l) (old v m);
    homes = λ u l. A.named.homes u (old u l) ∙ sym (home-harted_of x.table t None u);
    were_started = λ u l. subst (λ q. (task_at A.name u).number < w.shared.started q) (sym (home-harted_of x.table t None u)) (A.named.were_started u (old u l));
    ready = λ q r g. all_to (λ u. lives x.table u ≡ true) (λ u. lives left u ≡ true) new r.ready (A.named.ready q r g);
    parents = λ q r u g e. new u (A.named.parents q r u g e);
    waiting = all_to (λ (o : Offer ℕ). lives x.table o.by ≡ true) (λ (o : Offer ℕ). lives left o.by ≡ true) (λ o l. new o.by l) x.book.book.waiting A.named.waiting;
    here = λ u l e. here u l e (eqb_tells u t);
  }
    where
      here : (u : ℕ) → lives left u ≡ true → hart_of left u ≡ None → ((u == t ≡ true) × (u ≡ t)) ⊎ ((u == t ≡ false) × (u ≢ t)) → (is_away_in left (home_of left u) ≡ true) × (first_ready x.table.procs (home_of left u) ≡ Some u)
      here u l e (inl y) =
          let home : home_of left u ≡ p = home-harted_of x.table t None u ∙ ap (home_of x.table) y.1 ∙ home_slot in
          (ap (is_away_in left) home ∙ now_away, ap (first_ready x.table.procs) home ∙ out.first ∙ ap Some (sym y.1))
      here u l e (inr y) =
          let was : (is_away_in x.table (home_of x.table u) ≡ true) × (first_ready x.table.procs (home_of x.table u) ≡ Some u) = A.named.here u (old u l) (sym (hart-harted-other x.table t None u y.1) ∙ e) in
          let ne : home_of x.table u ≢ p = λ q. (let no = sym was.0 ∙ ap (is_away_in x.table) q ∙ was_home in cc) in
          subst (λ q. (is_away_in left q ≡ true) × (first_ready x.table.procs q ≡ Some u)) (sym (home-harted_of x.table t None u)) (away_other (home_of x.table u) ne ∙ was.0, was.1)

  left_here : AreHere h.image A.tasks A.privates A.name left
  left_here = record {
    harts = λ u g e. harts u g e (eqb_tells u t);
    privates_are = λ q v e. A.here.privates_are q v (was q v e);
    bytes = λ q v e. A.here.bytes q v (was q v e);
  }
    where
      harts : (u : ℕ) (g : HartFields) → hart_of left u ≡ Some g → ((u == t ≡ true) × (u ≡ t)) ⊎ ((u == t ≡ false) × (u ≢ t)) → HasHart (A.tasks (task_at A.name u)) g
      harts u g e (inl y) = absurd (let no = sym (hart-harted-same x.table t None slot_lives) ∙ ap (hart_of left) (sym y.1) ∙ e in cc)
      harts u g e (inr y) = A.here.harts u g (sym (hart-harted-other x.table t None u y.1) ∙ e)

      was : (q : ℕ) (v : PrivatesFields) → at (slice_set x.table.privates p None) q ≡ Some v → at x.table.privates q ≡ Some v
      was q v e = on (eqb_tells q p)
        where
          on : ((q == p ≡ true) × (q ≡ p)) ⊎ ((q == p ≡ false) × (q ≢ p)) → at x.table.privates q ≡ Some v
          on (inl y) = absurd (let no = sym (at-set-same x.table.privates p None within) ∙ ap (at (slice_set x.table.privates p None)) (sym y.1) ∙ e in cc)
          on (inr y) = sym (at-set-other x.table.privates p q None y.1) ∙ e

  -- the world after it
  abbrev pub lent_history : History
  lent_history = lending worker p h

  abbrev pub lent_parts : Parts
  lent_parts = record x { table = left }

  few : worker < length h.loans
  few = let l = s.limited.workers in omega (arith, l, small)

  not_lent : is_away h p ≡ false
  not_lent = sym (s.loans.lent p) ∙ was_home

  not_of : (k : ℕ) (loan : Loan) → loan_of h k ≡ Some loan → loan.proc ≢ p
  not_of k loan e is = let no = sym (loan_there h.loans k loan e) ∙ ap (is_away h) is ∙ not_lent in cc

  pub lent_stands : Stands lent_history lent_parts
  lent_stands = record {
    limited = record {
      image = s.limited.image;
      some_region = s.limited.some_region;
      region = s.limited.region;
      limit = s.limited.limit;
      quota = s.limited.quota;
      entries = one_more;
      workers = length_loans worker (Some mine) h.loans ∙ s.limited.workers;
    };
    world = w;
    runs = s.runs;
    parts = record {
      store = s.parts.store;
      output = s.parts.output;
      dropped = s.parts.dropped;
      over = s.parts.over;
      line = s.parts.line;
      work = s.parts.work;
      little_work = s.parts.little_work;
      book_room = s.parts.book_room;
      tasks_room = length-changed t (re_harted None) x.table.tasks ∙ s.parts.tasks_room;
      procs_room = length-set x.table.privates p None ∙ s.parts.procs_room;
    };
    loans = record {
      lent = λ q. lent_so q (eqb_tells q p);
      one = λ j k a b f g e. one j k a b (begun_loans worker j mine a h.loans f) (begun_loans worker k mine b h.loans g) e;
      since = λ k loan e. since k loan (begun_loans worker k mine loan h.loans e);
      still = λ k loan e. still k loan (begun_loans worker k mine loan h.loans e);
    };
    tasks = λ still. record {
      name = A.name;
      named = left_named;
      tasks = A.tasks;
      privates = A.privates;
      here = left_here;
      on_way = A.on_way;
    };
  }
    where
      mine : Loan
      mine = record { proc = p; since = length h.entries }

      one_more : length h.entries + away lent_history ≤ h.quota
      one_more = on (leb_tells h.quota (length h.entries + away h))
        where
          on : ((nat_le h.quota (length h.entries + away h) ≡ true) × (h.quota ≤ length h.entries + away h)) ⊎ ((nat_le h.quota (length h.entries + away h) ≡ false) × (length h.entries + away h < h.quota)) → length h.entries + away lent_history ≤ h.quota
          on (inl y) = absurd (let no = sym room ∙ y.0 in cc)
          on (inr y) = let z = y.1 in let c = begun_count worker mine h.loans few idle in omega (arith, z, c)

      lent_so : (q : ℕ) → ((q == p ≡ true) × (q ≡ p)) ⊎ ((q == p ≡ false) × (q ≢ p)) → is_away_in left q ≡ is_away lent_history q
      lent_so q (inl y) =
          ap (is_away_in left) y.1 ∙ now_away ∙ sym (ap (is_away lent_history) y.1 ∙ begun_any p worker mine h.loans few idle ∙ ap (λ b. b || is_away h p) (eq_self p))
      lent_so q (inr y) =
          away_other q y.1 ∙ s.loans.lent q ∙ sym (begun_any q worker mine h.loans few idle ∙ ap (λ b. b || is_away h q) (eq_not p q (λ e. y.1 (sym e))))

      one : (j k : ℕ) (a b : Loan) → ((j ≡ worker) × (mine ≡ a)) ⊎ ((j ≢ worker) × (loan_of h j ≡ Some a)) → ((k ≡ worker) × (mine ≡ b)) ⊎ ((k ≢ worker) × (loan_of h k ≡ Some b)) → a.proc ≡ b.proc → j ≡ k
      one j k a b (inl f) (inl g) e = f.0 ∙ sym g.0
      one j k a b (inl f) (inr g) e = absurd (not_of k b g.1 (sym e ∙ sym (ap (λ (l : Loan). l.proc) f.1)))
      one j k a b (inr f) (inl g) e = absurd (not_of j a f.1 (e ∙ sym (ap (λ (l : Loan). l.proc) g.1)))
      one j k a b (inr f) (inr g) e = s.loans.one j k a b f.1 g.1 e

      since : (k : ℕ) (loan : Loan) → ((k ≡ worker) × (mine ≡ loan)) ⊎ ((k ≢ worker) × (loan_of h k ≡ Some loan)) → loan.since ≤ length h.entries
      since k loan (inl f) = subst (λ (l : Loan). l.since ≤ length h.entries) f.1 (le_refl (length h.entries))
      since k loan (inr f) = s.loans.since k loan f.1

      still : (k : ℕ) (loan : Loan) → ((k ≡ worker) × (mine ≡ loan)) ⊎ ((k ≢ worker) × (loan_of h k ≡ Some loan)) → AllByRecursion (λ (e : Entry). loan.proc ≢ e.proc) (drop loan.since h.entries)
      still k loan (inl f) = subst (λ (l : Loan). AllByRecursion (λ (e : Entry). l.proc ≢ e.proc) (drop l.since h.entries)) f.1 (none_left h.entries)
        where
          none_left : (es : List Entry) → AllByRecursion (λ (e : Entry). p ≢ e.proc) (drop (length es) es)
          none_left [] = tt
          none_left (e ∷ es) = none_left es
      still k loan (inr f) = s.loans.still k loan f.1

  -- what was lent is what the task asks next
  pub lent_so : IsLent lent_history worker held
  lent_so = record {
    since = length h.entries;
    loan = loan_set worker (Some (record { proc = p; since = length h.entries })) h.loans few ∙ ap (λ q. Some (record { proc = q; since = length h.entries })) (sym out.proc);
    within = le_refl (length h.entries);
    asks = ap (next_ask h (take (length h.entries) h.entries)) out.proc ∙ ap (λ es. next_ask h es p) (take_all h.entries) ∙ ap (option_and_then (λ w. asked_next K w p)) s.runs ∙ ap (option_and_then (λ (n : TaskName). asked_by K (w.tasks n) (w.privates p))) first_there ∙ sym same ∙ shown;
    bytes = A.here.bytes p held.privates out.privates;
  }
    where
      n : TaskName
      n = task_at A.name t

      same : asked_by K (A.tasks n) (A.privates p) ≡ asked_by K (w.tasks n) (w.privates p)
      same = (A.on_way p).first n first_there

      own : IsGoing (A.tasks n)
      own = asks_goes K (A.tasks n) (A.privates p) (K.ask ready.1.control (w.privates p)) (same ∙ ap (λ k. asked_by K k (w.privates p)) ready.1.is)

      hart_is : machine_of held.hart ≡ own.control
      hart_is = subst (λ k. HasHart k held.hart) own.is (A.here.harts t held.hart out.hart)

      shown : asked_by K (A.tasks n) (A.privates p) ≡ Some (ask h.image (machine_of held.hart) (privates_of held.privates))
      shown = ap (λ k. asked_by K k (A.privates p)) own.is ∙ ap₂ (λ c u. Some (ask h.image c u)) (sym hart_is) (sym (A.here.privates_are p held.privates out.privates))

-- ---- what was lent after some entries is what the world asks next now

module _ (h : History) (x : Parts) (s : Stands h x) (worker : ℕ) (held : HeldFields) (l : IsLent h worker held) where
  abbrev p_1 : ℕ
  p_1 = held.proc

  abbrev a_1 : Asked Hart Privates
  a_1 = ask h.image (machine_of held.hart) (privates_of held.privates)

  still_lent : AsksNext (machine h.image) s.world p_1 a_1
  still_lent = on (run_along h (take l.since h.entries)) refl l.asks
    where
      on : (o : Option (World (machine h.image))) → run_along h (take l.since h.entries) ≡ o → option_and_then (λ w. asked_next (machine h.image) w p_1) o ≡ Some a_1 → AsksNext (machine h.image) s.world p_1 a_1
      on None r e = absurd (cc)
      on (Some w) r e =
          let n = asks_next (machine h.image) w p_1 a_1 e in
          let k = is_still_lent (machine h.image) (h.region * 2 ^ 20) (globals_of h.image) (main_of h.image) h.entries l.since w s.world p_1 n.task r s.runs (s.loans.still worker (record { proc = p_1; since = l.since }) l.loan) n.first in record {
            task = n.task;
            first = k.first;
            control = n.control;
            goes = k.control ∙ n.goes;
            asks = ap ((machine h.image).ask n.control) k.privates ∙ n.asks;
          }

-- ---- a loan ends, and what was lent is home

module _ (h : History) (x : Parts) (s : Stands h x) (worker : ℕ) (held : HeldFields) (since : ℕ) (loan : loan_of h worker ≡ Some (record { proc = held.proc; since = since })) where
  abbrev p_2 : ℕ
  p_2 = held.proc

  abbrev mine_2 : Loan
  mine_2 = record { proc = p_2; since = since }

  pub was_lent : is_away_in x.table p_2 ≡ true
  was_lent = loan_away h x s worker mine_2 loan

  unique : (k : ℕ) (l : Loan) → loan_of h k ≡ Some l → l.proc ≡ p_2 → k ≡ worker
  unique k l e is = s.loans.one k worker l mine_2 e loan is

  pub settled_lent : (q : ℕ) → is_away_in (with_held held x.table) q ≡ is_away (settled worker h) q
  settled_lent q = on (eqb_tells q p_2)
    where
      on : ((q == p_2 ≡ true) × (q ≡ p_2)) ⊎ ((q == p_2 ≡ false) × (q ≢ p_2)) → is_away_in (with_held held x.table) q ≡ is_away (settled worker h) q
      on (inl y) =
          ap (is_away_in (with_held held x.table)) y.1 ∙ held_away_same x.table held s.parts.procs_room was_lent ∙ sym (ap (is_away (settled worker h)) y.1 ∙ one_ended p_2 worker h.loans unique)
      on (inr y) = held_away_other x.table held q y.1 ∙ s.loans.lent q ∙ sym (others_lent q worker mine_2 h.loans loan (λ e. y.1 (sym e)))

  pub settled_one : (j k : ℕ) (a b : Loan) → loan_of (settled worker h) j ≡ Some a → loan_of (settled worker h) k ≡ Some b → a.proc ≡ b.proc → j ≡ k
  settled_one j k a b f g e = s.loans.one j k a b (left_loans worker j a h.loans f).1 (left_loans worker k b h.loans g).1 e

  -- the loans of others are of other procs
  pub settled_other : (k : ℕ) (l : Loan) → loan_of (settled worker h) k ≡ Some l → (l.proc ≢ p_2) × (loan_of h k ≡ Some l)
  settled_other k l e = let r = left_loans worker k l h.loans e in ((λ is. r.0 (unique k l r.1 is)), r.1)

  pub settled_away : away (settled worker h) + 1 ≡ away h
  settled_away = ended_count worker mine_2 h.loans loan

  -- the world is as before, and its tasks are still to be told
  pub settled_stands : (s.world.shared.over ≡ None → AreTasks h.image s.world x.book.book (with_held held x.table)) → Stands (settled worker h) (record x { table = with_held held x.table })
  settled_stands tasks = record {
    limited = record {
      image = s.limited.image;
      some_region = s.limited.some_region;
      region = s.limited.region;
      limit = s.limited.limit;
      quota = s.limited.quota;
      entries = let a = settled_away in let e = s.limited.entries in omega (arith, a, e);
      workers = length_loans worker None h.loans ∙ s.limited.workers;
    };
    world = s.world;
    runs = s.runs;
    parts = record {
      store = s.parts.store;
      output = s.parts.output;
      dropped = s.parts.dropped;
      over = s.parts.over;
      line = s.parts.line;
      work = s.parts.work;
      little_work = s.parts.little_work;
      book_room = s.parts.book_room;
      tasks_room = first_with_length x.table p_2 (Some held.hart) ∙ s.parts.tasks_room;
      procs_room = length-set x.table.privates p_2 (Some held.privates) ∙ s.parts.procs_room;
    };
    loans = record {
      lent = settled_lent;
      one = settled_one;
      since = λ k l e. s.loans.since k l (settled_other k l e).1;
      still = λ k l e. s.loans.still k l (settled_other k l e).1;
    };
    tasks = tasks;
  }

-- what was lent comes back as it was, or further on its way
module _ (h : History) (x : Parts) (s : Stands h x) (worker : ℕ) (held : HeldFields) (l : IsLent h worker held) where
  abbrev K_3 : Kind
  K_3 = machine h.image

  abbrev w_3 : World K_3
  w_3 = s.world

  abbrev p_3 : ℕ
  p_3 = held.proc

  back_tasks : w_3.shared.over ≡ None → AreTasks h.image w_3 x.book.book (with_held held x.table)
  back_tasks live = record {
    name = A.name;
    named = home_named A.named held slot.slot slot.first;
    tasks = T;
    privates = U;
    here = home_here A.named held slot.slot slot.first h.image A.tasks A.privates (Goes (machine_of held.hart)) A.here refl l.bytes;
    on_way = λ q. way q (eqb_tells q p_3);
  }
    where
      A : AreTasks h.image w_3 x.book.book x.table
      A = s.tasks live

      next : AsksNext K_3 w_3 p_3 (ask h.image (machine_of held.hart) (privates_of held.privates))
      next = still_lent h x s worker held l

      slot : IsSlot (task_at A.name) x.table.procs p_3 next.task
      slot = slot_of (task_at A.name) x.table.procs p_3 next.task (sym next.first ∙ first_named A.named p_3)

      n : TaskName
      n = task_at A.name slot.slot

      T : TaskName → Held Hart
      T = at_task n (Goes (machine_of held.hart)) A.tasks

      U : ℕ → Privates
      U = at_proc p_3 (privates_of held.privates) A.privates

      home : next.task.proc ≡ p_3
      home = (is_ready_to_go K_3 (h.region * 2 ^ 20) (globals_of h.image) (main_of h.image) h.entries w_3 p_3 next.task s.runs live next.first).0

      other : (k : TaskName) → k ≢ n → T k ≡ A.tasks k
      other k ne = at_task_cases (λ y. y ≡ A.tasks k) n k (Goes (machine_of held.hart)) A.tasks (λ e. absurd (ne e)) (λ _. refl)

      mine : T n ≡ Goes (machine_of held.hart)
      mine = at_task_cases (λ y. y ≡ Goes (machine_of held.hart)) n n (Goes (machine_of held.hart)) A.tasks (λ _. refl) (λ ne. absurd (ne refl))

      own : U p_3 ≡ privates_of held.privates
      own = at_proc_cases (λ y. y ≡ privates_of held.privates) p_3 p_3 (privates_of held.privates) A.privates (λ _. refl) (λ ne. absurd (ne refl))

      first_n : first_ready w_3.shared.procs p_3 ≡ Some n
      first_n = next.first ∙ ap Some (sym slot.is)

      way : (q : ℕ) → ((q == p_3 ≡ true) × (q ≡ p_3)) ⊎ ((q == p_3 ≡ false) × (q ≢ p_3)) → IsOnItsWay K_3 w_3 T U q
      way q (inl y) = subst (IsOnItsWay K_3 w_3 T U) (sym y.1) (record {
        others = λ k e f. other k (λ is. f (first_n ∙ ap Some (sym is))) ∙ (A.on_way p_3).others k e f;
        rest = λ f. absurd (let no = sym f ∙ first_n in cc);
        first = λ k f. first k (same_Some _ _ (sym first_n ∙ f));
      })
        where
          first : (k : TaskName) → n ≡ k → asked_by K_3 (T k) (U p_3) ≡ asked_by K_3 (w_3.tasks k) (w_3.privates p_3)
          first k is =
              subst (λ k. asked_by K_3 (T k) (U p_3) ≡ asked_by K_3 (w_3.tasks k) (w_3.privates p_3)) is
              (ap₂ (asked_by K_3) mine own ∙ sym (ap (λ k. asked_by K_3 (w_3.tasks k) (w_3.privates p_3)) slot.is ∙ ap (λ k. asked_by K_3 k (w_3.privates p_3)) next.goes ∙ ap Some next.asks))
      way q (inr y) = record {
        others = λ k e f. other k (away k e) ∙ (A.on_way q).others k e f;
        rest = λ f. same ∙ (A.on_way q).rest f;
        first = λ k f. ap₂ (asked_by K_3) (other k (away k (first_home k f))) same ∙ (A.on_way q).first k f;
      }
        where
          away : (k : TaskName) → k.proc ≡ q → k ≢ n
          away k e is = y.1 (sym e ∙ ap (λ (k : TaskName). k.proc) (is ∙ slot.is) ∙ home)

          same : U q ≡ A.privates q
          same = at_proc_cases (λ y. y ≡ A.privates q) p_3 q (privates_of held.privates) A.privates (λ e. absurd (y.1 e)) (λ _. refl)

          first_home : (k : TaskName) → first_ready w_3.shared.procs q ≡ Some k → k.proc ≡ q
          first_home k f = (is_ready_to_go K_3 (h.region * 2 ^ 20) (globals_of h.image) (main_of h.image) h.entries w_3 q k s.runs live f).0

  pub back_stands : Stands (settled worker h) (record x { table = with_held held x.table })
  back_stands = settled_stands h x s worker held l.since l.loan back_tasks

-- a loan of this proc
pub loan_of_proc : (h : History) (worker p : ℕ) → IsSome (loan_of h worker) → IfSome (loan_of h worker) (λ (l : Loan). l.proc ≡ p) → (since : ℕ) × (loan_of h worker ≡ Some (record { proc = p; since = since }))
loan_of_proc h worker p some is = on (loan_of h worker) refl some is
  where
    on : (o : Option Loan) → loan_of h worker ≡ o → IsSome o → IfSome o (λ (l : Loan). l.proc ≡ p) → (since : ℕ) × (loan_of h worker ≡ Some (record { proc = p; since = since }))
    on None e s i = absurd (let x = s in cc)
    on (Some l) e s i = (l.since, e ∙ ap (λ q. Some (record { proc = q; since = l.since })) i)

-- once the world is over it matters no more what comes back
pub back_or_over : (h : History) (x : Parts) (s : Stands h x) (worker : ℕ) (held : HeldFields) (since : ℕ) → loan_of h worker ≡ Some (record { proc = held.proc; since = since }) → (over_of h ≡ None → IsLent h worker held) → Stands (settled worker h) (record x { table = with_held held x.table })
back_or_over h x s worker held since loan lent =
    settled_stands h x s worker held since loan (λ live. back_tasks h x s worker held (lent (over_none h x s ∙ live)) live)
