-- A task that comes back with what it asked waits for the answer, in a table that stands for the world.
use Rattle.std.proofs.Common.{◌≡◌, ℕ, zero, suc, ◌*◌, ◌^◌, ◌<◌, ◌≤◌, List, [], ◌∷◌, length, Option, Some, None, option_map, option_and_then, refl, sym, ap, ◌∙◌, subst, true, false, Bool, ◌&&◌, ◌⊎◌, inl, inr, arith}
use Rattle.std.specs.Prelude.{slice_set, nat_lt, is_none}
use Rattle.std.specs.List.{AllByRecursion}
use Rattle.std.proofs.lemmas.Option.{same_Some, slice_get_past}
use Rattle.std.proofs.lemmas.Bool.Decides.{leb_tells}
use Rattle.al_world.specs.Procs.{ProcState, first_ready, first_of}
use Rattle.al_world.specs.Control.{Asked, Kind}
use Rattle.al_world.specs.World.{TaskName, Waits, World, Effect, at_task, at_proc}
use Rattle.al_world.specs.Actions.{performs}
use Rattle.al_world.specs.Answers.{IsFit}
use Rattle.al_world.specs.Laws.{IsGoing}
use Rattle.al_world.proofs.Fits.{answers_fit}
use Rattle.al_world.proofs.Maps.{at_proc_cases}
use Rattle.al_world.proofs.Roles.{sound_run, is_ready_to_go}
use Rattle.al_world.proofs.Sound.{length-changed}
use Rattle.rv_exec.specs.declared.run.Asked.{Asked as AskedFields}
use Rattle.rv_exec.specs.declared.run.Privates.{Privates as PrivatesFields}
use Rattle.rv_exec.specs.Hart.{Hart}
use Rattle.rv_exec.specs.Calls.{Privates}
use Rattle.rv_exec.specs.Machine.{machine, ask}
use Rattle.rv_exec.specs.Shown.{hart_of as machine_of, privates_of, asked_of}
use Rattle.al_core.specs.Opening.{globals_of, main_of}
use Rattle.al_core.specs.History.{History, asked_by}
use Rattle.al_core.specs.Lends.{IsAsked}
use Rattle.al_core.specs.Asks.{IsStart, IsAskable}
use Rattle.al_core.specs.Acting.{Machinery, Posed}
use Rattle.al_core.specs.Stands.{Parts, Stands, AreTasks, task_at}
use Rattle.task_book.specs.Table.{Table, at, home_of, live_of, is_away as is_away_in}
use Rattle.task_book.specs.Lending.{re_harted, with_held}
use Rattle.al_core.proofs.Proper.{proper, stays_proper}
use Rattle.al_core.proofs.Reached.{Both, both_run, entries_run, asks_within}
use Rattle.al_core.proofs.Main.{globals_bytes}
use Rattle.al_core.proofs.Naming.{first_named, first_lives}
use Rattle.al_core.proofs.OnWay.{asks_goes}
use Rattle.al_core.proofs.Shadow.{sound_too, fits_too}
use Rattle.al_core.proofs.Returning.{home_named, home_here, home_is}
use Rattle.al_core.proofs.Beginning.{first_within}
use Rattle.al_core.proofs.Tables.{at-set-same, home-harted_of}
use Rattle.al_core.proofs.Posing.{AsksNext, still_asks, loan_away}

pub positive : (k : ℕ) (b : Bool) → (nat_lt 0 k && b) ≡ true → 0 < k
positive k b e = on (leb_tells 1 k)
  where
    on : ((nat_lt 0 k ≡ true) × (1 ≤ k)) ⊎ ((nat_lt 0 k ≡ false) × (k < 1)) → 0 < k
    on (inl y) = y.1
    on (inr y) = absurd (let c = sym e ∙ ap (λ t. t && b) y.0 in cc)

-- the slot of a name
pub record IsSlot (name : ℕ → TaskName) (procs : List (ProcState ℕ)) (p : ℕ) (t : TaskName) : Type 0 where
  pub slot : ℕ
  pub first : first_ready procs p ≡ Some slot
  pub is : name slot ≡ t

pub slot_of : (name : ℕ → TaskName) (procs : List (ProcState ℕ)) (p : ℕ) (t : TaskName) → Some t ≡ option_map name (first_ready procs p) → IsSlot name procs p t
slot_of name procs p t e = on (first_ready procs p) refl e
  where
    on : (o : Option ℕ) → first_ready procs p ≡ o → Some t ≡ option_map name o → IsSlot name procs p t
    on None f e = absurd (cc)
    on (Some u) f e = record { slot = u; first = f; is = sym (same_Some _ _ e) }

module _ (h : History) (x : Parts) (s : Stands h x) (worker : ℕ) (asked : AskedFields) (a : IsAsked h worker asked) (live : s.world.shared.over ≡ None) (start : IsStart h.image (main_of h.image)) where
  abbrev K : Kind
  K = machine h.image

  abbrev w : World K
  w = s.world

  abbrev p : ℕ
  p = asked.held.proc

  abbrev A : AreTasks h.image w x.book.book x.table
  A = s.tasks live

  pub next : AsksNext K w p (asked_of h.image asked)
  next = still_asks h x s worker asked a

  pub ready : (next.task.proc ≡ p) × IsGoing (w.tasks next.task)
  ready = is_ready_to_go K (h.region * 2 ^ 20) (globals_of h.image) (main_of h.image) h.entries w p next.task s.runs live next.first

  pub at_slot : IsSlot (task_at A.name) x.table.procs p next.task
  at_slot = slot_of (task_at A.name) x.table.procs p next.task (sym next.first ∙ first_named A.named p)

  abbrev pub slot : ℕ
  slot = at_slot.slot

  -- the table with the task at home, where it waits
  abbrev pub machinery : Machinery
  machinery = record { store = x.store; book = x.book; table = with_held asked.held x.table; output = x.output }

  pub home_slot : home_of x.table slot ≡ p
  home_slot =
      sym (A.named.homes slot (first_lives A.named p slot at_slot.first)) ∙ ap (λ (t : TaskName). t.proc) at_slot.is ∙ ready.0

  pub home_there : home_of (with_held asked.held x.table) slot ≡ p
  home_there =
      ap (λ (t : Table). home_of t slot) (home_is A.named asked.held slot at_slot.first) ∙ home-harted_of x.table slot (Some asked.held.hart) slot ∙ home_slot

  pub procs_there : (with_held asked.held x.table).procs ≡ x.table.procs
  procs_there = refl

  pub was_away : is_away_in x.table p ≡ true
  was_away = loan_away h x s worker (record { proc = p; since = a.since }) a.loan

  pub within : p < length x.table.privates
  within =
      let lt = first_within x.table.procs p slot at_slot.first in let r = s.parts.procs_room in omega (arith, lt, r)

  pub is_home : is_away_in (with_held asked.held x.table) p ≡ false
  is_home = ap (λ (o : Option PrivatesFields). nat_lt 0 (live_of x.table p) && is_none o) (at-set-same x.table.privates p (Some asked.held.privates) within) ∙ on (nat_lt 0 (live_of x.table p))
    where
      on : (b : Bool) → (b && false) ≡ false
      on true = refl
      on false = refl

  pub both : Both h.image w
  both = both_run h.image (h.region * 2 ^ 20) (globals_of h.image) (main_of h.image) h.entries w start s.runs

  pub entries : w.shared.entries ≡ length h.entries
  entries = entries_run h.image (h.region * 2 ^ 20) (globals_of h.image) (main_of h.image) h.entries w start s.runs

  pub few : w.shared.entries ≤ 2 ^ 26
  few =
      let e = entries in
      let q = s.limited.entries in
      let l = s.limited.quota in
      let m = s.limited.limit in
      omega (arith, e, q, l, m)

  pub act_is : (ask h.image next.control (w.privates p)).act ≡ asked.act
  act_is = ap (λ (b : Asked Hart Privates). b.act) next.asks

  pub control_is : (ask h.image next.control (w.privates p)).control ≡ machine_of asked.held.hart
  control_is = ap (λ (b : Asked Hart Privates). b.control) next.asks

  -- what each action tells fits
  pub fits : (pick : ℕ) (e : Effect) → performs w.shared (task_at A.name slot) asked.act pick ≡ Some e → AllByRecursion (IsFit (at_task (task_at A.name slot) (Waits asked.act (machine_of asked.held.hart)) A.tasks)) e.told
  fits pick e does =
      fits_too K w A.tasks A.privates A.on_way (sound_run K (h.region * 2 ^ 20) (globals_of h.image) (main_of h.image) h.entries w s.runs live) (task_at A.name slot) (Waits asked.act (machine_of asked.held.hart)) e.told
      (subst (λ (t : TaskName). AllByRecursion (IsFit (at_task t (Waits asked.act (machine_of asked.held.hart)) w.tasks)) e.told) (sym at_slot.is)
      (subst (λ (b : Asked Hart Privates). AllByRecursion (IsFit (at_task next.task (Waits b.act b.control) w.tasks)) e.told) asks_there
      (answers_fit K (proper h.image) (stays_proper h.image) (h.region * 2 ^ 20) (globals_of h.image) (main_of h.image) h.entries w next.task next.control pick e start small (globals_bytes h.image) (let f = few in omega (arith, f)) s.runs live (subst (λ q. first_ready w.shared.procs q ≡ Some next.task) (sym ready.0) next.first) next.goes (ap (λ (b : Asked Hart Privates). performs w.shared next.task b.act pick) asks_there ∙ ap (λ (t : TaskName). performs w.shared t asked.act pick) (sym at_slot.is) ∙ does))))
    where
      asks_there : ask h.image next.control (w.privates next.task.proc) ≡ asked_of h.image asked
      asks_there = ap (λ q. ask h.image next.control (w.privates q)) ready.0 ∙ next.asks

      small : h.region * 2 ^ 20 ≤ 0x10000000
      small = let r = s.limited.region in omega (arith, r)

  unfoldable pub posed : Posed h.image slot asked.act machinery
  posed = record {
    shared = w.shared;
    tasks = A.tasks;
    privates = at_proc p (privates_of asked.held.privates) A.privates;
    control = machine_of asked.held.hart;
    name = A.name;
    not_over = live;
    named = home_named A.named asked.held slot at_slot.first;
    here = home_here A.named asked.held slot at_slot.first h.image A.tasks A.privates (Waits asked.act (machine_of asked.held.hart)) A.here (refl, λ _. a.waits) a.bytes;
    sound = sound_too K w A.tasks A.privates A.on_way (sound_run K (h.region * 2 ^ 20) (globals_of h.image) (main_of h.image) h.entries w s.runs live);
    going = asks_goes K (A.tasks (task_at A.name slot)) (A.privates p) (asked_of h.image asked) (asks_so (task_at A.name slot) (sym at_slot.is));
    first = ap (first_ready x.table.procs) home_there ∙ at_slot.first;
    home = ap (is_away_in (with_held asked.held x.table)) home_there ∙ is_home;
    alive = subst (λ q. 0 < live_of x.table q) (sym home_there) (positive (live_of x.table p) (is_none (at x.table.privates p)) was_away);
    askable = subst (IsAskable h.image) act_is (asks_within h.image (h.region * 2 ^ 20) (globals_of h.image) (main_of h.image) h.entries w next.task next.control (w.privates p) start s.runs next.goes).act;
    fits = fits;
    fresh = fresh;
    few_procs = let c = both.counts.procs in let l = both.counts.live in let f = few in omega (arith, c, l, f);
    few_channels = let c = both.counts.channels in let f = few in omega (arith, c, f);
    few_tasks = both.counts.live;
    store_is = s.parts.store;
    book_room = s.parts.book_room;
    tasks_room = ap (λ (t : Table). length t.tasks) (home_is A.named asked.held slot at_slot.first) ∙ length-changed slot (re_harted (Some asked.held.hart)) x.table.tasks ∙ s.parts.tasks_room;
    procs_room = length_set x.table.privates p (Some asked.held.privates) ∙ s.parts.procs_room;
  }
    where
      length_set : {X : Type 0} (xs : List X) (k : ℕ) (y : X) → length (slice_set xs k y) ≡ length xs
      length_set [] k y = refl
      length_set (z ∷ zs) zero y = refl
      length_set (z ∷ zs) (suc k) y = ap suc (length_set zs k y)

      asks_so : (t : TaskName) → next.task ≡ t → asked_by K (A.tasks t) (A.privates p) ≡ Some (asked_of h.image asked)
      asks_so t e = (A.on_way p).first t (next.first ∙ ap Some e) ∙ ap (λ (t : TaskName). asked_by K (w.tasks t) (w.privates p)) (sym e) ∙ ap (λ h. asked_by K h (w.privates p)) next.goes ∙ ap Some next.asks

      none : (q : ℕ) → length w.shared.procs ≤ q → first_ready w.shared.procs q ≡ None
      none q le = ap (option_and_then (λ (r : ProcState TaskName). first_of r.ready)) (slice_get_past w.shared.procs q le)

      fresh : (q : ℕ) → length w.shared.procs ≤ q → at_proc p (privates_of asked.held.privates) A.privates q ≡ K.fresh
      fresh q le =
          at_proc_cases (λ y. y ≡ K.fresh) p q (privates_of asked.held.privates) A.privates (λ e. absurd (let lt = first_within w.shared.procs p next.task next.first in omega (arith, lt, le, e))) (λ _. (A.on_way q).rest (none q le) ∙ both.fresh q le)
