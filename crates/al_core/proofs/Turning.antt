-- The calls of a world, by what stands before and after them.
use Rattle.std.proofs.Common.{◌≡◌, ℕ, ◌<◌, [], length, take, Option, Some, None, option_and_then, refl, sym, ap, ap₂, ◌∙◌, subst, true, false, Bool, arith}
use Rattle.std.specs.Prelude.{IfSome, IfNone, is_some, slice_get}
use Rattle.std.specs.Option.{option_map_or}
use Rattle.al_event.specs.declared.entry.Loan.{Loan}
use Rattle.al_world.specs.Procs.{first_ready, first_of, ProcState}
use Rattle.rv_exec.specs.declared.run.Held.{Held as HeldFields}
use Rattle.rv_exec.specs.declared.run.Asked.{Asked as AskedFields}
use Rattle.rv_exec.specs.Machine.{ask}
use Rattle.rv_exec.specs.Shown.{hart_of as machine_of, privates_of, bytes_of, asked_of, WaitsFor}
use Rattle.task_book.specs.Queues.{has}
use Rattle.task_book.specs.Table.{Table, home_of, ready_of, live_of, can_run}
use Rattle.task_book.specs.Lending.{lent, without}
use Rattle.task_book.specs.Sound.{IsSound}
use Rattle.al_core.specs.History.{History, next_ask, over_of, loan_of, away, is_away, is_full, is_free, has_ready, lending, settled}
use Rattle.al_core.specs.Lends.{IsLent, IsAsked}
use Rattle.al_core.specs.Stands.{Parts, Stands}
use Rattle.al_core.proofs.Standing.{over_none}
use Rattle.al_core.proofs.Loans.{ended_count, one_ended}
use Rattle.al_core.proofs.Loaning.{lent_out, lent_stands, lent_so, left_is, IsLentOut}
use Rattle.al_core.proofs.Choosing.{free_can, some_away, can_free, ready_same}
use Rattle.al_core.proofs.Requiring.{has_first}

-- the first ready task of a proc is in it
pub sound_home : (s : Table) → IsSound s → (p t : ℕ) → first_ready s.procs p ≡ Some t → home_of s t ≡ p
sound_home s sound p t f = (sound.ready p t (on (slice_get s.procs p) refl f)).home
  where
    on : (o : Option (ProcState ℕ)) → slice_get s.procs p ≡ o → option_and_then (λ (q : ProcState ℕ). first_of q.ready) o ≡ Some t → has t (ready_of s p) ≡ true
    on None g e = absurd (cc)
    on (Some q) g e = ap (λ (o : Option (ProcState ℕ)). has t (option_map_or (λ (q : ProcState ℕ). q.ready) o [])) g ∙ has_first t q.ready e

not_false : (b : Bool) → (b ≡ false → ⊥) → b ≡ true
not_false true n = refl
not_false false n = absurd (n refl)

module _ (h : History) (x : Parts) (s : Stands h x) where
  pub live_of_world : over_of h ≡ None → s.world.shared.over ≡ None
  live_of_world e = sym (over_none h x s) ∙ e

  pub lend_can : IsSound x.table → over_of h ≡ None → (p : ℕ) → is_free h p ≡ true → can_run x.table p ≡ true
  lend_can sound live p free =
      not_false (can_run x.table p) (λ e. let no = sym free ∙ free_can h x s (live_of_world live) sound.homes (sound_home x.table sound) p e in cc)

  -- what none can run is not free, and some proc is away
  pub none_free : IsSound x.table → over_of h ≡ None → ((p : ℕ) → can_run x.table p ≡ false) → (p : ℕ) → is_free h p ≡ false
  none_free sound live none p = free_can h x s (live_of_world live) sound.homes (sound_home x.table sound) p (none p)

  pub none_away : IsSound x.table → over_of h ≡ None → ((p : ℕ) → can_run x.table p ≡ false) → 0 < away h
  none_away sound live none = some_away h x s (live_of_world live) sound.homes (sound_home x.table sound) none

  pub some_free : over_of h ≡ None → (p : ℕ) → can_run x.table p ≡ true → is_free h p ≡ true
  some_free live p can = can_free h x s (live_of_world live) p can

  pub choose_some : over_of h ≡ None → (o : Option ℕ) → IfSome o (λ p. can_run x.table p ≡ true) → IfSome o (λ p. is_free h p ≡ true)
  choose_some live None c = tt
  choose_some live (Some p) c = some_free live p c

  pub choose_none : IsSound x.table → over_of h ≡ None → (o : Option ℕ) → IfNone o ((p : ℕ) → can_run x.table p ≡ false) → IfNone o ((p : ℕ) → is_free h p ≡ false)
  choose_none sound live None c = none_free sound live c
  choose_none sound live (Some p) c = tt

  pub choose_away : IsSound x.table → over_of h ≡ None → (o : Option ℕ) → IfNone o ((p : ℕ) → can_run x.table p ≡ false) → IfNone o (0 < away h)
  choose_away sound live None c = none_away sound live c
  choose_away sound live (Some p) c = tt

  pub ready_is : over_of h ≡ None → (p : ℕ) → has_ready h p ≡ is_some (first_ready x.table.procs p)
  ready_is live p = ready_same h x s (live_of_world live) p

  -- the proc of a loan that ended is not away
  pub settled_here : (worker p since : ℕ) → loan_of h worker ≡ Some (record { proc = p; since = since }) → is_away (settled worker h) p ≡ false
  settled_here worker p since e = one_ended p worker h.loans (λ k l f is. s.loans.one k worker l (record { proc = p; since = since }) f e is)

  -- there is room for the entry of a loan
  pub room_for_entry : (worker : ℕ) (loan : Loan) → loan_of h worker ≡ Some loan → length h.entries < h.limit
  room_for_entry worker loan e =
      let c = ended_count worker loan h.loans e in let n = s.limited.entries in let q = s.limited.quota in omega (arith, c, n, q)

  module _ (worker p : ℕ) (held : HeldFields) (out : lent x.table p ≡ Some held) (sound : IsSound x.table) (small : worker < 64) (idle : loan_of h worker ≡ None) (live : over_of h ≡ None) (room : is_full h ≡ false) where
    parts_out : IsLentOut x.table p held
    parts_out = lent_out x.table p held out

    owned : 0 < live_of x.table p
    owned = sound.owned p (rw parts_out.privates refl)

    pub lend_stands : Stands (lending worker p h) (record x { table = without p x.table })
    lend_stands =
        subst (λ t. Stands (lending worker p h) (record x { table = t })) (sym (left_is h x s worker p held parts_out small idle (live_of_world live) room owned)) (lent_stands h x s worker p held parts_out small idle (live_of_world live) room owned)

    pub lend_lent : IsLent (lending worker p h) worker held
    lend_lent = lent_so h x s worker p held parts_out small idle (live_of_world live) room owned

    pub lend_proc : held.proc ≡ p
    lend_proc = parts_out.proc

-- a copy is lent as well
pub copy_lent : (h : History) (worker : ℕ) (held copy : HeldFields) → IsLent h worker held → machine_of copy.hart ≡ machine_of held.hart → privates_of copy.privates ≡ privates_of held.privates → bytes_of copy.privates ≡ bytes_of held.privates → copy.proc ≡ held.proc → IsLent h worker copy
copy_lent h worker held copy l hart privates bytes proc = record {
  since = l.since;
  loan = l.loan ∙ ap (λ q. Some (record { proc = q; since = l.since })) (sym proc);
  within = l.within;
  asks = ap (next_ask h (take l.since h.entries)) proc ∙ l.asks ∙ ap₂ (λ c u. Some (ask h.image c u)) (sym hart) (sym privates);
  bytes = bytes ∙ l.bytes;
}

-- what it asks at the end of its stretch
pub asked_lent : (h : History) (worker : ℕ) (held : HeldFields) (asked : AskedFields) → IsLent h worker held → asked_of h.image asked ≡ ask h.image (machine_of held.hart) (privates_of held.privates) → WaitsFor asked.held.hart asked.act → asked.held.proc ≡ held.proc → bytes_of asked.held.privates ≡ bytes_of held.privates → IsAsked h worker asked
asked_lent h worker held asked l asks waits proc bytes = record {
  since = l.since;
  loan = l.loan ∙ ap (λ q. Some (record { proc = q; since = l.since })) (sym proc);
  within = l.within;
  asks = ap (next_ask h (take l.since h.entries)) proc ∙ l.asks ∙ ap Some (sym asks);
  waits = waits;
  bytes = bytes ∙ l.bytes;
}

-- further on in the same stretch
pub later_lent : (h : History) (worker : ℕ) (held later : HeldFields) → IsLent h worker held → ask h.image (machine_of later.hart) (privates_of later.privates) ≡ ask h.image (machine_of held.hart) (privates_of held.privates) → later.proc ≡ held.proc → bytes_of later.privates ≡ bytes_of held.privates → IsLent h worker later
later_lent h worker held later l asks proc bytes = record {
  since = l.since;
  loan = l.loan ∙ ap (λ q. Some (record { proc = q; since = l.since })) (sym proc);
  within = l.within;
  asks = ap (next_ask h (take l.since h.entries)) proc ∙ l.asks ∙ ap Some (sym asks);
  bytes = bytes ∙ l.bytes;
}
