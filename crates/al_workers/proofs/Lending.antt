-- What is lent under the lock stays what it was, whatever other workers do.
use Rattle.std.proofs.Common.{◌≡◌, ◌≢◌, ℕ, ◌+◌, ◌<◌, ◌≤◌, List, [], ◌∷◌, ◌++◌, length, take, drop, Option, Some, None, IsSome, refl, sym, ap, ap₂, ◌∙◌, subst, append-nil, length-append, arith, inl, inr}
use Rattle.std.specs.Prelude.{◌⊎◌, Result, Ok, Err, OnOk, OnErr}
use Rattle.std.proofs.lemmas.List.{take-append-le, drop_at}
use Rattle.std.proofs.lemmas.List.Elements.{All-nil, All-cons}
use mathlib.Core.List.{IsPrefix}
use Rattle.al_base.specs.declared.over.Over.{Over}
use Rattle.al_event.specs.declared.entry.Entry.{Entry}
use Rattle.rv_isa.specs.declared.image.Contents.{Contents}
use Rattle.rv_exec.specs.declared.run.Held.{Held}
use Rattle.rv_exec.specs.declared.run.Asked.{Asked}
use Rattle.rv_exec.specs.Machine.{ask}
use Rattle.rv_exec.specs.Shown.{hart_of, privates_of, asked_of}
use Rattle.store_lock.specs.declared.pass.Pass.{Pass}
use Rattle.store_lock.specs.declared.turn.Turn.{Turn}
use Rattle.store_lock.specs.Locks.{lock_origin}
use Rattle.store_lock.specs.Passes.{pass_number, own, seen, loan, turn_value, turn_was, HoldsTurn, KnowsSame, IsPassOf, IsTurnOf, Finds, MayFollow, Frees}
use Rattle.al_core.specs.declared.sharing.Terms.{Terms}
use Rattle.al_core.specs.declared.answers.Next.{Next}
use Rattle.al_core.specs.declared.answers.Next.TheVariants.{Held as NextHeld, Others, Full, Over as NextOver}
use Rattle.al_core.specs.declared.answers.After.{After}
use Rattle.al_core.specs.declared.answers.After.TheVariants.{Held as AfterHeld, Idle, Over as AfterOver}
use Rattle.al_core.specs.History.{History, next_ask, over_of, loan_of, lending, settled}
use Rattle.al_core.specs.Lends.{IsLent, IsAsked, IfHeld, UnlessHeld, MatchAfter}
use Rattle.al_core.specs.Sharing.{world_entries, terms_of, world_lent}
use Rattle.al_core.specs.Steps.{AddsEntry, KeepsRest}
use Rattle.al_core.specs.WorldMemo.{world_memo}
use Rattle.al_rounds.proofs.Later.{settled_idle, settled_others, lending_others}
use Rattle.al_workers.specs.Working.{WorldLock, IsWorkersPass, HasTaken, IsLentTo, IsAskedOf, AddsOne}

-- what a task asks next is told by image, region and entries
asks_along : (h h' : History) → h.image ≡ h'.image → h.region ≡ h'.region → (es : List Entry) (p : ℕ) → next_ask h es p ≡ next_ask h' es p
asks_along h h' i r es p = ap₂ (λ (image : Contents) (region : ℕ). next_ask (record h { image = image; region = region }) es p) i r

-- ---- as a turn begins

-- what a pass finds as it takes the turn
pub has_taken : (lock : WorldLock) (old new : Pass) (t : Turn History) → IsWorkersPass lock (pass_number old) old → IsPassOf world_memo lock new → HoldsTurn new → KnowsSame old new
    → IsTurnOf world_memo world_entries lock new t → turn_was t ≡ turn_value t → Finds world_entries terms_of world_lent (lock_origin lock) old (turn_value t) → HasTaken lock new t
has_taken lock old new t w pass holds same turn was f = record {
  pass = pass;
  holds = holds;
  turn = turn;
  was = was;
  small = subst (λ (n : ℕ). n < 64) (sym same.number_is) w.small;
  terms_are = f.fixed_is;
  longer = subst (λ (es : List Entry). IsPrefix es (turn_value t).entries) (sym same.seen_is) f.longer;
  loan_is = ap (λ (n : ℕ). loan_of (turn_value t) n) same.number_is ∙ f.loan_is ∙ sym same.loan_is;
}

-- what the pass knows to be lent is so when it takes the turn again
pub lent_still : (lock : WorldLock) (old new : Pass) (held : Held) → KnowsSame old new → IsLentTo lock old held → IsLentTo lock new held
lent_still lock old new held same l = record {
  since = l.since;
  loan_is = same.loan_is ∙ l.loan_is;
  within = subst (λ (es : List Entry). l.since ≤ length es) (sym same.seen_is) l.within;
  asks = ap (λ (es : List Entry). next_ask (lock_origin lock) (take l.since es) held.proc) same.seen_is ∙ l.asks;
  bytes = l.bytes;
}

pub asked_still : (lock : WorldLock) (old new : Pass) (asked : Asked) → KnowsSame old new → IsAskedOf lock old asked → IsAskedOf lock new asked
asked_still lock old new asked same l = record {
  since = l.since;
  loan_is = same.loan_is ∙ l.loan_is;
  within = subst (λ (es : List Entry). l.since ≤ length es) (sym same.seen_is) l.within;
  asks = ap (λ (es : List Entry). next_ask (lock_origin lock) (take l.since es) asked.held.proc) same.seen_is ∙ l.asks;
  waits = l.waits;
  bytes = l.bytes;
}

module _ (lock : WorldLock) (p : Pass) (t : Turn History) (has : HasTaken lock p t) where
  abbrev world_now : History
  world_now = turn_value t

  image_is : (lock_origin lock).image ≡ world_now.image
  image_is = sym (ap (λ (x : Terms). x.image) has.terms_are)

  region_is : (lock_origin lock).region ≡ world_now.region
  region_is = sym (ap (λ (x : Terms). x.region) has.terms_are)

  -- the entries that the pass has seen stand first
  front_is : (n : ℕ) → n ≤ length (seen p) → take n (seen p) ≡ take n world_now.entries
  front_is n within = sym (ap (take n) (sym has.longer.1) ∙ take-append-le n (seen p) has.longer.0 within)

  still_within : (n : ℕ) → n ≤ length (seen p) → n ≤ length world_now.entries
  still_within n within = let e : length world_now.entries ≡ length (seen p) + length has.longer.0 = ap length (sym has.longer.1) ∙ length-append (seen p) has.longer.0 in omega (arith, e, within)

  asks_here : (n proc : ℕ) → n ≤ length (seen p) → next_ask world_now (take n world_now.entries) proc ≡ next_ask (lock_origin lock) (take n (seen p)) proc
  asks_here n proc within =
      sym (asks_along (lock_origin lock) world_now image_is region_is (take n (seen p)) proc ∙ ap (λ (es : List Entry). next_ask world_now es proc) (front_is n within))

  pub lent_here : (held : Held) → IsLentTo lock p held → IsLent world_now (pass_number p) held
  lent_here held l = record {
    since = l.since;
    loan = has.loan_is ∙ l.loan_is;
    within = still_within l.since l.within;
    asks = asks_here l.since held.proc l.within ∙ l.asks ∙ ap (λ (i : Contents). Some (ask i (hart_of held.hart) (privates_of held.privates))) image_is;
    bytes = l.bytes ∙ ap (λ (i : Contents). i.privates) image_is;
  }

  pub asked_here : (asked : Asked) → IsAskedOf lock p asked → IsAsked world_now (pass_number p) asked
  asked_here asked l = record {
    since = l.since;
    loan = has.loan_is ∙ l.loan_is;
    within = still_within l.since l.within;
    asks = asks_here l.since asked.held.proc l.within ∙ l.asks ∙ ap (λ (i : Contents). Some (asked_of i asked)) image_is;
    waits = l.waits;
    bytes = l.bytes ∙ ap (λ (i : Contents). i.privates) image_is;
  }

  pub idle_here : loan p ≡ None → loan_of world_now (pass_number p) ≡ None
  idle_here none = has.loan_is ∙ none

-- ---- what may stand at the end of a turn

abbrev pub Follows : ℕ → History → History → Type 0
Follows k was new = MayFollow world_entries terms_of world_lent k was new

no_new : (k : ℕ) (was new : History) → terms_of new ≡ terms_of was → new.entries ≡ was.entries → ((m : ℕ) → m ≢ k → loan_of new m ≡ loan_of was m) → Follows k was new
no_new k was new terms entries others = record {
  fixed_is = terms;
  new = [];
  longer = entries ∙ sym (append-nil was.entries);
  own_are = All-nil (λ (e : Entry). e.worker ≡ k);
  others = others;
}

pub same_follows : (k : ℕ) (was new : History) → new ≡ was → Follows k was new
same_follows k was new is = no_new k was new (ap terms_of is) (ap world_entries is) (λ m ne. ap (λ (h : History). loan_of h m) is)

pub lending_follows : (k p : ℕ) (was new : History) → new ≡ lending k p was → Follows k was new
lending_follows k p was new is = subst (Follows k was) (sym is) (no_new k was (lending k p was) refl refl (lending_others k p was))

pub settled_follows : (k : ℕ) (was new : History) → new ≡ settled k was → Follows k was new
settled_follows k was new is = subst (Follows k was) (sym is) (no_new k was (settled k was) refl refl (settled_others k was))

pub picked_follows : (k : ℕ) (was new : History) (next : Next) → IfHeld next (λ held. new ≡ lending k held.proc was) → UnlessHeld next (new ≡ was) → Follows k was new
picked_follows k was new (NextHeld held) lent same = lending_follows k held.proc was new lent
picked_follows k was new Others lent same = same_follows k was new same
picked_follows k was new Full lent same = same_follows k was new same
picked_follows k was new NextOver lent same = same_follows k was new same

terms_kept : (k : ℕ) (was new : History) → KeepsRest k was new → terms_of new ≡ terms_of was
terms_kept k was new r = λ i. record { image = r.image i; region = r.region i; limit = r.limit i; quota = r.quota i; dropped = r.dropped i }

pub over_or : (o : Option Over) → (o ≡ None) ⊎ IsSome o
over_or None = inl refl
over_or (Some over) = inr refl

pub performed_follows : (k p : ℕ) (was new : History) → (over_of was ≡ None → AddsEntry p k was new) → (IsSome (over_of was) → new ≡ settled k was) → KeepsRest k was new → Follows k was new
performed_follows k p was new adds late rest = on (over_or (over_of was))
  where
    on : (over_of was ≡ None) ⊎ IsSome (over_of was) → Follows k was new
    on (inr over) = settled_follows k was new (late over)
    on (inl live) =
        let a = adds live in
        let e : Entry = record { proc = p; pick = a.pick; worker = k } in
        let same : k ≡ k = refl in
        record {
          fixed_is = terms_kept k was new rest;
          new = e ∷ [];
          longer = a.entries;
          own_are = All-cons (λ (e : Entry). e.worker ≡ k) e [] same (All-nil (λ (e : Entry). e.worker ≡ k));
          others = rest.others;
        }

-- with or without memory
pub answered_follows : {E : Type 0} (k p : ℕ) (was new : History) (answer : Result After E) → OnOk answer (over_of was ≡ None → AddsEntry p k was new) → OnOk answer (IsSome (over_of was) → new ≡ settled k was)
    → OnOk answer (KeepsRest k was new) → OnErr answer (new ≡ was) → Follows k was new
answered_follows k p was new (Ok after) adds late rest same = performed_follows k p was new adds late rest
answered_follows k p was new (Err e) adds late rest same = same_follows k was new same

-- ---- once a turn was given up

drop_all : (es : List Entry) → drop (length es) es ≡ []
drop_all es = ap (drop (length es)) (sym (append-nil es)) ∙ drop_at es [] (length es) refl

-- the pass, after a turn that ended with the world `new`
module _ (lock : WorldLock) (t' : Turn History) (old p : Pass) (was new : History) (small : pass_number old < 64) (was_is : turn_was t' ≡ was) (new_is : turn_value t' ≡ new)
    (f : Frees world_memo world_entries world_lent lock t' old p) where
  pub workers_pass : IsWorkersPass lock (pass_number old) p
  workers_pass = record { member = record { pass = f.pass; rests = f.rests; number_is = f.number_is }; small = small }

  own_after : own p ≡ own old ++ drop (length was.entries) new.entries
  own_after = f.own_is ∙ ap₂ (λ (a b : History). own old ++ drop (length a.entries) b.entries) was_is new_is

  pub own_same : new.entries ≡ was.entries → own p ≡ own old
  own_same e = own_after ∙ ap (λ (es : List Entry). own old ++ drop (length was.entries) es) e ∙ ap (λ (es : List Entry). own old ++ es) (drop_all was.entries) ∙ append-nil (own old)

  pub own_more : (e : Entry) → new.entries ≡ was.entries ++ e ∷ [] → own p ≡ own old ++ e ∷ []
  own_more e is = own_after ∙ ap (λ (es : List Entry). own old ++ drop (length was.entries) es) is ∙ ap (λ (es : List Entry). own old ++ es) (drop_at was.entries (e ∷ []) (length was.entries) refl)

  pub loan_after : loan p ≡ loan_of new (pass_number old)
  loan_after = f.loan_is ∙ ap (λ (h : History). loan_of h (pass_number old)) new_is

  seen_after : seen p ≡ new.entries
  seen_after = f.seen_is ∙ ap world_entries new_is

  -- what the world lends then is lent to the pass's worker
  pub lent_out : terms_of new ≡ terms_of (lock_origin lock) → (held : Held) → IsLent new (pass_number old) held → IsLentTo lock p held
  lent_out terms held l =
      let image : new.image ≡ (lock_origin lock).image = ap (λ (x : Terms). x.image) terms in
      let region : new.region ≡ (lock_origin lock).region = ap (λ (x : Terms). x.region) terms in
      record {
        since = l.since;
        loan_is = loan_after ∙ l.loan;
        within = subst (λ (es : List Entry). l.since ≤ length es) (sym seen_after) l.within;
        asks =
            ap (λ (es : List Entry). next_ask (lock_origin lock) (take l.since es) held.proc) seen_after
            ∙ sym (asks_along new (lock_origin lock) image region (take l.since new.entries) held.proc) ∙ l.asks
            ∙ ap (λ (i : Contents). Some (ask i (hart_of held.hart) (privates_of held.privates))) image;
        bytes = l.bytes ∙ ap (λ (i : Contents). i.privates) image;
      }

  pub picked_own : (next : Next) → IfHeld next (λ held. new ≡ lending (pass_number old) held.proc was) → UnlessHeld next (new ≡ was) → own p ≡ own old
  picked_own (NextHeld held) lent same = own_same (ap world_entries lent)
  picked_own Others lent same = own_same (ap world_entries same)
  picked_own Full lent same = own_same (ap world_entries same)
  picked_own NextOver lent same = own_same (ap world_entries same)

  pub picked_held : terms_of was ≡ terms_of (lock_origin lock) → (next : Next) → IfHeld next (λ held. new ≡ lending (pass_number old) held.proc was) → IfHeld next (λ held. IsLent new (pass_number old) held) → IfHeld next (IsLentTo lock p)
  picked_held terms (NextHeld held) lent is = lent_out (ap terms_of lent ∙ terms) held is
  picked_held terms Others lent is = tt
  picked_held terms Full lent is = tt
  picked_held terms NextOver lent is = tt

  pub picked_idle : loan_of was (pass_number old) ≡ None → (next : Next) → UnlessHeld next (new ≡ was) → UnlessHeld next (loan p ≡ None)
  picked_idle none (NextHeld held) same = tt
  picked_idle none Others same = loan_after ∙ ap (λ (h : History). loan_of h (pass_number old)) same ∙ none
  picked_idle none Full same = loan_after ∙ ap (λ (h : History). loan_of h (pass_number old)) same ∙ none
  picked_idle none NextOver same = loan_after ∙ ap (λ (h : History). loan_of h (pass_number old)) same ∙ none

  pub put_back_idle : new ≡ settled (pass_number old) was → loan p ≡ None
  put_back_idle is = loan_after ∙ ap (λ (h : History). loan_of h (pass_number old)) is ∙ settled_idle (pass_number old) was

  pub put_back_own : new ≡ settled (pass_number old) was → own p ≡ own old
  put_back_own is = own_same (ap world_entries is)

  pub performed_own : (proc : ℕ) → (over_of was ≡ None → AddsEntry proc (pass_number old) was new) → (IsSome (over_of was) → new ≡ settled (pass_number old) was) → AddsOne proc (pass_number old) (own old) (own p)
  performed_own proc adds late = on (over_or (over_of was))
    where
      on : (over_of was ≡ None) ⊎ IsSome (over_of was) → AddsOne proc (pass_number old) (own old) (own p)
      on (inr over) = inl (own_same (ap world_entries (late over)))
      on (inl live) = let a = adds live in inr (a.pick, own_more (record { proc = proc; pick = a.pick; worker = pass_number old }) a.entries)

  -- what came of an action, to the pass
  pub performed_after : terms_of was ≡ terms_of (lock_origin lock) → KeepsRest (pass_number old) was new → (L : Held → Type 0) → (after : After)
      → MatchAfter after (λ held. IsLent new (pass_number old) held × L held) (loan_of new (pass_number old) ≡ None) (loan_of new (pass_number old) ≡ None)
      → MatchAfter after (IsLentTo lock p) (loan p ≡ None) (loan p ≡ None)
  performed_after terms rest L (AfterHeld held) is = lent_out (terms_kept (pass_number old) was new rest ∙ terms) held is.0
  performed_after terms rest L Idle is = loan_after ∙ is
  performed_after terms rest L AfterOver is = loan_after ∙ is
