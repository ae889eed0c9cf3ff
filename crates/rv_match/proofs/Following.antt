-- Harts that follow a kind of control step by step ask what it asks.
use Rattle.std.proofs.Common.{◌≡◌, ◌≢◌, ℕ, zero, suc, ◌-◌, List, refl, sym, arith, subst, inl, inr}
use Rattle.al_base.specs.declared.trap.Trap.TheVariants.{Illegal}
use Rattle.al_event.specs.declared.act.Act.{Act}
use Rattle.al_event.specs.declared.act.Act.TheVariants.{Pause, Trap as Traps}
use Rattle.al_world.specs.Control.{Asked}
use Rattle.al_world.specs.Turns.{Move, Moves, Turns, Asks, to_turn, with_turns, ask_within}
use Rattle.rv_isa.specs.declared.image.Contents.{Contents}
use Rattle.rv_exec.specs.Hart.{Hart}
use Rattle.rv_exec.specs.Calls.{Privates}
use Rattle.rv_code.specs.Runs.{Fine, Leads}
use Rattle.rv_code.proofs.Leading.{then_leads, then_comes}
use Rattle.rv_match.specs.Following.{Nears, Going, Asking, GoesOn, Follows, PlainOrSoon}

-- ---- what was led to goes on

module _ (image : Contents) {C U : Type 0} (resume : C → List ℕ → C) (Private : U → Privates → Type 0) (Match : (left : ℕ) → C → Hart → Type 0) where
  pub asking_from : {full : ℕ} {h i : Hart} {p q : Privates} {act : Act} {line : ℕ} {c : C} {u : U} → Leads image h p i q
      → Asking image resume Private Match full i q act line c u → Asking image resume Private Match full h p act line c u
  asking_from l a = record { waiting = a.waiting; privates = a.privates; comes = then_comes image l a.comes; line_is = a.line_is; waits = a.waits; same = a.same }

  pub going_from : {left : ℕ} {h i : Hart} {p q : Privates} {c : C} {u : U} → Leads image h p i q
      → GoesOn image resume Private Match left i q c u → GoesOn image resume Private Match left h p c u
  going_from l g = record { next = g.next; privates = g.privates; leads = then_leads image l g.leads; match = g.match; same = g.same }

  pub from : (full left : ℕ) {h i : Hart} {p q : Privates} (m : Move C U) → Leads image h p i q
      → Follows image resume Private Match full left i q m → Follows image resume Private Match full left h p m
  from full left (Moves c u) l f = going_from l f
  from full (suc (suc left)) (Turns line c u) l f = going_from l f
  from full zero (Turns line c u) l f = asking_from l f
  from full (suc zero) (Turns line c u) l f = asking_from l f
  from full left (Asks act line c u) l f = λ live. asking_from l (f live)

-- ---- a wider relation

module _ (image : Contents) {C U : Type 0} (resume : C → List ℕ → C) (Private : U → Privates → Type 0) (Narrow Wide : (left : ℕ) → C → Hart → Type 0)
    (wider : (left : ℕ) (c : C) (h : Hart) → Narrow left c h → Wide left c h) where
  nears_wider : {left : ℕ} {c : C} {h : Hart} {p : Privates} → Nears image resume Private Narrow left c h p → Nears image resume Private Wide left c h p
  nears_wider {left} {c} n = record { there = n.there; leads = n.leads; match = wider left c n.there n.match }

  going_wider : {full : ℕ} {c : C} {h : Hart} → Going image resume Private Narrow full c h → Going image resume Private Wide full c h
  going_wider g = record { near = g.near; jumps = g.jumps; work = g.work; comes = λ p f. nears_wider (g.comes p f) }

  asking_wider : {full : ℕ} {h : Hart} {p : Privates} {act : Act} {line : ℕ} {c : C} {u : U}
      → Asking image resume Private Narrow full h p act line c u → Asking image resume Private Wide full h p act line c u
  asking_wider a = record {
    waiting = a.waiting;
    privates = a.privates;
    comes = a.comes;
    line_is = a.line_is;
    waits = λ answered words. going_wider (a.waits answered words);
    same = a.same;
  }

  goes_wider : {left : ℕ} {h : Hart} {p : Privates} {c : C} {u : U} → GoesOn image resume Private Narrow left h p c u → GoesOn image resume Private Wide left h p c u
  goes_wider {left} {h} {p} {c} g = record { next = g.next; privates = g.privates; leads = g.leads; match = wider left c g.next g.match; same = g.same }

  pub follows_wider : (full left : ℕ) (h : Hart) (p : Privates) (m : Move C U) → Follows image resume Private Narrow full left h p m → Follows image resume Private Wide full left h p m
  follows_wider full left h p (Moves c u) f = goes_wider f
  follows_wider full (suc (suc left)) h p (Turns line c u) f = goes_wider f
  follows_wider full zero h p (Turns line c u) f = asking_wider f
  follows_wider full (suc zero) h p (Turns line c u) f = asking_wider f
  follows_wider full left h p (Asks act line c u) f = λ live. asking_wider (f live)

-- ---- from step to step, up to an action

module _ (image : Contents) {C U : Type 0} (step : C → U → Move C U) (weight : C → ℕ) (resume : C → List ℕ → C)
    (Private : U → Privates → Type 0) (Match : (left : ℕ) → C → Hart → Type 0) (full : ℕ)
    (follows : (left : ℕ) (c : C) (u : U) (h : Hart) (p : Privates) → Match left c h → Private u p → Fine h p → Follows image resume Private Match full left h p (step c u))
    (comes : (c d : C) (u v : U) → to_turn step weight (weight c) c u ≡ Moves d v → ⊥) where
  -- the private steps up to a turn or an action
  to_turn_follows : (n left : ℕ) (c : C) (u : U) (h : Hart) (p : Privates) → Match left c h → Private u p → Fine h p
      → Follows image resume Private Match full left h p (to_turn step weight n c u)
  to_turn_follows zero left c u h p m s f = follows left c u h p m s f
  to_turn_follows (suc n) left c u h p m s f = on (λ d v i q m s f. to_turn_follows n left d v i q m s f) (step c u) (follows left c u h p m s f) where
    on : ((d : C) (v : U) (i : Hart) (q : Privates) → Match left d i → Private v q → Fine i q → Follows image resume Private Match full left i q (to_turn step weight n d v))
        → (move : Move C U) → Follows image resume Private Match full left h p move
        → Follows image resume Private Match full left h p (elim move as (λ x. Move C U) [ Moves d v ↦ to_turn step weight n d v | Turns line d v ↦ Turns line d v | Asks a line d v ↦ Asks a line d v ])
    on again (Moves d v) g = from image resume Private Match full left (to_turn step weight n d v) g.leads (again d v g.next g.privates g.match g.same (g.leads.fine f))
    on again (Turns line d v) g = g
    on again (Asks a line d v) g = g

  abbrev AsksAs : Hart → Privates → Asked C U → Type 0
  AsksAs h p a = a.act ≢ Traps Illegal → Asking image resume Private Match full h p a.act a.line a.control a.privates

  turns_follow : (n : ℕ) (h : Hart) (p : Privates) (m : Move C U) → Fine h p → ((d : C) (v : U) → m ≡ Moves d v → ⊥)
      → Follows image resume Private Match full (suc n) h p m → AsksAs h p (with_turns step weight n Pause m)
  turns_follow n h p (Asks act line c u) f some a live = a live
  turns_follow n h p (Moves c u) f some a live = absurd (some c u refl)
  turns_follow zero h p (Turns line c u) f some a live = a
  turns_follow (suc n) h p (Turns line c u) f some g live =
      asking_from image resume Private Match g.leads (turns_follow n g.next g.privates (to_turn step weight (weight c) c u) (g.leads.fine f)
      (λ d v e. comes c d u v e)
      (to_turn_follows (weight c) (suc n) c u g.next g.privates g.match g.same (g.leads.fine f)) live)

  -- what the control asks with all turns left, the hart asks
  pub asks_what_is_asked : (n : ℕ) (c : C) (u : U) (h : Hart) (p : Privates) → full ≡ suc n → Going image resume Private Match full c h → Private u p → Fine h p
      → AsksAs h p (ask_within step weight full Pause c u)
  asks_what_is_asked n c u h p e g s f live =
      let near = g.comes p f in
      let e1 : full - 1 ≡ n = omega (arith, e) in
      let all = subst (λ k. Nears image resume Private Match k c h p) e near in
      on e1 all live where
        on : full - 1 ≡ n → Nears image resume Private Match (suc n) c h p → AsksAs h p (with_turns step weight (full - 1) Pause (to_turn step weight (weight c) c u))
        on e1 all = subst (λ (k : ℕ). AsksAs h p (with_turns step weight k Pause (to_turn step weight (weight c) c u))) (sym e1)
            (λ live. asking_from image resume Private Match all.leads (turns_follow n all.there p (to_turn step weight (weight c) c u) (all.leads.fine f)
            (λ d v q. comes c d u v q)
            (to_turn_follows (weight c) (suc n) c u all.there p all.match s (all.leads.fine f)) live))

-- ---- where a hart stands for a control plainly or soon, plainly is enough

module _ (image : Contents) {C U : Type 0} (step : C → U → Move C U) (resume : C → List ℕ → C) (Private : U → Privates → Type 0)
    (Plain : (left : ℕ) → C → Hart → Type 0) (full : ℕ)
    (follows : (left : ℕ) (c : C) (u : U) (h : Hart) (p : Privates) → Plain left c h → Private u p → Fine h p
    → Follows image resume Private (PlainOrSoon image step resume Private Plain full) full left h p (step c u)) where
  pub either_follows : (left : ℕ) (c : C) (u : U) (h : Hart) (p : Privates) → PlainOrSoon image step resume Private Plain full left c h → Private u p → Fine h p
      → Follows image resume Private (PlainOrSoon image step resume Private Plain full) full left h p (step c u)
  either_follows left c u h p (inl m) s f = follows left c u h p m s f
  either_follows left c u h p (inr m) s f =
      follows_wider image resume Private Plain (PlainOrSoon image step resume Private Plain full) (λ left c h m. inl m) full left h p (step c u) (m u p s f)
