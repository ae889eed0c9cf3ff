-- Small steps on truths, on what an entry starts, and on the bounds of what is known.
use Rattle.std.proofs.Common.{◌≡◌, ℕ, zero, suc, ◌+◌, ◌<◌, ◌≤◌, Bool, true, false, cond, ◌||◌, ◌==◌, ◌⊎◌, inl, inr, List, [], ◌∷◌, length, Option, Some, None, refl, sym, ap, ◌∙◌, arith}
use Rattle.std.specs.Prelude.{max, nat_le, nat_lt, is_some, is_none}
use Rattle.std.proofs.lemmas.Bool.Decides.{leb_tells}
use Rattle.al_seen.specs.declared.seen.Went.{Went}
use Rattle.al_seen.specs.declared.seen.Seen.{Seen}
use Rattle.al_race.specs.Order.{entry, procs, starts, is_of}
use Rattle.al_race.proofs.Bools.{is_below, and_true}
use Rattle.al_clocks.specs.Clocks.{Clock, nothing, of_some, AllMade}
use Rattle.al_clocks.proofs.Facts.{entry_cases}

pub or_none : (a b : Bool) → (a || b) ≡ false → (a ≡ false) × (b ≡ false)
or_none true b h = absurd (cc)
or_none false b h = (refl, h)

pub none_or : (o : Option Went) → is_some o ≡ false → is_none o ≡ true
none_or None h = refl
none_or (Some w) h = absurd (cc)

pub some_or : (o : Option Went) → is_none o ≡ true → is_some o ≡ false
some_or None h = refl
some_or (Some w) h = absurd (cc)

pub of_entry : (o : Option Seen) (q : ℕ) → is_of o q ≡ true → (d : Seen) × (o ≡ Some d) × ((d.task.proc == q) ≡ true)
of_entry None q h = absurd (cc)
of_entry (Some d) q h = (d, refl, h)

pub clash : (b : Bool) → b ≡ true → b ≡ false → ⊥
clash b h g = let differ = sym h ∙ g in cc

most : (a b : ℕ) → a ≤ b → nat_le a b ≡ true
most a b h = on (leb_tells a b)
  where
    on : ((nat_le a b ≡ true) × (a ≤ b)) ⊎ ((nat_le a b ≡ false) × (b < a)) → nat_le a b ≡ true
    on (inl x) = x.0
    on (inr x) = absurd (let y = x.1 in omega (arith, h, y))

pub not_started : (e : Seen) (past : List Seen) (q : ℕ) → starts e past q ≡ false → q < procs past + e.started → q < procs past
not_started e past q lacks low = on (leb_tells (suc q) (procs past)) (leb_tells (suc q) (procs past + e.started))
  where
    on : ((nat_lt q (procs past) ≡ true) × (suc q ≤ procs past)) ⊎ ((nat_lt q (procs past) ≡ false) × (procs past < suc q)) → ((nat_lt q (procs past + e.started) ≡ true) × (suc q ≤ procs past + e.started)) ⊎ ((nat_lt q (procs past + e.started) ≡ false) × (procs past + e.started < suc q)) → q < procs past
    on (inl x) y = x.1
    on (inr x) (inl y) =
        let high = x.1 in
        absurd (clash (starts e past q) (and_true (nat_le (procs past) q) (nat_lt q (procs past + e.started)) (most (procs past) q (omega (arith, high))) y.0) lacks)
    on (inr x) (inr y) = absurd (let high = y.1 in omega (arith, low, high))

pub of_some_low : (n : ℕ) (b : ℕ → Bool) (clocks : ℕ → Clock) (q m : ℕ) → ((r : ℕ) → clocks r q ≤ m) → of_some n b clocks q ≤ m
of_some_low zero b clocks q m h = omega arith
of_some_low (suc r) b clocks q m h = on (b r) (of_some_low r b clocks q m h)
  where
    on : (v : Bool) → of_some r b clocks q ≤ m → max (cond v (clocks r) nothing q) (of_some r b clocks q) ≤ m
    on true low = let first = h r in omega (arith, first, low)
    on false low = omega (arith, low)

pub made_below : (past : List Seen) → AllMade past → (i : ℕ) (d : Seen) → entry past i ≡ Some d → d.task.proc < procs past
made_below [] all i d h = absurd (cc)
made_below (e ∷ past) all i d h = on (entry_cases e past i d h) (made_below past all.1)
  where
    on : ((i ≡ length past) × (e ≡ d)) ⊎ ((i < length past) × (entry past i ≡ Some d)) → ((k : ℕ) (s : Seen) → entry past k ≡ Some s → s.task.proc < procs past) → d.task.proc < procs past + e.started
    on (inl x) later =
        let low = is_below e.task.proc (procs past) all.0 in
        let same = ap (λ (s : Seen). s.task.proc) x.1 in
        omega (arith, low, same)
    on (inr x) later = let low = later i d x.1 in omega (arith, low)
