-- A rule that is asked: what is made where it holds, and the fault where it does not.
use Rattle.std.proofs.Common.{◌≡◌, ℕ, Bool, true, false, ◌&&◌, ◌||◌, ◌==◌, List, [], ◌∷◌, ◌++◌, refl, ap, ◌∙◌}
use Rattle.std.proofs.lemmas.Bool.{eq-eqb}
use Rattle.al_base.specs.declared.place.Place.{Place}
use Rattle.al_rules.specs.declared.fault.TypeFault.{TypeFault}
use Rattle.al_rules.specs.declared.fault.TypeStop.{TypeStop}
use Rattle.al_rules.specs.declared.fault.TypeStop.TheVariants.{Fault as Broken}
use Rattle.al_rules.specs.Outcome.{Good, Bad, ask, fault, judge, same_place, same_fault, among, permits}

same-place : (p : Place) → same_place p p ≡ true
same-place p = ap (λ b. b && (p.col == p.col)) (eq-eqb p.line p.line refl) ∙ eq-eqb p.col p.col refl

pub same-fault : (f : TypeFault) → same_fault f f ≡ true
same-fault f = ap (λ b. b && same_place f.place f.place) (eq-eqb f.rule f.rule refl) ∙ same-place f.place

pub asked-good : {B : Type 0} (n : ℕ) (at : Place) (h : Bool) (b : B) → h ≡ true → judge (ask n at h) b ≡ Good b
asked-good n at h b is = ap (λ t. judge (ask n at t) b) is

pub first-permits : {B : Type 0} (n : ℕ) (at : Place) (fs : List TypeFault) (b : B) (s : TypeStop) → s ≡ Broken (fault n at) → permits (judge (ask n at false ++ fs) b) s ≡ true
first-permits n at fs b s e = ap (permits (judge (fault n at ∷ fs) b)) e ∙ ap (λ t. t || among (fault n at) fs) (same-fault (fault n at))

pub asked-bad : {B : Type 0} (n : ℕ) (at : Place) (h : Bool) (b : B) (s : TypeStop) → h ≡ false → s ≡ Broken (fault n at) → permits (judge (ask n at h) b) s ≡ true
asked-bad n at h b s is e = ap (λ t. permits (judge (ask n at t) b) s) is ∙ first-permits n at [] b s e

pub twice-good : {B : Type 0} (n m : ℕ) (at : Place) (h k : Bool) (b : B) → h ≡ true → k ≡ true → judge (ask n at h ++ ask m at k) b ≡ Good b
twice-good n m at h k b is so = ap (λ t. judge (ask n at t ++ ask m at k) b) is ∙ ap (λ t. judge (ask m at t) b) so

pub twice-first : {B : Type 0} (n m : ℕ) (at : Place) (h k : Bool) (b : B) (s : TypeStop) → h ≡ false → s ≡ Broken (fault n at) → permits (judge (ask n at h ++ ask m at k) b) s ≡ true
twice-first n m at h k b s is e = ap (λ t. permits (judge (ask n at t ++ ask m at k) b) s) is ∙ first-permits n at (ask m at k) b s e

pub twice-second : {B : Type 0} (n m : ℕ) (at : Place) (h k : Bool) (b : B) (s : TypeStop) → h ≡ true → k ≡ false → s ≡ Broken (fault m at) → permits (judge (ask n at h ++ ask m at k) b) s ≡ true
twice-second n m at h k b s is so e = ap (λ t. permits (judge (ask n at t ++ ask m at k) b) s) is ∙ asked-bad m at k b s so e

-- what must be there is missing
pub lack-permits : (B : Type 0) (n : ℕ) (at : Place) (s : TypeStop) → s ≡ Broken (fault n at) → permits {A = B} (Bad (fault n at ∷ [])) s ≡ true
lack-permits B n at s e = ap (permits {A = B} (Bad (fault n at ∷ []))) e ∙ ap (λ t. t || false) (same-fault (fault n at))

pub ruleset asking = (lack-permits, asked-good, asked-bad, twice-good, twice-first, twice-second)
