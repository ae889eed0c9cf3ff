-- The words of each start that a program has are words of the machine.
use Rattle.std.proofs.Common.{◌≡◌, ℕ, ◌%◌, ◌^◌, ◌<◌, ◌≤◌, List, [], ◌∷◌, map, arith, lit<}
use Rattle.std.proofs.Math.Nat.{mod-lt, pow-le-pow_right}
use Rattle.std.specs.List.{AllByRecursion, flat_map}
use Rattle.al_event.specs.declared.act.Start.{Start}
use Rattle.al_typed.specs.declared.layout.Unit.{Unit}
use Rattle.al_typed.specs.declared.program.Function.{Function}
use Rattle.al_typed.specs.declared.program.Program.{Program}
use Rattle.al_typed.specs.declared.ty.Ty.{Ty}
use Rattle.al_typed.specs.Layout.{unit_at}
use Rattle.al_typed.specs.Typed.{parameter_types}
use Rattle.al_meaning.specs.Here.{units_in}
use Rattle.al_lowered.specs.Rules.{AreOf, given_units, IsKnownStart}
use Rattle.rv_compiled.proofs.Units.{AreUnits, each_append, units_are}

first_is : (a b : ℕ) (xs ys : List ℕ) → a ∷ xs ≡ b ∷ ys → a ≡ b
first_is a b xs ys e = cc

rest_is : (a b : ℕ) (xs ys : List ℕ) → a ∷ xs ≡ b ∷ ys → xs ≡ ys
rest_is a b xs ys e = cc

small_cut : (w size : ℕ) → size ≤ 4 → w % 256 ^ size ≡ w → w < 2 ^ 32
small_cut w size few e =
    let none : 0 ≤ size = omega arith in
    let low : 256 ^ 0 ≤ 256 ^ size = pow-le-pow_right {n = 256} (lit< tt) {i = 0} {j = size} none in
    let high : 256 ^ size ≤ 256 ^ 4 = pow-le-pow_right {n = 256} (lit< tt) {i = size} {j = 4} few in
    let some : 0 < 256 ^ size = omega (arith, low) in
    let lt = mod-lt w some in
    omega (arith, high, e, lt)

are_words : (us : List Unit) (ws : List ℕ) → AreUnits us → AreOf us ws → AllByRecursion (λ w. w < 2 ^ 32) ws
are_words [] [] h o = tt
are_words [] (w ∷ ws) h o = absurd (cc)
are_words (u ∷ us) [] h o = absurd (cc)
are_words (u ∷ us) (w ∷ ws) h o = (small_cut w u.size h.0 (first_is _ _ _ _ o), are_words us ws h.1 (rest_is _ _ _ _ o))

addresses_are : (around : List ℕ) → AreUnits (map (λ _. unit_at 0 4) around)
addresses_are [] = tt
addresses_are (n ∷ around) = ((omega arith), addresses_are around)

values_are : (p : Program) (ts : List Ty) → AreUnits (flat_map (units_in p) ts)
values_are p [] = tt
values_are p (t ∷ ts) = each_append (λ (u : Unit). u.size ≤ 4) (units_in p t) (flat_map (units_in p) ts) (units_are p.aggregates t) (values_are p ts)

given_are : (p : Program) (f : Function) → AreUnits (given_units p f)
given_are p f = each_append (λ (u : Unit). u.size ≤ 4) (map (λ _. unit_at 0 4) f.around) (flat_map (units_in p) (parameter_types f)) (addresses_are f.around) (values_are p (parameter_types f))

pub start_words : (p : Program) (start : Start) → IsKnownStart p start → AllByRecursion (λ w. w < 2 ^ 32) start.words
start_words p start known = are_words (given_units p known.function) start.words (given_are p known.function) known.words
