-- What a part of a tree gives by the typing rules: what is found in it, or the faults that are in it.
use Rattle.std.specs.Prelude.{ℕ, ◌≡◌, ◌==◌, Bool, true, false, ◌&&◌, ◌||◌, List, [], ◌∷◌, ◌++◌, Result, Ok, Err}
use Rattle.al_base.specs.declared.place.Place.{Place}
use Rattle.al_rules.specs.declared.fault.TypeFault.{TypeFault}
use Rattle.al_rules.specs.declared.fault.TypeStop.{TypeStop}
use Rattle.al_rules.specs.declared.fault.TypeStop.TheVariants as stop

pub data Outcome (A : Type 0) : Type 0 where
  Good : A → Outcome A
  Bad : List TypeFault → Outcome A

abbrev pub fault : ℕ → Place → TypeFault
fault rule at = record { rule = rule; place = at }

-- a rule that is asked of the node at a place
abbrev pub ask : ℕ → Place → Bool → List TypeFault
ask rule at true = []
ask rule at false = fault rule at ∷ []

-- what is found, unless there are faults
abbrev pub judge : {A : Type 0} → List TypeFault → A → Outcome A
judge [] a = Good a
judge (f ∷ fs) a = Bad (f ∷ fs)

-- the same, as code answers it that takes no memory: the first fault
abbrev pub first_fault : {A : Type 0} → List TypeFault → A → Result A TypeStop
first_fault [] a = Ok a
first_fault (f ∷ fs) a = Err (stop.Fault f)

-- one part; the node's own rules are asked where the part is good
abbrev pub and_then : {A B : Type 0} → Outcome A → (A → Outcome B) → Outcome B
and_then (Good a) f = f a
and_then (Bad fs) f = Bad fs

-- two parts, with the faults of both
abbrev pub both : {A B C : Type 0} → Outcome A → Outcome B → (A → B → Outcome C) → Outcome C
both (Good a) (Good b) f = f a b
both (Good a) (Bad gs) f = Bad gs
both (Bad fs) (Good b) f = Bad fs
both (Bad fs) (Bad gs) f = Bad (fs ++ gs)

-- two parts, and no rule of their own
abbrev pub pair : {A B : Type 0} → Outcome A → Outcome B → Outcome (A × B)
pair x y = both x y (λ a b. Good (a, b))

-- a list with these before it
abbrev pub preceded : {A : Type 0} → List A → Outcome (List A) → Outcome (List A)
preceded front (Good rest) = Good (front ++ rest)
preceded front (Bad fs) = Bad fs

abbrev pub same_place : Place → Place → Bool
same_place p q = p.line == q.line && p.col == q.col

abbrev pub same_fault : TypeFault → TypeFault → Bool
same_fault f g = f.rule == g.rule && same_place f.place g.place

abbrev pub among : TypeFault → List TypeFault → Bool
among f [] = false
among f (g ∷ gs) = same_fault f g || among f gs

-- code may stop so: with a fault that is there, or for want of memory
abbrev pub permits : {A : Type 0} → Outcome A → TypeStop → Bool
permits o stop.NoMemory = true
permits (Good a) (stop.Fault f) = false
permits (Bad fs) (stop.Fault f) = among f fs

-- the answer of code: what is found, exactly where there is no fault, or else one of the faults
abbrev pub Answers : {A : Type 0} → Result A TypeStop → Outcome A → Type 0
Answers (Ok a) o = o ≡ Good a
Answers (Err s) o = permits o s ≡ true
