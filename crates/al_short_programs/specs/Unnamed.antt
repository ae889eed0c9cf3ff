-- Types that other crates do not export by name: they are those of values.
use Rattle.al_bodies.specs.Gathering.{none}

abbrev pub TypeOf : (A : Type 0) → A → Type 0
TypeOf A x = A

-- the functions that were typed so far
abbrev pub Gathered : Type 0
Gathered = TypeOf _ none
