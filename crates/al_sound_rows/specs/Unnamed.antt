-- Types that other crates do not export by name: they are those of values, and of what functions take and give.
use Rattle.al_type_function.specs.Branches.{entered, with_body}
use Rattle.al_type_function.specs.Functions.{typed_with}
use Rattle.al_type_function.specs.Locals.{declared_local, frame_of}
use Rattle.al_bodies.specs.Gathering.{none}

abbrev pub TypeOf : (A : Type 0) → A → Type 0
TypeOf A x = A

abbrev pub First : (A B : Type 0) → (A → B) → Type 0
First A B f = A

abbrev pub Given : (A B : Type 0) → (A → B) → Type 0
Given A B f = B

abbrev pub GivenBySix : (A B C D E F G : Type 0) → (A → B → C → D → E → F → G) → Type 0
GivenBySix A B C D E F G f = G

-- a parameter or a local before it has a number, and those of a function
abbrev pub Declared : Type 0
Declared = Given _ _ declared_local

abbrev pub Frame : Type 0
Frame = GivenBySix _ _ _ _ _ _ _ frame_of

-- a function or branch without its body, and a function before its body is typed
abbrev pub Outline : Type 0
Outline = First _ _ with_body

abbrev pub Opened : Type 0
Opened = First _ _ typed_with

-- where the statements of a function or branch stand
abbrev pub Site : Type 0
Site = First _ _ entered

-- the functions that were typed so far
abbrev pub Gathered : Type 0
Gathered = TypeOf _ none
