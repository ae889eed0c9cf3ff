-- Types that other crates do not export by name: they are those of values, and of what functions take.
use Rattle.std.specs.Prelude.{[]}
use Rattle.al_form.specs.Forms.{begun as no_forms}
use Rattle.al_member_names.specs.Members.{begun as no_members}
use Rattle.al_adt_functions.specs.Functions.{with_functions}
use Rattle.al_adt_functions.specs.Owned.{begun as no_functions, closed, plain_owned}

abbrev pub TypeOf : (A : Type 0) → A → Type 0
TypeOf A x = A

abbrev pub ArgumentOf : (A B : Type 0) → (A → B) → Type 0
ArgumentOf A B f = A

-- the forms that were found so far
abbrev pub FoundForms : Type 0
FoundForms = TypeOf _ (no_forms [])

-- the members and functions that were found so far
abbrev pub Walk : Type 0
Walk = TypeOf _ no_members

-- an adt that is at hand, the functions of its body, those of all adts, and of one
abbrev pub Owned : Type 0
Owned = TypeOf _ (plain_owned 0 0)

abbrev pub Body : Type 0
Body = TypeOf _ no_functions

abbrev pub Adts : Type 0
Adts = ArgumentOf _ _ (closed (plain_owned 0 0))

abbrev pub AdtFunctions : Type 0
AdtFunctions = ArgumentOf _ _ (with_functions [])
