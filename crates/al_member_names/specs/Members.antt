-- The data members and the functions that each type with members has, its own and those that unnamed members lend.
use Rattle.std.specs.Prelude.{ℕ, ◌+◌, nat_le, Bool, if◌then◌else◌, List, [], ◌∷◌, ◌++◌, fold, length, slice_get, unwrap_or, Option, Some, None, option_and_then}
use Rattle.std.specs.Option.{option_to_list}
use Rattle.al_base.specs.declared.place.Place.{Place}
use Rattle.al_rules.specs.Outcome.{Outcome, Good, ask, judge, and_then}
use Rattle.al_typed.specs.declared.ty.Ty.{Ty, out-Ty}
use Rattle.al_typed.specs.Layout.{number_at}
use Rattle.al_environment.specs.declared.environment.NamedMember.{NamedMember}
use Rattle.al_environment.specs.declared.environment.NamedFunction.{NamedFunction}
use Rattle.al_environment.specs.declared.environment.MemberNames.{MemberNames}
use Rattle.al_environment.specs.Lookups.{members_in, functions_in}
use Rattle.al_form.specs.declared.form.FormMember.{FormMember}
use Rattle.al_form.specs.declared.form.Form.{Form}
use Rattle.al_form.specs.declared.form.Forms.{Forms}
use Rattle.al_layout.specs.Types.{member_ty, within}
use Rattle.al_member_names.specs.Rules.{rule_8_once, rule_8_unnamed}
use Rattle.al_member_names.specs.declared.function.OwnFunction.{OwnFunction}
use Rattle.al_member_names.specs.declared.walk.Walk.{Walk}

-- ---- one member more

-- a member at a place
unfoldable pub with_name : Place → Walk → NamedMember → Walk
with_name at w m = record {
  members = w.members ++ m ∷ [];
  functions = w.functions;
  names = w.names ++ m.name ∷ [];
  faults = w.faults ++ ask 8 at (rule_8_once w.names m.name);
}

-- a function at a place
unfoldable pub with_function : Place → Walk → NamedFunction → Walk
with_function at w f = record {
  members = w.members;
  functions = w.functions ++ f ∷ [];
  names = w.names ++ f.name ∷ [];
  faults = w.faults ++ ask 8 at (rule_8_once w.names f.name);
}

-- the adts in whose functions alone a member is named, where it is intern in that one
abbrev pub interns_of : (adt : ℕ) → Bool → List ℕ
interns_of adt is_intern = if is_intern then option_to_list (within adt) else []

abbrev pub own : (number : ℕ) → (name : ℕ) → Ty → (interns : List ℕ) → NamedMember
own number name ty interns = record { name = name; path = number ∷ []; ty = ty; interns = interns }

-- one that the member of that number lends
abbrev pub lent : (number : ℕ) → (interns : List ℕ) → NamedMember → NamedMember
lent number interns m = record { name = m.name; path = number ∷ m.path; ty = m.ty; interns = interns ++ m.interns }

abbrev pub with_lent : Place → ℕ → List ℕ → Walk → NamedMember → Walk
with_lent at number interns w m = with_name at w (lent number interns m)

abbrev pub lent_function : (number : ℕ) → (interns : List ℕ) → NamedFunction → NamedFunction
lent_function number interns f = record { name = f.name; path = number ∷ f.path; interns = interns ++ f.interns; passed = f.passed; signature = f.signature }

abbrev pub with_lent_function : Place → ℕ → List ℕ → Walk → NamedFunction → Walk
with_lent_function at number interns w f = with_function at w (lent_function number interns f)

-- the number of the type with members that a type is
unfoldable pub aggregate_of : Ty → Option ℕ
aggregate_of t = number_at (out-Ty t)

abbrev pub aggregate_if : Option Ty → Option ℕ
aggregate_if ty = option_and_then aggregate_of ty

-- what the type of that number has
abbrev pub names_at : List MemberNames → Option ℕ → Option MemberNames
names_at before None = None
names_at before (Some n) = slice_get before n

abbrev pub with_all_lent : Place → ℕ → List ℕ → Walk → Option MemberNames → Walk
with_all_lent at number interns w names =
    fold (with_lent_function at number interns) (fold (with_lent at number interns) w (members_in names)) (functions_in names)

-- those that a member without a name lends
unfoldable pub with_unnamed : List MemberNames → Place → ℕ → List ℕ → Walk → Option ℕ → Walk
with_unnamed before at number interns w aggregate =
    with_all_lent at number interns (record w { faults = w.faults ++ ask 8 at (rule_8_unnamed aggregate) }) (names_at before aggregate)

abbrev pub with_own : Place → (number : ℕ) → (name : ℕ) → (interns : List ℕ) → Walk → Option Ty → Walk
with_own at number name interns w None = w
with_own at number name interns w (Some ty) = with_name at w (own number name ty interns)

-- what a member of that type adds
abbrev pub with_ty : List MemberNames → Place → (number : ℕ) → Option ℕ → (interns : List ℕ) → Walk → Option Ty → Walk
with_ty before at number None interns w ty = with_unnamed before at number interns w (aggregate_if ty)
with_ty before at number (Some name) interns w ty = with_own at number name interns w ty

-- ---- all of them

-- nothing is found yet
abbrev pub begun : Walk
begun = record { members = []; functions = []; names = []; faults = [] }

abbrev pub names_in : Walk → MemberNames
names_in w = record { members = w.members; functions = w.functions }

abbrev pub found : Walk → Outcome MemberNames
found w = judge w.faults (names_in w)

abbrev pub no_names : MemberNames
no_names = record { members = []; functions = [] }

-- a function of its own
abbrev pub with_own_function : Walk → OwnFunction → Walk
with_own_function w f = with_function f.at w f.function

-- the own functions of the type of that number
abbrev pub own_at : List (List OwnFunction) → ℕ → List OwnFunction
own_at own n = unwrap_or (slice_get own n) []

module _ (fs : Forms) (ns : List ℕ) where
  -- the member of that number of the adt of that number
  abbrev pub with_member : List MemberNames → (adt number : ℕ) → Walk → FormMember → Walk
  with_member before adt number w m = with_ty before m.at number m.name (interns_of adt m.is_intern) w (member_ty fs ns m.ty)

  -- a program numbers members by 32 bits
  abbrev pub with_numbered : List MemberNames → (adt number : ℕ) → Walk → FormMember → Walk
  with_numbered before adt number w m = if nat_le number 4294967295 then with_member before adt number w m else w

  -- those from the one of the number `from` on
  unfoldable pub with_members : List MemberNames → (adt from : ℕ) → List FormMember → Walk → Walk
  with_members before adt from [] w = w
  with_members before adt from (m ∷ ms) w = with_members before adt (from + 1) ms (with_numbered before adt from w m)

  -- the data members stand before the functions
  abbrev pub of_members : List MemberNames → List OwnFunction → Option (List FormMember) → Outcome MemberNames
  of_members before own None = Good no_names
  of_members before own (Some ms) = found (fold with_own_function (with_members before (length before) 0 ms begun) own)

  -- the names of the type that has that form, which is the next behind those
  abbrev pub of_form : List MemberNames → List OwnFunction → Option Form → Outcome MemberNames
  of_form before own None = Good no_names
  of_form before own (Some f) = of_members before own f.members

  abbrev pub with_form : List (List OwnFunction) → List MemberNames → Option Form → Outcome (List MemberNames)
  with_form own before f = and_then (of_form before (own_at own (length before)) f) (λ names. Good (before ++ names ∷ []))

  -- those of the types that have these forms, one after the other
  unfoldable pub with_forms : List (List OwnFunction) → List MemberNames → List ℕ → Outcome (List MemberNames)
  with_forms own before [] = Good before
  with_forms own before (k ∷ ks) = and_then (with_form own before (slice_get fs.list k)) (λ more. with_forms own more ks)

-- the names of the types with members of a text, which have these forms in their order and these functions of their own; the
-- forms have those numbers
unfoldable pub member_names : Forms → (numbers order : List ℕ) → List (List OwnFunction) → Outcome (List MemberNames)
member_names fs ns order own = with_forms fs ns own [] order
