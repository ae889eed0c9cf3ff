-- The types with members of a text as a program has them, each with its size, its alignment and its units.
use Rattle.std.specs.Prelude.{ℕ, ◌≡◌, Bool, true, List, [], ◌∷◌, ◌++◌, map, length, slice_get, Result, Ok, Err, Option, Some, None}
use Rattle.std.specs.List.{flat_map}
use Rattle.std.specs.Option.{option_to_list}
use Rattle.al_base.specs.declared.place.Place.{Place}
use Rattle.al_rules.specs.declared.fault.TypeFault.{TypeFault}
use Rattle.al_rules.specs.declared.fault.TypeStop.{TypeStop}
use Rattle.al_rules.specs.Outcome.{Outcome, Good, ask, judge, and_then, permits}
use Rattle.al_typed.specs.declared.program.Aggregate.{Aggregate}
use Rattle.al_typed.specs.declared.ty.Ty.{Ty}
use Rattle.al_typed.specs.Layout.{Layout, layouts_after, body_layout}
use Rattle.al_form.specs.declared.form.FormMember.{FormMember}
use Rattle.al_form.specs.declared.form.Form.{Form}
use Rattle.al_form.specs.declared.form.Forms.{Forms}
use Rattle.al_layout.specs.Types.{member_ty, form_parts}
use Rattle.al_layout.specs.Order.{order, numbers}
use Rattle.al_layout.specs.Rules.{rule_7_member, rule_16_member, rule_18_size}
use Rattle.al_layout.specs.declared.row.LaidOut.{LaidOut}

-- ---- one more

abbrev pub row : Bool → Option (List Ty) → Layout → Aggregate
row is_union members l = record { is_union = is_union; members = members; size = l.size; align = l.align; units = length l.units }

abbrev pub with_layout : List Aggregate → Bool → Option (List Ty) → Place → Layout → Outcome (List Aggregate)
with_layout rows is_union members at l = judge (ask 18 at (rule_18_size l)) (rows ++ row is_union members l ∷ [])

-- a type whose members have these types
unfoldable pub with_members : List Aggregate → Form → Option (List Ty) → Outcome (List Aggregate)
with_members rows f members = with_layout rows f.is_union members f.at (body_layout (layouts_after [] rows) f.is_union members)

-- ---- all of them

module _ (fs : Forms) (ns : List ℕ) where
  abbrev pub ty_of_member : FormMember → Option Ty
  ty_of_member m = member_ty fs ns m.ty

  abbrev pub fault_of_member : List Aggregate → FormMember → List TypeFault
  fault_of_member rows m = ask 16 m.at (rule_16_member (ty_of_member m)) ++ ask 7 m.at (rule_7_member rows (ty_of_member m))

  unfoldable pub faults_of_members : List Aggregate → List FormMember → List TypeFault
  faults_of_members rows = flat_map (fault_of_member rows)

  abbrev pub types_of_member : FormMember → List Ty
  types_of_member m = option_to_list (ty_of_member m)

  -- those that have a meaning
  unfoldable pub types_of_members : List FormMember → List Ty
  types_of_members = flat_map types_of_member

  -- the types of the members of a form
  abbrev pub member_types : List Aggregate → Option (List FormMember) → Outcome (Option (List Ty))
  member_types rows None = Good None
  member_types rows (Some ms) = judge (faults_of_members rows ms) (Some (types_of_members ms))

  unfoldable pub with_form : List Aggregate → Form → Outcome (List Aggregate)
  with_form rows f = and_then (member_types rows f.members) (with_members rows f)

  -- the form of that number
  abbrev pub with_number : List Aggregate → Option Form → Outcome (List Aggregate)
  with_number rows None = Good rows
  with_number rows (Some f) = with_form rows f

  -- these, one after the other
  unfoldable pub with_rows : List Aggregate → List ℕ → Outcome (List Aggregate)
  with_rows rows [] = Good rows
  with_rows rows (k ∷ ks) = and_then (with_number rows (slice_get fs.list k)) (λ more. with_rows more ks)

abbrev pub laid : (forms numbers : List ℕ) → List Aggregate → Outcome LaidOut
laid ks ns rows = Good (record { aggregates = rows; forms = ks; numbers = ns })

-- the types with members of a text
unfoldable pub laid_out : Forms → Outcome LaidOut
laid_out fs =
    let graph = map (form_parts fs) fs.list in
    and_then (with_rows fs (numbers graph) [] (order graph)) (laid (order graph) (numbers graph))

-- the answer of code that changes what it is given: it is new, or code stops
abbrev pub Leads : {A : Type 0} → Result Unit TypeStop → Outcome A → A → Type 0
Leads (Ok u) o new = o ≡ Good new
Leads (Err s) o new = permits o s ≡ true
