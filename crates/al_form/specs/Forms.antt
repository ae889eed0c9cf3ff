-- The forms of the aggrs, unions, adts and instances of adts of a text: what each has as members, before it has a number in a
-- program.
--
-- A member without a name whose own members stand in it is an aggr or a union of its own: its form comes right before the one
-- in which it stands. First come the types whose members stand in the text, in text order; then those of which the text
-- has the name alone; then the instances. Of several bodies of one name the latest counts.
use Rattle.std.specs.Prelude.{ℕ, Bool, true, false, if◌then◌else◌, List, [], ◌∷◌, ◌++◌, map, fold, length, slice_get, slice_set, Option, Some, None, is_some}
use Rattle.al_base.specs.declared.place.Place.{Place}
use Rattle.al_tree.specs.declared.type_tree.TypeTree.{TypeTree}
use Rattle.al_tree.specs.declared.type_tree.Dcl.{Dcl}
use Rattle.al_tree.specs.declared.expression.Name.{Name}
use Rattle.al_tree.specs.declared.item.Scope.{Scope}
use Rattle.al_tree.specs.declared.item.Scope.TheVariants as scope
use Rattle.al_tree.specs.declared.item.AggregateKind.{AggregateKind}
use Rattle.al_tree.specs.declared.item.AggregateKind.TheVariants as kind
use Rattle.al_tree.specs.declared.item.Member.{Member, fold-Member}
use Rattle.al_tree.specs.declared.item.Member.TheOpen.{Member-F}
use Rattle.al_tree.specs.declared.item.AdtPart.{AdtPart}
use Rattle.al_tree.specs.declared.item.AdtPart.TheVariants as part
use Rattle.al_tree.specs.declared.item.AdtMember.{AdtMember}
use Rattle.al_tree.specs.declared.item.Item.{Item}
use Rattle.al_tree.specs.declared.item.Item.TheVariants as item
use Rattle.al_tree.specs.declared.item.Tree.{Tree}
use Rattle.al_poly.specs.declared.instance.Instance.{Instance}
use Rattle.al_poly.specs.declared.names.Names.{Names}
use Rattle.al_poly.specs.Types.{declared, type_of, names_of}
use Rattle.al_poly.specs.Instances.{owner_of, belongs}
use Rattle.al_form.specs.declared.form.MemberType.TheVariants as type
use Rattle.al_form.specs.declared.form.FormMember.{FormMember}
use Rattle.al_form.specs.declared.form.Form.{Form}
use Rattle.al_form.specs.declared.form.InstanceForm.{InstanceForm}
use Rattle.al_form.specs.declared.form.Forms.{Forms}
use Rattle.al_form.specs.declared.found.Found.{Found}

-- ---- what is found on the way

abbrev pub is_union : AggregateKind → Bool
is_union kind.Union = true
is_union kind.Aggr = false
is_union kind.Adt = false

abbrev pub form : Place → Bool → Option (List FormMember) → Form
form at is_union members = record { at = at; is_union = is_union; members = members }

-- one member more of the type at hand
abbrev pub with_member : FormMember → Found → Found
with_member m w = record w { members = w.members ++ m ∷ [] }

-- a type without members so far
abbrev pub opened : Found → Found
opened w = record w { members = [] }

-- a type without a name is a member of the type in which it stands, which had these members before
unfoldable pub closed_inner : (before : List FormMember) → Place → AggregateKind → Bool → Found → Found
closed_inner before at kind is_intern w = record w {
  forms = w.forms ++ form at (is_union kind) (Some w.members) ∷ [];
  members = before ++ (record { at = at; name = None; ty = type.Inner (length w.forms); is_intern = is_intern }) ∷ [];
}

-- a type of that name, with the members that were found, or of which the text has the name alone
unfoldable pub closed_named : Place → AggregateKind → ℕ → Option (List FormMember) → Found → Found
closed_named at kind name members w = record {
  forms = w.forms ++ form at (is_union kind) members ∷ [];
  members = [];
  named = slice_set w.named name (Some (length w.forms));
}

abbrev pub there : {A : Type 0} → Option (Option A) → Option A
there None = None
there (Some x) = x

-- the number of the form of that name
abbrev pub form_named : List (Option ℕ) → ℕ → Option ℕ
form_named named name = there (slice_get named name)

-- ---- members

-- a data member of an adt is intern unless it is marked extern
abbrev pub is_intern : Option Scope → Bool
is_intern None = true
is_intern (Some scope.Intern) = true
is_intern (Some scope.Extern) = false
is_intern (Some scope.Private) = true

module _ (names : Names) (inside : Option Instance) where
  abbrev pub field : Bool → TypeTree → Dcl → FormMember
  field is_intern base dcl = record { at = dcl.at; name = Some dcl.name.name; ty = type.Written (declared names inside base dcl); is_intern = is_intern }

  abbrev pub unnamed : Bool → Place → TypeTree → FormMember
  unnamed is_intern at of = record { at = at; name = None; ty = type.Written (type_of names inside of); is_intern = is_intern }

  abbrev pub with_field : Bool → TypeTree → Found → Dcl → Found
  with_field is_intern base w dcl = with_member (field is_intern base dcl) w

  -- what a member adds, if it is intern or if it is not
  abbrev pub Way : Type 0
  Way = Bool → Found → Found

  -- members of what is no adt are not intern
  abbrev pub member_step : Member-F Way → Way
  member_step (Member-F.Fields at base fields) = λ is_intern w. fold (with_field is_intern base) w fields
  member_step (Member-F.Unnamed at of) = λ is_intern w. with_member (unnamed is_intern at of) w
  member_step (Member-F.Inner at kind ways) = λ is_intern w. closed_inner w.members at kind is_intern (fold (λ u a. a false u) (opened w) ways)

  unfoldable pub member : Member → Way
  member = fold-Member Way member_step

  abbrev pub with_plain : Found → Member → Found
  with_plain w m = member m false w

  abbrev pub with_part : Option Scope → Found → AdtPart → Found
  with_part scope w (part.Data m) = member m (is_intern scope) w
  with_part scope w (part.Function base stars name parameters) = w

  abbrev pub with_adt_member : Found → AdtMember → Found
  with_adt_member w m = with_part m.scope w m.part

  -- ---- items

  -- the type whose members stand in an item
  unfoldable pub with_body : Found → Item → Found
  with_body w (item.Aggregate at kind name members) =
      let u = fold with_plain (opened w) members in closed_named at kind name.name (Some u.members) u
  with_body w (item.Adt at name parameters members) =
      let u = fold with_adt_member (opened w) members in closed_named at kind.Adt name.name (Some u.members) u
  with_body w _ = w

  -- the items that belong to the text, or to the instance at hand
  abbrev pub with_item : Found → Item → Found
  with_item w i = if belongs (owner_of names i) inside then with_body w i else w

-- the types of which the text has the name alone
unfoldable pub with_name : Found → Item → Found
with_name w (item.Forward at kind name) = if is_some (form_named w.named name.name) then w else closed_named at kind name.name None w
with_name w _ = w

-- nothing is found in a text of these names
abbrev pub begun : List (List ℕ) → Found
begun names = record { forms = []; members = []; named = map (λ _. None) names }

abbrev pub of_text : Names → Tree → Found
of_text names tree = fold with_name (fold (with_item names None) (begun tree.names) tree.items) tree.items

-- ---- instances

pub record Reached : Type 0 where
  pub found : Found
  pub instances : List InstanceForm

abbrev pub with_instance : Names → List Item → Reached → Instance → Reached
with_instance names items r i =
    let w = fold (with_item names (Some i)) r.found items in
    record { found = w; instances = r.instances ++ (record { instance = i; form = form_named w.named i.adt }) ∷ [] }

abbrev pub forms_in : Reached → Forms
forms_in r = record { list = r.found.forms; named = r.found.named; instances = r.instances }

-- the forms of a text with these instances
unfoldable pub forms : Tree → List Instance → Forms
forms tree instances =
    let names = names_of tree.items in
    forms_in (fold (with_instance names tree.items) (record { found = of_text names tree; instances = [] }) instances)
