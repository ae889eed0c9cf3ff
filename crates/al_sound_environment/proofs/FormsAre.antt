-- The form of a union has a member, where each union of a text has one.
use Rattle.std.proofs.Common.{◌≡◌, ℕ, Bool, true, false, ◌&&◌, List, [], ◌∷◌, ◌++◌, map, fold, Option, Some, None, sym, subst, ◌∙◌}
use Rattle.std.specs.Prelude.{if◌then◌else◌, is_some}
use Rattle.std.specs.List.{list_all}
use Rattle.al_base.specs.declared.place.Place.{Place}
use Rattle.al_tree.specs.declared.type_tree.Dcl.{Dcl}
use Rattle.al_tree.specs.declared.type_tree.TypeTree.{TypeTree}
use Rattle.al_tree.specs.declared.item.AdtMember.{AdtMember}
use Rattle.al_tree.specs.declared.item.AdtPart.{AdtPart}
use Rattle.al_tree.specs.declared.item.AdtPart.TheVariants as part
use Rattle.al_tree.specs.declared.item.AggregateKind.{AggregateKind}
use Rattle.al_tree.specs.declared.item.AggregateKind.TheVariants as kind
use Rattle.al_tree.specs.declared.item.Item.{Item}
use Rattle.al_tree.specs.declared.item.Item.TheVariants as item
use Rattle.al_tree.specs.declared.item.Member.{Member, roll-Member, map-Member, fold-roll-Member}
use Rattle.al_tree.specs.declared.item.Member.TheFolds.{ind-Member}
use Rattle.al_tree.specs.declared.item.Member.TheOpen.{Member-F}
use Rattle.al_tree.specs.declared.item.Scope.{Scope}
use Rattle.al_tree.specs.declared.item.Tree.{Tree}
use Rattle.al_poly.specs.declared.instance.Instance.{Instance}
use Rattle.al_poly.specs.declared.names.Names.{Names}
use Rattle.al_poly.specs.Instances.{belongs, owner_of}
use Rattle.al_poly.specs.Types.{names_of}
use Rattle.al_form.specs.declared.form.Form.{Form}
use Rattle.al_form.specs.declared.form.FormMember.{FormMember}
use Rattle.al_form.specs.Forms.{Reached, begun, closed_inner, closed_named, form, form_named, forms, is_intern, is_union, member, member_step, of_text, opened, with_adt_member, with_body, with_field, with_instance, with_item, with_name, with_part, with_plain}
use Rattle.al_tree_laws.specs.Unions.{adt_member_declares_some, declares_some, has_some, item_has_members, tree_has_members}
use Rattle.al_tree_laws.specs.Unions as law
use Rattle.al_sound_environment.specs.Members.{Every}
use Rattle.al_sound_environment.specs.Unnamed.{FoundForms}
use Rattle.al_sound_environment.proofs.Lists.{and_both, every_more}

-- the form of a union with a body has a member
abbrev pub IsFilled : Form → Type 0
IsFilled f = f.is_union ≡ true → f.members ≡ Some [] → ⊥

abbrev IsSome : {A : Type 0} → List A → Type 0
IsSome xs = xs ≡ [] → ⊥

abbrev AreFilled : FoundForms → Type 0
AreFilled w = Every IsFilled w.forms

-- and the type at hand has a member
record IsGrown (w : FoundForms) : Type 0 where
  filled : AreFilled w
  some : IsSome w.members

some_more : {A : Type 0} (xs : List A) (x : A) → IsSome (xs ++ x ∷ [])
some_more [] x h = absurd (cc)
some_more (y ∷ xs) x h = absurd (cc)

filled_some : (at : Place) (b : Bool) (ms : List FormMember) → IsSome ms → IsFilled (form at b (Some ms))
filled_some at b ms h is e = h (cc)

filled_none : (at : Place) (b : Bool) → IsFilled (form at b None)
filled_none at b is e = absurd (cc)

filled_adt : (at : Place) (o : Option (List FormMember)) → IsFilled (form at (is_union kind.Adt) o)
filled_adt at o is e = absurd (cc)

module _ (names : Names) (inside : Option Instance) where
  fields_grow : (b : Bool) (base : TypeTree) (w : FoundForms) (ds : List Dcl) → IsGrown w → IsGrown (fold (with_field names inside b base) w ds)
  fields_grow b base w [] h = h
  fields_grow b base w (d ∷ ds) h = fields_grow b base (with_field names inside b base w d) ds (record { filled = h.filled; some = some_more w.members _ })

  some_fields_grow : (b : Bool) (base : TypeTree) (w : FoundForms) (ds : List Dcl) → has_some ds ≡ true → AreFilled w → IsGrown (fold (with_field names inside b base) w ds)
  some_fields_grow b base w [] some h = absurd (cc)
  some_fields_grow b base w (d ∷ ds) some h = fields_grow b base (with_field names inside b base w d) ds (record { filled = h; some = some_more w.members _ })

  abbrev IsRight : Member → Type 0
  IsRight m = declares_some m ≡ true → (b : Bool) (w : FoundForms) → AreFilled w → IsGrown (member names inside m b w)

  abbrev Checked : Type 0
  Checked = (m : Member) × IsRight m

  abbrev tree_of : Member-F Checked → Member-F Member
  tree_of y = map-Member Checked Member (λ c. c.0) y

  abbrev trees : List Checked → List Member
  trees cs = map (λ c. c.0) cs

  abbrev with_ways : FoundForms → List (Bool → FoundForms → FoundForms) → FoundForms
  with_ways w ways = fold (λ u a. a false u) w ways

  members_grow : (w : FoundForms) (cs : List Checked) → list_all (λ b. b) (map declares_some (trees cs)) ≡ true → IsGrown w → IsGrown (with_ways w (map (member names inside) (trees cs)))
  members_grow w [] all h = h
  members_grow w (c ∷ cs) all h =
      let hs = and_both (declares_some c.0) _ all in
      members_grow (member names inside c.0 false w) cs hs.1 (c.1 hs.0 false w h.filled)

  some_members_grow : (w : FoundForms) (cs : List Checked) → (has_some (map declares_some (trees cs)) && list_all (λ b. b) (map declares_some (trees cs))) ≡ true → AreFilled w
      → IsGrown (with_ways w (map (member names inside) (trees cs)))
  some_members_grow w [] all h = absurd (cc)
  some_members_grow w (c ∷ cs) all h =
      let hs = and_both (declares_some c.0) _ all in
      members_grow (member names inside c.0 false w) cs hs.1 (c.1 hs.0 false w h)

  inner_grows : (before : List FormMember) (at : Place) (k : AggregateKind) (b : Bool) (w : FoundForms) → IsGrown w → IsGrown (closed_inner before at k b w)
  unfolding closed_inner
  inner_grows before at k b w h = record {
    filled = every_more IsFilled w.forms _ h.filled (filled_some at (is_union k) w.members h.some);
    some = some_more before _;
  }

  by_step : (y : Member-F Checked) → law.member_step (map-Member Member Bool declares_some (tree_of y)) ≡ true → (b : Bool) (w : FoundForms) → AreFilled w
      → IsGrown (member_step names inside (map-Member Member (Bool → FoundForms → FoundForms) (member names inside) (tree_of y)) b w)
  by_step (Member-F.Fields at base fields) some b w h = some_fields_grow b base w fields some h
  by_step (Member-F.Unnamed at of) some b w h = record { filled = h; some = some_more w.members _ }
  by_step (Member-F.Inner at k cs) some b w h = inner_grows w.members at k b (with_ways (opened w) (map (member names inside) (trees cs))) (some_members_grow (opened w) cs some h)

  by_parts : (y : Member-F Checked) → IsRight (roll-Member (tree_of y))
  unfolding member declares_some
  by_parts y some b w h =
      let z = tree_of y in
      subst (λ (f : Bool → FoundForms → FoundForms). IsGrown (f b w)) (sym (fold-roll-Member (Bool → FoundForms → FoundForms) (member_step names inside) z))
      (by_step y (sym (fold-roll-Member Bool law.member_step z) ∙ some) b w h)

  grows : (m : Member) → IsRight m
  grows = ind-Member IsRight (λ x y is. subst (λ z. IsRight (roll-Member z)) is (by_parts y))

  -- ---- items

  plain_grow : (w : FoundForms) (ms : List Member) → list_all declares_some ms ≡ true → IsGrown w → IsGrown (fold (with_plain names inside) w ms)
  plain_grow w [] all h = h
  plain_grow w (m ∷ ms) all h = let hs = and_both (declares_some m) _ all in plain_grow (member names inside m false w) ms hs.1 (grows m hs.0 false w h.filled)

  some_plain_grow : (w : FoundForms) (ms : List Member) → (has_some ms && list_all declares_some ms) ≡ true → AreFilled w → IsGrown (fold (with_plain names inside) w ms)
  some_plain_grow w [] all h = absurd (cc)
  some_plain_grow w (m ∷ ms) all h = let hs = and_both (declares_some m) _ all in plain_grow (member names inside m false w) ms hs.1 (grows m hs.0 false w h)

  part_filled : (scope : Option Scope) (w : FoundForms) (p : AdtPart) → law.part_declares_some p ≡ true → AreFilled w → AreFilled (with_part names inside scope w p)
  part_filled scope w (part.Data m) some h = (grows m some (is_intern scope) w h).filled
  part_filled scope w (part.Function base stars name ps) some h = h

  parts_filled : (w : FoundForms) (ms : List AdtMember) → list_all adt_member_declares_some ms ≡ true → AreFilled w → AreFilled (fold (with_adt_member names inside) w ms)
  parts_filled w [] all h = h
  parts_filled w (m ∷ ms) all h =
      let hs = and_both (adt_member_declares_some m) _ all in
      parts_filled (with_adt_member names inside w m) ms hs.1 (part_filled m.scope w m.part hs.0 h)

  named_filled : (at : Place) (k : AggregateKind) (name : ℕ) (o : Option (List FormMember)) (w : FoundForms) → AreFilled w → IsFilled (form at (is_union k) o) → AreFilled (closed_named at k name o w)
  unfolding closed_named
  named_filled at k name o w h is = every_more IsFilled w.forms _ h is

  body_filled : (w : FoundForms) (i : Item) → item_has_members i ≡ true → AreFilled w → AreFilled (with_body names inside w i)
  unfolding with_body
  body_filled w (item.Aggregate at k name ms) some h =
      let u = fold (with_plain names inside) (opened w) ms in
      let g = some_plain_grow (opened w) ms some h in
      named_filled at k name.name (Some u.members) u g.filled (filled_some at (is_union k) u.members g.some)
  body_filled w (item.Adt at name ps ms) some h =
      let u = fold (with_adt_member names inside) (opened w) ms in
      named_filled at kind.Adt name.name (Some u.members) u (parts_filled (opened w) ms (and_both (has_some ms) _ some).1 h) (filled_adt at (Some u.members))
  body_filled w (item.Forward at k name) some h = h
  body_filled w (item.Typedef at base dcl) some h = h
  body_filled w (item.FunctionType at base stars name ps) some h = h
  body_filled w (item.Enum at name list) some h = h
  body_filled w (item.Declare at scope base list) some h = h
  body_filled w (item.Function at scope base head body) some h = h

  item_filled : (w : FoundForms) (i : Item) → item_has_members i ≡ true → AreFilled w → AreFilled (with_item names inside w i)
  item_filled w i some h = go (belongs (owner_of names i) inside)
    where
      go : (b : Bool) → AreFilled (if b then with_body names inside w i else w)
      go true = body_filled w i some h
      go false = h

  items_filled : (w : FoundForms) (is : List Item) → list_all item_has_members is ≡ true → AreFilled w → AreFilled (fold (with_item names inside) w is)
  items_filled w [] all h = h
  items_filled w (i ∷ is) all h = let hs = and_both (item_has_members i) _ all in items_filled (with_item names inside w i) is hs.1 (item_filled w i hs.0 h)

-- ---- names alone, and instances

name_filled : (w : FoundForms) (i : Item) → AreFilled w → AreFilled (with_name w i)
unfolding with_name closed_named
name_filled w (item.Forward at k name) h = go (is_some (form_named w.named name.name))
  where
    go : (b : Bool) → AreFilled (if b then w else closed_named at k name.name None w)
    go true = h
    go false = every_more IsFilled w.forms _ h (filled_none at (is_union k))
name_filled w (item.Aggregate at k name ms) h = h
name_filled w (item.Adt at name ps ms) h = h
name_filled w (item.Typedef at base dcl) h = h
name_filled w (item.FunctionType at base stars name ps) h = h
name_filled w (item.Enum at name list) h = h
name_filled w (item.Declare at scope base list) h = h
name_filled w (item.Function at scope base head body) h = h

names_filled : (w : FoundForms) (is : List Item) → AreFilled w → AreFilled (fold with_name w is)
names_filled w [] h = h
names_filled w (i ∷ is) h = names_filled (with_name w i) is (name_filled w i h)

instances_filled : (names : Names) (items : List Item) (r : Reached) (is : List Instance) → list_all item_has_members items ≡ true → AreFilled r.found → AreFilled (fold (with_instance names items) r is).found
instances_filled names items r [] all h = h
instances_filled names items r (i ∷ is) all h = instances_filled names items (with_instance names items r i) is all (items_filled names (Some i) r.found items all h)

pub forms_filled : (tree : Tree) (is : List Instance) → tree_has_members tree ≡ true → Every IsFilled (forms tree is).list
unfolding forms tree_has_members
forms_filled tree is all =
    let names = names_of tree.items in
    instances_filled names tree.items (record { found = of_text names tree; instances = [] }) is all
    (names_filled (fold (with_item names None) (begun tree.names) tree.items) tree.items (items_filled names None (begun tree.names) tree.items all tt))
