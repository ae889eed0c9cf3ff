-- The forms of a text: how many there are, and that each type with members, and each instance, has one.
use Rattle.std.proofs.Common.{◌≡◌, ℕ, zero, suc, ◌+◌, ◌<◌, ◌≤◌, Bool, true, false, List, [], ◌∷◌, ◌++◌, map, fold, length, Option, Some, None, arith, refl, sym, ap, ◌∙◌, subst}
use Rattle.std.specs.Prelude.{if◌then◌else◌, is_some, slice_get, slice_set}
use Rattle.al_base.specs.declared.place.Place.{Place}
use Rattle.al_tree.specs.declared.type_tree.Dcl.{Dcl}
use Rattle.al_tree.specs.declared.type_tree.TypeTree.{TypeTree}
use Rattle.al_tree.specs.declared.item.AdtMember.{AdtMember}
use Rattle.al_tree.specs.declared.item.AdtPart.{AdtPart}
use Rattle.al_tree.specs.declared.item.AdtPart.TheVariants as part
use Rattle.al_tree.specs.declared.item.AggregateKind.{AggregateKind}
use Rattle.al_tree.specs.declared.item.AggregateKind.TheVariants as kind
use Rattle.al_tree.specs.declared.item.Item.{Item}
use Rattle.al_tree.specs.declared.item.Item.TheVariants as item
use Rattle.al_tree.specs.declared.item.Member.{Member, roll-Member, map-Member, fold-roll-Member}
use Rattle.al_tree.specs.declared.item.Member.TheFolds.{ind-Member}
use Rattle.al_tree.specs.declared.item.Member.TheOpen.{Member-F}
use Rattle.al_tree.specs.declared.item.Scope.{Scope}
use Rattle.al_poly.specs.declared.instance.Instance.{Instance}
use Rattle.al_poly.specs.declared.names.Names.{Names}
use Rattle.al_poly.specs.Instances.{belongs, owner_of}
use Rattle.al_form.specs.declared.form.Form.{Form}
use Rattle.al_form.specs.declared.form.FormMember.{FormMember}
use Rattle.al_form.specs.Forms.{closed_inner, closed_named, form, form_named, is_intern, is_union, member, member_step, opened, with_adt_member, with_body, with_field, with_item, with_name, with_part, with_plain}
use Rattle.al_sound_environment.specs.Members.{Every}
use Rattle.al_sound_environment.specs.Unnamed.{FoundForms}
use Rattle.al_sound_environment.proofs.Lists.{every_set}
use Rattle.al_sound_calls.proofs.Lists.{every_is, length_more, some_is}
use Rattle.al_sound_instances.proofs.OrderIs.{length_set}
use Rattle.al_sound_instances.proofs.Counts.{all_forms, adt_member_forms, forms_step, item_forms, member_forms, part_forms, total}

-- the form of a name is one of so many
abbrev pub IsBelow : ℕ → Option ℕ → Type 0
IsBelow count o = (k : ℕ) → o ≡ Some k → k < count

abbrev pub AreBelow : FoundForms → Type 0
AreBelow w = Every (IsBelow (length w.forms)) w.named

-- a name has a form
abbrev pub HasForm : List (Option ℕ) → ℕ → Type 0
HasForm named name = (k : ℕ) × (form_named named name ≡ Some k)

-- at most so many forms are new, and names keep theirs
pub record Steps (n : ℕ) (w u : FoundForms) : Type 0 where
  pub grown : length w.forms ≤ length u.forms
  pub few : length u.forms ≤ length w.forms + n
  pub below : AreBelow w → AreBelow u
  pub kept : (name : ℕ) → HasForm w.named name → HasForm u.named name
  pub all : length u.named ≡ length w.named

pub next_to : {m n : ℕ} {w v u : FoundForms} → Steps m w v → Steps n v u → Steps (m + n) w u
next_to {m} {n} {w} {v} {u} p q = record {
  grown = let a = p.grown in let b = q.grown in omega (arith, a, b);
  few = let a = p.few in let b = q.few in omega (arith, a, b);
  below = λ h. q.below (p.below h);
  kept = λ name h. q.kept name (p.kept name h);
  all = q.all ∙ p.all;
}

pub at_most : {m n : ℕ} {w u : FoundForms} → m ≤ n → Steps m w u → Steps n w u
at_most {m} {n} {w} {u} le p =
    record { grown = p.grown; few = let a = p.few in omega (arith, a, le); below = p.below; kept = p.kept; all = p.all }

below_more : (m n : ℕ) (named : List (Option ℕ)) → m ≤ n → Every (IsBelow m) named → Every (IsBelow n) named
below_more m n named le h = every_is (IsBelow m) (IsBelow n) (λ o b k e. let lt = b k e in omega (arith, lt, le)) named h

-- no name gets a form
still : {n : ℕ} {w u : FoundForms} → length w.forms ≤ length u.forms → length u.forms ≤ length w.forms + n → u.named ≡ w.named → Steps n w u
still {n} {w} {u} grown few named = record {
  grown = grown;
  few = few;
  below = λ h. subst (Every (IsBelow (length u.forms))) (sym named) (below_more (length w.forms) (length u.forms) w.named grown h);
  kept = λ name h. subst (λ (l : List (Option ℕ)). HasForm l name) (sym named) h;
  all = ap length named;
}

pub same : (n : ℕ) (w : FoundForms) → Steps n w w
same n w = still (omega arith) (omega arith) refl

set_kept : (xs : List (Option ℕ)) (n k name : ℕ) → HasForm xs name → HasForm (slice_set xs n (Some k)) name
set_kept [] n k name h = h
set_kept (x ∷ xs) zero k zero h = (k, refl)
set_kept (x ∷ xs) zero k (suc name) h = h
set_kept (x ∷ xs) (suc n) k zero h = h
set_kept (x ∷ xs) (suc n) k (suc name) h = set_kept xs n k name h

set_here : (xs : List (Option ℕ)) (n k : ℕ) → n < length xs → HasForm (slice_set xs n (Some k)) n
set_here [] n k lt = absurd (omega (arith, lt))
set_here (x ∷ xs) zero k lt = (k, refl)
set_here (x ∷ xs) (suc n) k lt = set_here xs n k (omega (arith, lt))

module _ (at : Place) (k : AggregateKind) (name : ℕ) (ms : Option (List FormMember)) (w : FoundForms) where
  closed_steps : Steps 1 w (closed_named at k name ms w)
  unfolding closed_named
  closed_steps = record {
    grown = omega (arith, more);
    few = omega (arith, more);
    below = λ h. every_set (IsBelow (length all_now)) w.named name (Some (length w.forms)) (below_more (length w.forms) (length all_now) w.named (omega (arith, more)) h) below_last;
    kept = λ other h. set_kept w.named name (length w.forms) other h;
    all = length_set w.named name (Some (length w.forms));
  }
    where
      all_now : List Form
      all_now = w.forms ++ form at (is_union k) ms ∷ []

      more : length all_now ≡ suc (length w.forms)
      more = length_more w.forms (form at (is_union k) ms)

      below_last : (j : ℕ) → Some (length w.forms) ≡ Some j → j < length all_now
      below_last j e = let s : length w.forms ≡ j = some_is e in omega (arith, s, more)

  closed_has : name < length w.named → HasForm (closed_named at k name ms w).named name
  unfolding closed_named
  closed_has lt = set_here w.named name (length w.forms) lt

-- an item with members in it gives its name a form
abbrev pub Forms : Item → ℕ → Type 0
Forms (item.Aggregate at k name ms) n = name.name ≡ n
Forms (item.Adt at name ps ms) n = name.name ≡ n
Forms _ n = ⊥

module _ (names : Names) (inside : Option Instance) where
  fields_steps : (b : Bool) (base : TypeTree) (w : FoundForms) (ds : List Dcl) → Steps 0 w (fold (with_field names inside b base) w ds)
  fields_steps b base w [] = same 0 w
  fields_steps b base w (d ∷ ds) = next_to {m = 0} {v = with_field names inside b base w d} (still (omega arith) (omega arith) refl) (fields_steps b base (with_field names inside b base w d) ds)

  abbrev IsRight : Member → Type 0
  IsRight m = (b : Bool) (w : FoundForms) → Steps (member_forms m) w (member names inside m b w)

  abbrev Checked : Type 0
  Checked = (m : Member) × IsRight m

  abbrev tree_of : Member-F Checked → Member-F Member
  tree_of y = map-Member Checked Member (λ c. c.0) y

  abbrev trees : List Checked → List Member
  trees cs = map (λ c. c.0) cs

  abbrev Way : Type 0
  Way = Bool → FoundForms → FoundForms

  members_steps : (w : FoundForms) (cs : List Checked) → Steps (total (map member_forms (trees cs))) w (fold (λ u (a : Way). a false u) w (map (member names inside) (trees cs)))
  members_steps w [] = same 0 w
  members_steps w (c ∷ cs) = next_to {m = member_forms c.0} {v = member names inside c.0 false w} (c.1 false w) (members_steps (member names inside c.0 false w) cs)

  inner_steps : (before : List FormMember) (at : Place) (k : AggregateKind) (b : Bool) (w : FoundForms) → Steps 1 w (closed_inner before at k b w)
  unfolding closed_inner
  inner_steps before at k b w = let more = length_more w.forms (form at (is_union k) (Some w.members)) in still (omega (arith, more)) (omega (arith, more)) refl

  by_step : (y : Member-F Checked) (b : Bool) (w : FoundForms) → Steps (forms_step (map-Member Member ℕ member_forms (tree_of y))) w
      (member_step names inside (map-Member Member Way (member names inside) (tree_of y)) b w)
  by_step (Member-F.Fields at base fields) b w = fields_steps b base w fields
  by_step (Member-F.Unnamed at of) b w = still (omega arith) (omega arith) refl
  by_step (Member-F.Inner at k cs) b w =
      let inner = fold (λ u (a : Way). a false u) (opened w) (map (member names inside) (trees cs)) in
      at_most (omega arith) (next_to {m = 0} {w = w} {v = opened w} {u = closed_inner w.members at k b inner} (still (omega arith) (omega arith) refl)
      (next_to {v = inner} (members_steps (opened w) cs) (inner_steps w.members at k b inner)))

  by_parts : (y : Member-F Checked) → IsRight (roll-Member (tree_of y))
  unfolding member member_forms
  by_parts y b w =
      let z = tree_of y in
      subst (λ n. Steps n w (member names inside (roll-Member z) b w)) (sym (fold-roll-Member ℕ forms_step z))
      (subst (λ (f : Way). Steps (forms_step (map-Member Member ℕ member_forms z)) w (f b w)) (sym (fold-roll-Member Way (member_step names inside) z)) (by_step y b w))

  member_steps : (m : Member) → IsRight m
  member_steps = ind-Member IsRight (λ x y is. subst (λ z. IsRight (roll-Member z)) is (by_parts y))

  -- ---- items

  plain_steps : (w : FoundForms) (ms : List Member) → Steps (total (map member_forms ms)) w (fold (with_plain names inside) w ms)
  plain_steps w [] = same 0 w
  plain_steps w (m ∷ ms) = next_to {m = member_forms m} {v = member names inside m false w} (member_steps m false w) (plain_steps (member names inside m false w) ms)

  part_steps : (scope : Option Scope) (w : FoundForms) (p : AdtPart) → Steps (part_forms p) w (with_part names inside scope w p)
  part_steps scope w (part.Data m) = member_steps m (is_intern scope) w
  part_steps scope w (part.Function base stars name ps) = same 0 w

  parts_steps : (w : FoundForms) (ms : List AdtMember) → Steps (total (map adt_member_forms ms)) w (fold (with_adt_member names inside) w ms)
  parts_steps w [] = same 0 w
  parts_steps w (m ∷ ms) = next_to {m = adt_member_forms m} {v = with_adt_member names inside w m} (part_steps m.scope w m.part) (parts_steps (with_adt_member names inside w m) ms)

  opened_steps : (w : FoundForms) → Steps 0 w (opened w)
  opened_steps w = still (omega arith) (omega arith) refl

  aggregate_steps : (w : FoundForms) (at : Place) (k : AggregateKind) (name : ℕ) (ms : List Member)
      → Steps (1 + total (map member_forms ms)) w (let u = fold (with_plain names inside) (opened w) ms in closed_named at k name (Some u.members) u)
  aggregate_steps w at k name ms =
      let u = fold (with_plain names inside) (opened w) ms in
      at_most (omega arith) (next_to {v = opened w} {u = closed_named at k name (Some u.members) u} (opened_steps w) (next_to {v = u} (plain_steps (opened w) ms) (closed_steps at k name (Some u.members) u)))

  adt_steps : (w : FoundForms) (at : Place) (name : ℕ) (ms : List AdtMember)
      → Steps (1 + total (map adt_member_forms ms)) w (let u = fold (with_adt_member names inside) (opened w) ms in closed_named at kind.Adt name (Some u.members) u)
  adt_steps w at name ms =
      let u = fold (with_adt_member names inside) (opened w) ms in
      at_most (omega arith) (next_to {v = opened w} {u = closed_named at kind.Adt name (Some u.members) u} (opened_steps w) (next_to {v = u} (parts_steps (opened w) ms) (closed_steps at kind.Adt name (Some u.members) u)))

  body_steps : (w : FoundForms) (i : Item) → Steps (item_forms i) w (with_body names inside w i)
  unfolding with_body
  body_steps w (item.Aggregate at k name ms) = aggregate_steps w at k name.name ms
  body_steps w (item.Adt at name ps ms) = adt_steps w at name.name ms
  body_steps w (item.Forward at k name) = same 1 w
  body_steps w (item.Typedef at base dcl) = same 0 w
  body_steps w (item.FunctionType at base stars name ps) = same 0 w
  body_steps w (item.Enum at name list) = same 0 w
  body_steps w (item.Declare at scope base list) = same 0 w
  body_steps w (item.Function at scope base head body) = same 0 w

  pub item_steps : (w : FoundForms) (i : Item) → Steps (item_forms i) w (with_item names inside w i)
  item_steps w i = go (belongs (owner_of names i) inside)
    where
      go : (b : Bool) → Steps (item_forms i) w (if b then with_body names inside w i else w)
      go true = body_steps w i
      go false = same (item_forms i) w

  pub items_steps : (w : FoundForms) (is : List Item) → Steps (all_forms is) w (fold (with_item names inside) w is)
  items_steps w [] = same 0 w
  items_steps w (i ∷ is) = next_to {m = item_forms i} {v = with_item names inside w i} (item_steps w i) (items_steps (with_item names inside w i) is)

  body_has : (w : FoundForms) (i : Item) (n : ℕ) → Forms i n → n < length w.named → HasForm (with_body names inside w i).named n
  unfolding with_body
  body_has w (item.Aggregate at k name ms) n e lt =
      let u = fold (with_plain names inside) (opened w) ms in
      let s = plain_steps (opened w) ms in
      subst (HasForm (closed_named at k name.name (Some u.members) u).named) e (closed_has at k name.name (Some u.members) u (omega (arith, e, lt, s.all)))
  body_has w (item.Adt at name ps ms) n e lt =
      let u = fold (with_adt_member names inside) (opened w) ms in
      let s = parts_steps (opened w) ms in
      subst (HasForm (closed_named at kind.Adt name.name (Some u.members) u).named) e (closed_has at kind.Adt name.name (Some u.members) u (omega (arith, e, lt, s.all)))
  body_has w (item.Forward at k name) n e lt = absurd e
  body_has w (item.Typedef at base dcl) n e lt = absurd e
  body_has w (item.FunctionType at base stars name ps) n e lt = absurd e
  body_has w (item.Enum at name list) n e lt = absurd e
  body_has w (item.Declare at scope base list) n e lt = absurd e
  body_has w (item.Function at scope base head body) n e lt = absurd e

  pub items_have : (w : FoundForms) (is : List Item) (k : ℕ) (i : Item) (n : ℕ) → slice_get is k ≡ Some i → belongs (owner_of names i) inside ≡ true → Forms i n → n < length w.named
      → HasForm (fold (with_item names inside) w is).named n
  items_have w [] k i n e own f lt = absurd (cc)
  items_have w (x ∷ is) zero i n e own f lt =
      let next = with_item names inside w x in
      let same : x ≡ i = cc in
      (items_steps next is).kept n
      (subst (λ (y : Item). HasForm (with_item names inside w y).named n) (sym same)
      (subst (λ b. HasForm (if b then with_body names inside w i else w).named n) (sym own) (body_has w i n f lt)))
  items_have w (x ∷ is) (suc k) i n e own f lt =
      let next = with_item names inside w x in
      let s = item_steps w x in
      items_have next is k i n e own f (omega (arith, lt, s.all))

-- ---- names alone

pub name_steps : (w : FoundForms) (i : Item) → Steps (item_forms i) w (with_name w i)
unfolding with_name
name_steps w (item.Forward at k name) = go (is_some (form_named w.named name.name))
  where
    go : (b : Bool) → Steps 1 w (if b then w else closed_named at k name.name None w)
    go true = same 1 w
    go false = closed_steps at k name.name None w
name_steps w (item.Aggregate at k name ms) = same _ w
name_steps w (item.Adt at name ps ms) = same _ w
name_steps w (item.Typedef at base dcl) = same 0 w
name_steps w (item.FunctionType at base stars name ps) = same 0 w
name_steps w (item.Enum at name list) = same 0 w
name_steps w (item.Declare at scope base list) = same 0 w
name_steps w (item.Function at scope base head body) = same 0 w

pub names_steps : (w : FoundForms) (is : List Item) → Steps (all_forms is) w (fold with_name w is)
names_steps w [] = same 0 w
names_steps w (i ∷ is) = next_to {m = item_forms i} {v = with_name w i} (name_steps w i) (names_steps (with_name w i) is)

abbrev pub IsForward : Item → ℕ → Type 0
IsForward (item.Forward at k name) n = name.name ≡ n
IsForward _ n = ⊥

some_form : (o : Option ℕ) → is_some o ≡ true → (k : ℕ) × (o ≡ Some k)
some_form None h = absurd (let f : ⊥ = cc in f)
some_form (Some k) h = (k, refl)

name_has : (w : FoundForms) (i : Item) (n : ℕ) → IsForward i n → n < length w.named → HasForm (with_name w i).named n
unfolding with_name
name_has w (item.Forward at k name) n e lt = subst (HasForm (with_name w (item.Forward at k name)).named) e (go (is_some (form_named w.named name.name)) refl)
  where
    go : (b : Bool) → is_some (form_named w.named name.name) ≡ b → HasForm (if b then w else closed_named at k name.name None w).named name.name
    go true h = some_form (form_named w.named name.name) h
    go false h = closed_has at k name.name None w (omega (arith, e, lt))
name_has w (item.Aggregate at k name ms) n e lt = absurd e
name_has w (item.Adt at name ps ms) n e lt = absurd e
name_has w (item.Typedef at base dcl) n e lt = absurd e
name_has w (item.FunctionType at base stars name ps) n e lt = absurd e
name_has w (item.Enum at name list) n e lt = absurd e
name_has w (item.Declare at scope base list) n e lt = absurd e
name_has w (item.Function at scope base head body) n e lt = absurd e

pub names_have : (w : FoundForms) (is : List Item) (k : ℕ) (i : Item) (n : ℕ) → slice_get is k ≡ Some i → IsForward i n → n < length w.named → HasForm (fold with_name w is).named n
names_have w [] k i n e f lt = absurd (cc)
names_have w (x ∷ is) zero i n e f lt =
    let same : x ≡ i = cc in
    (names_steps (with_name w x) is).kept n (subst (λ (y : Item). HasForm (with_name w y).named n) (sym same) (name_has w i n f lt))
names_have w (x ∷ is) (suc k) i n e f lt =
    let s = name_steps w x in
    names_have (with_name w x) is k i n e f (omega (arith, lt, s.all))
