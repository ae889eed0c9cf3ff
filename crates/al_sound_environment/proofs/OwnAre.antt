-- The functions that adts have of their own are called on the adts themselves.
use Rattle.std.proofs.Common.{◌≡◌, ℕ, ◌+◌, Bool, true, false, List, [], ◌∷◌, map, fold, reverse, Option, Some, None, refl, sym, subst}
use Rattle.std.specs.Prelude.{if◌then◌else◌, nat_eq, slice_get, unwrap_or}
use Rattle.std.proofs.lemmas.List.{reverse-append}
use Rattle.al_tree.specs.declared.expression.Name.{Name}
use Rattle.al_tree.specs.declared.item.AdtMember.{AdtMember}
use Rattle.al_tree.specs.declared.item.AdtPart.{AdtPart}
use Rattle.al_tree.specs.declared.item.AdtPart.TheVariants as part
use Rattle.al_tree.specs.declared.item.Item.{Item}
use Rattle.al_tree.specs.declared.item.Item.TheVariants as item
use Rattle.al_tree.specs.declared.item.Scope.{Scope}
use Rattle.al_rules.specs.Outcome.{Good}
use Rattle.al_typed.specs.declared.program.Aggregate.{Aggregate}
use Rattle.al_environment.specs.declared.environment.Environment.{Environment}
use Rattle.al_environment.specs.declared.environment.InstanceType.{InstanceType}
use Rattle.al_form.specs.declared.form.Forms.{Forms}
use Rattle.al_form.specs.declared.form.InstanceForm.{InstanceForm}
use Rattle.al_declare.specs.declared.function.Defined.{Defined}
use Rattle.al_build_types.specs.Built.{instance}
use Rattle.al_member_names.specs.declared.function.OwnFunction.{OwnFunction}
use Rattle.al_adt_functions.specs.Owned.{adts, aggregate_named, begun, instance_owned, own_function, plain_owned, with_closed, with_instance, with_instance_item, with_instances, with_item, with_member, with_owned, with_part, with_plain}
use Rattle.al_adt_functions.specs.Functions.{faults_of, functions, no_functions, own_functions, placed, with_functions}
use Rattle.al_sound_environment.specs.Unnamed.{AdtFunctions, Adts, Body, Owned}
use Rattle.al_sound_environment.specs.Members.{AreOwn, Every}
use Rattle.al_sound_environment.proofs.Lists.{every_at, every_more, every_set, judged_good}

abbrev IsPlain : OwnFunction → Type 0
IsPlain f = f.function.path ≡ []

abbrev ArePlain : List OwnFunction → Type 0
ArePlain fs = Every IsPlain fs

abbrev HasPlain : AdtFunctions → Type 0
HasPlain a = ArePlain a.functions

module _ (env : Environment) (items : List Item) (defined : List Defined) where
  part_plain : (o : Owned) (scope : Option Scope) (w : Body) (p : AdtPart) → ArePlain w.functions → ArePlain (with_part env items defined o scope w p).functions
  unfolding with_part own_function
  part_plain o scope w (part.Data m) h = h
  part_plain o scope w (part.Function base stars name ps) h = every_more IsPlain w.functions _ h refl

  members_plain : (o : Owned) (w : Body) (ms : List AdtMember) → ArePlain w.functions → ArePlain (fold (with_member env items defined o) w ms).functions
  members_plain o w [] h = h
  members_plain o w (m ∷ ms) h = members_plain o (with_member env items defined o w m) ms (part_plain o m.scope w m.part h)

  owned_plain : (o : Owned) (w : Adts) (ms : List AdtMember) → Every HasPlain w.list → Every HasPlain (with_owned env items defined o w ms).list
  unfolding with_owned
  owned_plain o w ms h = every_more HasPlain w.list _ h (members_plain o begun ms tt)

  plain_plain : (name : ℕ) (a : Option ℕ) (w : Adts) (ms : List AdtMember) → Every HasPlain w.list → Every HasPlain (with_plain env items defined name a w ms).list
  plain_plain name None w ms h = h
  plain_plain name (Some a) w ms h = owned_plain (plain_owned name a) w ms h

  closed_plain : (name : ℕ) (ps : List Name) (w : Adts) (ms : List AdtMember) → Every HasPlain w.list → Every HasPlain (with_closed env items defined name ps w ms).list
  closed_plain name [] w ms h = plain_plain name (aggregate_named env name) w ms h
  closed_plain name (p ∷ ps) w ms h = h

  item_plain : (w : Adts) (i : Item) → Every HasPlain w.list → Every HasPlain (with_item env items defined w i).list
  unfolding with_item
  item_plain w (item.Adt at name ps members) h = closed_plain name.name ps w members h
  item_plain w _ h = h

  items_plain : (w : Adts) (is : List Item) → Every HasPlain w.list → Every HasPlain (fold (with_item env items defined) w is).list
  items_plain w [] h = h
  items_plain w (i ∷ is) h = items_plain (with_item env items defined w i) is (item_plain w i h)

  instance_item_plain : (k : ℕ) (i : InstanceType) (w : Adts) (x : Item) → Every HasPlain w.list → Every HasPlain (with_instance_item env items defined k i w x).list
  unfolding with_instance_item
  instance_item_plain k i w (item.Adt at name ps members) h = go (nat_eq name.name i.adt)
    where
      go : (b : Bool) → Every HasPlain (if b then with_owned env items defined (instance_owned k i ps) w members else w).list
      go true = owned_plain (instance_owned k i ps) w members h
      go false = h
  instance_item_plain k i w _ h = h

  instance_items_plain : (k : ℕ) (i : InstanceType) (w : Adts) (is : List Item) → Every HasPlain w.list → Every HasPlain (fold (with_instance_item env items defined k i) w is).list
  instance_items_plain k i w [] h = h
  instance_items_plain k i w (x ∷ is) h = instance_items_plain k i (with_instance_item env items defined k i w x) is (instance_item_plain k i w x h)

  instance_plain : (k : ℕ) (w : Adts) (o : Option InstanceType) → Every HasPlain w.list → Every HasPlain (with_instance env items defined k w o).list
  instance_plain k w None h = h
  instance_plain k w (Some i) h = instance_items_plain k i w items h

  instances_plain : (fs : Forms) (ns : List ℕ) (from : ℕ) (is : List InstanceForm) (w : Adts) → Every HasPlain w.list → Every HasPlain (with_instances env items defined fs ns from is w).list
  unfolding with_instances
  instances_plain fs ns from [] w h = h
  instances_plain fs ns from (i ∷ is) w h = instances_plain fs ns (from + 1) is (with_instance env items defined from w (instance fs ns i)) (instance_plain from w (instance fs ns i) h)

  adts_plain : (fs : Forms) (ns : List ℕ) → Every HasPlain (adts env items defined fs ns).list
  unfolding adts
  adts_plain fs ns = instances_plain fs ns 0 fs.instances _ (items_plain (record { list = []; faults = [] }) items tt)

-- ---- by the numbers of the types

every_reversed : {A : Type 0} (P : A → Type 0) (xs : List A) → Every P xs → Every P (reverse xs)
every_reversed P [] h = tt
every_reversed P (x ∷ xs) h = subst (Every P) (sym (reverse-append (x ∷ []) xs)) (every_more P (reverse xs) x (every_reversed P xs h.1) h.0)

all_placed : (own : List (List OwnFunction)) (list : List AdtFunctions) → Every ArePlain own → Every HasPlain list → Every ArePlain (fold with_functions own list)
all_placed own [] h all = h
all_placed own (a ∷ list) h all = all_placed (with_functions own a) list (every_set ArePlain own a.owned.aggregate a.functions h all.0) all.1

none_placed : (rows : List Aggregate) → Every ArePlain (map no_functions rows)
none_placed [] = tt
none_placed (r ∷ rows) = (tt, none_placed rows)

placed_plain : (own : List (List OwnFunction)) (list : List AdtFunctions) → Every ArePlain own → Every HasPlain list → Every ArePlain (placed own list)
unfolding placed
placed_plain own list h all = all_placed own (reverse list) h (every_reversed HasPlain list all)

at_plain : (own : List (List OwnFunction)) → Every ArePlain own → AreOwn own
at_plain own h n = go (slice_get own n) refl
  where
    go : (o : Option (List OwnFunction)) → slice_get own n ≡ o → ArePlain (unwrap_or o [])
    go None is = tt
    go (Some fs) is = every_at ArePlain own n fs is h

pub own_are : (env : Environment) (items : List Item) (defined : List Defined) (fs : Forms) (ns : List ℕ) (own : List (List OwnFunction)) → functions env items defined fs ns ≡ Good own → AreOwn own
unfolding functions
own_are env items defined fs ns own h =
    let w = adts env items defined fs ns in
    let j = judged_good (faults_of env items defined w) (own_functions env.aggregates w.list) own h in
    subst AreOwn j.1 (at_plain (own_functions env.aggregates w.list) (placed_plain (map no_functions env.aggregates) w.list (none_placed env.aggregates) (adts_plain env items defined fs ns)))
