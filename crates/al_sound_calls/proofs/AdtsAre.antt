-- The adts and instances of a text that have bodies, and the functions that types with members have of their own.
use Rattle.std.proofs.Common.{◌≡◌, ℕ, zero, suc, ◌+◌, Bool, true, false, cond, nat_eq, List, [], ◌∷◌, ◌++◌, map, fold, reverse, Option, Some, None, ◌⊎◌, inl, inr, arith, refl, sym, ap, ◌∙◌, subst}
use Rattle.std.specs.Prelude.{find, if◌then◌else◌, option_and_then, slice_get, slice_set}
use Rattle.std.proofs.lemmas.Bool.{eqb-true, eq-eqb}
use Rattle.std.proofs.lemmas.List.{reverse-append}
use Rattle.al_base.specs.declared.place.Place.{Place}
use Rattle.al_tree.specs.declared.expression.Name.{Name}
use Rattle.al_tree.specs.declared.item.AdtMember.{AdtMember}
use Rattle.al_tree.specs.declared.item.AdtPart.{AdtPart}
use Rattle.al_tree.specs.declared.item.AdtPart.TheVariants as part
use Rattle.al_tree.specs.declared.item.Item.{Item}
use Rattle.al_tree.specs.declared.item.Item.TheVariants as item
use Rattle.al_tree.specs.declared.item.Scope.{Scope}
use Rattle.al_typed.specs.declared.program.Aggregate.{Aggregate}
use Rattle.al_environment.specs.declared.environment.Environment.{Environment}
use Rattle.al_environment.specs.declared.environment.InstanceType.{InstanceType}
use Rattle.al_form.specs.declared.form.Forms.{Forms}
use Rattle.al_form.specs.declared.form.InstanceForm.{InstanceForm}
use Rattle.al_declare.specs.declared.function.Defined.{Defined}
use Rattle.al_build_types.specs.Built.{instance}
use Rattle.al_layout.specs.Types.{within}
use Rattle.al_member_names.specs.declared.function.OwnFunction.{OwnFunction}
use Rattle.al_adt_functions.specs.Bodies.{number_of_body}
use Rattle.al_adt_functions.specs.Owned.{adts, aggregate_named, begun, instance_owned, own_function, plain_owned, with_closed, with_instance, with_instance_item, with_instances, with_item, with_member, with_owned, with_part, with_plain}
use Rattle.al_adt_functions.specs.Functions.{no_functions, placed, with_functions}
use Rattle.al_sound_environment.specs.Unnamed.{AdtFunctions, Adts, Body, Owned}
use Rattle.al_sound_calls.proofs.Lists.{Every, every_is, set_get, some_is}
use Rattle.al_sound_calls.proofs.MethodsAre.{every_more}

-- an adt of that name and with these parameters stands in the text
pub record IsAdtItem (items : List Item) (adt : ℕ) (parameters : List Name) : Type 0 where
  pub number : ℕ
  pub at : Place
  pub name : Name
  pub members : List AdtMember
  pub is : slice_get items number ≡ Some (item.Adt at name parameters members)
  pub named : name.name ≡ adt

pub record IsPlainOwned (env : Environment) (o : Owned) : Type 0 where
  pub name : ℕ
  pub aggregate : ℕ
  pub is : o ≡ plain_owned name aggregate
  pub named : aggregate_named env name ≡ Some aggregate

pub record IsInstanceOwned (items : List Item) (fs : Forms) (ns : List ℕ) (o : Owned) : Type 0 where
  pub number : ℕ
  pub of : InstanceType
  pub parameters : List Name
  pub form : InstanceForm
  pub is : o ≡ instance_owned number of parameters
  pub at : slice_get fs.instances number ≡ Some form
  pub made : instance fs ns form ≡ Some of
  pub adt : IsAdtItem items of.adt parameters

module _ (env : Environment) (items : List Item) (defined : List Defined) (fs : Forms) (ns : List ℕ) where
  abbrev pub IsOwned : Owned → Type 0
  IsOwned o = IsPlainOwned env o ⊎ IsInstanceOwned items fs ns o

  -- a function has the number of its first body
  abbrev pub IsNumbered : Owned → OwnFunction → Type 0
  IsNumbered o g = g.function.signature.number ≡ option_and_then within (number_of_body items defined o.name o.instance g.function.name)

  pub record IsEntry (a : AdtFunctions) : Type 0 where
    pub owned : IsOwned a.owned
    pub numbered : Every (IsNumbered a.owned) a.functions

  abbrev Entries : Adts → Type 0
  Entries w = Every IsEntry w.list

  part_is : (o : Owned) (scope : Option Scope) (w : Body) (p : AdtPart) → Every (IsNumbered o) w.functions → Every (IsNumbered o) (with_part env items defined o scope w p).functions
  unfolding with_part own_function
  part_is o scope w (part.Data m) h = h
  part_is o scope w (part.Function base stars name ps) h = every_more (IsNumbered o) w.functions _ h refl

  members_are : (o : Owned) (w : Body) (ms : List AdtMember) → Every (IsNumbered o) w.functions → Every (IsNumbered o) (fold (with_member env items defined o) w ms).functions
  members_are o w [] h = h
  members_are o w (m ∷ ms) h = members_are o (with_member env items defined o w m) ms (part_is o m.scope w m.part h)

  owned_is : (o : Owned) (w : Adts) (ms : List AdtMember) → IsOwned o → Entries w → Entries (with_owned env items defined o w ms)
  unfolding with_owned
  owned_is o w ms is h = every_more IsEntry w.list _ h (record { owned = is; numbered = members_are o begun ms tt })

  plain_is : (name : ℕ) (a : Option ℕ) (w : Adts) (ms : List AdtMember) → aggregate_named env name ≡ a → Entries w → Entries (with_plain env items defined name a w ms)
  plain_is name None w ms is h = h
  plain_is name (Some a) w ms is h = owned_is (plain_owned name a) w ms (inl (record { name = name; aggregate = a; is = refl; named = is })) h

  closed_is : (name : ℕ) (ps : List Name) (w : Adts) (ms : List AdtMember) → Entries w → Entries (with_closed env items defined name ps w ms)
  closed_is name [] w ms h = plain_is name (aggregate_named env name) w ms refl h
  closed_is name (p ∷ ps) w ms h = h

  item_is : (w : Adts) (i : Item) → Entries w → Entries (with_item env items defined w i)
  unfolding with_item
  item_is w (item.Adt at name ps members) h = closed_is name.name ps w members h
  item_is w _ h = h

  items_are : (w : Adts) (is : List Item) → Entries w → Entries (fold (with_item env items defined) w is)
  items_are w [] h = h
  items_are w (i ∷ is) h = items_are (with_item env items defined w i) is (item_is w i h)

  -- ---- instances

  abbrev IsItem : Item → Type 0
  IsItem x = (n : ℕ) × (slice_get items n ≡ Some x)

  instance_item_is : (k : ℕ) (i : InstanceType) (form : InstanceForm) → slice_get fs.instances k ≡ Some form → instance fs ns form ≡ Some i → (w : Adts) (x : Item) → IsItem x
      → Entries w → Entries (with_instance_item env items defined k i w x)
  unfolding with_instance_item
  instance_item_is k i form at made w (item.Adt place name ps members) there h = go (nat_eq name.name i.adt) refl
    where
      go : (b : Bool) → nat_eq name.name i.adt ≡ b → Entries (if b then with_owned env items defined (instance_owned k i ps) w members else w)
      go true e =
          owned_is (instance_owned k i ps) w members
          (inr (record {
            number = k;
            of = i;
            parameters = ps;
            form = form;
            is = refl;
            at = at;
            made = made;
            adt = record { number = there.0; at = place; name = name; members = members; is = there.1; named = eqb-true name.name i.adt e };
          })) h
      go false e = h
  instance_item_is k i form at made w (item.Typedef place base dcl) there h = h
  instance_item_is k i form at made w (item.FunctionType place base stars name ps) there h = h
  instance_item_is k i form at made w (item.Forward place kind name) there h = h
  instance_item_is k i form at made w (item.Aggregate place kind name members) there h = h
  instance_item_is k i form at made w (item.Enum place name list) there h = h
  instance_item_is k i form at made w (item.Declare place scope base list) there h = h
  instance_item_is k i form at made w (item.Function place scope base head body) there h = h

  instance_items_are : (k : ℕ) (i : InstanceType) (form : InstanceForm) → slice_get fs.instances k ≡ Some form → instance fs ns form ≡ Some i → (w : Adts) (xs : List Item)
      → Every IsItem xs → Entries w → Entries (fold (with_instance_item env items defined k i) w xs)
  instance_items_are k i form at made w [] all h = h
  instance_items_are k i form at made w (x ∷ xs) all h =
      instance_items_are k i form at made (with_instance_item env items defined k i w x) xs all.1 (instance_item_is k i form at made w x all.0 h)

  instance_is : (k : ℕ) (form : InstanceForm) (o : Option InstanceType) → slice_get fs.instances k ≡ Some form → instance fs ns form ≡ o → Every IsItem items → (w : Adts) → Entries w
      → Entries (with_instance env items defined k w o)
  instance_is k form None at made all w h = h
  instance_is k form (Some i) at made all w h = instance_items_are k i form at made w items all h

  instances_are : (from : ℕ) (is : List InstanceForm) (w : Adts) → ((k : ℕ) (x : InstanceForm) → slice_get is k ≡ Some x → slice_get fs.instances (from + k) ≡ Some x) → Every IsItem items
      → Entries w → Entries (with_instances env items defined fs ns from is w)
  unfolding with_instances
  instances_are from [] w at all h = h
  instances_are from (i ∷ is) w at all h =
      instances_are (from + 1) is (with_instance env items defined from w (instance fs ns i)) (λ k x e. subst (λ n. slice_get fs.instances n ≡ Some x) (omega arith) (at (suc k) x e)) all
      (instance_is from i (instance fs ns i) (subst (λ n. slice_get fs.instances n ≡ Some i) (omega arith) (at 0 i refl)) refl all w h)

  every_item : (xs : List Item) → Every (λ x. (n : ℕ) × (slice_get xs n ≡ Some x)) xs
  every_item [] = tt
  every_item (x ∷ xs) = (
    (0, refl),
    every_is (λ y. (n : ℕ) × (slice_get xs n ≡ Some y)) (λ y. (n : ℕ) × (slice_get (x ∷ xs) n ≡ Some y)) (λ y p. (suc p.0, p.1)) xs (every_item xs),
  )

  pub adts_are : Every IsEntry (adts env items defined fs ns).list
  unfolding adts
  adts_are = instances_are 0 fs.instances _ (λ k x e. subst (λ n. slice_get fs.instances n ≡ Some x) (omega arith) e) (every_item items) (items_are (record { list = []; faults = [] }) items tt)

-- ---- by the numbers of the types

set_is : {A : Type 0} (xs : List A) (n : ℕ) (x y : A) → slice_get (slice_set xs n x) n ≡ Some y → x ≡ y
set_is [] n x y h = absurd (cc)
set_is (z ∷ zs) zero x y h = some_is h
set_is (z ∷ zs) (suc n) x y h = set_is zs n x y h

fold_last : (own : List (List OwnFunction)) (xs : List AdtFunctions) (a : AdtFunctions) → fold with_functions own (xs ++ a ∷ []) ≡ with_functions (fold with_functions own xs) a
fold_last own [] a = refl
fold_last own (x ∷ xs) a = fold_last (with_functions own x) xs a

none_placed : (rows : List Aggregate) (j : ℕ) (gs : List OwnFunction) → slice_get (map no_functions rows) j ≡ Some gs → gs ≡ []
none_placed [] j gs h = absurd (cc)
none_placed (r ∷ rows) zero gs h = sym (some_is h)
none_placed (r ∷ rows) (suc j) gs h = none_placed rows j gs h

abbrev pub is_at : ℕ → AdtFunctions → Bool
is_at j a = nat_eq a.owned.aggregate j

-- the functions of a type with members are those of the first adt that has its number
pub placed_is : (rows : List Aggregate) (list : List AdtFunctions) (j : ℕ) (gs : List OwnFunction) → slice_get (placed (map no_functions rows) list) j ≡ Some gs
    → (gs ≡ []) ⊎ ((a : AdtFunctions) × (find (is_at j) list ≡ Some a) × (a.functions ≡ gs))
unfolding placed
placed_is rows [] j gs h = inl (none_placed rows j gs h)
placed_is rows (a ∷ list) j gs h = go (nat_eq a.owned.aggregate j) refl (placed_is rows list j gs)
  where
    before : List (List OwnFunction)
    before = fold with_functions (map no_functions rows) (reverse list)

    set : slice_get (slice_set before a.owned.aggregate a.functions) j ≡ Some gs
    set =
        sym (ap (λ l. slice_get (fold with_functions (map no_functions rows) l) j) (reverse-append (a ∷ []) list)
        ∙ ap (λ l. slice_get l j) (fold_last (map no_functions rows) (reverse list) a)) ∙ h

    go : (b : Bool) → nat_eq a.owned.aggregate j ≡ b
        → (slice_get before j ≡ Some gs → (gs ≡ []) ⊎ ((c : AdtFunctions) × (find (is_at j) list ≡ Some c) × (c.functions ≡ gs)))
        → (gs ≡ []) ⊎ ((c : AdtFunctions) × (cond b (Some a) (find (is_at j) list) ≡ Some c) × (c.functions ≡ gs))
    go true e rest =
        let k = eqb-true a.owned.aggregate j e in
        inr (a, refl, set_is before a.owned.aggregate a.functions gs (ap (slice_get (slice_set before a.owned.aggregate a.functions)) k ∙ set))
    go false e rest = other (set_get before a.owned.aggregate j a.functions gs set)
      where
        other : ((a.owned.aggregate ≡ j) × (a.functions ≡ gs)) ⊎ (slice_get before j ≡ Some gs) → (gs ≡ []) ⊎ ((c : AdtFunctions) × (find (is_at j) list ≡ Some c) × (c.functions ≡ gs))
        other (inl p) = let q : true ≡ false = sym (eq-eqb a.owned.aggregate j p.0) ∙ e in absurd (let f : ⊥ = cc in f)
        other (inr p) = rest p

-- two tests that both pass what the other finds first find the same
pub same_found : {A : Type 0} (p q : A → Bool) (xs : List A) (a b : A) → find p xs ≡ Some a → find q xs ≡ Some b → q a ≡ true → p b ≡ true → a ≡ b
same_found p q [] a b h k f g = absurd (cc)
same_found p q (x ∷ xs) a b h k f g = go (p x) (q x) refl refl h k (λ h k. same_found p q xs a b h k f g)
  where
    clash : {c : Bool} → c ≡ true → c ≡ false → ⊥
    clash u v = let f : ⊥ = cc in f

    go : (c d : Bool) → p x ≡ c → q x ≡ d → cond c (Some x) (find p xs) ≡ Some a → cond d (Some x) (find q xs) ≡ Some b
        → (find p xs ≡ Some a → find q xs ≡ Some b → a ≡ b) → a ≡ b
    go true true u v h k rest = sym (some_is h) ∙ some_is k
    go true false u v h k rest = absurd (clash (ap q (some_is h) ∙ f) v)
    go false true u v h k rest = absurd (clash (ap p (some_is k) ∙ g) u)
    go false false u v h k rest = rest h k
