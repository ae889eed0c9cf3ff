-- Each instance of a text has a type.
use Rattle.std.proofs.Common.{◌≡◌, ℕ, zero, suc, ◌<◌, ◌≤◌, Bool, true, false, ◌||◌, nat_eq, ◌⊎◌, inl, inr, All, List, [], ◌∷◌, ◌++◌, append_assoc, map, fold, length, Option, Some, None, option_map, arith, refl, sym, ap, ◌∙◌, subst}
use Rattle.std.specs.Prelude.{⊤, ◌==◌, if◌then◌else◌, is_some, slice_get}
use Rattle.std.specs.List.{flat_map, slice_index_or}
use Rattle.std.specs.Map.{lookup}
use Rattle.std.specs.Option.{option_to_list}
use Rattle.std.proofs.lemmas.List.{length-map}
use Rattle.std.proofs.lemmas.Bool.{eqb-true, eq-eqb}
use Rattle.indexmap.specs.IndexMap.{insert_entry}
use Rattle.al_tree.specs.declared.expression.Name.{Name}
use Rattle.al_tree.specs.declared.type_tree.BasicType.TheVariants as basic
use Rattle.al_tree.specs.declared.type_tree.TypeTree.{TypeTree}
use Rattle.al_tree.specs.declared.item.Item.{Item}
use Rattle.al_tree.specs.declared.item.Item.TheVariants as item
use Rattle.al_tree.specs.declared.item.Parameter.{Parameter}
use Rattle.al_tree.specs.declared.item.Parameter.TheVariants as parameter
use Rattle.al_tree.specs.declared.item.Tree.{Tree}
use Rattle.al_tree.specs.Constants.{values}
use Rattle.al_rules.specs.Outcome.{Good}
use Rattle.al_poly.specs.declared.concrete_type.ConcreteType.{ConcreteType}
use Rattle.al_poly.specs.declared.concrete_type.ConcreteType.TheVariants as ct
use Rattle.al_poly.specs.declared.instance.Instance.{Instance}
use Rattle.al_poly.specs.declared.names.Names.{Names}
use Rattle.al_poly.specs.Closed.{StandsIn, named_in}
use Rattle.al_poly.specs.Concrete.{same_instance}
use Rattle.al_poly.specs.Instances.{belongs, instances, is_there, named_by_piece, owner_of, piece_of}
use Rattle.al_poly.specs.Types.{Adts, adt_named, argument, declared, function_type, global, if_there, instances_in, names_of, or_else, own_or_global, parameter_named, plain, type_known, type_of, type_of_instance, with_adt_in, with_enum, with_item, with_known}
use Rattle.al_poly.specs.Written.{in_item, in_parameter}
use Rattle.al_poly.proofs.ClosedIs.{all_there, is_named}
use Rattle.al_poly.proofs.SameItself.{same_instance-self}
use Rattle.al_typed.specs.declared.ty.Ty.{Ty}
use Rattle.al_typed.specs.declared.ty.Ty.TheVariants as ty
use Rattle.al_environment.specs.declared.environment.InstanceType.{InstanceType}
use Rattle.al_form.specs.declared.form.Forms.{Forms as TextForms}
use Rattle.al_form.specs.declared.form.InstanceForm.{InstanceForm}
use Rattle.al_form.specs.Forms.{form_named, forms}
use Rattle.al_layout.specs.declared.row.LaidOut.{LaidOut}
use Rattle.al_layout.specs.Rows.{laid_out}
use Rattle.al_layout.specs.Types.{form_of_instance, number_of_form, type_of_form}
use Rattle.al_layout.proofs.TypesAre.{ty_of-Instance, ty_of-Named}
use Rattle.al_build_types.specs.Built.{instance, instance_if, instance_with, instances as typed_instances}
use Rattle.al_declare.specs.Asking.{begun as undeclared, text_of}
use Rattle.al_declare.specs.Items as di
use Rattle.al_declare.specs.Types as dt
use Rattle.al_sound_environment.specs.Members.{Every}
use Rattle.al_sound_environment.proofs.Lists.{every_append, every_at, then_some}
use Rattle.al_sound_calls.proofs.Unnamed.{Asked}
use Rattle.al_sound_calls.proofs.Lists.{judged_good, some_is}
use Rattle.al_sound_calls.proofs.Joint.{put_is, put_other}
use Rattle.al_sound_instances.proofs.OrderIs.{form_has_number}
use Rattle.al_sound_instances.proofs.Counts.{all_forms}
use Rattle.al_sound_instances.proofs.FormsAre.{Forms, IsForward}
use Rattle.al_sound_instances.proofs.TextForms.{IsAlone, IsFormed, IsMade, IsOpen, formed_all, forms_few, instance_form, instances_all, named_form}
use Rattle.al_sound_instances.proofs.NamesAre.{ItemNamed, every_both}
use Rattle.al_sound_instances.proofs.Known.{Agree, Extends, extends_same, item_moves, items_extend, items_faults}
use Rattle.al_sound_instances.proofs.Types.{Argued, BaseRight, HasType, Opened, Right, all_right, basic_right, declared_right, function_type_right, type_good, type_opened}

-- ---- lists

module _ {A : Type 0} (P : A → Type 0) where
  every_in : (xs : List A) (x : A) (k : ℕ) → k < length xs → slice_index_or xs k x ≡ x → Every P xs → P x
  every_in [] x k lt e all = absurd (omega (arith, lt))
  every_in (y ∷ ys) x zero lt e all = subst P e all.0
  every_in (y ∷ ys) x (suc k) lt e all = every_in ys x k (omega (arith, lt)) e all.1

  every_all : (xs : List A) → All P xs → Every P xs
  every_all [] h = tt
  every_all (x ∷ xs) h = (h 0 x (omega arith), every_all xs (λ k d lt. h (suc k) d (omega (arith, lt))))

  every_flat : {B : Type 0} (f : B → List A) (xs : List B) → Every P (flat_map f xs) → Every (λ x. Every P (f x)) xs
  every_flat f [] h = tt
  every_flat f (x ∷ xs) h = let b = every_both P (f x) (flat_map f xs) h in (b.0, every_flat f xs b.1)

  flat_every : {B : Type 0} (f : B → List A) (xs : List B) → Every (λ x. Every P (f x)) xs → Every P (flat_map f xs)
  flat_every f [] h = tt
  flat_every f (x ∷ xs) h = every_append P (f x) (flat_map f xs) h.0 (flat_every f xs h.1)

  every_place : (xs : List A) → ((k : ℕ) (x : A) → slice_get xs k ≡ Some x → P x) → Every P xs
  every_place [] h = tt
  every_place (x ∷ xs) h = (h 0 x refl, every_place xs (λ k y e. h (suc k) y e))

  every_map : {B : Type 0} (f : B → A) (xs : List B) → Every P (map f xs) → Every (λ x. P (f x)) xs
  every_map f [] h = tt
  every_map f (x ∷ xs) h = (h.0, every_map f xs h.1)

every_two : {A : Type 0} (P Q R : A → Type 0) → ((x : A) → P x → Q x → R x) → (xs : List A) → Every P xs → Every Q xs → Every R xs
every_two P Q R f [] p q = tt
every_two P Q R f (x ∷ xs) p q = (f x p.0 q.0, every_two P Q R f xs p.1 q.1)

there_at : (xs : List Instance) (n : ℕ) (j : Instance) → slice_get xs n ≡ Some j → is_there xs j ≡ true
there_at [] n j e = absurd (let f : ⊥ = cc in f)
there_at (x ∷ xs) zero j e = ap (λ (y : Instance). same_instance y j || is_there xs j) (some_is e) ∙ ap (λ b. b || is_there xs j) (same_instance-self j)
there_at (x ∷ xs) (suc n) j e = ap (λ b. same_instance x j || b) (there_at xs n j e) ∙ end (same_instance x j)
  where
    end : (b : Bool) → (b || true) ≡ true
    end true = refl
    end false = refl

get_front : {A : Type 0} (front rest : List A) (n : ℕ) (x : A) → slice_get front n ≡ Some x → slice_get (front ++ rest) n ≡ Some x
get_front [] rest n x e = absurd (let f : ⊥ = cc in f)
get_front (y ∷ front) rest zero x e = e
get_front (y ∷ front) rest (suc n) x e = get_front front rest n x e

-- ---- adts with parameters

abbrev IsAdt : Item → ℕ → Type 0
IsAdt (item.Adt at name ps members) q = name.name ≡ q
IsAdt _ q = ⊥

adt_named-is : (adts : Adts) (q : ℕ) → adt_named adts q ≡ lookup (nat_eq q) adts
unfolding adt_named
adt_named-is adts q = refl

put_either : (adts : Adts) (n q : ℕ) (l ps : List ℕ) → lookup (nat_eq q) (insert_entry nat_eq adts n l) ≡ Some ps → (lookup (nat_eq q) adts ≡ Some ps) ⊎ (n ≡ q)
put_either adts n q l ps e = go (nat_eq q n) refl
  where
    go : (b : Bool) → nat_eq q n ≡ b → (lookup (nat_eq q) adts ≡ Some ps) ⊎ (n ≡ q)
    go true is = inr (sym (eqb-true q n is))
    go false is = inl (sym (put_other adts n l q is) ∙ e)

adt_step : (x : Item) (adts : Adts) (q : ℕ) (ps : List ℕ) → lookup (nat_eq q) (with_adt_in adts x) ≡ Some ps → (lookup (nat_eq q) adts ≡ Some ps) ⊎ IsAdt x q
unfolding with_adt_in
adt_step (item.Adt at name [] members) adts q ps e = inl e
adt_step (item.Adt at name (p ∷ list) members) adts q ps e = put_either adts name.name q _ ps e
adt_step (item.Aggregate at k name ms) adts q ps e = inl e
adt_step (item.Forward at k name) adts q ps e = inl e
adt_step (item.Typedef at base dcl) adts q ps e = inl e
adt_step (item.FunctionType at base stars name list) adts q ps e = inl e
adt_step (item.Enum at name list) adts q ps e = inl e
adt_step (item.Declare at scope base list) adts q ps e = inl e
adt_step (item.Function at scope base head body) adts q ps e = inl e

abbrev HasAdt : List Item → ℕ → Type 0
HasAdt xs q = (k : ℕ) × (x : Item) × (slice_get xs k ≡ Some x) × IsAdt x q

adt_item : (xs : List Item) (adts : Adts) (q : ℕ) (ps : List ℕ) → lookup (nat_eq q) (fold with_adt_in adts xs) ≡ Some ps → (lookup (nat_eq q) adts ≡ Some ps) ⊎ HasAdt xs q
adt_item [] adts q ps e = inl e
adt_item (x ∷ xs) adts q ps e = go (adt_item xs (with_adt_in adts x) q ps e)
  where
    first : (lookup (nat_eq q) adts ≡ Some ps) ⊎ IsAdt x q → (lookup (nat_eq q) adts ≡ Some ps) ⊎ HasAdt (x ∷ xs) q
    first (inl h) = inl h
    first (inr h) = inr (0, x, refl, h)

    go : (lookup (nat_eq q) (with_adt_in adts x) ≡ Some ps) ⊎ HasAdt xs q → (lookup (nat_eq q) adts ≡ Some ps) ⊎ HasAdt (x ∷ xs) q
    go (inl h) = first (adt_step x adts q ps h)
    go (inr h) = inr (suc h.0, h.1, h.2, h.3)

adt_forms : (x : Item) (q : ℕ) → IsAdt x q → Forms x q
adt_forms (item.Adt at name ps members) q h = h
adt_forms (item.Aggregate at k name ms) q h = absurd h
adt_forms (item.Forward at k name) q h = absurd h
adt_forms (item.Typedef at base dcl) q h = absurd h
adt_forms (item.FunctionType at base stars name list) q h = absurd h
adt_forms (item.Enum at name list) q h = absurd h
adt_forms (item.Declare at scope base list) q h = absurd h
adt_forms (item.Function at scope base head body) q h = absurd h

-- a name of a type with members is one of the names
forms_below : (m : ℕ) (x : Item) (q : ℕ) → Forms x q → ItemNamed m x → q < m
forms_below m (item.Adt at name ps members) q h lt = subst (λ n. n < m) h lt
forms_below m (item.Aggregate at k name ms) q h lt = subst (λ n. n < m) h lt
forms_below m (item.Forward at k name) q h lt = absurd h
forms_below m (item.Typedef at base dcl) q h lt = absurd h
forms_below m (item.FunctionType at base stars name list) q h lt = absurd h
forms_below m (item.Enum at name list) q h lt = absurd h
forms_below m (item.Declare at scope base list) q h lt = absurd h
forms_below m (item.Function at scope base head body) q h lt = absurd h

forward_below : (m : ℕ) (x : Item) (q : ℕ) → IsForward x q → ItemNamed m x → q < m
forward_below m (item.Forward at k name) q h lt = subst (λ n. n < m) h lt
forward_below m (item.Adt at name ps members) q h lt = absurd h
forward_below m (item.Aggregate at k name ms) q h lt = absurd h
forward_below m (item.Typedef at base dcl) q h lt = absurd h
forward_below m (item.FunctionType at base stars name list) q h lt = absurd h
forward_below m (item.Enum at name list) q h lt = absurd h
forward_below m (item.Declare at scope base list) q h lt = absurd h
forward_below m (item.Function at scope base head body) q h lt = absurd h

-- an adt with parameters belongs to its instances, and what has none to the text
adt_belongs : (names : Names) (x : Item) (i : Instance) (ps : List ℕ) → IsAdt x i.adt → adt_named names.adts i.adt ≡ Some ps → belongs (owner_of names x) (Some i) ≡ true
adt_belongs names (item.Adt at name list members) i ps h e =
    subst (λ n. belongs (if is_some (adt_named names.adts n) then Some n else None) (Some i) ≡ true) (sym h)
    (ap (λ o. belongs (if is_some o then Some i.adt else None) (Some i)) e ∙ eq-eqb i.adt i.adt refl)
adt_belongs names (item.Aggregate at k name ms) i ps h e = absurd h
adt_belongs names (item.Forward at k name) i ps h e = absurd h
adt_belongs names (item.Typedef at base dcl) i ps h e = absurd h
adt_belongs names (item.FunctionType at base stars name list) i ps h e = absurd h
adt_belongs names (item.Enum at name list) i ps h e = absurd h
adt_belongs names (item.Declare at scope base list) i ps h e = absurd h
adt_belongs names (item.Function at scope base head body) i ps h e = absurd h

text_owns : (names : Names) (x : Item) (q : ℕ) → Forms x q → adt_named names.adts q ≡ None → belongs (owner_of names x) None ≡ true
text_owns names (item.Adt at name list members) q h e =
    ap (λ n. belongs (if is_some (adt_named names.adts n) then Some n else None) None) h ∙ ap (λ o. belongs (if is_some o then Some q else None) None) e
text_owns names (item.Aggregate at k name ms) q h e = refl
text_owns names (item.Forward at k name) q h e = absurd h
text_owns names (item.Typedef at base dcl) q h e = absurd h
text_owns names (item.FunctionType at base stars name list) q h e = absurd h
text_owns names (item.Enum at name list) q h e = absurd h
text_owns names (item.Declare at scope base list) q h e = absurd h
text_owns names (item.Function at scope base head body) q h e = absurd h

-- ---- what a name stands for

type_known-is : (p : Names) (q : ℕ) (t : ConcreteType) → type_known p.known q ≡ Some t → lookup (nat_eq q) p.known ≡ Some (Some t)
unfolding type_known
type_known-is p q t e = go (lookup (nat_eq q) p.known) e
  where
    go : (o : Option (Option ConcreteType)) → if_there o ≡ Some t → o ≡ Some (Some t)
    go None f = absurd (let g : ⊥ = cc in g)
    go (Some x) f = ap Some f

global_some : (p : Names) (q : ℕ) (t : ConcreteType) → global p q ≡ Some t → (adt_named p.adts q ≡ None) × (lookup (nat_eq q) p.known ≡ Some (Some t))
unfolding global
global_some p q t e = go (adt_named p.adts q) refl e
  where
    go : (o : Option (List ℕ)) → adt_named p.adts q ≡ o → (if is_some o then None else type_known p.known q) ≡ Some t → (adt_named p.adts q ≡ None) × (lookup (nat_eq q) p.known ≡ Some (Some t))
    go None is f = (is, type_known-is p q t f)
    go (Some ps) is f = absurd (let g : ⊥ = cc in g)

global_is : (p : Names) (q : ℕ) (t : ConcreteType) → adt_named p.adts q ≡ None → lookup (nat_eq q) p.known ≡ Some (Some t) → global p q ≡ Some t
unfolding global type_known
global_is p q t none known = ap (λ o. if is_some o then None else if_there (lookup (nat_eq q) p.known)) none ∙ ap if_there known

-- ---- a text

module _ (tree : Tree) (laid : LaidOut) (laid_is : laid_out (forms tree (instances tree.items)) ≡ Good laid) (few : length (instances tree.items) ≤ 256) (small : all_forms tree.items ≤ 1048577)
    (numbered : Every (ItemNamed (length tree.names)) tree.items) (hold : di.names_hold tree ≡ Good tt)
  where
    abbrev needed : List Instance
    needed = instances tree.items

    abbrev fs : TextForms
    fs = forms tree needed

    abbrev ns : List ℕ
    ns = laid.numbers

    abbrev w : Names
    w = names_of tree.items

    abbrev start : Names
    start = record { constants = record { list = values tree.items }; adts = fold with_adt_in [] tree.items; known = [] }

    abbrev Has : ConcreteType → Type 0
    Has = HasType fs ns

    no_faults : (dt.each di.item_way tree.items (text_of tree) undeclared).faults ≡ []
    unfolding di.names_hold
    no_faults = (judged_good (dt.each di.item_way tree.items (text_of tree) undeclared).faults tt tt hold).0

    agrees : Agree undeclared start
    agrees q = refl

    whole_is : fold with_item start tree.items ≡ w
    unfolding names_of
    whole_is = refl

    from_start : Extends start w
    from_start = subst (λ (u : Names). Extends start u) whole_is (items_extend (text_of tree) tree.items undeclared start no_faults agrees)

    -- ---- instances have forms

    is_open : (i : Instance) → Opened w i → IsOpen tree i
    is_open i h =
        go (adt_item tree.items [] i.adt h.0 (ap (λ (l : Adts). lookup (nat_eq i.adt) l) (sym from_start.adts) ∙ sym (adt_named-is w.adts i.adt) ∙ h.1))
      where
        go : (lookup (nat_eq i.adt) [] ≡ Some h.0) ⊎ HasAdt tree.items i.adt → IsOpen tree i
        go (inl e) = absurd (let f : ⊥ = cc in f)
        go (inr a) = (
          record { number = a.0; of = a.1; is = a.2; own = adt_belongs w a.1 i h.0 a.3 h.1; forms = adt_forms a.1 i.adt a.3 },
          forms_below (length tree.names) a.1 i.adt (adt_forms a.1 i.adt a.3) (every_at (ItemNamed (length tree.names)) tree.items a.0 a.1 a.2 numbered),
        )

    piece_opened : (inside : Option Instance) (x : Item) → Every (Opened w) (named_by_piece w inside (piece_of w x))
    piece_opened inside x = go (belongs (owner_of w x) inside)
      where
        types : (ts : List TypeTree) → Every (λ t. Every (Opened w) (instances_in w inside t)) ts
        types [] = tt
        types (t ∷ ts) = (type_opened w inside t, types ts)

        go : (b : Bool) → Every (Opened w) (if b then flat_map (instances_in w inside) (in_item x) else [])
        go true = flat_every (Opened w) (instances_in w inside) (in_item x) (types (in_item x))
        go false = tt

    pieces_opened : (inside : Option Instance) (xs : List Item) → Every (Opened w) (flat_map (named_by_piece w inside) (map (piece_of w) xs))
    pieces_opened inside [] = tt
    pieces_opened inside (x ∷ xs) =
        every_append (Opened w) (named_by_piece w inside (piece_of w x)) (flat_map (named_by_piece w inside) (map (piece_of w) xs)) (piece_opened inside x) (pieces_opened inside xs)

    opened_rest : (front rest : List Instance) → needed ≡ front ++ rest → Every (Opened w) rest
    opened_rest front [] e = tt
    opened_rest front (i ∷ rest) e =
        let n = is_named tree.items front i rest e in
        let c = n.2 in (
          every_in (Opened w) (named_in tree.items n.0) i c.0 c.1 c.2 (pieces_opened n.0 tree.items),
          opened_rest (front ++ i ∷ []) rest (e ∙ sym (append_assoc front (i ∷ []) rest)),
        )

    pub all_open : Every (IsOpen tree) needed
    all_open = open_each needed (opened_rest [] needed refl)
      where
        open_each : (xs : List Instance) → Every (Opened w) xs → Every (IsOpen tree) xs
        open_each [] h = tt
        open_each (x ∷ xs) h = (is_open x h.0, open_each xs h.1)

    few_forms : length fs.list ≤ 4294967295
    few_forms = forms_few tree needed few small

    form_type : (o : Option ℕ) (k : ℕ) → o ≡ Some k → k < length fs.list → (u : Ty) × (type_of_form ns o ≡ Some u)
    form_type o k e lt =
        let n = form_has_number fs laid laid_is few_forms k lt in
        (ty.Aggregate n.0, ap (type_of_form ns) e ∙ ap (option_map ty.Aggregate) n.1)

    abbrev There : Instance → Type 0
    There i = is_there needed i ≡ true

    there_right : (i : Instance) → There i → Has (type_of_instance i)
    there_right i h =
        let f = instance_form tree needed all_open i h in
        let u = form_type (form_of_instance fs i.adt i.arguments) f.0 f.1 f.2 in
        (u.0, ty_of-Instance fs ns i.adt i.arguments ∙ u.1)

    -- ---- names have types

    named_right : (q : ℕ) → q < length tree.names → IsMade tree None q ⊎ IsAlone tree q → Has (ct.Named q)
    named_right q lt made =
        let f = named_form tree needed q lt made in
        let u = form_type (form_named fs.named q) f.0 f.1 f.2 in
        (u.0, ty_of-Named fs ns q ∙ u.1)

    abbrev TreeThere : TypeTree → Type 0
    TreeThere t = Every There (instances_in w None t)

    record ItemRight (x : Item) : Type 0 where
      types : owner_of w x ≡ None → Every TreeThere (in_item x)
      made : (q : ℕ) → Forms x q ⊎ IsForward x q → adt_named w.adts q ≡ None → Has (ct.Named q)

    all_named : (inside : Option Instance) → StandsIn needed inside → Every There (named_in tree.items inside)
    all_named inside stands = every_all There (named_in tree.items inside) (all_there tree.items inside (let f : length needed ≤ 256 = few in omega (arith, f)) stands)

    types_there : (xs : List Item) → Every There (flat_map (named_by_piece w None) (map (piece_of w) xs)) → Every (λ x. owner_of w x ≡ None → Every TreeThere (in_item x)) xs
    types_there [] h = tt
    types_there (x ∷ xs) h =
        let b = every_both There (named_by_piece w None (piece_of w x)) (flat_map (named_by_piece w None) (map (piece_of w) xs)) h in (
          λ e. every_flat There (instances_in w None) (in_item x)
              (subst (λ o. Every There (if belongs o None then flat_map (instances_in w None) (in_item x) else [])) e b.0),
          types_there xs b.1,
        )

    item_right : (k : ℕ) (x : Item) → slice_get tree.items k ≡ Some x → ItemRight x
    item_right k x e = record {
      types = every_at (λ y. owner_of w y ≡ None → Every TreeThere (in_item y)) tree.items k x e (types_there tree.items (all_named None tt));
      made = λ q h none. go q none h;
    }
      where
        name : ItemNamed (length tree.names) x
        name = every_at (ItemNamed (length tree.names)) tree.items k x e numbered

        go : (q : ℕ) → adt_named w.adts q ≡ None → Forms x q ⊎ IsForward x q → Has (ct.Named q)
        go q none (inl h) = named_right q (forms_below (length tree.names) x q h name) (inl (record { number = k; of = x; is = e; own = text_owns w x q h none; forms = h }))
        go q none (inr h) = named_right q (forward_below (length tree.names) x q h name) (inr (record { number = k; of = x; is = e; forward = h }))

    -- what is known has a type
    abbrev AreKnown : Names → Type 0
    AreKnown p = (q : ℕ) (t : ConcreteType) → adt_named w.adts q ≡ None → lookup (nat_eq q) p.known ≡ Some (Some t) → Has t

    global_right : (p : Names) → Extends p w → AreKnown p → (q : ℕ) (t : ConcreteType) → global p q ≡ Some t → (global w q ≡ Some t) × Has t
    global_right p more known q t e =
        let g = global_some p q t e in
        let none : adt_named w.adts q ≡ None = ap (λ (l : Adts). adt_named l q) more.adts ∙ g.0 in
        (global_is w q t none (more.known q t g.1), known q t none g.1)

    known_put : (p : Names) (n : ℕ) (o : Option ConcreteType) → AreKnown p → (adt_named w.adts n ≡ None → Right fs ns o) → AreKnown (with_known p n o)
    known_put p n o known h q t none e = go (nat_eq q n) refl
      where
        go : (b : Bool) → nat_eq q n ≡ b → Has t
        go true is =
            let same = eqb-true q n is in
            h (ap (adt_named w.adts) (sym same) ∙ none) t (some_is (sym (put_is p.known n o) ∙ ap (λ k. lookup (nat_eq k) (insert_entry nat_eq p.known n o)) (sym same) ∙ e))
        go false is = known q t none (sym (put_other p.known n o q is) ∙ e)

    module _ (p : Names) (more : Extends p w) (known : AreKnown p) where
      base_right : (t : TypeTree) → TreeThere t → Right fs ns (type_of p None t)
      base_right t there x e = ((type_good fs ns p w more None There there_right (global_right p more known) t there).0 x e).1

      bases_right : (ps : List Parameter) → Every TreeThere (flat_map in_parameter ps) → Every (BaseRight fs ns p None) ps
      bases_right [] h = tt
      bases_right (parameter.Plain at base stars name bounds ∷ ps) h = (base_right base h.0, bases_right ps h.1)
      bases_right (parameter.OwnPointer at name ∷ ps) h = (λ x e. (global_right p more known name x e).1, bases_right ps h)
      bases_right (parameter.OwnValue at name ∷ ps) h = (λ x e. (global_right p more known name x e).1, bases_right ps h)

      enum_known : (o : Option Name) → AreKnown (with_enum p o)
      enum_known None = known
      enum_known (Some n) = known_put p n.name (Some (ct.Basic basic.Int)) known (λ none t e. subst Has (some_is e) (basic_right fs ns basic.Int))

      type_known_right : (n : ℕ) → (adt_named w.adts n ≡ None → Has (ct.Named n)) → AreKnown (with_known p n (Some (ct.Named n)))
      type_known_right n h = known_put p n (Some (ct.Named n)) known (λ none t e. subst Has (some_is e) (h none))

      item_known : (x : Item) → ItemRight x → AreKnown (with_item p x)
      unfolding with_item
      item_known (item.Typedef at base dcl) r =
          known_put p dcl.name.name (declared p None base dcl) known (λ none. declared_right fs ns p None base dcl (base_right base (r.types refl).0))
      item_known (item.FunctionType at base stars name ps) r =
          let h = r.types refl in
          known_put p name.name (function_type p None base stars ps) known (λ none. function_type_right fs ns p None base stars ps (base_right base h.0) (bases_right ps h.1))
      item_known (item.Forward at k name) r = type_known_right name.name (r.made name.name (inr refl))
      item_known (item.Aggregate at k name ms) r = type_known_right name.name (r.made name.name (inl refl))
      item_known (item.Adt at name ps ms) r = type_known_right name.name (r.made name.name (inl refl))
      item_known (item.Enum at name list) r = enum_known name
      item_known (item.Declare at scope base list) r = known
      item_known (item.Function at scope base head body) r = known

    known_all : (xs : List Item) (a : Asked) (p : Names) → (dt.each di.item_way xs (text_of tree) a).faults ≡ [] → Agree a p → fold with_item p xs ≡ w → Every ItemRight xs → AreKnown p → AreKnown w
    known_all [] a p f g e right known = subst AreKnown e known
    known_all (x ∷ xs) a p f g e right known =
        let more = subst (λ (u : Names). Extends p u) e (items_extend (text_of tree) (x ∷ xs) a p f g) in
        let s = (item_moves (text_of tree) x a).steps p (items_faults (text_of tree) xs (di.item_way x (text_of tree) a) f) g in
        known_all xs (di.item_way x (text_of tree) a) (with_item p x) f s.0 e right.1 (item_known p more known x right.0)

    whole_known : AreKnown w
    whole_known = known_all tree.items undeclared start no_faults agrees whole_is (every_place ItemRight tree.items item_right) (λ q t none e. absurd (let f : ⊥ = cc in f))

    -- ---- arguments have types

    -- what is at hand has arguments that have types
    abbrev IsAtHand : Option Instance → Type 0
    IsAtHand None = ⊤
    IsAtHand (Some j) = There j × Argued fs ns j

    argument_right : (j : Instance) → Argued fs ns j → (q : ℕ) (t : ConcreteType) → argument w j q ≡ Some t → Has t
    unfolding argument
    argument_right j h q t e =
        let a = then_some (λ k. slice_get j.arguments k) (parameter_named w j.adt q) t e in
        every_at Has j.arguments a.0 t a.2 h

    own_right : (j : Instance) → There j → (q : ℕ) (t : ConcreteType) → own_or_global w j q ≡ Some t → Has t
    unfolding own_or_global
    own_right j h q t e = go (q == j.adt) e
      where
        go : (b : Bool) → (if b then Some (type_of_instance j) else global w q) ≡ Some t → Has t
        go true f = subst Has (some_is f) (there_right j h)
        go false f = (global_right w (extends_same w) whole_known q t f).1

    plain_right : (inside : Option Instance) → IsAtHand inside → (q : ℕ) (t : ConcreteType) → plain w inside q ≡ Some t → (plain w inside q ≡ Some t) × Has t
    plain_right None h q t e = (e, (global_right w (extends_same w) whole_known q t e).1)
    plain_right (Some j) h q t e = (e, go (argument w j q) refl e)
      where
        go : (o : Option ConcreteType) → argument w j q ≡ o → or_else o (own_or_global w j q) ≡ Some t → Has t
        go None is f = own_right j h.0 q t f
        go (Some x) is f = subst Has (some_is f) (argument_right j h.1 q x is)

    module _ (inside : Option Instance) (at_hand : IsAtHand inside) where
      types_argued : (ts : List TypeTree) → Every There (flat_map (instances_in w inside) ts) → Every (Argued fs ns) (flat_map (instances_in w inside) ts)
      types_argued [] h = tt
      types_argued (t ∷ ts) h =
          let b = every_both There (instances_in w inside t) (flat_map (instances_in w inside) ts) h in
          every_append (Argued fs ns) (instances_in w inside t) (flat_map (instances_in w inside) ts)
          (type_good fs ns w w (extends_same w) inside There there_right (plain_right inside at_hand) t b.0).1 (types_argued ts b.1)

      piece_argued : (x : Item) (b : Bool) → Every There (if b then flat_map (instances_in w inside) (in_item x) else []) → Every (Argued fs ns) (if b then flat_map (instances_in w inside) (in_item x) else [])
      piece_argued x true h = types_argued (in_item x) h
      piece_argued x false h = tt

      pieces_argued : (xs : List Item) → Every There (flat_map (named_by_piece w inside) (map (piece_of w) xs)) → Every (Argued fs ns) (flat_map (named_by_piece w inside) (map (piece_of w) xs))
      pieces_argued [] h = tt
      pieces_argued (x ∷ xs) h =
          let rest = flat_map (named_by_piece w inside) (map (piece_of w) xs) in
          let b = every_both There (named_by_piece w inside (piece_of w x)) rest h in
          every_append (Argued fs ns) (named_by_piece w inside (piece_of w x)) rest (piece_argued x (belongs (owner_of w x) inside) b.0) (pieces_argued xs b.1)

    at_hand_of : (front rest : List Instance) (inside : Option Instance) → needed ≡ front ++ rest → Every (Argued fs ns) front → StandsIn front inside → StandsIn needed inside × IsAtHand inside
    at_hand_of front rest None e all s = (tt, tt)
    at_hand_of front rest (Some j) e all s =
        let at : slice_get needed s.0 ≡ Some j = ap (λ (l : List Instance). slice_get l s.0) e ∙ get_front front rest s.0 j s.1 in
        ((s.0, at), (there_at needed s.0 j at, every_at (Argued fs ns) front s.0 j s.1 all))

    argued_rest : (front rest : List Instance) → needed ≡ front ++ rest → Every (Argued fs ns) front → Every (Argued fs ns) rest
    argued_rest front [] e all = tt
    argued_rest front (i ∷ rest) e all =
        let n = is_named tree.items front i rest e in
        let c = n.2 in
        let h = at_hand_of front (i ∷ rest) n.0 e all n.1 in
        let one = every_in (Argued fs ns) (named_in tree.items n.0) i c.0 c.1 c.2 (pieces_argued n.0 h.1 tree.items (all_named n.0 h.0)) in
        (one, argued_rest (front ++ i ∷ []) rest (e ∙ sym (append_assoc front (i ∷ []) rest)) (every_append (Argued fs ns) front (i ∷ []) all (one, tt)))

    pub all_argued : Every (Argued fs ns) needed
    all_argued = argued_rest [] needed refl tt

    -- ---- instances have types

    abbrev IsTyped : InstanceForm → Type 0
    IsTyped j = (y : InstanceType) × (instance fs ns j ≡ Some y)

    typed : (j : InstanceForm) → IsFormed (length fs.list) j → Argued fs ns j.instance → IsTyped j
    typed j formed argued =
        let ts = all_right fs ns j.instance.arguments argued in
        let n = form_has_number fs laid laid_is few_forms formed.0 formed.2 in (
          record { adt = j.instance.adt; arguments = ts.0; aggregate = n.0 },
          ap (λ o. instance_with j.instance.adt o (number_of_form ns j.form)) ts.1
              ∙ ap (instance_with j.instance.adt (Some ts.0)) (ap (number_of_form ns) formed.1 ∙ n.1),
        )

    all_typed : Every IsTyped fs.instances
    all_typed =
        every_two (IsFormed (length fs.list)) (λ j. Argued fs ns j.instance) IsTyped typed fs.instances (formed_all tree needed all_open)
        (every_map (Argued fs ns) (λ (j : InstanceForm). j.instance) fs.instances (subst (Every (Argued fs ns)) (sym (instances_all tree needed)) all_argued))

    typed_count : (js : List InstanceForm) → Every IsTyped js → length (flat_map (instance_if fs ns) js) ≡ length js
    typed_count [] h = refl
    typed_count (j ∷ js) h =
        let t = h.0 in
        ap (λ o. length (option_to_list o ++ flat_map (instance_if fs ns) js)) t.1 ∙ ap suc (typed_count js h.1)

    pub instances_typed : length (typed_instances fs ns) ≡ length needed
    instances_typed =
        typed_count fs.instances all_typed ∙ sym (length-map fs.instances (λ (j : InstanceForm). j.instance))
        ∙ ap (λ (l : List Instance). length l) (instances_all tree needed)
