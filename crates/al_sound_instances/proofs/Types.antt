-- Each type that a text writes has a type in a program, where what it names has one.
use Rattle.std.proofs.Common.{◌≡◌, ℕ, zero, suc, Bool, true, false, List, [], ◌∷◌, map, fold, length, reverse, position, Option, Some, None, option_map, refl, sym, ap, ◌∙◌, subst}
use Rattle.std.specs.Prelude.{◌==◌, if◌then◌else◌, is_some, option_and_then, slice_get}
use Rattle.std.specs.Option.{option_to_list}
use Rattle.al_base.specs.declared.place.Place.{Place}
use Rattle.al_tree.specs.Constants.{bound_number}
use Rattle.al_tree.specs.declared.type_tree.Bound.{Bound}
use Rattle.al_tree.specs.declared.type_tree.Dcl.{Dcl}
use Rattle.al_tree.specs.declared.type_tree.TypeTree.{TypeTree, roll-TypeTree, map-TypeTree, fold-roll-TypeTree}
use Rattle.al_tree.specs.declared.type_tree.TypeTree.TheFolds.{ind-TypeTree}
use Rattle.al_tree.specs.declared.type_tree.TypeTree.TheOpen.{TypeTree-F}
use Rattle.al_tree.specs.declared.item.Parameter.{Parameter}
use Rattle.al_tree.specs.declared.item.Parameter.TheVariants as parameter
use Rattle.al_poly.specs.declared.concrete_type.ConcreteType.{ConcreteType}
use Rattle.al_poly.specs.declared.concrete_type.ConcreteType.TheVariants as ct
use Rattle.al_poly.specs.declared.instance.Instance.{Instance}
use Rattle.al_poly.specs.declared.names.Names.{Names}
use Rattle.al_poly.specs.Concrete.{pointers}
use Rattle.al_poly.specs.Types.{Meaning, adt_named, applied, argument, array_type, arrays, bound_of, capacity, chan_type, declared, function_of as function_in, function_type, meaning, meaning_step, named_by, named_in, parameter_arrays, parameter_named, parameter_type, parameters, plain, plain_arrays, starred, type_of, type_of_instance, types_in, with_arguments}
use Rattle.al_poly.specs.Types as poly
use Rattle.al_typed.specs.declared.ty.Ty.{Ty}
use Rattle.al_typed.specs.declared.ty.Ty.TheVariants as ty
use Rattle.al_form.specs.declared.form.Forms.{Forms}
use Rattle.al_layout.specs.Types.{all_of, array_of, basic_type, chan_of, function_of, ty_of}
use Rattle.al_layout.proofs.TypesAre.{ty_of-Basic, ty_of-Tuple, ty_of-Chan, ty_of-Pointer, ty_of-Array, ty_of-Function}
use Rattle.al_sound_environment.specs.Members.{Every}
use Rattle.al_sound_environment.proofs.Lists.{every_append, mapped, then_some}
use Rattle.al_sound_calls.proofs.Lists.{some_is}
use Rattle.al_sound_instances.proofs.NamesAre.{every_both}
use Rattle.al_sound_instances.proofs.Known.{Extends}

-- a list of types, each of which is there
some_all : (o : Option ConcreteType) (os : List (Option ConcreteType)) (ts : List ConcreteType) → poly.all_of (o ∷ os) ≡ Some ts
    → (t : ConcreteType) × (rest : List ConcreteType) × (o ≡ Some t) × (poly.all_of os ≡ Some rest) × (ts ≡ t ∷ rest)
some_all None os ts h = absurd (let f : ⊥ = cc in f)
some_all (Some t) os ts h = let r = mapped (λ (ys : List ConcreteType). t ∷ ys) (poly.all_of os) ts h in (t, r.0, refl, r.1, r.2)

module _ (fs : Forms) (ns : List ℕ) where
  -- it has a type in a program
  abbrev pub HasType : ConcreteType → Type 0
  HasType t = (u : Ty) × (ty_of fs ns t ≡ Some u)

  -- if there is one
  abbrev pub Right : Option ConcreteType → Type 0
  Right o = (t : ConcreteType) → o ≡ Some t → HasType t

  pub basic_right : (b : _) → HasType (ct.Basic b)
  basic_right b = (basic_type b, ty_of-Basic fs ns b)

  pointer_right : (t : ConcreteType) → HasType t → HasType (ct.Pointer t)
  pointer_right t h = (ty.Pointer h.0, ty_of-Pointer fs ns t ∙ ap (option_map ty.Pointer) h.1)

  chan_right : (t : ConcreteType) (n : ℕ) → HasType t → HasType (ct.Chan t n)
  chan_right t n h = (ty.Chan h.0 n, ty_of-Chan fs ns t n ∙ ap (λ o. chan_of o n) h.1)

  array_right : (t : ConcreteType) (n : ℕ) → HasType t → HasType (ct.Array t n)
  array_right t n h = (ty.Array h.0 n, ty_of-Array fs ns t n ∙ ap (λ o. array_of o n) h.1)

  pub all_right : (ts : List ConcreteType) → Every HasType ts → (us : List Ty) × (all_of (map (ty_of fs ns) ts) ≡ Some us)
  all_right [] h = ([], refl)
  all_right (t ∷ ts) h =
      let r = all_right ts h.1 in
      let x = h.0 in
      (x.0 ∷ r.0, ap (λ o. all_of (o ∷ map (ty_of fs ns) ts)) x.1 ∙ ap (option_map (λ ys. x.0 ∷ ys)) r.1)

  tuple_right : (ts : List ConcreteType) → Every HasType ts → HasType (ct.Tuple ts)
  tuple_right ts h = let r = all_right ts h in (ty.Tuple r.0, ty_of-Tuple fs ns ts ∙ ap (option_map ty.Tuple) r.1)

  function_right : (t : ConcreteType) (ts : List ConcreteType) → HasType t → Every HasType ts → HasType (ct.Function t ts)
  function_right t ts h hs =
      let r = all_right ts hs in
      (ty.Function h.0 r.0, ty_of-Function fs ns t ts ∙ ap (λ o. function_of o (all_of (map (ty_of fs ns) ts))) h.1 ∙ ap (function_of (Some h.0)) r.1)

  pointers_right : (n : ℕ) (t : ConcreteType) → HasType t → HasType (pointers n t)
  unfolding pointers
  pointers_right zero t h = h
  pointers_right (suc n) t h = pointer_right (pointers n t) (pointers_right n t h)

  -- ---- types that are written

  array_type_right : (o : Option ConcreteType) (n : Option ℕ) → Right o → Right (array_type o n)
  array_type_right None n h t e = absurd (let f : ⊥ = cc in f)
  array_type_right (Some x) None h t e = absurd (let f : ⊥ = cc in f)
  array_type_right (Some x) (Some n) h t e = subst HasType (some_is e) (array_right x n (h x refl))

  option_pointer_right : (o : Option ConcreteType) → Right o → Right (option_map ct.Pointer o)
  option_pointer_right o h t e = let m = mapped ct.Pointer o t e in subst HasType (sym m.2) (pointer_right m.0 (h m.0 m.1))

  module _ (names : Names) (at : Place) where
    folded_right : (bs : List Bound) (o : Option ConcreteType) → Right o → Right (fold (λ t b. array_type t (bound_number names.constants.list b at)) o bs)
    folded_right [] o h = h
    folded_right (b ∷ bs) o h = folded_right bs (array_type o (bound_number names.constants.list b at)) (array_type_right o (bound_number names.constants.list b at) h)

    plain_arrays_right : (bs : List Bound) (o : Option ConcreteType) → Right o → Right (plain_arrays names at bs o)
    unfolding plain_arrays
    plain_arrays_right bs o h = folded_right (reverse bs) o h

    open_folded_right : (bs : List (Option Bound)) (o : Option ConcreteType) → Right o → Right (fold (λ t b. array_type t (bound_of names at b)) o bs)
    open_folded_right [] o h = h
    open_folded_right (b ∷ bs) o h = open_folded_right bs (array_type o (bound_of names at b)) (array_type_right o (bound_of names at b) h)

    arrays_right : (bs : List (Option Bound)) (o : Option ConcreteType) → Right o → Right (arrays names at bs o)
    unfolding arrays
    arrays_right bs o h = open_folded_right (reverse bs) o h

    parameter_arrays_right : (bs : List (Option Bound)) (o : Option ConcreteType) → Right o → Right (parameter_arrays names at bs o)
    parameter_arrays_right [] o h = h
    parameter_arrays_right (b ∷ bs) o h = option_pointer_right (arrays names at bs o) (arrays_right bs o h)

  module _ (names : Names) (inside : Option Instance) where
    starred_right : (stars : ℕ) (base : TypeTree) → Right (type_of names inside base) → Right (starred names inside stars base)
    starred_right stars base h t e = let m = mapped (pointers stars) (type_of names inside base) t e in subst HasType (sym m.2) (pointers_right stars m.0 (h m.0 m.1))

    pub declared_right : (base : TypeTree) (dcl : Dcl) → Right (type_of names inside base) → Right (declared names inside base dcl)
    unfolding declared
    declared_right base dcl h = plain_arrays_right names dcl.at dcl.bounds (starred names inside dcl.stars base) (starred_right dcl.stars base h)

    -- the type that a parameter writes
    abbrev pub BaseRight : Parameter → Type 0
    BaseRight (parameter.Plain at base stars name bounds) = Right (type_of names inside base)
    BaseRight (parameter.OwnPointer at name) = Right (plain names inside name)
    BaseRight (parameter.OwnValue at name) = Right (plain names inside name)

    parameter_right : (p : Parameter) → BaseRight p → Right (parameter_type names inside p)
    parameter_right (parameter.Plain at base stars name bounds) h = parameter_arrays_right names at bounds (starred names inside stars base) (starred_right stars base h)
    parameter_right (parameter.OwnPointer at name) h = option_pointer_right (plain names inside name) h
    parameter_right (parameter.OwnValue at name) h = h

    parameters_right : (ps : List Parameter) → Every BaseRight ps → (ts : List ConcreteType) → poly.all_of (map (parameter_type names inside) ps) ≡ Some ts → Every HasType ts
    parameters_right [] h ts e = subst (Every HasType) (some_is e) tt
    parameters_right (p ∷ ps) h ts e =
        let s = some_all (parameter_type names inside p) (map (parameter_type names inside) ps) ts e in
        subst (Every HasType) (sym s.4) (parameter_right p h.0 s.0 s.2, parameters_right ps h.1 s.1 s.3)

    pub function_type_right : (base : TypeTree) (stars : ℕ) (ps : List Parameter) → Right (type_of names inside base) → Every BaseRight ps → Right (function_type names inside base stars ps)
    unfolding function_type
    function_type_right base stars ps h hs t e =
        go (starred names inside stars base) (poly.all_of (map (parameter_type names inside) ps)) (starred_right stars base h) (parameters_right ps hs) e
      where
        go : (o : Option ConcreteType) (os : Option (List ConcreteType)) → Right o → ((ts : List ConcreteType) → os ≡ Some ts → Every HasType ts) → function_in o os ≡ Some t → HasType t
        go None os r rs i = absurd (let f : ⊥ = cc in f)
        go (Some x) None r rs i = absurd (let f : ⊥ = cc in f)
        go (Some x) (Some xs) r rs i = subst HasType (some_is i) (function_right x xs (r x refl) (rs xs refl))

  -- ---- what a type means

  -- its arguments have types
  abbrev pub Argued : Instance → Type 0
  Argued i = Every HasType i.arguments

abbrev argued_by : List (ℕ × List ℕ) → Option Instance → ℕ → Bool
argued_by adts None name = false
argued_by adts (Some i) name = is_some (option_and_then (λ k. slice_get i.arguments k) (position (λ p. p == name) (parameters (adt_named adts i.adt))))

abbrev applied_by : List (ℕ × List ℕ) → Option Instance → ℕ → List ConcreteType → Option Instance
applied_by adts inside name ts = if argued_by adts inside name then None else with_arguments name (adt_named adts name) ts

applied_is : (names : Names) (inside : Option Instance) (name : ℕ) (ts : List ConcreteType) → applied names inside name ts ≡ applied_by names.adts inside name ts
unfolding applied argument parameter_named
applied_is names None name ts = refl
applied_is names (Some i) name ts = refl

-- an instance of an adt with parameters, with these arguments
pub record IsOf (names : Names) (name : ℕ) (ts : List ConcreteType) (i : Instance) : Type 0 where
  pub parameters : List ℕ
  pub named : adt_named names.adts name ≡ Some parameters
  pub adt : i.adt ≡ name
  pub arguments : i.arguments ≡ ts

applied_some : (names : Names) (inside : Option Instance) (name : ℕ) (ts : List ConcreteType) (i : Instance) → applied names inside name ts ≡ Some i → IsOf names name ts i
applied_some names inside name ts i h = go (argued_by names.adts inside name) (adt_named names.adts name) refl (sym (applied_is names inside name ts) ∙ h)
  where
    made : (b : Bool) → (if b then Some (record { adt = name; arguments = ts }) else None) ≡ Some i → (i.adt ≡ name) × (i.arguments ≡ ts)
    made true e = (ap (λ (j : Instance). j.adt) (sym (some_is e)), ap (λ (j : Instance). j.arguments) (sym (some_is e)))
    made false e = absurd (let f : ⊥ = cc in f)

    go : (b : Bool) (o : Option (List ℕ)) → adt_named names.adts name ≡ o → (if b then None else with_arguments name o ts) ≡ Some i → IsOf names name ts i
    go true o is e = absurd (let f : ⊥ = cc in f)
    go false None is e = absurd (let f : ⊥ = cc in f)
    go false (Some ps) is e = let m = made (length ts == length ps) e in record { parameters = ps; named = is; adt = m.0; arguments = m.1 }

chan_some : (o : Option ConcreteType) (n : Option ℕ) (x : ConcreteType) → chan_type o n ≡ Some x → (t : ConcreteType) × (k : ℕ) × (o ≡ Some t) × (n ≡ Some k) × (ct.Chan t k ≡ x)
chan_some None n x h = absurd (let f : ⊥ = cc in f)
chan_some (Some t) None x h = absurd (let f : ⊥ = cc in f)
chan_some (Some t) (Some k) x h = (t, k, refl, refl, some_is h)

array_some : (o : Option ConcreteType) (n : Option ℕ) (x : ConcreteType) → array_type o n ≡ Some x → (t : ConcreteType) × (k : ℕ) × (o ≡ Some t) × (n ≡ Some k) × (ct.Array t k ≡ x)
array_some None n x h = absurd (let f : ⊥ = cc in f)
array_some (Some t) None x h = absurd (let f : ⊥ = cc in f)
array_some (Some t) (Some k) x h = (t, k, refl, refl, some_is h)

-- A type that is written means the same where more is known, and has a type in a program, where its instances are there.
module _ (fs : Forms) (ns : List ℕ) (p w : Names) (more : Extends p w) (inside : Option Instance) (There : Instance → Type 0)
    (there_right : (i : Instance) → There i → HasType fs ns (type_of_instance i))
    (plain_right : (name : ℕ) (t : ConcreteType) → plain p inside name ≡ Some t → (plain w inside name ≡ Some t) × HasType fs ns t)
  where
    abbrev Has : ConcreteType → Type 0
    Has = HasType fs ns

    applied_same : (name : ℕ) (ts : List ConcreteType) → applied w inside name ts ≡ applied p inside name ts
    applied_same name ts = applied_is w inside name ts ∙ ap (λ adts. applied_by adts inside name ts) more.adts ∙ sym (applied_is p inside name ts)

    capacity_same : (at : Place) (b : Option Bound) → capacity w at b ≡ capacity p at b
    capacity_same at None = refl
    capacity_same at (Some b) = ap (λ c. bound_number c.list b at) more.constants

    abbrev IsSame : Option ConcreteType → Option ConcreteType → Type 0
    IsSame a b = (x : ConcreteType) → a ≡ Some x → (b ≡ Some x) × Has x

    abbrev IsGood : Meaning → Meaning → Type 0
    IsGood a b = Every There b.named → IsSame a.type b.type × Every (Argued fs ns) a.named

    abbrev pub GoodType : TypeTree → Type 0
    GoodType t = IsGood (meaning p inside t) (meaning w inside t)

    abbrev Checked : Type 0
    Checked = (t : TypeTree) × GoodType t

    abbrev trees : List Checked → List TypeTree
    trees cs = map (λ c. c.0) cs

    abbrev tree_of : TypeTree-F Checked → TypeTree-F TypeTree
    tree_of y = map-TypeTree Checked TypeTree (λ c. c.0) y

    abbrev old : List Checked → List Meaning
    old cs = map (meaning p inside) (trees cs)

    abbrev new : List Checked → List Meaning
    new cs = map (meaning w inside) (trees cs)

    abbrev AreSame : List Checked → Type 0
    AreSame cs = (ts : List ConcreteType) → poly.all_of (types_in (old cs)) ≡ Some ts → (poly.all_of (types_in (new cs)) ≡ Some ts) × Every Has ts

    list_good : (cs : List Checked) → Every There (named_in (new cs)) → AreSame cs × Every (Argued fs ns) (named_in (old cs))
    list_good [] there = (λ ts e. (e, subst (Every Has) (some_is e) tt), tt)
    list_good (c ∷ cs) there =
        let b = every_both There (meaning w inside c.0).named (named_in (new cs)) there in
        let first = c.1 b.0 in
        let rest = list_good cs b.1 in (
          λ ts e.
              let s = some_all (meaning p inside c.0).type (types_in (old cs)) ts e in
              let x = first.0 s.0 s.2 in
              let r = rest.0 s.1 s.3 in (
                ap (λ o. poly.all_of (o ∷ types_in (new cs))) x.0 ∙ ap (option_map (λ ys. s.0 ∷ ys)) r.0 ∙ ap Some (sym s.4),
                subst (Every Has) (sym s.4) (x.1, r.1),
              ),
          every_append (Argued fs ns) (meaning p inside c.0).named (named_in (old cs)) first.1 rest.1,
        )

    abbrev new_of : TypeTree-F Checked → Meaning
    new_of y = meaning_step w inside (map-TypeTree TypeTree Meaning (meaning w inside) (tree_of y))

    abbrev old_of : TypeTree-F Checked → Meaning
    old_of y = meaning_step p inside (map-TypeTree TypeTree Meaning (meaning p inside) (tree_of y))

    named_good : (at : Place) (name : ℕ) (c : Checked) (cs : List Checked) → IsGood (old_of (TypeTree-F.Named at name (c ∷ cs))) (new_of (TypeTree-F.Named at name (c ∷ cs)))
    named_good at name c cs there =
        (same, every_append (Argued fs ns) (option_to_list before) (named_in (old (c ∷ cs))) (argued before refl) all.1)
      where
        before : Option Instance
        before = named_by p inside name (types_in (old (c ∷ cs)))

        after : Option Instance
        after = named_by w inside name (types_in (new (c ∷ cs)))

        both : Every There (option_to_list after) × Every There (named_in (new (c ∷ cs)))
        both = every_both There (option_to_list after) (named_in (new (c ∷ cs))) there

        all : AreSame (c ∷ cs) × Every (Argued fs ns) (named_in (old (c ∷ cs)))
        all = list_good (c ∷ cs) both.1

        stays : (i : Instance) → before ≡ Some i → after ≡ Some i
        stays i e =
            let a = then_some (applied p inside name) (poly.all_of (types_in (old (c ∷ cs)))) i e in
            ap (option_and_then (applied w inside name)) (all.0 a.0 a.1).0 ∙ applied_same name a.0 ∙ a.2

        argued : (o : Option Instance) → before ≡ o → Every (Argued fs ns) (option_to_list o)
        argued None e = tt
        argued (Some i) e =
            let a = then_some (applied p inside name) (poly.all_of (types_in (old (c ∷ cs)))) i e in
            let s = applied_some p inside name a.0 i a.2 in
            (subst (Every Has) (sym s.arguments) (all.0 a.0 a.1).1, tt)

        same : IsSame (option_map type_of_instance before) (option_map type_of_instance after)
        same x e =
            let m = mapped type_of_instance before x e in
            let s = stays m.0 m.1 in
            let t : Every There (option_to_list (Some m.0)) = subst (λ o. Every There (option_to_list o)) s both.0 in
            (ap (option_map type_of_instance) s ∙ ap Some (sym m.2), subst Has (sym m.2) (there_right m.0 t.0))

    by_step : (y : TypeTree-F Checked) → IsGood (old_of y) (new_of y)
    by_step (TypeTree-F.Basic at b) there = (λ x e. (e, subst Has (some_is e) (basic_right fs ns b)), tt)
    by_step (TypeTree-F.Named at name []) there = (plain_right name, tt)
    by_step (TypeTree-F.Named at name (c ∷ cs)) there = named_good at name c cs there
    by_step (TypeTree-F.Tuple at cs) there =
        let l = list_good cs there in (
          λ x e.
              let m = mapped ct.Tuple (poly.all_of (types_in (old cs))) x e in
              let r = l.0 m.0 m.1 in (ap (option_map ct.Tuple) r.0 ∙ ap Some (sym m.2), subst Has (sym m.2) (tuple_right fs ns m.0 r.1)),
          l.1,
        )
    by_step (TypeTree-F.Chan at c bound) there =
        let h = c.1 there in (
          λ x e.
              let m = chan_some (meaning p inside c.0).type (capacity p at bound) x e in
              let r = h.0 m.0 m.2 in (
                ap (λ o. chan_type o (capacity w at bound)) r.0 ∙ ap (chan_type (Some m.0)) (capacity_same at bound ∙ m.3) ∙ ap Some m.4,
                subst Has m.4 (chan_right fs ns m.0 m.1 r.1),
              ),
          h.1,
        )
    by_step (TypeTree-F.Pointer at c) there =
        let h = c.1 there in (
          λ x e.
              let m = mapped ct.Pointer (meaning p inside c.0).type x e in
              let r = h.0 m.0 m.1 in (ap (option_map ct.Pointer) r.0 ∙ ap Some (sym m.2), subst Has (sym m.2) (pointer_right fs ns m.0 r.1)),
          h.1,
        )
    by_step (TypeTree-F.Array at bound c) there =
        let h = c.1 there in (
          λ x e.
              let m = array_some (meaning p inside c.0).type (bound_number p.constants.list bound at) x e in
              let r = h.0 m.0 m.2 in (
                ap (λ o. array_type o (bound_number w.constants.list bound at)) r.0 ∙ ap (array_type (Some m.0)) (capacity_same at (Some bound) ∙ m.3) ∙ ap Some m.4,
                subst Has m.4 (array_right fs ns m.0 m.1 r.1),
              ),
          h.1,
        )

    by_parts : (y : TypeTree-F Checked) → GoodType (roll-TypeTree (tree_of y))
    unfolding meaning
    by_parts y =
        let z = tree_of y in
        subst (λ (m : Meaning). IsGood m (meaning w inside (roll-TypeTree z))) (sym (fold-roll-TypeTree Meaning (meaning_step p inside) z))
        (subst (λ (m : Meaning). IsGood (old_of y) m) (sym (fold-roll-TypeTree Meaning (meaning_step w inside) z)) (by_step y))

    pub type_good : (t : TypeTree) → GoodType t
    type_good = ind-TypeTree GoodType (λ x y is. subst (λ z. GoodType (roll-TypeTree z)) is (by_parts y))

-- ---- instances are of adts with parameters

abbrev pub Opened : Names → Instance → Type 0
Opened names i = (ps : List ℕ) × (adt_named names.adts i.adt ≡ Some ps)

module _ (names : Names) (inside : Option Instance) where
  abbrev AreOpened : TypeTree → Type 0
  AreOpened t = Every (Opened names) (meaning names inside t).named

  abbrev OpenChecked : Type 0
  OpenChecked = (t : TypeTree) × AreOpened t

  abbrev open_tree : TypeTree-F OpenChecked → TypeTree-F TypeTree
  open_tree y = map-TypeTree OpenChecked TypeTree (λ c. c.0) y

  list_opened : (cs : List OpenChecked) → Every (Opened names) (named_in (map (meaning names inside) (map (λ c. c.0) cs)))
  list_opened [] = tt
  list_opened (c ∷ cs) = every_append (Opened names) (meaning names inside c.0).named (named_in (map (meaning names inside) (map (λ c. c.0) cs))) c.1 (list_opened cs)

  named_opened : (name : ℕ) (os : List (Option ConcreteType)) (o : Option Instance) → named_by names inside name os ≡ o → Every (Opened names) (option_to_list o)
  named_opened name os None e = tt
  named_opened name [] (Some i) e = absurd (let f : ⊥ = cc in f)
  named_opened name (x ∷ xs) (Some i) e =
      let a = then_some (applied names inside name) (poly.all_of (x ∷ xs)) i e in
      let s = applied_some names inside name a.0 i a.2 in
      ((s.parameters, ap (adt_named names.adts) s.adt ∙ s.named), tt)

  open_step : (y : TypeTree-F OpenChecked) → Every (Opened names) (meaning_step names inside (map-TypeTree TypeTree Meaning (meaning names inside) (open_tree y))).named
  open_step (TypeTree-F.Basic at b) = tt
  open_step (TypeTree-F.Named at name cs) =
      let ms = map (meaning names inside) (map (λ c. c.0) cs) in
      every_append (Opened names) (option_to_list (named_by names inside name (types_in ms))) (named_in ms) (named_opened name (types_in ms) (named_by names inside name (types_in ms)) refl) (list_opened cs)
  open_step (TypeTree-F.Tuple at cs) = list_opened cs
  open_step (TypeTree-F.Chan at c bound) = c.1
  open_step (TypeTree-F.Pointer at c) = c.1
  open_step (TypeTree-F.Array at bound c) = c.1

  open_parts : (y : TypeTree-F OpenChecked) → AreOpened (roll-TypeTree (open_tree y))
  unfolding meaning
  open_parts y = subst (λ (m : Meaning). Every (Opened names) m.named) (sym (fold-roll-TypeTree Meaning (meaning_step names inside) (open_tree y))) (open_step y)

  pub type_opened : (t : TypeTree) → AreOpened t
  type_opened = ind-TypeTree AreOpened (λ x y is. subst (λ z. AreOpened (roll-TypeTree z)) is (open_parts y))
