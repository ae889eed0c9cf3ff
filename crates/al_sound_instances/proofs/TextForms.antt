-- Each type with members of a text, and each of its instances, has a form, and there are few of them.
use Rattle.std.proofs.Common.{◌≡◌, ℕ, zero, suc, ◌+◌, ◌*◌, ◌<◌, ◌≤◌, Bool, true, false, ◌||◌, ◌⊎◌, inl, inr, List, [], ◌∷◌, ◌++◌, append_assoc, cond, map, fold, length, Option, Some, None, arith, refl, sym, ap, ◌∙◌, subst}
use Rattle.std.specs.Prelude.{find, option_and_then, slice_get}
use Rattle.std.proofs.lemmas.List.{append-nil, length-map, map-append}
use Rattle.al_tree.specs.declared.item.Item.{Item}
use Rattle.al_tree.specs.declared.item.Tree.{Tree}
use Rattle.al_poly.specs.declared.instance.Instance.{Instance}
use Rattle.al_poly.specs.declared.names.Names.{Names}
use Rattle.al_poly.specs.Concrete.{same_instance}
use Rattle.al_poly.specs.Instances.{belongs, is_there, owner_of}
use Rattle.al_poly.specs.Types.{names_of}
use Rattle.al_form.specs.declared.form.Forms.{Forms as TextForms}
use Rattle.al_form.specs.declared.form.InstanceForm.{InstanceForm}
use Rattle.al_form.specs.Forms.{Reached, begun, form_named, forms, of_text, there, with_instance, with_item}
use Rattle.al_layout.specs.Types.{form_in, form_of_instance, is_instance}
use Rattle.al_sound_environment.specs.Members.{Every}
use Rattle.al_sound_environment.specs.Unnamed.{FoundForms}
use Rattle.al_sound_environment.proofs.Lists.{every_at, every_more}
use Rattle.al_sound_calls.proofs.Lists.{every_is}
use Rattle.al_sound_instances.proofs.OrderIs.{most}
use Rattle.al_sound_instances.proofs.Counts.{all_forms}
use Rattle.al_sound_instances.proofs.FormsAre.{AreBelow, Forms, HasForm, IsBelow, IsForward, Steps, items_have, items_steps, names_have, names_steps, next_to, same}

below_at : (m : ℕ) (named : List (Option ℕ)) (name k : ℕ) → Every (IsBelow m) named → form_named named name ≡ Some k → k < m
below_at m named name k all e = go (slice_get named name) refl e
  where
    go : (o : Option (Option ℕ)) → slice_get named name ≡ o → there o ≡ Some k → k < m
    go None i f = absurd (let g : ⊥ = cc in g)
    go (Some x) i f = every_at (IsBelow m) named name x i all k f

abbrev times : ℕ → ℕ → ℕ
times zero t = 0
times (suc n) t = t + times n t

times_few : (n t : ℕ) → t ≤ 1048577 → times n t ≤ n * 1048577
times_few zero t h = omega arith
times_few (suc n) t h = let rest = times_few n t h in omega (arith, h, rest)

none_below : (m : ℕ) (names : List (List ℕ)) → Every (IsBelow m) (map (λ _. None) names)
none_below m [] = tt
none_below m (n ∷ names) = (λ k e. absurd (let f : ⊥ = cc in f), none_below m names)

-- an instance has a form
abbrev pub IsFormed : ℕ → InstanceForm → Type 0
IsFormed m j = (k : ℕ) × (j.form ≡ Some k) × (k < m)

formed_more : (m n : ℕ) (js : List InstanceForm) → m ≤ n → Every (IsFormed m) js → Every (IsFormed n) js
formed_more m n js le h = every_is (IsFormed m) (IsFormed n) (λ j f. let lt = f.2 in (f.0, f.1, omega (arith, le, lt))) js h

module _ (tree : Tree) where
  abbrev names : Names
  names = names_of tree.items

  abbrev each : ℕ
  each = all_forms tree.items

  abbrev pub text : FoundForms
  text = of_text names tree

  text_steps : Steps (each + each) (begun tree.names) text
  text_steps =
      let w = fold (with_item names None) (begun tree.names) tree.items in
      next_to {v = w} (items_steps names None (begun tree.names) tree.items) (names_steps w tree.items)

  -- an item of the text that makes a type with members of the name
  pub record IsMade (inside : Option Instance) (name : ℕ) : Type 0 where
    pub number : ℕ
    pub of : Item
    pub is : slice_get tree.items number ≡ Some of
    pub own : belongs (owner_of names of) inside ≡ true
    pub forms : Forms of name

  -- or one that has its name alone
  pub record IsAlone (name : ℕ) : Type 0 where
    pub number : ℕ
    pub of : Item
    pub is : slice_get tree.items number ≡ Some of
    pub forward : IsForward of name

  -- an adt with parameters of the text
  abbrev pub IsOpen : Instance → Type 0
  IsOpen i = IsMade (Some i) i.adt × (i.adt < length tree.names)

  begun_all : length (begun tree.names).named ≡ length tree.names
  begun_all = length-map tree.names (λ _. None)

  text_has : (name : ℕ) → name < length tree.names → IsMade None name ⊎ IsAlone name → HasForm text.named name
  text_has name lt (inl m) =
      let w = fold (with_item names None) (begun tree.names) tree.items in
      let h = items_have names None (begun tree.names) tree.items m.number m.of name m.is m.own m.forms (subst (λ k. name < k) (sym begun_all) lt) in
      (names_steps w tree.items).kept name h
  text_has name lt (inr m) =
      let w = fold (with_item names None) (begun tree.names) tree.items in
      names_have w tree.items m.number m.of name m.is m.forward (subst (λ k. name < k) (sym ((items_steps names None (begun tree.names) tree.items).all ∙ begun_all)) lt)

  -- ---- instances

  abbrev With : Reached → Instance → Reached
  With = with_instance names tree.items

  instances_steps : (r : Reached) (is : List Instance) → Steps (times (length is) each) r.found (fold With r is).found
  instances_steps r [] = same 0 r.found
  instances_steps r (i ∷ is) = next_to {v = (With r i).found} (items_steps names (Some i) r.found tree.items) (instances_steps (With r i) is)

  instances_same : (r : Reached) (is : List Instance) → map (λ (j : InstanceForm). j.instance) (fold With r is).instances ≡ map (λ (j : InstanceForm). j.instance) r.instances ++ is
  instances_same r [] = sym (append-nil _)
  instances_same r (i ∷ is) =
      instances_same (With r i) is
      ∙ ap (λ l. l ++ is) (map-append (λ (j : InstanceForm). j.instance) r.instances (record { instance = i; form = form_named (With r i).found.named i.adt } ∷ []))
      ∙ append_assoc (map (λ (j : InstanceForm). j.instance) r.instances) (i ∷ []) is

  instances_formed : (r : Reached) (is : List Instance) → Every IsOpen is → length r.found.named ≡ length tree.names → AreBelow r.found → Every (IsFormed (length r.found.forms)) r.instances
      → Every (IsFormed (length (fold With r is).found.forms)) (fold With r is).instances
  instances_formed r [] opened all below formed = formed
  instances_formed r (i ∷ is) opened all below formed =
      let s = items_steps names (Some i) r.found tree.items in
      let w = (With r i).found in
      let m = opened.0.0 in
      let has = items_have names (Some i) r.found tree.items m.number m.of i.adt m.is m.own m.forms (subst (λ k. i.adt < k) (sym all) opened.0.1) in
      let b = s.below below in
      instances_formed (With r i) is opened.1 (s.all ∙ all) b
      (every_more (IsFormed (length w.forms)) r.instances (record { instance = i; form = form_named w.named i.adt })
      (formed_more (length r.found.forms) (length w.forms) r.instances s.grown formed) (has.0, has.1, below_at (length w.forms) w.named i.adt has.0 b has.1))

  -- ---- all

  abbrev start : Reached
  start = record { found = text; instances = [] }

  module _ (is : List Instance) where
    abbrev fs : TextForms
    fs = forms tree is

    forms_are : (fs.list ≡ (fold With start is).found.forms) × (fs.named ≡ (fold With start is).found.named) × (fs.instances ≡ (fold With start is).instances)
    unfolding forms
    forms_are = (refl, refl, refl)

    pub forms_few : length is ≤ 256 → each ≤ 1048577 → length fs.list ≤ most
    forms_few few small =
        let a = (instances_steps start is).few in
        let b = text_steps.few in
        let c = times_few (length is) each small in
        subst (λ (l : List _). length l ≤ most) (sym forms_are.0) (omega (arith, a, b, c, few, small))

    below_all : Every (IsBelow (length fs.list)) fs.named
    below_all =
        subst (λ (l : List _). Every (IsBelow (length l)) fs.named) (sym forms_are.0)
        (subst (Every (IsBelow (length (fold With start is).found.forms))) (sym forms_are.1) ((instances_steps start is).below (text_steps.below (none_below 0 tree.names))))

    pub named_form : (name : ℕ) → name < length tree.names → IsMade None name ⊎ IsAlone name → (k : ℕ) × (form_named fs.named name ≡ Some k) × (k < length fs.list)
    named_form name lt made =
        let h = (instances_steps start is).kept name (text_has name lt made) in
        let e : form_named fs.named name ≡ Some h.0 = ap (λ l. form_named l name) forms_are.1 ∙ h.1 in
        (h.0, e, below_at (length fs.list) fs.named name h.0 below_all e)

    pub formed_all : Every IsOpen is → Every (IsFormed (length fs.list)) fs.instances
    formed_all opened =
        subst (λ (l : List _). Every (IsFormed (length l)) fs.instances) (sym forms_are.0)
        (subst (Every (IsFormed (length (fold With start is).found.forms))) (sym forms_are.2)
        (instances_formed start is opened (text_steps.all ∙ begun_all) (text_steps.below (none_below 0 tree.names)) tt))

    pub instances_all : map (λ (j : InstanceForm). j.instance) fs.instances ≡ is
    instances_all = ap (map (λ (j : InstanceForm). j.instance)) forms_are.2 ∙ instances_same start is

    find_there : (P : InstanceForm → Type 0) (js : List InstanceForm) (i : Instance) → is_there (map (λ (j : InstanceForm). j.instance) js) i ≡ true → Every P js
        → (j : InstanceForm) × (find (is_instance i.adt i.arguments) js ≡ Some j) × P j
    unfolding is_instance
    find_there P [] i h all = absurd (let f : ⊥ = cc in f)
    find_there P (j ∷ js) i h all = go (same_instance j.instance i) refl h (λ k. find_there P js i k all.1)
      where
        go : (b : Bool) → same_instance j.instance i ≡ b → (b || is_there (map (λ (j : InstanceForm). j.instance) js) i) ≡ true
            → (is_there (map (λ (j : InstanceForm). j.instance) js) i ≡ true → (x : InstanceForm) × (find (is_instance i.adt i.arguments) js ≡ Some x) × P x)
            → (x : InstanceForm) × (find (is_instance i.adt i.arguments) (j ∷ js) ≡ Some x) × P x
        go true e k more = (j, ap (λ b. cond b (Some j) (find (is_instance i.adt i.arguments) js)) e, all.0)
        go false e k more =
            let r = more k in
            (r.0, ap (λ b. cond b (Some j) (find (is_instance i.adt i.arguments) js)) e ∙ r.1, r.2)

    pub instance_form : Every IsOpen is → (i : Instance) → is_there is i ≡ true → (k : ℕ) × (form_of_instance fs i.adt i.arguments ≡ Some k) × (k < length fs.list)
    unfolding form_of_instance
    instance_form opened i h =
        let r = find_there (IsFormed (length fs.list)) fs.instances i (ap (λ l. is_there l i) instances_all ∙ h) (formed_all opened) in
        (r.2.0, ap (option_and_then form_in) r.1 ∙ r.2.1, r.2.2)
