-- The signatures of functions of adts are those of their definitions.
use Rattle.std.proofs.Common.{◌≡◌, ℕ, zero, suc, ◌+◌, ◌≤◌, Bool, true, false, ◌&&◌, nat_eq, List, [], ◌∷◌, ◌++◌, map, fold, length, Option, Some, None, ◌⊎◌, inl, inr, arith, refl, sym, ap, ap₂, ◌∙◌, subst}
use Rattle.std.specs.Prelude.{find, option_and_then, slice_get, unwrap_or}
use Rattle.std.specs.List.{flat_map}
use Rattle.std.specs.Map.{lookup}
use Rattle.std.specs.Option.{option_to_list}
use Rattle.std.proofs.lemmas.Bool.{eqb-true, eq-eqb}
use Rattle.al_tree.specs.declared.expression.Name.{Name}
use Rattle.al_tree.specs.declared.type_tree.TypeTree.{TypeTree}
use Rattle.al_tree.specs.declared.item.Head.{Head}
use Rattle.al_tree.specs.declared.item.Item.{Item}
use Rattle.al_tree.specs.declared.item.Item.TheVariants as item
use Rattle.al_tree.specs.declared.item.Owner.{Owner}
use Rattle.al_tree.specs.declared.item.Tree.{Tree}
use Rattle.al_rules.specs.Outcome.{Good}
use Rattle.al_scope.specs.declared.declaration.Scopes.{Scopes}
use Rattle.al_typed.specs.declared.program.Aggregate.{Aggregate}
use Rattle.al_typed.specs.declared.ty.Ty.{Ty}
use Rattle.al_typed.specs.declared.ty.Ty.TheVariants as ty
use Rattle.al_typed.specs.declared.expression.Passed.{Passed}
use Rattle.al_typed.specs.declared.expression.Passed.TheVariants as passed
use Rattle.al_typed.specs.WellTyped.{passes}
use Rattle.al_convert.specs.Same.{passes as test_passes, pointed, same, same_list}
use Rattle.al_convert.proofs.SameIs.{same-Pointer}
use Rattle.al_poly.specs.declared.instance.Instance.{Instance}
use Rattle.al_declare.specs.declared.function.Defined.{Defined}
use Rattle.al_declare.specs.Asking.{begun as undeclared, number_of, text_of}
use Rattle.al_declare.specs.Functions.{functions}
use Rattle.al_declare.specs.Items.{names_hold}
use Rattle.al_declare.specs.Items as di
use Rattle.al_declare.specs.Rules.{rule_15_list, same_numbers}
use Rattle.al_declare.specs.Types as dt
use Rattle.al_environment.specs.declared.environment.Environment.{Environment}
use Rattle.al_environment.specs.declared.environment.InstanceType.{InstanceType}
use Rattle.al_environment.specs.declared.environment.MemberNames.{MemberNames}
use Rattle.al_environment.specs.declared.environment.NamedFunction.{NamedFunction}
use Rattle.al_environment.specs.declared.environment.Signature.{Signature}
use Rattle.al_environment.specs.Lookups.{function_named}
use Rattle.al_form.specs.declared.form.Forms.{Forms}
use Rattle.al_form.specs.Forms.{Reached, forms, with_instance}
use Rattle.al_poly.specs.Types.{names_of}
use Rattle.al_build_types.specs.Built.{instance, instances}
use Rattle.al_layout.specs.Types.{within}
use Rattle.al_type_rules.specs.Types.{signature}
use Rattle.al_member_names.specs.declared.function.OwnFunction.{OwnFunction}
use Rattle.al_member_names.specs.Members.{own_at}
use Rattle.al_adt_functions.specs.Bodies.{number_of_body, same_number}
use Rattle.al_adt_functions.specs.Functions.{faults_of, faults_of_definitions, functions as own_functions_of, own_functions}
use Rattle.al_adt_functions.specs.Owned.{adts, aggregate_named, here_in}
use Rattle.al_adt_functions.specs.Rules.{agrees, is_object, is_pointed, rule_11_declared, same_parameters}
use Rattle.al_adt_functions.specs.Searches.{function_of, is_adt_of}
use Rattle.al_type_function.specs.Own.{adt_of, instance_adt, own_adt, plain_adt}
use Rattle.al_globals.specs.declared.found.Found.{Found}
use Rattle.al_build_environment.specs.Whole.{types_of, with_names}
use Rattle.al_sound_environment.specs.Unnamed.{AdtFunctions, Owned}
use Rattle.al_sound_environment.proofs.MembersAre.{members_are_sound}
use Rattle.al_sound_environment.proofs.OrdersAre.{are_forms}
use Rattle.al_sound_environment.proofs.OwnAre.{own_are}
use Rattle.al_sound_environment.proofs.RowsAre.{rows_of}
use Rattle.al_sound_calls.specs.Calls.{HasInstances, IsDefinition, LeadsToMethod, MethodsLead}
use Rattle.al_sound_rows.specs.Units.{at_head, signature_of}
use Rattle.al_sound_calls.proofs.Unnamed.{Text}
use Rattle.al_sound_calls.proofs.Lists.{Every, and_both, every_at, judged_good, length_more, none_in, some_is}
use Rattle.al_sound_calls.proofs.BuiltIs.{IsBuilt, is_built}
use Rattle.al_sound_calls.proofs.MethodsAre.{found_right, is_named, method_is}
use Rattle.al_sound_calls.proofs.AdtsAre.{IsEntry, IsInstanceOwned, IsNumbered, IsPlainOwned, adts_are, is_at, placed_is, same_found}
use Rattle.al_sound_calls.proofs.DefinitionsHold.{AdtDone, IsFine, ItemFine, adts_done, items_fine}
use Rattle.al_sound_calls.proofs.NumbersAre.{within_is}
use Rattle.al_sound_calls.proofs.OwnBodies.{body_is, definition_asked, heads_back, number_is}
use Rattle.al_sound_calls.proofs.SameTypes.{named_same, signature_same}

-- ---- instances by their numbers

module _ {A B : Type 0} (h : A → Option B) where
  abbrev list_of : A → List B
  list_of x = option_to_list (h x)

  at_most : (xs : List A) → length (flat_map list_of xs) ≤ length xs
  at_most [] = omega arith
  at_most (x ∷ xs) = go (h x) (at_most xs)
    where
      go : (o : Option B) → length (flat_map list_of xs) ≤ length xs → length (option_to_list o ++ flat_map list_of xs) ≤ suc (length xs)
      go None m = omega (arith, m)
      go (Some y) m = omega (arith, m)

  -- where all are there
  each_there : (xs : List A) (k : ℕ) (x : A) (y : B) → length (flat_map list_of xs) ≡ length xs → slice_get xs k ≡ Some x → h x ≡ Some y → slice_get (flat_map list_of xs) k ≡ Some y
  each_there [] k x y e at is = absurd (cc)
  each_there (z ∷ zs) zero x y e at is = ap (λ o. slice_get (option_to_list o ++ flat_map list_of zs) 0) (ap h (some_is at) ∙ is)
  each_there (z ∷ zs) (suc k) x y e at is = go (h z) refl e (λ f. each_there zs k x y f at is)
    where
      most : length (flat_map list_of zs) ≤ length zs
      most = at_most zs

      go : (o : Option B) → h z ≡ o → length (option_to_list o ++ flat_map list_of zs) ≡ suc (length zs)
          → (length (flat_map list_of zs) ≡ length zs → slice_get (flat_map list_of zs) k ≡ Some y) → slice_get (option_to_list (h z) ++ flat_map list_of zs) (suc k) ≡ Some y
      go None i f rest = absurd (let m = most in omega (arith, m, f))
      go (Some u) i f rest = ap (λ o. slice_get (option_to_list o ++ flat_map list_of zs) (suc k)) i ∙ rest (omega (arith, f))

numbers_same : (ps : List Name) (qs : List ℕ) → same_numbers ps qs ≡ true → map number_of ps ≡ qs
numbers_same [] [] h = refl
numbers_same [] (q ∷ qs) h = absurd (cc)
numbers_same (p ∷ ps) [] h = absurd (cc)
numbers_same (p ∷ ps) (q ∷ qs) h =
    let b = and_both (nat_eq p.name q) (same_numbers ps qs) h in
    ap₂ (λ (x : ℕ) (xs : List ℕ). x ∷ xs) (eqb-true p.name q b.0) (numbers_same ps qs b.1)

number_self : (o : Option ℕ) → same_number o o ≡ true
number_self None = refl
number_self (Some n) = eq-eqb n n refl

-- ---- what agrees with a definition

agrees_parameters : (p : Passed) (adt : ℕ) (named list : List Ty) → same_parameters p adt named list ≡ true → same_list false (passes p (ty.Aggregate adt) ++ named) list ≡ true
agrees_parameters passed.Nothing adt named list h = h
agrees_parameters passed.Value adt named [] h = absurd (cc)
agrees_parameters passed.Value adt named (t ∷ ts) h = h
agrees_parameters passed.Address adt named [] h = absurd (cc)
agrees_parameters passed.Address adt named (t ∷ ts) h =
    let b = and_both (is_object passed.Address adt t) (same_list false named ts) h in
    ap₂ (λ (p q : Bool). p && q) (same-Pointer false (ty.Aggregate adt) t ∙ go (pointed t) b.0) b.1
  where
    go : (o : Option Ty) → is_pointed adt o ≡ true → test_passes (same false (ty.Aggregate adt)) o ≡ true
    go None h = absurd (cc)
    go (Some u) h = h

agreed : (adt : ℕ) (from : OwnFunction) (f : NamedFunction) (s : Signature) → from.function.passed ≡ f.passed → from.function.signature ≡ f.signature → agrees adt from.function s ≡ true
    → (same false f.signature.returns s.returns ≡ true) × (same_list false (passes f.passed (ty.Aggregate adt) ++ f.signature.parameters) s.parameters ≡ true)
agreed adt from f s how types h =
    let a = and_both (same false from.function.signature.returns s.returns) (same_parameters from.function.passed adt from.function.signature.parameters s.parameters) h in (
      ap (λ (g : Signature). same false g.returns s.returns) (sym types) ∙ a.0,
      agrees_parameters f.passed adt f.signature.parameters s.parameters (
          ap (λ (p : Passed). same_parameters p adt f.signature.parameters s.parameters) (sym how)
          ∙ ap (λ (g : Signature). same_parameters from.function.passed adt g.parameters s.parameters) (sym types) ∙ a.1
          ),
    )

-- ---- adts of one name and instance are one type

module _ (env : Environment) (items : List Item) (fs : Forms) (ns : List ℕ) where
  abbrev IsOne : Owned → Type 0
  IsOne o = IsPlainOwned env o ⊎ IsInstanceOwned items fs ns o

  one_type : (o u : Owned) → IsOne o → IsOne u → o.name ≡ u.name → o.instance ≡ u.instance → o.aggregate ≡ u.aggregate
  one_type o u (inl a) (inl b) name of =
      let same : a.name ≡ b.name = ap (λ (x : Owned). x.name) (sym a.is) ∙ name ∙ ap (λ (x : Owned). x.name) b.is in
      let number : a.aggregate ≡ b.aggregate = some_is (sym a.named ∙ ap (aggregate_named env) same ∙ b.named) in
      ap (λ (x : Owned). x.aggregate) a.is ∙ number ∙ sym (ap (λ (x : Owned). x.aggregate) b.is)
  one_type o u (inl a) (inr b) name of =
      let e : None ≡ Some b.number = ap (λ (x : Owned). x.instance) (sym a.is) ∙ of ∙ ap (λ (x : Owned). x.instance) b.is in
      absurd (let f : ⊥ = cc in f)
  one_type o u (inr a) (inl b) name of =
      let e : Some a.number ≡ None = ap (λ (x : Owned). x.instance) (sym a.is) ∙ of ∙ ap (λ (x : Owned). x.instance) b.is in
      absurd (let f : ⊥ = cc in f)
  one_type o u (inr a) (inr b) name of =
      let e : a.number ≡ b.number = some_is (ap (λ (x : Owned). x.instance) (sym a.is) ∙ of ∙ ap (λ (x : Owned). x.instance) b.is) in
      let form : a.form ≡ b.form = some_is (sym a.at ∙ ap (slice_get fs.instances) e ∙ b.at) in
      let one : a.of ≡ b.of = some_is (sym a.made ∙ ap (instance fs ns) form ∙ b.made) in
      ap (λ (x : Owned). x.aggregate) a.is ∙ ap (λ (i : InstanceType). i.aggregate) one ∙ sym (ap (λ (x : Owned). x.aggregate) b.is)

-- ---- the adt at hand in a definition

module _ (tree : Tree) (is : List Instance) (env : Environment) (ns : List ℕ) (names : List MemberNames) (found : Found) (text : Text) where
  abbrev fs : Forms
  fs = forms tree is

  abbrev whole : Environment
  whole = with_names env names found

  module _ (d : Defined) (head : Head) (owner : Owner) (owned : head.owner ≡ Some owner) where
    here_plain : (o : Owned) → IsPlainOwned env o → owner.adt.name ≡ o.name → d.instance ≡ o.instance → o.here ≡ at_head whole head d
    here_plain o p name of =
        ap (λ (x : Owned). x.here) p.is
        ∙ sym (ap (λ x. here_in (own_adt whole x d.instance)) owned ∙ ap (λ x. here_in (adt_of whole owner x)) (of ∙ ap (λ (x : Owned). x.instance) p.is)
        ∙ ap (λ n. here_in (plain_adt n (aggregate_named whole n))) (name ∙ ap (λ (x : Owned). x.name) p.is)
        ∙ ap (λ r. here_in (plain_adt p.name r)) (named_same env names found p.name ∙ p.named))

    here_instance : (o : Owned) (p : IsInstanceOwned tree.items fs ns o) → slice_get env.instances p.number ≡ Some p.of → map number_of owner.parameters ≡ map number_of p.parameters
        → d.instance ≡ o.instance → o.here ≡ at_head whole head d
    here_instance o p there parameters of =
        ap (λ (x : Owned). x.here) p.is
        ∙ sym (ap (λ x. here_in (own_adt whole x d.instance)) owned ∙ ap (λ x. here_in (adt_of whole owner x)) (of ∙ ap (λ (x : Owned). x.instance) p.is)
        ∙ ap (λ r. here_in (instance_adt r owner.parameters)) there
        ∙ ap (λ l. here_in (Some (record { name = p.of.adt; aggregate = p.of.aggregate; parameters = l; arguments = p.of.arguments }))) parameters)

-- ---- what a text without faults in its names has

pub record IsNamedText (tree : Tree) : Type 0 where
  pub fine : Every (ItemFine (text_of tree)) tree.items
  pub adts : Every (AdtDone (text_of tree) (text_of tree).adts) tree.items

pub named_text : (tree : Tree) → names_hold tree ≡ Good tt → IsNamedText tree
unfolding names_hold text_of
named_text tree h =
    let f = (judged_good (dt.each di.item_way tree.items (text_of tree) undeclared).faults tt tt h).0 in
    record { fine = items_fine (text_of tree) tree.items undeclared f; adts = (adts_done (text_of tree) tree.items undeclared [] f (λ q ps e. absurd (cc))).0 }

forms_length : (tree : Tree) (is : List Instance) → length (forms tree is).instances ≡ length is
unfolding forms
forms_length tree is = all is _ ∙ none_before (length is)
  where
    none_before : (n : ℕ) → 0 + n ≡ n
    none_before n = omega arith

    all : (xs : List Instance) (r : Reached) → length (fold (with_instance (names_of tree.items) tree.items) r xs).instances ≡ length r.instances + length xs
    all [] r = omega arith
    all (x ∷ xs) r =
        let next : Reached = with_instance (names_of tree.items) tree.items r x in
        let more = all xs next in
        let one : length next.instances ≡ suc (length r.instances) = length_more r.instances _ in
        omega (arith, more, one)

-- ---- the adt of a function

-- the adt that has the functions of that type
record HasFunction (list : List AdtFunctions) (adt name : ℕ) (from : OwnFunction) : Type 0 where
  entry : AdtFunctions
  first : find (is_at adt) list ≡ Some entry
  found : find (is_named name) entry.functions ≡ Some from

function_in : (rows : List Aggregate) (list : List AdtFunctions) (adt name : ℕ) (from : OwnFunction) → find (is_named name) (own_at (own_functions rows list) adt) ≡ Some from
    → HasFunction list adt name from
function_in rows list adt name from h = go (slice_get (own_functions rows list) adt) refl h
  where
    there : (gs : List OwnFunction) → (gs ≡ []) ⊎ ((a : AdtFunctions) × (find (is_at adt) list ≡ Some a) × (a.functions ≡ gs)) → find (is_named name) gs ≡ Some from → HasFunction list adt name from
    there gs (inl e) f = let k : None ≡ Some from = ap (find (is_named name)) (sym e) ∙ f in absurd (let g : ⊥ = cc in g)
    there gs (inr p) f = record { entry = p.0; first = p.1; found = ap (find (is_named name)) p.2 ∙ f }

    go : (o : Option (List OwnFunction)) → slice_get (own_functions rows list) adt ≡ o → find (is_named name) (unwrap_or o []) ≡ Some from → HasFunction list adt name from
    go None e f = absurd (cc)
    go (Some gs) e f = there gs (placed_is rows list adt gs e) f

module _ (tree : Tree) (is : List Instance) (types : Environment) (ns : List ℕ) (names : List MemberNames) (found : Found) where
  abbrev ds : List Defined
  ds = functions tree.items is

  abbrev list : List AdtFunctions
  list = (adts types tree.items ds (forms tree is) ns).list

  abbrev E : Environment
  E = with_names types names found

  -- what is at hand
  pub here_is : types.instances ≡ instances (forms tree is) ns → HasInstances E is → IsNamedText tree → (d : Defined) (head : Head) (owner : Owner) → head.owner ≡ Some owner → IsFine (text_of tree) head
      → (o : Owned) → IsPlainOwned types o ⊎ IsInstanceOwned tree.items (forms tree is) ns o → owner.adt.name ≡ o.name → d.instance ≡ o.instance → o.here ≡ at_head E head d
  here_is all count text d head owner owned fine o (inl p) name of = here_plain tree is types ns names found (text_of tree) d head owner owned o p name of
  here_is all count text d head owner owned fine o (inr p) name of =
      here_instance tree is types ns names found (text_of tree) d head owner owned o p
      (ap (λ (l : List InstanceType). slice_get l p.number) all ∙ each_there (instance (forms tree is) ns) (forms tree is).instances p.number p.form p.of
      (sym (ap (λ (l : List InstanceType). length l) all) ∙ count ∙ sym (forms_length tree is)) p.at p.made) (numbers_same owner.parameters (map number_of p.parameters) rule) of
    where
      adt : lookup (nat_eq owner.adt.name) (text_of tree).adts ≡ Some (map number_of p.parameters)
      adt =
          ap (λ n. lookup (nat_eq n) (text_of tree).adts) (name ∙ ap (λ (x : Owned). x.name) p.is ∙ sym p.adt.named)
          ∙ every_at (AdtDone (text_of tree) (text_of tree).adts) tree.items p.adt.number (item.Adt p.adt.at p.adt.name p.parameters p.adt.members) p.adt.is text.adts

      rule : same_numbers owner.parameters (map number_of p.parameters) ≡ true
      rule = ap (λ o. rule_15_list o owner.parameters) (sym adt) ∙ fine.owned owner owned

  -- a definition of a function of an adt
  record IsMethod (adt : ℕ) (from : OwnFunction) (number : ℕ) : Type 0 where
    defined : Defined
    base : TypeTree
    head : Head
    definition : IsDefinition tree ds number defined base head
    agree : agrees adt from.function (signature_of E defined base head) ≡ true

  method_of : types.instances ≡ instances (forms tree is) ns → HasInstances E is → IsNamedText tree → faults_of_definitions types tree.items ds list 0 ds ≡ []
      → (adt name number : ℕ) (from : OwnFunction) → HasFunction list adt name from → from.function.signature.number ≡ Some number → IsMethod adt from number
  unfolding function_of
  method_of all count text faults adt name number from h num =
      let entries = adts_are types tree.items ds (forms tree is) ns in
      let e = found_right (IsEntry types tree.items ds (forms tree is) ns) (is_at adt) list h.entry h.first entries in
      let a = h.entry in
      let g = found_right (IsNumbered types tree.items ds (forms tree is) ns a.owned) (is_named name) a.functions from h.found e.0.numbered in
      let k = then_within (number_of_body tree.items ds a.owned.name a.owned.instance from.function.name) number (sym g.0 ∙ num) in
      let b = body_is tree.items ds a.owned.name a.owned.instance from.function.name number k in
      let asked = definition_asked types tree.items ds list faults number b.defined b.numbered b.at b.scope b.base b.head b.body b.stands b.owner b.owned in
      let f = found_right (IsEntry types tree.items ds (forms tree is) ns) (is_adt_of b.owner.adt.name b.defined.instance) list asked.adt asked.found entries in
      let q = and_both (nat_eq asked.adt.owned.name b.owner.adt.name) (same_number asked.adt.owned.instance b.defined.instance) f.1 in
      let passes_first : is_adt_of b.owner.adt.name b.defined.instance a ≡ true =
      ap₂ (λ (x y : Bool). x && y) (eq-eqb a.owned.name b.owner.adt.name (sym b.of)) (ap (same_number a.owned.instance) b.same ∙ number_self a.owned.instance) in
      let one = one_type types tree.items (forms tree is) ns asked.adt.owned a.owned f.0.owned e.0.owned (eqb-true asked.adt.owned.name b.owner.adt.name q.0 ∙ b.of) (number_is asked.adt.owned.instance b.defined.instance q.1 ∙ b.same) in
      let passes_second : is_at adt asked.adt ≡ true = ap (λ n. nat_eq n adt) one ∙ e.1 in
      let same_adt : a ≡ asked.adt = same_found (is_at adt) (is_adt_of b.owner.adt.name b.defined.instance) list a asked.adt h.first asked.found passes_first passes_second in
      let fine = every_at (ItemFine (text_of tree)) tree.items b.defined.item (item.Function b.at b.scope b.base b.head b.body) b.stands text.fine in
      let here = here_is all count text b.defined b.head b.owner b.owned fine a.owned e.0.owned b.of b.same in
      let types_are = ap (λ x. signature types x b.base b.head.stars b.head.parameters) here ∙ sym (signature_same types names found (at_head E b.head b.defined) b.base b.head.stars b.head.parameters) in
      let named_so : find (is_named b.head.name.name) a.functions ≡ Some from = ap (λ n. find (is_named n) a.functions) (b.named ∙ eqb-true from.function.name name g.1) ∙ h.found in
      record {
        defined = b.defined;
        base = b.base;
        head = b.head;
        definition = record { numbered = b.numbered; at = b.at; scope = b.scope; body = b.body; stands = b.stands };
        agree =
            ap (λ s. agrees adt from.function s) (sym types_are) ∙ ap (λ n. agrees n from.function (signature types a.owned.here b.base b.head.stars b.head.parameters)) (sym (eqb-true a.owned.aggregate adt e.1))
            ∙ ap (λ o. rule_11_declared a.owned.aggregate o (signature types a.owned.here b.base b.head.stars b.head.parameters)) (sym named_so)
            ∙ ap (λ (x : AdtFunctions). rule_11_declared x.owned.aggregate (find (is_named b.head.name.name) x.functions) (signature types x.owned.here b.base b.head.stars b.head.parameters)) same_adt ∙ asked.declared;
      }
    where
      then_within : (o : Option ℕ) (number : ℕ) → option_and_then within o ≡ Some number → o ≡ Some number
      then_within None number h = absurd (cc)
      then_within (Some k) number h = ap Some (within_is k number h)

-- ---- the law

pub own_faults : (env : Environment) (items : List Item) (defined : List Defined) (fs : Forms) (ns : List ℕ) (own : List (List OwnFunction)) → own_functions_of env items defined fs ns ≡ Good own
    → (faults_of_definitions env items defined (adts env items defined fs ns).list 0 defined ≡ []) × (own_functions env.aggregates (adts env items defined fs ns).list ≡ own)
unfolding own_functions_of
own_faults env items defined fs ns own h =
    let w = adts env items defined fs ns in
    let j = judged_good (faults_of env items defined w) (own_functions env.aggregates w.list) own h in
    let all = heads_back env w.list (w.faults ++ faults_of_definitions env items defined w.list 0 defined) items j.0 in
    ((none_in w.faults (faults_of_definitions env items defined w.list 0 defined) all).1, j.1)

module _ (tree : Tree) (is : List Instance) (scopes : Scopes) (env : Environment) where
  lead_made : (b : IsBuilt tree is scopes env) → names_hold tree ≡ Good tt → HasInstances (with_names (types_of tree (forms tree is) scopes b.laid) b.names b.found) is
      → (aggregate name number : ℕ) (f : NamedFunction) → function_named (with_names (types_of tree (forms tree is) scopes b.laid) b.names b.found) aggregate name ≡ Some f
      → f.signature.number ≡ Some number → LeadsToMethod (with_names (types_of tree (forms tree is) scopes b.laid) b.names b.found) tree (functions tree.items is) aggregate number f
  unfolding function_named
  lead_made b text count aggregate name number f at num =
      let fs = forms tree is in
      let types = types_of tree fs scopes b.laid in
      let have = members_are_sound.have_members fs b.laid.numbers b.laid.forms b.laid.aggregates (are_forms fs b.laid b.laid_is) (rows_of fs b.laid b.laid_is) in
      let plain = own_are types tree.items (functions tree.items is) fs b.laid.numbers b.own b.own_is in
      let o = (method_is b.laid.aggregates b.own fs b.laid.numbers b.laid.forms b.names plain have b.names_are aggregate name f at).0 in
      let own = own_faults types tree.items (functions tree.items is) fs b.laid.numbers b.own b.own_is in
      let h = function_in b.laid.aggregates (adts types tree.items (functions tree.items is) fs b.laid.numbers).list o.adt f.name o.from
      (ap (λ l. find (is_named f.name) (own_at l o.adt)) own.1 ∙ o.first) in
      let m = method_of tree is types b.laid.numbers b.names b.found refl count (named_text tree text) own.0 o.adt f.name number o.from h (ap (λ (s : Signature). s.number) o.types ∙ num) in
      let a = agreed o.adt o.from f (signature_of (with_names types b.names b.found) m.defined m.base m.head) o.passed o.types m.agree in
      record { adt = o.adt; leads = o.leads; defined = m.defined; base = m.base; head = m.head; is = m.definition; returns = a.0; parameters = a.1 }

pub methods_lead : MethodsLead
methods_lead tree is scopes env checked =
    let b = is_built tree is scopes env checked.environment in
    subst (λ (e : Environment). HasInstances e is → (aggregate name number : ℕ) (f : NamedFunction) → function_named e aggregate name ≡ Some f → f.signature.number ≡ Some number
    → LeadsToMethod e tree (functions tree.items is) aggregate number f) b.made (lead_made tree is scopes env b checked.named)
