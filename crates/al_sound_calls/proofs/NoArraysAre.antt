-- No parameter of a definition is an array, and no result is one.
use Rattle.std.proofs.Common.{◌≡◌, ℕ, Bool, true, false, not, nat_eq, List, [], ◌∷◌, ◌++◌, map, flat_map, Option, Some, None, option_map, refl, sym, ap, ◌∙◌, subst}
use Rattle.std.specs.Prelude.{All}
use Rattle.std.proofs.lemmas.Bool.{eqb-true}
use Rattle.std.proofs.lemmas.List.Elements.{All-cons, All-nil}
use Rattle.al_base.specs.declared.place.Place.{Place}
use Rattle.al_tree.specs.declared.type_tree.Bound.{Bound}
use Rattle.al_tree.specs.declared.type_tree.TypeTree.{TypeTree}
use Rattle.al_tree.specs.declared.item.Head.{Head}
use Rattle.al_tree.specs.declared.item.Item.TheVariants as item
use Rattle.al_tree.specs.declared.item.Owner.{Owner}
use Rattle.al_tree.specs.declared.item.Parameter.{Parameter}
use Rattle.al_tree.specs.declared.item.Parameter.TheVariants as parameter
use Rattle.al_tree.specs.declared.item.Tree.{Tree}
use Rattle.al_rules.specs.Outcome.{ask}
use Rattle.al_scope.specs.declared.declaration.Scopes.{Scopes}
use Rattle.al_typed.specs.declared.ty.Ty.{Ty}
use Rattle.al_typed.specs.declared.ty.Ty.TheOpen.{Ty-F}
use Rattle.al_typed.specs.declared.ty.Ty.TheVariants as ty
use Rattle.al_typed.specs.declared.ty.Ty.TheViews.{out-Ty}
use Rattle.al_typed.specs.Types.{is_array, is_array_at}
use Rattle.al_convert.specs.Kinds.{items_at, items_of}
use Rattle.al_poly.specs.declared.instance.Instance.{Instance}
use Rattle.al_declare.specs.declared.function.Defined.{Defined}
use Rattle.al_declare.specs.Asking.{text_of}
use Rattle.al_declare.specs.Functions.{functions}
use Rattle.al_environment.specs.declared.environment.Environment.{Environment}
use Rattle.al_environment.specs.declared.environment.Here.{Here}
use Rattle.al_type_rules.specs.Rules.{rule_7_value, rule_18_size, rule_20_result}
use Rattle.al_type_rules.specs.Types.{asked_result, decayed, decayed_with, known, parameter_faults, parameter_of, parameter_type, parameter_types, plain_types, result_type, signature, signature_faults}
use Rattle.al_sound_operators.proofs.TypeForms.{out_at-Pointer, out_at-Void}
use Rattle.al_tree.specs.Constants.{values}
use Rattle.al_form.specs.Forms.{forms}
use Rattle.al_adt_functions.specs.Bodies.{same_number}
use Rattle.al_adt_functions.specs.Owned.{adts, here_in}
use Rattle.al_adt_functions.specs.Searches.{is_adt_of}
use Rattle.al_type_function.specs.Own.{own_adt}
use Rattle.al_globals.specs.Globals.{outside}
use Rattle.al_globals.specs.Numbers.{numbers}
use Rattle.al_build_environment.specs.Whole.{types_of, with_names}
use Rattle.al_sound_environment.specs.Unnamed.{AdtFunctions}
use Rattle.al_sound_calls.specs.Calls.{HasInstances, HasNoArrays, IsChecked, IsDefinition, NoArrays}
use Rattle.al_sound_rows.specs.Units.{at_head, signature_of}
use Rattle.al_sound_calls.proofs.Lists.{Every, and_both, asked_true, every_at, none_in}
use Rattle.al_sound_calls.proofs.AdtsAre.{IsEntry, adts_are}
use Rattle.al_sound_calls.proofs.BuiltIs.{IsBuilt, is_built}
use Rattle.al_sound_calls.proofs.DefinitionsHold.{IsFine, IsPlain, ItemFine}
use Rattle.al_sound_calls.proofs.FunctionsLead.{ended}
use Rattle.al_sound_calls.proofs.ItemMoves.{ItemDone}
use Rattle.al_sound_calls.proofs.MethodsAre.{found_right}
use Rattle.al_sound_calls.proofs.MethodsLead.{IsNamedText, here_is, named_text, own_faults}
use Rattle.al_sound_calls.proofs.OwnBodies.{definition_asked, number_is}
use Rattle.al_sound_calls.proofs.SameTypes.{signature_same}

void_array : is_array ty.Void ≡ false
unfolding is_array
void_array = ap is_array_at out_at-Void

pointer_array : (x : Ty) → is_array (ty.Pointer x) ≡ false
unfolding is_array
pointer_array x = ap is_array_at (out_at-Pointer x)

-- what has no elements is no array
no_items : (t : Ty) → items_of t ≡ None → is_array t ≡ false
unfolding is_array items_of
no_items t h = at (out-Ty t) h
  where
    at : (y : Ty-F Ty) → items_at y ≡ None → is_array_at y ≡ false
    at (Ty-F.Array x n) h = absurd (cc)
    at Ty-F.Void h = refl
    at (Ty-F.Integer k) h = refl
    at (Ty-F.Pointer x) h = refl
    at (Ty-F.Chan x n) h = refl
    at (Ty-F.Tuple xs) h = refl
    at (Ty-F.Aggregate n) h = refl
    at (Ty-F.Function x xs) h = refl

decayed_array : (t : Ty) → is_array (decayed t) ≡ false
unfolding decayed
decayed_array t = go (items_of t) refl
  where
    go : (o : Option Ty) → items_of t ≡ o → is_array (decayed_with t o) ≡ false
    go None e = no_items t e
    go (Some x) e = pointer_array x

known_array : (o : Option Ty) (f : Ty → Ty) → ((t : Ty) → is_array (f t) ≡ false) → is_array (known (option_map f o)) ≡ false
known_array None f h = void_array
known_array (Some t) f h = h t

parameter_array : (bounds : List (Option Bound)) (o : Option Ty) → is_array (known (parameter_of bounds o)) ≡ false
parameter_array [] o = known_array o decayed decayed_array
parameter_array (b ∷ bounds) o = known_array o ty.Pointer pointer_array

result_array : (o : Option Ty) → rule_20_result o ≡ true → is_array (known o) ≡ false
result_array None h = void_array
result_array (Some t) h = go (is_array t) h
  where
    go : (b : Bool) → not b ≡ true → b ≡ false
    go true h = absurd (let f : ⊥ = cc in f)
    go false h = refl

abbrev IsWhole : Ty → Type 0
IsWhole t = is_array t ≡ false

module _ (env : Environment) (here : Here) where
  plain_array : (p : Parameter) → IsPlain p → is_array (parameter_type env here p) ≡ false
  unfolding parameter_types plain_types
  plain_array (parameter.Plain at base stars name bounds) h = parameter_array bounds _
  plain_array (parameter.OwnPointer at name) h = absurd h
  plain_array (parameter.OwnValue at name) h = absurd h

  pub plain_arrays : (ps : List Parameter) → Every IsPlain ps → All (λ t. is_array t ≡ false) (map (parameter_type env here) ps)
  plain_arrays [] all = All-nil IsWhole
  plain_arrays (p ∷ ps) all = All-cons IsWhole (parameter_type env here p) (map (parameter_type env here) ps) (plain_array p all.0) (plain_arrays ps all.1)

  pub no_arrays : (at : Place) (base : TypeTree) (stars : ℕ) (ps : List Parameter) → signature_faults env here at base stars ps ≡ [] → Every IsPlain ps → HasNoArrays (signature env here base stars ps)
  unfolding signature_faults signature
  no_arrays at base stars ps f plain =
      let t = result_type env here base stars in
      let e = (none_in (asked_result env.aggregates at t) (flat_map (parameter_faults env here) ps) f).0 in
      let r = (none_in (ask 20 at (rule_20_result t)) (ask 7 at (rule_7_value env.aggregates t) ++ ask 18 at (rule_18_size env.aggregates t)) e).0 in
      record { returns = result_array t (asked_true 20 at (rule_20_result t) r); parameters = plain_arrays ps plain }

-- ---- the law

module _ (tree : Tree) (is : List Instance) (scopes : Scopes) (env : Environment) (checked : IsChecked tree is scopes env) (b : IsBuilt tree is scopes env) where
  abbrev ds : List Defined
  ds = functions tree.items is

  abbrev types : Environment
  types = types_of tree (forms tree is) scopes b.laid

  abbrev E : Environment
  E = with_names types b.names b.found

  abbrev list : List AdtFunctions
  list = (adts types tree.items ds (forms tree is) b.laid.numbers).list

  -- where its types are asked is where it stands
  at_hand : (d : Defined) (base : TypeTree) (head : Head) (here : Here) → here ≡ at_head E head d → Every IsPlain head.parameters
      → signature_faults types here head.name.at base head.stars head.parameters ≡ [] → HasNoArrays (signature_of E d base head)
  at_hand d base head here same plain f =
      subst HasNoArrays (ap (λ x. signature types x base head.stars head.parameters) same ∙ sym (signature_same types b.names b.found (at_head E head d) base head.stars head.parameters))
      (no_arrays types here head.name.at base head.stars head.parameters f plain)

  definition_whole : HasInstances E is → (number : ℕ) (d : Defined) (base : TypeTree) (head : Head) → IsDefinition tree ds number d base head → HasNoArrays (signature_of E d base head)
  definition_whole count number d base head i = go head.owner refl
    where
      text : IsNamedText tree
      text = named_text tree checked.named

      fine : IsFine (text_of tree) head
      fine = every_at (ItemFine (text_of tree)) tree.items d.item (item.Function i.at i.scope base head i.body) i.stands text.fine

      go : (o : Option Owner) → head.owner ≡ o → HasNoArrays (signature_of E d base head)
      go None e =
          let ns = numbers tree.names tree.items ds in
          let x = (ended tree scopes types ns refl b.found checked.resolved checked.found checked.named b.found_is).1 in
          let h = every_at (ItemDone types ns (text_of tree) (values tree.items) _ _) tree.items d.item (item.Function i.at i.scope base head i.body) i.stands x.done e in
          at_hand d base head outside (ap (λ o. here_in (own_adt E o d.instance)) (sym e)) fine.plain h.faultless
      go (Some owner) e =
          let own = own_faults types tree.items ds (forms tree is) b.laid.numbers b.own b.own_is in
          let asked = definition_asked types tree.items ds list own.0 number d i.numbered i.at i.scope base head i.body i.stands owner e in
          let entries = adts_are types tree.items ds (forms tree is) b.laid.numbers in
          let f = found_right (IsEntry types tree.items ds (forms tree is) b.laid.numbers) (is_adt_of owner.adt.name d.instance) list asked.adt asked.found entries in
          let q = and_both (nat_eq asked.adt.owned.name owner.adt.name) (same_number asked.adt.owned.instance d.instance) f.1 in
          let here = here_is tree is types b.laid.numbers b.names b.found refl count text d head owner e fine asked.adt.owned f.0.owned
          (sym (eqb-true asked.adt.owned.name owner.adt.name q.0)) (sym (number_is asked.adt.owned.instance d.instance q.1)) in
          at_hand d base head asked.adt.owned.here here fine.plain asked.faultless

pub no_arrays_are : NoArrays
no_arrays_are tree is scopes env checked =
    let b = is_built tree is scopes env checked.environment in
    subst (λ (e : Environment). HasInstances e is → (number : ℕ) (d : Defined) (base : TypeTree) (head : Head) → IsDefinition tree (functions tree.items is) number d base head
    → HasNoArrays (signature_of e d base head)) b.made (definition_whole tree is scopes env checked b)
