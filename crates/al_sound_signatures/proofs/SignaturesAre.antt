-- The types of the functions that a text defines are plain.
use Rattle.std.proofs.Common.{◌≡◌, ℕ, List, [], Option, Some, None, ◌⊎◌, inl, inr, refl, sym, ap, ◌∙◌, subst}
use Rattle.std.specs.Prelude.{length}
use Rattle.al_tree.specs.Constants.{values}
use Rattle.al_tree.specs.declared.item.Head.{Head}
use Rattle.al_tree.specs.declared.item.Item.TheVariants as item
use Rattle.al_tree.specs.declared.item.Owner.{Owner}
use Rattle.al_tree.specs.declared.item.Tree.{Tree}
use Rattle.al_tree.specs.declared.type_tree.TypeTree.{TypeTree}
use Rattle.al_rules.specs.Outcome.{Good}
use Rattle.al_scope.specs.declared.declaration.Scopes.{Scopes}
use Rattle.al_poly.specs.declared.instance.Instance.{Instance}
use Rattle.al_declare.specs.declared.function.Defined.{Defined}
use Rattle.al_declare.specs.Asking.{text_of}
use Rattle.al_declare.specs.Functions.{functions}
use Rattle.al_declare.specs.Items.{names_hold}
use Rattle.al_environment.specs.declared.environment.Environment.{Environment}
use Rattle.al_environment.specs.declared.environment.Here.{Here}
use Rattle.al_form.specs.Forms.{forms}
use Rattle.al_type_rules.specs.Types.{signature, signature_faults}
use Rattle.al_globals.specs.Numbers.{numbers}
use Rattle.al_adt_functions.specs.Owned.{adts, here_in}
use Rattle.al_type_function.specs.Own.{own_adt}
use Rattle.al_build_environment.specs.Whole.{types_of, with_names}
use Rattle.al_sound_calls.specs.Calls.{HasInstances, IsChecked, IsDefinition}
use Rattle.al_sound_rows.specs.Units.{at_head, signature_of}
use Rattle.al_sound_calls.proofs.Lists.{every_at}
use Rattle.al_sound_calls.proofs.BuiltIs.{IsBuilt, is_built}
use Rattle.al_sound_calls.proofs.DefinitionsHold.{IsFine, ItemFine}
use Rattle.al_sound_calls.proofs.FunctionsLead.{ended}
use Rattle.al_sound_calls.proofs.ItemMoves.{ItemDone}
use Rattle.al_sound_calls.proofs.MethodsLead.{named_text, own_faults}
use Rattle.al_sound_calls.proofs.NoArraysAre.{plain_arrays}
use Rattle.al_sound_calls.proofs.OwnBodies.{definition_asked}
use Rattle.al_sound_calls.proofs.SameTypes.{signature_same}
use Rattle.al_sound_signatures.specs.Signatures.{AreParameters, IsPlain, SignaturesArePlain}
use Rattle.al_sound_signatures.proofs.Types.{result_is}
use Rattle.al_sound_signatures.proofs.Inside.{here_is, own_same}

fine_at : (tree : Tree) (is : List Instance) (number : ℕ) (d : Defined) (base : TypeTree) (head : Head) → names_hold tree ≡ Good tt
    → IsDefinition tree (functions tree.items is) number d base head → IsFine (text_of tree) head
fine_at tree is number d base head named i =
    every_at (ItemFine (text_of tree)) tree.items d.item (item.Function i.at i.scope base head i.body) i.stands (named_text tree named).fine

plain_parameters : (tree : Tree) (env : Environment) (here : Here) (base : TypeTree) (head : Head) → IsFine (text_of tree) head
    → AreParameters (signature env here base head.stars head.parameters).parameters
unfolding signature
plain_parameters tree env here base head fine = plain_arrays env here head.parameters fine.plain

-- what tells that the rules of the head were asked where it stands
abbrev IsAsked : Environment → List Instance → Defined → Head → Type 0
IsAsked env is d head = (head.owner ≡ None) ⊎ ((d.instance ≡ None) ⊎ HasInstances env is)

module _ (tree : Tree) (is : List Instance) (scopes : Scopes) (env : Environment) (checked : IsChecked tree is scopes env) (b : IsBuilt tree is scopes env) where
  abbrev ds : List Defined
  ds = functions tree.items is

  abbrev types : Environment
  types = types_of tree (forms tree is) scopes b.laid

  abbrev made : Environment
  made = with_names types b.names b.found

  module _ (number : ℕ) (d : Defined) (base : TypeTree) (head : Head) (i : IsDefinition tree ds number d base head) where
    faultless : (o : Option Owner) → head.owner ≡ o → IsAsked types is d head → signature_faults types (at_head types head d) head.name.at base head.stars head.parameters ≡ []
    faultless None e which =
        let ns = numbers tree.names tree.items ds in
        let x = (ended tree scopes types ns refl b.found checked.resolved checked.found checked.named b.found_is).1 in
        let h = every_at (ItemDone types ns (text_of tree) (values tree.items) _ _) tree.items d.item (item.Function i.at i.scope base head i.body) i.stands x.done e in
        ap (λ o. signature_faults types (here_in (own_adt types o d.instance)) head.name.at base head.stars head.parameters) e ∙ h.faultless
    faultless (Some owner) e (inl none) = let k : Some owner ≡ None = sym e ∙ none in absurd (let f : ⊥ = cc in f)
    faultless (Some owner) e (inr which) =
        let list = (adts types tree.items ds (forms tree is) b.laid.numbers).list in
        let own = own_faults types tree.items ds (forms tree is) b.laid.numbers b.own b.own_is in
        let q = definition_asked types tree.items ds list own.0 number d i.numbered i.at i.scope base head i.body i.stands owner e in
        let here = here_is tree is types b.laid.numbers b.names b.found d head owner e refl (named_text tree checked.named) (fine_at tree is number d base head checked.named i) which ds q.adt q.found in
        ap (λ h. signature_faults types h head.name.at base head.stars head.parameters) (sym here) ∙ q.faultless

    types_same : signature_of types d base head ≡ signature_of made d base head
    types_same =
        sym (signature_same types b.names b.found (at_head types head d) base head.stars head.parameters)
        ∙ ap (λ own. signature made (here_in own) base head.stars head.parameters) (sym (own_same types b.names b.found head.owner d.instance))

    plain_made : IsAsked types is d head → IsPlain made.aggregates (signature_of made d base head)
    plain_made which =
        subst (IsPlain types.aggregates) types_same (record {
          parameters = plain_parameters tree types (at_head types head d) base head (fine_at tree is number d base head checked.named i);
          returns = result_is types (at_head types head d) head.name.at base head.stars head.parameters (faultless head.owner refl which);
        })

plain : (tree : Tree) (is : List Instance) (scopes : Scopes) (env : Environment) → IsChecked tree is scopes env
    → (number : ℕ) (d : Defined) (base : TypeTree) (head : Head) → IsDefinition tree (functions tree.items is) number d base head
    → IsAsked env is d head → IsPlain env.aggregates (signature_of env d base head)
plain tree is scopes env checked number d base head i which =
    let b = is_built tree is scopes env checked.environment in
    subst (λ e. IsPlain e.aggregates (signature_of e d base head)) b.made (plain_made tree is scopes env checked b number d base head i (asked b which))
  where
    asked : (b : IsBuilt tree is scopes env) → IsAsked env is d head → IsAsked (types_of tree (forms tree is) scopes b.laid) is d head
    asked b (inl none) = inl none
    asked b (inr (inl none)) = inr (inl none)
    asked b (inr (inr count)) = inr (inr (ap (λ (e : Environment). length e.instances) b.made ∙ count))

parameters_plain : (tree : Tree) (is : List Instance) (scopes : Scopes) (env : Environment) → IsChecked tree is scopes env
    → (number : ℕ) (d : Defined) (base : TypeTree) (head : Head) → IsDefinition tree (functions tree.items is) number d base head → AreParameters (signature_of env d base head).parameters
parameters_plain tree is scopes env checked number d base head i =
    plain_parameters tree env (at_head env head d) base head (fine_at tree is number d base head checked.named i)

of_text_plain : (tree : Tree) (is : List Instance) (scopes : Scopes) (env : Environment) → IsChecked tree is scopes env
    → (number : ℕ) (d : Defined) (base : TypeTree) (head : Head) → IsDefinition tree (functions tree.items is) number d base head
    → (head.owner ≡ None) ⊎ (d.instance ≡ None) → IsPlain env.aggregates (signature_of env d base head)
of_text_plain tree is scopes env checked number d base head i (inl none) = plain tree is scopes env checked number d base head i (inl none)
of_text_plain tree is scopes env checked number d base head i (inr none) = plain tree is scopes env checked number d base head i (inr (inl none))

pub signatures_are_plain : SignaturesArePlain
signatures_are_plain = record {
  parameters = parameters_plain;
  of_text = of_text_plain;
  of_all = λ tree is scopes env checked count number d base head i. plain tree is scopes env checked number d base head i (inr (inr count));
}
