-- What is at hand where the rules of a head are asked, in an adt or in an instance of one.
use Rattle.std.proofs.Common.{◌≡◌, ℕ, nat_eq, List, Option, Some, None, ◌⊎◌, inl, inr, refl, sym, ap, ◌∙◌}
use Rattle.std.specs.Prelude.{find}
use Rattle.std.proofs.lemmas.Bool.{eqb-true}
use Rattle.al_tree.specs.declared.item.Head.{Head}
use Rattle.al_tree.specs.declared.item.Owner.{Owner}
use Rattle.al_tree.specs.declared.item.Tree.{Tree}
use Rattle.al_poly.specs.declared.instance.Instance.{Instance}
use Rattle.al_environment.specs.declared.environment.Environment.{Environment}
use Rattle.al_environment.specs.declared.environment.MemberNames.{MemberNames}
use Rattle.al_environment.specs.Lookups.{plain_type}
use Rattle.al_form.specs.declared.form.Forms.{Forms}
use Rattle.al_form.specs.Forms.{forms}
use Rattle.al_build_types.specs.Built.{instances}
use Rattle.al_declare.specs.declared.function.Defined.{Defined}
use Rattle.al_declare.specs.Asking.{text_of}
use Rattle.al_globals.specs.declared.found.Found.{Found}
use Rattle.al_adt_functions.specs.Bodies.{same_number}
use Rattle.al_adt_functions.specs.Owned.{adts, aggregate_named, here_in}
use Rattle.al_adt_functions.specs.Searches.{is_adt_of}
use Rattle.al_type_function.specs.Own.{adt_of, own_adt, plain_adt}
use Rattle.al_build_environment.specs.Whole.{with_names}
use Rattle.al_sound_environment.specs.Unnamed.{AdtFunctions, Owned}
use Rattle.al_sound_calls.specs.Calls.{HasInstances}
use Rattle.al_sound_rows.specs.Units.{at_head}
use Rattle.al_sound_calls.proofs.Lists.{and_both}
use Rattle.al_sound_calls.proofs.MethodsAre.{found_right}
use Rattle.al_sound_calls.proofs.AdtsAre.{IsEntry, IsInstanceOwned, IsPlainOwned, adts_are}
use Rattle.al_sound_calls.proofs.DefinitionsHold.{IsFine}
use Rattle.al_sound_calls.proofs.MethodsLead.{IsNamedText}
use Rattle.al_sound_calls.proofs.MethodsLead as methods
use Rattle.al_sound_calls.proofs.OwnBodies.{number_is}

-- the own adt is the same where names are known
pub own_same : (env : Environment) (names : List MemberNames) (found : Found) (o : Option Owner) (i : Option ℕ) → own_adt (with_names env names found) o i ≡ own_adt env o i
unfolding plain_type
own_same env names found None i = refl
own_same env names found (Some owner) None = refl
own_same env names found (Some owner) (Some k) = refl

module _ (tree : Tree) (is : List Instance) (env : Environment) (ns : List ℕ) (names : List MemberNames) (found : Found) (d : Defined) (head : Head) (owner : Owner) (owned : head.owner ≡ Some owner) where
  abbrev fs : Forms
  fs = forms tree is

  here_plain : (o : Owned) → IsPlainOwned env o → owner.adt.name ≡ o.name → d.instance ≡ o.instance → o.here ≡ at_head env head d
  here_plain o p name of =
      ap (λ (x : Owned). x.here) p.is
      ∙ sym (ap (λ x. here_in (own_adt env x d.instance)) owned ∙ ap (λ x. here_in (adt_of env owner x)) (of ∙ ap (λ (x : Owned). x.instance) p.is)
      ∙ ap (λ n. here_in (plain_adt n (aggregate_named env n))) (name ∙ ap (λ (x : Owned). x.name) p.is)
      ∙ ap (λ r. here_in (plain_adt p.name r)) p.named)

  -- the definition is of no instance, or each instance has a type
  here_owned : env.instances ≡ instances fs ns → IsNamedText tree → IsFine (text_of tree) head → (d.instance ≡ None) ⊎ HasInstances (with_names env names found) is
      → (o : Owned) → IsPlainOwned env o ⊎ IsInstanceOwned tree.items fs ns o → owner.adt.name ≡ o.name → d.instance ≡ o.instance → o.here ≡ at_head env head d
  here_owned all text fine which o (inl p) name of = here_plain o p name of
  here_owned all text fine (inl none) o (inr p) name of =
      let e : None ≡ Some p.number = sym none ∙ of ∙ ap (λ (x : Owned). x.instance) p.is in
      absurd (let f : ⊥ = cc in f)
  here_owned all text fine (inr count) o (inr p) name of =
      methods.here_is tree is env ns names found all count text d head owner owned fine o (inr p) name of
      ∙ ap here_in (own_same env names found head.owner d.instance)

  pub here_is : env.instances ≡ instances fs ns → IsNamedText tree → IsFine (text_of tree) head → (d.instance ≡ None) ⊎ HasInstances (with_names env names found) is
      → (ds : List Defined) (a : AdtFunctions) → find (is_adt_of owner.adt.name d.instance) (adts env tree.items ds fs ns).list ≡ Some a → a.owned.here ≡ at_head env head d
  here_is all text fine which ds a at =
      let f = found_right (IsEntry env tree.items ds fs ns) (is_adt_of owner.adt.name d.instance) (adts env tree.items ds fs ns).list a at (adts_are env tree.items ds fs ns) in
      let q = and_both (nat_eq a.owned.name owner.adt.name) (same_number a.owned.instance d.instance) f.1 in
      here_owned all text fine which a.owned f.0.owned (sym (eqb-true a.owned.name owner.adt.name q.0)) (sym (number_is a.owned.instance d.instance q.1))
