-- Instances and definitions from a place on, and functions by the numbers of types.
use Rattle.std.proofs.Common.{◌≡◌, ℕ, suc, ◌+◌, ◌<◌, ◌≤◌, List, [], ◌∷◌, ◌++◌, fold, length, get_or, drop, None, refl, ap, ◌∙◌, sym, append_assoc, drop-cons, add-one}
use Rattle.std.specs.Prelude.{slice_get}
use Rattle.std.proofs.lemmas.List.{drop_all, append-nil, reverse-append}
use Rattle.al_tree.specs.declared.item.Item.{Item}
use Rattle.al_environment.specs.declared.environment.Environment.{Environment}
use Rattle.al_form.specs.declared.form.InstanceForm.{InstanceForm}
use Rattle.al_form.specs.declared.form.Forms.{Forms}
use Rattle.al_build_types.specs.Built.{instance}
use Rattle.al_declare.specs.declared.function.Defined.{Defined}
use Rattle.al_member_names.specs.declared.function.OwnFunction.{OwnFunction}
use Rattle.al_adt_functions.specs.declared.owned.AdtFunctions.{AdtFunctions}
use Rattle.al_adt_functions.specs.declared.owned.Adts.{Adts}
use Rattle.al_adt_functions.specs.Owned.{with_instance, with_instances}
use Rattle.al_adt_functions.specs.Functions.{faults_at, faults_of_definitions, with_functions, placed}

-- what stands past the end of a list
abbrev pub past : Defined
past = record { item = 0; instance = None }

module _ (env : Environment) (items : List Item) (defined : List Defined) where
  pub instances-from : (fs : Forms) (ns : List ℕ) (is : List InstanceForm) (n : ℕ) (i : InstanceForm) (w : Adts) → n < length is → i ≡ get_or is n i
      → with_instances env items defined fs ns n (drop n is) w
      ≡ with_instances env items defined fs ns (n + 1) (drop (n + 1) is) (with_instance env items defined n w (instance fs ns i))
  unfolding with_instances
  instances-from fs ns is n i w h e =
      ap (λ l. with_instances env items defined fs ns n l w) (drop-cons is n i h)
      ∙ ap (λ x. with_instances env items defined fs ns (n + 1) (drop (suc n) is) (with_instance env items defined n w (instance fs ns x))) (sym e)
      ∙ ap (λ k. with_instances env items defined fs ns (n + 1) (drop k is) (with_instance env items defined n w (instance fs ns i))) (sym (add-one n))

  pub instances-end : (fs : Forms) (ns : List ℕ) (is : List InstanceForm) (n : ℕ) (w : Adts) → length is ≤ n → with_instances env items defined fs ns n (drop n is) w ≡ w
  unfolding with_instances
  instances-end fs ns is n w h = ap (λ l. with_instances env items defined fs ns n l w) (drop_all n is h)

  pub definitions-from : (list : List AdtFunctions) (ds : List Defined) (n : ℕ) → n < length ds
      → faults_of_definitions env items defined list n (drop n ds)
      ≡ faults_at env items defined list (get_or ds n past).instance n (slice_get items (get_or ds n past).item) ++ faults_of_definitions env items defined list (n + 1) (drop (n + 1) ds)
  unfolding faults_of_definitions
  definitions-from list ds n h =
      ap (faults_of_definitions env items defined list n) (drop-cons ds n past h)
      ∙ ap (λ k. faults_at env items defined list (get_or ds n past).instance n (slice_get items (get_or ds n past).item) ++ faults_of_definitions env items defined list (n + 1) (drop k ds)) (sym (add-one n))

  pub definitions-end : (list : List AdtFunctions) (ds : List Defined) (n : ℕ) → length ds ≤ n → faults_of_definitions env items defined list n (drop n ds) ≡ []
  unfolding faults_of_definitions
  definitions-end list ds n h = ap (faults_of_definitions env items defined list n) (drop_all n ds h)

pub ruleset instances_are = (instances-from, instances-end)

pub ruleset definitions_are = (definitions-from, definitions-end, append_assoc, append-nil)

pub placed-none : (own : List (List OwnFunction)) → placed own [] ≡ own
unfolding placed
placed-none own = refl

pub placed-last : (own : List (List OwnFunction)) (front : List AdtFunctions) (a : AdtFunctions) → placed own (front ++ a ∷ []) ≡ placed (with_functions own a) front
unfolding placed
placed-last own front a = ap (fold with_functions own) (reverse-append front (a ∷ []))

pub ruleset placed_are = (placed-none, placed-last)
