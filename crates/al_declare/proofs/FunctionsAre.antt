-- Definitions from an item or an instance on.
use Rattle.std.proofs.Common.{◌≡◌, ℕ, suc, ◌+◌, ◌<◌, ◌≤◌, List, [], ◌++◌, length, get_or, drop, Option, Some, ap, ◌∙◌, sym, append_assoc, drop-cons, add-one}
use Rattle.std.proofs.lemmas.List.{drop_all, append-nil}
use Rattle.al_tree.specs.declared.item.Item.{Item}
use Rattle.al_poly.specs.declared.instance.Instance.{Instance}
use Rattle.al_poly.specs.declared.names.Names.{Names}
use Rattle.al_declare.specs.Functions.{belongs, defined, defined_if, definitions, of_instances}

module _ (names : Names) (owner instance : Option ℕ) where
  pub definitions-from : (items : List Item) (n : ℕ) (i : Item) → n < length items → i ≡ get_or items n i
      → definitions names owner instance n (drop n items) ≡ defined_if (belongs names owner i) (defined n instance) ++ definitions names owner instance (n + 1) (drop (n + 1) items)
  unfolding definitions
  definitions-from items n i h is =
      ap (definitions names owner instance n) (drop-cons items n i h)
      ∙ ap (λ x. defined_if (belongs names owner x) (defined n instance) ++ definitions names owner instance (n + 1) (drop (suc n) items)) (sym is)
      ∙ ap (λ k. defined_if (belongs names owner i) (defined n instance) ++ definitions names owner instance (n + 1) (drop k items)) (sym (add-one n))

  pub definitions-end : (items : List Item) (n : ℕ) → length items ≤ n → definitions names owner instance n (drop n items) ≡ []
  unfolding definitions
  definitions-end items n h = ap (definitions names owner instance n) (drop_all n items h)

module _ (names : Names) (items : List Item) where
  pub instances-from : (list : List Instance) (n : ℕ) (i : Instance) → n < length list → i ≡ get_or list n i
      → of_instances names items n (drop n list) ≡ definitions names (Some i.adt) (Some n) 0 items ++ of_instances names items (n + 1) (drop (n + 1) list)
  unfolding of_instances
  instances-from list n i h is =
      ap (of_instances names items n) (drop-cons list n i h)
      ∙ ap (λ (x : Instance). definitions names (Some x.adt) (Some n) 0 items ++ of_instances names items (n + 1) (drop (suc n) list)) (sym is)
      ∙ ap (λ k. definitions names (Some i.adt) (Some n) 0 items ++ of_instances names items (n + 1) (drop k list)) (sym (add-one n))

  pub instances-end : (list : List Instance) (n : ℕ) → length list ≤ n → of_instances names items n (drop n list) ≡ []
  unfolding of_instances
  instances-end list n h = ap (of_instances names items n) (drop_all n list h)

pub ruleset one_more = (definitions-from, definitions-end, instances-from, instances-end, append_assoc, append-nil)
