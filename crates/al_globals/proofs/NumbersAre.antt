-- The numbers of bodies, from a place on.
use Rattle.std.proofs.Common.{◌≡◌, ℕ, ◌+◌, ◌<◌, ◌≤◌, List, length, get_or, drop, Option, None, ap, ◌∙◌, sym, drop-cons, add-one}
use Rattle.std.specs.Prelude.{slice_get}
use Rattle.std.proofs.lemmas.List.{drop_all}
use Rattle.al_tree.specs.declared.item.Item.{Item}
use Rattle.al_declare.specs.declared.function.Defined.{Defined}
use Rattle.al_globals.specs.Numbers.{name_at, with_name, with_definitions}

-- what stands past the end of a list
abbrev pub past : Defined
past = record { item = 0; instance = None }

module _ (items : List Item) where
  pub definitions-from : (ds : List Defined) (n : ℕ) (ns : List (Option ℕ)) → n < length ds
      → with_definitions items n (drop n ds) ns ≡ with_definitions items (n + 1) (drop (n + 1) ds) (with_name ns (name_at (slice_get items (get_or ds n past).item)) n)
  unfolding with_definitions
  definitions-from ds n ns h =
      ap (λ l. with_definitions items n l ns) (drop-cons ds n past h)
      ∙ ap (λ k. with_definitions items (n + 1) (drop k ds) (with_name ns (name_at (slice_get items (get_or ds n past).item)) n)) (sym (add-one n))

  pub definitions-end : (ds : List Defined) (n : ℕ) (ns : List (Option ℕ)) → length ds ≤ n → with_definitions items n (drop n ds) ns ≡ ns
  unfolding with_definitions
  definitions-end ds n ns h = ap (λ l. with_definitions items n l ns) (drop_all n ds h)

pub ruleset numbers_are = (definitions-from, definitions-end)
