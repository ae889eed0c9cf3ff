-- Functions from a place on.
use Rattle.std.proofs.Common.{◌≡◌, ℕ, ◌+◌, ◌<◌, ◌≤◌, List, length, get_or, drop, ap, ◌∙◌, sym, drop-cons, add-one}
use Rattle.std.proofs.lemmas.List.{drop_all, reverse-reverse}
use Rattle.al_tree.specs.declared.item.Item.{Item}
use Rattle.al_rules.specs.Outcome.{Outcome, Good, and_then}
use Rattle.al_declare.specs.declared.function.Defined.{Defined}
use Rattle.al_environment.specs.declared.numbered.Numbered.{Numbered}
use Rattle.al_environment.specs.declared.environment.Environment.{Environment}
use Rattle.al_bodies.specs.declared.found.Gathered.{Gathered}
use Rattle.al_bodies.specs.Gathering.{first_of, rest_of, next, gathered}

module _ (env : Environment) (names : List (List ℕ)) (items : List Item) (texts : ℕ) where
  pub gathered-here : (ds : List Defined) (ns : List (List Numbered)) (k : ℕ) (p : Defined) (g : Gathered) → k < length ds
      → gathered env names items texts k (drop k ds) ns g ≡ and_then (next env names items texts k (get_or ds k p) (first_of ns) g) (gathered env names items texts (k + 1) (drop (k + 1) ds) (rest_of ns))
  unfolding gathered
  gathered-here ds ns k p g h =
      ap (λ l. gathered env names items texts k l ns g) (drop-cons ds k p h)
      ∙ ap (λ i. and_then (next env names items texts k (get_or ds k p) (first_of ns) g) (gathered env names items texts (k + 1) (drop i ds) (rest_of ns))) (sym (add-one k))

  -- the next function, whose branches have these numbers
  pub gathered-next : (ds : List Defined) (ns : List (List Numbered)) (k : ℕ) (p : Defined) (bs : List Numbered) (g : Gathered) → k < length ds → bs ≡ first_of ns
      → gathered env names items texts k (drop k ds) ns g ≡ and_then (next env names items texts k (get_or ds k p) bs g) (gathered env names items texts (k + 1) (drop (k + 1) ds) (rest_of ns))
  gathered-next ds ns k p bs g h e =
      gathered-here ds ns k p g h
      ∙ ap (λ b. and_then (next env names items texts k (get_or ds k p) b g) (gathered env names items texts (k + 1) (drop (k + 1) ds) (rest_of ns))) (sym e)

  -- once it is found
  pub gathered-more : (ds : List Defined) (ns left : List (List Numbered)) (k : ℕ) (x : Outcome Gathered) (g : Gathered) → x ≡ Good g → left ≡ rest_of ns
      → and_then x (gathered env names items texts (k + 1) (drop (k + 1) ds) (rest_of ns)) ≡ gathered env names items texts (k + 1) (drop (k + 1) ds) left g
  gathered-more ds ns left k x g found e =
      ap (λ o. and_then o (gathered env names items texts (k + 1) (drop (k + 1) ds) (rest_of ns))) found
      ∙ ap (λ l. gathered env names items texts (k + 1) (drop (k + 1) ds) l g) (sym e)

  pub gathered-end : (ds : List Defined) (ns : List (List Numbered)) (k : ℕ) (g : Gathered) → length ds ≤ k → gathered env names items texts k (drop k ds) ns g ≡ Good g
  unfolding gathered
  gathered-end ds ns k g h = ap (λ l. gathered env names items texts k l ns g) (drop_all k ds h)

pub ruleset gathered_is = (gathered-here, gathered-end, reverse-reverse)
