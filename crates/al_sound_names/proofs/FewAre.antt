-- A text has few functions and branches of pars: each is of a definition, once for each instance at most.
use Rattle.std.proofs.Common.{◌≡◌, ◌+◌, ◌*◌, ◌≤◌, true, List, [], ◌∷◌, length, Some, refl, sym, subst, arith, length-append}
use Rattle.std.specs.Prelude.{slice_get}
use Rattle.std.specs.List.{flat_map}
use Rattle.std.proofs.lemmas.List.Elements.{All-head, All-tail}
use Rattle.std.proofs.lemmas.List.Sums.{sum_by-cons}
use Rattle.al_base.specs.declared.place.Place.{Place}
use Rattle.al_lex.specs.TokenList.{TokenList}
use Rattle.al_tree.specs.declared.item.Item.{Item}
use Rattle.al_tree.specs.declared.item.Item.TheVariants as item
use Rattle.al_declare.specs.declared.function.Defined.{Defined}
use Rattle.al_declare.specs.Functions.{functions, is_definition}
use Rattle.al_branches.specs.Law.{branch_count}
use Rattle.al_branches.specs.Numbers.{branches_at, branches_if, branches_of}
use Rattle.al_branches.specs.Statements.{in_par}
use Rattle.al_tree_places.specs.Few.{body_places}
use Rattle.al_tree_places.proofs.FewAre.{bodies_are_few}
use Rattle.al_tree_places.proofs.LawsHold.{places_are_apart}
use Rattle.al_short_programs.proofs.DefinedAre.{at_item, functions_count, of_defined}
use Rattle.al_short_programs.proofs.TokensAre.{tokens_few}
use Rattle.al_sound_programs.proofs.GathersAre.{all_defined}
use Rattle.al_sound_rows.specs.Rows.{BranchesAreApart, HaveBodies}
use Rattle.al_sound_rows.proofs.RowsAre.{rows_are_units}
use Rattle.al_sound_names.specs.Few.{TextsHaveFewFunctions}

-- the body of a function, and the branches in it
abbrev units : Item → List Place
units = body_places in_par

one_more : (i : Item) → is_definition i ≡ true → length (units i) ≡ 1 + length (branches_of i)
unfolding is_definition branches_of
one_more (item.Function at scope base head body) h = omega arith
one_more _ h = absurd (cc)

module _ (items : List Item) where
  abbrev U : Defined → List Place
  U = of_defined units items

  one_defined : (d : Defined) → (i : Item) × (slice_get items d.item ≡ Some i) × (is_definition i ≡ true) → length (U d) ≡ 1 + length (branches_at items d.item)
  one_defined d is = subst (λ o. length (at_item units o) ≡ 1 + length (branches_if o)) (sym is.1) (one_more is.0 is.2)

  units_count : (ds : List Defined) → HaveBodies items ds → length (flat_map U ds) ≡ length ds + branch_count items ds
  units_count [] are = refl
  units_count (d ∷ ds) are =
      let has = λ (x : Defined). (i : Item) × (slice_get items x.item ≡ Some i) × (is_definition i ≡ true) in
      let count = λ (x : Defined). length (branches_at items x.item) in
      let here : length (U d) ≡ 1 + count d = one_defined d (All-head has d ds are) in
      let rest : length (flat_map U ds) ≡ length ds + branch_count items ds = units_count ds (All-tail has d ds are) in
      let sum : branch_count items (d ∷ ds) ≡ count d + branch_count items ds = sum_by-cons count d ds in
      omega (arith, here, rest, sum, length-append (U d) (flat_map U ds))

pub few_functions : TextsHaveFewFunctions
few_functions text tree is env texts b read within e =
    let tokens : TokenList = record { list = read.tokens; text = text } in
    let ds = functions tree.items is in
    let are = all_defined tree.items is in
    let places = places_are_apart text read.tokens tree read.is.height read.cut read.is.is in
    let apart : BranchesAreApart tree.items = λ k at scope base head body stands. places.branches k body (record { at = at; scope = scope; base = base; head = head; is = stands }) in
    let rows : length b.functions ≡ length ds + branch_count tree.items ds = rows_are_units.count env tree ds texts b e are apart in
    let units_are : length (flat_map (of_defined units tree.items) ds) ≡ length ds + branch_count tree.items ds = units_count tree.items ds are in
    let few : length (flat_map (of_defined units tree.items) ds) ≤ 256 * length (flat_map units tree.items) = functions_count units tree.items is within in
    let bodies_few : length (flat_map units tree.items) ≤ length read.tokens = bodies_are_few tokens tree read.is.height read.is.is in
    let tokens_are : length read.tokens ≤ length text + 1 = tokens_few text read.tokens read.cut in
    let short = read.short in
    omega (arith, rows, units_are, few, bodies_few, tokens_are, short)
