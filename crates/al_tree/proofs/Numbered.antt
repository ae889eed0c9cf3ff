-- The constants of an enum, one by one.
use Rattle.std.proofs.Common.{◌≡◌, ℕ, ◌+◌, ◌<◌, ◌≤◌, List, [], ◌∷◌, ◌++◌, length, drop, get_or, Option, sym, ap, ap₂, ◌∙◌}
use Rattle.std.proofs.lemmas.List.{drop_more, drop_all}
use Rattle.al_tree.specs.declared.item.Constant.{Constant}
use Rattle.al_tree.specs.declared.integer.Integer.{Integer}
use Rattle.al_tree.specs.declared.constants.EnumConstant.{EnumConstant}
use Rattle.al_tree.specs.declared.constants.NamedKind.{NamedKind}
use Rattle.al_tree.specs.declared.constants.Known.{Known}
use Rattle.al_tree.specs.Constants.{enum_constant, given, one_more, numbered}

abbrev known_of : List NamedKind → List EnumConstant → Known
known_of types constants = record { types = types; constants = constants }

-- one constant more, and no more
pub numbered_step : (next : Option Integer) (known : Known) (cs : List Constant) (i : ℕ) (c : Constant) (v n : Option Integer) (constants : List EnumConstant) → i < length cs → c ≡ get_or cs i c
    → v ≡ given known next c.value → n ≡ one_more v → constants ≡ known.constants ++ enum_constant c.name v ∷ []
    → numbered next known (drop i cs) ≡ numbered n (known_of known.types constants) (drop (i + 1) cs)
unfolding numbered
numbered_step next known cs i c v n constants h e ev en ec =
    let front : drop i cs ≡ c ∷ drop (i + 1) cs = drop_more cs i c h ∙ ap (λ x. x ∷ drop (i + 1) cs) (sym e) in
    ap (numbered next known) front
    ∙ ap (λ x. numbered (one_more x) (known_of known.types (known.constants ++ enum_constant c.name x ∷ [])) (drop (i + 1) cs)) (sym ev)
    ∙ ap₂ (λ x l. numbered x (known_of known.types l) (drop (i + 1) cs)) (sym en) (sym ec)

pub numbered_none : (next : Option Integer) (known : Known) (cs : List Constant) (i : ℕ) → length cs ≤ i → numbered next known (drop i cs) ≡ known
unfolding numbered
numbered_none next known cs i h = ap (numbered next known) (drop_all i cs h)
