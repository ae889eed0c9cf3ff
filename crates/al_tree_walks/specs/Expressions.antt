-- The names in an expression by their places, in text order.
use Rattle.std.specs.Prelude.{List, [], ◌∷◌, ◌++◌, Option, Some, None}
use Rattle.std.specs.List.{flat_map}
use Rattle.al_base.specs.declared.place.Place.{Place}
use Rattle.al_tree.specs.declared.expression.UnaryOp.{UnaryOp}
use Rattle.al_tree.specs.declared.expression.UnaryOp.TheVariants as prefix
use Rattle.al_tree.specs.declared.expression.Expr.{Expr, fold-Expr}
use Rattle.al_tree.specs.declared.expression.Expr.TheOpen.{Expr-F}

-- ---- all names

abbrev pub all_places : List (List Place) → List Place
all_places = flat_map (λ ats. ats)

abbrev pub names_step : Expr-F (List Place) → List Place
names_step (Expr-F.Number at n) = []
names_step (Expr-F.Char at n) = []
names_step (Expr-F.Text at bytes) = []
names_step (Expr-F.Nil at) = []
names_step (Expr-F.Name at name) = at ∷ []
names_step (Expr-F.Tuple at parts) = all_places parts
names_step (Expr-F.Unary at op a) = a
names_step (Expr-F.Cast at to a) = a
names_step (Expr-F.SizeofType at of) = []
names_step (Expr-F.SizeofValue at a) = a
names_step (Expr-F.Index at a b) = a ++ b
names_step (Expr-F.Member at a how name) = a
names_step (Expr-F.Call at f xs) = f ++ all_places xs
names_step (Expr-F.Postfix at op a) = a
names_step (Expr-F.Binary at op a b) = a ++ b
names_step (Expr-F.Iterator at a b) = a ++ b
names_step (Expr-F.Assign at op a b) = a ++ b
names_step (Expr-F.Sequence at parts) = all_places parts

-- the places of the names in an expression; those of members and in types are none
unfoldable pub name_places : Expr → List Place
name_places = fold-Expr (List Place) names_step

-- ---- names whose addresses are taken

-- where an expression stands that is a name alone, and which names in it stand behind `&`
pub record Addressed : Type 0 where
  pub name : Option Place
  pub places : List Place

abbrev pub plain : List Place → Addressed
plain ats = record { name = None; places = ats }

abbrev pub places_of : Addressed → List Place
places_of a = a.places

abbrev pub each_addressed : List Addressed → List Place
each_addressed = flat_map places_of

abbrev pub behind : UnaryOp → Option Place → List Place
behind prefix.Address (Some at) = at ∷ []
behind _ _ = []

abbrev pub addressed_step : Expr-F Addressed → Addressed
addressed_step (Expr-F.Number at n) = plain []
addressed_step (Expr-F.Char at n) = plain []
addressed_step (Expr-F.Text at bytes) = plain []
addressed_step (Expr-F.Nil at) = plain []
addressed_step (Expr-F.Name at name) = record { name = Some at; places = [] }
addressed_step (Expr-F.Tuple at parts) = plain (each_addressed parts)
addressed_step (Expr-F.Unary at op a) = plain (behind op a.name ++ a.places)
addressed_step (Expr-F.Cast at to a) = plain a.places
addressed_step (Expr-F.SizeofType at of) = plain []
addressed_step (Expr-F.SizeofValue at a) = plain a.places
addressed_step (Expr-F.Index at a b) = plain (a.places ++ b.places)
addressed_step (Expr-F.Member at a how name) = plain a.places
addressed_step (Expr-F.Call at f xs) = plain (f.places ++ each_addressed xs)
addressed_step (Expr-F.Postfix at op a) = plain a.places
addressed_step (Expr-F.Binary at op a b) = plain (a.places ++ b.places)
addressed_step (Expr-F.Iterator at a b) = plain (a.places ++ b.places)
addressed_step (Expr-F.Assign at op a b) = plain (a.places ++ b.places)
addressed_step (Expr-F.Sequence at parts) = plain (each_addressed parts)

unfoldable pub addressed : Expr → Addressed
addressed = fold-Expr Addressed addressed_step

-- the places of the names that stand behind `&`
abbrev pub addressed_places : Expr → List Place
addressed_places e = (addressed e).places
