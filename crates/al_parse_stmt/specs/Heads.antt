-- The parser of declarators at file level, on lists of tokens.
use Rattle.std.specs.Prelude.{ℕ, zero, suc, max, nat_lt, true, if◌then◌else◌, List, [], ◌∷◌, ◌++◌, Option, Some, None}
use Rattle.al_base.specs.declared.place.Place.{Place}
use Rattle.al_lex.specs.declared.kind.TokenKind.TheVariants as k
use Rattle.al_lex.specs.declared.token.Token.{Token}
use Rattle.al_tree.specs.Types.{Leaves, with_names, name_at}
use Rattle.al_tree.specs.Items.{Declared, parameters_of}
use Rattle.al_tree.specs.Reading.{Parser, ◌>>=◌, ◌>>◌, pure, refuse, same_kind, looks, peek, here, take_if, expect}
use Rattle.al_tree.specs.declared.expression.Name.{Name}
use Rattle.al_tree.specs.declared.item.Owner.{Owner}
use Rattle.al_tree.specs.declared.item.Declarator.{Declarator}
use Rattle.al_tree.specs.declared.item.Declarator.TheVariants as dec
use Rattle.al_parse_stmt.specs.declared.heads.FirstName.{FirstName}
use Rattle.al_parse_type.specs.Parse.{sees_type_name, other_name, bounds_from, stars_from}
use Rattle.al_parse_member.specs.Parameters.{Parameters, type_name, parameter_list}
use Rattle.al_parse_member.specs.Members.{initializer}

abbrev pub SizedDeclarator : Type 0
SizedDeclarator = Declarator × ℕ

abbrev pub Declarators : Type 0
Declarators = List Declarator × ℕ

-- the names of types behind the first one
unfoldable pub type_names_from : List ℕ → ℕ → List Name → Parser (List Name)
type_names_from types zero xs = refuse
type_names_from types (suc n) xs = do
  next ← peek
  if same_kind next k.Comma then (do take_if true; t ← type_name types; type_names_from types n (xs ++ name_at t ∷ [])) else pure xs

-- names that are no types' behind the first one
unfoldable pub new_names_from : List ℕ → ℕ → List Name → Parser (List Name)
new_names_from types zero xs = refuse
new_names_from types (suc n) xs = do
  next ← peek
  if same_kind next k.Comma then (do take_if true; t ← other_name types; new_names_from types n (xs ++ name_at t ∷ [])) else pure xs

abbrev pub headed : Place → ℕ → Option Owner → Token → Parameters → SizedDeclarator
headed at stars owner n ps = (dec.Function (record { at = at; stars = stars; owner = owner; name = name_at n; parameters = ps.0 }), ps.1)

module _ (leaves : Leaves) (types : List ℕ) (turns depth : ℕ) where
  -- NAME "(" parms? ")" of the function of an adt
  unfoldable pub owned_head : Place → ℕ → Owner → Parser SizedDeclarator
  owned_head at stars owner = do
    n ← other_name types
    expect k.LeftParen
    ps ← parameter_list leaves types turns depth
    pure (headed at stars (Some owner) n ps)

  -- TNAME ("," TNAME)* "]" "." and the head of a function of that adt, whose parameters are types here
  unfoldable pub parametrised_head : Place → ℕ → Token → Parser SizedDeclarator
  parametrised_head at stars a = do
    first ← type_name types
    names ← type_names_from types turns (name_at first ∷ [])
    expect k.RightBracket
    expect k.Dot
    owned_head at stars (record { adt = name_at a; parameters = names })

  -- an initializer or none, behind bounds
  unfoldable pub global_after : Place → ℕ → Token → Parser SizedDeclarator
  global_after at stars n = do
    bs ← bounds_from leaves types turns depth turns [] 0
    next ← peek
    if same_kind next k.Equal then (do take_if (nat_lt 0 depth); x ← initializer leaves types turns depth; pure (dec.Global (record { at = at; stars = stars; name = name_at n; bounds = bs.0 }) (Some x.0), max bs.1 x.1)) else pure (dec.Global (record { at = at; stars = stars; name = name_at n; bounds = bs.0 }) None, bs.1)

  -- a function's parameters, behind its name and the parenthesis
  unfoldable pub plain_head : Place → ℕ → Token → Parser SizedDeclarator
  plain_head at stars n = do
    take_if true
    ps ← parameter_list leaves types turns depth
    pure (headed at stars None n ps)

  -- what goes on behind a name that is no type's
  abbrev pub named_after : Place → ℕ → Token → Parser SizedDeclarator
  named_after at stars n = do
    next ← peek
    if same_kind next k.LeftParen then plain_head at stars n else global_after at stars n

  unfoldable pub named_declarator : Place → ℕ → Parser SizedDeclarator
  named_declarator at stars = do
    n ← other_name types
    named_after at stars n

module _ (leaves : Leaves) (turns depth : ℕ) (d : Declared) where
  -- "[" and what goes on in it and behind it, behind the adt's name
  unfoldable pub bracketed : Place → ℕ → Token → Parser SizedDeclarator
  bracketed at stars a = do
    take_if true
    parametrised_head leaves (with_names d.types (parameters_of d.adts a.name)) turns depth at stars a

  -- "." and what goes on behind it, behind the adt's name
  unfoldable pub dotted : Place → ℕ → Token → Parser SizedDeclarator
  dotted at stars a = do
    expect k.Dot
    owned_head leaves d.types turns depth at stars (record { adt = name_at a; parameters = [] })

  -- what goes on behind the adt's name
  unfoldable pub owned_after : Place → ℕ → Token → Parser SizedDeclarator
  owned_after at stars a = do
    next ← peek
    if same_kind next k.LeftBracket then bracketed at stars a else dotted at stars a

  unfoldable pub owned_declarator : Place → ℕ → Parser SizedDeclarator
  owned_declarator at stars = do
    a ← type_name d.types
    owned_after at stars a

  -- gdcl : dcl ("=" init)? | fhead
  unfoldable pub declarator : Parser SizedDeclarator
  declarator = do
    at ← here
    stars ← stars_from turns 0
    is_type ← looks (sees_type_name d.types)
    if is_type then owned_declarator at stars else named_declarator leaves d.types turns depth at stars

  -- the first declarator, behind the name that it has
  unfoldable pub declarator_after : FirstName → Parser SizedDeclarator
  declarator_after y = if y.owned then owned_after y.at y.stars y.name else named_after leaves d.types turns depth y.at y.stars y.name

  unfoldable pub declarators_from : ℕ → List Declarator → ℕ → Parser Declarators
  declarators_from zero xs h = refuse
  declarators_from (suc n) xs h = do
    next ← peek
    if same_kind next k.Comma then (do take_if true; x ← declarator; declarators_from n (xs ++ x.0 ∷ []) (max h x.1)) else pure (xs, h)
