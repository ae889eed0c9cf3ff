-- The parser of parameters, on lists of tokens.
--
-- Loops make at most `turns` turns, and what is read has at most `depth` levels.
use Rattle.std.specs.Prelude.{ℕ, zero, suc, max, nat_lt, length, Bool, true, ◌&&◌, if◌then◌else◌, List, [], ◌∷◌, ◌++◌, Option, Some, None}
use Rattle.al_base.specs.declared.place.Place.{Place}
use Rattle.al_lex.specs.declared.kind.TokenKind.TheVariants as k
use Rattle.al_lex.specs.declared.token.Token.{Token}
use Rattle.al_tree.specs.Types.{Leaves, name_at}
use Rattle.al_tree.specs.Items.{still_takes_bracket}
use Rattle.al_tree.specs.Reading.{Parser, ◌>>=◌, ◌>>◌, pure, refuse, same_kind, looks, peek, here, take_if, expect}
use Rattle.al_tree.specs.declared.type_tree.BasicType.TheVariants as basic
use Rattle.al_tree.specs.declared.type_tree.Bound.{Bound}
use Rattle.al_tree.specs.declared.type_tree.TypeTree.TheVariants as ty
use Rattle.al_tree.specs.declared.item.Parameter.{Parameter}
use Rattle.al_tree.specs.declared.item.Parameter.TheVariants as par
use Rattle.al_parse_type.specs.declared.part.Part.TheVariants as part
use Rattle.al_parse_type.specs.declared.part.ReadBase.{ReadBase}
use Rattle.al_parse_type.specs.Parse.{SizedPart, sees_type_name, sees_other_name, bound, stars_from, sized_base}
use Rattle.al_parse_type.specs.Within.{base_within, inside_within, arguments_within}

abbrev pub OpenBounds : Type 0
OpenBounds = List (Option Bound) × ℕ

abbrev pub SizedParameter : Type 0
SizedParameter = Parameter × ℕ

abbrev pub Parameters : Type 0
Parameters = List Parameter × ℕ

-- the name of a type
unfoldable pub type_name : List ℕ → Parser Token
type_name types = looks (sees_type_name types) >>= (λ is. if is then take_if true else refuse)

-- whether any name is a type's
abbrev pub some_name : List ℕ → Bool
some_name types = nat_lt 0 (length types)

module _ (leaves : Leaves) (types : List ℕ) (turns depth : ℕ) where
  -- bound "]"
  unfoldable pub closed_bound : Parser (Bound × ℕ)
  closed_bound = do
    x ← bound leaves types turns depth
    expect k.RightBracket
    pure x

  -- bound? "]", and the brackets behind them
  abbrev pub open_bound : (List (Option Bound) → ℕ → Parser OpenBounds) → List (Option Bound) → ℕ → Parser OpenBounds
  open_bound go xs h = do
    next ← peek
    if same_kind next k.RightBracket then (take_if true >> go (xs ++ None ∷ []) h) else (closed_bound >>= (λ x. go (xs ++ Some x.0 ∷ []) (max h x.1)))

  -- ("[" bound? "]")*, behind those that were found
  unfoldable pub open_bounds_from : ℕ → List (Option Bound) → ℕ → Parser OpenBounds
  open_bounds_from zero xs h = refuse
  open_bounds_from (suc n) xs h = do
    next ← peek
    if same_kind next k.LeftBracket then (take_if true >> open_bound (open_bounds_from n) xs h) else pure (xs, h)

  -- a name and bounds, behind a base type that begins at that place and stars
  unfoldable pub named_parameter : Place → ReadBase → ℕ → Parser SizedParameter
  named_parameter at b stars = do
    n ← take_if true
    bs ← open_bounds_from turns [] 0
    pure (par.Plain at b.tree stars (Some (name_at n)) bs.0, max b.height bs.1)

  -- bounds where there is no name
  unfoldable pub unnamed_parameter : Place → ReadBase → ℕ → Parser SizedParameter
  unnamed_parameter at b stars = do
    bs ← open_bounds_from turns [] 0
    pure (par.Plain at b.tree stars None bs.0, max b.height bs.1)

  -- stars, a name or none, and bounds
  unfoldable pub parameter_after : Place → ReadBase → Parser SizedParameter
  parameter_after at b = do
    stars ← stars_from turns 0
    is_name ← looks (sees_other_name types)
    if is_name then named_parameter at b stars else (if still_takes_bracket b.takes_bracket stars then pure (par.Plain at b.tree stars None [], b.height) else unnamed_parameter at b stars)

  -- an array without a name, of the type of that name, behind its first brackets
  unfoldable pub array_of : Token → Option Bound → ℕ → Parser SizedParameter
  array_of t first h = do
    bs ← open_bounds_from turns (first ∷ []) h
    pure (par.Plain t.place (ty.Named t.place t.name []) 0 None bs.0, bs.1)

  -- the parameter that begins with the type of that name and with what stands in brackets behind it
  abbrev pub bracketed : Token → SizedPart → Parser SizedParameter
  bracketed t (part.Type x, h) = arguments_within leaves types turns depth t (x, h) >>= parameter_after t.place
  bracketed t (part.Bound x, h) = expect k.RightBracket >> array_of t (Some x) h

  -- the same behind the bracket that opens
  unfoldable pub bracket : Token → Parser SizedParameter
  bracket t = do
    next ← peek
    if same_kind next k.RightBracket then (take_if true >> array_of t None 0) else (inside_within leaves types turns depth >>= bracketed t)

  -- a parameter that begins with a type's name
  unfoldable pub name_parameter : Parser SizedParameter
  name_parameter = do
    t ← take_if true
    next ← peek
    if same_kind next k.LeftBracket then (take_if true >> bracket t) else parameter_after t.place (sized_base (ty.Named t.place t.name []) 0)

  unfoldable pub own_pointer : Parser SizedParameter
  own_pointer = do
    w ← take_if true
    t ← type_name types
    pure (par.OwnPointer w.place t.name, 0)

  unfoldable pub own_value : Parser SizedParameter
  own_value = do
    w ← take_if true
    t ← type_name types
    pure (par.OwnValue w.place t.name, 0)

  -- a parameter that begins with any other base type
  unfoldable pub based_parameter : Parser SizedParameter
  based_parameter = do
    at ← here
    b ← base_within leaves types turns depth
    parameter_after at b

  -- where no name is a type's, nothing goes on behind a star or a dot
  unfoldable pub parameter : Parser SizedParameter
  parameter = do
    is_name ← looks (sees_type_name types)
    next ← peek
    if is_name then name_parameter else (if same_kind next k.Star && some_name types then own_pointer else (if same_kind next k.Dot && some_name types then own_value else based_parameter))

  unfoldable pub parameters_from : ℕ → List Parameter → ℕ → Parser Parameters
  parameters_from zero xs h = refuse
  parameters_from (suc n) xs h = do
    next ← peek
    if same_kind next k.Comma then (do take_if true; x ← parameter; parameters_from n (xs ++ x.0 ∷ []) (max h x.1)) else pure (xs, h)

  -- the parameters behind the first one, and ")"
  unfoldable pub parameters_behind : SizedParameter → Parser Parameters
  parameters_behind x = do
    xs ← parameters_from turns (x.0 ∷ []) x.1
    expect k.RightParen
    pure xs

  -- `void` alone is no parameter
  unfoldable pub void_first : Parser Parameters
  void_first = do
    w ← take_if true
    next ← peek
    if same_kind next k.RightParen then (take_if true >> pure ([], 0)) else (parameter_after w.place (sized_base (ty.Basic w.place basic.Void) 0) >>= parameters_behind)

  -- parms? ")"
  unfoldable pub parameter_list : Parser Parameters
  parameter_list = do
    next ← peek
    if same_kind next k.RightParen then (take_if true >> pure ([], 0)) else (if same_kind next k.Void then void_first else (parameter >>= parameters_behind))
