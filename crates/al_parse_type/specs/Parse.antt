-- The parser of bounds, types and declarators, on lists of tokens.
--
-- Loops make at most `turns` turns. A bound, and a type, has at most `depth` levels; what stands inside it has fewer, and
-- is parsed by `sub`.
use Rattle.std.specs.Prelude.{ℕ, zero, suc, ◌+◌, ◌==◌, max, length, nat_lt, Bool, true, false, ◌||◌, ◌&&◌, not, if◌then◌else◌, List, [], ◌∷◌, ◌++◌, Option, Some, None, Err, is_some}
use Rattle.al_base.specs.declared.place.Place.{Place}
use Rattle.al_lex.specs.declared.kind.TokenKind.{TokenKind}
use Rattle.al_lex.specs.declared.kind.TokenKind.TheVariants as k
use Rattle.al_lex.specs.declared.token.Token.{Token}
use Rattle.al_tree.specs.Words.{basic_type, bound_sum, bound_product}
use Rattle.al_tree.specs.Types.{Leaves, known, name_at, arrays}
use Rattle.al_tree.specs.Reading.{Parser, ◌>>=◌, ◌>>◌, pure, refuse, kind, name_number, same_kind, looks, peek, here, take_if, expect}
use Rattle.al_tree.specs.declared.cursor.ParseError.TheVariants.{Deep}
use Rattle.al_tree.specs.declared.type_tree.BasicType.{BasicType}
use Rattle.al_tree.specs.declared.type_tree.BoundOp.{BoundOp}
use Rattle.al_tree.specs.declared.type_tree.Bound.{Bound}
use Rattle.al_tree.specs.declared.type_tree.Bound.TheVariants as b
use Rattle.al_tree.specs.declared.type_tree.TypeTree.{TypeTree}
use Rattle.al_tree.specs.declared.type_tree.TypeTree.TheVariants as ty
use Rattle.al_tree.specs.declared.type_tree.Dcl.{Dcl}
use Rattle.al_parse_type.specs.declared.part.Part.{Part}
use Rattle.al_parse_type.specs.declared.part.Part.TheVariants as part
use Rattle.al_parse_type.specs.declared.part.Want.{Want}
use Rattle.al_parse_type.specs.declared.part.Want.TheVariants as want
use Rattle.al_parse_type.specs.declared.part.ReadBase.{ReadBase}

-- a tree and its height
abbrev pub SizedBound : Type 0
SizedBound = Bound × ℕ

abbrev pub SizedType : Type 0
SizedType = TypeTree × ℕ

abbrev pub SizedPart : Type 0
SizedPart = Part × ℕ

-- whether a name comes next that is no type's
unfoldable pub sees_other_name : List ℕ → List Token → Bool
sees_other_name types ts = same_kind (kind ts) k.Name && not (known types (name_number ts))

-- whether a type's name comes next
unfoldable pub sees_type_name : List ℕ → List Token → Bool
sees_type_name types ts = same_kind (kind ts) k.Name && known types (name_number ts)

-- whether a type begins with the next token; one that begins with a parenthesis does not count
unfoldable pub sees_type : List ℕ → List Token → Bool
sees_type types ts = is_some (basic_type (kind ts)) || (same_kind (kind ts) k.Tuple || (same_kind (kind ts) k.Chan || sees_type_name types ts))

-- whether a type may begin with the next token; with `bare` a tuple may begin with its parenthesis
unfoldable pub begins_part : List ℕ → Bool → List Token → Bool
begins_part types bare ts = sees_type types ts || (bare && same_kind (kind ts) k.LeftParen)

unfoldable pub other_name : List ℕ → Parser Token
other_name types = looks (sees_other_name types) >>= (λ is. if is then take_if true else refuse)

-- ---- bounds

module _ (leaves : Leaves) (types : List ℕ) (turns depth : ℕ) (sub : Parser SizedBound) where
  -- what stands in parentheses, after the first
  unfoldable pub bound_inside : Parser SizedBound
  bound_inside = do
    x ← sub
    expect k.RightParen
    pure (x.0, x.1 + 1)

  abbrev pub prim_by : TokenKind → Parser SizedBound
  prim_by k.Number = take_if true >>= (λ t. pure (b.Number t.place (leaves.number t), 0))
  prim_by k.Name = other_name types >>= (λ t. pure (b.Name t.place t.name, 0))
  prim_by k.LeftParen = take_if (nat_lt 0 depth) >> bound_inside
  prim_by _ = refuse

  unfoldable pub bound_prim : Parser SizedBound
  bound_prim = peek >>= prim_by

  abbrev pub product_by : (SizedBound → Parser SizedBound) → Place → SizedBound → Option BoundOp → Parser SizedBound
  product_by go at x (Some op) = do
    take_if true
    y ← bound_prim
    go (b.Binary at op x.0 y.0, max x.1 y.1)
  product_by go at x None = pure x

  -- products after x, which begins at that place
  unfoldable pub products_from : ℕ → Place → SizedBound → Parser SizedBound
  products_from zero at x = refuse
  products_from (suc n) at x = peek >>= (λ next. product_by (products_from n at) at x (bound_product next))

  unfoldable pub bound_term : Parser SizedBound
  bound_term = do
    at ← here
    x ← bound_prim
    products_from turns at x

  abbrev pub sum_by : (SizedBound → Parser SizedBound) → Place → SizedBound → Option BoundOp → Parser SizedBound
  sum_by go at x (Some op) = do
    take_if true
    y ← bound_term
    go (b.Binary at op x.0 y.0, max x.1 y.1)
  sum_by go at x None = pure x

  unfoldable pub sums_from : ℕ → Place → SizedBound → Parser SizedBound
  sums_from zero at x = refuse
  sums_from (suc n) at x = peek >>= (λ next. sum_by (sums_from n at) at x (bound_sum next))

  -- a bound that begins with x at that place
  unfoldable pub bound_after : Place → SizedBound → Parser SizedBound
  bound_after at x = do
    y ← products_from turns at x
    sums_from turns at y

  unfoldable pub bound_at : Parser SizedBound
  bound_at = do
    at ← here
    x ← bound_term
    sums_from turns at x

-- a bound of less than that height
unfoldable pub bound_below : Leaves → List ℕ → ℕ → ℕ → Parser SizedBound
bound_below leaves types turns zero = λ ts. Err (Deep 0)
bound_below leaves types turns (suc depth) = bound_at leaves types turns depth (bound_below leaves types turns depth)

-- a bound of at most that height
unfoldable pub bound : Leaves → List ℕ → ℕ → ℕ → Parser SizedBound
bound leaves types turns depth = bound_at leaves types turns depth (bound_below leaves types turns depth)

-- ---- "[" bound "]", stars and declarators

module _ (leaves : Leaves) (types : List ℕ) (turns depth : ℕ) where
  unfoldable pub bounds_from : ℕ → List Bound → ℕ → Parser (List Bound × ℕ)
  bounds_from zero xs h = refuse
  bounds_from (suc n) xs h = do
    next ← peek
    if same_kind next k.LeftBracket then (do take_if true; x ← bound leaves types turns depth; expect k.RightBracket; bounds_from n (xs ++ x.0 ∷ []) (max h x.1)) else pure (xs, h)

unfoldable pub stars_from : ℕ → ℕ → Parser ℕ
stars_from zero n = refuse
stars_from (suc turns) n = do
  next ← peek
  if same_kind next k.Star then (take_if true >> stars_from turns (n + 1)) else pure n

-- dcl : "*"* NAME ("[" bound "]")*
unfoldable pub dcl : Leaves → List ℕ → ℕ → ℕ → Parser (Dcl × ℕ)
dcl leaves types turns depth = do
  at ← here
  stars ← stars_from turns 0
  name ← other_name types
  bounds ← bounds_from leaves types turns depth turns [] 0
  pure (record { at = at; stars = stars; name = name_at name; bounds = bounds.0 }, bounds.1)

-- ---- types

abbrev pub sized_base : TypeTree → ℕ → ReadBase
sized_base x h = record { tree = x; height = h; takes_bracket = false }

-- stars behind a base type that begins at that place
unfoldable pub pointers_from : ℕ → Place → ReadBase → Parser ReadBase
pointers_from zero at x = refuse
pointers_from (suc turns) at x = do
  next ← peek
  if same_kind next k.Star then (take_if true >> pointers_from turns at (sized_base (ty.Pointer at x.tree) x.height)) else pure x

-- a part that has to be a type
abbrev pub type_of : SizedPart → Parser SizedType
type_of (part.Type x, h) = pure (x, h)
type_of (part.Bound x, h) = refuse

-- whether a list has one element
abbrev pub is_one : {A : Type 0} → List A → Bool
is_one xs = length xs == 1

abbrev pub part_wanted : Bool → Want
part_wanted true = want.Either
part_wanted false = want.WordType

abbrev pub wanted : Bool → Want
wanted true = want.AnyType
wanted false = want.WordType

module _ (leaves : Leaves) (types : List ℕ) (turns depth : ℕ) (sub : Want → Parser SizedPart) where
  unfoldable pub sub_type : Bool → Parser SizedType
  sub_type bare = sub (wanted bare) >>= type_of

  unfoldable pub types_from : Bool → ℕ → List TypeTree → ℕ → Parser (List TypeTree × ℕ)
  types_from bare zero xs h = refuse
  types_from bare (suc n) xs h = do
    next ← peek
    if same_kind next k.Comma then (do take_if true; x ← sub_type bare; types_from bare n (xs ++ x.0 ∷ []) (max h x.1)) else pure (xs, h)

  -- the arguments behind the first one, "]", and the type
  unfoldable pub arguments_after : Bool → Token → SizedType → Parser ReadBase
  arguments_after bare t x = do
    xs ← types_from bare turns (x.0 ∷ []) x.1
    expect k.RightBracket
    pure (sized_base (ty.Named t.place t.name xs.0) (xs.1 + 1))

  -- the parts behind the first one, of which there is one at least, ")", and the tuple
  unfoldable pub tuple_after : Bool → Place → SizedType → Parser ReadBase
  tuple_after bare at x = do
    xs ← types_from bare turns (x.0 ∷ []) x.1
    if is_one xs.0 then refuse else (expect k.RightParen >> pure (sized_base (ty.Tuple at xs.0) (xs.1 + 1)))

  -- "tuple" "(" atype ("," atype)+ ")"
  unfoldable pub tuple : Bool → Parser ReadBase
  tuple bare = do
    w ← take_if (nat_lt 0 depth)
    expect k.LeftParen
    x ← sub_type bare
    tuple_after bare w.place x

  -- the same without its word
  unfoldable pub bare_tuple : Parser ReadBase
  bare_tuple = do
    o ← take_if (nat_lt 0 depth)
    x ← sub_type true
    tuple_after true o.place x

  unfoldable pub capacity : Place → TypeTree → ℕ → Parser ReadBase
  capacity at x h = do
    next ← peek
    if same_kind next k.LeftBracket then (do take_if true; n ← bound leaves types turns depth; expect k.RightBracket; pure (sized_base (ty.Chan at x (Some n.0)) (max h n.1))) else pure (record { tree = ty.Chan at x None; height = h; takes_bracket = true })

  -- "chan" "(" atype ")" ("[" bound "]")?
  unfoldable pub channel : Parser ReadBase
  channel = do
    w ← take_if (nat_lt 0 depth)
    expect k.LeftParen
    x ← sub_type true
    expect k.RightParen
    capacity w.place x.0 (x.1 + 1)

  abbrev pub unnamed_by : Bool → TokenKind → Option BasicType → Parser ReadBase
  unnamed_by bare kd (Some basic) = take_if true >>= (λ t. pure (sized_base (ty.Basic t.place basic) 0))
  unnamed_by bare kd None = if same_kind kd k.Tuple then tuple bare else (if same_kind kd k.Chan then channel else (if bare && same_kind kd k.LeftParen then bare_tuple else refuse))

  -- a base type that begins with no name
  unfoldable pub unnamed : Bool → Parser ReadBase
  unnamed bare = peek >>= (λ next. unnamed_by bare next (basic_type next))

  -- TNAME targs?
  unfoldable pub named : Bool → Parser ReadBase
  named bare = do
    t ← take_if true
    next ← peek
    if same_kind next k.LeftBracket then (do take_if (nat_lt 0 depth); x ← sub_type bare; arguments_after bare t x) else pure (sized_base (ty.Named t.place t.name []) 0)

  -- a base type
  unfoldable pub base_at : Bool → Parser ReadBase
  base_at bare = looks (sees_type_name types) >>= (λ is. if is then named bare else unnamed bare)

  -- base "*"*
  unfoldable pub starred_at : Bool → Parser SizedType
  starred_at bare = do
    at ← here
    x ← base_at bare
    y ← pointers_from turns at x
    pure (y.tree, y.height)

  -- stars and bounds behind a base type that begins at that place
  unfoldable pub type_after : Place → ReadBase → Parser SizedType
  type_after at x = do
    y ← pointers_from turns at x
    if y.takes_bracket then pure (y.tree, y.height) else (bounds_from leaves types turns depth turns [] 0 >>= (λ ns. pure (arrays at ns.0 y.tree, max y.height ns.1)))

  -- "]" behind a bound, and more bounds
  unfoldable pub array_of : Token → SizedBound → Parser SizedType
  array_of t n = do
    expect k.RightBracket
    ns ← bounds_from leaves types turns depth turns (n.0 ∷ []) n.1
    pure (arrays t.place ns.0 (ty.Named t.place t.name []), ns.1)

  -- the type of that name with what stands in brackets behind it
  abbrev pub bracketed : Bool → Token → SizedPart → Parser SizedType
  bracketed bare t (part.Type x, h) = arguments_after bare t (x, h) >>= type_after t.place
  bracketed bare t (part.Bound x, h) = array_of t (x, h)

  -- the same, where a type may begin
  unfoldable pub bracket_part : Bool → Token → Parser SizedType
  bracket_part bare t = sub (part_wanted bare) >>= bracketed bare t

  -- the type of that name behind the bracket that opens: a bound, or types with one level less
  unfoldable pub bracket : Bool → Token → Parser SizedType
  bracket bare t = do
    begins ← looks (begins_part types bare)
    if begins then (if nat_lt 0 depth then bracket_part bare t else (take_if false >> refuse)) else (bound leaves types turns depth >>= array_of t)

  -- a type that begins with a type's name
  unfoldable pub named_type : Bool → Parser SizedType
  named_type bare = do
    t ← take_if true
    next ← peek
    if same_kind next k.LeftBracket then (take_if true >> bracket bare t) else type_after t.place (sized_base (ty.Named t.place t.name []) 0)

  -- atype
  unfoldable pub type_at : Bool → Parser SizedType
  type_at bare = looks (sees_type_name types) >>= (λ is. if is then named_type bare else (here >>= (λ at. unnamed bare >>= type_after at)))

  -- what goes on behind a first part in parentheses
  unfoldable pub closed_bound : Place → SizedBound → Parser SizedPart
  closed_bound at x = do
    expect k.RightParen
    y ← bound_after leaves types turns (depth + 1) (bound_below leaves types turns (depth + 1)) at (x.0, x.1 + 1)
    pure (part.Bound y.0, y.1)

  unfoldable pub closed_type : Place → SizedType → Parser SizedPart
  closed_type at x = do
    y ← tuple_after true at x
    z ← type_after at y
    pure (part.Type z.0, z.1)

  abbrev pub parenthesised : Place → SizedPart → Parser SizedPart
  parenthesised at (part.Type x, h) = closed_type at (x, h)
  parenthesised at (part.Bound x, h) = closed_bound at (x, h)

  -- what stands behind a parenthesis that opens
  unfoldable pub parenthesis : Place → Parser SizedPart
  parenthesis at = do
    begins ← looks (begins_part types true)
    if begins then (if nat_lt 0 depth then (sub want.Either >>= parenthesised at) else (take_if false >> refuse)) else (bound leaves types turns depth >>= closed_bound at)

  -- a type of at most `depth` levels, or a bound that has one more
  unfoldable pub either_at : Parser SizedPart
  either_at = do
    is_type ← looks (sees_type types)
    next ← peek
    if is_type then (type_at true >>= (λ x. pure (part.Type x.0, x.1))) else (if same_kind next k.LeftParen then (take_if true >>= (λ o. parenthesis o.place)) else (bound leaves types turns (depth + 1) >>= (λ x. pure (part.Bound x.0, x.1))))

  abbrev pub at_want : Want → Parser SizedPart
  at_want want.AnyType = type_at true >>= (λ x. pure (part.Type x.0, x.1))
  at_want want.WordType = type_at false >>= (λ x. pure (part.Type x.0, x.1))
  at_want want.Either = either_at

-- what is wanted, with less than that many levels
unfoldable pub below : Leaves → List ℕ → ℕ → ℕ → Want → Parser SizedPart
below leaves types turns zero = λ w ts. Err (Deep 0)
below leaves types turns (suc depth) = at_want leaves types turns depth (below leaves types turns depth)
