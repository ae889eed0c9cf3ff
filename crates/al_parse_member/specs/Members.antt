-- The parser of members, constants and initializers, on lists of tokens.
--
-- Loops make at most `turns` turns. A member has at most `depth + 1` levels; what stands in it has at most `depth`.
use Rattle.std.specs.Prelude.{ℕ, zero, suc, pred, ◌+◌, max, nat_lt, Bool, true, ◌||◌, ◌&&◌, if◌then◌else◌, List, [], ◌∷◌, ◌++◌, Option, Some, None, is_some, Err}
use Rattle.al_base.specs.declared.place.Place.{Place}
use Rattle.al_lex.specs.declared.kind.TokenKind.TheVariants as k
use Rattle.al_lex.specs.declared.token.Token.{Token}
use Rattle.al_tree.specs.Words.{member_scope, plain_aggregate}
use Rattle.al_tree.specs.Types.{Leaves, name_at}
use Rattle.al_tree.specs.Reading.{Parser, ◌>>=◌, ◌>>◌, pure, refuse, kind, same_kind, looks, peek, here, take_if, expect_if, expect}
use Rattle.al_tree.specs.declared.cursor.ParseError.TheVariants.{Deep}
use Rattle.al_tree.specs.declared.type_tree.Dcl.{Dcl}
use Rattle.al_tree.specs.declared.item.Scope.{Scope}
use Rattle.al_tree.specs.declared.item.AggregateKind.{AggregateKind}
use Rattle.al_tree.specs.declared.item.Initializer.{Initializer}
use Rattle.al_tree.specs.declared.item.Initializer.TheVariants as ini
use Rattle.al_tree.specs.declared.item.Member.{Member}
use Rattle.al_tree.specs.declared.item.Member.TheVariants as mem
use Rattle.al_tree.specs.declared.item.AdtPart.{AdtPart}
use Rattle.al_tree.specs.declared.item.AdtPart.TheVariants as apart
use Rattle.al_tree.specs.declared.item.AdtMember.{AdtMember}
use Rattle.al_tree.specs.declared.item.Constant.{Constant}
use Rattle.al_parse_type.specs.declared.part.ReadBase.{ReadBase}
use Rattle.al_parse_type.specs.Parse.{sees_type, sees_type_name, other_name, bounds_from, stars_from, dcl}
use Rattle.al_parse_type.specs.Within.{base_within}
use Rattle.al_parse_expr.specs.Within.{assignment_within}
use Rattle.al_parse_member.specs.Parameters.{parameter_list}

abbrev pub SizedDcl : Type 0
SizedDcl = Dcl × ℕ

abbrev pub SizedMember : Type 0
SizedMember = Member × ℕ

abbrev pub Members : Type 0
Members = List Member × ℕ

abbrev pub SizedPart : Type 0
SizedPart = AdtPart × ℕ

abbrev pub SizedAdtMember : Type 0
SizedAdtMember = AdtMember × ℕ

abbrev pub AdtMembers : Type 0
AdtMembers = List AdtMember × ℕ

abbrev pub Constants : Type 0
Constants = List Constant × ℕ

abbrev pub SizedInitializer : Type 0
SizedInitializer = Initializer × ℕ

-- whether a member begins with the next token
unfoldable pub begins_member : List ℕ → List Token → Bool
begins_member types ts = sees_type types ts || (same_kind (kind ts) k.LeftParen || is_some (plain_aggregate (kind ts)))

-- whether a member of an adt does
unfoldable pub begins_adt_member : List ℕ → List Token → Bool
begins_adt_member types ts = begins_member types ts || is_some (member_scope (kind ts))

module _ (leaves : Leaves) (types : List ℕ) (turns depth : ℕ) where
  -- ---- declarators of members

  unfoldable pub dcls_from : ℕ → List Dcl → ℕ → Parser (List Dcl × ℕ)
  dcls_from zero xs h = refuse
  dcls_from (suc n) xs h = do
    next ← peek
    if same_kind next k.Comma then (do take_if true; x ← dcl leaves types turns depth; dcls_from n (xs ++ x.0 ∷ []) (max h x.1)) else pure (xs, h)

  -- the declarators behind the first one, and ";"
  unfoldable pub fields_after : Place → ReadBase → SizedDcl → Parser SizedMember
  fields_after at b x = do
    xs ← dcls_from turns (x.0 ∷ []) x.1
    expect k.Semicolon
    pure (mem.Fields at b.tree xs.0, max b.height xs.1 + 1)

  -- ---- constants of enums

  unfoldable pub constant : Parser (Constant × ℕ)
  constant = do
    n ← other_name types
    next ← peek
    if same_kind next k.Equal then (do take_if (nat_lt 0 depth); x ← assignment_within leaves types turns depth; pure (record { name = name_at n; value = Some x.0 }, x.1)) else pure (record { name = name_at n; value = None }, 0)

  abbrev pub constant_behind : (List Constant → ℕ → Parser Constants) → List Constant → ℕ → Parser Constants
  constant_behind go xs h = do
    comma ← peek
    if same_kind comma k.Comma then (do take_if true; next ← peek; if same_kind next k.RightBrace then (take_if true >> pure (xs, h)) else go xs h) else (expect k.RightBrace >> pure (xs, h))

  -- en ("," en)* ","? "}", behind those that were found
  unfoldable pub constants_from : ℕ → List Constant → ℕ → Parser Constants
  constants_from zero xs h = refuse
  constants_from (suc n) xs h = do
    x ← constant
    constant_behind (constants_from n) (xs ++ x.0 ∷ []) (max h x.1)

  -- "{" en ("," en)* ","? "}"
  unfoldable pub enum_body : Parser Constants
  enum_body = expect k.LeftBrace >> constants_from turns [] 0

-- ---- initializers, by levels

module _ (leaves : Leaves) (types : List ℕ) (turns depth : ℕ) (sub : Parser SizedInitializer) where
  abbrev pub part_behind : (List Initializer → ℕ → Parser (List Initializer × ℕ)) → List Initializer → ℕ → Parser (List Initializer × ℕ)
  part_behind go xs h = do
    comma ← peek
    if same_kind comma k.Comma then (do take_if true; next ← peek; if same_kind next k.RightBrace then (take_if true >> pure (xs, h)) else go xs h) else (expect k.RightBrace >> pure (xs, h))

  -- init ("," init)* ","? "}", behind those that were found
  unfoldable pub parts_from : ℕ → List Initializer → ℕ → Parser (List Initializer × ℕ)
  parts_from zero xs h = refuse
  parts_from (suc n) xs h = do
    x ← sub
    part_behind (parts_from n) (xs ++ x.0 ∷ []) (max h x.1)

  unfoldable pub braces : Parser SizedInitializer
  braces = do
    o ← take_if (nat_lt 1 depth)
    xs ← parts_from turns [] 0
    pure (ini.Braces o.place xs.0, xs.1 + 1)

  unfoldable pub initializer_at : Parser SizedInitializer
  initializer_at = do
    next ← peek
    if same_kind next k.LeftBrace then braces else (assignment_within leaves types turns depth >>= (λ x. pure (ini.Value x.0, x.1)))

-- an initializer of at most that many levels: one in braces has two at least, and an expression has one
unfoldable pub initializer : Leaves → List ℕ → ℕ → ℕ → Parser SizedInitializer
initializer leaves types turns zero = initializer_at leaves types turns zero refuse
initializer leaves types turns (suc depth) = initializer_at leaves types turns (suc depth) (initializer leaves types turns depth)

-- ---- members, by levels

module _ (leaves : Leaves) (types : List ℕ) (turns depth : ℕ) (sub : Parser SizedMember) where
  unfoldable pub members_from : ℕ → List Member → ℕ → Parser Members
  members_from zero xs h = refuse
  members_from (suc n) xs h = do
    begins ← looks (begins_member types)
    if begins then (do x ← sub; members_from n (xs ++ x.0 ∷ []) (max h x.1)) else pure (xs, h)

  -- the members behind the first one, and "}"
  abbrev pub members_after : SizedMember → Parser Members
  members_after x = do
    xs ← members_from turns (x.0 ∷ []) x.1
    expect k.RightBrace
    pure xs

  -- "{" member+ "}", which fits where a level is left
  unfoldable pub members : Parser Members
  members = do
    expect_if (nat_lt 0 depth) k.LeftBrace
    x ← sub
    members_after x

  -- ("aggr"|"union") "{" member+ "}" ";"
  unfoldable pub inner : AggregateKind → Parser SizedMember
  inner kd = do
    w ← take_if (nat_lt 0 depth)
    xs ← members
    expect k.Semicolon
    pure (mem.Inner w.place kd xs.0, xs.1 + 1)

  -- behind a base type: a semicolon where it begins with a name, or declarators
  unfoldable pub member_after : Bool → Place → ReadBase → Parser SizedMember
  member_after is_name at b = do
    next ← peek
    if is_name && same_kind next k.Semicolon then (take_if true >> pure (mem.Unnamed at b.tree, b.height + 1)) else (dcl leaves types turns depth >>= fields_after leaves types turns depth at b)

  unfoldable pub based_member : Parser SizedMember
  based_member = do
    at ← here
    is_name ← looks (sees_type_name types)
    b ← base_within leaves types turns depth
    member_after is_name at b

  abbrev pub member_by : Option AggregateKind → Parser SizedMember
  member_by (Some kd) = inner kd
  member_by None = based_member

  unfoldable pub member_at : Parser SizedMember
  member_at = peek >>= (λ next. member_by (plain_aggregate next))

  -- ---- members of an adt: the same, or functions, with a word before them or none

  -- a function's parameters behind its name and the parenthesis
  unfoldable pub function_part : ReadBase → ℕ → Token → Parser SizedPart
  function_part b stars n = do
    take_if true
    ps ← parameter_list leaves types turns depth
    expect k.Semicolon
    pure (apart.Function b.tree stars (name_at n) ps.0, max b.height ps.1 + 1)

  -- bounds behind the first declarator's name, and more declarators
  unfoldable pub data_part : Place → ReadBase → Place → ℕ → Token → Parser SizedPart
  data_part at b begin stars n = do
    bs ← bounds_from leaves types turns depth turns [] 0
    x ← fields_after leaves types turns depth at b (record { at = begin; stars = stars; name = name_at n; bounds = bs.0 }, bs.1)
    pure (apart.Data x.0, x.1)

  -- stars and a name, and then what a function or a declarator goes on with
  unfoldable pub declared_part : Place → ReadBase → Parser SizedPart
  declared_part at b = do
    begin ← here
    stars ← stars_from turns 0
    n ← other_name types
    next ← peek
    if same_kind next k.LeftParen then function_part b stars n else data_part at b begin stars n

  unfoldable pub part_after : Bool → Place → ReadBase → Parser SizedPart
  part_after is_name at b = do
    next ← peek
    if is_name && same_kind next k.Semicolon then (take_if true >> pure (apart.Data (mem.Unnamed at b.tree), b.height + 1)) else declared_part at b

  unfoldable pub based_part : Parser SizedPart
  based_part = do
    at ← here
    is_name ← looks (sees_type_name types)
    b ← base_within leaves types turns depth
    part_after is_name at b

  abbrev pub adt_part_by : Option AggregateKind → Parser SizedPart
  adt_part_by (Some kd) = inner kd >>= (λ x. pure (apart.Data x.0, x.1))
  adt_part_by None = based_part

  unfoldable pub adt_part : Parser SizedPart
  adt_part = peek >>= (λ next. adt_part_by (plain_aggregate next))

  -- with that word before it
  unfoldable pub marked : Scope → Parser SizedAdtMember
  marked word = do
    w ← take_if true
    x ← adt_part
    pure (record { at = w.place; scope = Some word; part = x.0 }, x.1)

  unfoldable pub unmarked : Parser SizedAdtMember
  unmarked = do
    at ← here
    x ← adt_part
    pure (record { at = at; scope = None; part = x.0 }, x.1)

  abbrev pub adt_member_by : Option Scope → Parser SizedAdtMember
  adt_member_by (Some word) = marked word
  adt_member_by None = unmarked

  unfoldable pub adt_member : Parser SizedAdtMember
  adt_member = peek >>= (λ next. adt_member_by (member_scope next))

  unfoldable pub adt_members_from : ℕ → List AdtMember → ℕ → Parser AdtMembers
  adt_members_from zero xs h = refuse
  adt_members_from (suc n) xs h = do
    begins ← looks (begins_adt_member types)
    if begins then (do x ← adt_member; adt_members_from n (xs ++ x.0 ∷ []) (max h x.1)) else pure (xs, h)

  -- the members behind the first one, and "}"
  abbrev pub adt_members_after : SizedAdtMember → Parser AdtMembers
  adt_members_after x = do
    xs ← adt_members_from turns (x.0 ∷ []) x.1
    expect k.RightBrace
    pure xs

  -- amember+ "}"
  unfoldable pub adt_members : Parser AdtMembers
  adt_members = do
    x ← adt_member
    adt_members_after x

-- a member of at most that many levels
unfoldable pub member : Leaves → List ℕ → ℕ → ℕ → Parser SizedMember
member leaves types turns zero = λ ts. Err (Deep 0)
member leaves types turns (suc depth) = member_at leaves types turns depth (member leaves types turns depth)

-- "{" member+ "}", with members of at most that many levels
abbrev pub members_within : Leaves → List ℕ → ℕ → ℕ → Parser Members
members_within leaves types turns depth = members leaves types turns depth (member leaves types turns depth)

-- "{" amember+ "}", with members of at most that many levels
unfoldable pub adt_body : Leaves → List ℕ → ℕ → ℕ → Parser AdtMembers
adt_body leaves types turns depth = expect_if (nat_lt 0 depth) k.LeftBrace >> adt_members leaves types turns (pred depth) (member leaves types turns (pred depth))
