-- The parser of items and of whole texts, on lists of tokens.
--
-- Loops make at most `turns` turns. An item has at most `depth + 1` levels; what stands in it has at most `depth`.
use Rattle.std.specs.Prelude.{ℕ, zero, suc, ◌+◌, ◌-◌, ◌==◌, max, nat_lt, Bool, true, false, if◌then◌else◌, List, [], ◌∷◌, ◌++◌, length, map, Option, Some, None, Ok, Err}
use Rattle.al_base.specs.declared.place.Place.{Place}
use Rattle.al_lex.specs.declared.kind.TokenKind.{TokenKind}
use Rattle.al_lex.specs.declared.kind.TokenKind.TheVariants as k
use Rattle.al_lex.specs.declared.token.Token.{Token}
use Rattle.al_tree.specs.Words.{scope_word}
use Rattle.al_tree.specs.Types.{Leaves, with_name, with_names, name_at}
use Rattle.al_tree.specs.Items.{Declared, nothing_declared, with_type, body_types, number_of}
use Rattle.al_tree.specs.Reading.{Outcome, Parser, ◌>>=◌, ◌>>◌, pure, refuse, same_kind, looks, peek, here, take_if, expect}
use Rattle.al_tree.specs.declared.cursor.ParseError.{ParseError}
use Rattle.al_tree.specs.declared.cursor.ParseError.TheVariants.{Stuck, Deep}
use Rattle.al_tree.specs.declared.expression.Name.{Name}
use Rattle.al_tree.specs.declared.item.Scope.{Scope}
use Rattle.al_tree.specs.declared.item.AggregateKind.{AggregateKind}
use Rattle.al_tree.specs.declared.item.AggregateKind.TheVariants as ag
use Rattle.al_tree.specs.declared.item.Head.{Head}
use Rattle.al_tree.specs.declared.item.Declarator.{Declarator}
use Rattle.al_tree.specs.declared.item.Declarator.TheVariants as dec
use Rattle.al_tree.specs.declared.item.Item.{Item}
use Rattle.al_tree.specs.declared.item.Item.TheVariants as item
use Rattle.al_parse_type.specs.declared.part.ReadBase.{ReadBase}
use Rattle.al_parse_type.specs.Parse.{sees_other_name, other_name, bounds_from, stars_from}
use Rattle.al_parse_type.specs.Within.{base_within}
use Rattle.al_parse_block.specs.Parse.{block_within}
use Rattle.al_parse_member.specs.Parameters.{Parameters, parameter_list}
use Rattle.al_parse_member.specs.Members.{enum_body, members_within, adt_body}
use Rattle.al_parse_stmt.specs.Heads.{SizedDeclarator, new_names_from, declarator_after, declarators_from}
use Rattle.al_parse_stmt.specs.Ahead.{owner_of}
use Rattle.al_parse_stmt.specs.Begun.{Begun, fault_at, begun_as, deeper_as, up_to, least, any_alive}

-- an item, what is declared behind it, and its height
pub record ReadItem : Type 0 where
  pub item : Item
  pub after : Declared
  pub height : ℕ

-- ";"?
unfoldable pub semicolon : Parser ℕ
semicolon = do
  next ← peek
  if same_kind next k.Semicolon then (take_if true >> pure 0) else pure 0

abbrev pub at_end : List Token → Bool
at_end [] = true
at_end (t ∷ ts) = false

abbrev pub built : Declared → ℕ → Item → ReadItem
built after h x = record { item = x; after = after; height = h + 1 }

-- whether one token that there is is refused
abbrev pub refuses : Outcome ReadItem → Bool
refuses (Err (Stuck (suc n))) = true
refuses o = false

-- the fault at a token behind the name of a declaration, which is refused there or goes too deep
abbrev pub fault_behind : ℕ → Bool → ParseError
fault_behind left true = Stuck left
fault_behind left false = Deep (left - 1)

-- NAME ("," NAME)* "]", behind the bracket
unfoldable pub new_names : ℕ → List ℕ → Parser (List Name)
new_names turns types = do
  first ← other_name types
  names ← new_names_from types turns (name_at first ∷ [])
  expect k.RightBracket
  pure names

-- the members of an adt with these parameters, whose name is declared
unfoldable pub parametrised_body : Leaves → ℕ → ℕ → Declared → Place → Token → List Name → Parser ReadItem
parametrised_body leaves turns depth d at n names = do
  xs ← adt_body leaves (with_names d.types (map number_of names)) turns depth
  semicolon
  pure (built (record { types = d.types; adts = record { adt = n.name; parameters = map number_of names } ∷ d.adts }) xs.1 (item.Adt at (name_at n) names xs.0))

module _ (leaves : Leaves) (turns depth : ℕ) (d : Declared) where
  -- ---- typedef

  -- the parameters of a function type, and the semicolon
  unfoldable pub typed_parameters : Parser Parameters
  typed_parameters = do
    take_if true
    ps ← parameter_list leaves d.types turns depth
    expect k.Semicolon
    pure ps

  unfoldable pub function_type : Place → ReadBase → ℕ → Token → Parser ReadItem
  function_type at b stars n = do
    ps ← typed_parameters
    pure (built (with_type n.name d) (max b.height ps.1) (item.FunctionType at b.tree stars (name_at n) ps.0))

  -- bounds and the semicolon, behind a declarator's name; the declarator begins at the second place
  unfoldable pub defined : Place → ReadBase → Place → ℕ → Token → Parser ReadItem
  defined at b begin stars n = do
    bs ← bounds_from leaves d.types turns depth turns [] 0
    expect k.Semicolon
    pure (built (with_type n.name d) (max b.height bs.1) (item.Typedef at b.tree (record { at = begin; stars = stars; name = name_at n; bounds = bs.0 })))

  -- stars and a name, and what goes on behind them
  unfoldable pub defined_after : Place → ReadBase → Parser ReadItem
  defined_after at b = do
    begin ← here
    stars ← stars_from turns 0
    n ← other_name d.types
    next ← peek
    if same_kind next k.LeftParen then function_type at b stars n else defined at b begin stars n

  unfoldable pub typedef : Parser ReadItem
  typedef = do
    w ← take_if true
    b ← base_within leaves d.types turns depth
    defined_after w.place b

  -- ---- aggr, union and adt

  unfoldable pub forward : AggregateKind → Place → Token → Parser ReadItem
  forward kd at n = do
    take_if true
    pure (built (with_type n.name d) 0 (item.Forward at kd (name_at n)))

  unfoldable pub plain_of : AggregateKind → Place → Token → Parser ReadItem
  plain_of kd at n = do
    xs ← members_within leaves (with_name d.types n.name) turns depth
    semicolon
    pure (built (with_type n.name d) xs.1 (item.Aggregate at kd (name_at n) xs.0))

  unfoldable pub adt_of : Place → Token → Parser ReadItem
  adt_of at n = do
    xs ← adt_body leaves (with_name d.types n.name) turns depth
    semicolon
    pure (built (with_type n.name d) xs.1 (item.Adt at (name_at n) [] xs.0))

  unfoldable pub parametrised_of : Place → Token → Parser ReadItem
  parametrised_of at n = do
    take_if (nat_lt 0 depth)
    names ← new_names turns (with_name d.types n.name)
    parametrised_body leaves turns depth (with_type n.name d) at n names

  unfoldable pub bodied : AggregateKind → Place → Token → Parser ReadItem
  bodied ag.Adt at n = do
    next ← peek
    if same_kind next k.LeftBracket then parametrised_of at n else adt_of at n
  bodied kd at n = plain_of kd at n

  unfoldable pub aggregated : AggregateKind → Parser ReadItem
  aggregated kd = do
    w ← take_if true
    n ← expect k.Name
    next ← peek
    if same_kind next k.Semicolon then forward kd w.place n else bodied kd w.place n

  -- ---- enum

  unfoldable pub named_enum : Place → Parser ReadItem
  named_enum at = do
    n ← take_if true
    xs ← enum_body leaves (with_name d.types n.name) turns depth
    semicolon
    pure (built (with_type n.name d) xs.1 (item.Enum at (Some (name_at n)) xs.0))

  unfoldable pub unnamed_enum : Place → Parser ReadItem
  unnamed_enum at = do
    xs ← enum_body leaves d.types turns depth
    semicolon
    pure (built d xs.1 (item.Enum at None xs.0))

  unfoldable pub enumerated : Parser ReadItem
  enumerated = do
    w ← take_if true
    is_name ← looks (sees_other_name d.types)
    if is_name then named_enum w.place else unnamed_enum w.place

  -- ---- declarations and functions

  -- more declarators and the semicolon, behind the first one
  unfoldable pub declared_more : Place → Option Scope → ReadBase → SizedDeclarator → Parser ReadItem
  declared_more at scope b x = do
    xs ← declarators_from leaves turns depth d turns (x.0 ∷ []) x.1
    expect k.Semicolon
    pure (built d (max b.height xs.1) (item.Declare at scope b.tree xs.0))

  unfoldable pub with_body : Place → Option Scope → ReadBase → ℕ → Head → Parser ReadItem
  with_body at scope b h head = do
    body ← block_within leaves (body_types leaves d head.owner) turns depth
    pure (built d (max b.height (max h body.1)) (item.Function at scope b.tree head body.0))

  -- only a function has a body
  abbrev pub behind_first : Place → Option Scope → ReadBase → Declarator → ℕ → Parser ReadItem
  behind_first at scope b (dec.Function head) h = do
    next ← peek
    if same_kind next k.LeftBrace then (if nat_lt 0 depth then with_body at scope b h head else (take_if false >> refuse)) else declared_more at scope b (dec.Function head, h)
  behind_first at scope b (dec.Global x y) h = declared_more at scope b (dec.Global x y, h)

  -- behind the base type and the name of the first declarator
  unfoldable pub behind_begun : Place → Option Scope → Begun → Parser ReadItem
  behind_begun at scope y = do
    x ← declarator_after leaves turns depth d y.1
    behind_first at scope y.0 x.0 x.1

  -- by the tokens from that one on to the end of the first ones of all
  abbrev pub decided_at : Place → Option Scope → (all first : List Token) → Begun → List Token → Option ParseError
  decided_at at scope all first y [] = None
  decided_at at scope all first y (t ∷ rest) = Some (fault_behind (length all - (length first - length (t ∷ rest))) (refuses (behind_begun at scope y (t ∷ []))))

  abbrev pub decided_by : Place → Option Scope → (all first : List Token) → Outcome Begun → Option ParseError
  decided_by at scope all first (Ok x) = decided_at at scope all first x.0 x.1
  decided_by at scope all first (Err e) = None

  -- the fault of the way that the brackets tell, where it goes too deep before the token that leaves so many and is read with more levels
  abbrev pub decided : Place → Option Scope → (all first : List Token) → ℕ → ParseError → Outcome Begun → Option ParseError
  decided at scope all first left (Deep m) deeper = if m + 1 == left then None else decided_by at scope all first deeper
  decided at scope all first left e deeper = None

  abbrev pub or_at : ℕ → Bool → Option ParseError → ParseError
  or_at left alive (Some e) = e
  or_at left alive None = fault_at left alive

  unfoldable pub fault_with : Place → Option Scope → List Token → Option ℕ → ParseError → ℕ → ParseError
  fault_with at scope ts owner e left = or_at left (any_alive leaves turns depth d ts left) (decided at scope ts (up_to left ts) left e (deeper_as leaves turns d owner (up_to left ts)))

  abbrev pub declared_by : Place → Option Scope → List Token → Option ℕ → Outcome Begun → Outcome ReadItem
  declared_by at scope ts owner (Ok x) = behind_begun at scope x.0 x.1
  declared_by at scope ts owner (Err e) = Err (fault_with at scope ts owner e (least leaves turns depth d ts e))

  -- behind the word before it or none, in the way that the brackets tell
  unfoldable pub declared : Place → Option Scope → Parser ReadItem
  declared at scope ts = declared_by at scope ts (owner_of d turns ts) (begun_as leaves turns depth d (owner_of d turns ts) ts)

  unfoldable pub scoped : Scope → Parser ReadItem
  scoped word = do
    w ← take_if true
    declared w.place (Some word)

  unfoldable pub unscoped : Parser ReadItem
  unscoped = do
    at ← here
    declared at None

  abbrev pub scoped_by : Option Scope → Parser ReadItem
  scoped_by (Some word) = scoped word
  scoped_by None = unscoped

  abbrev pub item_by : TokenKind → Parser ReadItem
  item_by k.Typedef = typedef
  item_by k.Enum = enumerated
  item_by k.Aggr = aggregated ag.Aggr
  item_by k.Union = aggregated ag.Union
  item_by k.Adt = aggregated ag.Adt
  item_by next = scoped_by (scope_word next)

  unfoldable pub one_item : Parser ReadItem
  one_item = peek >>= item_by

-- item*, up to the end of the text: what is declared grows from each item to the next
unfoldable pub items_from : Leaves → ℕ → ℕ → ℕ → Declared → List Item → ℕ → Parser (List Item × ℕ)
items_from leaves turns depth zero d xs h = refuse
items_from leaves turns depth (suc n) d xs h = do
  is_end ← looks at_end
  if is_end then pure (xs, h) else (do x ← one_item leaves turns depth d; items_from leaves turns depth n x.after (xs ++ x.item ∷ []) (max h x.height))

-- the items of a text, of at most that many levels
unfoldable pub text_items : Leaves → ℕ → ℕ → Parser (List Item × ℕ)
text_items leaves turns depth = items_from leaves turns depth turns nothing_declared [] 0
