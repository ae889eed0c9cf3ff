-- The parser of expressions, on lists of tokens.
--
-- Loops make at most `turns` turns. An expression has at most `depth + 1` levels; what stands inside it has at most
-- `depth`, and is parsed by `sub`. A token is too deep where each tree that begins with the tokens up to it is too high.
use Rattle.std.specs.Prelude.{ℕ, zero, suc, ◌+◌, ◌==◌, max, nat_lt, nat_le, Bool, true, false, ◌||◌, if◌then◌else◌, List, [], ◌∷◌, ◌++◌, Option, Some, None, is_some}
use Rattle.al_base.specs.declared.place.Place.{Place}
use Rattle.al_lex.specs.declared.kind.TokenKind.{TokenKind}
use Rattle.al_lex.specs.declared.kind.TokenKind.TheVariants as k
use Rattle.al_lex.specs.declared.token.Token.{Token}
use Rattle.al_tree.specs.Words.{prefix_operator, postfix_operator, access, operator, assign_operator}
use Rattle.al_tree.specs.Types.{Leaves, name_at}
use Rattle.al_tree.specs.Expressions.{loosest}
use Rattle.al_tree.specs.Reading.{Parser, ◌>>=◌, ◌>>◌, pure, refuse, kind, same_kind, looks, peek, here, take_if, expect}
use Rattle.al_tree.specs.declared.expression.UnaryOp.{UnaryOp}
use Rattle.al_tree.specs.declared.expression.PostfixOp.{PostfixOp}
use Rattle.al_tree.specs.declared.expression.BinaryOp.{BinaryOp}
use Rattle.al_tree.specs.declared.expression.AssignOp.{AssignOp}
use Rattle.al_tree.specs.declared.expression.Access.{Access}
use Rattle.al_tree.specs.declared.expression.Expr.{Expr}
use Rattle.al_tree.specs.declared.expression.Expr.TheVariants as e
use Rattle.al_parse_type.specs.Parse.{sees_type, sees_other_name, other_name}
use Rattle.al_parse_type.specs.Within.{starred_within}
use Rattle.al_parse_expr.specs.declared.operand.Operand.{Operand}
use Rattle.al_parse_expr.specs.declared.operand.Want.{Want}
use Rattle.al_parse_expr.specs.declared.operand.Want.TheVariants as want

-- a tree and its height
abbrev pub Sized : Type 0
Sized = Expr × ℕ

-- trees, and the height of the highest
abbrev pub Listed : Type 0
Listed = List Expr × ℕ

-- what is no name: it has one height, called or not
abbrev pub operand : Expr → ℕ → Operand
operand x h = record { tree = x; height = h; called = h }

-- one expression in parentheses, or a tuple of more
abbrev pub closed : Place → Listed → Sized
closed at (x ∷ [], h) = (x, h + 1)
closed at (xs, h) = (e.Tuple at xs, h + 1)

-- whether an expression may begin with the next token
unfoldable pub begins_value : List ℕ → List Token → Bool
begins_value types ts =
    same_kind (kind ts) k.Number || (same_kind (kind ts) k.Char || (same_kind (kind ts) k.Text || (same_kind (kind ts) k.Nil
    || (same_kind (kind ts) k.LeftParen || (same_kind (kind ts) k.Sizeof || (is_some (prefix_operator (kind ts)) || sees_other_name types ts))))))

-- where an expression has no level left: the token that it may begin with goes too deep
unfoldable pub no_room : List ℕ → Parser Sized
no_room types = looks (begins_value types) >>= (λ begins. if begins then (take_if false >> refuse) else refuse)

module _ (leaves : Leaves) (types : List ℕ) (turns depth : ℕ) (sub : Want → Parser Sized) where
  -- ---- lists with commas

  unfoldable pub more_from : ℕ → List Expr → ℕ → Parser Listed
  more_from zero xs h = refuse
  more_from (suc n) xs h = do
    next ← peek
    if same_kind next k.Comma then (do take_if true; x ← sub want.Assignment; more_from n (xs ++ x.0 ∷ []) (max h x.1)) else pure (xs, h)

  unfoldable pub listed : Parser Listed
  listed = do
    x ← sub want.Assignment
    more_from turns (x.0 ∷ []) x.1

  -- ---- what is read whole by its first token

  abbrev pub prim_by : TokenKind → Parser Operand
  prim_by k.Number = take_if true >>= (λ t. pure (operand (e.Number t.place (leaves.number t)) 1))
  prim_by k.Char = take_if true >>= (λ t. pure (operand (e.Char t.place (leaves.byte t)) 1))
  prim_by k.Text = take_if true >>= (λ t. pure (operand (e.Text t.place (leaves.bytes t)) 1))
  prim_by k.Nil = take_if true >>= (λ t. pure (operand (e.Nil t.place) 1))
  prim_by k.Name = other_name types >>= (λ t. pure (record { tree = e.Name t.place t.name; height = 1; called = 0 }))
  prim_by _ = refuse

  unfoldable pub prim : Parser Operand
  prim = peek >>= prim_by

  -- ---- what stands behind an operand x, which begins at that place

  unfoldable pub index : Place → Operand → Parser Operand
  index at x = do
    take_if (nat_le x.height depth)
    y ← sub want.Expression
    expect k.RightBracket
    pure (operand (e.Index at x.tree y.0) (max x.height y.1 + 1))

  unfoldable pub member : Place → Access → Operand → Parser Operand
  member at by x = do
    take_if (nat_le x.height depth)
    n ← other_name types
    pure (record { tree = e.Member at x.tree by (name_at n); height = x.height + 1; called = x.height })

  unfoldable pub arguments : Parser Listed
  arguments = do
    next ← peek
    if same_kind next k.RightParen then pure ([], 0) else listed

  unfoldable pub call : Place → Operand → Parser Operand
  call at x = do
    take_if (nat_le x.called depth)
    ys ← arguments
    expect k.RightParen
    pure (operand (e.Call at x.tree ys.0) (max x.called ys.1 + 1))

  unfoldable pub postfix : Place → PostfixOp → Operand → Parser Operand
  postfix at op x = do
    take_if (nat_le x.height depth)
    pure (operand (e.Postfix at op x.tree) (x.height + 1))

  abbrev pub post_by : (Operand → Parser Sized) → Place → Operand → TokenKind → Option Access → Option PostfixOp → Parser Sized
  post_by go at x _ (Some by) op = member at by x >>= go
  post_by go at x _ None (Some op) = postfix at op x >>= go
  post_by go at x next None None = if same_kind next k.LeftBracket then index at x >>= go else (if same_kind next k.LeftParen then call at x >>= go else pure (x.tree, x.height))

  unfoldable pub post_from : ℕ → Place → Operand → Parser Sized
  post_from zero at x = refuse
  post_from (suc n) at x = peek >>= (λ next. post_by (post_from n at) at x next (access next) (postfix_operator next))

  unfoldable pub post : Parser Sized
  post = do
    at ← here
    x ← prim
    post_from turns at x

  -- ---- unary expressions

  -- what stands behind that parenthesis, where it is no cast
  unfoldable pub opened : Token → Parser Sized
  opened o = do
    xs ← listed
    expect k.RightParen
    post_from turns o.place (operand (closed o.place xs).0 (closed o.place xs).1)

  unfoldable pub cast : Place → Parser Sized
  cast at = do
    x ← starred_within leaves types turns depth
    expect k.RightParen
    y ← sub (want.Binary 0)
    pure (e.Cast at x.0 y.0, max x.1 y.1 + 1)

  unfoldable pub parenthesis : Parser Sized
  parenthesis = do
    o ← take_if (nat_lt 0 depth)
    is_cast ← looks (sees_type types)
    if is_cast then cast o.place else opened o

  -- what stands behind `sizeof (`
  unfoldable pub size_of_type : Place → Parser Sized
  size_of_type at = do
    x ← starred_within leaves types turns depth
    expect k.RightParen
    pure (e.SizeofType at x.0, x.1 + 1)

  unfoldable pub size_of_value : Place → Want → Parser Sized
  size_of_value at operand_is = do
    x ← sub operand_is
    pure (e.SizeofValue at x.0, x.1 + 1)

  unfoldable pub size_inside : Place → Parser Sized
  size_inside at = do
    o ← take_if true
    is_type ← looks (sees_type types)
    if is_type then size_of_type at else size_of_value at (want.Opened o)

  unfoldable pub size : Parser Sized
  size = do
    t ← take_if true
    next ← peek
    if same_kind next k.LeftParen then size_inside t.place else size_of_value t.place (want.Binary 0)

  unfoldable pub prefixed : UnaryOp → Parser Sized
  prefixed op = do
    t ← take_if (nat_lt 0 depth)
    x ← sub (want.Binary 0)
    pure (e.Unary t.place op x.0, x.1 + 1)

  abbrev pub unary_by : TokenKind → Option UnaryOp → Parser Sized
  unary_by _ (Some op) = prefixed op
  unary_by next None = if same_kind next k.LeftParen then parenthesis else (if same_kind next k.Sizeof then size else post)

  unfoldable pub unary : Parser Sized
  unary = peek >>= (λ next. unary_by next (prefix_operator next))

  -- ---- what stands behind a unary expression x, which begins at that place

  abbrev pub chain_by : (Sized → Parser Sized) → ℕ → Place → Sized → Option BinaryOp → Parser Sized
  chain_by go l at x (Some op) = do
    take_if (nat_le x.1 depth)
    y ← sub (want.Binary l)
    go (e.Binary at op x.0 y.0, max x.1 y.1 + 1)
  chain_by go l at x None = pure x

  -- operators of the level l
  unfoldable pub chain_from : ℕ → ℕ → Place → Sized → Parser Sized
  chain_from zero l at x = refuse
  chain_from (suc n) l at x = peek >>= (λ next. chain_by (chain_from n l at) l at x (operator l next))

  unfoldable pub iterated : Place → Sized → Parser Sized
  iterated at x = do
    next ← peek
    if same_kind next k.ColonColon then (do take_if (nat_le x.1 depth); y ← sub (want.Binary 3); pure (e.Iterator at x.0 y.0, max x.1 y.1 + 1)) else pure x

  -- operators of the level l, or `::`, which stands at the level of no operator
  unfoldable pub level_of : ℕ → Place → Sized → Parser Sized
  level_of l at x = if l == 3 then iterated at x else chain_from turns l at x

  -- operators of the levels below l
  unfoldable pub levels : ℕ → Place → Sized → Parser Sized
  levels zero at x = pure x
  levels (suc l) at x = levels l at x >>= level_of l at

  unfoldable pub binary : ℕ → Parser Sized
  binary l = do
    at ← here
    x ← unary
    levels l at x

  abbrev pub assigned_by : Place → Sized → Option AssignOp → Parser Sized
  assigned_by at x (Some op) = do
    take_if (nat_le x.1 depth)
    y ← sub want.Assignment
    pure (e.Assign at op x.0 y.0, max x.1 y.1 + 1)
  assigned_by at x None = levels loosest at x

  unfoldable pub asg_after : Place → Sized → Parser Sized
  asg_after at x = peek >>= (λ next. assigned_by at x (assign_operator next))

  unfoldable pub asg : Parser Sized
  asg = do
    at ← here
    x ← unary
    asg_after at x

  -- the expressions behind the first one, of which there is one at least
  unfoldable pub sequence : Place → Sized → Parser Sized
  sequence at x = more_from turns (x.0 ∷ []) x.1 >>= (λ xs. pure (e.Sequence at xs.0, xs.1 + 1))

  unfoldable pub expr_after : Place → Sized → Parser Sized
  expr_after at x = do
    next ← peek
    if same_kind next k.Comma then (if nat_le x.1 depth then sequence at x else (take_if false >> refuse)) else pure x

  unfoldable pub expr_at : Parser Sized
  expr_at = do
    at ← here
    x ← asg
    expr_after at x

  abbrev pub at_want : Want → Parser Sized
  at_want want.Expression = expr_at
  at_want want.Assignment = asg
  at_want (want.Binary l) = binary l
  at_want (want.Opened o) = opened o

-- what is wanted, with at most that many levels
unfoldable pub within : Leaves → List ℕ → ℕ → ℕ → Want → Parser Sized
within leaves types turns zero = λ w. no_room types
within leaves types turns (suc depth) = at_want leaves types turns depth (within leaves types turns depth)
