-- The parser of statements, on lists of tokens.
--
-- Loops make at most `turns` turns. A statement has at most `depth + 1` levels; what stands inside it has at most
-- `depth`, and is parsed by `sub`. A token is too deep where each tree that begins with the tokens up to it is too high.
use Rattle.std.specs.Prelude.{ℕ, zero, suc, pred, ◌+◌, ◌==◌, max, nat_lt, Bool, true, false, ◌||◌, ◌&&◌, not, if◌then◌else◌, List, [], ◌∷◌, ◌++◌, Option, Some, None, Err}
use Rattle.al_base.specs.declared.place.Place.{Place}
use Rattle.al_lex.specs.declared.kind.TokenKind.{TokenKind}
use Rattle.al_lex.specs.declared.kind.TokenKind.TheVariants as k
use Rattle.al_lex.specs.declared.token.Token.{Token}
use Rattle.al_tree.specs.Types.{Leaves, name_at}
use Rattle.al_tree.specs.Reading.{Parser, ◌>>=◌, ◌>>◌, pure, refuse, kind, same_kind, looks, peek, here, take_if, expect_if, expect}
use Rattle.al_tree.specs.declared.cursor.ParseError.TheVariants.{Deep}
use Rattle.al_tree.specs.declared.expression.Name.{Name}
use Rattle.al_tree.specs.declared.expression.Expr.{Expr}
use Rattle.al_tree.specs.declared.statement.Variable.{Variable}
use Rattle.al_tree.specs.declared.statement.Stmt.{Stmt}
use Rattle.al_tree.specs.declared.statement.Stmt.TheVariants as s
use Rattle.al_parse_type.specs.declared.part.ReadBase.{ReadBase}
use Rattle.al_parse_type.specs.Parse.{sees_type, sees_other_name, other_name, dcl}
use Rattle.al_parse_type.specs.Within.{base_within, tuple_within}
use Rattle.al_parse_expr.specs.Parse.{Sized, Listed, begins_value}
use Rattle.al_parse_expr.specs.Within.{expression_within, assignment_within, list_within, after_name, after_unary, after_assignment}
use Rattle.al_parse_block.specs.Begun.{SizedBegun, SizedType, begun, cast_begun, paren_begun}
use Rattle.al_parse_block.specs.declared.part.Begun.TheVariants as bg
use Rattle.al_parse_block.specs.declared.part.ReadStmt.{ReadStmt}
use Rattle.al_parse_block.specs.declared.part.Want.{Want}
use Rattle.al_parse_block.specs.declared.part.Want.TheVariants as want

-- statements, and the height of the highest
abbrev pub Statements : Type 0
Statements = List Stmt × ℕ

abbrev pub SizedVariable : Type 0
SizedVariable = Variable × ℕ

-- a statement that ends in no `if` without `else`
abbrev pub ended : Stmt → ℕ → ReadStmt
ended x h = record { tree = x; height = h; dangles = false }

-- an `if` at that place, with what stands behind its `else`
abbrev pub choice_of : Place → Sized → ReadStmt → Option ReadStmt → ReadStmt
choice_of at x y None = record { tree = s.If at x.0 y.tree None; height = max x.1 y.height + 1; dangles = true }
choice_of at x y (Some z) = record { tree = s.If at x.0 y.tree (Some z.tree); height = max x.1 (max y.height z.height) + 1; dangles = z.dangles }

-- a `for` at that place, with what stands in its parentheses and its statement
abbrev pub for_of : Place → (Option Expr × ℕ) → (Option Expr × ℕ) → (Option Expr × ℕ) → ReadStmt → ReadStmt
for_of at x y z b = record { tree = s.For at x.0 y.0 z.0 b.tree; height = max (max x.1 y.1) (max z.1 b.height) + 1; dangles = b.dangles }

-- the kinds of tokens that begin a statement, and no expression
abbrev pub starts : TokenKind → Bool
starts k.Semicolon = true
starts k.LeftBrace = true
starts k.If = true
starts k.While = true
starts k.Do = true
starts k.For = true
starts k.Switch = true
starts k.Alt = true
starts k.Par = true
starts k.Rescue = true
starts k.Raise = true
starts k.Return = true
starts k.Become = true
starts k.Break = true
starts k.Continue = true
starts k.Goto = true
starts k.Alloc = true
starts k.Unalloc = true
starts k.Check = true
starts k.Proc = true
starts k.Task = true
starts _ = false

-- whether a statement begins with the next token
unfoldable pub begins_statement : List ℕ → List Token → Bool
begins_statement types ts = starts (kind ts) || begins_value types ts

-- whether what may stand in a block begins with the next token
unfoldable pub begins_inner : List ℕ → List Token → Bool
begins_inner types ts = sees_type types ts || begins_statement types ts

-- whether a case begins with that token
unfoldable pub begins_case : Bool → TokenKind → Bool
begins_case with_default next = same_kind next k.Case || (with_default && same_kind next k.Default)

module _ (leaves : Leaves) (types : List ℕ) (turns depth : ℕ) where
  -- ---- declarations

  -- vdcl : dcl ("=" asg)?
  unfoldable pub variable : Parser SizedVariable
  variable = do
    x ← dcl leaves types turns depth
    next ← peek
    if same_kind next k.Equal then (do take_if (nat_lt 0 depth); y ← assignment_within leaves types turns depth; pure (record { dcl = x.0; value = Some y.0 }, max x.1 y.1)) else pure (record { dcl = x.0; value = None }, x.1)

  unfoldable pub variables_from : ℕ → List Variable → ℕ → Parser (List Variable × ℕ)
  variables_from zero xs h = refuse
  variables_from (suc n) xs h = do
    next ← peek
    if same_kind next k.Comma then (do take_if true; x ← variable; variables_from n (xs ++ x.0 ∷ []) (max h x.1)) else pure (xs, h)

  -- what stands behind a base type that begins at that place
  unfoldable pub declared : Place → ReadBase → Parser ReadStmt
  declared at x = do
    y ← variable
    ys ← variables_from turns (y.0 ∷ []) y.1
    expect k.Semicolon
    pure (ended (s.Declare at x.tree ys.0) (max x.height ys.1 + 1))

  unfoldable pub declaration : Parser ReadStmt
  declaration = do
    at ← here
    x ← base_within leaves types turns depth
    declared at x

  -- ---- what stands in statements

  -- "(" expr ")"
  unfoldable pub condition : Parser Sized
  condition = do
    expect k.LeftParen
    x ← expression_within leaves types turns depth
    expect k.RightParen
    pure x

  -- expr? and the token behind it
  unfoldable pub optional : TokenKind → Parser (Option Expr × ℕ)
  optional close = do
    next ← peek
    if same_kind next close then (take_if true >> pure (None, 0)) else (do x ← expression_within leaves types turns depth; expect close; pure (Some x.0, x.1))

  -- NAME?
  unfoldable pub optional_name : Parser (Option Name)
  optional_name = do
    is ← looks (sees_other_name types)
    if is then (take_if true >>= (λ t. pure (Some (name_at t)))) else pure None

  -- NUMBER?
  unfoldable pub optional_number : Parser (Option ℕ)
  optional_number = do
    next ← peek
    if same_kind next k.Number then (take_if true >>= (λ t. pure (Some (leaves.number t)))) else pure None

  -- ---- statements that are no others' owners

  unfoldable pub empty : Parser ReadStmt
  empty = do
    t ← take_if true
    pure (ended (s.Empty t.place) 1)

  unfoldable pub value : Parser ReadStmt
  value = do
    at ← here
    x ← expression_within leaves types turns depth
    expect k.Semicolon
    pure (ended (s.Value at x.0) (x.1 + 1))

  -- the same behind an assignment x, which begins at that place
  unfoldable pub value_behind : Place → Sized → Parser ReadStmt
  value_behind at x = do
    y ← after_assignment leaves types turns (pred depth) at x
    expect k.Semicolon
    pure (ended (s.Value at y.0) (y.1 + 1))

  -- and behind the name that it begins with
  unfoldable pub value_named : Token → Parser ReadStmt
  value_named t = do
    x ← after_name leaves types turns (pred depth) t
    y ← after_unary leaves types turns (pred depth) t.place x
    value_behind t.place y

  -- a word, assignments, and the semicolon
  unfoldable pub listed : Parser (Listed × Token)
  listed = do
    w ← take_if (nat_lt 0 depth)
    xs ← list_within leaves types turns depth
    expect k.Semicolon
    pure (xs, w)

  unfoldable pub counted : Parser (Token × Option ℕ)
  counted = do
    w ← take_if true
    n ← optional_number
    expect k.Semicolon
    pure (w, n)

  unfoldable pub raise : Parser ReadStmt
  raise = do
    w ← take_if true
    n ← optional_name
    expect k.Semicolon
    pure (ended (s.Raise w.place n) 1)

  unfoldable pub returned : Parser ReadStmt
  returned = do
    w ← take_if true
    x ← optional k.Semicolon
    pure (ended (s.Return w.place x.0) (x.1 + 1))

  unfoldable pub becoming : Parser ReadStmt
  becoming = do
    w ← take_if (nat_lt 0 depth)
    x ← expression_within leaves types turns depth
    expect k.Semicolon
    pure (ended (s.Become w.place x.0) (x.1 + 1))

  unfoldable pub goto : Parser ReadStmt
  goto = do
    w ← take_if true
    n ← other_name types
    expect k.Semicolon
    pure (ended (s.Goto w.place (name_at n)) 1)

  -- ("," STRING)? ";"
  unfoldable pub check_text : Parser (Option (List ℕ))
  check_text = do
    next ← peek
    if same_kind next k.Comma then (do take_if true; n ← expect k.Text; expect k.Semicolon; pure (Some (leaves.bytes n))) else (expect k.Semicolon >> pure None)

  unfoldable pub check : Parser ReadStmt
  check = do
    w ← take_if (nat_lt 0 depth)
    x ← assignment_within leaves types turns depth
    n ← check_text
    pure (ended (s.Check w.place x.0 n) (x.1 + 1))

  abbrev pub breaking : Parser ReadStmt
  breaking = counted >>= (λ y. pure (ended (s.Break y.0.place y.1) 1))

  abbrev pub continuing : Parser ReadStmt
  continuing = counted >>= (λ y. pure (ended (s.Continue y.0.place y.1) 1))

  abbrev pub allocating : Parser ReadStmt
  allocating = listed >>= (λ y. pure (ended (s.Alloc y.1.place y.0.0) (y.0.1 + 1)))

  abbrev pub unallocating : Parser ReadStmt
  unallocating = listed >>= (λ y. pure (ended (s.Unalloc y.1.place y.0.0) (y.0.1 + 1)))

  abbrev pub procs : Parser ReadStmt
  procs = listed >>= (λ y. pure (ended (s.Proc y.1.place y.0.0) (y.0.1 + 1)))

  abbrev pub tasks : Parser ReadStmt
  tasks = listed >>= (λ y. pure (ended (s.Task y.1.place y.0.0) (y.0.1 + 1)))

  abbrev pub simple_by : TokenKind → Parser ReadStmt
  simple_by k.Semicolon = empty
  simple_by k.Raise = raise
  simple_by k.Return = returned
  simple_by k.Become = becoming
  simple_by k.Break = breaking
  simple_by k.Continue = continuing
  simple_by k.Goto = goto
  simple_by k.Alloc = allocating
  simple_by k.Unalloc = unallocating
  simple_by k.Check = check
  simple_by k.Proc = procs
  simple_by k.Task = tasks
  simple_by _ = value

module _ (leaves : Leaves) (types : List ℕ) (turns depth : ℕ) (sub : Want → Parser ReadStmt) where
  -- ---- statements with statements in them

  -- behind the statement of an `if`
  unfoldable pub otherwise : Place → Sized → ReadStmt → Parser ReadStmt
  otherwise at x y = do
    next ← peek
    if same_kind next k.Else && not y.dangles then (do take_if true; z ← sub want.Statement; pure (choice_of at x y (Some z))) else pure (choice_of at x y None)

  unfoldable pub choice : Parser ReadStmt
  choice = do
    w ← take_if (nat_lt 0 depth)
    x ← condition leaves types turns depth
    y ← sub want.Statement
    otherwise w.place x y

  unfoldable pub while_loop : Parser ReadStmt
  while_loop = do
    w ← take_if (nat_lt 0 depth)
    x ← condition leaves types turns depth
    y ← sub want.Statement
    pure (record { tree = s.While w.place x.0 y.tree; height = max x.1 y.height + 1; dangles = y.dangles })

  unfoldable pub do_loop : Parser ReadStmt
  do_loop = do
    w ← take_if (nat_lt 0 depth)
    x ← sub want.Statement
    expect k.While
    y ← condition leaves types turns depth
    expect k.Semicolon
    pure (ended (s.Do w.place x.tree y.0) (max x.height y.1 + 1))

  -- the statement of a `for`, behind what stands in its parentheses
  unfoldable pub for_body : Place → (Option Expr × ℕ) → (Option Expr × ℕ) → (Option Expr × ℕ) → Parser ReadStmt
  for_body at x y z = do
    b ← sub want.Statement
    pure (for_of at x y z b)

  unfoldable pub for_loop : Parser ReadStmt
  for_loop = do
    w ← take_if (nat_lt 0 depth)
    expect k.LeftParen
    x ← optional leaves types turns depth k.Semicolon
    y ← optional leaves types turns depth k.Semicolon
    z ← optional leaves types turns depth k.RightParen
    for_body w.place x y z

  unfoldable pub labelled : Token → Parser ReadStmt
  labelled t = do
    take_if true
    x ← sub want.Statement
    pure (record { tree = s.Label t.place t.name x.tree; height = x.height + 1; dangles = x.dangles })

  -- a statement that begins with a name that is no type's
  unfoldable pub named : Parser ReadStmt
  named = do
    t ← take_if (nat_lt 0 depth)
    next ← peek
    if same_kind next k.Colon then labelled t else value_named leaves types turns depth t

  -- ---- lists of statements

  -- what is parsed where no level may be left for it: what it may begin with goes too deep then
  unfoldable pub inner : Want → Parser ReadStmt
  inner x = if nat_lt 0 depth then sub x else (take_if false >> refuse)

  unfoldable pub body_from : ℕ → List Stmt → ℕ → Parser Statements
  body_from zero xs h = refuse
  body_from (suc n) xs h = do
    begins ← looks (begins_inner types)
    if begins then (do x ← inner want.Inner; body_from n (xs ++ x.tree ∷ []) (max h x.height)) else pure (xs, h)

  unfoldable pub branches_from : ℕ → List Stmt → ℕ → Parser Statements
  branches_from zero xs h = refuse
  branches_from (suc n) xs h = do
    begins ← looks (begins_statement types)
    if begins then (do x ← inner want.Statement; branches_from n (xs ++ x.tree ∷ []) (max h x.height)) else pure (xs, h)

  -- "case" asg ":" bstmt*
  unfoldable pub one_case : Parser Statements
  one_case = do
    w ← take_if (nat_lt 0 depth)
    x ← assignment_within leaves types turns depth
    expect k.Colon
    ys ← body_from turns [] 0
    pure (s.Case w.place x.0 ∷ ys.0, max x.1 ys.1)

  -- "default" ":" bstmt*
  unfoldable pub default_case : Parser Statements
  default_case = do
    w ← take_if true
    expect k.Colon
    ys ← body_from turns [] 0
    pure (s.Default w.place ∷ ys.0, ys.1)

  -- the case that begins with that token
  abbrev pub case_by : TokenKind → Parser Statements
  case_by next = if same_kind next k.Case then one_case else default_case

  unfoldable pub cases_from : Bool → ℕ → List Stmt → ℕ → Parser Statements
  cases_from with_default zero xs h = refuse
  cases_from with_default (suc n) xs h = do
    next ← peek
    if begins_case with_default next then (do ys ← case_by next; cases_from with_default n (xs ++ ys.0) (max h ys.1)) else pure (xs, h)

  -- "{" bstmt* "}"
  unfoldable pub block : Parser ReadStmt
  block = do
    p ← expect k.LeftBrace
    xs ← body_from turns [] 0
    expect k.RightBrace
    pure (ended (s.Block p.place xs.0) (xs.1 + 1))

  unfoldable pub braced_cases : Bool → Parser Statements
  braced_cases with_default = do
    expect k.LeftBrace
    xs ← cases_from with_default turns [] 0
    expect k.RightBrace
    pure xs

  unfoldable pub switch : Parser ReadStmt
  switch = do
    w ← take_if (nat_lt 0 depth)
    x ← condition leaves types turns depth
    ys ← braced_cases true
    pure (ended (s.Switch w.place x.0 ys.0) (max x.1 ys.1 + 1))

  unfoldable pub alt : Parser ReadStmt
  alt = do
    w ← take_if true
    xs ← braced_cases false
    pure (ended (s.Alt w.place xs.0) (xs.1 + 1))

  unfoldable pub par : Parser ReadStmt
  par = do
    w ← take_if true
    expect k.LeftBrace
    xs ← branches_from turns [] 0
    expect k.RightBrace
    pure (ended (s.Par w.place xs.0) (xs.1 + 1))

  unfoldable pub rescue : Parser ReadStmt
  rescue = do
    w ← take_if (nat_lt 0 depth)
    n ← optional_name leaves types turns depth
    x ← sub want.Block
    pure (ended (s.Rescue w.place n x.tree) (x.height + 1))

  abbrev pub statement_by : TokenKind → Parser ReadStmt
  statement_by k.LeftBrace = block
  statement_by k.If = choice
  statement_by k.While = while_loop
  statement_by k.Do = do_loop
  statement_by k.For = for_loop
  statement_by k.Switch = switch
  statement_by k.Alt = alt
  statement_by k.Par = par
  statement_by k.Rescue = rescue
  statement_by kd = simple_by leaves types turns depth kd

  unfoldable pub statement : Parser ReadStmt
  statement = do
    is_name ← looks (sees_other_name types)
    next ← peek
    if is_name then named else statement_by next

  -- ---- what stands in a block, where a parenthesis opens

  abbrev pub opened_by : Token → SizedBegun → Parser ReadStmt
  opened_by o (bg.Type x castable, h) = do
    next ← peek
    if castable && same_kind next k.RightParen then (cast_begun leaves types turns depth o (x, h) >>= value_behind leaves types turns depth o.place) else (tuple_within leaves types turns depth o.place (x, h) >>= declared leaves types turns depth o.place)
  opened_by o (bg.Value x, h) = paren_begun leaves types turns depth o (x, h) >>= value_behind leaves types turns depth o.place

  unfoldable pub opened : Parser ReadStmt
  opened = do
    o ← take_if (nat_lt 0 depth)
    x ← begun leaves types turns (pred depth)
    opened_by o x

  -- bstmt : stmt | base vdcl ("," vdcl)* ";"
  unfoldable pub in_block : Parser ReadStmt
  in_block = do
    is_type ← looks (sees_type types)
    next ← peek
    if is_type then declaration leaves types turns depth else (if same_kind next k.LeftParen then opened else statement)

  abbrev pub at_want : Want → Parser ReadStmt
  at_want want.Statement = statement
  at_want want.Inner = in_block
  at_want want.Block = block

-- what is wanted, with at most that many levels
unfoldable pub within : Leaves → List ℕ → ℕ → ℕ → Want → Parser ReadStmt
within leaves types turns zero = λ w ts. Err (Deep 0)
within leaves types turns (suc depth) = at_want leaves types turns depth (within leaves types turns depth)

-- a block of at most that many levels
unfoldable pub block_within : Leaves → List ℕ → ℕ → ℕ → Parser (Stmt × ℕ)
block_within leaves types turns depth = within leaves types turns depth want.Block >>= (λ x. pure (x.tree, x.height))
