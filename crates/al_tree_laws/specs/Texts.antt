-- The string constants and the globals of a tree are no more than tokens, and no string constant is longer than the text.
use Rattle.std.specs.Prelude.{◌≡◌, ℕ, ◌<◌, nat_le, Bool, true, List, [], ◌∷◌, ◌++◌, length, flat_map, sum_by, Option, Some, None}
use Rattle.std.specs.List.{list_all}
use Rattle.al_lex.specs.TokenList.{TokenList}
use Rattle.al_tree.specs.Tree.{IsTree}
use Rattle.al_tree.specs.declared.expression.Expr.{Expr, fold-Expr}
use Rattle.al_tree.specs.declared.expression.Expr.TheOpen.{Expr-F}
use Rattle.al_tree.specs.declared.statement.Variable.{Variable}
use Rattle.al_tree.specs.declared.statement.Stmt.{Stmt, fold-Stmt}
use Rattle.al_tree.specs.declared.statement.Stmt.TheOpen.{Stmt-F}
use Rattle.al_tree.specs.declared.item.Initializer.{Initializer, fold-Initializer}
use Rattle.al_tree.specs.declared.item.Initializer.TheOpen.{Initializer-F}
use Rattle.al_tree.specs.declared.item.Declarator.{Declarator}
use Rattle.al_tree.specs.declared.item.Declarator.TheVariants as declarator
use Rattle.al_tree.specs.declared.item.Item.{Item}
use Rattle.al_tree.specs.declared.item.Item.TheVariants as item
use Rattle.al_tree.specs.declared.item.Tree.{Tree}

-- the bytes of string constants
abbrev pub Texts : Type 0
Texts = List (List ℕ)

-- those of all parts
abbrev pub joined : List Texts → Texts
joined = flat_map (λ ts. ts)

abbrev pub optional : {A : Type 0} → (A → Texts) → Option A → Texts
optional f None = []
optional f (Some x) = f x

-- ---- expressions

abbrev pub expression_step : Expr-F Texts → Texts
expression_step (Expr-F.Number at n) = []
expression_step (Expr-F.Char at n) = []
expression_step (Expr-F.Text at bytes) = bytes ∷ []
expression_step (Expr-F.Nil at) = []
expression_step (Expr-F.Name at name) = []
expression_step (Expr-F.Tuple at parts) = joined parts
expression_step (Expr-F.Unary at how a) = a
expression_step (Expr-F.Cast at to a) = a
expression_step (Expr-F.SizeofType at of) = []
expression_step (Expr-F.SizeofValue at a) = a
expression_step (Expr-F.Index at a b) = a ++ b
expression_step (Expr-F.Member at a how name) = a
expression_step (Expr-F.Call at f xs) = f ++ joined xs
expression_step (Expr-F.Postfix at how a) = a
expression_step (Expr-F.Binary at how a b) = a ++ b
expression_step (Expr-F.Iterator at a b) = a ++ b
expression_step (Expr-F.Assign at how a b) = a ++ b
expression_step (Expr-F.Sequence at parts) = joined parts

-- the string constants in an expression
unfoldable pub texts_of : Expr → Texts
texts_of = fold-Expr Texts expression_step

-- ---- statements

abbrev pub variable_texts : Variable → Texts
variable_texts v = optional texts_of v.value

abbrev pub statement_step : Stmt-F Texts → Texts
statement_step (Stmt-F.Block at body) = joined body
statement_step (Stmt-F.Declare at base variables) = flat_map variable_texts variables
statement_step (Stmt-F.Value at value) = texts_of value
statement_step (Stmt-F.Label at name body) = body
statement_step (Stmt-F.If at condition met other) = texts_of condition ++ (met ++ optional (λ ts. ts) other)
statement_step (Stmt-F.While at condition body) = texts_of condition ++ body
statement_step (Stmt-F.Do at body condition) = body ++ texts_of condition
statement_step (Stmt-F.For at start condition next body) = optional texts_of start ++ (optional texts_of condition ++ (optional texts_of next ++ body))
statement_step (Stmt-F.Switch at value body) = texts_of value ++ joined body
statement_step (Stmt-F.Alt at body) = joined body
statement_step (Stmt-F.Case at value) = texts_of value
statement_step (Stmt-F.Par at branches) = joined branches
statement_step (Stmt-F.Rescue at name body) = body
statement_step (Stmt-F.Return at value) = optional texts_of value
statement_step (Stmt-F.Become at value) = texts_of value
statement_step (Stmt-F.Alloc at places) = flat_map texts_of places
statement_step (Stmt-F.Unalloc at values) = flat_map texts_of values
statement_step (Stmt-F.Check at value text) = texts_of value
statement_step (Stmt-F.Proc at calls) = flat_map texts_of calls
statement_step (Stmt-F.Task at calls) = flat_map texts_of calls
statement_step _ = []

-- The string constants in a statement. The text of a check is none of them: it has no block.
unfoldable pub statement_texts : Stmt → Texts
statement_texts = fold-Stmt Texts statement_step

-- ---- items

abbrev pub initializer_step : Initializer-F Texts → Texts
initializer_step (Initializer-F.Value e) = texts_of e
initializer_step (Initializer-F.Braces at parts) = joined parts

unfoldable pub initializer_texts : Initializer → Texts
initializer_texts = fold-Initializer Texts initializer_step

abbrev pub declarator_texts : Declarator → Texts
declarator_texts (declarator.Global dcl value) = optional initializer_texts value
declarator_texts (declarator.Function head) = []

-- what the initializers of an item have
abbrev pub global_texts : Item → Texts
global_texts (item.Declare at scope base declarators) = flat_map declarator_texts declarators
global_texts _ = []

-- what the body of an item has
abbrev pub body_texts : Item → Texts
body_texts (item.Function at scope base head body) = statement_texts body
body_texts _ = []

abbrev pub item_texts : Item → Texts
item_texts i = global_texts i ++ body_texts i

-- ---- globals

abbrev pub declared_globals : Declarator → ℕ
declared_globals (declarator.Global dcl value) = 1
declared_globals (declarator.Function head) = 0

-- how many globals an item declares
abbrev pub item_globals : Item → ℕ
item_globals (item.Declare at scope base declarators) = sum_by declared_globals declarators
item_globals _ = 0

-- ---- trees

abbrev pub is_short : (most : ℕ) → List ℕ → Bool
is_short most text = nat_le (length text) most

-- the last token, which is the End token, is none of them
pub record TextsAreFew : Type 0 where
  pub texts : (tokens : TokenList) (tree : Tree) (height : ℕ) → IsTree tokens tree height → length (flat_map item_texts tree.items) < length tokens.list
  pub short : (tokens : TokenList) (tree : Tree) (height : ℕ) → IsTree tokens tree height → list_all (is_short (length tokens.text)) (flat_map item_texts tree.items) ≡ true
  pub globals : (tokens : TokenList) (tree : Tree) (height : ℕ) → IsTree tokens tree height → sum_by item_globals tree.items < length tokens.list
