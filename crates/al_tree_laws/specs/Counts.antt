-- The variables, labels and rescues that a function declares are no more than the tokens of the text.
use Rattle.std.specs.Prelude.{◌≡◌, ℕ, ◌+◌, ◌≤◌, List, [], ◌∷◌, length, Option, Some, None, slice_get}
use Rattle.al_lex.specs.TokenList.{TokenList}
use Rattle.al_tree.specs.Tree.{IsTree}
use Rattle.al_tree.specs.declared.item.Item.{Item}
use Rattle.al_tree.specs.declared.item.Item.TheVariants as item
use Rattle.al_tree.specs.declared.item.Tree.{Tree}
use Rattle.al_tree.specs.declared.statement.Stmt.{Stmt, fold-Stmt}
use Rattle.al_tree.specs.declared.statement.Stmt.TheOpen.{Stmt-F}

abbrev pub total : List ℕ → ℕ
total [] = 0
total (n ∷ ns) = n + total ns

abbrev pub or_none : Option ℕ → ℕ
or_none None = 0
or_none (Some n) = n

abbrev pub declared_step : Stmt-F ℕ → ℕ
declared_step (Stmt-F.Block at body) = total body
declared_step (Stmt-F.Declare at base variables) = length variables
declared_step (Stmt-F.Label at name body) = 1 + body
declared_step (Stmt-F.If at condition met other) = met + or_none other
declared_step (Stmt-F.While at condition body) = body
declared_step (Stmt-F.Do at body condition) = body
declared_step (Stmt-F.For at start condition next body) = body
declared_step (Stmt-F.Switch at value body) = total body
declared_step (Stmt-F.Alt at body) = total body
declared_step (Stmt-F.Par at branches) = total branches
declared_step (Stmt-F.Rescue at name body) = 1 + body
declared_step _ = 0

-- how many locals, labels and rescues a statement declares, with those in the branches of its pars
unfoldable pub declared_count : Stmt → ℕ
declared_count = fold-Stmt ℕ declared_step

-- how many parameters, locals, labels and rescues a function has
abbrev pub function_count : Item → ℕ
function_count (item.Function at scope base head body) = length head.parameters + declared_count body
function_count _ = 0

abbrev pub DeclaredAreFew : Type 0
DeclaredAreFew = (tokens : TokenList) (tree : Tree) (height : ℕ) → IsTree tokens tree height → (k : ℕ) (i : Item) → slice_get tree.items k ≡ Some i
    → function_count i ≤ length tokens.list
