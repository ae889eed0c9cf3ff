-- What the public call reads: expressions, from a token of a text on.
use Rattle.std.specs.Prelude.{ℕ, List}
use Rattle.al_lex.specs.TokenList.{TokenList}
use Rattle.al_tree.specs.Leaves.{leaves_of}
use Rattle.al_tree.specs.Expressions.{IsExpr}
use Rattle.al_tree.specs.Correct.{Grammar}
use Rattle.al_tree.specs.declared.expression.Expr.{Expr}

-- the expressions of a text, where these names are names of types
abbrev pub expressions_of : TokenList → List ℕ → Grammar Expr
expressions_of toks types u x h = IsExpr (leaves_of toks.text) types u x h
