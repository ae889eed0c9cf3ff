-- What the public call reads: blocks, from a token of a text on.
use Rattle.std.specs.Prelude.{ℕ, List}
use Rattle.al_lex.specs.TokenList.{TokenList}
use Rattle.al_tree.specs.Leaves.{leaves_of}
use Rattle.al_tree.specs.Statements.{IsBlock}
use Rattle.al_tree.specs.Correct.{Grammar}
use Rattle.al_tree.specs.declared.statement.Stmt.{Stmt}

-- the blocks of a text, where these names are names of types
abbrev pub blocks_of : TokenList → List ℕ → Grammar Stmt
blocks_of toks types u x h = IsBlock (leaves_of toks.text) types u x h
