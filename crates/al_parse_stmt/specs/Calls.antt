-- What the public call answers: the tree of a whole text.
use Rattle.std.specs.Prelude.{ℕ, ◌≤◌}
use Rattle.al_lex.specs.TokenList.{TokenList}
use Rattle.al_tree.specs.Tree.{IsTree, limit}
use Rattle.al_tree.specs.declared.item.Tree.{Tree}

-- the tree of all tokens of a text, of at most 200 levels
pub record IsText (toks : TokenList) (tree : Tree) : Type 0 where
  pub height : ℕ
  pub low : height ≤ limit
  pub is : IsTree toks tree height
