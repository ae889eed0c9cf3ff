-- The tree of a whole text.
use Rattle.std.specs.Prelude.{◌≡◌, ℕ, List, [], ◌∷◌, ◌++◌}
use Rattle.al_lex.specs.declared.token.Token.{Token}
use Rattle.al_lex.specs.TokenList.{TokenList}
use Rattle.al_tree.specs.Items.{Declared, IsItems}
use Rattle.al_tree.specs.Leaves.{leaves_of, names_from}
use Rattle.al_tree.specs.Correct.{IsFault}
use Rattle.al_tree.specs.declared.item.Tree.{Tree}
use Rattle.al_tree.specs.declared.fault.ParseFault.{ParseFault}

-- The tokens of a text, without the End token, are the items of the tree. Its names are those of the tokens, by number.
pub record IsTreeOf (text : List ℕ) (toks : List Token) (tree : Tree) (height : ℕ) : Type 0 where
  pub declared : Declared
  pub items : IsItems (leaves_of text) toks tree.items declared height
  pub names : tree.names ≡ names_from text [] toks

-- the tree of all tokens, the End token included
pub record IsTree (toks : TokenList) (tree : Tree) (height : ℕ) : Type 0 where
  pub front : List Token
  pub last : Token
  pub is : toks.list ≡ front ++ last ∷ []
  pub tree_of : IsTreeOf toks.text front tree height

-- no tree is higher
abbrev pub limit : ℕ
limit = 200

-- The tokens of a text are no tree of at most that height for this reason, at this token. Tokens are counted from 0.
pub record IsParseFault (toks : TokenList) (fault : ParseFault) : Type 0 where
  pub before : List Token
  pub token : Token
  pub after : List Token
  pub cut : toks.list ≡ before ++ token ∷ after
  pub place : fault.place ≡ token.place
  pub front : List Token
  pub last : Token
  pub is : toks.list ≡ front ++ last ∷ []
  pub number : Rattle.std.specs.Prelude.length before ≡ fault.token
  pub fault_is : IsFault (IsTreeOf toks.text) limit front fault.reason fault.token
