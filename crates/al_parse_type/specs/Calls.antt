-- What the public calls read: types and declarators, from a token of a text on.
use Rattle.std.specs.Prelude.{ℕ, true, List}
use Rattle.al_lex.specs.TokenList.{TokenList}
use Rattle.al_tree.specs.Types.{IsTypeTree, IsDcl}
use Rattle.al_tree.specs.Leaves.{leaves_of}
use Rattle.al_tree.specs.Correct.{Grammar}
use Rattle.al_tree.specs.declared.type_tree.TypeTree.{TypeTree}
use Rattle.al_tree.specs.declared.type_tree.Dcl.{Dcl}

-- the types of a text, where these names are names of types
abbrev pub types_of : TokenList → List ℕ → Grammar TypeTree
types_of toks types u x h = IsTypeTree (leaves_of toks.text) types true u x h

-- its declarators
abbrev pub dcls_of : TokenList → List ℕ → Grammar Dcl
dcls_of toks types u x h = IsDcl (leaves_of toks.text) types u x h
