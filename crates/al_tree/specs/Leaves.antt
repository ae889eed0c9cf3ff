-- What the tokens of numbers, characters, strings and names stand for.
use Rattle.std.specs.Prelude.{ℕ, ◌==◌, ◌&&◌, if◌then◌else◌, List, [], ◌∷◌, ◌++◌, length, unwrap_or}
use Rattle.al_lex.specs.declared.token.Token.{Token}
use Rattle.al_lex.specs.TokenList.{bytes_of}
use Rattle.al_lex.specs.Values.{number_of, byte_of, text_of}
use Rattle.al_tree.specs.Words.{is_name}
use Rattle.al_tree.specs.Types.{Leaves}

-- the leaves of a text; no token of a text is a number of 2^64 and above
abbrev pub leaves_of : List ℕ → Leaves
leaves_of text = record {
  number = λ t. unwrap_or (number_of (bytes_of text t)) 0;
  byte = λ t. byte_of (bytes_of text t);
  bytes = λ t. text_of (bytes_of text t);
}

-- the names seen so far and those of the tokens: a name whose number is that of the names so far is new
abbrev pub names_from : List ℕ → List (List ℕ) → List Token → List (List ℕ)
names_from text seen [] = seen
names_from text seen (t ∷ ts) = names_from text (if is_name t.kind && t.name == length seen then seen ++ bytes_of text t ∷ [] else seen) ts
