-- Names that are kept for linked texts.
use Rattle.std.specs.Prelude.{ℕ, ◌==◌, Bool, false, ◌&&◌, ◌||◌, List, [], ◌∷◌, Option, find, option_map}
use Rattle.al_base.specs.declared.place.Place.{Place}
use Rattle.al_lex.specs.declared.token.Token.{Token}
use Rattle.al_lex.specs.TokenList.{bytes_of}
use Rattle.al_tree.specs.Words.{is_name}
use Rattle.al_link_text.specs.Files.{own_tokens}
use Rattle.al_link_text.specs.declared.file.File.{File}

abbrev pub underline : ℕ
underline = 95

-- whether two of `_` stand side by side, where `behind` says that one stands right before these bytes
abbrev pub doubled : (behind : Bool) → List ℕ → Bool
doubled behind [] = false
doubled behind (b ∷ bs) = (behind && b == underline) || doubled (b == underline) bs

-- a name that contains `__`
abbrev pub is_reserved : File → Token → Bool
is_reserved file t = is_name t.kind && doubled false (bytes_of file.tokens.text t)

-- where the first of these stands
abbrev pub first_reserved : File → Option Place
first_reserved file = option_map (λ (t : Token). t.place) (find (is_reserved file) (own_tokens file))
