-- What contracts see of the tokens of a text.
use Rattle.std.specs.Prelude.{◌≡◌, ◌≢◌, ℕ, ◌≤◌, ◌<◌, ◌^◌, List, [], ◌∷◌, ◌++◌, Option, Some, None, length, slice_get, slice_range, All}
use Rattle.al_lex.specs.declared.token.Token.{Token}
use Rattle.al_lex.specs.declared.kind.TokenKind.TheVariants as k

-- the tokens in the order of the text, and the bytes of the text
pub record TokenList : Type 0 where
  pub list : List Token
  pub text : List ℕ

-- the last token is the End token, and no other is
pub record IsEnded (list : List Token) : Type 0 where
  pub front : List Token
  pub last : Token
  pub is : list ≡ front ++ last ∷ []
  pub last_is_end : last.kind ≡ k.End
  pub no_other : All (λ t. t.kind ≢ k.End) front

pub record IsTokenList (tokens : TokenList) : Type 0 where
  pub ended : IsEnded tokens.list
  pub ordered : All (λ t. t.from ≤ t.to) tokens.list
  pub within : All (λ t. t.to ≤ length tokens.text) tokens.list
  pub few : length tokens.list < 2 ^ 32

-- the bytes of a token
abbrev pub bytes_of : List ℕ → Token → List ℕ
bytes_of text t = slice_range text t.from t.to

-- the bytes of the token of this number, counted from 0
abbrev pub bytes_of_some : List ℕ → Option Token → List ℕ
bytes_of_some text None = []
bytes_of_some text (Some t) = bytes_of text t

abbrev pub bytes_at : TokenList → ℕ → List ℕ
bytes_at tokens number = bytes_of_some tokens.text (slice_get tokens.list number)
