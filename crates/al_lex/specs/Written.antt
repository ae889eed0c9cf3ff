-- The tokens of a cutting, with their bytes, places and the numbers of names.
use Rattle.std.specs.Prelude.{◌≡◌, ℕ, ◌+◌, ◌==◌, nat_eq, Bool, true, false, not, if◌then◌else◌, List, [], ◌∷◌, ◌++◌, length, fold, count_by}
use Rattle.std.specs.List.{list_any, list_all, position_or_len}
use lib.Pointwise.{pointwise}
use Rattle.al_base.specs.declared.place.Place.{Place}
use Rattle.al_lex.specs.declared.kind.TokenKind.{TokenKind}
use Rattle.al_lex.specs.declared.kind.TokenKind.TheVariants as k
use Rattle.al_lex.specs.declared.kind.PieceKind.{PieceKind}
use Rattle.al_lex.specs.declared.kind.PieceKind.TheVariants as p
use Rattle.al_lex.specs.declared.token.Token.{Token}
use Rattle.al_lex.specs.declared.fault.LexFault.{LexFault}
use Rattle.al_lex.specs.Bytes.{line_feed}
use Rattle.al_lex.specs.Cut.{Piece, Pieces, Cut, IsNext, IsFault, joined, last_line, is_fresh}

-- the place behind these bytes: lines and columns count from 1
abbrev pub place_after : List ℕ → Place
place_after before = record { line = count_by (λ b. b == line_feed) before + 1; col = length (last_line before) + 1 }

-- whether two names are the same bytes
abbrev pub same_bytes : List ℕ → List ℕ → Bool
same_bytes = pointwise nat_eq

-- the names with one more, which goes last if it is new
abbrev pub noted : List (List ℕ) → List ℕ → List (List ℕ)
noted seen name = if list_any (same_bytes name) seen then seen else seen ++ name ∷ []

-- each name once, in the order first seen
abbrev pub first_seen : List (List ℕ) → List (List ℕ)
first_seen names = fold noted [] names

abbrev pub is_name : TokenKind → Bool
is_name k.Name = true
is_name _ = false

abbrev pub is_token : PieceKind → Bool
is_token (p.Token kind) = true
is_token _ = false

abbrev pub is_name_piece : PieceKind → Bool
is_name_piece (p.Token kind) = is_name kind
is_name_piece _ = false

-- the bytes of each name
abbrev pub names_of : List Piece → List (List ℕ)
names_of [] = []
names_of (piece ∷ more) = if is_name_piece piece.0 then piece.1 ∷ names_of more else names_of more

-- the number of a name among the names first seen, and 0 of another token
abbrev pub name_number : List (List ℕ) → TokenKind → List ℕ → ℕ
name_number names kind bytes = if is_name kind then position_or_len (same_bytes bytes) names else 0

-- the token of these bytes, which stand behind `before`
abbrev pub token_at : List ℕ → TokenKind → List ℕ → ℕ → Token
token_at before kind bytes number = record { kind = kind; name = number; from = length before; to = length before + length bytes; place = place_after before }

abbrev pub end_token : List ℕ → Token
end_token before = token_at before k.End [] 0

-- the tokens among the pieces behind `before`, where the names of the text are these
abbrev pub tokens_from : List (List ℕ) → List ℕ → List Piece → List Token
tokens_from names before [] = []
tokens_from names before ((p.Token kind, u) ∷ more) = token_at before kind u (name_number names kind u) ∷ tokens_from names (before ++ u) more
tokens_from names before ((p.Blank, u) ∷ more) = tokens_from names (before ++ u) more
tokens_from names before ((p.Comment, u) ∷ more) = tokens_from names (before ++ u) more
tokens_from names before ((p.Skipped, u) ∷ more) = tokens_from names (before ++ u) more

-- the tokens of a text that is cut into these pieces, and the End token
abbrev pub tokens_of : List Piece → List Token
tokens_of pieces = tokens_from (first_seen (names_of pieces)) [] pieces ++ end_token (joined pieces) ∷ []

-- the text is cut, and these are its tokens
pub record IsCutInto (text : List ℕ) (tokens : List Token) : Type 0 where
  pub pieces : List Piece
  pub cut : Cut text pieces
  pub is : tokens ≡ tokens_of pieces

-- the token that stands right behind `before`; its name has no number yet
pub data IsTokenHere (before : List ℕ) : List ℕ → Token → Type 0 where
  ends : IsTokenHere before [] (end_token before)
  token : {kind : TokenKind} {u rest : List ℕ} → IsNext (is_fresh before) (p.Token kind) u rest → IsTokenHere before (u ++ rest) (token_at before kind u 0)

-- behind `before` stand pieces that are no tokens, and then `after`
pub record IsGapTo (before rest : List ℕ) (gap : List Piece) (after : List ℕ) : Type 0 where
  pub covers : rest ≡ joined gap ++ after
  pub each : Pieces before gap after
  pub no_token : list_all (λ piece. not (is_token piece.0)) gap ≡ true

-- the next token behind `before`, where the text goes on with `rest`
pub record IsNextToken (before rest : List ℕ) (t : Token) : Type 0 where
  pub gap : List Piece
  pub after : List ℕ
  pub reached : IsGapTo before rest gap after
  pub is : IsTokenHere (before ++ joined gap) after t

-- behind `before` a fault comes before the next token
pub record IsNextFault (before rest : List ℕ) (f : LexFault) : Type 0 where
  pub gap : List Piece
  pub after : List ℕ
  pub offset : ℕ
  pub reached : IsGapTo before rest gap after
  pub is : IsFault (is_fresh (before ++ joined gap)) after f.reason offset
  pub byte_is : f.byte ≡ length (before ++ joined gap) + offset
