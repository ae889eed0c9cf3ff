-- A text has no more tokens than bytes, and the End token.
use Rattle.std.proofs.Common.{ℕ, ◌+◌, ◌≤◌, List, [], ◌∷◌, ◌++◌, length, ap, arith, length-append}
use Rattle.al_lex.specs.declared.kind.PieceKind.{PieceKind}
use Rattle.al_lex.specs.declared.kind.PieceKind.TheVariants as p
use Rattle.al_lex.specs.declared.token.Token.{Token}
use Rattle.al_lex.specs.Cut.{Piece, Pieces, joined, none, next}
use Rattle.al_lex.specs.Written.{IsCutInto, tokens_from, first_seen, names_of, end_token}
use Rattle.al_lex.proofs.Scanned.{some_byte}

one_more : (names : List (List ℕ)) (b u : List ℕ) (kind : PieceKind) (more : List Piece) → 1 ≤ length u → length (tokens_from names (b ++ u) more) ≤ length (joined more)
    → length (tokens_from names b ((kind, u) ∷ more)) ≤ length (u ++ joined more)
one_more names b u (p.Token kind) more h k = omega (arith, h, k, length-append u (joined more))
one_more names b u p.Blank more h k = omega (arith, k, length-append u (joined more))
one_more names b u p.Comment more h k = omega (arith, k, length-append u (joined more))
one_more names b u p.Skipped more h k = omega (arith, k, length-append u (joined more))

from_few : {before rest : List ℕ} {pieces : List Piece} → Pieces before pieces rest → (names : List (List ℕ)) (b : List ℕ) → length (tokens_from names b pieces) ≤ length (joined pieces)
from_few none names b = omega arith
from_few (next {u = u} {kind = kind} {more = more} n ps) names b = one_more names b u kind more (some_byte n.longest.is) (from_few ps names (b ++ u))

pub tokens_few : (text : List ℕ) (tokens : List Token) → IsCutInto text tokens → length tokens ≤ length text + 1
tokens_few text tokens c =
    let names = first_seen (names_of c.pieces) in
    let k : length (tokens_from names [] c.pieces) ≤ length (joined c.pieces) = from_few c.cut.each names [] in
    omega (arith, k, ap length c.is, ap length c.cut.covers, length-append (tokens_from names [] c.pieces) (end_token (joined c.pieces) ∷ []))
