-- The pieces of a format, from each byte on.
use Rattle.std.proofs.Common.{◌≡◌, ℕ, ◌+◌, ◌<◌, ◌≤◌, Bool, true, false, cond, List, [], ◌∷◌, ◌++◌, Option, Some, None, length, get_or, drop, drop-cons, add-one, suc, refl, ap, ◌∙◌, sym, append_assoc, append-nil, arith}
use Rattle.std.proofs.lemmas.Bool.{eq-eqb}
use Rattle.std.proofs.lemmas.Bool.Decides.{nat_tests}
use Rattle.std.proofs.lemmas.List.{drop_all}
use Rattle.std.specs.Prelude.{◌==◌}
use Rattle.al_typed.specs.declared.expression.PrintPiece.{PrintPiece}
use Rattle.al_typed.specs.declared.expression.PrintPiece.TheVariants as print
use Rattle.al_operators.specs.Formats.{verb, led, led_by, pieces, pieces_behind}

-- with these pieces before them
abbrev pub behind : List PrintPiece → Option (List PrintPiece) → Option (List PrintPiece)
behind done None = None
behind done (Some ps) = Some (done ++ ps)

-- from a byte on, which is a verb where a `%` stands before it
abbrev pub reads : (is_verb : Bool) → List ℕ → Option (List PrintPiece)
reads true bytes = pieces_behind bytes
reads false bytes = pieces bytes

behind-led : (done : List PrintPiece) (p : PrintPiece) (o : Option (List PrintPiece)) → behind done (led p o) ≡ behind (done ++ p ∷ []) o
behind-led done p None = refl
behind-led done p (Some ps) = ap Some (sym (append_assoc done (p ∷ []) ps))

pub behind_none : (o : Option (List PrintPiece)) → behind [] o ≡ o
behind_none None = refl
behind_none (Some ps) = refl

-- the bytes from a place on
pub bytes_here : (bs : List ℕ) (i : ℕ) → i < length bs → drop i bs ≡ get_or bs i 0 ∷ drop (i + 1) bs
bytes_here bs i h = rw (add-one) (drop-cons bs i 0 h)

pub no_bytes : (bs : List ℕ) (i : ℕ) → length bs ≤ i → drop i bs ≡ []
no_bytes bs i h = drop_all i bs h

pub reads_end : (done : List PrintPiece) → behind done (reads false []) ≡ Some done
unfolding pieces
reads_end done = ap Some (append-nil done)

pub reads_lone : (done : List PrintPiece) → behind done (reads true []) ≡ None
unfolding pieces_behind
reads_lone done = refl

no_percent : (b : ℕ) → (b ≡ 37 → ⊥) → (b == 37) ≡ false
no_percent b h = grind (arith, nat_tests)

pub reads_byte : (done : List PrintPiece) (b : ℕ) (rest : List ℕ) → (b ≡ 37 → ⊥) → behind done (reads false (b ∷ rest)) ≡ behind (done ++ print.Byte b ∷ []) (reads false rest)
unfolding pieces
reads_byte done b rest h = ap (λ c. behind done (cond c (pieces_behind rest) (led (print.Byte b) (pieces rest)))) (no_percent b h) ∙ behind-led done (print.Byte b) (pieces rest)

pub reads_percent : (done : List PrintPiece) (b : ℕ) (rest : List ℕ) → b ≡ 37 → behind done (reads false (b ∷ rest)) ≡ behind done (reads true rest)
unfolding pieces
reads_percent done b rest h = ap (λ c. behind done (cond c (pieces_behind rest) (led (print.Byte b) (pieces rest)))) (eq-eqb b 37 h)

pub reads_verb : (done : List PrintPiece) (b : ℕ) (rest : List ℕ) (p : PrintPiece) → verb b ≡ Some p → behind done (reads true (b ∷ rest)) ≡ behind (done ++ p ∷ []) (reads false rest)
unfolding pieces_behind
reads_verb done b rest p v = ap (λ o. behind done (led_by o (pieces rest))) v ∙ behind-led done p (pieces rest)

pub reads_wrong : (done : List PrintPiece) (b : ℕ) (rest : List ℕ) → verb b ≡ None → behind done (reads true (b ∷ rest)) ≡ None
unfolding pieces_behind
reads_wrong done b rest v = ap (λ o. behind done (led_by o (pieces rest))) v

pub ruleset pieces_are = (behind_none, bytes_here, no_bytes, reads_end, reads_lone, reads_byte, reads_percent, reads_verb, reads_wrong)
