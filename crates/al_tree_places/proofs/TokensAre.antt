-- The tokens of a text stand at places that differ.
use Rattle.std.proofs.Common.{◌≡◌, ℕ, ◌+◌, ◌≤◌, ◌<◌, ◌==◌, Bool, true, false, ◌&&◌, if◌then◌else◌, List, [], ◌∷◌, ◌++◌, length, refl, sym, ap, ap₂, ◌∙◌, subst, arith, append_assoc, length-append}
use Rattle.std.proofs.lemmas.List.Kept.{AllPairs-cons}
use Rattle.std.proofs.lemmas.List.Elements.{All-nil, All-cons}
use Rattle.std.specs.List.{All}
use Rattle.al_base.specs.declared.place.Place.{Place}
use Rattle.al_lex.specs.declared.kind.PieceKind.{PieceKind}
use Rattle.al_lex.specs.declared.kind.PieceKind.TheVariants as p
use Rattle.al_tree_places.proofs.Unnamed.{Position}
use Rattle.al_lex.specs.declared.token.Token.{Token}
use Rattle.al_lex.specs.Bytes.{line_feed}
use Rattle.al_lex.specs.Cut.{Piece, Pieces, none, next, IsNext, is_fresh, joined}
use Rattle.al_lex.specs.Position.{IsAt, place_step}
use Rattle.al_lex.specs.Written.{IsCutInto, place_after, tokens_from, end_token, first_seen, names_of}
use Rattle.al_lex.proofs.Positions.{at_more}
use Rattle.al_lex.proofs.Runs.{both, equal, equal_true, equal_false}
use Rattle.al_lex.proofs.Scanned.{some_byte}
use Rattle.al_rules.specs.Outcome.{same_place}
use Rattle.al_tree_places.specs.Apart.{AreApart}
use Rattle.al_tree_places.proofs.Times.{one_if, times, places}

-- ---- places

pub same_is : (p q : Place) → same_place p q ≡ true → p ≡ q
same_is p q h =
    let b = both (p.line == q.line) (p.col == q.col) h in
    ap₂ (λ (l : ℕ) (c : ℕ). let r : Place = record { line = l; col = c } in r) (equal p.line q.line b.0) (equal p.col q.col b.1)

pub same_self : (p : Place) → same_place p p ≡ true
same_self p = ap₂ (λ a b. a && b) (equal_true p.line p.line refl) (equal_true p.col p.col refl)

-- the second stands further on in a text
data Ahead (p q : Place) : Type 0 where
  lower : p.line < q.line → Ahead p q
  further : p.line ≡ q.line → p.col < q.col → Ahead p q

ahead_on : {p q r : Place} → Ahead p q → Ahead q r → Ahead p r
ahead_on (lower a) (lower b) = lower (omega (arith, a, b))
ahead_on (lower a) (further b c) = lower (omega (arith, a, b))
ahead_on (further a c) (lower b) = lower (omega (arith, a, b))
ahead_on (further a c) (further b d) = further (omega (arith, a, b)) (omega (arith, c, d))

and_false : (b : Bool) → (b && false) ≡ false
and_false true = refl
and_false false = refl

ahead_apart : (p q : Place) → Ahead p q → same_place p q ≡ false
ahead_apart p q (lower a) = ap (λ b. b && (p.col == q.col)) (equal_false p.line q.line (λ e. absurd (omega (arith, a, e))))
ahead_apart p q (further a c) = ap (λ b. (p.line == q.line) && b) (equal_false p.col q.col (λ e. absurd (omega (arith, c, e)))) ∙ and_false (p.line == q.line)

step_ahead : (p : Place) (b : ℕ) → Ahead p (place_step p b)
step_ahead p b = on (b == line_feed)
  where
    on : (c : Bool) → Ahead p (if c then record { line = p.line + 1; col = 1 } else record { line = p.line; col = p.col + 1 })
    on true = lower (omega arith)
    on false = further refl (omega arith)

one_byte : (before : List ℕ) (b : ℕ) → Ahead (place_after before) (place_after (before ++ b ∷ []))
one_byte before b =
    let here : Position = record { at = length before; place = place_after before; fresh = is_fresh before } in
    let at : IsAt before here = record { at = refl; place = refl; fresh = refl } in
    subst (λ q. Ahead (place_after before) q) (at_more before here (b ∷ []) at).place (step_ahead (place_after before) b)

some_bytes : (before u : List ℕ) → 1 ≤ length u → Ahead (place_after before) (place_after (before ++ u))
some_bytes before [] h = absurd (omega (arith, h))
some_bytes before (b ∷ []) h = one_byte before b
some_bytes before (b ∷ c ∷ u) h =
    ahead_on (one_byte before b) (subst (λ l. Ahead (place_after (before ++ b ∷ [])) (place_after l)) (append_assoc before (b ∷ []) (c ∷ u)) (some_bytes (before ++ b ∷ []) (c ∷ u) (omega arith)))

piece_ahead : (before u : List ℕ) {rest : List ℕ} {kind : PieceKind} → IsNext (is_fresh before) kind u rest → Ahead (place_after before) (place_after (before ++ u))
piece_ahead before u n = some_bytes before u (some_byte n.longest.is)

-- ---- tokens

module _ (names : List (List ℕ)) where
  -- a place before the tokens is that of none of them
  none_before : {before rest : List ℕ} {ps : List Piece} → Pieces before ps rest → (q : Place) → Ahead q (place_after before) → times q (places (tokens_from names before ps)) ≡ 0
  none_before none q a = refl
  none_before (next {before = before} {u = u} {kind = p.Token kind} n m) q a =
      ap₂ (λ b n. one_if b + n) (ahead_apart q (place_after before) a) (none_before m q (ahead_on a (piece_ahead before u n)))
  none_before (next {before = before} {u = u} {kind = p.Blank} n m) q a = none_before m q (ahead_on a (piece_ahead before u n))
  none_before (next {before = before} {u = u} {kind = p.Comment} n m) q a = none_before m q (ahead_on a (piece_ahead before u n))
  none_before (next {before = before} {u = u} {kind = p.Skipped} n m) q a = none_before m q (ahead_on a (piece_ahead before u n))

  one_more : (at here : Place) (ps : List Place) → times here ps ≡ 0 → times at ps ≤ 1 → (same : Bool) → same_place at here ≡ same → one_if same + times at ps ≤ 1
  one_more at here ps z f true e = let t : times at ps ≡ 0 = ap (λ q. times q ps) (same_is at here e) ∙ z in omega (arith, t)
  one_more at here ps z f false e = omega (arith, f)

  once : {before rest : List ℕ} {ps : List Piece} → Pieces before ps rest → (at : Place) → times at (places (tokens_from names before ps)) ≤ 1
  once none at = omega arith
  once (next {before = before} {u = u} {kind = p.Token kind} {more = more} n m) at =
      one_more at (place_after before) (places (tokens_from names (before ++ u) more)) (none_before m (place_after before) (piece_ahead before u n)) (once m at) (same_place at (place_after before)) refl
  once (next {kind = p.Blank} n m) at = once m at
  once (next {kind = p.Comment} n m) at = once m at
  once (next {kind = p.Skipped} n m) at = once m at

pushed_same : {A : Type 0} (xs ys : List A) (x y : A) → xs ++ x ∷ [] ≡ ys ++ y ∷ [] → xs ≡ ys
pushed_same [] [] x y e = refl
pushed_same [] (z ∷ ys) x y e = absurd (omega (arith, ap length e, length-append ys (y ∷ [])))
pushed_same (z ∷ xs) [] x y e = absurd (omega (arith, ap length e, length-append xs (x ∷ [])))
pushed_same (z ∷ xs) (w ∷ ys) x y e =
    let h : z ≡ w = cc in
    let t : xs ++ x ∷ [] ≡ ys ++ y ∷ [] = cc in
    ap₂ (λ a l. a ∷ l) h (pushed_same xs ys x y t)

-- of the tokens before the last each has a place of its own
pub tokens_once : (text : List ℕ) (tokens front : List Token) (last : Token) → IsCutInto text tokens → tokens ≡ front ++ last ∷ [] → (at : Place) → times at (places front) ≤ 1
tokens_once text tokens front last c e at =
    let names = first_seen (names_of c.pieces) in
    let same : front ≡ tokens_from names [] c.pieces = pushed_same front (tokens_from names [] c.pieces) last (end_token (joined c.pieces)) (sym e ∙ c.is) in
    subst (λ ts. times at (places ts) ≤ 1) (sym same) (once names c.cut.each at)

-- ---- lists

none_same : (p : Place) (ps : List Place) → times p ps ≡ 0 → All (λ q. same_place p q ≡ false) ps
none_same p [] z = All-nil (λ q. same_place p q ≡ false)
none_same p (q ∷ ps) z = on (same_place p q) refl z (none_same p ps)
  where
    on : (same : Bool) → same_place p q ≡ same → one_if same + times p ps ≡ 0 → (times p ps ≡ 0 → All (λ q. same_place p q ≡ false) ps) → All (λ q. same_place p q ≡ false) (q ∷ ps)
    on true e z rest = absurd (omega (arith, z))
    on false e z rest = All-cons (λ q. same_place p q ≡ false) q ps e (rest (omega (arith, z)))

none_apart : AreApart []
none_apart i j d lt within = absurd (omega (arith, within))

-- places of which each stands there once are apart
pub once_apart : (ps : List Place) → ((at : Place) → times at ps ≤ 1) → AreApart ps
once_apart [] h = none_apart
once_apart (p ∷ ps) h =
    let self : one_if (same_place p p) ≡ 1 = ap one_if (same_self p) in
    let own : one_if (same_place p p) + times p ps ≤ 1 = h p in
    AllPairs-cons (λ p q. same_place p q ≡ false) p ps (none_same p ps (omega (arith, self, own)))
    (once_apart ps (λ at. let all : one_if (same_place at p) + times at ps ≤ 1 = h at in omega (arith, all)))
