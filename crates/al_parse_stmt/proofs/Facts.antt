-- Lists of tokens at one of their tokens.
use Rattle.std.proofs.Common.{◌≡◌, ℕ, zero, suc, ◌<◌, List, [], ◌∷◌, ◌++◌, length, Ok, Err, refl, ap, ◌∙◌, arith, append-nil, length-append}
use Rattle.al_lex.specs.declared.token.Token.{Token}
use Rattle.al_tree.specs.Words.{start}
use Rattle.al_tree.specs.Reading.{Outcome}
use Rattle.al_tree.specs.declared.cursor.ParseError.{ParseError}
use Rattle.al_parse_stmt.proofs.Outcomes.{behind}

pub never_ok : {A : Type 0} (e : ParseError) (x : A × List Token) → ◌≡◌ {A = Outcome A} (Err e) (Ok x) → ⊥
never_ok e x h = cc

-- where a list begins does not depend on what stands behind its first token
pub start_behind : (s u r : List Token) → 0 < length u → start (s ++ (u ++ r)) ≡ start (s ++ u)
start_behind [] [] r long = absurd (omega arith)
start_behind [] (t ∷ u) r long = refl
start_behind (t ∷ s) u r long = refl

-- ---- cuts of lists

-- a list at one of its tokens
pub record At (ts : List Token) (i : ℕ) : Type 0 where
  pub before : List Token
  pub token : Token
  pub after : List Token
  pub cut : ts ≡ before ++ token ∷ after
  pub number : length before ≡ i

unfoldable pub token_at : (ts : List Token) (i : ℕ) → i < length ts → At ts i
token_at [] i h = absurd (omega (arith, h))
token_at (t ∷ ts) zero h = record { before = []; token = t; after = ts; cut = refl; number = refl }
token_at (t ∷ ts) (suc i) h = let q = token_at ts i (omega (arith, h)) in record { before = t ∷ q.before; token = q.token; after = q.after; cut = ap (λ l. t ∷ l) q.cut; number = ap suc q.number }

pub nothing : (l : List Token) → length l ≡ 0 → l ≡ []
nothing [] h = refl
nothing (t ∷ l) h = absurd (omega (arith, h))

-- what stands before the same list is the same
pub same_front : (u v r : List Token) → u ++ r ≡ v ++ r → v ≡ u
same_front u v r e =
    let b = behind u r v r e (omega arith) in
    let none : b.more ≡ [] = nothing b.more (omega (arith, ap length b.cut, length-append b.more r)) in
    b.is ∙ ap (λ m. u ++ m) none ∙ append-nil u
