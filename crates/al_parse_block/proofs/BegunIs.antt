-- What the code for the part behind a parenthesis reads, case by case.
use Rattle.std.proofs.Common.{◌≡◌, ℕ, zero, suc, ◌-◌, ◌<◌, nat_lt, Bool, true, false, List, [], ◌∷◌, Ok, Err, refl, sym, ap, arith}
use Rattle.al_lex.specs.declared.kind.TokenKind.TheVariants as k
use Rattle.al_lex.specs.declared.token.Token.{Token}
use Rattle.al_tree.specs.Types.{Leaves}
use Rattle.al_tree.specs.Reading.{and_then, kind, same_kind, take_if}
use Rattle.al_parse_type.specs.Parse.{sees_type}
use Rattle.al_parse_block.specs.Begun.{begun, begun_at, begun_after, first_type, value_begun}

pub begun_type : (leaves : Leaves) (types : List ℕ) (turns depth : ℕ) (ts : List Token) → sees_type types ts ≡ true → begun leaves types turns depth ts ≡ first_type leaves types turns depth ts
unfolding begun begun_at
begun_type leaves types turns zero ts b = rw b refl
begun_type leaves types turns (suc depth) ts b = rw b refl

pub begun_value : (leaves : Leaves) (types : List ℕ) (turns depth : ℕ) (ts : List Token) → sees_type types ts ≡ false → same_kind (kind ts) k.LeftParen ≡ false → begun leaves types turns depth ts ≡ value_begun leaves types turns depth ts
unfolding begun begun_at
begun_value leaves types turns zero ts b f = rw (b, f) refl
begun_value leaves types turns (suc depth) ts b f = rw (b, f) refl

pub begun_deep : (leaves : Leaves) (types : List ℕ) (turns depth : ℕ) (ts : List Token) → sees_type types ts ≡ false → same_kind (kind ts) k.LeftParen ≡ true
    → begun leaves types turns depth ts ≡ and_then (take_if (nat_lt 0 depth) ts) (λ o r. and_then (begun leaves types turns (depth - 1) r) (begun_after leaves types turns depth o))
unfolding begun begun_at take_if
begun_deep leaves types turns zero [] b f = rw (b, f) refl
begun_deep leaves types turns zero (t ∷ ts) b f = rw (b, f) refl
begun_deep leaves types turns (suc depth) ts b f = let e : suc depth - 1 ≡ depth = omega arith in rw (b, f) (ap (λ m. and_then (take_if (nat_lt 0 (suc depth)) ts) (λ o r. and_then (begun leaves types turns m r) (begun_after leaves types turns (suc depth) o))) (sym e))
