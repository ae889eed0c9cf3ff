-- What the parser of initializers does by the next token, at any number of levels.
use Rattle.std.proofs.Common.{◌≡◌, ℕ, zero, suc, ◌+◌, ◌-◌, nat_lt, true, false, List, [], ◌∷◌, refl, ap, arith}
use Rattle.al_lex.specs.declared.kind.TokenKind.TheVariants as k
use Rattle.al_lex.specs.declared.token.Token.{Token}
use Rattle.al_tree.specs.Types.{Leaves}
use Rattle.al_tree.specs.Reading.{Parser, and_then, pure, kind, same_kind, take_if}
use Rattle.al_tree.specs.declared.item.Initializer.TheVariants as ini
use Rattle.al_parse_expr.specs.Within.{assignment_within}
use Rattle.al_parse_member.specs.Members.{initializer, initializer_at, braces, parts_from}

-- what does not fit is not read on
too_deep : {A : Type 0} (ts : List Token) (f g : Token → Parser A) → and_then (take_if false ts) f ≡ and_then (take_if false ts) g
unfolding take_if
too_deep [] f g = refl
too_deep (t ∷ ts) f g = refl

module _ (leaves : Leaves) (types : List ℕ) (turns : ℕ) where
  pub value_is : (n : ℕ) (ts : List Token) → same_kind (kind ts) k.LeftBrace ≡ false → initializer leaves types turns n ts ≡ and_then (assignment_within leaves types turns n ts) (λ x. pure (ini.Value x.0, x.1))
  unfolding initializer initializer_at
  value_is zero ts f = rw f refl
  value_is (suc n) ts f = rw f refl

  pub braces_is : (n : ℕ) (ts : List Token) → same_kind (kind ts) k.LeftBrace ≡ true
      → initializer leaves types turns n ts ≡ and_then (take_if (nat_lt 1 n) ts) (λ o r. and_then (parts_from leaves types turns n (initializer leaves types turns (n - 1)) turns [] 0 r) (λ xs. pure (ini.Braces o.place xs.0, xs.1 + 1)))
  unfolding initializer initializer_at braces
  braces_is zero ts f = rw f (too_deep ts _ _)
  braces_is (suc n) ts f =
      let e : n ≡ suc n - 1 = omega arith in
      rw f (ap (λ m. and_then (take_if (nat_lt 1 (suc n)) ts) (λ o r. and_then (parts_from leaves types turns (suc n) (initializer leaves types turns m) turns [] 0 r) (λ xs. pure (ini.Braces o.place xs.0, xs.1 + 1)))) e)
