-- Where no expression begins its parsers stop at once, whatever the levels.
use Rattle.std.proofs.Common.{◌≡◌, ℕ, zero, suc, Bool, true, false, if◌then◌else◌, ◌||◌, ◌&&◌, List, [], ◌∷◌, length, Option, Some, None, is_some, Ok, Err, refl, sym, ap, ◌∙◌}
use Rattle.al_lex.specs.declared.kind.TokenKind.{TokenKind}
use Rattle.al_lex.specs.declared.kind.TokenKind.TheVariants as k
use Rattle.al_lex.specs.declared.token.Token.{Token}
use Rattle.al_tree.specs.Words.{start, prefix_operator}
use Rattle.al_tree.specs.Types.{Leaves}
use Rattle.al_tree.specs.Reading.{Outcome, Parser, and_then, ◌>>=◌, ◌>>◌, pure, refuse, refusal, kind, same_kind, looks, peek, here, take_if, expect}
use Rattle.al_tree.specs.declared.cursor.ParseError.TheVariants.{Stuck}
use Rattle.al_parse_type.specs.Parse.{sees_other_name, other_name}
use Rattle.al_parse_expr.specs.Parse as parse
use Rattle.al_parse_expr.specs.Parse.{Sized, Listed, begins_value, no_room, within}
use Rattle.al_parse_expr.specs.declared.operand.Operand.{Operand}
use Rattle.al_parse_expr.specs.declared.operand.Want.{Want}
use Rattle.al_parse_expr.specs.declared.operand.Want.TheVariants as want
use Rattle.al_parse_expr.proofs.Begins.{neither, none_op}

module _ (leaves : Leaves) (types : List ℕ) where
  record NoValue (ts : List Token) : Type 0 where
    number : same_kind (kind ts) k.Number ≡ false
    char : same_kind (kind ts) k.Char ≡ false
    text : same_kind (kind ts) k.Text ≡ false
    nil : same_kind (kind ts) k.Nil ≡ false
    paren : same_kind (kind ts) k.LeftParen ≡ false
    size : same_kind (kind ts) k.Sizeof ≡ false
    prefix : prefix_operator (kind ts) ≡ None
    name : sees_other_name types ts ≡ false

  none_of : (ts : List Token) → begins_value types ts ≡ false → NoValue ts
  unfolding begins_value
  none_of ts b =
      let p1 = neither (same_kind (kind ts) k.Number) _ b in
      let p2 = neither (same_kind (kind ts) k.Char) _ p1.1 in
      let p3 = neither (same_kind (kind ts) k.Text) _ p2.1 in
      let p4 = neither (same_kind (kind ts) k.Nil) _ p3.1 in
      let p5 = neither (same_kind (kind ts) k.LeftParen) _ p4.1 in
      let p6 = neither (same_kind (kind ts) k.Sizeof) _ p5.1 in
      let p7 = neither (is_some (prefix_operator (kind ts))) _ p6.1 in
      record { number = p1.0; char = p2.0; text = p3.0; nil = p4.0; paren = p5.0; size = p6.0; prefix = none_op (prefix_operator (kind ts)) p7.0; name = p7.1 }

  other_stops : (ts : List Token) → sees_other_name types ts ≡ false → other_name types ts ≡ Err (Stuck (length ts))
  unfolding other_name
  other_stops ts h = rw h refl

  prim_stops : (turns depth : ℕ) (sub : Want → Parser Sized) (kd : TokenKind) (ts : List Token) → kind ts ≡ kd → NoValue ts → parse.prim_by leaves types turns depth sub kd ts ≡ Err (Stuck (length ts))
  unfolding same_kind
  prim_stops turns depth sub k.Number ts c q = absurd (let n : true ≡ false = sym (ap (λ kd. same_kind kd k.Number) c) ∙ q.number in let f : ⊥ = cc in f)
  prim_stops turns depth sub k.Char ts c q = absurd (let n : true ≡ false = sym (ap (λ kd. same_kind kd k.Char) c) ∙ q.char in let f : ⊥ = cc in f)
  prim_stops turns depth sub k.Text ts c q = absurd (let n : true ≡ false = sym (ap (λ kd. same_kind kd k.Text) c) ∙ q.text in let f : ⊥ = cc in f)
  prim_stops turns depth sub k.Nil ts c q = absurd (let n : true ≡ false = sym (ap (λ kd. same_kind kd k.Nil) c) ∙ q.nil in let f : ⊥ = cc in f)
  prim_stops turns depth sub k.Name ts c q = rw (other_stops ts q.name) refl
  prim_stops turns depth sub _ ts c q = refl

  post_stops : (turns depth : ℕ) (sub : Want → Parser Sized) (ts : List Token) → NoValue ts → parse.post leaves types turns depth sub ts ≡ Err (Stuck (length ts))
  unfolding parse.post parse.prim
  post_stops turns depth sub ts q = ap (λ o. and_then o (parse.post_from leaves types turns depth sub turns (start ts))) (prim_stops turns depth sub (kind ts) ts refl q)

  unary_stops : (turns depth : ℕ) (sub : Want → Parser Sized) (ts : List Token) → NoValue ts → parse.unary leaves types turns depth sub ts ≡ Err (Stuck (length ts))
  unfolding parse.unary
  unary_stops turns depth sub ts q = rw (q.prefix, q.paren, q.size, post_stops turns depth sub ts q) refl

  want_stops : (turns depth : ℕ) (sub : Want → Parser Sized) → ((x : Want) (ts : List Token) → begins_value types ts ≡ false → sub x ts ≡ Err (Stuck (length ts))) → (x : Want) (ts : List Token) → begins_value types ts ≡ false → parse.at_want leaves types turns depth sub x ts ≡ Err (Stuck (length ts))
  unfolding parse.expr_at parse.asg parse.binary parse.opened parse.listed
  want_stops turns depth sub ih want.Expression ts b = rw (unary_stops turns depth sub ts (none_of ts b)) refl
  want_stops turns depth sub ih want.Assignment ts b = rw (unary_stops turns depth sub ts (none_of ts b)) refl
  want_stops turns depth sub ih (want.Binary l) ts b = rw (unary_stops turns depth sub ts (none_of ts b)) refl
  want_stops turns depth sub ih (want.Opened o) ts b = rw (ih want.Assignment ts b) refl

  zero_stops : (ts : List Token) → begins_value types ts ≡ false → no_room types ts ≡ Err (Stuck (length ts))
  unfolding no_room
  zero_stops ts b = rw b refl

  pub stops : (turns depth : ℕ) (x : Want) (ts : List Token) → begins_value types ts ≡ false → within leaves types turns depth x ts ≡ Err (Stuck (length ts))
  unfolding within
  stops turns zero x ts b = zero_stops ts b
  stops turns (suc n) x ts b = want_stops turns n (within leaves types turns n) (λ y us c. stops turns n y us c) x ts b
