-- A turn of a postfix expression's loop: one part more, or the end.
use Rattle.std.proofs.Common.{◌≡◌, ℕ, suc, Bool, true, false, if◌then◌else◌, ◌||◌, List, Option, Some, None, is_some, Ok, refl, sym, ap, ◌∙◌}
use Rattle.al_base.specs.declared.place.Place.{Place}
use Rattle.al_lex.specs.declared.kind.TokenKind.{TokenKind}
use Rattle.al_lex.specs.declared.kind.TokenKind.TheVariants as k
use Rattle.al_lex.specs.declared.token.Token.{Token}
use Rattle.al_tree.specs.Words.{postfix_operator, access}
use Rattle.al_tree.specs.Types.{Leaves}
use Rattle.al_tree.specs.Reading.{Outcome, Parser, and_then, ◌>>=◌, pure, kind, same_kind}
use Rattle.al_tree.specs.declared.expression.PostfixOp.{PostfixOp}
use Rattle.al_tree.specs.declared.expression.Access.{Access}
use Rattle.al_parse_expr.specs.Parse.{Sized, index, call, post_by, post_from}
use Rattle.al_parse_expr.specs.Part.{goes_on, enclosed, other_by, other_part, part_by, part}
use Rattle.al_parse_expr.specs.declared.operand.Operand.{Operand}
use Rattle.al_parse_expr.specs.declared.operand.Want.{Want}

module _ (leaves : Leaves) (types : List ℕ) (turns depth : ℕ) (sub : Want → Parser Sized) where
  brackets : (go : Operand → Parser Sized) (at : Place) (x : Operand) (ts : List Token) (b c : Bool) → (if b then index leaves types turns depth sub at x >>= go else (if c then call leaves types turns depth sub at x >>= go else pure (x.tree, x.height))) ts
      ≡ (if b || c then and_then ((if b then index leaves types turns depth sub at x else call leaves types turns depth sub at x) ts) go else Ok ((x.tree, x.height), ts))
  brackets go at x ts true c = refl
  brackets go at x ts false true = refl
  brackets go at x ts false false = refl

  by_is : (go : Operand → Parser Sized) (at : Place) (x : Operand) (ts : List Token) (a : Option Access) (o : Option PostfixOp) → postfix_operator (kind ts) ≡ o
      → post_by leaves types turns depth sub go at x (kind ts) a o ts
      ≡ (if is_some a || (is_some o || (same_kind (kind ts) k.LeftBracket || same_kind (kind ts) k.LeftParen)) then and_then (part_by leaves types turns depth sub at x a ts) go else Ok ((x.tree, x.height), ts))
  unfolding other_part enclosed
  by_is go at x ts (Some by) o h = refl
  by_is go at x ts None (Some op) h = ap (λ q. and_then (other_by leaves types turns depth sub at x q ts) go) (sym h)
  by_is go at x ts None None h = brackets go at x ts (same_kind (kind ts) k.LeftBracket) (same_kind (kind ts) k.LeftParen)
      ∙ ap (λ q. if same_kind (kind ts) k.LeftBracket || same_kind (kind ts) k.LeftParen then and_then (other_by leaves types turns depth sub at x q ts) go else Ok ((x.tree, x.height), ts)) (sym h)

  pub turn_is : (m : ℕ) (at : Place) (x : Operand) (ts : List Token) → post_from leaves types turns depth sub (suc m) at x ts
      ≡ (if goes_on (kind ts) then and_then (part leaves types turns depth sub at x ts) (post_from leaves types turns depth sub m at) else Ok ((x.tree, x.height), ts))
  unfolding post_from goes_on part
  turn_is m at x ts = by_is (post_from leaves types turns depth sub m at) at x ts (access (kind ts)) (postfix_operator (kind ts)) refl
