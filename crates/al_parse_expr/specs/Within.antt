-- What parsers of larger parts read of expressions. `depth` is the number of levels that an expression may have at most;
-- what goes on behind a first part may come to `depth + 1`.
use Rattle.std.specs.Prelude.{ℕ, List, [], ◌∷◌}
use Rattle.al_base.specs.declared.place.Place.{Place}
use Rattle.al_lex.specs.declared.kind.TokenKind.TheVariants as k
use Rattle.al_lex.specs.declared.token.Token.{Token}
use Rattle.al_tree.specs.Types.{Leaves}
use Rattle.al_tree.specs.Reading.{Parser, ◌>>=◌, ◌>>◌, expect}
use Rattle.al_tree.specs.declared.expression.Expr.TheVariants as e
use Rattle.al_parse_expr.specs.Parse.{Sized, Listed, operand, closed, within, listed, more_from, post_from, opened, asg_after, expr_after}
use Rattle.al_parse_expr.specs.declared.operand.Want.TheVariants as want

module _ (leaves : Leaves) (types : List ℕ) (turns depth : ℕ) where
  abbrev pub expression_within : Parser Sized
  expression_within = within leaves types turns depth want.Expression

  abbrev pub assignment_within : Parser Sized
  assignment_within = within leaves types turns depth want.Assignment

  -- unary
  abbrev pub operand_within : Parser Sized
  operand_within = within leaves types turns depth (want.Binary 0)

  -- asg ("," asg)*
  abbrev pub list_within : Parser Listed
  list_within = listed leaves types turns depth (within leaves types turns depth)

  -- the postfix expression that begins with that name
  abbrev pub after_name : Token → Parser Sized
  after_name t = post_from leaves types turns depth (within leaves types turns depth) turns t.place (record { tree = e.Name t.place t.name; height = 1; called = 0 })

  -- the postfix expression that begins with that parenthesis
  abbrev pub after_paren : Token → Parser Sized
  after_paren = opened leaves types turns depth (within leaves types turns depth)

  -- the same where the first expression inside was read
  unfoldable pub after_first : Token → Sized → Parser Sized
  after_first o x = do
    xs ← more_from leaves types turns depth (within leaves types turns depth) turns (x.0 ∷ []) x.1
    expect k.RightParen
    post_from leaves types turns depth (within leaves types turns depth) turns o.place (operand (closed o.place xs).0 (closed o.place xs).1)

  -- the assignment that begins with that unary expression, and the expression that begins with that assignment
  abbrev pub after_unary : Place → Sized → Parser Sized
  after_unary = asg_after leaves types turns depth (within leaves types turns depth)

  abbrev pub after_assignment : Place → Sized → Parser Sized
  after_assignment = expr_after leaves types turns depth (within leaves types turns depth)
