-- One part of a postfix expression, behind what was read of it.
use Rattle.std.specs.Prelude.{ℕ, Bool, ◌||◌, if◌then◌else◌, List, Option, Some, None, is_some}
use Rattle.al_base.specs.declared.place.Place.{Place}
use Rattle.al_lex.specs.declared.kind.TokenKind.{TokenKind}
use Rattle.al_lex.specs.declared.kind.TokenKind.TheVariants as k
use Rattle.al_tree.specs.Words.{postfix_operator, access}
use Rattle.al_tree.specs.Types.{Leaves}
use Rattle.al_tree.specs.Reading.{Parser, ◌>>=◌, ◌>>◌, pure, peek, expect, same_kind}
use Rattle.al_tree.specs.declared.expression.PostfixOp.{PostfixOp}
use Rattle.al_tree.specs.declared.expression.Access.{Access}
use Rattle.al_parse_expr.specs.Parse.{Sized, index, member, call, postfix}
use Rattle.al_parse_expr.specs.declared.operand.Operand.{Operand}
use Rattle.al_parse_expr.specs.declared.operand.Want.{Want}
use Rattle.al_parse_expr.specs.declared.operand.Want.TheVariants as want

-- whether a postfix expression goes on with that token
unfoldable pub goes_on : TokenKind → Bool
goes_on next = is_some (access next) || (is_some (postfix_operator next) || (same_kind next k.LeftBracket || same_kind next k.LeftParen))

module _ (leaves : Leaves) (types : List ℕ) (turns depth : ℕ) (sub : Want → Parser Sized) where
  unfoldable pub enclosed : Place → Operand → Parser Operand
  enclosed at x = do
    next ← peek
    if same_kind next k.LeftBracket then index leaves types turns depth sub at x else call leaves types turns depth sub at x

  abbrev pub other_by : Place → Operand → Option PostfixOp → Parser Operand
  other_by at x (Some op) = postfix leaves types turns depth sub at op x
  other_by at x None = enclosed at x

  unfoldable pub other_part : Place → Operand → Parser Operand
  other_part at x = peek >>= (λ next. other_by at x (postfix_operator next))

  abbrev pub part_by : Place → Operand → Option Access → Parser Operand
  part_by at x (Some by) = member leaves types turns depth sub at by x
  part_by at x None = other_part at x

  -- the part that begins with the next token
  unfoldable pub part : Place → Operand → Parser Operand
  part at x = peek >>= (λ next. part_by at x (access next))

  -- an expression and the bracket that closes
  unfoldable pub bracketed : Parser Sized
  bracketed = do
    y ← sub want.Expression
    expect k.RightBracket
    pure y
