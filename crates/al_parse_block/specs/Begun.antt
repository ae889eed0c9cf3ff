-- What stands behind a parenthesis that opens, where a type or an expression may stand: the first part of a tuple's type, the
-- type of a cast, or an assignment. Which of them it is, is known at its end.
use Rattle.std.specs.Prelude.{ℕ, zero, suc, pred, ◌+◌, ◌==◌, max, length, nat_lt, Bool, true, false, ◌&&◌, if◌then◌else◌, List, Ok, Err}
use Rattle.al_lex.specs.declared.kind.TokenKind.TheVariants as k
use Rattle.al_lex.specs.declared.token.Token.{Token}
use Rattle.al_tree.specs.Types.{Leaves}
use Rattle.al_tree.specs.Reading.{Outcome, Parser, and_then, ◌>>=◌, ◌>>◌, pure, refuse, same_kind, looks, peek, take_if}
use Rattle.al_tree.specs.declared.cursor.ParseError.TheVariants.{Deep}
use Rattle.al_tree.specs.declared.type_tree.TypeTree.{TypeTree}
use Rattle.al_tree.specs.declared.expression.Expr.TheVariants as e
use Rattle.al_parse_type.specs.Parse.{sees_type}
use Rattle.al_parse_type.specs.Within.{type_within, starred_within, tuple_within, type_behind}
use Rattle.al_parse_expr.specs.Parse.{Sized}
use Rattle.al_parse_expr.specs.Within.{assignment_within, operand_within, after_first, after_unary}
use Rattle.al_parse_block.specs.declared.part.Begun.{Begun}
use Rattle.al_parse_block.specs.declared.part.Begun.TheVariants as bg

abbrev pub SizedType : Type 0
SizedType = TypeTree × ℕ

abbrev pub SizedBegun : Type 0
SizedBegun = Begun × ℕ

-- whether that many tokens are left
abbrev pub leaves_off : Outcome SizedType → ℕ → Bool
leaves_off (Ok x) n = length x.1 == n
leaves_off (Err e) n = false

module _ (leaves : Leaves) (types : List ℕ) (turns : ℕ) where
  -- whether the tokens of the first list, up to those of the second, are the type of a cast of that height
  unfoldable pub castable : ℕ → List Token → List Token → Bool
  castable height ts r = leaves_off (starred_within leaves types turns height ts) (length r)

  -- a type that begins with no parenthesis
  unfoldable pub first_type : ℕ → Parser SizedBegun
  first_type depth ts = and_then (type_within leaves types turns depth ts) (λ x r. Ok ((bg.Type x.0 (castable x.1 ts r), x.1), r))

  -- the operand of the cast that begins with that parenthesis and that type, and the assignment that begins with the cast
  abbrev pub cast_operand : ℕ → Token → SizedType → Parser Sized
  cast_operand depth o x = do
    y ← operand_within leaves types turns (pred depth)
    after_unary leaves types turns (pred depth) o.place (e.Cast o.place x.0 y.0, max x.1 y.1 + 1)

  -- the same behind the other parenthesis
  unfoldable pub cast_begun : ℕ → Token → SizedType → Parser Sized
  cast_begun depth o x = take_if (nat_lt 1 depth) >> cast_operand depth o x

  -- the same of a parenthesis and the first expression in it
  unfoldable pub paren_begun : ℕ → Token → Sized → Parser Sized
  paren_begun depth o x = after_first leaves types turns (pred depth) o x >>= after_unary leaves types turns (pred depth) o.place

  -- the type or the assignment that begins with that parenthesis and what was read behind it
  abbrev pub begun_after : ℕ → Token → SizedBegun → Parser SizedBegun
  begun_after depth o (bg.Type x castable, h) = do
    next ← peek
    if castable && same_kind next k.RightParen then (cast_begun depth o (x, h) >>= (λ y. pure (bg.Value y.0, y.1))) else (tuple_within leaves types turns depth o.place (x, h) >>= (λ b. type_behind leaves types turns depth o.place b >>= (λ y. pure (bg.Type y.0 false, y.1))))
  begun_after depth o (bg.Value x, h) = paren_begun depth o (x, h) >>= (λ y. pure (bg.Value y.0, y.1))

  unfoldable pub value_begun : ℕ → Parser SizedBegun
  value_begun depth = assignment_within leaves types turns depth >>= (λ y. pure (bg.Value y.0, y.1))

  -- with at most that many levels, where `sub` parses with one less
  unfoldable pub begun_at : ℕ → Parser SizedBegun → Parser SizedBegun
  begun_at depth sub = do
    is_type ← looks (sees_type types)
    next ← peek
    if is_type then first_type depth else (if same_kind next k.LeftParen then (do o ← take_if (nat_lt 0 depth); x ← sub; begun_after depth o x) else value_begun depth)

  unfoldable pub begun : ℕ → Parser SizedBegun
  begun zero = begun_at zero refuse
  begun (suc depth) = begun_at (suc depth) (begun depth)
