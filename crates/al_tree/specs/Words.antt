-- What single tokens are in the grammar.
use Rattle.std.specs.Prelude.{ℕ, ◌==◌, Bool, true, false, if◌then◌else◌, List, [], ◌∷◌, Option, Some, None}
use Rattle.al_base.specs.declared.place.Place.{Place}
use Rattle.al_lex.specs.declared.kind.TokenKind.{TokenKind}
use Rattle.al_lex.specs.declared.kind.TokenKind.TheVariants as k
use Rattle.al_lex.specs.declared.token.Token.{Token}
use Rattle.al_tree.specs.declared.type_tree.BasicType.{BasicType}
use Rattle.al_tree.specs.declared.type_tree.BasicType.TheVariants as basic
use Rattle.al_tree.specs.declared.type_tree.BoundOp.{BoundOp}
use Rattle.al_tree.specs.declared.type_tree.BoundOp.TheVariants as bo
use Rattle.al_tree.specs.declared.expression.UnaryOp.{UnaryOp}
use Rattle.al_tree.specs.declared.expression.UnaryOp.TheVariants as un
use Rattle.al_tree.specs.declared.expression.PostfixOp.{PostfixOp}
use Rattle.al_tree.specs.declared.expression.PostfixOp.TheVariants as post
use Rattle.al_tree.specs.declared.expression.BinaryOp.{BinaryOp}
use Rattle.al_tree.specs.declared.expression.BinaryOp.TheVariants as bin
use Rattle.al_tree.specs.declared.expression.AssignOp.{AssignOp}
use Rattle.al_tree.specs.declared.expression.AssignOp.TheVariants as asg
use Rattle.al_tree.specs.declared.expression.Access.{Access}
use Rattle.al_tree.specs.declared.expression.Access.TheVariants as acc
use Rattle.al_tree.specs.declared.item.Scope.{Scope}
use Rattle.al_tree.specs.declared.item.Scope.TheVariants as sc
use Rattle.al_tree.specs.declared.item.AggregateKind.{AggregateKind}
use Rattle.al_tree.specs.declared.item.AggregateKind.TheVariants as ag

-- where a list of tokens begins
abbrev pub start : List Token → Place
start [] = record { line = 1; col = 1 }
start (t ∷ ts) = t.place

-- the type that a reserved word names
abbrev pub basic_type : TokenKind → Option BasicType
basic_type k.Byte = Some basic.Byte
basic_type k.Sint = Some basic.Sint
basic_type k.Usint = Some basic.Usint
basic_type k.Int = Some basic.Int
basic_type k.Uint = Some basic.Uint
basic_type k.Lint = Some basic.Lint
basic_type k.Ulint = Some basic.Ulint
basic_type k.Void = Some basic.Void
basic_type _ = None

abbrev pub is_name : TokenKind → Bool
is_name k.Name = true
is_name _ = false

abbrev pub is_left_paren : TokenKind → Bool
is_left_paren k.LeftParen = true
is_left_paren _ = false

abbrev pub is_void : TokenKind → Bool
is_void k.Void = true
is_void _ = false

-- the words that begin a tuple and a channel type
abbrev pub is_tuple_or_chan : TokenKind → Bool
is_tuple_or_chan k.Tuple = true
is_tuple_or_chan k.Chan = true
is_tuple_or_chan _ = false

-- the operators of a bound's sums, and of its products
abbrev pub bound_sum : TokenKind → Option BoundOp
bound_sum k.Plus = Some bo.Plus
bound_sum k.Minus = Some bo.Minus
bound_sum _ = None

abbrev pub bound_product : TokenKind → Option BoundOp
bound_product k.Star = Some bo.Times
bound_product _ = None

abbrev pub prefix_operator : TokenKind → Option UnaryOp
prefix_operator k.Plus = Some un.Plus
prefix_operator k.Minus = Some un.Minus
prefix_operator k.Not = Some un.Not
prefix_operator k.Tilde = Some un.Complement
prefix_operator k.Star = Some un.Indirect
prefix_operator k.And = Some un.Address
prefix_operator k.PlusPlus = Some un.Increment
prefix_operator k.MinusMinus = Some un.Decrement
prefix_operator k.LeftArrow = Some un.Receive
prefix_operator k.Question = Some un.CanReceive
prefix_operator k.Zerox = Some un.Zerox
prefix_operator _ = None

abbrev pub postfix_operator : TokenKind → Option PostfixOp
postfix_operator k.PlusPlus = Some post.Increment
postfix_operator k.MinusMinus = Some post.Decrement
postfix_operator k.Question = Some post.CanSend
postfix_operator _ = None

abbrev pub access : TokenKind → Option Access
access k.Dot = Some acc.Dot
access k.Arrow = Some acc.Arrow
access _ = None

-- how loosely a binary operator binds: products bind tightest; level 3 is that of `::`, which is no binary operator
abbrev pub level : TokenKind → ℕ
level k.Star = 0
level k.Slash = 0
level k.Percent = 0
level k.Plus = 1
level k.Minus = 1
level k.ShiftLeft = 2
level k.ShiftRight = 2
level k.Less = 4
level k.Greater = 4
level k.LessEqual = 4
level k.GreaterEqual = 4
level k.EqualEqual = 5
level k.NotEqual = 5
level k.And = 6
level k.Caret = 7
level k.Or = 8
level k.AndAnd = 9
level k.OrOr = 10
level _ = 11

abbrev pub operation : TokenKind → Option BinaryOp
operation k.Star = Some bin.Multiply
operation k.Slash = Some bin.Divide
operation k.Percent = Some bin.Remainder
operation k.Plus = Some bin.Add
operation k.Minus = Some bin.Subtract
operation k.ShiftLeft = Some bin.ShiftLeft
operation k.ShiftRight = Some bin.ShiftRight
operation k.Less = Some bin.Less
operation k.Greater = Some bin.Greater
operation k.LessEqual = Some bin.LessEqual
operation k.GreaterEqual = Some bin.GreaterEqual
operation k.EqualEqual = Some bin.Equal
operation k.NotEqual = Some bin.NotEqual
operation k.And = Some bin.BitAnd
operation k.Caret = Some bin.BitXor
operation k.Or = Some bin.BitOr
operation k.AndAnd = Some bin.And
operation k.OrOr = Some bin.Or
operation _ = None

-- the binary operator of that level
abbrev pub operator : ℕ → TokenKind → Option BinaryOp
operator l kind = if level kind == l then operation kind else None

abbrev pub assign_operator : TokenKind → Option AssignOp
assign_operator k.Equal = Some asg.Assign
assign_operator k.PlusEqual = Some (asg.Compound bin.Add)
assign_operator k.MinusEqual = Some (asg.Compound bin.Subtract)
assign_operator k.StarEqual = Some (asg.Compound bin.Multiply)
assign_operator k.SlashEqual = Some (asg.Compound bin.Divide)
assign_operator k.PercentEqual = Some (asg.Compound bin.Remainder)
assign_operator k.AndEqual = Some (asg.Compound bin.BitAnd)
assign_operator k.OrEqual = Some (asg.Compound bin.BitOr)
assign_operator k.CaretEqual = Some (asg.Compound bin.BitXor)
assign_operator k.ShiftLeftEqual = Some (asg.Compound bin.ShiftLeft)
assign_operator k.ShiftRightEqual = Some (asg.Compound bin.ShiftRight)
assign_operator k.LeftArrowEqual = Some asg.Send
assign_operator _ = None

abbrev pub scope_word : TokenKind → Option Scope
scope_word k.Intern = Some sc.Intern
scope_word k.Extern = Some sc.Extern
scope_word k.Private = Some sc.Private
scope_word _ = None

-- the word before a member of an adt
abbrev pub member_scope : TokenKind → Option Scope
member_scope k.Intern = Some sc.Intern
member_scope k.Extern = Some sc.Extern
member_scope _ = None

-- the kinds of types that a list of plain members follows
abbrev pub plain_aggregate : TokenKind → Option AggregateKind
plain_aggregate k.Aggr = Some ag.Aggr
plain_aggregate k.Union = Some ag.Union
plain_aggregate _ = None

abbrev pub aggregate : TokenKind → Option AggregateKind
aggregate k.Aggr = Some ag.Aggr
aggregate k.Union = Some ag.Union
aggregate k.Adt = Some ag.Adt
aggregate _ = None
