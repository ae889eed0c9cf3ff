-- The measures of a program: how wide its values are, how heavy its functions, and how many words a function takes on a
-- task's stack.
--
-- Nodes are counted as the text has them: the value of a place, an array as a value and a conversion that the typing rules
-- made are no nodes beside what they are made of. The words of a place that stands before `.` and is not passed by value,
-- and of the operand of `&` or sizeof, are taken as one.
use Rattle.std.specs.Prelude.{ℕ, ◌+◌, ◌/◌, ◌≤◌, nat_lt, max, Bool, true, false, if◌then◌else◌, List, [], ◌∷◌, ◌++◌, fold, sum_by, filter, length, drop, Option, Some, None, slice_get, unwrap_or, Result, Ok, Err}
use Rattle.std.specs.List.{flat_map}
use Rattle.al_typed.specs.declared.ty.Ty.{Ty}
use Rattle.al_typed.specs.declared.ty.Ty.TheVariants as ty
use Rattle.al_typed.specs.declared.limit.Limit.{Limit}
use Rattle.al_typed.specs.declared.limit.Limit.TheVariants as limit
use Rattle.al_typed.specs.declared.tally.Tally.{Tally}
use Rattle.al_typed.specs.declared.measure.Totals.{Totals}
use Rattle.al_typed.specs.declared.piece.Piece.{Piece}
use Rattle.al_typed.specs.declared.piece.Piece.TheVariants as piece
use Rattle.al_typed.specs.declared.expression.Passed.{Passed}
use Rattle.al_typed.specs.declared.expression.Passed.TheVariants as passed
use Rattle.al_typed.specs.declared.expression.PrintPiece.{PrintPiece}
use Rattle.al_typed.specs.declared.expression.PrintPiece.TheVariants as print
use Rattle.al_typed.specs.declared.expression.TExpr.{TExpr, Constant, Text, Nil, Function, SizeofType, Tuple', Call', CallPointer', Print', Sequence', Iterator, Held-TExpr-Call-2, None', Some', Row_of-TExpr, end_of-TExpr, more_of-TExpr, Row_of-TTarget, end_of-TTarget, more_of-TTarget, end_of-TReceiver, more_of-TReceiver}
use Rattle.al_typed.specs.declared.expression.TPlace.{TPlace, Local, Outer, Global}
use Rattle.al_typed.specs.declared.expression.TTarget.{TTarget, Dropped, Parts'}
use Rattle.al_typed.specs.declared.expression.TReceiver.{TReceiver}
use Rattle.al_typed.specs.declared.program.Function.{Function as FunctionRow}
use Rattle.al_typed.specs.declared.program.Local.{Local as LocalRow}
use Rattle.al_typed.specs.declared.program.Global.{Global as GlobalRow}
use Rattle.al_typed.specs.declared.program.Program.{Program}
use Rattle.al_typed.specs.declared.statement.TBounds.{TBounds}
use Rattle.al_typed.specs.declared.statement.TInitializer.{TInitializer}
use Rattle.al_typed.specs.declared.statement.TCommunication.{TCommunication}
use Rattle.al_typed.specs.declared.statement.TCommunication.TheVariants as talk
use Rattle.al_typed.specs.declared.statement.TStmt.{TStmt, Empty, Block', Declare, Value, If', Switch', Case, Default, Alt', AltCase, Par, Raise, Goto, Return, Become, Break, Continue, Alloc, Unalloc, Check, Proc, Task, Held-TStmt-If-3, Row_of-TStmt, end_of-TStmt, more_of-TStmt}
use Rattle.al_typed.specs.declared.statement.TStmt as stmt
use Rattle.al_typed.specs.ExpressionForms as form
use Rattle.al_typed.specs.StatementForms as part
use Rattle.al_typed.specs.Capped.{capped}
use Rattle.al_typed.specs.Layout.{words_of, size_of}
use Rattle.al_typed.specs.Typed.{type_of, target_type, callee_of, parameter_types, local_types}

-- ---- the pieces of a function

-- a node with a value of that type; `named` says that its words are taken as one
abbrev pub node : (named : Bool) → Ty → Piece
node named t = if named then piece.Named else piece.Value t

-- whether an object before `.` has its words taken as one
abbrev pub is_named : Passed → Bool
is_named passed.Address = true
is_named passed.Value = false
is_named passed.Nothing = true

-- the bytes that a part of a format stands as in the text
abbrev pub piece_length : PrintPiece → ℕ
piece_length (print.Byte _) = 1
piece_length _ = 2

abbrev pub format_length : List PrintPiece → ℕ
format_length format = sum_by piece_length format

unfoldable mutual
  pub pieces : (named : Bool) → TExpr → List Piece
  pieces named (Constant t _) = node named t ∷ []
  pieces named (Text t number) = node named t ∷ piece.Text number ∷ []
  pieces named (Nil t) = node named t ∷ []
  pieces named (Function t _) = node named t ∷ []
  pieces named (form.load t place) = place_pieces named place
  pieces named (form.decay t place) = place_pieces named place
  pieces named (form.address t place) = node named t ∷ place_pieces true place
  pieces named (SizeofType t _) = node named t ∷ []
  pieces named (form.sizeof_place t place) = node named t ∷ place_pieces true place
  pieces named (form.sizeof_value t value) = node named t ∷ pieces true value
  pieces named (form.unary t op of) = node named t ∷ pieces false of
  pieces named (form.negation t of) = node named t ∷ pieces false of
  pieces named (form.binary t op kind left right) = node named t ∷ pieces false left ++ pieces false right
  pieces named (form.logical t op left right) = node named t ∷ pieces false left ++ pieces false right
  pieces named (form.movement t how pointer count) = node named t ∷ pieces false pointer ++ pieces false count
  pieces named (form.difference t left right) = node named t ∷ pieces false left ++ pieces false right
  pieces named (form.assign t target value) = node named t ∷ piece.Copied t ∷ target_pieces target ++ pieces false value
  pieces named (form.update t place change value) = node named t ∷ place_pieces false place ++ pieces false value
  pieces named (form.stepped t op place) = node named t ∷ place_pieces false place
  pieces named (form.zerox t place) = node named t ∷ place_pieces false place
  pieces named (Tuple' t _ parts) = node named t ∷ row_pieces parts
  pieces named (Call' t function receiver _ arguments) = node named t ∷ receiver_pieces receiver ++ row_pieces arguments
  pieces named (CallPointer' t _ (more_of-TExpr pointer end_of-TExpr) _ arguments) =
      node named t ∷ piece.Copied t ∷ pieces false pointer ++ copied_pieces arguments
  pieces named (Print' t format _ arguments) = node named t ∷ piece.Named ∷ piece.Format (format_length format) ∷ row_pieces arguments
  pieces named (form.terminate t status) = node named t ∷ pieces false status
  pieces named (form.receive t chan) = node named t ∷ piece.Talk t ∷ piece.Copied t ∷ pieces false chan
  pieces named (form.send t chan value) =
      node named t ∷ piece.Talk (type_of value) ∷ piece.Copied (type_of value) ∷ pieces false chan ++ pieces false value
  pieces named (form.can_receive t chan) = node named t ∷ pieces false chan
  pieces named (form.can_send t chan) = node named t ∷ pieces false chan
  pieces named (form.member_of t value path) = node named t ∷ pieces false value
  pieces named (form.cast t of) = node named t ∷ pieces false of
  pieces named (form.convert t of) = pieces named of
  pieces named (Sequence' t _ first _ (more_of-TExpr last end_of-TExpr)) = node named t ∷ row_pieces first ++ pieces false last
  pieces named (Iterator t _) = node named t ∷ piece.Iterator ∷ []

  pub place_pieces : (named : Bool) → TPlace → List Piece
  place_pieces named (Local t _) = node named t ∷ []
  place_pieces named (Outer t _ _) = node named t ∷ []
  place_pieces named (Global t _) = node named t ∷ []
  place_pieces named (form.pointed t pointer) = node named t ∷ pieces false pointer
  place_pieces named (form.element t base index) = node named t ∷ pieces false base ++ pieces false index
  place_pieces named (form.member_in t of path) = node named t ∷ place_pieces true of
  place_pieces named (form.pointed_member t pointer path) = node named t ∷ pieces false pointer

  pub target_pieces : TTarget → List Piece
  target_pieces (form.into place) = place_pieces false place
  target_pieces (Dropped t) = piece.Value t ∷ []
  target_pieces (Parts' t _ parts) = piece.Value t ∷ targets_pieces parts

  pub targets_pieces : {m : _} → Row_of-TTarget m → List Piece
  targets_pieces end_of-TTarget = []
  targets_pieces (more_of-TTarget target rest) = target_pieces target ++ targets_pieces rest

  pub receiver_pieces : Held-TExpr-Call-2 → List Piece
  receiver_pieces None' = []
  receiver_pieces (Some' _ (more_of-TReceiver receiver end_of-TReceiver)) = object_pieces receiver

  pub object_pieces : TReceiver → List Piece
  object_pieces (form.place_before place path how) = place_pieces (is_named how) place
  object_pieces (form.value_before value path how) = pieces false value
  object_pieces (form.pointer_before pointer path how) = pieces false pointer

  pub row_pieces : {m : _} → Row_of-TExpr m → List Piece
  row_pieces end_of-TExpr = []
  row_pieces (more_of-TExpr e rest) = pieces false e ++ row_pieces rest

  -- of arguments that go to a function by a pointer
  pub copied_pieces : {m : _} → Row_of-TExpr m → List Piece
  copied_pieces end_of-TExpr = []
  copied_pieces (more_of-TExpr e rest) = piece.Copied (type_of e) ∷ pieces false e ++ copied_pieces rest

abbrev pub whole_pieces : TExpr → List Piece
whole_pieces e = pieces false e

-- an argument that goes to a function by a pointer
abbrev pub argument_pieces : TExpr → List Piece
argument_pieces e = piece.Copied (type_of e) ∷ pieces false e

abbrev pub optional_pieces : Option TExpr → List Piece
optional_pieces None = []
optional_pieces (Some e) = pieces false e

abbrev pub bounds_pieces : TBounds → List Piece
bounds_pieces b = pieces false b.from ++ pieces false b.to

abbrev pub initializer_pieces : TInitializer → List Piece
initializer_pieces i = piece.Copied (type_of i.value) ∷ pieces false i.value

abbrev pub started : Option ℕ → List Piece
started (Some function) = piece.Start function ∷ []
started None = []

abbrev pub branch_pieces : ℕ → List Piece
branch_pieces number = piece.ParBranch number ∷ []

abbrev pub start_pieces : TExpr → List Piece
start_pieces call = started (callee_of call) ++ pieces false call

abbrev pub receive_pieces : Ty → TExpr → List Piece
receive_pieces t chan = piece.Value t ∷ piece.Talk t ∷ piece.Copied t ∷ pieces false chan

abbrev pub communication_pieces : TCommunication → List Piece
communication_pieces (talk.Receive t chan) = piece.AltBranch t ∷ receive_pieces t chan
communication_pieces (talk.ReceiveInto t target chan) =
    piece.AltBranch t ∷ piece.Value (target_type target) ∷ piece.Copied (target_type target) ∷ target_pieces target ++ receive_pieces t chan
communication_pieces (talk.Send chan value) =
    piece.AltBranch (type_of value) ∷ piece.Value ty.Void ∷ piece.Talk (type_of value) ∷ piece.Copied (type_of value)
    ∷ pieces false chan ++ pieces false value

unfoldable mutual
  pub statement_pieces : TStmt → List Piece
  statement_pieces (Empty _) = piece.Statement ∷ []
  statement_pieces (Block' _ _ body) = piece.Statement ∷ body_pieces body
  statement_pieces (Declare _ initializers) = piece.Declaration ∷ flat_map initializer_pieces initializers
  statement_pieces (Value _ iterators value) = piece.Statement ∷ flat_map bounds_pieces iterators ++ pieces false value
  statement_pieces (part.label _ _ body) = piece.Statement ∷ statement_pieces body
  statement_pieces (If' _ condition _ (more_of-TStmt body end_of-TStmt) other) =
      piece.Statement ∷ pieces false condition ++ statement_pieces body ++ other_pieces other
  statement_pieces (part.while_loop _ condition body) = piece.Statement ∷ pieces false condition ++ statement_pieces body
  statement_pieces (part.do_loop _ body condition) = piece.Statement ∷ statement_pieces body ++ pieces false condition
  statement_pieces (part.for_loop _ start condition step body) =
      piece.Statement ∷ optional_pieces start ++ optional_pieces condition ++ optional_pieces step ++ statement_pieces body
  statement_pieces (Switch' _ value _ body) = piece.Statement ∷ pieces false value ++ body_pieces body
  statement_pieces (Case label _) = pieces false label
  statement_pieces Default = []
  statement_pieces (Alt' _ _ body) = piece.Statement ∷ body_pieces body
  statement_pieces (AltCase communication) = communication_pieces communication
  statement_pieces (Par _ branches) = piece.Statement ∷ flat_map branch_pieces branches
  statement_pieces (part.rescue _ _ body) = piece.Statement ∷ statement_pieces body
  statement_pieces (Raise _ _) = piece.Statement ∷ []
  statement_pieces (Goto _ _) = piece.Statement ∷ []
  statement_pieces (Return _ value) = piece.Statement ∷ optional_pieces value
  statement_pieces (Become _ call) = piece.Statement ∷ pieces false call
  statement_pieces (Break _ _) = piece.Statement ∷ []
  statement_pieces (Continue _ _) = piece.Statement ∷ []
  statement_pieces (Alloc _ places) = piece.Statement ∷ flat_map (place_pieces false) places
  statement_pieces (Unalloc _ values) = piece.Statement ∷ flat_map whole_pieces values
  statement_pieces (Check _ value) = piece.Statement ∷ pieces false value
  statement_pieces (Proc _ calls) = piece.Statement ∷ flat_map start_pieces calls
  statement_pieces (Task _ calls) = piece.Statement ∷ flat_map start_pieces calls

  pub other_pieces : Held-TStmt-If-3 → List Piece
  other_pieces stmt.None' = []
  other_pieces (stmt.Some' _ (more_of-TStmt other end_of-TStmt)) = statement_pieces other

  pub body_pieces : {m : _} → Row_of-TStmt m → List Piece
  body_pieces end_of-TStmt = []
  body_pieces (more_of-TStmt s rest) = statement_pieces s ++ body_pieces rest

-- ---- what each piece adds

abbrev pub string_length : Program → ℕ → ℕ
string_length p number = length (unwrap_or (slice_get p.strings number) [])

-- the words of a function's arguments, and of the block addresses that a par branch is given
abbrev pub words_in : Program → List Ty → ℕ
words_in p types = sum_by (words_of p.aggregates) types

abbrev pub argument_words : Program → Option FunctionRow → ℕ
argument_words p (Some f) = words_in p (parameter_types f)
argument_words p None = 0

abbrev pub branch_words : Option FunctionRow → ℕ
branch_words (Some f) = length f.around
branch_words None = 0

unfoldable pub weight_of : Program → Piece → ℕ
weight_of p piece.Statement = 1
weight_of p piece.Declaration = 1
weight_of p (piece.Value t) = 1 + words_of p.aggregates t
weight_of p piece.Named = 2
weight_of p (piece.Text number) = string_length p number / 4
weight_of p (piece.Format bytes) = bytes
weight_of p piece.Iterator = 0
weight_of p (piece.Talk t) = 0
weight_of p (piece.AltBranch t) = 2
weight_of p (piece.ParBranch number) = 2
weight_of p (piece.Start number) = 0
weight_of p (piece.Copied t) = 0

unfoldable pub slots_of : Program → Piece → ℕ
slots_of p piece.Statement = 4
slots_of p piece.Declaration = 0
slots_of p (piece.Value t) = words_of p.aggregates t + 1
slots_of p piece.Named = 2
slots_of p (piece.Text number) = 0
slots_of p (piece.Format bytes) = 0
slots_of p piece.Iterator = 2
slots_of p (piece.Talk t) = 4 + words_of p.aggregates t
slots_of p (piece.AltBranch t) = 4 + words_of p.aggregates t
slots_of p (piece.ParBranch number) = 4 + branch_words (slice_get p.functions number)
slots_of p (piece.Start number) = 4 + argument_words p (slice_get p.functions number)
slots_of p (piece.Copied t) = 0

unfoldable pub width_of : Program → Piece → ℕ
width_of p (piece.Copied t) = size_of p.aggregates t
width_of p _ = 0

-- ---- measures

abbrev pub greatest_by : {A : Type 0} → (A → ℕ) → List A → ℕ
greatest_by f [] = 0
greatest_by f (x ∷ xs) = max (f x) (greatest_by f xs)

unfoldable pub pieces_of : FunctionRow → List Piece
pieces_of f = statement_pieces f.body

abbrev pub private_types : List LocalRow → List Ty
private_types locals = local_types (filter (λ (l : LocalRow). if l.is_shared then false else true) locals)

-- the weight of a function
abbrev pub function_weight : Program → FunctionRow → ℕ
function_weight p f = sum_by (weight_of p) (pieces_of f)

-- The words that a function takes on the stack of a task: 16, its parameters and private locals, its result, for a par
-- branch the block addresses of the functions round it, and what its pieces add.
abbrev pub slots_with : Program → FunctionRow → ℕ → ℕ
slots_with p f pieces =
    16 + (words_in p (parameter_types f) + (words_in p (private_types (drop f.parameters f.locals))
    + (words_of p.aggregates f.returns + (length f.around + pieces))))

abbrev pub function_slots : Program → FunctionRow → ℕ
function_slots p f = slots_with p f (sum_by (slots_of p) (pieces_of f))

-- the greatest size of a value that a function copies whole, gets or gives
abbrev pub function_width : Program → FunctionRow → ℕ
function_width p f =
    max (greatest_by (width_of p) (pieces_of f)) (max (greatest_by (size_of p.aggregates) (parameter_types f)) (size_of p.aggregates f.returns))

abbrev pub global_words : Program → GlobalRow → ℕ
global_words p g = if g.is_private then words_of p.aggregates g.ty else 0

abbrev pub private_words : Program → ℕ
private_words p = sum_by (global_words p) p.globals

unfoldable pub wide : Program → ℕ
wide p = max (greatest_by (function_width p) p.functions) (greatest_by (size_of p.aggregates) p.elements)

unfoldable pub weight : Program → ℕ
weight p = sum_by (function_weight p) p.functions

unfoldable pub greatest_weight : Program → ℕ
greatest_weight p = greatest_by (function_weight p) p.functions

unfoldable pub slots : Program → ℕ
slots p = max (greatest_by (function_slots p) p.functions) (private_words p)

-- The first limit that a program passes.
abbrev pub weighed : (wide weight greatest slots : ℕ) → Result (Unit {0}) Limit
weighed wide weight greatest slots =
    if nat_lt 1024 wide then Err (limit.Wide (capped wide))
    else (if nat_lt 65536 weight then Err (limit.Weight (capped weight))
    else (if nat_lt 4096 greatest then Err (limit.FunctionWeight (capped greatest))
    else (if nat_lt 16384 slots then Err (limit.Slots (capped slots)) else Ok tt)))

-- a program that passes none
pub record IsWithin (p : Program) : Type 0 where
  pub wide : wide p ≤ 1024
  pub weight : weight p ≤ 65536
  pub greatest : greatest_weight p ≤ 4096
  pub slots : slots p ≤ 16384

-- ---- running sums

-- the pieces of the object before a function's name
abbrev pub given_pieces : Option TReceiver → List Piece
given_pieces None = []
given_pieces (Some receiver) = object_pieces receiver

-- the pieces of what stands behind `else`
abbrev pub else_pieces : Option TStmt → List Piece
else_pieces None = []
else_pieces (Some other) = statement_pieces other

-- what a piece adds to sums that are kept in 64 bits
unfoldable pub counted : Program → Tally → Piece → Tally
counted p t x = record {
  weight = capped (t.weight + weight_of p x);
  slots = capped (t.slots + slots_of p x);
  width = max t.width (capped (width_of p x));
}

unfoldable pub tallied : Program → Tally → List Piece → Tally
tallied p t xs = fold (counted p) t xs

abbrev pub no_pieces : Tally
no_pieces = record { weight = 0; slots = 0; width = 0 }

-- what a function adds to the measures of a program
unfoldable pub with_function : Program → Totals → FunctionRow → Totals
with_function p t f = record {
  wide = max t.wide (capped (function_width p f));
  weight = capped (t.weight + function_weight p f);
  greatest = max t.greatest (capped (function_weight p f));
  slots = max t.slots (capped (function_slots p f));
}

abbrev pub no_functions : Totals
no_functions = record { wide = 0; weight = 0; greatest = 0; slots = 0 }
