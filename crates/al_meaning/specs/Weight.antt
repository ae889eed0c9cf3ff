-- A bound on the private steps of a task up to its next turn or action: each item has a weight above that of the items
-- that its step leaves.
use Rattle.std.specs.Prelude.{ℕ, ◌+◌, ◌*◌, List, [], ◌∷◌, length, Option, Some, None}
use Rattle.al_typed.specs.declared.expression.TExpr.{TExpr, Constant, Text, Nil, Function, SizeofType, Tuple', Call', CallPointer', Print', Sequence', Iterator, Held-TExpr-Call-2, None', Some', Row_of-TExpr, end_of-TExpr, more_of-TExpr, Row_of-TTarget, end_of-TTarget, more_of-TTarget, end_of-TReceiver, more_of-TReceiver}
use Rattle.al_typed.specs.declared.expression.TPlace.{TPlace, Local as Local_, Outer, Global}
use Rattle.al_typed.specs.declared.expression.TTarget.{TTarget, Dropped, Parts'}
use Rattle.al_typed.specs.declared.expression.TReceiver.{TReceiver}
use Rattle.al_typed.specs.declared.program.Program.{Program}
use Rattle.al_typed.specs.declared.statement.TBounds.{TBounds}
use Rattle.al_typed.specs.declared.statement.TInitializer.{TInitializer}
use Rattle.al_typed.specs.declared.statement.TCommunication.{TCommunication}
use Rattle.al_typed.specs.declared.statement.TCommunication.TheVariants as talk
use Rattle.al_typed.specs.declared.statement.TStmt.{TStmt, Empty, Block', Declare, Value, If', Switch', Case, Default, Alt', AltCase, Par, Raise, Goto, Return, Become, Break, Continue, Alloc, Unalloc, Check, Proc, Task, Held-TStmt-If-3, Row_of-TStmt, end_of-TStmt, more_of-TStmt}
use Rattle.al_typed.specs.declared.statement.TStmt as stmt
use Rattle.al_typed.specs.ExpressionForms as form
use Rattle.al_typed.specs.StatementForms as part
use Rattle.al_meaning.specs.Items.{Work, Look, Read, Fetched, Save, Put, Update, Step, Clear, PassPlace, PassPointer, StoreParameter, Replace, Eval, Find, Aim, AndThen, OrElse, Assign, Gather, Compose, Scan, Scanned, Do, Choose, WhileTest, DoCondition, ForCondition, ForTest, ForNext, Bound, Iterate, Select, AltTalk, AltWent, Enter, Item, Frame, Entering, Control}
use Rattle.al_meaning.specs.Calls.{begun}

abbrev mutual
  pub expr_weight : TExpr → ℕ
  expr_weight (Constant t _) = 8
  expr_weight (Text t _) = 8
  expr_weight (Nil t) = 8
  expr_weight (Function t _) = 8
  expr_weight (form.load t place) = 16 + place_weight place
  expr_weight (form.decay t place) = 8 + place_weight place
  expr_weight (form.address t place) = 8 + place_weight place
  expr_weight (SizeofType t _) = 8
  expr_weight (form.sizeof_place t place) = 8
  expr_weight (form.sizeof_value t value) = 8
  expr_weight (form.unary t op of) = 8 + expr_weight of
  expr_weight (form.negation t of) = 8 + expr_weight of
  expr_weight (form.binary t op kind left right) = 8 + (expr_weight left + expr_weight right)
  expr_weight (form.logical t op left right) = 16 + (expr_weight left + expr_weight right)
  expr_weight (form.movement t how pointer count) = 8 + (expr_weight pointer + expr_weight count)
  expr_weight (form.difference t left right) = 8 + (expr_weight left + expr_weight right)
  expr_weight (form.assign t target value) = 16 + (target_weight target + (target_weight target + expr_weight value))
  expr_weight (form.update t place change value) = 64 + (place_weight place + expr_weight value)
  expr_weight (form.stepped t op place) = 64 + place_weight place
  expr_weight (form.zerox t place) = 64 + place_weight place
  expr_weight (Tuple' t _ parts) = 8 + row_weight parts
  expr_weight (Call' t _ receiver _ arguments) = 8 + (receiver_weight receiver + row_weight arguments)
  expr_weight (CallPointer' t _ (more_of-TExpr pointer end_of-TExpr) _ arguments) = 8 + (expr_weight pointer + row_weight arguments)
  expr_weight (Print' t format _ arguments) = 16 + (8 * length format + row_weight arguments)
  expr_weight (form.terminate t status) = 8 + expr_weight status
  expr_weight (form.receive t chan) = 8 + expr_weight chan
  expr_weight (form.send t chan value) = 8 + (expr_weight chan + expr_weight value)
  expr_weight (form.can_receive t chan) = 8 + expr_weight chan
  expr_weight (form.can_send t chan) = 8 + expr_weight chan
  expr_weight (form.member_of t value path) = 8 + expr_weight value
  expr_weight (form.cast t of) = 8 + expr_weight of
  expr_weight (form.convert t of) = 8 + expr_weight of
  expr_weight (Sequence' t _ first _ (more_of-TExpr last end_of-TExpr)) = 8 + (row_weight first + expr_weight last)
  expr_weight (Iterator t _) = 8

  pub place_weight : TPlace → ℕ
  place_weight (Local_ t _) = 8
  place_weight (Outer t _ _) = 8
  place_weight (Global t _) = 8
  place_weight (form.pointed t pointer) = 8 + expr_weight pointer
  place_weight (form.element t base index) = 8 + (expr_weight base + expr_weight index)
  place_weight (form.member_in t of path) = 8 + place_weight of
  place_weight (form.pointed_member t pointer path) = 8 + expr_weight pointer

  pub target_weight : TTarget → ℕ
  target_weight (form.into place) = 16 + place_weight place
  target_weight (Dropped t) = 16
  target_weight (Parts' t _ parts) = 16 + targets_weight parts

  pub targets_weight : {m : _} → Row_of-TTarget m → ℕ
  targets_weight end_of-TTarget = 0
  targets_weight (more_of-TTarget target rest) = target_weight target + targets_weight rest

  pub receiver_weight : Held-TExpr-Call-2 → ℕ
  receiver_weight None' = 0
  receiver_weight (Some' _ (more_of-TReceiver receiver end_of-TReceiver)) = object_weight receiver

  pub object_weight : TReceiver → ℕ
  object_weight (form.place_before place path how) = 32 + place_weight place
  object_weight (form.value_before value path how) = 32 + expr_weight value
  object_weight (form.pointer_before pointer path how) = 32 + expr_weight pointer

  -- each with a drop behind it
  pub row_weight : {m : _} → Row_of-TExpr m → ℕ
  row_weight end_of-TExpr = 0
  row_weight (more_of-TExpr e rest) = 8 + (expr_weight e + row_weight rest)

abbrev pub optional_weight : Option TExpr → ℕ
optional_weight None = 8
optional_weight (Some e) = 8 + expr_weight e

abbrev pub listed_weight : List TExpr → ℕ
listed_weight [] = 0
listed_weight (e ∷ es) = 8 + (expr_weight e + listed_weight es)

abbrev pub places_weight : List TPlace → ℕ
places_weight [] = 0
places_weight (p ∷ ps) = 24 + (place_weight p + places_weight ps)

abbrev pub bounds_weight : List TBounds → ℕ
bounds_weight [] = 0
bounds_weight (b ∷ bs) = 32 + (expr_weight b.from + (expr_weight b.to + bounds_weight bs))

abbrev pub initializers_weight : List TInitializer → ℕ
initializers_weight [] = 0
initializers_weight (i ∷ rest) = 24 + (expr_weight i.value + initializers_weight rest)

abbrev pub communication_weight : TCommunication → ℕ
communication_weight (talk.Receive t chan) = 8 + expr_weight chan
communication_weight (talk.ReceiveInto t target chan) = 32 + (target_weight target + (target_weight target + expr_weight chan))
communication_weight (talk.Send chan value) = 16 + (expr_weight chan + expr_weight value)

abbrev mutual
  pub statement_weight : TStmt → ℕ
  statement_weight (Empty _) = 8
  statement_weight (Block' _ _ body) = 8 + body_weight body
  statement_weight (Declare _ initializers) = 8 + initializers_weight initializers
  statement_weight (Value _ iterators value) = 16 + (bounds_weight iterators + expr_weight value)
  statement_weight (part.label _ _ body) = 8 + statement_weight body
  statement_weight (If' _ condition _ (more_of-TStmt chosen end_of-TStmt) other) =
      8 + (expr_weight condition + (statement_weight chosen + other_weight other))
  statement_weight (part.while_loop _ condition body) = 16 + (expr_weight condition + statement_weight body)
  statement_weight (part.do_loop _ body condition) = 16 + (statement_weight body + expr_weight condition)
  statement_weight (part.for_loop _ start condition step body) =
      32 + (optional_weight start + (optional_weight condition + (optional_weight step + statement_weight body)))
  statement_weight (Switch' _ value _ body) = 16 + (expr_weight value + body_weight body)
  statement_weight (Case _ _) = 8
  statement_weight Default = 8
  statement_weight (Alt' _ _ body) = 32 + (body_weight body + body_weight body)
  statement_weight (AltCase c) = communication_weight c
  statement_weight (Par _ _) = 8
  statement_weight (part.rescue _ _ body) = 8 + statement_weight body
  statement_weight (Raise _ _) = 8
  statement_weight (Goto _ _) = 8
  statement_weight (Return _ value) = 16 + optional_weight value
  statement_weight (Become _ call) = 16 + expr_weight call
  statement_weight (Break _ _) = 8
  statement_weight (Continue _ _) = 8
  statement_weight (Alloc _ places) = 8 + places_weight places
  statement_weight (Unalloc _ values) = 8 + listed_weight values
  statement_weight (Check _ value) = 8 + expr_weight value
  statement_weight (Proc _ calls) = 8 + listed_weight calls
  statement_weight (Task _ calls) = 8 + listed_weight calls

  pub other_weight : Held-TStmt-If-3 → ℕ
  other_weight stmt.None' = 0
  other_weight (stmt.Some' _ (more_of-TStmt other end_of-TStmt)) = statement_weight other

  pub body_weight : {m : _} → Row_of-TStmt m → ℕ
  body_weight end_of-TStmt = 0
  body_weight (more_of-TStmt s rest) = statement_weight s + body_weight rest

abbrev pub else_weight : Option TStmt → ℕ
else_weight (Some s) = statement_weight s
else_weight None = 0

-- what is left of a loop: where its condition is found, where its body has been done, and for `for` where it is asked
abbrev pub rest_of_while : TStmt → ℕ
rest_of_while (part.while_loop _ condition body) = 8 + statement_weight body
rest_of_while _ = 8

abbrev pub rest_of_do : TStmt → ℕ
rest_of_do (part.do_loop _ body condition) = 8 + expr_weight condition
rest_of_do _ = 8

abbrev pub next_of_for : TStmt → ℕ
next_of_for (part.for_loop _ start condition step body) = 8 + optional_weight step
next_of_for _ = 4

abbrev pub body_of_for : TStmt → ℕ
body_of_for (part.for_loop _ start condition step body) = 16 + (optional_weight step + statement_weight body)
body_of_for _ = 8

abbrev pub condition_of_for : TStmt → ℕ
condition_of_for (part.for_loop _ start condition step body) =
    24 + (optional_weight condition + (optional_weight step + statement_weight body))
condition_of_for _ = 16

abbrev pub cases_weight : TStmt → ℕ
cases_weight (Switch' _ _ _ body) = 8 + body_weight body
cases_weight (Alt' _ _ body) = 16 + body_weight body
cases_weight _ = 8

-- all but the calls of functions
unfoldable pub own_weight : Work → ℕ
own_weight (Eval e) = expr_weight e
own_weight (Find place) = place_weight place
own_weight (Aim target) = target_weight target
own_weight (AndThen right) = 8 + expr_weight right
own_weight (OrElse right) = 8 + expr_weight right
own_weight (Assign target) = 8 + target_weight target
own_weight (Gather pieces types) = 8 + 8 * length pieces
own_weight (Compose pieces arguments text) = 4 + 8 * length pieces
own_weight (Scan at pieces arguments text) = 4 + 8 * length pieces
own_weight (Scanned at pieces arguments text) = 6 + 8 * length pieces
own_weight (Do s) = statement_weight s
own_weight (Choose chosen other) = 4 + (statement_weight chosen + else_weight other)
own_weight (WhileTest s) = rest_of_while s
own_weight (DoCondition s) = rest_of_do s
own_weight (ForCondition s) = condition_of_for s
own_weight (ForTest s) = body_of_for s
own_weight (ForNext s) = next_of_for s
own_weight (Bound count value) = 16 + (8 * count + expr_weight value)
own_weight (Iterate number bounds value) = 8 + (8 * length bounds + expr_weight value)
own_weight (Select s) = cases_weight s
own_weight (AltTalk s) = 2 + cases_weight s
own_weight (AltWent s) = cases_weight s
own_weight (Look t) = 16
own_weight (Read t) = 8
own_weight (Fetched at units got) = 8
own_weight (Save t words place) = 8
own_weight (Put t) = 12
own_weight (Update t change) = 20
own_weight (Step t op) = 20
own_weight (Clear t) = 20
own_weight (PassPlace how t offset) = 16
own_weight (PassPointer how t offset) = 16
own_weight (StoreParameter number words) = 8
own_weight (Replace function words) = 2
own_weight _ = 4

abbrev pub own_weights : List Item → ℕ
own_weights [] = 0
own_weights (i ∷ items) = own_weight i.work + own_weights items

-- a function that begins
abbrev pub begun_weight : Program → ℕ → List ℕ → ℕ
begun_weight p number words = 32 + own_weights (begun p number words).items

unfoldable pub work_weight : Program → Work → ℕ
work_weight p (Enter function words) = begun_weight p function words
work_weight p work = own_weight work

abbrev pub items_weight : Program → List Item → ℕ
items_weight p [] = 0
items_weight p (i ∷ items) = work_weight p i.work + items_weight p items

abbrev pub frame_weight : Program → Frame → ℕ
frame_weight p f = 16 + items_weight p f.items

abbrev pub frames_weight : Program → List Frame → ℕ
frames_weight p [] = 0
frames_weight p (f ∷ below) = frame_weight p f + frames_weight p below

abbrev pub entering_weight : Program → Option Entering → ℕ
entering_weight p None = 0
entering_weight p (Some e) = begun_weight p e.function e.words

unfoldable pub control_weight : Program → Control → ℕ
control_weight p c = 16 + (entering_weight p c.entering + frames_weight p c.frames)
