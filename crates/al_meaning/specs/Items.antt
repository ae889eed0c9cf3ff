-- The control of a task: frames with what is still to do and what was found.
use Rattle.std.specs.Prelude.{ℕ, Bool, List, Option}
use Rattle.al_base.specs.declared.arith.Kind.{Kind}
use Rattle.al_typed.specs.declared.ty.Ty.{Ty}
use Rattle.al_typed.specs.declared.layout.Unit.{Unit}
use Rattle.al_typed.specs.declared.expression.UnaryOp.{UnaryOp}
use Rattle.al_typed.specs.declared.expression.BinaryOp.{BinaryOp}
use Rattle.al_typed.specs.declared.expression.Change.{Change}
use Rattle.al_typed.specs.declared.expression.StepOp.{StepOp}
use Rattle.al_typed.specs.declared.expression.Passed.{Passed}
use Rattle.al_typed.specs.declared.expression.PrintPiece.{PrintPiece}
use Rattle.al_typed.specs.declared.expression.TExpr.{TExpr}
use Rattle.al_typed.specs.declared.expression.TPlace.{TPlace}
use Rattle.al_typed.specs.declared.expression.TTarget.{TTarget}
use Rattle.al_typed.specs.declared.statement.TStmt.{TStmt}

-- what was found: a value, by its words; a place in shared storage, by its address; a private local, or a private global, by
-- its number; or that a part is dropped
pub data Found : Type 0 where
  Words : (words : List ℕ) → Found
  Address : (at : ℕ) → Found
  Local : (number : ℕ) → Found
  Private : (number : ℕ) → Found
  Nowhere : Found

-- an argument of a print
pub record Argument : Type 0 where
  pub ty : Ty
  pub words : List ℕ

-- the bounds of an iterator
pub record Bounds : Type 0 where
  pub from : ℕ
  pub to : ℕ

-- What is still to do. What an item needs of the values and places that were found before, it takes from the frame.
pub data Work : Type 0 where
  -- ---- of expressions, places and targets
  Eval : TExpr → Work
  Find : TPlace → Work
  Aim : TTarget → Work
  -- waits for an answer without words
  Answered : Work
  -- gives a value that is known
  Give : (words : List ℕ) → Work
  -- drops a value
  Drop : Work
  -- operators
  Unary : UnaryOp → Kind → Work
  Negate : Work
  Binary : BinaryOp → Kind → Work
  -- the right side of `&&` and `||`, where the left is found, and what both are where the right is found
  AndThen : (right : TExpr) → Work
  OrElse : (right : TExpr) → Work
  Truth : Work
  -- a pointer and a count of elements of so many bytes; with the count found first
  Advance : (back : Bool) → (size : ℕ) → Work
  AdvanceCounted : (size : ℕ) → Work
  Between : (size : ℕ) → Work
  Convert : (from to : Ty) → Work
  Part : Ty → (path : List ℕ) → Work
  Join : (count : ℕ) → Work
  -- the place that a pointer leads to, so many bytes further on; that of an element; that of a member of a place
  Point : (offset : ℕ) → Work
  Index : (size : ℕ) → Work
  Within : (offset : ℕ) → Work
  -- the address of a place as a value
  AddressOf : Work
  -- the value of a place; the same, with the place kept
  Read : Ty → Work
  Look : Ty → Work
  -- loads of the units that are left of a value, of which these words are known
  Fetch : (at : ℕ) → List Unit → (got : List ℕ) → Work
  Fetched : (at : ℕ) → List Unit → (got : List ℕ) → Work
  -- a value into a place that is known; one that was found into the place that was found before it
  Save : Ty → (words : List ℕ) → Found → Work
  Put : Ty → Work
  -- stores of the units that are left of a value
  Write : (at : ℕ) → List Unit → (words : List ℕ) → Work
  -- the value into the places of a target
  Assign : TTarget → Work
  -- `op=`, `++` and `--`, zerox
  Update : Ty → Change → Work
  Step : Ty → StepOp → Work
  Clear : Ty → Work
  -- ---- of calls
  -- what a function of an adt gets of the object before its name: of a place or where a pointer leads, and of a value
  PassPlace : Passed → Ty → (offset : ℕ) → Work
  PassPointer : Passed → Ty → (offset : ℕ) → Work
  PassPart : Passed → Ty → (path : List ℕ) → Work
  -- a call of a function with so many values, and through a pointer of a type
  Invoke : (function count : ℕ) → Work
  InvokePointer : Ty → (count : ℕ) → Work
  -- a call after its turn: the stack is tested, and the function begins
  Enter : (function : ℕ) → (words : List ℕ) → Work
  -- a call in the place of the function at hand
  InvokeInstead : (function count : ℕ) → Work
  Replace : (function : ℕ) → (words : List ℕ) → Work
  -- the start of a function: its shared block, and a parameter that lies there
  TakeBlock : Work
  SetBlock : Work
  StoreParameter : (number : ℕ) → (words : List ℕ) → Work
  -- the end of a function: its turn, and its value for the caller
  Returns : (valued : Bool) → Work
  CountReturn : Option (List ℕ) → Work
  Leave : Option (List ℕ) → Work
  -- ---- of actions
  -- a text that is composed; `Scan` reads the bytes of a `%s`
  Gather : List PrintPiece → List Ty → Work
  Compose : List PrintPiece → List Argument → (text : List ℕ) → Work
  Scan : (at : ℕ) → List PrintPiece → List Argument → (text : List ℕ) → Work
  Scanned : (at : ℕ) → List PrintPiece → List Argument → (text : List ℕ) → Work
  Terminates : Work
  Receives : Ty → Work
  Received : Ty → Work
  Sends : Ty → Work
  CanReceives : Work
  CanSends : Work
  Allocate : Ty → Work
  Unallocate : Ty → Work
  StartProc : (function count : ℕ) → Work
  StartTask : (function count : ℕ) → Work
  -- ---- of statements
  Do : TStmt → Work
  Choose : (chosen : TStmt) → (other : Option TStmt) → Work
  Test : Work
  -- loops, by their statements: where the condition is found, and where the body has been done
  WhileTest : TStmt → Work
  WhileAgain : TStmt → Work
  DoCondition : TStmt → Work
  DoTest : TStmt → Work
  ForCondition : TStmt → Work
  ForTest : TStmt → Work
  ForNext : TStmt → Work
  ForAgain : TStmt → Work
  -- iterators, of which the first has this number, where their bounds are known; the next turn of that one
  Bound : (count : ℕ) → TExpr → Work
  Iterate : (number : ℕ) → List Bounds → TExpr → Work
  NextTurn : (number : ℕ) → Bounds → List Bounds → TExpr → Work
  -- a switch and an alt, by their statements, and the end of their bodies
  Select : TStmt → Work
  AltTalk : TStmt → Work
  AltWent : TStmt → Work
  CasesEnd : Work

-- with the line of the statement that it belongs to
pub record Item : Type 0 where
  pub line : ℕ
  pub work : Work

pub record Frame : Type 0 where
  pub function : ℕ
  -- the words of its private locals, by their numbers; none for those in the shared block
  pub locals : List (List ℕ)
  -- the address of its shared block, 0 where it has none
  pub block : ℕ
  -- for a branch of a par: the addresses of the blocks of the functions round it, the outermost first
  pub around : List ℕ
  -- the turns at hand of the iterators of a statement, by their numbers
  pub turns : List ℕ
  pub items : List Item
  -- what was found, the last first
  pub found : List Found

-- a function that begins once the stack was tested
pub record Entering : Type 0 where
  pub function : ℕ
  pub words : List ℕ

-- The frames, the innermost first. A become has given its frame up before the function that it calls begins.
pub record Control : Type 0 where
  pub entering : Option Entering
  pub frames : List Frame

-- after so many turns without an action a task asks a Pause
abbrev pub most_turns : ℕ
most_turns = 4096
