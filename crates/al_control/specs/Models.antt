-- What controls that refer to a program stand for: the same with copies of its parts.
use Rattle.std.specs.Prelude.{ℕ, Bool, List, [], ◌∷◌, map, Option, Some, None, option_map}
use Rattle.al_event.specs.declared.act.Act.{Act}
use Rattle.al_world.specs.Turns.{Moves, Turns, Asks}
use Rattle.al_typed.specs.declared.ty.Ty.{Ty}
use Rattle.al_typed.specs.declared.expression.TExpr.{TExpr, Print'}
use Rattle.al_typed.specs.declared.expression.TPlace.TheVariants as variable
use Rattle.al_typed.specs.declared.expression.TTarget.{TTarget}
use Rattle.al_typed.specs.declared.statement.TStmt.{TStmt, If', end_of-TStmt, more_of-TStmt}
use Rattle.al_typed.specs.declared.program.Program.{Program}
use Rattle.al_typed.specs.Typed.{type_of}
use Rattle.al_meaning.specs.Items as item
use Rattle.al_meaning.specs.Parts.{exprs, other_of}
use Rattle.al_meaning.specs.Here as step
use Rattle.al_control.specs.declared.work.Found.{Found}
use Rattle.al_control.specs.declared.work.Found.TheVariants as found
use Rattle.al_control.specs.declared.work.Argument.{Argument}
use Rattle.al_control.specs.declared.work.Bounds.{Bounds}
use Rattle.al_control.specs.declared.work.Operator.{Operator}
use Rattle.al_control.specs.declared.work.Operator.TheVariants as operator
use Rattle.al_control.specs.declared.work.Storage.{Storage}
use Rattle.al_control.specs.declared.work.Storage.TheVariants as storage
use Rattle.al_control.specs.declared.work.Calling.{Calling}
use Rattle.al_control.specs.declared.work.Calling.TheVariants as calling
use Rattle.al_control.specs.declared.work.Action.{Action}
use Rattle.al_control.specs.declared.work.Action.TheVariants as action
use Rattle.al_control.specs.declared.work.ValueStage.{ValueStage}
use Rattle.al_control.specs.declared.work.ValueStage.TheVariants as value
use Rattle.al_control.specs.declared.work.TargetStage.{TargetStage}
use Rattle.al_control.specs.declared.work.TargetStage.TheVariants as target
use Rattle.al_control.specs.declared.work.Stage.{Stage}
use Rattle.al_control.specs.declared.work.Stage.TheVariants as stage
use Rattle.al_control.specs.declared.work.Work.{Work}
use Rattle.al_control.specs.declared.work.Work.TheVariants as work
use Rattle.al_control.specs.declared.control.Item.{Item}
use Rattle.al_control.specs.declared.control.Frame.{Frame}
use Rattle.al_control.specs.declared.control.Entering.{Entering}
use Rattle.al_control.specs.declared.control.Control.{Control}
use Rattle.al_control.specs.declared.control.Here.{Here}
use Rattle.al_control.specs.declared.control.Next.{Next}
use Rattle.al_control.specs.declared.control.Next.TheVariants as next

abbrev pub found_of : Found → item.Found
found_of (found.Words words) = item.Words words
found_of (found.Address at) = item.Address at
found_of (found.Local number) = item.Local number
found_of (found.Private number) = item.Private number
found_of found.Nowhere = item.Nowhere

abbrev pub argument_of : Argument → item.Argument
argument_of a = record { ty = a.ty.now; words = a.words }

abbrev pub bounds_of : Bounds → item.Bounds
bounds_of b = record { from = b.from; to = b.to }

abbrev pub operator_of : Operator → item.Work
operator_of (operator.Unary op kind) = item.Unary op kind
operator_of operator.Negate = item.Negate
operator_of (operator.Binary op kind) = item.Binary op kind
operator_of operator.Truth = item.Truth
operator_of (operator.Advance back size) = item.Advance back size
operator_of (operator.AdvanceCounted size) = item.AdvanceCounted size
operator_of (operator.Between size) = item.Between size
operator_of (operator.Convert from to) = item.Convert from.now to.now
operator_of (operator.Join count) = item.Join count

abbrev pub storage_of : Storage → item.Work
storage_of (storage.Point offset) = item.Point offset
storage_of (storage.Index size) = item.Index size
storage_of (storage.Within offset) = item.Within offset
storage_of storage.AddressOf = item.AddressOf
storage_of (storage.Read ty) = item.Read ty.now
storage_of (storage.Look ty) = item.Look ty.now
storage_of (storage.Fetch at units got) = item.Fetch at units got
storage_of (storage.Fetched at units got) = item.Fetched at units got
storage_of (storage.Save ty words place) = item.Save ty.now words (found_of place)
storage_of (storage.Put ty) = item.Put ty.now
storage_of (storage.Write at units words) = item.Write at units words
storage_of (storage.Update ty change) = item.Update ty.now change
storage_of (storage.Step ty op) = item.Step ty.now op
storage_of (storage.Clear ty) = item.Clear ty.now

abbrev pub calling_of : Calling → item.Work
calling_of (calling.PassPlace passed ty offset) = item.PassPlace passed ty.now offset
calling_of (calling.PassPointer passed ty offset) = item.PassPointer passed ty.now offset
calling_of (calling.PassPart passed ty path) = item.PassPart passed ty.now path.now
calling_of (calling.Invoke function count) = item.Invoke function count
calling_of (calling.InvokePointer ty count) = item.InvokePointer (step.pointee ty.now) count
calling_of (calling.Enter function words) = item.Enter function words
calling_of (calling.InvokeInstead function count) = item.InvokeInstead function count
calling_of (calling.Replace function words) = item.Replace function words
calling_of calling.TakeBlock = item.TakeBlock
calling_of calling.SetBlock = item.SetBlock
calling_of (calling.StoreParameter number words) = item.StoreParameter number words
calling_of (calling.Returns is_valued) = item.Returns is_valued
calling_of (calling.CountReturn given) = item.CountReturn given
calling_of (calling.Leave given) = item.Leave given

abbrev pub action_of : Action → item.Work
action_of (action.Compose pieces arguments text) = item.Compose pieces.now (map argument_of arguments) text
action_of (action.Scan at pieces arguments text) = item.Scan at pieces.now (map argument_of arguments) text
action_of (action.Scanned at pieces arguments text) = item.Scanned at pieces.now (map argument_of arguments) text
action_of action.Terminates = item.Terminates
action_of (action.Receives ty) = item.Receives ty.now
action_of (action.Received ty) = item.Received ty.now
action_of (action.Sends ty) = item.Sends ty.now
action_of action.CanReceives = item.CanReceives
action_of action.CanSends = item.CanSends
action_of (action.Allocate ty) = item.Allocate ty.now
action_of (action.Unallocate ty) = item.Unallocate ty.now
action_of (action.StartProc function count) = item.StartProc function count
action_of (action.StartTask function count) = item.StartTask function count

-- what is to be done with a print whose arguments were found
abbrev pub gather_of : TExpr → item.Work
gather_of (Print' t format _ arguments) = item.Gather format (map type_of (exprs arguments))
gather_of e = item.Eval e

abbrev pub value_of : ValueStage → TExpr → item.Work
value_of value.Eval e = item.Eval e
value_of value.AndThen e = item.AndThen e
value_of value.OrElse e = item.OrElse e
value_of value.Gather e = gather_of e
value_of (value.Bound count) e = item.Bound count e
value_of (value.Iterate number bounds) e = item.Iterate number (map bounds_of bounds) e
value_of (value.NextTurn number bounds rest) e = item.NextTurn number (bounds_of bounds) (map bounds_of rest) e

abbrev pub target_of : TargetStage → TTarget → item.Work
target_of target.Aim t = item.Aim t
target_of target.Assign t = item.Assign t

-- what is left of an if
abbrev pub choose_of : TStmt → item.Work
choose_of (If' _ _ _ (more_of-TStmt chosen end_of-TStmt) other) = item.Choose chosen (other_of other)
choose_of s = item.Do s

abbrev pub stage_of : Stage → TStmt → item.Work
stage_of stage.Do s = item.Do s
stage_of stage.Choose s = choose_of s
stage_of stage.WhileTest s = item.WhileTest s
stage_of stage.WhileAgain s = item.WhileAgain s
stage_of stage.DoCondition s = item.DoCondition s
stage_of stage.DoTest s = item.DoTest s
stage_of stage.ForCondition s = item.ForCondition s
stage_of stage.ForTest s = item.ForTest s
stage_of stage.ForNext s = item.ForNext s
stage_of stage.ForAgain s = item.ForAgain s
stage_of stage.Select s = item.Select s
stage_of stage.AltTalk s = item.AltTalk s
stage_of stage.AltWent s = item.AltWent s

abbrev pub work_of : Work → item.Work
work_of (work.Value v e) = value_of v e.now
work_of (work.Target t target) = target_of t target.now
work_of (work.Statement s statement) = stage_of s statement.now
work_of (work.Find place) = item.Find place.now
work_of (work.FindDeclared ty number) = item.Find (variable.Local ty.now number)
work_of (work.Operator o) = operator_of o
work_of (work.Part ty path) = item.Part ty.now path.now
work_of (work.Storage s) = storage_of s
work_of (work.Calling c) = calling_of c
work_of (work.Action a) = action_of a
work_of work.Answered = item.Answered
work_of (work.Give words) = item.Give words
work_of work.Forget = item.Drop
work_of work.Test = item.Test
work_of work.CasesEnd = item.CasesEnd

abbrev pub item_of : Item → item.Item
item_of i = record { line = i.line; work = work_of i.work }

abbrev pub frame_of : Frame → item.Frame
frame_of f = record {
  function = f.function;
  locals = f.locals;
  block = f.block;
  around = f.around;
  turns = f.turns;
  items = map item_of f.items;
  found = map found_of f.found;
}

abbrev pub entering_of : Entering → item.Entering
entering_of e = record { function = e.function; words = e.words }

abbrev pub control_of : Control → item.Control
control_of c = record { entering = option_map entering_of c.entering; frames = map frame_of c.frames }

abbrev pub here_of : Here → step.Here
here_of h = record { program = h.program.now; line = h.line; frame = frame_of h.frame; below = map frame_of h.below; privates = h.privates }

abbrev pub next_of : Next → step.Next
next_of (next.Moves c privates) = Moves (control_of c) privates
next_of (next.Turns line c privates) = Turns line (control_of c) privates
next_of (next.Asks act line c privates) = Asks act line (control_of c) privates
