-- How functions begin and end.
use Rattle.std.specs.Prelude.{ℕ, zero, suc, ◌+◌, ◌^◌, ◌==◌, nat_lt, Bool, true, false, not, if◌then◌else◌, List, [], ◌∷◌, ◌++◌, map, take, drop, length, sum_by, Option, Some, None}
use Rattle.std.specs.List.{flat_map}
use Rattle.al_base.specs.declared.trap.Trap.TheVariants as trap
use Rattle.al_event.specs.declared.act.Act.TheVariants as act
use Rattle.al_event.specs.declared.act.Block.TheVariants.{Frame as FrameBlock}
use Rattle.al_world.specs.Turns.{Moves, Turns, Asks}
use Rattle.al_typed.specs.declared.ty.Ty.{Ty}
use Rattle.al_typed.specs.declared.expression.Passed.{Passed}
use Rattle.al_typed.specs.declared.expression.Passed.TheVariants as passed
use Rattle.al_typed.specs.declared.expression.TExpr.{TExpr, Call'}
use Rattle.al_typed.specs.declared.expression.TReceiver.{TReceiver}
use Rattle.al_typed.specs.declared.program.Function.{Function as FunctionRow}
use Rattle.al_typed.specs.declared.program.Local.{Local as LocalRow}
use Rattle.al_typed.specs.declared.program.Program.{Program}
use Rattle.al_typed.specs.ExpressionForms as form
use Rattle.al_typed.specs.Types.{is_void}
use Rattle.al_typed.specs.Typed.{type_of, place_type, function_type}
use Rattle.al_typed.specs.Measures.{function_slots}
use Rattle.al_meaning.specs.Words.{fitted_to, zero_words}
use Rattle.al_meaning.specs.Places.{function_at, locals_of, has_block, function_address, path_offset, words_in}
use Rattle.al_typed.specs.Alike.{are_alike}
use Rattle.al_meaning.specs.Items.{Words, Work, Eval, Find, PassPlace, PassPointer, PassPart, Enter, TakeBlock, SetBlock, StoreParameter, CountReturn, Leave, Item, Frame, Control}
use Rattle.al_meaning.specs.Parts.{exprs, receiver_of, item, to_do}
use Rattle.al_meaning.specs.Here.{Here, Next, control_at, function_here, member_type, pointee, traps, units_in, with_items}

-- ---- calls

abbrev pub evaluated : List TExpr → List Work
evaluated es = map Eval es

-- how many values an object gives to the function
abbrev pub count_passed : Passed → ℕ
count_passed passed.Address = 1
count_passed passed.Value = 1
count_passed passed.Nothing = 0

-- the object before a function's name
abbrev pub object_work : Program → Option TReceiver → List Work
object_work p None = []
object_work p (Some (form.place_before place path how)) =
    Find place ∷ PassPlace how (member_type p (place_type place) path) (path_offset p (place_type place) path) ∷ []
object_work p (Some (form.value_before value path how)) = Eval value ∷ PassPart how (type_of value) path ∷ []
object_work p (Some (form.pointer_before pointer path how)) =
    Eval pointer ∷ PassPointer how (member_type p (pointee (type_of pointer)) path) (path_offset p (pointee (type_of pointer)) path) ∷ []

abbrev pub object_count : Option TReceiver → ℕ
object_count None = 0
object_count (Some (form.place_before place path how)) = count_passed how
object_count (Some (form.value_before value path how)) = count_passed how
object_count (Some (form.pointer_before pointer path how)) = count_passed how

-- the arguments of a call of a function by its name, and what is done with so many of them
abbrev pub call_work : Program → TExpr → (ℕ → ℕ → Work) → List Work
call_work p (Call' _ function receiver _ arguments) then_do =
    object_work p (receiver_of receiver) ++ evaluated (exprs arguments) ++ then_do function (object_count (receiver_of receiver) + length (exprs arguments)) ∷ []
call_work p _ then_do = []

abbrev pub joined : List (List ℕ) → List ℕ
joined values = flat_map (λ ws. ws) values

-- a function begins: the words of its private parameters, and zero in its other private locals
abbrev pub local_words : Program → Bool → LocalRow → List ℕ → List ℕ
local_words p is_parameter l words =
    if l.is_shared then [] else (if is_parameter then fitted_to (units_in p l.ty) words else zero_words (words_in p l.ty))

abbrev pub begun_locals : Program → ℕ → List LocalRow → List ℕ → List (List ℕ)
begun_locals p parameters [] words = []
begun_locals p zero (l ∷ ls) words = local_words p false l [] ∷ begun_locals p zero ls []
begun_locals p (suc n) (l ∷ ls) words = local_words p true l words ∷ begun_locals p n ls (drop (words_in p l.ty) words)

-- the stores of parameters that lie in the shared block, the first of which has this number
abbrev pub parameter_work : Program → (number count : ℕ) → List LocalRow → List ℕ → List Work
parameter_work p number zero ls words = []
parameter_work p number (suc n) [] words = []
parameter_work p number (suc n) (l ∷ ls) words =
    (if l.is_shared then StoreParameter number (take (words_in p l.ty) words) ∷ [] else [])
    ++ parameter_work p (number + 1) n ls (drop (words_in p l.ty) words)

abbrev pub block_work : List LocalRow → List Work
block_work ls = if has_block ls then TakeBlock ∷ SetBlock ∷ [] else []

-- its shared block and parameters, in the line of its name, and then its body
abbrev pub begun_items : Program → FunctionRow → List ℕ → List Item
begun_items p f words =
    map (item f.line) (block_work f.locals ++ parameter_work p 0 f.parameters f.locals words) ++ to_do f.body ∷ []

abbrev pub begun_function : Program → ℕ → Option FunctionRow → List ℕ → Frame
begun_function p number (Some f) words = record {
  function = number;
  locals = begun_locals p f.parameters f.locals words;
  block = 0;
  around = take (length f.around) words;
  turns = [];
  items = begun_items p f words;
  found = [];
}
begun_function p number None words = record { function = number; locals = []; block = 0; around = []; turns = []; items = []; found = [] }

-- the frame of a function that begins with these words: its arguments, or the addresses of the blocks round a branch of a par
abbrev pub begun : Program → ℕ → List ℕ → Frame
begun p number words = begun_function p number (function_at p number) words

abbrev pub line_of_name : Option FunctionRow → ℕ
line_of_name (Some f) = f.line
line_of_name None = 0

-- the words that a function takes on a task's stack
abbrev pub slots_of : Program → Option FunctionRow → ℕ
slots_of p (Some f) = function_slots p f
slots_of p None = 0

abbrev pub frame_slots : Program → Frame → ℕ
frame_slots p f = slots_of p (function_at p f.function)

-- the most words on a task's stack
abbrev pub most_slots : ℕ
most_slots = 2 ^ 20

-- whether the function finds room above these frames
abbrev pub has_room : Program → ℕ → List Frame → Bool
has_room p number frames = not (nat_lt most_slots (sum_by (frame_slots p) frames + slots_of p (function_at p number)))

-- a function begins above these frames, or the task traps in the line of its name
abbrev pub enters : Program → ℕ → List ℕ → Control → List Frame → List ℕ → Next
enters p number words c frames privates =
    if has_room p number frames
    then Moves (record { entering = None; frames = begun p number words ∷ frames }) privates
    else Asks (act.Trap trap.Stack) (line_of_name (function_at p number)) c privates

-- a call after its arguments: a turn, and then the stack is tested, in the line of the function's name
abbrev pub invokes : Here → ℕ → List ℕ → Next
invokes h number words =
    Turns h.line (control_at (with_items (item (line_of_name (function_at h.program number)) (Enter number words) ∷ []) h)) h.privates

-- a branch of a par has no type
abbrev pub has_type : Ty → List ℕ → FunctionRow → Bool
has_type t [] f = are_alike t (function_type f)
has_type t (_ ∷ _) f = false

-- the number of the function of this type whose name has this value
abbrev pub named_by : Ty → ℕ → ℕ → List FunctionRow → Option ℕ
named_by t value number [] = None
named_by t value number (f ∷ fs) =
    if function_address number == value
    then (if has_type t f.around f then Some number else None)
    else named_by t value (number + 1) fs

abbrev pub invokes_found : Here → List ℕ → Option ℕ → Next
invokes_found h words (Some number) = invokes h number words
invokes_found h words None = traps h trap.Call

-- the frame goes, and the frame below goes on with a value, if it is given one
abbrev pub with_given : Option (List ℕ) → List Frame → List Frame
with_given None frames = frames
with_given (Some ws) [] = []
with_given (Some ws) (f ∷ frames) = record f { found = Words ws ∷ f.found } ∷ frames

abbrev pub leaves : Here → Option (List ℕ) → Next
leaves h given = Moves (record { entering = None; frames = with_given given h.below }) h.privates

-- the frame with nothing to do but this
abbrev pub only : Here → List Work → Here
only h work = record h { frame = record h.frame { items = map (item h.line) work } }

-- the function's shared block is given back, and then only this is done; or `next` where it has none
abbrev pub gives_block : Here → List Work → Next → Next
gives_block h work next =
    if has_block (locals_of (function_here h))
    then Asks (act.Free h.frame.block FrameBlock) h.line (control_at (only h work)) h.privates
    else next

-- the end of a function with a value: its block, its turn, and then the frame goes
abbrev pub ends : Here → Option (List ℕ) → Next
ends h given = gives_block h (CountReturn given ∷ []) (Turns h.line (control_at (only h (Leave given ∷ []))) h.privates)

-- at the end of its body a function gives zero
abbrev pub zero_given : Program → Ty → Option (List ℕ)
zero_given p t = if is_void t then None else Some (zero_words (words_in p t))

abbrev pub default_of : Program → Option FunctionRow → Option (List ℕ)
default_of p (Some f) = zero_given p f.returns
default_of p None = None
