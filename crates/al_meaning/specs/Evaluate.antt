-- Places and expressions: what an item of theirs does.
use Rattle.std.specs.Prelude.{ℕ, zero, suc, ◌+◌, nat_lt, Bool, true, false, if◌then◌else◌, List, [], ◌∷◌, ◌++◌, map, take, drop, length, Option, Some, None, option_map, slice_get, slice_set, slice_index, unwrap_or}
use Rattle.std.specs.List.{flat_map}
use Rattle.al_base.specs.declared.trap.Trap.TheVariants as trap
use Rattle.al_event.specs.declared.act.Act.TheVariants as act
use Rattle.al_event.specs.declared.act.Block.TheVariants.{Heap}
use Rattle.al_event.specs.declared.act.Branch.{Branch}
use Rattle.al_typed.specs.declared.ty.Ty.{Ty}
use Rattle.al_typed.specs.declared.ty.Ty.TheOpen.{Ty-F}
use Rattle.al_typed.specs.declared.ty.Ty.TheVariants as ty
use Rattle.al_typed.specs.declared.layout.Unit.{Unit}
use Rattle.al_typed.specs.declared.expression.Change.{Change}
use Rattle.al_typed.specs.declared.expression.Change.TheVariants as change
use Rattle.al_typed.specs.declared.expression.Logic.TheVariants as logic
use Rattle.al_typed.specs.declared.expression.Movement.TheVariants as movement
use Rattle.al_typed.specs.declared.expression.StepOp.{StepOp}
use Rattle.al_typed.specs.declared.expression.StepOp.TheVariants as step
use Rattle.al_typed.specs.declared.expression.BinaryOp.TheVariants as binary
use Rattle.al_typed.specs.declared.expression.Passed.{Passed}
use Rattle.al_typed.specs.declared.expression.Passed.TheVariants as passed
use Rattle.al_typed.specs.declared.expression.PrintPiece.{PrintPiece}
use Rattle.al_typed.specs.declared.expression.PrintPiece.TheVariants as print
use Rattle.al_typed.specs.declared.expression.TExpr.{TExpr, Constant, Text, Nil, Function, SizeofType, Tuple', Call', CallPointer', Print', Sequence', Iterator, end_of-TExpr, more_of-TExpr, Row_of-TTarget, end_of-TTarget, more_of-TTarget}
use Rattle.al_typed.specs.declared.expression.TPlace.{TPlace, Local as Local_, Outer, Global}
use Rattle.al_typed.specs.declared.expression.TTarget.{TTarget, Dropped, Parts'}
use Rattle.al_typed.specs.declared.program.Function.{Function as FunctionRow}
use Rattle.al_typed.specs.declared.program.Local.{Local as LocalRow}
use Rattle.al_typed.specs.declared.program.Global.{Global as GlobalRow}
use Rattle.al_typed.specs.declared.program.Program.{Program}
use Rattle.al_typed.specs.declared.statement.TCommunication.{TCommunication}
use Rattle.al_typed.specs.declared.statement.TCommunication.TheVariants as talk
use Rattle.al_typed.specs.ExpressionForms as form
use Rattle.al_typed.specs.Typed.{type_of, place_type, target_type}
use Rattle.al_meaning.specs.Words.{bits_of, integer_words, operated, sum, stepped_by, converted, part_of, fitted_to}
use Rattle.al_meaning.specs.Places.{function_at, locals_of, global_place, text_place, private_place, local_offset, function_address, path_offset, words_in}
use Rattle.al_meaning.specs.Shown.{most_text, kind_of, written}
use Rattle.al_meaning.specs.Items.{Found, Words, Address, Local, Private, Nowhere, Argument, Work, Eval, Find, Aim, Answered, Give, Drop, Unary, Negate, Binary, AndThen, OrElse, Advance, AdvanceCounted, Between, Convert, Part, Join, Point, Index, Within, AddressOf, Read, Look, Fetch, Fetched, Save, Write, Assign, Update, Step, Clear, Invoke, InvokePointer, Gather, Compose, Scan, Terminates, Receives, Sends, CanReceives, CanSends, CasesEnd}
use Rattle.al_meaning.specs.Parts.{exprs, targets, item, Branching}
use Rattle.al_meaning.specs.Here.{Here, Next, asks, does, drops, finds, gives, lost, moves, pointee, size_in, traps, units_in, with_found, with_items, with_work}
use Rattle.al_meaning.specs.Calls.{call_work, evaluated}

-- ---- places

abbrev pub is_shared_local : Option LocalRow → Bool
is_shared_local (Some l) = l.is_shared
is_shared_local None = false

-- a local of a function whose shared block stands there
abbrev pub local_found : Program → (function block number : ℕ) → Found
local_found p function block number =
    if is_shared_local (slice_get (locals_of (function_at p function)) number)
    then Address (sum block (local_offset p (locals_of (function_at p function)) number))
    else Local number

-- the functions round a function
abbrev pub round_of : Option FunctionRow → List ℕ
round_of (Some f) = f.around
round_of None = []

-- a shared local of a function round a branch of a par, where the blocks round it stand at these addresses
abbrev pub outer_found : Program → (function : ℕ) → (blocks : List ℕ) → (around number : ℕ) → Found
outer_found p function blocks around number =
    Address (sum (slice_index blocks around)
    (local_offset p (locals_of (function_at p (slice_index (round_of (function_at p function)) around))) number))

abbrev pub is_private_global : Option GlobalRow → Bool
is_private_global (Some g) = g.is_private
is_private_global None = false

abbrev pub global_found : Program → ℕ → Found
global_found p number = if is_private_global (slice_get p.globals number) then Private number else Address (global_place p number)

abbrev pub find_place : TPlace → Here → Next
find_place (Local_ t number) h = finds h (local_found h.program h.frame.function h.frame.block number)
find_place (Outer t around number) h = finds h (outer_found h.program h.frame.function h.frame.around around number)
find_place (Global t number) h = finds h (global_found h.program number)
find_place (form.pointed t pointer) h = does h (Eval pointer ∷ Point 0 ∷ [])
find_place (form.element t base index) h = does h (Eval base ∷ Eval index ∷ Index (size_in h.program t) ∷ [])
find_place (form.member_in t of path) h = does h (Find of ∷ Within (path_offset h.program (place_type of) path) ∷ [])
find_place (form.pointed_member t pointer path) h =
    does h (Eval pointer ∷ Point (path_offset h.program (pointee (type_of pointer)) path) ∷ [])

-- the places of a target, from left to right
abbrev pub aim_at : TTarget → Here → Next
aim_at (form.into place) h = does h (Find place ∷ [])
aim_at (Dropped t) h = finds h Nowhere
aim_at (Parts' t _ parts) h = does h (map Aim (targets parts))

-- the types of the places of a target
abbrev mutual
  pub leaves_of : TTarget → List Ty
  leaves_of (form.into place) = place_type place ∷ []
  leaves_of (Dropped t) = t ∷ []
  leaves_of (Parts' t _ parts) = leaves_of_all parts

  pub leaves_of_all : {m : _} → Row_of-TTarget m → List Ty
  leaves_of_all end_of-TTarget = []
  leaves_of_all (more_of-TTarget t rest) = leaves_of t ++ leaves_of_all rest

-- ---- values of places

abbrev pub read_place : Ty → Found → Here → Next
read_place t (Address at) h = does h (Fetch at (units_in h.program t) [] ∷ [])
read_place t (Local number) h = gives h (unwrap_or (slice_get h.frame.locals number) [])
read_place t (Private number) h = gives h (take (words_in h.program t) (drop (private_place h.program number) h.privates))
read_place t _ h = lost h

abbrev pub fetch_units : ℕ → List Unit → List ℕ → Here → Next
fetch_units at [] got h = gives h got
fetch_units at (u ∷ units) got h = asks h (act.Load (sum at u.at) u.size) (Fetched at units got ∷ [])

abbrev pub with_local : ℕ → List ℕ → Here → Here
with_local number words h = record h { frame = record h.frame { locals = slice_set h.frame.locals number words } }

-- these words in the place of as many
abbrev pub put_at : ℕ → List ℕ → List ℕ → List ℕ
put_at place words all = take place all ++ words ++ drop (place + length words) all

abbrev pub save_at : Ty → List ℕ → Found → Here → Next
save_at t words (Address at) h = does h (Write at (units_in h.program t) words ∷ [])
save_at t words (Local number) h = moves (with_local number words h)
save_at t words (Private number) h = moves (record h { privates = put_at (private_place h.program number) words h.privates })
save_at t words Nowhere h = moves h
save_at t words (Words _) h = lost h

abbrev pub write_units : ℕ → List Unit → List ℕ → Here → Next
write_units at [] words h = moves h
write_units at (u ∷ units) words h =
    asks h (act.Store (sum at u.at) u.size (slice_index words 0)) (Write at units (drop 1 words) ∷ [])

-- each part of a value into its place, from left to right
abbrev pub saves : Program → List Ty → List Found → List ℕ → List Work
saves p (t ∷ ts) (f ∷ places) words = Save t (take (words_in p t) words) f ∷ saves p ts places (drop (words_in p t) words)
saves p _ _ words = []

-- what `op=` makes of an old value; none for a division by 0
abbrev pub updated : Program → Ty → Change → List ℕ → List ℕ → Option (List ℕ)
updated p t (change.Apply op kind) old value =
    option_map (converted p.aggregates (ty.Integer kind) t) (operated op kind (converted p.aggregates t (ty.Integer kind) old) value)
updated p t (change.Move back) old value = Some (stepped_by back (size_in p (pointee t)) (bits_of old) (bits_of value) ∷ [])

abbrev pub saves_and_gives : Here → Ty → Found → List ℕ → List ℕ → Next
saves_and_gives h t place words given = does h (Save t words place ∷ Give given ∷ [])

abbrev pub saves_updated : Here → Ty → Found → Option (List ℕ) → Next
saves_updated h t place (Some words) = saves_and_gives h t place words words
saves_updated h t place None = traps h trap.Divide

-- one more or less: an integer of a kind, or a pointer
abbrev pub next_value : Program → Bool → Ty → Ty-F Ty → List ℕ → List ℕ
next_value p back t (Ty-F.Integer k) ws =
    unwrap_or (operated (if back then binary.Subtract else binary.Add) k ws (integer_words k 1)) ws
next_value p back t (Ty-F.Pointer to) ws = stepped_by back (size_in p to) (bits_of ws) 1 ∷ []
next_value p back t _ ws = ws

abbrev pub goes_back : StepOp → Bool
goes_back step.PreIncrement = false
goes_back step.PreDecrement = true
goes_back step.PostIncrement = false
goes_back step.PostDecrement = true

-- the value of `++` and `--`
abbrev pub step_gives : StepOp → List ℕ → List ℕ → List ℕ
step_gives step.PreIncrement old new = new
step_gives step.PreDecrement old new = new
step_gives step.PostIncrement old new = old
step_gives step.PostDecrement old new = old

-- what a function of an adt gets of an object at an address
abbrev pub passes_place : Passed → Ty → ℕ → Here → Next
passes_place passed.Address t at h = gives h (at ∷ [])
passes_place passed.Value t at h = moves (with_work (Read t ∷ []) (with_found (Address at ∷ h.frame.found) h))
passes_place passed.Nothing t at h = moves h

abbrev pub passes_part : Passed → Ty → List ℕ → List ℕ → Here → Next
passes_part passed.Address t path ws h = lost h
passes_part passed.Value t path ws h = gives h (part_of h.program.aggregates t path ws)
passes_part passed.Nothing t path ws h = moves h

-- ---- expressions

abbrev pub and_dropped : TExpr → List Work
and_dropped e = Eval e ∷ drops (type_of e)

abbrev pub eval : TExpr → Here → Next
eval (Constant t bits) h = gives h (integer_words (kind_of t) bits)
eval (Text t number) h = gives h (text_place h.program number ∷ [])
eval (Nil t) h = gives h (0 ∷ [])
eval (Function t number) h = gives h (function_address number ∷ [])
eval (form.load t place) h = does h (Find place ∷ Read t ∷ [])
eval (form.decay t place) h = does h (Find place ∷ AddressOf ∷ [])
eval (form.address t place) h = does h (Find place ∷ AddressOf ∷ [])
eval (SizeofType t of) h = gives h (size_in h.program of ∷ [])
eval (form.sizeof_place t place) h = gives h (size_in h.program (place_type place) ∷ [])
eval (form.sizeof_value t value) h = gives h (size_in h.program (type_of value) ∷ [])
eval (form.unary t op of) h = does h (Eval of ∷ Unary op (kind_of t) ∷ [])
eval (form.negation t of) h = does h (Eval of ∷ Negate ∷ [])
eval (form.binary t op kind left right) h = does h (Eval left ∷ Eval right ∷ Binary op kind ∷ [])
eval (form.logical t logic.And left right) h = does h (Eval left ∷ AndThen right ∷ [])
eval (form.logical t logic.Or left right) h = does h (Eval left ∷ OrElse right ∷ [])
eval (form.movement t movement.Forward pointer count) h =
    does h (Eval pointer ∷ Eval count ∷ Advance false (size_in h.program (pointee t)) ∷ [])
eval (form.movement t movement.CountFirst pointer count) h =
    does h (Eval count ∷ Eval pointer ∷ AdvanceCounted (size_in h.program (pointee t)) ∷ [])
eval (form.movement t movement.Back pointer count) h =
    does h (Eval pointer ∷ Eval count ∷ Advance true (size_in h.program (pointee t)) ∷ [])
eval (form.difference t left right) h =
    does h (Eval left ∷ Eval right ∷ Between (size_in h.program (pointee (type_of left))) ∷ [])
eval (form.assign t target value) h = does h (Aim target ∷ Eval value ∷ Assign target ∷ [])
eval (form.update t place change value) h = does h (Find place ∷ Look t ∷ Eval value ∷ Update t change ∷ [])
eval (form.stepped t op place) h = does h (Find place ∷ Look t ∷ Step t op ∷ [])
eval (form.zerox t place) h = does h (Find place ∷ Look t ∷ Clear t ∷ [])
eval (Tuple' t _ parts) h = does h (evaluated (exprs parts) ++ Join (length (exprs parts)) ∷ [])
eval (Call' t function receiver shape arguments) h = does h (call_work h.program (Call' t function receiver shape arguments) Invoke)
eval (CallPointer' t _ (more_of-TExpr pointer end_of-TExpr) _ arguments) h =
    does h (Eval pointer ∷ evaluated (exprs arguments) ++ InvokePointer (pointee (type_of pointer)) (length (exprs arguments)) ∷ [])
eval (Print' t format _ arguments) h = does h (evaluated (exprs arguments) ++ Gather format (map type_of (exprs arguments)) ∷ [])
eval (form.terminate t status) h = does h (Eval status ∷ Terminates ∷ [])
eval (form.receive t chan) h = does h (Eval chan ∷ Receives t ∷ [])
eval (form.send t chan value) h = does h (Eval chan ∷ Eval value ∷ Sends (type_of value) ∷ [])
eval (form.can_receive t chan) h = does h (Eval chan ∷ CanReceives ∷ [])
eval (form.can_send t chan) h = does h (Eval chan ∷ CanSends ∷ [])
eval (form.member_of t value path) h = does h (Eval value ∷ Part (type_of value) path ∷ [])
eval (form.cast t of) h = does h (Eval of ∷ Convert (type_of of) t ∷ [])
eval (form.convert t of) h = does h (Eval of ∷ Convert (type_of of) t ∷ [])
eval (Sequence' t _ first _ (more_of-TExpr last end_of-TExpr)) h = does h (flat_map and_dropped (exprs first) ++ Eval last ∷ [])
eval (Iterator t number) h = gives h (slice_index h.frame.turns number ∷ [])

-- ---- print

abbrev pub arguments_of : List Ty → List (List ℕ) → List Argument
arguments_of (t ∷ ts) (ws ∷ values) = record { ty = t; words = ws } ∷ arguments_of ts values
arguments_of _ _ = []

-- the text with these bytes more: the first one past the most traps
abbrev pub composes : Here → List PrintPiece → List Argument → List ℕ → List ℕ → Next
composes h pieces arguments text bytes =
    if nat_lt most_text (length text + length bytes) then traps h trap.Print else does h (Compose pieces arguments (text ++ bytes) ∷ [])

-- the next part of a format
abbrev pub compose : List PrintPiece → List Argument → List ℕ → Here → Next
compose [] arguments text h = asks h (act.Print text) (Answered ∷ [])
compose (print.Byte b ∷ pieces) arguments text h = composes h pieces arguments text (b ∷ [])
compose (print.Percent ∷ pieces) arguments text h = composes h pieces arguments text (37 ∷ [])
compose (print.Text ∷ pieces) (a ∷ arguments) text h = does h (Scan (slice_index a.words 0) pieces arguments text ∷ [])
compose (verb ∷ pieces) (a ∷ arguments) text h = composes h pieces arguments text (written verb a.ty a.words)
compose (verb ∷ pieces) [] text h = lost h

-- a byte of a `%s` was read
abbrev pub scanned : ℕ → ℕ → List PrintPiece → List Argument → List ℕ → Here → Next
scanned zero at pieces arguments text h = does h (Compose pieces arguments text ∷ [])
scanned (suc b) at pieces arguments text h =
    if nat_lt (length text) most_text then does h (Scan (sum at 1) pieces arguments (text ++ suc b ∷ []) ∷ []) else traps h trap.Print

-- ---- channels

abbrev pub receiving : Program → Ty → ℕ → Branch
receiving p t chan = record { chan = chan; words = words_in p t; send = None }

abbrev pub sending : Program → Ty → ℕ → List ℕ → Branch
sending p t chan words = record { chan = chan; words = words_in p t; send = Some words }

-- the channels and values of an alt's cases, in text order
abbrev pub communication_exprs : TCommunication → List TExpr
communication_exprs (talk.Receive t chan) = chan ∷ []
communication_exprs (talk.ReceiveInto t target chan) = chan ∷ []
communication_exprs (talk.Send chan value) = chan ∷ value ∷ []

abbrev pub value_at : List (List ℕ) → ℕ → List ℕ
value_at values i = unwrap_or (slice_get values i) []

abbrev pub alt_branch : Program → TCommunication → List (List ℕ) → Branch
alt_branch p (talk.Receive t chan) values = receiving p t (slice_index (value_at values 0) 0)
alt_branch p (talk.ReceiveInto t target chan) values = receiving p t (slice_index (value_at values 0) 0)
alt_branch p (talk.Send chan value) values = sending p (type_of value) (slice_index (value_at values 0) 0) (value_at values 1)

-- the branches of an alt, from the values of all its cases
abbrev pub alt_branches : Program → List TCommunication → List (List ℕ) → List Branch
alt_branches p [] values = []
alt_branches p (c ∷ more) values =
    alt_branch p c values ∷ alt_branches p more (drop (length (communication_exprs c)) values)

abbrev pub communications : List Branching → List TCommunication
communications cases = map (λ (b : Branching). b.communication) cases

abbrev pub alt_exprs : List TCommunication → List TExpr
alt_exprs cases = flat_map communication_exprs cases

-- what the case that went does with what it received
abbrev pub went_work : Program → TCommunication → List ℕ → List Work
went_work p (talk.ReceiveInto t target chan) words =
    Aim target ∷ Give (converted p.aggregates t (target_type target) (fitted_to (units_in p t) words)) ∷ Assign target ∷ Drop ∷ []
went_work p _ words = []

abbrev pub goes_into : Here → Option Branching → List ℕ → Next
goes_into h (Some b) words =
    moves (with_items (map (item h.line) (went_work h.program b.communication words) ++ b.body ++ item h.line CasesEnd ∷ []) h)
goes_into h None words = lost h

-- ---- allocation

abbrev pub allocates : Ty-F Ty → Here → Next
allocates (Ty-F.Pointer to) h = asks h (act.Alloc (size_in h.program to) Heap) (Answered ∷ [])
allocates (Ty-F.Chan element capacity) h = asks h (act.NewChan capacity (words_in h.program element)) (Answered ∷ [])
allocates _ h = lost h

abbrev pub gives_back : Ty-F Ty → ℕ → Here → Next
gives_back (Ty-F.Chan element capacity) n h = asks h (act.FreeChan n) (Answered ∷ [])
gives_back _ n h = asks h (act.Free n Heap) (Answered ∷ [])
