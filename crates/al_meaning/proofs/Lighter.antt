-- Each private step that is no turn makes a control lighter.
use Rattle.std.proofs.lemmas.List.{length-append}
use Rattle.std.proofs.Common.{subst, refl, arith, ◌≡◌, ◌<◌, ◌≤◌}
use Rattle.std.specs.Prelude.{ℕ, zero, suc, ◌+◌, ◌==◌, nat_lt, Bool, true, false, if◌then◌else◌, List, [], ◌∷◌, ◌++◌, map, take, drop, length, Option, Some, None, slice_get, slice_index, ⊤, ◌*◌}
use Rattle.std.specs.List.{flat_map}
use Rattle.al_world.specs.Turns.{Moves, Turns, Asks}
use Rattle.al_typed.specs.declared.ty.Ty.{Ty, out-Ty}
use Rattle.al_typed.specs.declared.ty.Ty.TheOpen.{Ty-F}
use Rattle.al_typed.specs.declared.layout.Unit.{Unit}
use Rattle.al_typed.specs.declared.expression.Logic.TheVariants as logic
use Rattle.al_typed.specs.declared.expression.Movement.TheVariants as movement
use Rattle.al_typed.specs.declared.expression.Passed.{Passed}
use Rattle.al_typed.specs.declared.expression.Passed.TheVariants as passed
use Rattle.al_typed.specs.declared.expression.PrintPiece.{PrintPiece}
use Rattle.al_typed.specs.declared.expression.PrintPiece.TheVariants as print
use Rattle.al_typed.specs.declared.expression.TExpr.{TExpr, Constant, Text, Nil, Function, SizeofType, Tuple', Call', CallPointer', Print', Sequence', Iterator, Held-TExpr-Call-2, None', Some', Row_of-TExpr, end_of-TExpr, more_of-TExpr, end_of-TReceiver, more_of-TReceiver, Row_of-TTarget, end_of-TTarget, more_of-TTarget}
use Rattle.al_typed.specs.declared.expression.TPlace.{TPlace, Local as Local_, Outer, Global}
use Rattle.al_typed.specs.declared.expression.TTarget.{TTarget, Dropped, Parts'}
use Rattle.al_typed.specs.declared.program.Function.{Function as FunctionRow}
use Rattle.al_typed.specs.declared.program.Local.{Local as LocalRow}
use Rattle.al_typed.specs.declared.program.Program.{Program}
use Rattle.al_typed.specs.declared.statement.TBounds.{TBounds}
use Rattle.al_typed.specs.declared.statement.TInitializer.{TInitializer}
use Rattle.al_typed.specs.declared.statement.TCommunication.{TCommunication}
use Rattle.al_typed.specs.declared.statement.TCommunication.TheVariants as talk
use Rattle.al_typed.specs.declared.statement.TStmt.{TStmt, Empty, Block', Declare, Value, If', Switch', Case, Default, Alt', AltCase, Par, Raise, Goto, Return, Become, Break, Continue, Alloc, Unalloc, Check, Proc, Task, Held-TStmt-If-3, Row_of-TStmt, end_of-TStmt, more_of-TStmt}
use Rattle.al_typed.specs.declared.statement.TStmt as stmt
use Rattle.al_typed.specs.ExpressionForms as form
use Rattle.al_typed.specs.StatementForms as part
use Rattle.al_typed.specs.Types.{is_void}
use Rattle.al_typed.specs.Typed.{type_of}
use Rattle.al_meaning.specs.Words.{bits_of, is_zero, is_below, operated, sum, fitted_to}
use Rattle.al_meaning.specs.Places.{function_at, locals_of, has_block, words_in}
use Rattle.al_meaning.specs.Shown.{most_text, written}
use Rattle.al_meaning.specs.Items.{Found, Words, Address, Local, Private, Nowhere, Argument, Bounds, Work, Eval, Find, Aim, Answered, Give, Drop, Unary, Negate, Binary, AndThen, OrElse, Truth, Advance, AdvanceCounted, Between, Convert, Part, Join, Point, Index, Within, AddressOf, Read, Look, Fetch, Fetched, Save, Put, Write, Assign, Update, Step, Clear, PassPlace, PassPointer, PassPart, Invoke, InvokePointer, Enter, InvokeInstead, Replace, TakeBlock, SetBlock, StoreParameter, Returns, CountReturn, Leave, Gather, Compose, Scan, Scanned, Terminates, Receives, Received, Sends, CanReceives, CanSends, Allocate, Unallocate, StartProc, StartTask, Do, Choose, Test, WhileTest, WhileAgain, DoCondition, DoTest, ForCondition, ForTest, ForNext, ForAgain, Bound, Iterate, NextTurn, Select, AltTalk, AltWent, CasesEnd, Item, Frame, Entering, Control}
use Rattle.al_meaning.specs.Parts.{Border, Inside, LoopEnd, BodyEnd, border, exprs, targets, receiver_of, other_of, item, to_do, statements, behind_bodies, next_of_loop, behind_case, behind_default, Branching, branchings, first_of_two}
use Rattle.al_meaning.specs.Here.{Here, here, Next, control_at, with_items, with_found, with_work, moves, does, function_here, value_taken, with_value, with_two, place_taken, with_place, at_address, with_address, words_before, places_before, pointee, units_in, drops}
use Rattle.al_meaning.specs.Calls.{evaluated, object_work, object_count, call_work, joined, parameter_work, block_work, begun_function, begun, line_of_name, has_room, enters, named_by, invokes_found, with_given, leaves, gives_block, ends, default_of, gives_block}
use Rattle.al_meaning.specs.Evaluate.{local_found, find_place, aim_at, read_place, fetch_units, save_at, write_units, saves, updated, saves_updated, passes_place, passes_part, and_dropped, eval, composes, compose, scanned, communications, alt_exprs, went_work, goes_into, allocates, gives_back, leaves_of, leaves_of_all}
use Rattle.al_meaning.specs.Execute.{initializer_work, bounds_exprs, allocation_work, unallocation_work, optionally, do_statement, while_test, do_condition, for_condition, for_test, for_next, bounds_of, iterate, selects, select, cases_of}
use Rattle.al_meaning.specs.Step.{gives_quotient, store_parameter, step_work, step_frame, step_frames, step_entering, private_step}
use Rattle.al_meaning.specs.Weight.{expr_weight, place_weight, target_weight, targets_weight, receiver_weight, row_weight, optional_weight, listed_weight, places_weight, bounds_weight, initializers_weight, communication_weight, statement_weight, other_weight, body_weight, else_weight, rest_of_while, rest_of_do, next_of_for, body_of_for, condition_of_for, cases_weight, own_weight, own_weights, begun_weight, work_weight, items_weight, frame_weight, frames_weight, entering_weight, control_weight}

abbrev Falls : Program → ℕ → Next → Type 0
Falls p n (Moves c u) = control_weight p c < n
Falls p n _ = ⊤

abbrev weight : Here → ℕ
weight h = control_weight h.program (control_at h)

-- ---- work that is laid down

abbrev works_weight : Program → List Work → ℕ
works_weight p [] = 0
works_weight p (w ∷ ws) = work_weight p w + works_weight p ws

items_of_works : (p : Program) (line : ℕ) (ws : List Work) (items : List Item)
    → items_weight p (map (item line) ws ++ items) ≡ works_weight p ws + items_weight p items
items_of_works p line [] items = omega arith
items_of_works p line (w ∷ ws) items = omega (arith, items_of_works p line ws items)

works-append : (p : Program) (ws vs : List Work) → works_weight p (ws ++ vs) ≡ works_weight p ws + works_weight p vs
works-append p [] vs = omega arith
works-append p (w ∷ ws) vs = omega (arith, works-append p ws vs)

items-append : (p : Program) (is js : List Item) → items_weight p (is ++ js) ≡ items_weight p is + items_weight p js
items-append p [] js = omega arith
items-append p (i ∷ is) js = omega (arith, items-append p is js)

does_light : (h : Here) (work : List Work) (n : ℕ) → weight h + works_weight h.program work < n → Falls h.program n (does h work)
unfolding control_weight
does_light h work n lt = omega (arith, lt, items_of_works h.program h.line work h.frame.items)

with_items_light : (h : Here) (items : List Item) (n : ℕ) → weight h + items_weight h.program items < n → Falls h.program n (moves (with_items items h))
unfolding control_weight
with_items_light h items n lt = omega (arith, lt, items-append h.program items h.frame.items)

drops_light : (p : Program) (t : Ty) → works_weight p (drops t) ≤ 4
unfolding work_weight own_weight
drops_light p t = on (is_void t)
  where
    on : (b : Bool) → works_weight p (if b then [] else Drop ∷ []) ≤ 4
    on true = omega arith
    on false = omega arith

one_dropped : (p : Program) (e : TExpr) → works_weight p (and_dropped e) ≤ 4 + expr_weight e
unfolding work_weight own_weight
one_dropped p e = omega (arith, drops_light p (type_of e))

evaluated_row : (p : Program) {m : _} (row : Row_of-TExpr m) → works_weight p (evaluated (exprs row)) ≤ row_weight row
unfolding work_weight own_weight
evaluated_row p end_of-TExpr = omega arith
evaluated_row p (more_of-TExpr e rest) = omega (arith, evaluated_row p rest)

dropped_row : (p : Program) {m : _} (row : Row_of-TExpr m) → works_weight p (flat_map and_dropped (exprs row)) ≤ row_weight row
unfolding work_weight own_weight
dropped_row p end_of-TExpr = omega arith
dropped_row p (more_of-TExpr e rest) =
    omega (arith, dropped_row p rest, one_dropped p e, works-append p (and_dropped e) (flat_map and_dropped (exprs rest)))

aimed_row : (p : Program) {m : _} (row : Row_of-TTarget m) → works_weight p (map Aim (targets row)) ≤ targets_weight row
unfolding work_weight own_weight
aimed_row p end_of-TTarget = omega arith
aimed_row p (more_of-TTarget t rest) = omega (arith, aimed_row p rest)

evaluated_list : (p : Program) (es : List TExpr) → works_weight p (evaluated es) ≤ listed_weight es
unfolding work_weight own_weight
evaluated_list p [] = omega arith
evaluated_list p (e ∷ es) = omega (arith, evaluated_list p es)

object_light : (p : Program) (o : Held-TExpr-Call-2) → works_weight p (object_work p (receiver_of o)) ≤ receiver_weight o
unfolding work_weight own_weight
object_light p None' = omega arith
object_light p (Some' _ (more_of-TReceiver (form.place_before place path how) end_of-TReceiver)) = omega arith
object_light p (Some' _ (more_of-TReceiver (form.value_before value path how) end_of-TReceiver)) = omega arith
object_light p (Some' _ (more_of-TReceiver (form.pointer_before pointer path how) end_of-TReceiver)) = omega arith

-- ---- what was found is taken

value_light : (h : Here) (n : ℕ) (k : List ℕ → Here → Next)
    → ((ws : List ℕ) (found : List Found) → Falls h.program n (k ws (with_found found h))) → Falls h.program n (with_value h k)
value_light h n k f = on h.frame.found
  where
    on : (found : List Found) → Falls h.program n (value_taken found h k)
    on [] = tt
    on (Words ws ∷ found) = f ws found
    on (Address at ∷ found) = tt
    on (Local number ∷ found) = tt
    on (Private number ∷ found) = tt
    on (Nowhere ∷ found) = tt

place_light : (h : Here) (n : ℕ) (k : Found → Here → Next)
    → ((f : Found) (found : List Found) → Falls h.program n (k f (with_found found h))) → Falls h.program n (with_place h k)
place_light h n k f = on h.frame.found
  where
    on : (found : List Found) → Falls h.program n (place_taken found h k)
    on [] = tt
    on (x ∷ found) = f x found

address_light : (h : Here) (n : ℕ) (k : ℕ → Here → Next)
    → ((at : ℕ) (found : List Found) → Falls h.program n (k at (with_found found h))) → Falls h.program n (with_address h k)
address_light h n k f = place_light h n (at_address k) on
  where
    on : (x : Found) (found : List Found) → Falls h.program n (at_address k x (with_found found h))
    on (Words ws) found = tt
    on (Address at) found = f at found
    on (Local number) found = tt
    on (Private number) found = tt
    on Nowhere found = tt

values_light : (c : ℕ) (values : List (List ℕ)) (h : Here) (n : ℕ) (k : List (List ℕ) → Here → Next)
    → ((values : List (List ℕ)) (found : List Found) → Falls h.program n (k values (with_found found h))) → Falls h.program n (words_before c values h k)
values_light zero values h n k f = f values h.frame.found
values_light (suc c) values h n k f =
    value_light h n (λ ws h. words_before c (ws ∷ values) h k) (λ ws found. values_light c (ws ∷ values) (with_found found h) n k f)

places_light : (c : ℕ) (places : List Found) (h : Here) (n : ℕ) (k : List Found → Here → Next)
    → ((places : List Found) (found : List Found) → Falls h.program n (k places (with_found found h))) → Falls h.program n (places_before c places h k)
places_light zero places h n k f = f places h.frame.found
places_light (suc c) places h n k f =
    place_light h n (λ x h. places_before c (x ∷ places) h k) (λ x found. places_light c (x ∷ places) (with_found found h) n k f)

two_light : (h : Here) (n : ℕ) (k : List ℕ → List ℕ → Here → Next)
    → ((a b : List ℕ) (found : List Found) → Falls h.program n (k a b (with_found found h))) → Falls h.program n (with_two h k)
two_light h n k f =
    value_light h n (λ second h. with_value h (λ first h. k first second h))
    (λ second found. value_light (with_found found h) n (λ first h. k first second h) (λ first found. f first second found))

-- ---- places, targets and expressions

weigh_place : (place : TPlace) (h : Here) → Falls h.program (weight h + place_weight place) (find_place place h)
unfolding control_weight work_weight own_weight
weigh_place (Local_ t number) h = omega arith
weigh_place (Outer t around number) h = omega arith
weigh_place (Global t number) h = omega arith
weigh_place (form.pointed t pointer) h = omega arith
weigh_place (form.element t base index) h = omega arith
weigh_place (form.member_in t of path) h = omega arith
weigh_place (form.pointed_member t pointer path) h = omega arith

weigh_target : (target : TTarget) (h : Here) → Falls h.program (weight h + target_weight target) (aim_at target h)
unfolding control_weight work_weight own_weight
weigh_target (form.into place) h = omega arith
weigh_target (Dropped t) h = omega arith
weigh_target (Parts' t _ parts) h = does_light h (map Aim (targets parts)) _ (omega (arith, aimed_row h.program parts))

-- a call of a function by its name, before what is done with its values
call_light : (p : Program) (receiver : Held-TExpr-Call-2) {m : _} (row : Row_of-TExpr m) (last : Work) (n : ℕ) → work_weight p last ≤ 4
    → receiver_weight receiver + (row_weight row + 4) ≤ n
    → works_weight p (object_work p (receiver_of receiver) ++ evaluated (exprs row) ++ last ∷ []) ≤ n
call_light p receiver row last n le most =
    omega (
      arith,
      le,
      most,
      object_light p receiver,
      evaluated_row p row,
      works-append p (object_work p (receiver_of receiver) ++ evaluated (exprs row)) (last ∷ []),
      works-append p (object_work p (receiver_of receiver)) (evaluated (exprs row)),
    )

weigh_expr : (e : TExpr) (h : Here) → Falls h.program (weight h + expr_weight e) (eval e h)
unfolding control_weight work_weight own_weight
weigh_expr (Constant t bits) h = omega arith
weigh_expr (Text t number) h = omega arith
weigh_expr (Nil t) h = omega arith
weigh_expr (Function t number) h = omega arith
weigh_expr (form.load t place) h = omega arith
weigh_expr (form.decay t place) h = omega arith
weigh_expr (form.address t place) h = omega arith
weigh_expr (SizeofType t of) h = omega arith
weigh_expr (form.sizeof_place t place) h = omega arith
weigh_expr (form.sizeof_value t value) h = omega arith
weigh_expr (form.unary t op of) h = omega arith
weigh_expr (form.negation t of) h = omega arith
weigh_expr (form.binary t op kind left right) h = omega arith
weigh_expr (form.logical t logic.And left right) h = omega arith
weigh_expr (form.logical t logic.Or left right) h = omega arith
weigh_expr (form.movement t movement.Forward pointer count) h = omega arith
weigh_expr (form.movement t movement.CountFirst pointer count) h = omega arith
weigh_expr (form.movement t movement.Back pointer count) h = omega arith
weigh_expr (form.difference t left right) h = omega arith
weigh_expr (form.assign t target value) h = omega arith
weigh_expr (form.update t place change value) h = omega arith
weigh_expr (form.stepped t op place) h = omega arith
weigh_expr (form.zerox t place) h = omega arith
weigh_expr (Tuple' t _ parts) h =
    does_light h (evaluated (exprs parts) ++ Join (length (exprs parts)) ∷ []) _
    (omega (arith, evaluated_row h.program parts, works-append h.program (evaluated (exprs parts)) (Join (length (exprs parts)) ∷ [])))
weigh_expr (Call' t function receiver shape arguments) h =
    does_light h (call_work h.program (Call' t function receiver shape arguments) Invoke) _
    (omega (
      arith,
      call_light h.program receiver arguments (Invoke function (object_count (receiver_of receiver) + length (exprs arguments)))
          (receiver_weight receiver + (row_weight arguments + 4)) (omega arith) (omega arith),
    ))
weigh_expr (CallPointer' t _ (more_of-TExpr pointer end_of-TExpr) _ arguments) h =
    does_light h (Eval pointer ∷ evaluated (exprs arguments) ++ InvokePointer (pointee (type_of pointer)) (length (exprs arguments)) ∷ []) _
    (omega (
      arith,
      evaluated_row h.program arguments,
      works-append h.program (evaluated (exprs arguments)) (InvokePointer (pointee (type_of pointer)) (length (exprs arguments)) ∷ []),
    ))
weigh_expr (Print' t format _ arguments) h =
    does_light h (evaluated (exprs arguments) ++ Gather format (map type_of (exprs arguments)) ∷ []) _
    (omega (arith, evaluated_row h.program arguments, works-append h.program (evaluated (exprs arguments)) (Gather format (map type_of (exprs arguments)) ∷ [])))
weigh_expr (form.terminate t status) h = omega arith
weigh_expr (form.receive t chan) h = omega arith
weigh_expr (form.send t chan value) h = omega arith
weigh_expr (form.can_receive t chan) h = omega arith
weigh_expr (form.can_send t chan) h = omega arith
weigh_expr (form.member_of t value path) h = omega arith
weigh_expr (form.cast t of) h = omega arith
weigh_expr (form.convert t of) h = omega arith
weigh_expr (Sequence' t _ first _ (more_of-TExpr last end_of-TExpr)) h =
    does_light h (flat_map and_dropped (exprs first) ++ Eval last ∷ []) _
    (omega (arith, dropped_row h.program first, works-append h.program (flat_map and_dropped (exprs first)) (Eval last ∷ [])))
weigh_expr (Iterator t number) h = omega arith

-- ---- statements

statement_light : (p : Program) (s : TStmt) → work_weight p (Do s) ≡ statement_weight s
unfolding work_weight own_weight
statement_light p s = refl

body_light : (p : Program) {m : _} (row : Row_of-TStmt m) → items_weight p (statements row) ≤ body_weight row
unfolding work_weight own_weight
body_light p end_of-TStmt = omega arith
body_light p (more_of-TStmt (Case _ _) rest) = omega (arith, body_light p rest)
body_light p (more_of-TStmt Default rest) = omega (arith, body_light p rest)
body_light p (more_of-TStmt (AltCase _) rest) = omega (arith, body_light p rest)
body_light p (more_of-TStmt s rest) = omega (arith, body_light p rest)

other_light : (o : Held-TStmt-If-3) → else_weight (other_of o) ≡ other_weight o
other_light stmt.None' = refl
other_light (stmt.Some' _ (more_of-TStmt other end_of-TStmt)) = refl

if_light : (p : Program) (n : ℕ) (b : Bool) (x y : Next) → Falls p n x → Falls p n y → Falls p n (if b then x else y)
if_light p n true x y f g = f
if_light p n false x y f g = g

falls_more : (p : Program) (n m : ℕ) (x : Next) → n ≤ m → Falls p n x → Falls p m x
falls_more p n m (Moves c u) le f = omega (arith, le, f)
falls_more p n m (Turns line c u) le f = tt
falls_more p n m (Asks a line c u) le f = tt

initializers_light : (p : Program) (is : List TInitializer) → works_weight p (flat_map initializer_work is) ≤ initializers_weight is
unfolding work_weight own_weight
initializers_light p [] = omega arith
initializers_light p (i ∷ is) = omega (arith, initializers_light p is)

bounds_light : (p : Program) (bs : List TBounds) → works_weight p (evaluated (bounds_exprs bs)) + 24 * length bs ≤ bounds_weight bs
unfolding work_weight own_weight
bounds_light p [] = omega arith
bounds_light p (b ∷ bs) = omega (arith, bounds_light p bs)

optionally_light : (p : Program) (o : Option TExpr) → works_weight p (optionally o) ≤ optional_weight o
optionally_light p None = omega arith
optionally_light p (Some e) = omega (arith, one_dropped p e)

alt_light : (p : Program) {m : _} (row : Row_of-TStmt m) → works_weight p (evaluated (alt_exprs (communications (branchings row)))) ≤ body_weight row
unfolding work_weight own_weight
alt_light p end_of-TStmt = omega arith
alt_light p (more_of-TStmt (AltCase (talk.Receive t chan)) rest) = omega (arith, alt_light p rest)
alt_light p (more_of-TStmt (AltCase (talk.ReceiveInto t target chan)) rest) = omega (arith, alt_light p rest)
alt_light p (more_of-TStmt (AltCase (talk.Send chan value)) rest) = omega (arith, alt_light p rest)
alt_light p (more_of-TStmt s rest) = omega (arith, alt_light p rest)

call_work_light : (p : Program) (e : TExpr) (last : ℕ → ℕ → Work) → ((f n : ℕ) → work_weight p (last f n) ≤ 4)
    → works_weight p (call_work p e last) ≤ 4 + expr_weight e
call_work_light p (Call' t function receiver shape arguments) last le =
    call_light p receiver arguments (last function (object_count (receiver_of receiver) + length (exprs arguments)))
    (4 + expr_weight (Call' t function receiver shape arguments)) (le function (object_count (receiver_of receiver) + length (exprs arguments))) (omega arith)
call_work_light p e last le = omega arith

calls_light : (p : Program) (es : List TExpr) (last : ℕ → ℕ → Work) → ((f n : ℕ) → work_weight p (last f n) ≤ 4)
    → works_weight p (flat_map (λ e. call_work p e last) es) ≤ listed_weight es
calls_light p [] last le = omega arith
calls_light p (e ∷ es) last le =
    omega (arith, calls_light p es last le, call_work_light p e last le, works-append p (call_work p e last) (flat_map (λ e. call_work p e last) es))

allocations_light : (p : Program) (ps : List TPlace) → works_weight p (flat_map allocation_work ps) ≤ places_weight ps
unfolding work_weight own_weight
allocations_light p [] = omega arith
allocations_light p (x ∷ xs) = omega (arith, allocations_light p xs)

unallocations_light : (p : Program) (es : List TExpr) → works_weight p (flat_map unallocation_work es) ≤ listed_weight es
unfolding work_weight own_weight
unallocations_light p [] = omega arith
unallocations_light p (e ∷ es) = omega (arith, unallocations_light p es)

behind_one : (p : Program) (i : Item) (rest : ℕ) (b : Border) (inside behind : List Item) → items_weight p inside ≤ rest → items_weight p behind ≤ rest
    → items_weight p (elim b [ Inside ↦ inside | LoopEnd ↦ behind | BodyEnd ↦ behind ]) ≤ work_weight p i.work + rest
behind_one p i rest Inside inside behind le more = omega (arith, le)
behind_one p i rest LoopEnd inside behind le more = omega (arith, more)
behind_one p i rest BodyEnd inside behind le more = omega (arith, more)

behind_light : (p : Program) (n : ℕ) (items : List Item) → items_weight p (behind_bodies n items) ≤ items_weight p items
behind_light p zero items = omega arith
behind_light p (suc n) [] = omega arith
behind_light p (suc n) (i ∷ items) =
    behind_one p i (items_weight p items) (border i.work) (behind_bodies (suc n) items) (behind_bodies n items) (behind_light p (suc n) items) (behind_light p n items)

next_one : (p : Program) (n : ℕ) (b : Border) (inside found : List Item) → items_weight p inside ≤ n → items_weight p found ≤ n
    → items_weight p (elim b [ Inside ↦ inside | LoopEnd ↦ found | BodyEnd ↦ inside ]) ≤ n
next_one p n Inside inside found le more = le
next_one p n LoopEnd inside found le more = more
next_one p n BodyEnd inside found le more = le

one_more : (p : Program) (i : Item) (n m : ℕ) → n ≤ m → n ≤ work_weight p i.work + m
one_more p i n m le = omega (arith, le)

next_light : (p : Program) (n : ℕ) (items : List Item) → items_weight p (next_of_loop n items) ≤ items_weight p items
next_light p zero items = omega arith
next_light p (suc n) [] = omega arith
next_light p (suc zero) (i ∷ items) =
    next_one p (items_weight p (i ∷ items)) (border i.work) (next_of_loop 1 items) (i ∷ items)
    (one_more p i _ _ (next_light p 1 items)) (omega arith)
next_light p (suc (suc n)) (i ∷ items) =
    next_one p (items_weight p (i ∷ items)) (border i.work) (next_of_loop (suc (suc n)) items) (next_of_loop (suc n) items)
    (one_more p i _ _ (next_light p (suc (suc n)) items)) (one_more p i _ _ (next_light p (suc n) items))

weigh_statement : (s : TStmt) (h : Here) → Falls h.program (weight h + statement_weight s) (do_statement s h)
unfolding control_weight work_weight own_weight
weigh_statement (Empty _) h = omega arith
weigh_statement (Block' _ _ body) h = with_items_light h (statements body) _ (omega (arith, body_light h.program body))
weigh_statement (Declare _ initializers) h = does_light h (flat_map initializer_work initializers) _ (omega (arith, initializers_light h.program initializers))
weigh_statement (Value _ [] value) h = does_light h (and_dropped value) _ (omega (arith, one_dropped h.program value))
weigh_statement (Value _ (b ∷ bs) value) h =
    does_light h (evaluated (bounds_exprs (b ∷ bs)) ++ Bound (length (b ∷ bs)) value ∷ []) _
    (omega (arith, bounds_light h.program (b ∷ bs), works-append h.program (evaluated (bounds_exprs (b ∷ bs))) (Bound (length (b ∷ bs)) value ∷ [])))
weigh_statement (part.label _ _ body) h = omega arith
weigh_statement (If' _ condition _ (more_of-TStmt chosen end_of-TStmt) other) h = omega (arith, other_light other)
weigh_statement (part.while_loop line condition body) h = omega arith
weigh_statement (part.do_loop line body condition) h = omega arith
weigh_statement (part.for_loop line start condition step body) h =
    does_light h (optionally start ++ ForCondition (part.for_loop line start condition step body) ∷ []) _
    (omega (arith, optionally_light h.program start, works-append h.program (optionally start) (ForCondition (part.for_loop line start condition step body) ∷ [])))
weigh_statement (Switch' line value shape body) h = omega arith
weigh_statement (Case _ _) h = omega arith
weigh_statement Default h = omega arith
weigh_statement (Alt' line shape body) h =
    does_light h (evaluated (alt_exprs (communications (branchings body))) ++ AltTalk (Alt' line shape body) ∷ []) _
    (omega (arith, alt_light h.program body, works-append h.program (evaluated (alt_exprs (communications (branchings body)))) (AltTalk (Alt' line shape body) ∷ [])))
weigh_statement (AltCase (talk.Receive t chan)) h = omega arith
weigh_statement (AltCase (talk.ReceiveInto t target chan)) h = omega arith
weigh_statement (AltCase (talk.Send chan value)) h = omega arith
weigh_statement (Par _ branches) h = tt
weigh_statement (part.rescue _ _ _) h = omega arith
weigh_statement (Raise _ rescue) h = tt
weigh_statement (Goto _ label) h = tt
weigh_statement (Return _ None) h = omega arith
weigh_statement (Return _ (Some e)) h = omega arith
weigh_statement (Become _ call) h = does_light h (call_work h.program call InvokeInstead) _ (omega (arith, call_work_light h.program call InvokeInstead (λ f n. omega arith)))
weigh_statement (Break _ levels) h = omega (arith, behind_light h.program levels h.frame.items)
weigh_statement (Continue _ levels) h = omega (arith, next_light h.program levels h.frame.items)
weigh_statement (Alloc _ places) h = does_light h (flat_map allocation_work places) _ (omega (arith, allocations_light h.program places))
weigh_statement (Unalloc _ values) h = does_light h (flat_map unallocation_work values) _ (omega (arith, unallocations_light h.program values))
weigh_statement (Check _ value) h = omega arith
weigh_statement (Proc _ calls) h = does_light h (flat_map (λ e. call_work h.program e StartProc) calls) _ (omega (arith, calls_light h.program calls StartProc (λ f n. omega arith)))
weigh_statement (Task _ calls) h = does_light h (flat_map (λ e. call_work h.program e StartTask) calls) _ (omega (arith, calls_light h.program calls StartTask (λ f n. omega arith)))

-- ---- work on what was found

read_light : (t : Ty) (f : Found) (h : Here) → Falls h.program (weight h + 8) (read_place t f h)
unfolding control_weight work_weight own_weight
read_light t (Words ws) h = tt
read_light t (Address at) h = omega arith
read_light t (Local number) h = omega arith
read_light t (Private number) h = omega arith
read_light t Nowhere h = tt

fetch_light : (at : ℕ) (units : List Unit) (got : List ℕ) (h : Here) (n : ℕ) → weight h < n → Falls h.program n (fetch_units at units got h)
unfolding control_weight
fetch_light at [] got h n lt = omega (arith, lt)
fetch_light at (u ∷ units) got h n lt = tt

save_light : (t : Ty) (words : List ℕ) (f : Found) (h : Here) → Falls h.program (weight h + 8) (save_at t words f h)
unfolding control_weight work_weight own_weight
save_light t words (Words ws) h = tt
save_light t words (Address at) h = omega arith
save_light t words (Local number) h = omega arith
save_light t words (Private number) h = omega arith
save_light t words Nowhere h = omega arith

write_light : (at : ℕ) (units : List Unit) (words : List ℕ) (h : Here) (n : ℕ) → weight h < n → Falls h.program n (write_units at units words h)
unfolding control_weight
write_light at [] words h n lt = omega (arith, lt)
write_light at (u ∷ units) words h n lt = tt

saves_light : (p : Program) (ts : List Ty) (places : List Found) (words : List ℕ) → works_weight p (saves p ts places words) ≤ 8 * length ts
unfolding work_weight own_weight
saves_light p [] places words = omega arith
saves_light p (t ∷ ts) [] words = omega arith
saves_light p (t ∷ ts) (f ∷ places) words = omega (arith, saves_light p ts places (drop (words_in p t) words))

mutual
  leaves_light : (target : TTarget) → 16 * length (leaves_of target) ≤ target_weight target
  leaves_light (form.into place) = omega arith
  leaves_light (Dropped t) = omega arith
  leaves_light (Parts' t _ parts) = omega (arith, leaves_all_light parts)

  leaves_all_light : {m : _} (row : Row_of-TTarget m) → 16 * length (leaves_of_all row) ≤ targets_weight row
  leaves_all_light end_of-TTarget = omega arith
  leaves_all_light (more_of-TTarget t rest) = omega (arith, leaves_light t, leaves_all_light rest, length-append (leaves_of t) (leaves_of_all rest))

updated_light : (h : Here) (t : Ty) (f : Found) (o : Option (List ℕ)) → Falls h.program (weight h + 17) (saves_updated h t f o)
unfolding control_weight work_weight own_weight
updated_light h t f (Some words) = omega arith
updated_light h t f None = tt

passes_light : (how : Passed) (t : Ty) (at : ℕ) (h : Here) → Falls h.program (weight h + 9) (passes_place how t at h)
unfolding control_weight work_weight own_weight
passes_light passed.Address t at h = omega arith
passes_light passed.Value t at h = omega arith
passes_light passed.Nothing t at h = omega arith

part_light : (how : Passed) (t : Ty) (path ws : List ℕ) (h : Here) → Falls h.program (weight h + 4) (passes_part how t path ws h)
unfolding control_weight
part_light passed.Address t path ws h = tt
part_light passed.Value t path ws h = omega arith
part_light passed.Nothing t path ws h = omega arith

found_light : (h : Here) (n : ℕ) (words : List ℕ) (o : Option ℕ) → Falls h.program n (invokes_found h words o)
found_light h n words (Some number) = tt
found_light h n words None = tt

composes_light : (h : Here) (pieces : List PrintPiece) (arguments : List Argument) (text bytes : List ℕ) (n : ℕ)
    → weight h + (4 + 8 * length pieces) < n → Falls h.program n (composes h pieces arguments text bytes)
unfolding control_weight work_weight own_weight
composes_light h pieces arguments text bytes n lt = if_light h.program n (nat_lt most_text (length text + length bytes)) _ _ tt (omega (arith, lt))

compose_light : (pieces : List PrintPiece) (arguments : List Argument) (text : List ℕ) (h : Here)
    → Falls h.program (weight h + (4 + 8 * length pieces)) (compose pieces arguments text h)
unfolding control_weight work_weight own_weight
compose_light [] arguments text h = tt
compose_light (print.Byte b ∷ pieces) arguments text h = composes_light h pieces arguments text (b ∷ []) _ (omega arith)
compose_light (print.Percent ∷ pieces) arguments text h = composes_light h pieces arguments text (37 ∷ []) _ (omega arith)
compose_light (print.Text ∷ pieces) (a ∷ arguments) text h = omega arith
compose_light (print.Signed ∷ pieces) (a ∷ arguments) text h = composes_light h pieces arguments text (written print.Signed a.ty a.words) _ (omega arith)
compose_light (print.Unsigned ∷ pieces) (a ∷ arguments) text h = composes_light h pieces arguments text (written print.Unsigned a.ty a.words) _ (omega arith)
compose_light (print.Hexadecimal ∷ pieces) (a ∷ arguments) text h = composes_light h pieces arguments text (written print.Hexadecimal a.ty a.words) _ (omega arith)
compose_light (print.Character ∷ pieces) (a ∷ arguments) text h = composes_light h pieces arguments text (written print.Character a.ty a.words) _ (omega arith)
compose_light (print.Text ∷ pieces) [] text h = tt
compose_light (print.Signed ∷ pieces) [] text h = tt
compose_light (print.Unsigned ∷ pieces) [] text h = tt
compose_light (print.Hexadecimal ∷ pieces) [] text h = tt
compose_light (print.Character ∷ pieces) [] text h = tt

scanned_light : (b at : ℕ) (pieces : List PrintPiece) (arguments : List Argument) (text : List ℕ) (h : Here)
    → Falls h.program (weight h + (6 + 8 * length pieces)) (scanned b at pieces arguments text h)
unfolding control_weight work_weight own_weight
scanned_light zero at pieces arguments text h = omega arith
scanned_light (suc b) at pieces arguments text h = if_light h.program _ (nat_lt (length text) most_text) _ _ (omega arith) tt

allocates_light : (t : Ty-F Ty) (h : Here) (n : ℕ) → Falls h.program n (allocates t h)
allocates_light (Ty-F.Pointer to) h n = tt
allocates_light (Ty-F.Chan element capacity) h n = tt
allocates_light Ty-F.Void h n = tt
allocates_light (Ty-F.Integer k) h n = tt
allocates_light (Ty-F.Array element count) h n = tt
allocates_light (Ty-F.Tuple parts) h n = tt
allocates_light (Ty-F.Aggregate number) h n = tt
allocates_light (Ty-F.Function returns parameters) h n = tt

gives_back_light : (t : Ty-F Ty) (a : ℕ) (h : Here) (n : ℕ) → Falls h.program n (gives_back t a h)
gives_back_light (Ty-F.Pointer to) a h n = tt
gives_back_light (Ty-F.Chan element capacity) a h n = tt
gives_back_light Ty-F.Void a h n = tt
gives_back_light (Ty-F.Integer k) a h n = tt
gives_back_light (Ty-F.Array element count) a h n = tt
gives_back_light (Ty-F.Tuple parts) a h n = tt
gives_back_light (Ty-F.Aggregate number) a h n = tt
gives_back_light (Ty-F.Function returns parameters) a h n = tt

parameter_light : (h : Here) (number : ℕ) (o : Option LocalRow) (words : List ℕ) → Falls h.program (weight h + 8) (store_parameter h number o words)
parameter_light h number (Some l) words = save_light l.ty (fitted_to (units_in h.program l.ty) words) (local_found h.program h.frame.function h.frame.block number) h
parameter_light h number None words = tt

quotient_light : (h : Here) (o : Option (List ℕ)) → Falls h.program (weight h + 4) (gives_quotient h o)
unfolding control_weight
quotient_light h (Some ws) = omega arith
quotient_light h None = tt

block_light : (h : Here) (n : ℕ) (work : List Work) (next : Next) → Falls h.program n next → Falls h.program n (gives_block h work next)
block_light h n work next f = if_light h.program n (has_block (locals_of (function_here h))) _ _ tt f

ends_light : (h : Here) (n : ℕ) (given : Option (List ℕ)) → Falls h.program n (ends h given)
ends_light h n given = block_light h n (CountReturn given ∷ []) _ tt

leaves_light_here : (h : Here) (given : Option (List ℕ)) → Falls h.program (weight h) (leaves h given)
unfolding control_weight
leaves_light_here h None = omega arith
leaves_light_here h (Some ws) = on h.below
  where
    on : (below : List Frame) → 16 + (0 + frames_weight h.program (with_given (Some ws) below)) < 16 + (0 + (frame_weight h.program h.frame + frames_weight h.program below))
    on [] = omega arith
    on (f ∷ below) = omega arith

while_light : (s : TStmt) (b : Bool) (h : Here) → Falls h.program (weight h + rest_of_while s) (while_test s b h)
unfolding control_weight work_weight own_weight
while_light (part.while_loop line condition body) true h = omega arith
while_light (part.while_loop line condition body) false h = omega arith
while_light s true h = omega arith
while_light s false h = tt

do_light : (s : TStmt) (h : Here) → Falls h.program (weight h + rest_of_do s) (do_condition s h)
unfolding control_weight work_weight own_weight
do_light (part.do_loop line body condition) h = omega arith
do_light s h = tt

for_condition_light : (s : TStmt) (h : Here) → Falls h.program (weight h + condition_of_for s) (for_condition s h)
unfolding control_weight work_weight own_weight
for_condition_light (part.for_loop line start (Some condition) step body) h = omega arith
for_condition_light (part.for_loop line start None step body) h = omega arith
for_condition_light s h = tt

for_test_light : (s : TStmt) (b : Bool) (h : Here) → Falls h.program (weight h + body_of_for s) (for_test s b h)
unfolding control_weight work_weight own_weight
for_test_light (part.for_loop line start condition step body) true h = omega arith
for_test_light (part.for_loop line start condition step body) false h = omega arith
for_test_light s true h = omega arith
for_test_light s false h = tt

for_next_light : (s : TStmt) (h : Here) → Falls h.program (weight h + next_of_for s) (for_next s h)
unfolding work_weight own_weight
for_next_light (part.for_loop line start condition step body) h =
    does_light h (optionally step ++ ForAgain (part.for_loop line start condition step body) ∷ []) _
    (omega (arith, optionally_light h.program step, works-append h.program (optionally step) (ForAgain (part.for_loop line start condition step body) ∷ [])))
for_next_light s h = tt

iterate_light : (number : ℕ) (bounds : List Bounds) (value : TExpr) (h : Here)
    → Falls h.program (weight h + (8 + (8 * length bounds + expr_weight value))) (iterate number bounds value h)
unfolding control_weight work_weight own_weight
iterate_light number [] value h = does_light h (and_dropped value) _ (omega (arith, one_dropped h.program value))
iterate_light number (b ∷ rest) value h = if_light h.program _ (is_below b.from b.to) _ _ (omega arith) (omega arith)

-- items that are found, if any, weigh no more than n
abbrev FoundLight : Program → ℕ → Option (List Item) → Type 0
FoundLight p n (Some items) = items_weight p items ≤ n
FoundLight p n None = ⊤

found_if : (p : Program) (n : ℕ) (b : Bool) (x y : Option (List Item)) → FoundLight p n x → FoundLight p n y → FoundLight p n (if b then x else y)
found_if p n true x y f g = f
found_if p n false x y f g = g

found_more : (p : Program) (n m : ℕ) (o : Option (List Item)) → n ≤ m → FoundLight p n o → FoundLight p m o
found_more p n m (Some items) le f = omega (arith, le, f)
found_more p n m None le f = tt

found_first : (p : Program) (n : ℕ) (x y : Option (List Item)) → FoundLight p n x → FoundLight p n y → FoundLight p n (first_of_two x y)
found_first p n (Some items) y f g = f
found_first p n None y f g = g

case_light : (p : Program) (bits : ℕ) {m : _} (row : Row_of-TStmt m) → FoundLight p (body_weight row) (behind_case bits row)
case_light p bits end_of-TStmt = tt
case_light p bits (more_of-TStmt (Case e label) rest) =
    found_if p _ (label == bits) (Some (statements rest)) (behind_case bits rest)
    (omega (arith, body_light p rest)) (found_more p _ _ (behind_case bits rest) (omega arith) (case_light p bits rest))
case_light p bits (more_of-TStmt s rest) = found_more p (body_weight rest) _ (behind_case bits rest) (omega arith) (case_light p bits rest)

default_light : (p : Program) {m : _} (row : Row_of-TStmt m) → FoundLight p (body_weight row) (behind_default row)
default_light p end_of-TStmt = tt
default_light p (more_of-TStmt Default rest) = omega (arith, body_light p rest)
default_light p (more_of-TStmt s rest) = found_more p (body_weight rest) _ (behind_default rest) (omega arith) (default_light p rest)

selects_light : (h : Here) (n : ℕ) (o : Option (List Item)) → FoundLight h.program n o → Falls h.program (weight h + (5 + n)) (selects h o)
unfolding control_weight work_weight own_weight
selects_light h n (Some items) f = with_items_light h (items ++ item h.line CasesEnd ∷ []) _ (omega (arith, f, items-append h.program items (item h.line CasesEnd ∷ [])))
selects_light h n None f = omega arith

select_light : (s : TStmt) (bits : ℕ) (h : Here) → Falls h.program (weight h + cases_weight s) (select s bits h)
select_light (Switch' line value shape body) bits h =
    falls_more h.program _ _ (selects h (first_of_two (behind_case bits body) (behind_default body))) (omega arith)
    (selects_light h (body_weight body) _ (found_first h.program _ (behind_case bits body) (behind_default body) (case_light h.program bits body) (default_light h.program body)))
select_light s bits h = tt

-- a case of an alt that went, if any, with what it does and what is behind it
abbrev BranchLight : Program → ℕ → Option Branching → Type 0
BranchLight p n (Some b) = (ws : List ℕ) → works_weight p (went_work p b.communication ws) + items_weight p b.body ≤ n
BranchLight p n None = ⊤

branch_more : (p : Program) (n m : ℕ) (o : Option Branching) → n ≤ m → BranchLight p n o → BranchLight p m o
branch_more p n m (Some b) le f = λ ws. omega (arith, le, f ws)
branch_more p n m None le f = tt

went_light : (p : Program) (c : TCommunication) (ws : List ℕ) → works_weight p (went_work p c ws) ≤ communication_weight c
unfolding work_weight own_weight
went_light p (talk.Receive t chan) ws = omega arith
went_light p (talk.ReceiveInto t target chan) ws = omega arith
went_light p (talk.Send chan value) ws = omega arith

branch_light : (p : Program) {m : _} (row : Row_of-TStmt m) (n : ℕ) → BranchLight p (body_weight row) (slice_get (branchings row) n)
branch_light p end_of-TStmt n = tt
branch_light p (more_of-TStmt (AltCase c) rest) zero = λ ws. omega (arith, went_light p c ws, body_light p rest)
branch_light p (more_of-TStmt (AltCase c) rest) (suc n) = branch_more p _ _ (slice_get (branchings rest) n) (omega arith) (branch_light p rest n)
branch_light p (more_of-TStmt s rest) n = branch_more p (body_weight rest) _ (slice_get (branchings rest) n) (omega arith) (branch_light p rest n)

goes_into_light : (h : Here) (n : ℕ) (o : Option Branching) (ws : List ℕ) → BranchLight h.program n o → Falls h.program (weight h + (5 + n)) (goes_into h o ws)
unfolding work_weight own_weight
goes_into_light h n (Some b) ws f =
    with_items_light h (map (item h.line) (went_work h.program b.communication ws) ++ b.body ++ item h.line CasesEnd ∷ []) _
    (omega (
      arith,
      f ws,
      items-append h.program (map (item h.line) (went_work h.program b.communication ws) ++ b.body) (item h.line CasesEnd ∷ []),
      items_of_works h.program h.line (went_work h.program b.communication ws) b.body,
    ))
goes_into_light h n None ws f = tt

went_on_light : (s : TStmt) (n : ℕ) (ws : List ℕ) (h : Here) → Falls h.program (weight h + cases_weight s) (goes_into h (slice_get (cases_of s) n) ws)
went_on_light (Alt' line shape body) n ws h =
    falls_more h.program _ _ (goes_into h (slice_get (branchings body) n) ws) (omega arith) (goes_into_light h (body_weight body) _ ws (branch_light h.program body n))
went_on_light s n ws h = tt

-- so many values are that many
sized_light : (c : ℕ) (values : List (List ℕ)) (h : Here) (n : ℕ) (k : List (List ℕ) → Here → Next)
    → ((vs : List (List ℕ)) (found : List Found) → length vs ≡ c + length values → Falls h.program n (k vs (with_found found h)))
    → Falls h.program n (words_before c values h k)
sized_light zero values h n k f = f values h.frame.found (omega arith)
sized_light (suc c) values h n k f =
    value_light h n (λ ws h. words_before c (ws ∷ values) h k)
    (λ ws found. sized_light c (ws ∷ values) (with_found found h) n k (λ vs found e. f vs found (omega (arith, e))))

bounds_length : (values : List (List ℕ)) → 2 * length (bounds_of values) ≤ length values
bounds_length [] = omega arith
bounds_length (a ∷ []) = omega arith
bounds_length (a ∷ b ∷ values) = omega (arith, bounds_length values)

-- a function that begins calls none yet
own_works : List Work → ℕ
own_works [] = 0
own_works (w ∷ ws) = own_weight w + own_works ws

own_of_works : (line : ℕ) (ws : List Work) (items : List Item) → own_weights (map (item line) ws ++ items) ≡ own_works ws + own_weights items
unfolding own_works
own_of_works line [] items = omega arith
own_of_works line (w ∷ ws) items = omega (arith, own_of_works line ws items)

own_works-append : (ws vs : List Work) → own_works (ws ++ vs) ≡ own_works ws + own_works vs
unfolding own_works
own_works-append [] vs = omega arith
own_works-append (w ∷ ws) vs = omega (arith, own_works-append ws vs)

own_block : (p : Program) (ls : List LocalRow) → works_weight p (block_work ls) ≡ own_works (block_work ls)
unfolding work_weight own_weight own_works
own_block p ls = on (has_block ls)
  where
    on : (b : Bool) → works_weight p (if b then TakeBlock ∷ SetBlock ∷ [] else []) ≡ own_works (if b then TakeBlock ∷ SetBlock ∷ [] else [])
    on true = refl
    on false = refl

own_parameters : (p : Program) (number count : ℕ) (ls : List LocalRow) (words : List ℕ)
    → works_weight p (parameter_work p number count ls words) ≡ own_works (parameter_work p number count ls words)
unfolding work_weight own_weight own_works
own_parameters p number zero ls words = refl
own_parameters p number (suc n) [] words = refl
own_parameters p number (suc n) (l ∷ ls) words = on l.is_shared (own_parameters p (number + 1) n ls (drop (words_in p l.ty) words))
  where
    on : (b : Bool) → works_weight p (parameter_work p (number + 1) n ls (drop (words_in p l.ty) words)) ≡ own_works (parameter_work p (number + 1) n ls (drop (words_in p l.ty) words))
        → works_weight p ((if b then StoreParameter number (take (words_in p l.ty) words) ∷ [] else []) ++ parameter_work p (number + 1) n ls (drop (words_in p l.ty) words))
        ≡ own_works ((if b then StoreParameter number (take (words_in p l.ty) words) ∷ [] else []) ++ parameter_work p (number + 1) n ls (drop (words_in p l.ty) words))
    on true e = omega (arith, e)
    on false e = e

begun_light : (p : Program) (number : ℕ) (words : List ℕ) → items_weight p (begun p number words).items ≡ own_weights (begun p number words).items
unfolding work_weight own_weight own_works
begun_light p number words = on (function_at p number)
  where
    on : (f : Option FunctionRow) → items_weight p (begun_function p number f words).items ≡ own_weights (begun_function p number f words).items
    on None = refl
    on (Some f) =
        omega (
          arith,
          own_block p f.locals,
          own_parameters p 0 f.parameters f.locals words,
          works-append p (block_work f.locals) (parameter_work p 0 f.parameters f.locals words),
          own_works-append (block_work f.locals) (parameter_work p 0 f.parameters f.locals words),
          items_of_works p f.line (block_work f.locals ++ parameter_work p 0 f.parameters f.locals words) (to_do f.body ∷ []),
          own_of_works f.line (block_work f.locals ++ parameter_work p 0 f.parameters f.locals words) (to_do f.body ∷ []),
        )

enters_light : (p : Program) (number : ℕ) (words : List ℕ) (c : Control) (frames : List Frame) (privates : List ℕ)
    → Falls p (16 + (begun_weight p number words + frames_weight p frames)) (enters p number words c frames privates)
unfolding control_weight
enters_light p number words c frames privates = if_light p _ (has_room p number frames) _ _ (omega (arith, begun_light p number words)) tt

weigh_work : (w : Work) (h : Here) → Falls h.program (weight h + work_weight h.program w) (step_work w h)
unfolding control_weight work_weight own_weight
weigh_work (Eval e) h = weigh_expr e h
weigh_work (Find place) h = weigh_place place h
weigh_work (Aim target) h = weigh_target target h
weigh_work Answered h = omega arith
weigh_work (Give words) h = omega arith
weigh_work Drop h = value_light h _ _ (λ ws found. omega arith)
weigh_work (Unary op kind) h = value_light h _ _ (λ ws found. omega arith)
weigh_work Negate h = value_light h _ _ (λ ws found. omega arith)
weigh_work (Binary op kind) h = two_light h _ _ (λ a b found. quotient_light (with_found found h) (operated op kind a b))
weigh_work (AndThen right) h = value_light h _ _ (λ a found. if_light h.program _ (is_zero a) _ _ (omega arith) (omega arith))
weigh_work (OrElse right) h = value_light h _ _ (λ a found. if_light h.program _ (is_zero a) _ _ (omega arith) (omega arith))
weigh_work Truth h = value_light h _ _ (λ ws found. omega arith)
weigh_work (Advance back size) h = two_light h _ _ (λ a b found. omega arith)
weigh_work (AdvanceCounted size) h = two_light h _ _ (λ a b found. omega arith)
weigh_work (Between size) h = two_light h _ _ (λ a b found. omega arith)
weigh_work (Convert from to) h = value_light h _ _ (λ ws found. omega arith)
weigh_work (Part t path) h = value_light h _ _ (λ ws found. omega arith)
weigh_work (Join count) h = values_light count [] h _ _ (λ values found. omega arith)
weigh_work (Point offset) h = value_light h _ _ (λ ws found. omega arith)
weigh_work (Index size) h = two_light h _ _ (λ a b found. omega arith)
weigh_work (Within offset) h = address_light h _ _ (λ at found. omega arith)
weigh_work AddressOf h = address_light h _ _ (λ at found. omega arith)
weigh_work (Read t) h = place_light h _ _ (λ f found. read_light t f (with_found found h))
weigh_work (Look t) h = place_light h _ _ (λ f found. omega arith)
weigh_work (Fetch at units got) h = fetch_light at units got h _ (omega arith)
weigh_work (Fetched at units got) h = value_light h _ _ (λ ws found. omega arith)
weigh_work (Save t words place) h = save_light t words place h
weigh_work (Put t) h = value_light h _ _ (λ ws found. place_light (with_found found h) _ _ (λ f found. omega arith))
weigh_work (Write at units words) h = write_light at units words h _ (omega arith)
weigh_work (Assign target) h = value_light h _ _ (λ ws found. places_light (length (leaves_of target)) [] (with_found found h) _ _
    (λ places found. does_light (with_found found h) (saves h.program (leaves_of target) places ws ++ Give ws ∷ []) _
    (omega (
      arith,
      leaves_light target,
      saves_light h.program (leaves_of target) places ws,
      works-append h.program (saves h.program (leaves_of target) places ws) (Give ws ∷ []),
    ))))
weigh_work (Update t change) h = two_light h _ _ (λ old value found. place_light (with_found found h) _ _
    (λ f found. falls_more h.program _ _ _ (omega arith) (updated_light (with_found found h) t f (updated h.program t change old value))))
weigh_work (Step t op) h = value_light h _ _ (λ old found. place_light (with_found found h) _ _ (λ f found. omega arith))
weigh_work (Clear t) h = value_light h _ _ (λ old found. place_light (with_found found h) _ _ (λ f found. omega arith))
weigh_work (PassPlace how t offset) h = address_light h _ _ (λ at found. falls_more h.program _ _ _ (omega arith) (passes_light how t (sum at offset) (with_found found h)))
weigh_work (PassPointer how t offset) h = value_light h _ _ (λ ws found. falls_more h.program _ _ _ (omega arith) (passes_light how t (sum (slice_index ws 0) offset) (with_found found h)))
weigh_work (PassPart how t path) h = value_light h _ _ (λ ws found. part_light how t path ws (with_found found h))
weigh_work (Invoke function count) h = values_light count [] h _ _ (λ values found. tt)
weigh_work (InvokePointer t count) h = values_light count [] h _ _ (λ values found. value_light (with_found found h) _ _
    (λ ws found. found_light (with_found found h) _ (joined values) (named_by t (slice_index ws 0) 0 h.program.functions)))
weigh_work (Enter function words) h =
    falls_more h.program _ _ _ (omega arith) (enters_light h.program function words (control_at (with_work (Answered ∷ []) h)) (h.frame ∷ h.below) h.privates)
weigh_work (InvokeInstead function count) h = values_light count [] h _ _ (λ values found. block_light (with_found found h) _ (Replace function (joined values) ∷ []) _ (omega arith))
weigh_work (Replace function words) h = tt
weigh_work TakeBlock h = tt
weigh_work SetBlock h = value_light h _ _ (λ ws found. omega arith)
weigh_work (StoreParameter number words) h = parameter_light h number (slice_get (locals_of (function_here h)) number) words
weigh_work (Returns true) h = value_light h _ _ (λ ws found. ends_light (with_found found h) _ (Some ws))
weigh_work (Returns false) h = ends_light h _ None
weigh_work (CountReturn given) h = tt
weigh_work (Leave given) h = falls_more h.program _ _ (leaves h given) (omega arith) (leaves_light_here h given)
weigh_work (Gather pieces types) h = values_light (length types) [] h _ _ (λ values found. omega arith)
weigh_work (Compose pieces arguments text) h = compose_light pieces arguments text h
weigh_work (Scan at pieces arguments text) h = tt
weigh_work (Scanned at pieces arguments text) h = value_light h _ _ (λ ws found. scanned_light (slice_index ws 0) at pieces arguments text (with_found found h))
weigh_work Terminates h = value_light h _ _ (λ ws found. tt)
weigh_work (Receives t) h = value_light h _ _ (λ ws found. tt)
weigh_work (Received t) h = value_light h _ _ (λ ws found. omega arith)
weigh_work (Sends t) h = two_light h _ _ (λ a b found. tt)
weigh_work CanReceives h = value_light h _ _ (λ ws found. tt)
weigh_work CanSends h = value_light h _ _ (λ ws found. tt)
weigh_work (Allocate t) h = allocates_light (out-Ty t) h _
weigh_work (Unallocate t) h = value_light h _ _ (λ ws found. gives_back_light (out-Ty t) (slice_index ws 0) (with_found found h) _)
weigh_work (StartProc function count) h = values_light count [] h _ _ (λ values found. tt)
weigh_work (StartTask function count) h = values_light count [] h _ _ (λ values found. tt)
weigh_work (Do s) h = weigh_statement s h
weigh_work (Choose chosen None) h = value_light h _ _ (λ a found. if_light h.program _ (is_zero a) _ _ (omega arith) (omega arith))
weigh_work (Choose chosen (Some other)) h = value_light h _ _ (λ a found. if_light h.program _ (is_zero a) _ _ (omega arith) (omega arith))
weigh_work Test h = value_light h _ _ (λ a found. if_light h.program _ (is_zero a) _ _ tt (omega arith))
weigh_work (WhileTest s) h = value_light h _ _ (λ a found. while_light s (is_zero a) (with_found found h))
weigh_work (WhileAgain s) h = tt
weigh_work (DoCondition s) h = do_light s h
weigh_work (DoTest s) h = value_light h _ _ (λ a found. if_light h.program _ (is_zero a) _ _ (omega arith) tt)
weigh_work (ForCondition s) h = for_condition_light s h
weigh_work (ForTest s) h = value_light h _ _ (λ a found. for_test_light s (is_zero a) (with_found found h))
weigh_work (ForNext s) h = for_next_light s h
weigh_work (ForAgain s) h = tt
weigh_work (Bound count value) h = sized_light (count + count) [] h _ _ (λ values found e. omega (arith, e, bounds_length values))
weigh_work (Iterate number bounds value) h = iterate_light number bounds value h
weigh_work (NextTurn number b rest value) h = tt
weigh_work (Select s) h = value_light h _ _ (λ ws found. select_light s (bits_of ws) (with_found found h))
weigh_work (AltTalk s) h = values_light (length (alt_exprs (communications (cases_of s)))) [] h _ _ (λ values found. tt)
weigh_work (AltWent s) h = value_light h _ _ (λ ws found. went_on_light s (slice_index ws 0) (drop 1 ws) (with_found found h))
weigh_work CasesEnd h = omega arith

-- ---- one step

weigh_frame : (p : Program) (items : List Item) (f : Frame) (below : List Frame) (privates : List ℕ)
    → Falls p (16 + (0 + (16 + items_weight p items + frames_weight p below))) (step_frame p items f below privates)
unfolding control_weight
weigh_frame p (i ∷ items) f below privates =
    falls_more p _ _ _ (omega arith) (weigh_work i.work (here p i.line (record f { items = items }) below privates))
weigh_frame p [] f below privates = ends_light (here p (line_of_name (function_at p f.function)) f below privates) _ (default_of p (function_at p f.function))

weigh_frames : (p : Program) (c : Control) (frames : List Frame) (privates : List ℕ) → Falls p (16 + (0 + frames_weight p frames)) (step_frames p c frames privates)
weigh_frames p c [] privates = tt
weigh_frames p c (f ∷ below) privates = weigh_frame p f.items f below privates

weigh_entering : (p : Program) (c : Control) (e : Option Entering) (privates : List ℕ)
    → Falls p (16 + (entering_weight p e + frames_weight p c.frames)) (step_entering p c e privates)
weigh_entering p c (Some e) privates = enters_light p e.function e.words c c.frames privates
weigh_entering p c None privates = weigh_frames p c c.frames privates

weigh_step : (p : Program) (c : Control) (privates : List ℕ) → Falls p (control_weight p c) (private_step p c privates)
unfolding control_weight
weigh_step p c privates = weigh_entering p c c.entering privates

falls_to : (p : Program) (n : ℕ) (x : Next) (c : Control) (u : List ℕ) → x ≡ Moves c u → Falls p n x → control_weight p c < n
falls_to p n x c u e f = subst (Falls p n) e f

-- a private step that is no turn makes a control lighter
pub lighter : (p : Program) (c d : Control) (u v : List ℕ) → private_step p c u ≡ Moves d v → control_weight p d < control_weight p c
lighter p c d u v e = falls_to p (control_weight p c) (private_step p c u) d v e (weigh_step p c u)
