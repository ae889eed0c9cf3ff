-- A private step from a control that is known goes to one that is.
use Rattle.std.proofs.Common.{◌≡◌, ℕ, zero, suc, ◌+◌, ◌*◌, ◌<◌, ◌≤◌, Bool, true, false, if◌then◌else◌, List, [], ◌∷◌, ◌++◌, length, take, drop, Option, Some, None, refl, arith, inl, inr}
use Rattle.std.specs.Prelude.{◌^◌, not, nat_lt, slice_get, slice_index, unwrap_or}
use Rattle.std.specs.List.{AllByRecursion}
use Rattle.std.specs.Int.{cast_signed, w32}
use Rattle.al_base.specs.declared.trap.Trap.TheVariants as trap
use Rattle.al_event.specs.declared.act.Act.TheVariants as act
use Rattle.al_event.specs.declared.act.Block.TheVariants.{Heap, Frame as FrameBlock}
use Rattle.al_world.specs.Control.{fitted}
use Rattle.al_world.specs.Turns.{Moves, Turns, Asks}
use Rattle.al_typed.specs.declared.ty.Ty.{Ty, out-Ty}
use Rattle.al_typed.specs.declared.ty.Ty.TheOpen.{Ty-F}
use Rattle.al_typed.specs.declared.layout.Unit.{Unit}
use Rattle.al_typed.specs.declared.expression.Passed.{Passed}
use Rattle.al_typed.specs.declared.expression.Passed.TheVariants as passed
use Rattle.al_typed.specs.declared.expression.PrintPiece.{PrintPiece}
use Rattle.al_typed.specs.declared.expression.PrintPiece.TheVariants as print
use Rattle.al_typed.specs.declared.expression.TExpr.{TExpr}
use Rattle.al_typed.specs.declared.program.Function.{Function as FunctionRow}
use Rattle.al_typed.specs.declared.program.Local.{Local as LocalRow}
use Rattle.al_typed.specs.declared.program.Program.{Program}
use Rattle.al_typed.specs.declared.statement.TCommunication.{TCommunication}
use Rattle.al_typed.specs.declared.statement.TStmt.{TStmt, Alt', AltCase, Row_of-TStmt, end_of-TStmt, more_of-TStmt}
use Rattle.al_typed.specs.StatementForms as part
use Rattle.al_typed.specs.Sound.{HasSoundTypes}
use Rattle.al_typed.specs.WellTyped.{IsValue, IsStatement, alt_cases, in_loop}
use Rattle.al_meaning.specs.Words.{bits_of, is_zero, is_below, operated, sum, fitted_to, part_of, zero_words, truth, operated_once, stepped_by, elements_between, converted}
use Rattle.al_meaning.specs.Places.{block_size, function_at, has_block, locals_of, private_place, words_in}
use Rattle.al_meaning.specs.Shown.{most_text, written}
use Rattle.al_meaning.specs.Items.{Found, Words, Address, Local, Private, Nowhere, Argument, Bounds, Work, Eval, Find, Aim, Answered, Give, Drop, Unary, Negate, Binary, AndThen, OrElse, Truth, Advance, AdvanceCounted, Between, Convert, Part, Join, Point, Index, Within, AddressOf, Read, Look, Fetch, Fetched, Save, Put, Write, Assign, Update, Step, Clear, PassPlace, PassPointer, PassPart, Invoke, InvokePointer, Enter, InvokeInstead, Replace, TakeBlock, SetBlock, StoreParameter, Returns, CountReturn, Leave, Gather, Compose, Scan, Scanned, Terminates, Receives, Received, Sends, CanReceives, CanSends, Allocate, Unallocate, StartProc, StartTask, Do, Choose, Test, WhileTest, WhileAgain, DoCondition, DoTest, ForCondition, ForTest, ForNext, ForAgain, Bound, Iterate, NextTurn, Select, AltTalk, AltWent, CasesEnd, Item, Frame, Control}
use Rattle.al_meaning.specs.Parts.{item, to_do, branchings}
use Rattle.al_meaning.specs.Here.{Here, Next, asks, finds, gives, with_place, places_before, traps, size_in, control_at, does, function_here, here, moves, units_in, with_found, with_items, with_value, with_work, words_before}
use Rattle.al_meaning.specs.Calls.{begun, begun_function, block_work, default_of, ends, enters, gives_block, has_room, invokes, invokes_found, joined, leaves, line_of_name, named_by, only, parameter_work, with_given}
use Rattle.al_meaning.specs.Evaluate.{communication_exprs, goes_into, alt_branches, alt_exprs, and_dropped, allocates, arguments_of, communications, compose, composes, fetch_units, gives_back, goes_back, leaves_of, local_found, next_value, passes_part, passes_place, read_place, receiving, save_at, saves, saves_and_gives, saves_updated, scanned, sending, step_gives, updated, with_local, write_units}
use Rattle.al_meaning.specs.Execute.{select, bounds_of, cases_of, do_condition, for_condition, for_next, for_test, iterate, next_turn, optionally, starts, while_test}
use Rattle.al_meaning.specs.Step.{gives_quotient, step_frame, step_work, store_parameter}
use Rattle.al_meaning.specs.Meaning.{resume, start}
use Rattle.al_control_values.specs.Fits.{IsSmall}
use Rattle.al_fits.specs.Controls.{AllocatesSome, AreUnits, HasRoom, In, Stands, WorkIs, FrameIs, IsScanned, TopIs, ControlIs, NextIs}
use Rattle.al_fits.proofs.Going.{HereIs, WorksAre, address_it, asks_it, controlled, does_it, each_append, either, finds_it, gives_it, given_is, goes_on, items_are, laid, lost_it, place_it, places_it, resumed, traps_it, turns_it, two_it, value_it, values_it, waits}
use Rattle.al_fits.proofs.Units.{units_are}
use Rattle.al_fits.proofs.Bytes.{block_some}
use Rattle.al_fits.proofs.Terms.{aim_it, dropped_works, eval_it, find_it, narrow}
use Rattle.al_fits.proofs.Statements.{body_stands, select_it, went_it}
use Rattle.al_fits.proofs.Doing.{do_it, optional_works, starts_it, starts_then_it}

-- ---- values and places

read_it : (t : Ty) (f : Found) (h : Here) → HereIs h → NextIs h.program (read_place t f h)
read_it t (Words ws) h K = lost_it h K
read_it t (Address at) h K = does_it h (Fetch at (units_in h.program t) [] ∷ []) K (units_are h.program.aggregates t, tt)
read_it t (Local number) h K = gives_it h (unwrap_or (slice_get h.frame.locals number) []) K
read_it t (Private number) h K = gives_it h (take (words_in h.program t) (drop (private_place h.program number) h.privates)) K
read_it t Nowhere h K = lost_it h K

fetch_it : (at : ℕ) (units : List Unit) (got : List ℕ) (h : Here) → AreUnits units → HereIs h → NextIs h.program (fetch_units at units got h)
fetch_it at [] got h x K = gives_it h got K
fetch_it at (u ∷ units) got h x K = asks_it h (act.Load (sum at u.at) u.size) (Fetched at units got ∷ []) (x.0, omega arith) K (x.1, tt)

save_it : (t : Ty) (words : List ℕ) (f : Found) (h : Here) → HereIs h → NextIs h.program (save_at t words f h)
save_it t words (Words ws) h K = lost_it h K
save_it t words (Address at) h K = does_it h (Write at (units_in h.program t) words ∷ []) K (units_are h.program.aggregates t, tt)
save_it t words (Local number) h K = goes_on (with_local number words h) K
save_it t words (Private number) h K = goes_on h K
save_it t words Nowhere h K = goes_on h K

write_it : (at : ℕ) (units : List Unit) (words : List ℕ) (h : Here) → AreUnits units → HereIs h → NextIs h.program (write_units at units words h)
write_it at [] words h x K = goes_on h K
write_it at (u ∷ units) words h x K =
    asks_it h (act.Store (sum at u.at) u.size (slice_index words 0)) (Write at units (drop 1 words) ∷ []) (x.0, omega arith) K (x.1, tt)

saves_are : (p : Program) (ts : List Ty) (places : List Found) (words : List ℕ) → AllByRecursion (IsSmall p) ts → WorksAre p (saves p ts places words)
saves_are p [] places words h = tt
saves_are p (t ∷ ts) [] words h = tt
saves_are p (t ∷ ts) (f ∷ places) words h = (h.0, saves_are p ts places (drop (words_in p t) words) h.1)

saves_it : (h : Here) (t : Ty) (f : Found) (words given : List ℕ) → HereIs h → IsSmall h.program t → NextIs h.program (saves_and_gives h t f words given)
saves_it h t f words given K small = does_it h (Save t words f ∷ Give given ∷ []) K (small, (tt, tt))

updated_it : (h : Here) (t : Ty) (f : Found) (o : Option (List ℕ)) → HereIs h → IsSmall h.program t → NextIs h.program (saves_updated h t f o)
updated_it h t f (Some words) K small = saves_it h t f words words K small
updated_it h t f None K small = traps_it h trap.Divide K

passes_it : (how : Passed) (t : Ty) (at : ℕ) (h : Here) → HereIs h → IsSmall h.program t → NextIs h.program (passes_place how t at h)
passes_it passed.Address t at h K small = gives_it h (at ∷ []) K
passes_it passed.Value t at h K small = does_it (with_found (Address at ∷ h.frame.found) h) (Read t ∷ []) K (small, tt)
passes_it passed.Nothing t at h K small = goes_on h K

part_it : (how : Passed) (t : Ty) (path ws : List ℕ) (h : Here) → HereIs h → NextIs h.program (passes_part how t path ws h)
part_it passed.Address t path ws h K = lost_it h K
part_it passed.Value t path ws h K = gives_it h (part_of h.program.aggregates t path ws) K
part_it passed.Nothing t path ws h K = goes_on h K

quotient_it : (h : Here) (o : Option (List ℕ)) → HereIs h → NextIs h.program (gives_quotient h o)
quotient_it h (Some ws) K = gives_it h ws K
quotient_it h None K = traps_it h trap.Divide K

parameter_it : (h : Here) (number : ℕ) (o : Option LocalRow) (words : List ℕ) → HereIs h → NextIs h.program (store_parameter h number o words)
parameter_it h number (Some l) words K =
    save_it l.ty (fitted_to (units_in h.program l.ty) words) (local_found h.program h.frame.function h.frame.block number) h K
parameter_it h number None words K = lost_it h K

-- ---- calls

invokes_it : (h : Here) (number : ℕ) (words : List ℕ) → HereIs h → NextIs h.program (invokes h number words)
invokes_it h number words K = goes_on (with_items (item (line_of_name (function_at h.program number)) (Enter number words) ∷ []) h) ((tt, K.0), K.1)

found_it : (h : Here) (words : List ℕ) (o : Option ℕ) → HereIs h → NextIs h.program (invokes_found h words o)
found_it h words (Some number) K = invokes_it h number words K
found_it h words None K = traps_it h trap.Call K

block_works : (p : Program) (ls : List LocalRow) → WorksAre p (block_work ls)
block_works p ls = on (has_block ls)
  where
    on : (b : Bool) → WorksAre p (if b then TakeBlock ∷ SetBlock ∷ [] else [])
    on true = (tt, (tt, tt))
    on false = tt

parameter_works : (p : Program) (number count : ℕ) (ls : List LocalRow) (words : List ℕ) → WorksAre p (parameter_work p number count ls words)
parameter_works p number zero ls words = tt
parameter_works p number (suc c) [] words = tt
parameter_works p number (suc c) (l ∷ ls) words = on l.is_shared (parameter_works p (number + 1) c ls (drop (words_in p l.ty) words))
  where
    on : (b : Bool) → WorksAre p (parameter_work p (number + 1) c ls (drop (words_in p l.ty) words))
        → WorksAre p ((if b then StoreParameter number (take (words_in p l.ty) words) ∷ [] else []) ++ parameter_work p (number + 1) c ls (drop (words_in p l.ty) words))
    on true x = (tt, x)
    on false x = x

-- a function that begins, and so a task that starts
pub begun_is : (p : Program) → HasSoundTypes p → HasRoom p → (number : ℕ) (words : List ℕ) → FrameIs p (begun p number words)
begun_is p W R number words = on (function_at p number) refl
  where
    on : (o : Option FunctionRow) → function_at p number ≡ o → FrameIs p (begun_function p number o words)
    on None e = tt
    on (Some f) e =
        items_are p f.line (block_work f.locals ++ parameter_work p 0 f.parameters f.locals words) (to_do f.body ∷ [])
        (each_append (WorkIs p) (block_work f.locals) (parameter_work p 0 f.parameters f.locals words) (block_works p f.locals)
        (parameter_works p 0 f.parameters f.locals words))
        (body_stands p W R number f e, tt)

pub enters_it : (p : Program) → HasSoundTypes p → HasRoom p → (number : ℕ) (words : List ℕ) (c : Control) (frames : List Frame) (privates : List ℕ)
    → AllByRecursion (FrameIs p) c.frames → AllByRecursion (FrameIs p) frames → NextIs p (enters p number words c frames privates)
enters_it p W R number words c frames privates K below =
    either p (has_room p number frames) (Moves (record { entering = None; frames = begun p number words ∷ frames }) privates)
    (Asks (act.Trap trap.Stack) (line_of_name (function_at p number)) c privates)
    (controlled p None (begun p number words ∷ frames) (begun_is p W R number words, below))
    ((tt, omega arith), λ answer. resumed p c (fitted (act.Trap trap.Stack) answer) K)

only_is : (h : Here) (w : Work) → HereIs h → WorkIs h.program w → HereIs (only h (w ∷ []))
only_is h w K x = ((x, tt), K.1)

block_it : (h : Here) (w : Work) (next : Next) → HereIs h → WorkIs h.program w → NextIs h.program next → NextIs h.program (gives_block h (w ∷ []) next)
block_it h w next K x f =
    either h.program (has_block (locals_of (function_here h))) (Asks (act.Free h.frame.block FrameBlock) h.line (control_at (only h (w ∷ []))) h.privates) next
    ((tt, omega arith), waits (only h (w ∷ [])) (act.Free h.frame.block FrameBlock) (only_is h w K x)) f

ends_it : (h : Here) (given : Option (List ℕ)) → HereIs h → NextIs h.program (ends h given)
ends_it h given K =
    block_it h (CountReturn given) (Turns h.line (control_at (only h (Leave given ∷ []))) h.privates) K tt (goes_on (only h (Leave given ∷ [])) (only_is h (Leave given) K tt))

leaves_it : (h : Here) (given : Option (List ℕ)) → HereIs h → NextIs h.program (leaves h given)
leaves_it h given K = controlled h.program None (with_given given h.below) (given_is h.program given h.below K.1)

-- ---- actions

composes_it : (h : Here) (pieces : List PrintPiece) (arguments : List Argument) (text bytes : List ℕ) → HereIs h → NextIs h.program (composes h pieces arguments text bytes)
composes_it h pieces arguments text bytes K =
    either h.program (nat_lt most_text (length text + length bytes)) _ _ (traps_it h trap.Print K) (does_it h (Compose pieces arguments (text ++ bytes) ∷ []) K (tt, tt))

compose_it : (pieces : List PrintPiece) (arguments : List Argument) (text : List ℕ) (h : Here) → HereIs h → NextIs h.program (compose pieces arguments text h)
compose_it [] arguments text h K = asks_it h (act.Print text) (Answered ∷ []) (tt, omega arith) K (tt, tt)
compose_it (print.Byte b ∷ pieces) arguments text h K = composes_it h pieces arguments text (b ∷ []) K
compose_it (print.Percent ∷ pieces) arguments text h K = composes_it h pieces arguments text (37 ∷ []) K
compose_it (print.Text ∷ pieces) (a ∷ arguments) text h K = does_it h (Scan (slice_index a.words 0) pieces arguments text ∷ []) K (tt, tt)
compose_it (print.Signed ∷ pieces) (a ∷ arguments) text h K = composes_it h pieces arguments text (written print.Signed a.ty a.words) K
compose_it (print.Unsigned ∷ pieces) (a ∷ arguments) text h K = composes_it h pieces arguments text (written print.Unsigned a.ty a.words) K
compose_it (print.Hexadecimal ∷ pieces) (a ∷ arguments) text h K = composes_it h pieces arguments text (written print.Hexadecimal a.ty a.words) K
compose_it (print.Character ∷ pieces) (a ∷ arguments) text h K = composes_it h pieces arguments text (written print.Character a.ty a.words) K
compose_it (print.Text ∷ pieces) [] text h K = lost_it h K
compose_it (print.Signed ∷ pieces) [] text h K = lost_it h K
compose_it (print.Unsigned ∷ pieces) [] text h K = lost_it h K
compose_it (print.Hexadecimal ∷ pieces) [] text h K = lost_it h K
compose_it (print.Character ∷ pieces) [] text h K = lost_it h K

scanned_it : (b at : ℕ) (pieces : List PrintPiece) (arguments : List Argument) (text : List ℕ) (h : Here) → HereIs h → NextIs h.program (scanned b at pieces arguments text h)
scanned_it zero at pieces arguments text h K = does_it h (Compose pieces arguments text ∷ []) K (tt, tt)
scanned_it (suc b) at pieces arguments text h K =
    either h.program (nat_lt (length text) most_text) _ _ (does_it h (Scan (sum at 1) pieces arguments (text ++ suc b ∷ []) ∷ []) K (tt, tt)) (traps_it h trap.Print K)

-- the answer to a load of one byte is one
scan_it : (at : ℕ) (pieces : List PrintPiece) (arguments : List Argument) (text : List ℕ) (h : Here) → HereIs h
    → NextIs h.program (asks h (act.Load at 1) (Scanned at pieces arguments text ∷ []))
scan_it at pieces arguments text h K = ((inl refl, omega arith), on)
  where
    on : (words : List ℕ) → ControlIs h.program (resume (control_at (with_work (Scanned at pieces arguments text ∷ []) h)) (fitted (act.Load at 1) words))
    on [] = ((inr (omega arith), K.0), K.1)
    on (w ∷ words) = ((inr (omega arith), K.0), K.1)

allocates_it : (t : Ty-F Ty) (h : Here) → AllocatesSome h.program t → HereIs h → NextIs h.program (allocates t h)
allocates_it (Ty-F.Pointer to) h x K = asks_it h (act.Alloc (size_in h.program to) Heap) (Answered ∷ []) (x, omega arith) K (tt, tt)
allocates_it (Ty-F.Chan element capacity) h x K = asks_it h (act.NewChan capacity (words_in h.program element)) (Answered ∷ []) (tt, omega arith) K (tt, tt)
allocates_it Ty-F.Void h x K = lost_it h K
allocates_it (Ty-F.Integer k) h x K = lost_it h K
allocates_it (Ty-F.Array element count) h x K = lost_it h K
allocates_it (Ty-F.Tuple parts) h x K = lost_it h K
allocates_it (Ty-F.Aggregate number) h x K = lost_it h K
allocates_it (Ty-F.Function returns parameters) h x K = lost_it h K

gives_back_it : (t : Ty-F Ty) (a : ℕ) (h : Here) → HereIs h → NextIs h.program (gives_back t a h)
gives_back_it (Ty-F.Chan element capacity) a h K = asks_it h (act.FreeChan a) (Answered ∷ []) (tt, omega arith) K (tt, tt)
gives_back_it (Ty-F.Pointer to) a h K = asks_it h (act.Free a Heap) (Answered ∷ []) (tt, omega arith) K (tt, tt)
gives_back_it Ty-F.Void a h K = asks_it h (act.Free a Heap) (Answered ∷ []) (tt, omega arith) K (tt, tt)
gives_back_it (Ty-F.Integer k) a h K = asks_it h (act.Free a Heap) (Answered ∷ []) (tt, omega arith) K (tt, tt)
gives_back_it (Ty-F.Array element count) a h K = asks_it h (act.Free a Heap) (Answered ∷ []) (tt, omega arith) K (tt, tt)
gives_back_it (Ty-F.Tuple parts) a h K = asks_it h (act.Free a Heap) (Answered ∷ []) (tt, omega arith) K (tt, tt)
gives_back_it (Ty-F.Aggregate number) a h K = asks_it h (act.Free a Heap) (Answered ∷ []) (tt, omega arith) K (tt, tt)
gives_back_it (Ty-F.Function returns parameters) a h K = asks_it h (act.Free a Heap) (Answered ∷ []) (tt, omega arith) K (tt, tt)

-- ---- loops

while_it : (s : TStmt) (b : Bool) (h : Here) → HereIs h → In h.program (Stands s) → NextIs h.program (while_test s b h)
unfolding IsStatement
while_it s true h K x = goes_on h K
while_it (part.while_loop line condition body) false h K x =
    starts_then_it h body (WhileAgain (part.while_loop line condition body)) K (narrow x (λ s v. (in_loop v.0, (v.1.0.1, v.1.1)))) x
while_it _ false h K x = lost_it h K

do_condition_it : (s : TStmt) (h : Here) → HereIs h → In h.program (Stands s) → NextIs h.program (do_condition s h)
unfolding IsStatement
do_condition_it (part.do_loop line body condition) h K x =
    does_it h (Eval condition ∷ DoTest (part.do_loop line body condition) ∷ []) K (narrow x (λ s v. v.1.0.1.0), (x, tt))
do_condition_it _ h K x = lost_it h K

for_condition_it : (s : TStmt) (h : Here) → HereIs h → In h.program (Stands s) → NextIs h.program (for_condition s h)
unfolding IsStatement
for_condition_it (part.for_loop line start (Some condition) step body) h K x =
    does_it h (Eval condition ∷ ForTest (part.for_loop line start (Some condition) step body) ∷ []) K (narrow x (λ s v. v.1.0.1.0.0), (x, tt))
for_condition_it (part.for_loop line start None step body) h K x =
    starts_then_it h body (ForNext (part.for_loop line start None step body)) K (narrow x (λ s v. (in_loop v.0, (v.1.0.1.1.1, v.1.1)))) x
for_condition_it _ h K x = lost_it h K

for_test_it : (s : TStmt) (b : Bool) (h : Here) → HereIs h → In h.program (Stands s) → NextIs h.program (for_test s b h)
unfolding IsStatement
for_test_it s true h K x = goes_on h K
for_test_it (part.for_loop line start condition step body) false h K x =
    starts_then_it h body (ForNext (part.for_loop line start condition step body)) K (narrow x (λ s v. (in_loop v.0, (v.1.0.1.1.1, v.1.1)))) x
for_test_it _ false h K x = lost_it h K

for_next_it : (s : TStmt) (h : Here) → HereIs h → In h.program (Stands s) → NextIs h.program (for_next s h)
unfolding IsStatement
for_next_it (part.for_loop line start condition step body) h K x =
    does_it h (optionally step ++ ForAgain (part.for_loop line start condition step body) ∷ []) K
    (each_append (WorkIs h.program) (optionally step) (ForAgain (part.for_loop line start condition step body) ∷ [])
    (optional_works h.program step (narrow x (λ s v. v.1.0.1.1.0))) (x, tt))
for_next_it _ h K x = lost_it h K

iterate_it : (number : ℕ) (bounds : List Bounds) (value : TExpr) (h : Here) → HereIs h → number + length bounds < 2 ^ 63
    → In h.program (λ s. IsValue s value) → NextIs h.program (iterate number bounds value h)
iterate_it number [] value h K few x = does_it h (and_dropped value) K (dropped_works h.program value x)
iterate_it number (b ∷ rest) value h K few x =
    let g : Here = record h { frame = record h.frame { turns = take number h.frame.turns ++ b.from ∷ [] } } in
    either h.program (is_below b.from b.to) _ (moves h)
    (does_it g (Iterate (number + 1) rest value ∷ NextTurn number b rest value ∷ []) K ((omega (arith, few), x), ((omega (arith, few), x), tt)))
    (goes_on h K)

sized_it : (c : ℕ) (values : List (List ℕ)) (h : Here) (k : List (List ℕ) → Here → Next) → HereIs h
    → ((vs : List (List ℕ)) (found : List Found) → length vs ≡ c + length values → NextIs h.program (k vs (with_found found h)))
    → NextIs h.program (words_before c values h k)
sized_it zero values h k K f = f values h.frame.found (omega arith)
sized_it (suc c) values h k K f =
    value_it h (λ ws h. words_before c (ws ∷ values) h k) K
    (λ ws found. sized_it c (ws ∷ values) (with_found found h) k K (λ vs found e. f vs found (omega (arith, e))))

bounds_length : (values : List (List ℕ)) → 2 * length (bounds_of values) ≤ length values
bounds_length [] = omega arith
bounds_length (a ∷ []) = omega arith
bounds_length (a ∷ b ∷ values) = omega (arith, bounds_length values)

-- ---- an alt

few_cases : {m : _} (row : Row_of-TStmt m) → length (communications (branchings row)) ≤ alt_cases row
few_cases end_of-TStmt = omega arith
few_cases (more_of-TStmt (AltCase c) rest) = omega (arith, few_cases rest)
few_cases (more_of-TStmt s rest) = few_cases rest

branch_count : (p : Program) (cs : List TCommunication) (values : List (List ℕ)) → length (alt_branches p cs values) ≡ length cs
branch_count p [] values = refl
branch_count p (c ∷ cs) values = omega (arith, branch_count p cs (drop (length (communication_exprs c)) values))

few_branches : (p : Program) (s : TStmt) (values : List (List ℕ)) → In p (Stands s) → length (alt_branches p (communications (cases_of s)) values) ≤ 64
unfolding IsStatement
few_branches p (Alt' line shape body) values x = omega (arith, branch_count p (communications (branchings body)) values, few_cases body, x.term.1.0.1.0)
few_branches p _ values x = omega arith

-- ---- one item

pub step_it : (w : Work) (h : Here) → HasSoundTypes h.program → HasRoom h.program → HereIs h → WorkIs h.program w → NextIs h.program (step_work w h)
step_it (Eval e) h W R K x = eval_it e h W K x
step_it (Find place) h W R K x = find_it place h K x
step_it (Aim target) h W R K x = aim_it target h K x
step_it Answered h W R K x = goes_on h K
step_it (Give words) h W R K x = gives_it h words K
step_it Drop h W R K x = value_it h (λ _ h. moves h) K (λ ws found. goes_on (with_found found h) K)
step_it (Unary op kind) h W R K x = value_it h (λ a h. gives h (operated_once op kind a)) K (λ a found. gives_it (with_found found h) (operated_once op kind a) K)
step_it Negate h W R K x = value_it h (λ a h. gives h (truth (is_zero a))) K (λ a found. gives_it (with_found found h) (truth (is_zero a)) K)
step_it (Binary op kind) h W R K x =
    two_it h (λ a b h. gives_quotient h (operated op kind a b)) K (λ a b found. quotient_it (with_found found h) (operated op kind a b) K)
step_it (AndThen right) h W R K x =
    value_it h (λ a h. if is_zero a then gives h (truth false) else does h (Eval right ∷ Truth ∷ [])) K
    (λ a found. either h.program (is_zero a) _ _ (gives_it (with_found found h) (truth false) K) (does_it (with_found found h) (Eval right ∷ Truth ∷ []) K (x, (tt, tt))))
step_it (OrElse right) h W R K x =
    value_it h (λ a h. if is_zero a then does h (Eval right ∷ Truth ∷ []) else gives h (truth true)) K
    (λ a found. either h.program (is_zero a) _ _ (does_it (with_found found h) (Eval right ∷ Truth ∷ []) K (x, (tt, tt))) (gives_it (with_found found h) (truth true) K))
step_it Truth h W R K x = value_it h (λ a h. gives h (truth (not (is_zero a)))) K (λ a found. gives_it (with_found found h) (truth (not (is_zero a))) K)
step_it (Advance back size) h W R K x =
    two_it h (λ pointer count h. gives h (stepped_by back size (bits_of pointer) (bits_of count) ∷ [])) K
    (λ a b found. gives_it (with_found found h) (stepped_by back size (bits_of a) (bits_of b) ∷ []) K)
step_it (AdvanceCounted size) h W R K x =
    two_it h (λ count pointer h. gives h (stepped_by false size (bits_of pointer) (bits_of count) ∷ [])) K
    (λ a b found. gives_it (with_found found h) (stepped_by false size (bits_of b) (bits_of a) ∷ []) K)
step_it (Between size) h W R K x =
    two_it h (λ a b h. gives h (elements_between size (bits_of a) (bits_of b) ∷ [])) K
    (λ a b found. gives_it (with_found found h) (elements_between size (bits_of a) (bits_of b) ∷ []) K)
step_it (Convert from to) h W R K x =
    value_it h (λ a h. gives h (converted h.program.aggregates from to a)) K (λ a found. gives_it (with_found found h) (converted h.program.aggregates from to a) K)
step_it (Part t path) h W R K x =
    value_it h (λ a h. gives h (part_of h.program.aggregates t path a)) K (λ a found. gives_it (with_found found h) (part_of h.program.aggregates t path a) K)
step_it (Join count) h W R K x = values_it count [] h (λ values h. gives h (joined values)) K (λ values found. gives_it (with_found found h) (joined values) K)
step_it (Point offset) h W R K x =
    value_it h (λ ws h. finds h (Address (sum (slice_index ws 0) offset))) K (λ ws found. finds_it (with_found found h) (Address (sum (slice_index ws 0) offset)) K)
step_it (Index size) h W R K x =
    two_it h (λ base index h. finds h (Address (stepped_by false size (bits_of base) (bits_of index)))) K
    (λ a b found. finds_it (with_found found h) (Address (stepped_by false size (bits_of a) (bits_of b))) K)
step_it (Within offset) h W R K x = address_it h (λ at h. finds h (Address (sum at offset))) K (λ at found. finds_it (with_found found h) (Address (sum at offset)) K)
step_it AddressOf h W R K x = address_it h (λ at h. gives h (at ∷ [])) K (λ at found. gives_it (with_found found h) (at ∷ []) K)
step_it (Read t) h W R K x = place_it h (λ f h. read_place t f h) K (λ f found. read_it t f (with_found found h) K)
step_it (Look t) h W R K x =
    place_it h (λ f h. moves (with_work (Read t ∷ []) (with_found (f ∷ f ∷ h.frame.found) h))) K
    (λ f found. does_it (with_found (f ∷ f ∷ found) h) (Read t ∷ []) K (x, tt))
step_it (Fetch at units got) h W R K x = fetch_it at units got h x K
step_it (Fetched at units got) h W R K x =
    value_it h (λ ws h. does h (Fetch at units (got ++ slice_index ws 0 ∷ []) ∷ [])) K
    (λ ws found. does_it (with_found found h) (Fetch at units (got ++ slice_index ws 0 ∷ []) ∷ []) K (x, tt))
step_it (Save t words place) h W R K x = save_it t words place h K
step_it (Put t) h W R K x =
    value_it h (λ ws h. with_place h (λ f h. does h (Save t ws f ∷ []))) K
    (λ ws found. place_it (with_found found h) (λ f h. does h (Save t ws f ∷ [])) K (λ f found. does_it (with_found found h) (Save t ws f ∷ []) K (x, tt)))
step_it (Write at units words) h W R K x = write_it at units words h x K
step_it (Assign target) h W R K x =
    value_it h (λ ws h. places_before (length (leaves_of target)) [] h (λ places h. does h (saves h.program (leaves_of target) places ws ++ Give ws ∷ []))) K
    (λ ws found. places_it (length (leaves_of target)) [] (with_found found h) (λ places h. does h (saves h.program (leaves_of target) places ws ++ Give ws ∷ [])) K
    (λ places found. does_it (with_found found h) (saves h.program (leaves_of target) places ws ++ Give ws ∷ []) K
    (each_append (WorkIs h.program) (saves h.program (leaves_of target) places ws) (Give ws ∷ [])
    (saves_are h.program (leaves_of target) places ws x) (tt, tt))))
step_it (Update t change) h W R K x =
    two_it h (λ old value h. with_place h (λ f h. saves_updated h t f (updated h.program t change old value))) K
    (λ old value found. place_it (with_found found h) (λ f h. saves_updated h t f (updated h.program t change old value)) K
    (λ f found. updated_it (with_found found h) t f (updated h.program t change old value) K x.0))
step_it (Step t op) h W R K x =
    value_it h (λ old h. with_place h (λ f h. let new = next_value h.program (goes_back op) t (out-Ty t) old in saves_and_gives h t f new (step_gives op old new))) K
    (λ old found. place_it (with_found found h)
    (λ f h. let new = next_value h.program (goes_back op) t (out-Ty t) old in saves_and_gives h t f new (step_gives op old new)) K
    (λ f found. saves_it (with_found found h) t f (next_value h.program (goes_back op) t (out-Ty t) old)
    (step_gives op old (next_value h.program (goes_back op) t (out-Ty t) old)) K x.0))
step_it (Clear t) h W R K x =
    value_it h (λ old h. with_place h (λ f h. saves_and_gives h t f (zero_words (words_in h.program t)) old)) K
    (λ old found. place_it (with_found found h) (λ f h. saves_and_gives h t f (zero_words (words_in h.program t)) old) K
    (λ f found. saves_it (with_found found h) t f (zero_words (words_in h.program t)) old K x))
step_it (PassPlace how t offset) h W R K x =
    address_it h (λ at h. passes_place how t (sum at offset) h) K (λ at found. passes_it how t (sum at offset) (with_found found h) K x)
step_it (PassPointer how t offset) h W R K x =
    value_it h (λ ws h. passes_place how t (sum (slice_index ws 0) offset) h) K (λ ws found. passes_it how t (sum (slice_index ws 0) offset) (with_found found h) K x)
step_it (PassPart how t path) h W R K x = value_it h (λ ws h. passes_part how t path ws h) K (λ ws found. part_it how t path ws (with_found found h) K)
step_it (Invoke function count) h W R K x =
    values_it count [] h (λ values h. invokes h function (joined values)) K (λ values found. invokes_it (with_found found h) function (joined values) K)
step_it (InvokePointer t count) h W R K x =
    values_it count [] h (λ values h. with_value h (λ ws h. invokes_found h (joined values) (named_by t (slice_index ws 0) 0 h.program.functions))) K
    (λ values found. value_it (with_found found h) (λ ws h. invokes_found h (joined values) (named_by t (slice_index ws 0) 0 h.program.functions)) K
    (λ ws found. found_it (with_found found h) (joined values) (named_by t (slice_index ws 0) 0 h.program.functions) K))
step_it (Enter function words) h W R K x =
    enters_it h.program W R function words (control_at (with_work (Answered ∷ []) h)) (h.frame ∷ h.below) h.privates (laid h (Answered ∷ []) K (tt, tt)) K
step_it (InvokeInstead function count) h W R K x =
    values_it count [] h (λ values h. gives_block h (Replace function (joined values) ∷ []) (moves (only h (Replace function (joined values) ∷ [])))) K
    (λ values found. block_it (with_found found h) (Replace function (joined values)) (moves (only (with_found found h) (Replace function (joined values) ∷ []))) K tt
    (goes_on (only (with_found found h) (Replace function (joined values) ∷ [])) (only_is (with_found found h) (Replace function (joined values)) K tt)))
step_it (Replace function words) h W R K x = K.1
step_it TakeBlock h W R K x = asks_it h (act.Alloc (block_size h.program (locals_of (function_here h))) FrameBlock) (Answered ∷ []) (block_some h.program W h.frame.function, omega arith) K (tt, tt)
step_it SetBlock h W R K x =
    value_it h (λ ws h. moves (record h { frame = record h.frame { block = slice_index ws 0 } })) K
    (λ ws found. goes_on (record h { frame = record h.frame { block = slice_index ws 0; found = found } }) K)
step_it (StoreParameter number words) h W R K x = parameter_it h number (slice_get (locals_of (function_here h)) number) words K
step_it (Returns true) h W R K x = value_it h (λ ws h. ends h (Some ws)) K (λ ws found. ends_it (with_found found h) (Some ws) K)
step_it (Returns false) h W R K x = ends_it h None K
step_it (CountReturn given) h W R K x = turns_it h (Leave given ∷ []) K (tt, tt)
step_it (Leave given) h W R K x = leaves_it h given K
step_it (Gather pieces types) h W R K x =
    values_it (length types) [] h (λ values h. does h (Compose pieces (arguments_of types values) [] ∷ [])) K
    (λ values found. does_it (with_found found h) (Compose pieces (arguments_of types values) [] ∷ []) K (tt, tt))
step_it (Compose pieces arguments text) h W R K x = compose_it pieces arguments text h K
step_it (Scan at pieces arguments text) h W R K x = scan_it at pieces arguments text h K
step_it (Scanned at pieces arguments text) h W R K x =
    value_it h (λ ws h. scanned (slice_index ws 0) at pieces arguments text h) K (λ ws found. scanned_it (slice_index ws 0) at pieces arguments text (with_found found h) K)
step_it Terminates h W R K x =
    value_it h (λ ws h. asks h (act.Terminate (cast_signed w32 (slice_index ws 0))) (Answered ∷ [])) K
    (λ ws found. asks_it (with_found found h) (act.Terminate (cast_signed w32 (slice_index ws 0))) (Answered ∷ []) (tt, omega arith) K (tt, tt))
step_it (Receives t) h W R K x =
    value_it h (λ ws h. asks h (act.Talk (receiving h.program t (slice_index ws 0) ∷ [])) (Received t ∷ [])) K
    (λ ws found. asks_it (with_found found h) (act.Talk (receiving h.program t (slice_index ws 0) ∷ [])) (Received t ∷ []) (tt, omega arith) K (x, tt))
step_it (Received t) h W R K x =
    value_it h (λ ws h. gives h (fitted_to (units_in h.program t) (drop 1 ws))) K (λ ws found. gives_it (with_found found h) (fitted_to (units_in h.program t) (drop 1 ws)) K)
step_it (Sends t) h W R K x =
    two_it h (λ c ws h. asks h (act.Talk (sending h.program t (slice_index c 0) ws ∷ [])) (Drop ∷ [])) K
    (λ c ws found. asks_it (with_found found h) (act.Talk (sending h.program t (slice_index c 0) ws ∷ [])) (Drop ∷ []) (tt, omega arith) K (tt, tt))
step_it CanReceives h W R K x =
    value_it h (λ ws h. asks h (act.CanRecv (slice_index ws 0)) (Answered ∷ [])) K (λ ws found. asks_it (with_found found h) (act.CanRecv (slice_index ws 0)) (Answered ∷ []) (tt, omega arith) K (tt, tt))
step_it CanSends h W R K x =
    value_it h (λ ws h. asks h (act.CanSend (slice_index ws 0)) (Answered ∷ [])) K (λ ws found. asks_it (with_found found h) (act.CanSend (slice_index ws 0)) (Answered ∷ []) (tt, omega arith) K (tt, tt))
step_it (Allocate t) h W R K x = allocates_it (out-Ty t) h x.1 K
step_it (Unallocate t) h W R K x =
    value_it h (λ ws h. gives_back (out-Ty t) (slice_index ws 0) h) K (λ ws found. gives_back_it (out-Ty t) (slice_index ws 0) (with_found found h) K)
step_it (StartProc function count) h W R K x =
    values_it count [] h (λ values h. asks h (act.Proc (record { code = function; words = joined values })) (Answered ∷ [])) K
    (λ values found. asks_it (with_found found h) (act.Proc (record { code = function; words = joined values })) (Answered ∷ []) (tt, omega arith) K (tt, tt))
step_it (StartTask function count) h W R K x =
    values_it count [] h (λ values h. asks h (act.Task (record { code = function; words = joined values })) (Answered ∷ [])) K
    (λ values found. asks_it (with_found found h) (act.Task (record { code = function; words = joined values })) (Answered ∷ []) (tt, omega arith) K (tt, tt))
step_it (Do s) h W R K x = do_it s h W R K x
step_it (Choose chosen None) h W R K x =
    value_it h (λ a h. if is_zero a then moves h else starts h chosen) K
    (λ a found. either h.program (is_zero a) _ _ (goes_on (with_found found h) K) (starts_it (with_found found h) chosen K x.0))
step_it (Choose chosen (Some other)) h W R K x =
    value_it h (λ a h. if is_zero a then starts h other else starts h chosen) K
    (λ a found. either h.program (is_zero a) _ _ (starts_it (with_found found h) other K x.1) (starts_it (with_found found h) chosen K x.0))
step_it Test h W R K x =
    value_it h (λ a h. if is_zero a then traps h trap.Check else moves h) K
    (λ a found. either h.program (is_zero a) _ _ (traps_it (with_found found h) trap.Check K) (goes_on (with_found found h) K))
step_it (WhileTest s) h W R K x = value_it h (λ a h. while_test s (is_zero a) h) K (λ a found. while_it s (is_zero a) (with_found found h) K x)
step_it (WhileAgain s) h W R K x = starts_it h s K x
step_it (DoCondition s) h W R K x = do_condition_it s h K x
step_it (DoTest s) h W R K x =
    value_it h (λ a h. if is_zero a then moves h else Turns h.line (control_at (with_items (to_do s ∷ []) h)) h.privates) K
    (λ a found. either h.program (is_zero a) (moves (with_found found h)) (Turns h.line (control_at (with_items (to_do s ∷ []) (with_found found h))) h.privates)
    (goes_on (with_found found h) K) (starts_it (with_found found h) s K x))
step_it (ForCondition s) h W R K x = for_condition_it s h K x
step_it (ForTest s) h W R K x = value_it h (λ a h. for_test s (is_zero a) h) K (λ a found. for_test_it s (is_zero a) (with_found found h) K x)
step_it (ForNext s) h W R K x = for_next_it s h K x
step_it (ForAgain s) h W R K x = turns_it h (ForCondition s ∷ []) K (x, tt)
step_it (Bound count value) h W R K x =
    sized_it (count + count) [] h (λ values h. does h (Iterate 0 (bounds_of values) value ∷ [])) K
    (λ values found e. does_it (with_found found h) (Iterate 0 (bounds_of values) value ∷ []) K ((omega (arith, e, bounds_length values, x.0), x.1), tt))
step_it (Iterate number bounds value) h W R K x = iterate_it number bounds value h K x.0 x.1
step_it (NextTurn number b rest value) h W R K x = turns_it h (Iterate number (next_turn b ∷ rest) value ∷ []) K ((omega (arith, x.0), x.1), tt)
step_it (Select s) h W R K x = value_it h (λ ws h. select s (bits_of ws) h) K (λ ws found. select_it s (bits_of ws) (with_found found h) K x)
step_it (AltTalk s) h W R K x =
    values_it (length (alt_exprs (communications (cases_of s)))) [] h
    (λ values h. asks h (act.Talk (alt_branches h.program (communications (cases_of s)) values)) (AltWent s ∷ [])) K
    (λ values found. asks_it (with_found found h) (act.Talk (alt_branches h.program (communications (cases_of s)) values)) (AltWent s ∷ []) (tt, few_branches h.program s values x) K (x, tt))
step_it (AltWent s) h W R K x =
    value_it h (λ ws h. goes_into h (slice_get (cases_of s) (slice_index ws 0)) (drop 1 ws)) K
    (λ ws found. went_it s (slice_index ws 0) (drop 1 ws) (with_found found h) W K x)
step_it CasesEnd h W R K x = goes_on h K

-- ---- one step

scanned_step : (w : Work) (h : Here) → HereIs h → IsScanned h.frame.found w → NextIs h.program (step_work w h)
scanned_step (Scanned at pieces arguments text) h K x =
    value_it h (λ ws h. scanned (slice_index ws 0) at pieces arguments text h) K (λ ws found. scanned_it (slice_index ws 0) at pieces arguments text (with_found found h) K)
scanned_step _ h K x = absurd x

module _ (p : Program) (W : HasSoundTypes p) (R : HasRoom p) where
  pub frame_steps : (items : List Item) (f : Frame) (below : List Frame) (privates : List ℕ) → TopIs p f items → AllByRecursion (FrameIs p) below
      → NextIs p (step_frame p items f below privates)
  frame_steps [] f below privates K B =
      ends_it (here p (line_of_name (function_at p f.function)) (record f { items = [] }) below privates) (default_of p (function_at p f.function)) (tt, B)
  frame_steps (i ∷ items) f below privates K B = elim K.0 [
    | inl x ↦ step_it i.work (here p i.line (record f { items = items }) below privates) W R (K.1, B) x
    | inr x ↦ scanned_step i.work (here p i.line (record f { items = items }) below privates) (K.1, B) x
  ]
