-- A private step of a task: one item is done.
use Rattle.std.specs.Prelude.{ℕ, ◌+◌, true, false, not, if◌then◌else◌, List, [], ◌∷◌, ◌++◌, drop, length, Option, Some, None, slice_get, slice_index}
use Rattle.std.specs.Int.{cast_signed, w32}
use Rattle.al_base.specs.declared.trap.Trap.TheVariants as trap
use Rattle.al_event.specs.declared.act.Act.TheVariants as act
use Rattle.al_event.specs.declared.act.Block.TheVariants.{Frame as FrameBlock}
use Rattle.al_world.specs.Turns.{Turns, Asks}
use Rattle.al_typed.specs.declared.ty.Ty.{out-Ty}
use Rattle.al_typed.specs.declared.program.Local.{Local as LocalRow}
use Rattle.al_typed.specs.declared.program.Program.{Program}
use Rattle.al_meaning.specs.Words.{bits_of, is_zero, truth, operated, operated_once, sum, stepped_by, elements_between, converted, part_of, fitted_to, zero_words}
use Rattle.al_meaning.specs.Places.{function_at, locals_of, block_size, words_in}
use Rattle.al_meaning.specs.Items.{Address, Work, Eval, Find, Aim, Answered, Give, Drop, Unary, Negate, Binary, AndThen, OrElse, Truth, Advance, AdvanceCounted, Between, Convert, Part, Join, Point, Index, Within, AddressOf, Read, Look, Fetch, Fetched, Save, Put, Write, Assign, Update, Step, Clear, PassPlace, PassPointer, PassPart, Invoke, InvokePointer, Enter, InvokeInstead, Replace, TakeBlock, SetBlock, StoreParameter, Returns, CountReturn, Leave, Gather, Compose, Scan, Scanned, Terminates, Receives, Received, Sends, CanReceives, CanSends, Allocate, Unallocate, StartProc, StartTask, Do, Choose, Test, WhileTest, WhileAgain, DoCondition, DoTest, ForCondition, ForTest, ForNext, ForAgain, Bound, Iterate, NextTurn, Select, AltTalk, AltWent, CasesEnd, Item, Frame, Entering, Control}
use Rattle.al_meaning.specs.Parts.{to_do}
use Rattle.al_meaning.specs.Here.{Here, Next, asks, control_at, does, finds, function_here, gives, here, lost, moves, places_before, traps, turns, units_in, with_address, with_found, with_items, with_place, with_two, with_value, with_values, with_word, with_work}
use Rattle.al_meaning.specs.Calls.{default_of, ends, enters, gives_block, invokes, invokes_found, joined, leaves, line_of_name, named_by, only}
use Rattle.al_meaning.specs.Evaluate.{aim_at, allocates, arguments_of, compose, eval, fetch_units, find_place, gives_back, goes_back, goes_into, leaves_of, local_found, next_value, passes_part, passes_place, read_place, receiving, save_at, saves, saves_and_gives, saves_updated, scanned, sending, step_gives, updated, write_units}
use Rattle.al_meaning.specs.Execute.{alt_asks, bounds_of, cases_of, do_condition, do_statement, for_condition, for_next, for_test, iterate, next_turn, select, starts, starts_other, while_test}

-- ---- one item

abbrev pub unit_value : List ℕ → ℕ
unit_value ws = slice_index ws 0

abbrev pub gives_quotient : Here → Option (List ℕ) → Next
gives_quotient h (Some ws) = gives h ws
gives_quotient h None = traps h trap.Divide

abbrev pub store_parameter : Here → ℕ → Option LocalRow → List ℕ → Next
store_parameter h number (Some l) words = save_at l.ty (fitted_to (units_in h.program l.ty) words) (local_found h.program h.frame.function h.frame.block number) h
store_parameter h number None words = lost h

abbrev pub step_work : Work → Here → Next
step_work (Eval e) h = eval e h
step_work (Find place) h = find_place place h
step_work (Aim target) h = aim_at target h
step_work Answered h = moves h
step_work (Give words) h = gives h words
step_work Drop h = with_value h (λ _ h. moves h)
step_work (Unary op kind) h = with_value h (λ a h. gives h (operated_once op kind a))
step_work Negate h = with_value h (λ a h. gives h (truth (is_zero a)))
step_work (Binary op kind) h = with_two h (λ a b h. gives_quotient h (operated op kind a b))
step_work (AndThen right) h = with_value h (λ a h. if is_zero a then gives h (truth false) else does h (Eval right ∷ Truth ∷ []))
step_work (OrElse right) h = with_value h (λ a h. if is_zero a then does h (Eval right ∷ Truth ∷ []) else gives h (truth true))
step_work Truth h = with_value h (λ a h. gives h (truth (not (is_zero a))))
step_work (Advance back size) h = with_two h (λ pointer count h. gives h (stepped_by back size (bits_of pointer) (bits_of count) ∷ []))
step_work (AdvanceCounted size) h = with_two h (λ count pointer h. gives h (stepped_by false size (bits_of pointer) (bits_of count) ∷ []))
step_work (Between size) h = with_two h (λ a b h. gives h (elements_between size (bits_of a) (bits_of b) ∷ []))
step_work (Convert from to) h = with_value h (λ a h. gives h (converted h.program.aggregates from to a))
step_work (Part t path) h = with_value h (λ a h. gives h (part_of h.program.aggregates t path a))
step_work (Join count) h = with_values count h (λ values h. gives h (joined values))
step_work (Point offset) h = with_word h (λ at h. finds h (Address (sum at offset)))
step_work (Index size) h = with_two h (λ base index h. finds h (Address (stepped_by false size (bits_of base) (bits_of index))))
step_work (Within offset) h = with_address h (λ at h. finds h (Address (sum at offset)))
step_work AddressOf h = with_address h (λ at h. gives h (at ∷ []))
step_work (Read t) h = with_place h (λ f h. read_place t f h)
step_work (Look t) h = with_place h (λ f h. moves (with_work (Read t ∷ []) (with_found (f ∷ f ∷ h.frame.found) h)))
step_work (Fetch at units got) h = fetch_units at units got h
step_work (Fetched at units got) h = with_word h (λ w h. does h (Fetch at units (got ++ w ∷ []) ∷ []))
step_work (Save t words place) h = save_at t words place h
step_work (Put t) h = with_value h (λ ws h. with_place h (λ f h. does h (Save t ws f ∷ [])))
step_work (Write at units words) h = write_units at units words h
step_work (Assign target) h =
    with_value h (λ ws h. places_before (length (leaves_of target)) [] h (λ places h. does h (saves h.program (leaves_of target) places ws ++ Give ws ∷ [])))
step_work (Update t change) h = with_two h (λ old value h. with_place h (λ f h. saves_updated h t f (updated h.program t change old value)))
step_work (Step t op) h =
    with_value h (λ old h. with_place h (λ f h. let new = next_value h.program (goes_back op) t (out-Ty t) old in saves_and_gives h t f new (step_gives op old new)))
step_work (Clear t) h = with_value h (λ old h. with_place h (λ f h. saves_and_gives h t f (zero_words (words_in h.program t)) old))
step_work (PassPlace how t offset) h = with_address h (λ at h. passes_place how t (sum at offset) h)
step_work (PassPointer how t offset) h = with_word h (λ at h. passes_place how t (sum at offset) h)
step_work (PassPart how t path) h = with_value h (λ ws h. passes_part how t path ws h)
step_work (Invoke function count) h = with_values count h (λ values h. invokes h function (joined values))
step_work (InvokePointer t count) h =
    with_values count h (λ values h. with_word h (λ value h. invokes_found h (joined values) (named_by t value 0 h.program.functions)))
step_work (Enter function words) h =
    enters h.program function words (control_at (with_work (Answered ∷ []) h)) (h.frame ∷ h.below) h.privates
step_work (InvokeInstead function count) h =
    with_values count h (λ values h. gives_block h (Replace function (joined values) ∷ []) (moves (only h (Replace function (joined values) ∷ []))))
step_work (Replace function words) h =
    Turns h.line (record { entering = Some (record { function = function; words = words }); frames = h.below }) h.privates
step_work TakeBlock h = asks h (act.Alloc (block_size h.program (locals_of (function_here h))) FrameBlock) (Answered ∷ [])
step_work SetBlock h = with_word h (λ at h. moves (record h { frame = record h.frame { block = at } }))
step_work (StoreParameter number words) h = store_parameter h number (slice_get (locals_of (function_here h)) number) words
step_work (Returns true) h = with_value h (λ ws h. ends h (Some ws))
step_work (Returns false) h = ends h None
step_work (CountReturn given) h = turns h (Leave given ∷ [])
step_work (Leave given) h = leaves h given
step_work (Gather pieces types) h = with_values (length types) h (λ values h. does h (Compose pieces (arguments_of types values) [] ∷ []))
step_work (Compose pieces arguments text) h = compose pieces arguments text h
step_work (Scan at pieces arguments text) h = asks h (act.Load at 1) (Scanned at pieces arguments text ∷ [])
step_work (Scanned at pieces arguments text) h = with_word h (λ b h. scanned b at pieces arguments text h)
step_work Terminates h = with_word h (λ status h. asks h (act.Terminate (cast_signed w32 status)) (Answered ∷ []))
step_work (Receives t) h = with_word h (λ c h. asks h (act.Talk (receiving h.program t c ∷ [])) (Received t ∷ []))
step_work (Received t) h = with_value h (λ ws h. gives h (fitted_to (units_in h.program t) (drop 1 ws)))
step_work (Sends t) h = with_two h (λ c ws h. asks h (act.Talk (sending h.program t (slice_index c 0) ws ∷ [])) (Drop ∷ []))
step_work CanReceives h = with_word h (λ c h. asks h (act.CanRecv c) (Answered ∷ []))
step_work CanSends h = with_word h (λ c h. asks h (act.CanSend c) (Answered ∷ []))
step_work (Allocate t) h = allocates (out-Ty t) h
step_work (Unallocate t) h = with_word h (λ n h. gives_back (out-Ty t) n h)
step_work (StartProc function count) h = with_values count h (λ values h. asks h (act.Proc (record { code = function; words = joined values })) (Answered ∷ []))
step_work (StartTask function count) h = with_values count h (λ values h. asks h (act.Task (record { code = function; words = joined values })) (Answered ∷ []))
step_work (Do s) h = do_statement s h
step_work (Choose chosen other) h = with_value h (λ a h. if is_zero a then starts_other h other else starts h chosen)
step_work Test h = with_value h (λ a h. if is_zero a then traps h trap.Check else moves h)
step_work (WhileTest s) h = with_value h (λ a h. while_test s (is_zero a) h)
step_work (WhileAgain s) h = Turns h.line (control_at (with_items (to_do s ∷ []) h)) h.privates
step_work (DoCondition s) h = do_condition s h
step_work (DoTest s) h = with_value h (λ a h. if is_zero a then moves h else Turns h.line (control_at (with_items (to_do s ∷ []) h)) h.privates)
step_work (ForCondition s) h = for_condition s h
step_work (ForTest s) h = with_value h (λ a h. for_test s (is_zero a) h)
step_work (ForNext s) h = for_next s h
step_work (ForAgain s) h = turns h (ForCondition s ∷ [])
step_work (Bound count value) h = with_values (count + count) h (λ values h. does h (Iterate 0 (bounds_of values) value ∷ []))
step_work (Iterate number bounds value) h = iterate number bounds value h
step_work (NextTurn number b rest value) h = turns h (Iterate number (next_turn b ∷ rest) value ∷ [])
step_work (Select s) h = with_value h (λ ws h. select s (bits_of ws) h)
step_work (AltTalk s) h = alt_asks s h
step_work (AltWent s) h = with_value h (λ ws h. goes_into h (slice_get (cases_of s) (slice_index ws 0)) (drop 1 ws))
step_work CasesEnd h = moves h

-- ---- one step of a task

-- a frame without items is at the end of its body
abbrev pub step_frame : Program → List Item → Frame → List Frame → List ℕ → Next
step_frame p (i ∷ items) f below privates =
    step_work i.work (here p i.line (record f { items = items }) below privates)
step_frame p [] f below privates =
    ends (here p (line_of_name (function_at p f.function)) f below privates) (default_of p (function_at p f.function))

abbrev pub step_frames : Program → Control → List Frame → List ℕ → Next
step_frames p c [] privates = Asks act.End 0 c privates
step_frames p c (f ∷ below) privates = step_frame p f.items f below privates

abbrev pub step_entering : Program → Control → Option Entering → List ℕ → Next
step_entering p c (Some e) privates = enters p e.function e.words c c.frames privates
step_entering p c None privates = step_frames p c c.frames privates

-- A task without frames has ended.
abbrev pub private_step : Program → Control → List ℕ → Next
private_step p c privates = step_entering p c c.entering privates
