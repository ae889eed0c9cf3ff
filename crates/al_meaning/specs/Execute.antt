-- Statements: what an item of theirs does.
use Rattle.std.specs.Prelude.{ℕ, ◌+◌, Bool, true, false, if◌then◌else◌, List, [], ◌∷◌, ◌++◌, map, take, length, slice_index, Option, Some, None, unwrap_or}
use Rattle.std.specs.List.{flat_map}
use Rattle.al_event.specs.declared.act.Act.TheVariants as act
use Rattle.al_event.specs.declared.act.Start.{Start}
use Rattle.al_world.specs.Turns.{Turns}
use Rattle.al_typed.specs.declared.expression.TExpr.{TExpr}
use Rattle.al_typed.specs.declared.expression.TPlace.{TPlace}
use Rattle.al_typed.specs.declared.expression.TPlace.TheVariants as place
use Rattle.al_typed.specs.declared.program.Function.{Function as FunctionRow}
use Rattle.al_typed.specs.declared.statement.TBounds.{TBounds}
use Rattle.al_typed.specs.declared.statement.TInitializer.{TInitializer}
use Rattle.al_typed.specs.declared.statement.TStmt.{TStmt, Empty, Block', Declare, Value, If', Switch', Case, Default, Alt', AltCase, Par, Raise, Goto, Return, Become, Break, Continue, Alloc, Unalloc, Check, Proc, Task, end_of-TStmt, more_of-TStmt}
use Rattle.al_typed.specs.StatementForms as part
use Rattle.al_typed.specs.Typed.{type_of, place_type}
use Rattle.al_meaning.specs.Words.{is_below, sum}
use Rattle.al_meaning.specs.Items.{Bounds, Work, Eval, Find, Answered, Put, InvokeInstead, Returns, Allocate, Unallocate, StartProc, StartTask, Choose, Test, WhileTest, WhileAgain, DoCondition, DoTest, ForCondition, ForTest, ForNext, ForAgain, Bound, Iterate, NextTurn, Select, AltTalk, AltWent, CasesEnd, Item}
use Rattle.al_meaning.specs.Parts.{other_of, item, to_do, statements, behind_bodies, next_of_loop, going_on, behind_case, behind_default, Branching, branchings, first_of_two}
use Rattle.al_meaning.specs.Here.{Here, Next, asks, control_at, does, function_here, lost, moves, with_items, with_values, with_work}
use Rattle.al_meaning.specs.Calls.{call_work, evaluated}
use Rattle.al_meaning.specs.Evaluate.{alt_branches, alt_exprs, and_dropped, communications}

-- ---- statements

-- The items of a jump's target are all that is done in the frame then. No well-typed program jumps to where there are none.
abbrev pub jumps : Here → Option (List Item) → Next
jumps h items = Turns h.line (control_at (record h { frame = record h.frame { items = unwrap_or items [] } })) h.privates

abbrev pub items_from : Option FunctionRow → ℕ → Option (List Item)
items_from (Some f) number = going_on number f.body []
items_from None number = None

abbrev pub target_items : Here → ℕ → Option (List Item)
target_items h number = items_from (function_here h) number

abbrev pub initializer_work : TInitializer → List Work
initializer_work i = Find (place.Local (type_of i.value) i.local) ∷ Eval i.value ∷ Put (type_of i.value) ∷ []

abbrev pub bounds_exprs : List TBounds → List TExpr
bounds_exprs iterators = flat_map (λ (b : TBounds). b.from ∷ b.to ∷ []) iterators

abbrev pub allocation_work : TPlace → List Work
allocation_work place = Find place ∷ Allocate (place_type place) ∷ Put (place_type place) ∷ []

abbrev pub unallocation_work : TExpr → List Work
unallocation_work e = Eval e ∷ Unallocate (type_of e) ∷ []

-- the functions that a par starts, with the addresses of the blocks round them
abbrev pub branch_start : Here → ℕ → Start
branch_start h number = record { code = number; words = h.frame.around ++ h.frame.block ∷ [] }

abbrev pub starts : Here → TStmt → Next
starts h s = moves (with_items (to_do s ∷ []) h)

-- the statement, and then work in the line of the one round it
abbrev pub starts_then : Here → TStmt → List Work → Next
starts_then h s work = moves (with_items (to_do s ∷ map (item h.line) work) h)

abbrev pub starts_other : Here → Option TStmt → Next
starts_other h (Some s) = starts h s
starts_other h None = moves h

abbrev pub optionally : Option TExpr → List Work
optionally (Some e) = and_dropped e
optionally None = []

abbrev pub do_statement : TStmt → Here → Next
do_statement (Empty _) h = moves h
do_statement (Block' _ _ body) h = moves (with_items (statements body) h)
do_statement (Declare _ initializers) h = does h (flat_map initializer_work initializers)
do_statement (Value _ [] value) h = does h (and_dropped value)
do_statement (Value _ (b ∷ bs) value) h = does h (evaluated (bounds_exprs (b ∷ bs)) ++ Bound (length (b ∷ bs)) value ∷ [])
do_statement (part.label _ _ body) h = starts h body
do_statement (If' _ condition _ (more_of-TStmt chosen end_of-TStmt) other) h = does h (Eval condition ∷ Choose chosen (other_of other) ∷ [])
do_statement (part.while_loop line condition body) h = does h (Eval condition ∷ WhileTest (part.while_loop line condition body) ∷ [])
do_statement (part.do_loop line body condition) h = starts_then h body (DoCondition (part.do_loop line body condition) ∷ [])
do_statement (part.for_loop line start condition step body) h =
    does h (optionally start ++ ForCondition (part.for_loop line start condition step body) ∷ [])
do_statement (Switch' line value shape body) h = does h (Eval value ∷ Select (Switch' line value shape body) ∷ [])
do_statement (Case _ _) h = moves h
do_statement Default h = moves h
do_statement (Alt' line shape body) h = does h (evaluated (alt_exprs (communications (branchings body))) ++ AltTalk (Alt' line shape body) ∷ [])
do_statement (AltCase _) h = moves h
do_statement (Par _ branches) h = asks h (act.Par (map (branch_start h) branches)) (Answered ∷ [])
do_statement (part.rescue _ _ _) h = moves h
do_statement (Raise _ rescue) h = jumps h (target_items h rescue)
do_statement (Goto _ label) h = jumps h (target_items h label)
do_statement (Return _ None) h = does h (Returns false ∷ [])
do_statement (Return _ (Some e)) h = does h (Eval e ∷ Returns true ∷ [])
do_statement (Become _ call) h = does h (call_work h.program call InvokeInstead)
do_statement (Break _ levels) h = moves (record h { frame = record h.frame { items = behind_bodies levels h.frame.items } })
do_statement (Continue _ levels) h = moves (record h { frame = record h.frame { items = next_of_loop levels h.frame.items } })
do_statement (Alloc _ places) h = does h (flat_map allocation_work places)
do_statement (Unalloc _ values) h = does h (flat_map unallocation_work values)
do_statement (Check _ value) h = does h (Eval value ∷ Test ∷ [])
do_statement (Proc _ calls) h = does h (flat_map (λ e. call_work h.program e StartProc) calls)
do_statement (Task _ calls) h = does h (flat_map (λ e. call_work h.program e StartTask) calls)

-- ---- loops

abbrev pub while_test : TStmt → Bool → Here → Next
while_test s true h = moves h
while_test (part.while_loop line condition body) false h = starts_then h body (WhileAgain (part.while_loop line condition body) ∷ [])
while_test _ false h = lost h

abbrev pub do_condition : TStmt → Here → Next
do_condition (part.do_loop line body condition) h = does h (Eval condition ∷ DoTest (part.do_loop line body condition) ∷ [])
do_condition _ h = lost h

abbrev pub for_condition : TStmt → Here → Next
for_condition (part.for_loop line start (Some condition) step body) h =
    does h (Eval condition ∷ ForTest (part.for_loop line start (Some condition) step body) ∷ [])
for_condition (part.for_loop line start None step body) h = starts_then h body (ForNext (part.for_loop line start None step body) ∷ [])
for_condition _ h = lost h

abbrev pub for_test : TStmt → Bool → Here → Next
for_test s true h = moves h
for_test (part.for_loop line start condition step body) false h =
    starts_then h body (ForNext (part.for_loop line start condition step body) ∷ [])
for_test _ false h = lost h

abbrev pub for_next : TStmt → Here → Next
for_next (part.for_loop line start condition step body) h =
    does h (optionally step ++ ForAgain (part.for_loop line start condition step body) ∷ [])
for_next _ h = lost h

-- the bounds of iterators, from the values found
abbrev pub bounds_of : List (List ℕ) → List Bounds
bounds_of (a ∷ b ∷ values) = record { from = slice_index a 0; to = slice_index b 0 } ∷ bounds_of values
bounds_of _ = []

-- the iterators from this number on have their bounds: the first goes through its turns, and the others through all of
-- theirs in each
abbrev pub iterate : ℕ → List Bounds → TExpr → Here → Next
iterate number [] value h = does h (and_dropped value)
iterate number (b ∷ rest) value h =
    if is_below b.from b.to
    then moves (with_work (Iterate (number + 1) rest value ∷ NextTurn number b rest value ∷ [])
    (record h { frame = record h.frame { turns = take number h.frame.turns ++ b.from ∷ [] } }))
    else moves h

abbrev pub next_turn : Bounds → Bounds
next_turn b = record b { from = sum b.from 1 }

-- ---- cases

abbrev pub selects : Here → Option (List Item) → Next
selects h (Some items) = moves (with_items (items ++ item h.line CasesEnd ∷ []) h)
selects h None = moves h

abbrev pub select : TStmt → ℕ → Here → Next
select (Switch' _ _ _ body) bits h = selects h (first_of_two (behind_case bits body) (behind_default body))
select _ bits h = lost h

abbrev pub cases_of : TStmt → List Branching
cases_of (Alt' _ _ body) = branchings body
cases_of _ = []

abbrev pub alt_asks : TStmt → Here → Next
alt_asks s h =
    with_values (length (alt_exprs (communications (cases_of s)))) h
    (λ values h. asks h (act.Talk (alt_branches h.program (communications (cases_of s)) values)) (AltWent s ∷ []))
