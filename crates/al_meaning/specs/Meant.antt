-- The meaning of statements and functions, told the answers.
use Rattle.std.specs.Prelude.{ℕ, zero, suc, ◌+◌, ◌==◌, nat_lt, true, if◌then◌else◌, List, [], ◌∷◌, ◌++◌, map, take, drop, length, Option, Some, None, slice_get, slice_index}
use Rattle.al_base.specs.declared.trap.Trap.TheVariants as trap
use Rattle.al_event.specs.declared.act.Act.{Act}
use Rattle.al_event.specs.declared.act.Act.TheVariants as act
use Rattle.al_event.specs.declared.act.Block.TheVariants.{Heap, Frame as FrameBlock}
use Rattle.al_event.specs.declared.act.Start.{Start}
use Rattle.al_typed.specs.declared.ty.Ty.{Ty, out-Ty}
use Rattle.al_typed.specs.declared.ty.Ty.TheOpen.{Ty-F}
use Rattle.al_typed.specs.declared.expression.TExpr.{TExpr, Call'}
use Rattle.al_typed.specs.declared.expression.TPlace.{TPlace}
use Rattle.al_typed.specs.declared.program.Function.{Function as FunctionRow}
use Rattle.al_typed.specs.declared.program.Local.{Local as LocalRow}
use Rattle.al_typed.specs.declared.program.Program.{Program}
use Rattle.al_typed.specs.declared.statement.TInitializer.{TInitializer}
use Rattle.al_typed.specs.declared.statement.TCommunication.{TCommunication}
use Rattle.al_typed.specs.declared.statement.TCommunication.TheVariants as talk
use Rattle.al_typed.specs.declared.statement.TStmt.{TStmt, Empty, Block', Declare, Value, If', Switch', Case, Default, Alt', AltCase, Par, Raise, Goto, Return, Become, Break, Continue, Alloc, Unalloc, Check, Proc, Task as TaskStmt, Held-TStmt-If-3, Row_of-TStmt, end_of-TStmt, more_of-TStmt}
use Rattle.al_typed.specs.declared.statement.TStmt as stmt
use Rattle.al_typed.specs.StatementForms as part
use Rattle.al_typed.specs.Typed.{type_of, place_type, target_type}
use Rattle.al_meaning.specs.Words.{bits_of, is_zero, truth, is_below, converted, fitted_to}
use Rattle.al_meaning.specs.Places.{function_at, block_size, has_block, words_in}
use Rattle.al_meaning.specs.Items.{Bounds, most_turns}
use Rattle.al_meaning.specs.Parts.{first_of_two}
use Rattle.al_meaning.specs.Here.{size_in, units_in}
use Rattle.al_meaning.specs.Calls.{joined, begun_locals, line_of_name, slots_of, most_slots, default_of}
use Rattle.al_meaning.specs.Evaluate.{leaves_of, alt_branches, alt_exprs}
use Rattle.al_meaning.specs.Execute.{bounds_exprs, bounds_of, next_turn}
use Rattle.al_meaning.specs.Tasks.{Answer, Still, Outcome, Env, Rest, Task, ◌>>=◌, ◌>>◌, give, stuck, leave_to, if_zero, ask_in, stop_in, turn_in, Ways, in_line, asks, traps, a_turn, calls, Unfinished, Stuck}
use Rattle.al_meaning.specs.Told.{value, dropped, save, save_all, local_here, told, found, aimed, told_object, told_all}

-- ---- statements

abbrev pub evaluated : TExpr → Ways → Task (Unit {0})
evaluated e w = do
  o ← told e w
  dropped (type_of e) o

abbrev pub optionally : Option TExpr → Ways → Task (Unit {0})
optionally (Some e) w = evaluated e w
optionally None w = give tt

-- an absent condition holds
abbrev pub condition : Option TExpr → Ways → Task (List ℕ)
condition (Some e) w = value (told e w)
condition None w = give (truth true)

-- the values of a list of expressions
abbrev pub values_of : List TExpr → Ways → Task (List (List ℕ))
values_of [] w = give []
values_of (e ∷ es) w = do
  v ← value (told e w)
  vs ← values_of es w
  give (v ∷ vs)

abbrev pub initialized : List TInitializer → Ways → Task (Unit {0})
initialized [] w = give tt
initialized (i ∷ rest) w = do
  f ← local_here w i.local
  v ← value (told i.value w)
  save w (type_of i.value) v f
  initialized rest w

-- what a call starts: the function and its words
abbrev pub start_of : TExpr → Ways → Task Start
start_of (Call' t function receiver _ arguments) w = do
  object ← told_object receiver w
  values ← told_all arguments w
  give (record { code = function; words = joined (object ++ values) })
start_of _ w = stuck

abbrev pub starts_all : (Start → Act) → List TExpr → Ways → Task (Unit {0})
starts_all how [] w = give tt
starts_all how (e ∷ es) w = do
  start ← start_of e w
  asks w (how start)
  starts_all how es w

abbrev pub new_of : Ways → Ty-F Ty → Task (List ℕ)
new_of w (Ty-F.Pointer to) = asks w (act.Alloc (size_in w.program to) Heap)
new_of w (Ty-F.Chan element capacity) = asks w (act.NewChan capacity (words_in w.program element))
new_of w _ = stuck

abbrev pub allocated : List TPlace → Ways → Task (Unit {0})
allocated [] w = give tt
allocated (place ∷ rest) w = do
  f ← found place w
  words ← new_of w (out-Ty (place_type place))
  save w (place_type place) words f
  allocated rest w

abbrev pub given_back : Ways → Ty-F Ty → ℕ → Task (List ℕ)
given_back w (Ty-F.Chan element capacity) n = asks w (act.FreeChan n)
given_back w _ n = asks w (act.Free n Heap)

abbrev pub unallocated : List TExpr → Ways → Task (Unit {0})
unallocated [] w = give tt
unallocated (e ∷ es) w = do
  v ← value (told e w)
  given_back w (out-Ty (type_of e)) (slice_index v 0)
  unallocated es w

abbrev pub par_starts : List ℕ → Ways → Task (List Start)
par_starts branches w env s next = next (map (λ n. record { code = n; words = env.around ++ env.block ∷ [] }) branches) env s

-- ---- loops

abbrev pub unfinished : {A : Type 0} → Task A
unfinished env s next = Unfinished

-- gives a task what is done after it
abbrev pub knowing_next : (Rest → Task (Unit {0})) → Task (Unit {0})
knowing_next f env s next = f (next tt) env s next

-- the ways in the body of a loop, which goes on behind it or with its next round
abbrev pub in_loop : Rest → Rest → Ways → Ways
in_loop behind again w = record w { behind = behind ∷ w.behind; again = again ∷ w.again }

abbrev pub in_cases : Rest → Ways → Ways
in_cases behind w = record w { behind = behind ∷ w.behind }

-- a task as what goes on: then `next` is done
abbrev pub then_next : Task (Unit {0}) → Rest → Rest
then_next m next env s = m env s (λ _. next)

-- `while`, with at most n rounds, before `next`
abbrev pub while_rounds : ℕ → Task (List ℕ) → (Ways → Task (Unit {0})) → Ways → Rest → Rest
while_rounds zero test body w next env s = Unfinished
while_rounds (suc n) test body w next env s = test env s (λ v env s.
    if is_zero v then next env s
    else (let again = then_next (a_turn w) (while_rounds n test body w next) in body (in_loop next again w) env s (λ _. again)))

-- `do`: its body, and then the condition; a round more is a turn
abbrev pub do_rounds : ℕ → Task (List ℕ) → (Ways → Task (Unit {0})) → Ways → Rest → Rest
do_rounds zero test body w next env s = Unfinished
do_rounds (suc n) test body w next env s =
    let again : Rest = λ env s. test env s (λ v env s. if is_zero v then next env s else then_next (a_turn w) (do_rounds n test body w next) env s) in
    body (in_loop next again w) env s (λ _. again)

-- `for` behind its start
abbrev pub for_rounds : ℕ → Task (List ℕ) → Task (Unit {0}) → (Ways → Task (Unit {0})) → Ways → Rest → Rest
for_rounds zero test step body w next env s = Unfinished
for_rounds (suc n) test step body w next env s = test env s (λ v env s.
    if is_zero v then next env s
    else (let again = then_next step (then_next (a_turn w) (for_rounds n test step body w next)) in body (in_loop next again w) env s (λ _. again)))

abbrev pub set_turn : ℕ → ℕ → Task (Unit {0})
set_turn number at env s next = next tt (record env { turns = take number env.turns ++ at ∷ [] }) s

-- an iterator's turns, at most n of them, in each of which this is done
abbrev pub turns_of : ℕ → ℕ → Bounds → Ways → Task (Unit {0}) → Task (Unit {0})
turns_of zero number b w body = unfinished
turns_of (suc n) number b w body = if is_below b.from b.to
    then (do set_turn number b.from; body; a_turn w; turns_of n number (next_turn b) w body)
    else give tt

-- iterators from this number on
abbrev pub iterated : ℕ → ℕ → List Bounds → Ways → Task (Unit {0}) → Task (Unit {0})
iterated n number [] w body = body
iterated n number (b ∷ rest) w body = turns_of n number b w (iterated n (number + 1) rest w body)

-- ---- jumps

abbrev pub rest_at : ℕ → List Rest → Rest
rest_at zero rests env s = Stuck
rest_at (suc n) [] env s = Stuck
rest_at (suc zero) (r ∷ rests) env s = r env s
rest_at (suc (suc n)) (r ∷ rests) env s = rest_at (suc n) rests env s

abbrev pub jumps_to : Ways → ℕ → Task (Unit {0})
jumps_to w number = do
  a_turn w
  leave_to (w.jump number)

-- a part of a statement that is gone through from somewhere inside it
abbrev pub Part : Type 0
Part = Ways → Task (Unit {0})

abbrev pub then_part : Option Part → Part → Option Part
then_part None rest = None
then_part (Some m) rest = Some (λ w. m w >> rest w)

abbrev pub inside : (Part → Part) → Option Part → Option Part
inside f None = None
inside f (Some m) = Some (f m)

-- ---- alts

-- a case of an alt, with what is done behind it
pub record Branching : Type 0 where
  pub communication : TCommunication
  pub body : Part

abbrev pub communications : List Branching → List TCommunication
communications cases = map (λ (b : Branching). b.communication) cases

-- what the case that went does with what it received
abbrev pub went : TCommunication → List ℕ → Part
went (talk.ReceiveInto t target chan) words w = do
  places ← aimed target w
  save_all w (leaves_of target) places (converted w.program.aggregates t (target_type target) (fitted_to (units_in w.program t) words))
went _ words w = give tt

abbrev pub went_on : Option Branching → List ℕ → Part
went_on (Some b) words w = do
  went b.communication words w
  b.body w
went_on None words w = stuck

-- an alt before `next`
abbrev pub alternated : List Branching → Ways → Rest → Rest
alternated cases w next env s =
    values_of (alt_exprs (communications cases)) w env s (λ values env s.
    asks w (act.Talk (alt_branches w.program (communications cases) values)) env s (λ words env s.
    went_on (slice_get cases (slice_index words 0)) (drop 1 words) (in_cases next w) env s (λ _. next)))

-- the body of a switch from the case that was selected, before `next`
abbrev pub selected : Option Part → Ways → Rest → Rest
selected (Some m) w next env s = m (in_cases next w) env s (λ _. next)
selected None w next env s = next env s

-- ---- statements

abbrev mutual
  -- a statement, with at most n rounds of each loop
  pub meant : TStmt → ℕ → Part
  meant (Empty _) n w = give tt
  meant (Block' _ _ body) n w = meant_all body n w
  meant (Declare line initializers) n w = initialized initializers (in_line line w)
  meant (Value line iterators e) n w = do
    values ← values_of (bounds_exprs iterators) (in_line line w)
    iterated n 0 (bounds_of values) (in_line line w) (evaluated e (in_line line w))
  meant (part.label _ _ body) n w = meant body n w
  meant (If' line test _ (more_of-TStmt chosen end_of-TStmt) other) n w = do
    v ← value (told test (in_line line w))
    if_zero v (meant_other other n w) (meant chosen n w)
  meant (part.while_loop line test body) n w =
      knowing_next (λ next. leave_to (while_rounds n (value (told test (in_line line w))) (meant body n) (in_line line w) next))
  meant (part.do_loop line body test) n w =
      knowing_next (λ next. leave_to (do_rounds n (value (told test (in_line line w))) (meant body n) (in_line line w) next))
  meant (part.for_loop line start test step body) n w = knowing_next (λ next. do
    optionally start (in_line line w)
    leave_to (for_rounds n (condition test (in_line line w)) (optionally step (in_line line w)) (meant body n) (in_line line w) next))
  meant (Switch' line e _ body) n w = knowing_next (λ next. do
    v ← value (told e (in_line line w))
    leave_to (selected (first_of_two (part_of_case (bits_of v) body n) (part_of_default body n)) (in_line line w) next))
  meant (Case _ _) n w = give tt
  meant Default n w = give tt
  meant (Alt' line _ body) n w = knowing_next (λ next. leave_to (alternated (branchings body n) (in_line line w) next))
  meant (AltCase _) n w = give tt
  meant (Par line branches) n w = do
    starts ← par_starts branches w
    asks (in_line line w) (act.Par starts)
    give tt
  meant (part.rescue _ _ _) n w = give tt
  meant (Raise line rescue) n w = jumps_to (in_line line w) rescue
  meant (Goto line label) n w = jumps_to (in_line line w) label
  meant (Return line None) n w = leave_to (w.return line None)
  meant (Return line (Some e)) n w = do
    v ← value (told e (in_line line w))
    leave_to (w.return line (Some v))
  meant (Become line call) n w = do
    start ← start_of call (in_line line w)
    leave_to (w.become line start.code start.words)
  meant (Break _ levels) n w = leave_to (rest_at levels w.behind)
  meant (Continue _ levels) n w = leave_to (rest_at levels w.again)
  meant (Alloc line places) n w = allocated places (in_line line w)
  meant (Unalloc line values) n w = unallocated values (in_line line w)
  meant (Check line e) n w = do
    v ← value (told e (in_line line w))
    if_zero v (traps (in_line line w) trap.Check) (give tt)
  meant (Proc line calls) n w = starts_all act.Proc calls (in_line line w)
  meant (TaskStmt line calls) n w = starts_all act.Task calls (in_line line w)

  pub meant_other : Held-TStmt-If-3 → ℕ → Part
  meant_other stmt.None' n w = give tt
  meant_other (stmt.Some' _ (more_of-TStmt other end_of-TStmt)) n w = meant other n w

  pub meant_all : {m : _} → Row_of-TStmt m → ℕ → Part
  meant_all end_of-TStmt n w = give tt
  meant_all (more_of-TStmt s rest) n w = do
    meant s n w
    meant_all rest n w

  -- what stands behind the case of a switch with these bits, and behind its default
  pub part_of_case : ℕ → {m : _} → Row_of-TStmt m → ℕ → Option Part
  part_of_case bits end_of-TStmt n = None
  part_of_case bits (more_of-TStmt (Case _ label) rest) n =
      if label == bits then Some (meant_all rest n) else part_of_case bits rest n
  part_of_case bits (more_of-TStmt s rest) n = part_of_case bits rest n

  pub part_of_default : {m : _} → Row_of-TStmt m → ℕ → Option Part
  part_of_default end_of-TStmt n = None
  part_of_default (more_of-TStmt Default rest) n = Some (meant_all rest n)
  part_of_default (more_of-TStmt s rest) n = part_of_default rest n

  -- the cases of an alt
  pub branchings : {m : _} → Row_of-TStmt m → ℕ → List Branching
  branchings end_of-TStmt n = []
  branchings (more_of-TStmt (AltCase c) rest) n = record { communication = c; body = meant_all rest n } ∷ branchings rest n
  branchings (more_of-TStmt s rest) n = branchings rest n

-- ---- from a label on

-- the rest of a round of a loop, and then its other rounds
abbrev pub rest_of_round : (Ways → Rest → Rest) → Part → Part
rest_of_round again_by m w env s next = m (in_loop (next tt) (again_by w (next tt)) w) env s (λ _. again_by w (next tt))

abbrev pub rest_of_cases : Part → Part
rest_of_cases m w env s next = m (in_cases (next tt) w) env s next

abbrev pub again_while : ℕ → ℕ → TExpr → TStmt → Ways → Rest → Rest
again_while n line test body w next =
    then_next (a_turn (in_line line w)) (while_rounds n (value (told test (in_line line w))) (meant body n) (in_line line w) next)

abbrev pub again_do : ℕ → ℕ → TStmt → TExpr → Ways → Rest → Rest
again_do n line body test w next env s = value (told test (in_line line w)) env s (λ v env s.
    if is_zero v then next env s
    else then_next (a_turn (in_line line w)) (do_rounds n (value (told test (in_line line w))) (meant body n) (in_line line w) next) env s)

abbrev pub again_for : ℕ → ℕ → Option TExpr → Option TExpr → TStmt → Ways → Rest → Rest
again_for n line test step body w next =
    then_next (optionally step (in_line line w)) (then_next (a_turn (in_line line w))
    (for_rounds n (condition test (in_line line w)) (optionally step (in_line line w)) (meant body n) (in_line line w) next))

abbrev mutual
  -- what a statement does from the label or rescue of that number on, where it stands in it
  pub part_from : ℕ → TStmt → ℕ → Option Part
  part_from l (Block' _ _ body) n = part_from_row l body n
  part_from l (part.label line number body) n =
      if number == l then Some (meant (part.label line number body) n) else part_from l body n
  part_from l (If' _ _ _ (more_of-TStmt chosen end_of-TStmt) other) n = first_of_two (part_from l chosen n) (part_from_other l other n)
  part_from l (part.while_loop line test body) n = inside (rest_of_round (again_while n line test body)) (part_from l body n)
  part_from l (part.do_loop line body test) n = inside (rest_of_round (again_do n line body test)) (part_from l body n)
  part_from l (part.for_loop line start test step body) n = inside (rest_of_round (again_for n line test step body)) (part_from l body n)
  part_from l (Switch' _ _ _ body) n = inside rest_of_cases (part_from_row l body n)
  part_from l (Alt' _ _ body) n = inside rest_of_cases (part_from_row l body n)
  part_from l (part.rescue _ number body) n = if number == l then Some (meant body n) else part_from l body n
  part_from l _ n = None

  pub part_from_other : ℕ → Held-TStmt-If-3 → ℕ → Option Part
  part_from_other l stmt.None' n = None
  part_from_other l (stmt.Some' _ (more_of-TStmt other end_of-TStmt)) n = part_from l other n

  pub part_from_row : ℕ → {m : _} → Row_of-TStmt m → ℕ → Option Part
  part_from_row l end_of-TStmt n = None
  part_from_row l (more_of-TStmt s rest) n = first_of_two (then_part (part_from l s n) (meant_all rest n)) (part_from_row l rest n)

-- ---- functions

-- what is done with the value of a function
abbrev pub Given : Type 0
Given = Option (List ℕ) → Still → Outcome

-- the shared block is given back
abbrev pub freed : ℕ → List LocalRow → ℕ → Still → (Still → Outcome) → Outcome
freed line locals block s next = if has_block locals then ask_in line (act.Free block FrameBlock) s (λ _ s. next s) else next s

-- a function returns: its block, its turn, and then its value
abbrev pub returned : List LocalRow → Given → ℕ → Option (List ℕ) → Rest
returned locals next line given env s = freed line locals env.block s (λ s. turn_in line s (λ s. next given s))

abbrev pub become_in : List LocalRow → (ℕ → List ℕ → Still → Given → Outcome) → Given → ℕ → ℕ → List ℕ → Rest
become_in locals call next line function words env s = freed line locals env.block s (λ s. turn_in line s (λ s. call function words s next))

abbrev pub jumped : Option Part → Ways → Rest → Rest
jumped None w next env s = Stuck
jumped (Some m) w next env s = m w env s (λ _. next)

-- where the labels of a function's body lead, of at most so many jumps
abbrev pub jumps : ℕ → TStmt → ℕ → Ways → Rest → ℕ → Rest
jumps zero body n w next l env s = Unfinished
jumps (suc m) body n w next l env s = jumped (part_from l body n) (record w { jump = jumps m body n w next }) next env s

-- the stores of the parameters that lie in the shared block, the first of which has this number
abbrev pub store_parameters : (number count : ℕ) → List LocalRow → List ℕ → Part
store_parameters number zero ls words w = give tt
store_parameters number (suc n) [] words w = give tt
store_parameters number (suc n) (l ∷ ls) words w = do
  (if l.is_shared
      then (do f ← local_here w number; save w l.ty (fitted_to (units_in w.program l.ty) (take (words_in w.program l.ty) words)) f)
      else give tt)
  store_parameters (number + 1) n ls (drop (words_in w.program l.ty) words) w

abbrev pub take_block : ℕ → Program → List LocalRow → Still → (ℕ → Still → Outcome) → Outcome
take_block line p locals s next =
    if has_block locals then ask_in line (act.Alloc (block_size p locals) FrameBlock) s (λ words s. next (slice_index words 0) s) else next 0 s

-- a function's body, once it has its block
abbrev pub body_meant : Program → ℕ → FunctionRow → ℕ → List ℕ → Ways → Rest → Rest
body_meant p n f block words w next env s =
    (store_parameters 0 f.parameters f.locals words (in_line f.line w) >> meant f.body n w) env s (λ _. next)

-- a function that begins with these words. It calls functions above it by `call`, and in its place by `instead`.
abbrev pub function_meant : Program → ℕ → (call instead : ℕ → List ℕ → Still → Given → Outcome) → ℕ → FunctionRow → List ℕ → Still → Given → Outcome
function_meant p n call instead number f words s next =
    take_block f.line p f.locals s (λ block s.
    let behind : Rest = returned f.locals next f.line (default_of p (Some f)) in
    let w : Ways = record {
      program = p;
      function = number;
      line = f.line;
      call = call;
      jump = λ l env s. Stuck;
      behind = [];
      again = [];
      return = returned f.locals next;
      become = become_in f.locals instead next;
    } in
    let env : Env = record { locals = begun_locals p f.parameters f.locals words; block = block; around = take (length f.around) words; turns = [] } in
    body_meant p n f block words (record w { jump = jumps n f.body n w behind }) behind env s)

abbrev pub function_or_stuck : Program → ℕ → (call instead : ℕ → List ℕ → Still → Given → Outcome) → ℕ → Option FunctionRow → List ℕ → Still → Given → Outcome
function_or_stuck p n call instead number (Some f) words s next = function_meant p n call instead number f words s next
function_or_stuck p n call instead number None words s next = Stuck

-- a call of a function above others that take so many words of the stack, at most n calls deep
abbrev pub called : Program → ℕ → ℕ → ℕ → List ℕ → Still → Given → Outcome
called p zero below number words s next = Unfinished
called p (suc n) below number words s next =
    if nat_lt most_slots (below + slots_of p (function_at p number))
    then stop_in (line_of_name (function_at p number)) (act.Trap trap.Stack) s
    else function_or_stuck p n (called p n (below + slots_of p (function_at p number))) (called p n below) number (function_at p number) words s next

-- What a task that starts so asks after these answers, where each of its loops is gone round at most n times, calls are at
-- most n deep, and so on. Without frames it asks its end.
abbrev pub task_told : Program → ℕ → Start → List ℕ → List Answer → Outcome
task_told p n start privates answers =
    function_or_stuck p n (called p n (slots_of p (function_at p start.code))) (called p n 0) start.code (function_at p start.code) start.words
    (record { left = most_turns; privates = privates; answers = answers })
    (λ _ s. stop_in 0 act.End s)
