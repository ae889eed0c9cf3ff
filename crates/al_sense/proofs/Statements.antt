-- What statements, functions and tasks ask is real.
use Rattle.std.proofs.Common.{ℕ, zero, suc, ◌+◌, List, [], ◌∷◌, take, drop, Option, Some, None}
use Rattle.std.specs.Prelude.{◌≢◌, Bool, true, false, ◌==◌, nat_lt, if◌then◌else◌, slice_get, slice_index}
use Rattle.al_base.specs.declared.trap.Trap.TheVariants as trap
use Rattle.al_event.specs.declared.act.Act.{Act}
use Rattle.al_event.specs.declared.act.Act.TheVariants as act
use Rattle.al_event.specs.declared.act.Start.{Start}
use Rattle.al_typed.specs.declared.ty.Ty.{Ty, out-Ty}
use Rattle.al_typed.specs.declared.ty.Ty.TheOpen.{Ty-F}
use Rattle.al_typed.specs.declared.expression.TExpr.{TExpr, Call'}
use Rattle.al_typed.specs.declared.expression.TPlace.{TPlace}
use Rattle.al_typed.specs.declared.program.Function.{Function as FunctionRow}
use Rattle.al_typed.specs.declared.program.Local.{Local as LocalRow}
use Rattle.al_typed.specs.declared.program.Program.{Program}
use Rattle.al_typed.specs.declared.statement.TInitializer.{TInitializer}
use Rattle.al_typed.specs.declared.statement.TCommunication.{TCommunication}
use Rattle.al_typed.specs.declared.statement.TCommunication.TheVariants as talk
use Rattle.al_typed.specs.declared.statement.TStmt.{TStmt, Empty, Block', Declare, Value, If', Switch', Case, Default, Alt', AltCase, Par, Raise, Goto, Return, Become, Break, Continue, Alloc, Unalloc, Check, Proc, Task as TaskStmt, Held-TStmt-If-3, Row_of-TStmt, end_of-TStmt, more_of-TStmt}
use Rattle.al_typed.specs.declared.statement.TStmt as stmt
use Rattle.al_typed.specs.StatementForms as part
use Rattle.al_typed.specs.Types.{is_void}
use Rattle.al_typed.specs.Typed.{type_of, place_type}
use Rattle.al_meaning.specs.Words.{bits_of, is_zero, is_below, fitted_to}
use Rattle.al_meaning.specs.Places.{function_at, has_block, words_in}
use Rattle.al_meaning.specs.Items.{Bounds}
use Rattle.al_meaning.specs.Parts.{first_of_two}
use Rattle.al_meaning.specs.Here.{units_in}
use Rattle.al_meaning.specs.Calls.{default_of, slots_of, most_slots}
use Rattle.al_meaning.specs.Evaluate.{leaves_of, local_found, alt_branches, alt_exprs}
use Rattle.al_meaning.specs.Execute.{bounds_exprs, bounds_of, next_turn}
use Rattle.al_meaning.specs.Tasks.{Answer, Env, Still, Outcome, Stuck, Rest, Task, ◌>>=◌, ◌>>◌, give, Ways, in_line, a_turn, traps, ask_in, stop_in}
use Rattle.al_meaning.specs.Told.{value, told, save, local_here}
use Rattle.al_meaning.specs.Meant.{Part, Given, Branching, communications, meant, meant_other, meant_all, evaluated, optionally, condition, values_of, initialized, start_of, starts_all, new_of, allocated, given_back, unallocated, then_next, in_loop, in_cases, while_rounds, do_rounds, for_rounds, set_turn, turns_of, iterated, rest_at, then_part, inside, went, went_on, alternated, selected, part_of_case, part_of_default, branchings, rest_of_round, rest_of_cases, again_while, again_do, again_for, part_from, part_from_other, part_from_row, freed, returned, become_in, jumped, jumps, store_parameters, body_meant, function_meant, function_or_stuck, called, task_told}
use Rattle.al_sense.specs.Sense.{IsReal, illegal}
use Rattle.al_sense.proofs.Expressions.{Real, stuck_real, unfinished_real, ask_real, stop_real, turn_real, CallsReal, if_real, val, drop_real, save_real, saves_real, expr_real, place_real, aim_real, object_real, all_real}

-- what goes on so asks what is real
abbrev pub Good : Rest → Type 0
Good next = (env : Env) (s : Still) → Real (next env s)

either : (b : Bool) (x y : Outcome) → Real x → Real y → Real (if b then x else y)
either true x y p q = p
either false x y p q = q

-- all ways out of a statement go on so
record GoWell (w : Ways) : Type 0 where
  calls : CallsReal w.call
  jump : (label : ℕ) → Good (w.jump label)
  return : (line : ℕ) (o : Option (List ℕ)) → Good (w.return line o)
  become : (line function : ℕ) (words : List ℕ) → Good (w.become line function words)
  behind : (levels : ℕ) → Good (rest_at levels w.behind)
  again : (levels : ℕ) → Good (rest_at levels w.again)

rest_good : (levels : ℕ) (r : Rest) (rests : List Rest) → Good r → ((levels : ℕ) → Good (rest_at levels rests)) → Good (rest_at levels (r ∷ rests))
rest_good zero r rests h g env s = stuck_real
rest_good (suc zero) r rests h g env s = h env s
rest_good (suc (suc m)) r rests h g env s = g (suc m) env s

round_loop : (line : ℕ) (w : Ways) (next repeat : Rest) → GoWell w → Good next → Good repeat → GoWell (in_loop next repeat (in_line line w))
round_loop line w next repeat e h g = record {
  calls = e.calls;
  jump = e.jump;
  return = e.return;
  become = e.become;
  behind = λ levels. rest_good levels next w.behind h e.behind;
  again = λ levels. rest_good levels repeat w.again g e.again;
}

round_cases : (line : ℕ) (w : Ways) (next : Rest) → GoWell w → Good next → GoWell (in_cases next (in_line line w))
round_cases line w next e h = record {
  calls = e.calls;
  jump = e.jump;
  return = e.return;
  become = e.become;
  behind = λ levels. rest_good levels next w.behind h e.behind;
  again = e.again;
}

-- ---- the parts of statements

module _ (w : Ways) (calls_real : CallsReal w.call) where
  abbrev Fine : {A : Type 0} → (A → Rest) → Type 0
  Fine {A} next = (a : A) (env : Env) (s : Still) → Real (next a env s)

  value_real : (e : TExpr) (env : Env) (s : Still) (next : List ℕ → Rest) → Fine next → Real (value (told e w) env s next)
  value_real e env s next h = expr_real w calls_real e env s _ (val w next h)

  evaluated_real : (e : TExpr) (env : Env) (s : Still) (next : Unit {0} → Rest) → Fine next → Real (evaluated e w env s next)
  evaluated_real e env s next h = expr_real w calls_real e env s _ (λ o env s. drop_real w (is_void (type_of e)) o env s next (h tt env s))

  optionally_real : (o : Option TExpr) (env : Env) (s : Still) (next : Unit {0} → Rest) → Fine next → Real (optionally o w env s next)
  optionally_real None env s next h = h tt env s
  optionally_real (Some e) env s next h = evaluated_real e env s next h

  condition_real : (o : Option TExpr) (env : Env) (s : Still) (next : List ℕ → Rest) → Fine next → Real (condition o w env s next)
  condition_real None env s next h = h _ env s
  condition_real (Some e) env s next h = value_real e env s next h

  values_real : (es : List TExpr) (env : Env) (s : Still) (next : List (List ℕ) → Rest) → Fine next → Real (values_of es w env s next)
  values_real [] env s next h = h _ env s
  values_real (e ∷ es) env s next h = value_real e env s _ (λ v env s. values_real es env s _ (λ vs env s. h _ env s))

  initialized_real : (is : List TInitializer) (env : Env) (s : Still) (next : Unit {0} → Rest) → Fine next → Real (initialized is w env s next)
  initialized_real [] env s next h = h tt env s
  initialized_real (i ∷ rest) env s next h = value_real i.value env s _ (λ v env s. save_real w _ _ _ env s _ (λ a env s. initialized_real rest env s next h))

  start_real : (e : TExpr) (env : Env) (s : Still) (next : Start → Rest) → Fine next → Real (start_of e w env s next)
  start_real (Call' t function receiver _ arguments) env s next h =
      object_real w calls_real receiver env s _ (λ os env s. all_real w calls_real arguments env s _ (λ vs env s. h _ env s))
  start_real _ env s next h = stuck_real

  starts_real : (how : Start → Act) → ((start : Start) → how start ≢ illegal) → (es : List TExpr) (env : Env) (s : Still) (next : Unit {0} → Rest) → Fine next → Real (starts_all how es w env s next)
  starts_real how r [] env s next h = h tt env s
  starts_real how r (e ∷ es) env s next h = start_real e env s _ (λ st env s. ask_real (how st) w.line s _ (r st) (λ v s. starts_real how r es env s next h))

  new_real : (t : Ty-F Ty) (env : Env) (s : Still) (next : List ℕ → Rest) → Fine next → Real (new_of w t env s next)
  new_real (Ty-F.Pointer to) env s next h = ask_real _ w.line s _ (λ e. absurd (cc e)) (λ v s. h v env s)
  new_real (Ty-F.Chan element capacity) env s next h = ask_real _ w.line s _ (λ e. absurd (cc e)) (λ v s. h v env s)
  new_real _ env s next h = stuck_real

  allocated_real : (places : List TPlace) (env : Env) (s : Still) (next : Unit {0} → Rest) → Fine next → Real (allocated places w env s next)
  allocated_real [] env s next h = h tt env s
  allocated_real (of ∷ rest) env s next h =
      place_real w calls_real of env s _ (λ f env s. new_real (out-Ty (place_type of)) env s _ (λ v env s.
      save_real w (place_type of) v f env s _ (λ a env s. allocated_real rest env s next h)))

  back_real : (t : Ty-F Ty) (m : ℕ) (env : Env) (s : Still) (next : List ℕ → Rest) → Fine next → Real (given_back w t m env s next)
  back_real (Ty-F.Chan element capacity) m env s next h = ask_real _ w.line s _ (λ e. absurd (cc e)) (λ v s. h v env s)
  back_real _ m env s next h = ask_real _ w.line s _ (λ e. absurd (cc e)) (λ v s. h v env s)

  unallocated_real : (es : List TExpr) (env : Env) (s : Still) (next : Unit {0} → Rest) → Fine next → Real (unallocated es w env s next)
  unallocated_real [] env s next h = h tt env s
  unallocated_real (e ∷ es) env s next h =
      value_real e env s _ (λ v env s. back_real (out-Ty (type_of e)) _ env s _ (λ v env s. unallocated_real es env s next h))

  went_real : (c : TCommunication) (words : List ℕ) (env : Env) (s : Still) (next : Unit {0} → Rest) → Fine next → Real (went c words w env s next)
  went_real (talk.ReceiveInto t target chan) words env s next h =
      aim_real w calls_real target env s _ (λ places env s. saves_real w (leaves_of target) places _ env s next h)
  went_real (talk.Receive t chan) words env s next h = h tt env s
  went_real (talk.Send chan e) words env s next h = h tt env s

  turns_of_real : (j number : ℕ) (b : Bounds) (inner : Task (Unit {0}))
      → ((env : Env) (s : Still) (next : Unit {0} → Rest) → Good (next tt) → Real (inner env s next))
      → (env : Env) (s : Still) (next : Unit {0} → Rest) → Good (next tt) → Real (turns_of j number b w inner env s next)
  turns_of_real zero number b inner inner_real env s next h = unfinished_real
  turns_of_real (suc j) number b inner inner_real env s next h =
      if_real w (is_below b.from b.to) (set_turn number b.from >> inner >> a_turn w >> turns_of j number (next_turn b) w inner) (give tt) env s next
      (inner_real _ s _ (λ env s. turn_real w.line s _ (λ s. turns_of_real j number (next_turn b) inner inner_real env s next h)))
      (h env s)

  iterated_real : (n number : ℕ) (bounds : List Bounds) (e : TExpr) (env : Env) (s : Still) (next : Unit {0} → Rest) → Good (next tt) → Real (iterated n number bounds w (evaluated e w) env s next)
  iterated_real n number [] e env s next h = evaluated_real e env s next (λ a. h)
  iterated_real n number (b ∷ rest) e env s next h =
      turns_of_real n number b (iterated n (number + 1) rest w (evaluated e w)) (λ env s next h. iterated_real n (number + 1) rest e env s next h) env s next h

-- ---- loops

abbrev PartReal : Part → Type 0
PartReal m = (w : Ways) (env : Env) (s : Still) (next : Unit {0} → Rest) → GoWell w → Good (next tt) → Real (m w env s next)

module _ (line : ℕ) (w : Ways) (next : Rest) (e : GoWell w) (h : Good next) where
  abbrev here : Ways
  here = in_line line w

  module _ (test : TExpr) (m : Part) (m_real : PartReal m) where
    while_real : (j : ℕ) → Good (while_rounds j (value (told test here)) m here next)
    while_real zero env s = unfinished_real
    while_real (suc j) env s =
        let again : Rest = then_next (a_turn here) (while_rounds j (value (told test here)) m here next) in
        let again_good : Good again = λ env s. turn_real line s _ (λ s. while_real j env s) in
        value_real here e.calls test env s _ (λ v env s. either (is_zero v) _ _ (h env s)
        (m_real (in_loop next again here) env s (λ _. again) (round_loop line w next again e h again_good) again_good))

    while_again_real : (j : ℕ) → Good (then_next (a_turn here) (while_rounds j (value (told test here)) m here next))
    while_again_real j env s = turn_real line s _ (λ s. while_real j env s)

    abbrev again_by_do : ℕ → Rest
    again_by_do j env s = value (told test here) env s (λ v env s. if is_zero v then next env s else then_next (a_turn here) (do_rounds j (value (told test here)) m here next) env s)

    do_again_good : (j : ℕ) → Good (do_rounds j (value (told test here)) m here next) → Good (again_by_do j)
    do_again_good j g env s = value_real here e.calls test env s _ (λ v env s. either (is_zero v) _ _ (h env s) (turn_real line s _ (λ s. g env s)))

    do_real : (j : ℕ) → Good (do_rounds j (value (told test here)) m here next)
    do_real zero env s = unfinished_real
    do_real (suc j) env s =
        let again_good : Good (again_by_do j) = do_again_good j (do_real j) in
        m_real (in_loop next (again_by_do j) here) env s (λ _. again_by_do j) (round_loop line w next (again_by_do j) e h again_good) again_good

    do_again_real : (j : ℕ) → Good (again_by_do j)
    do_again_real j = do_again_good j (do_real j)

  module _ (test step : Option TExpr) (m : Part) (m_real : PartReal m) where
    abbrev rounds : ℕ → Rest
    rounds j = for_rounds j (condition test here) (optionally step here) m here next

    abbrev again_by_for : ℕ → Rest
    again_by_for j = then_next (optionally step here) (then_next (a_turn here) (rounds j))

    for_again_good : (j : ℕ) → Good (rounds j) → Good (again_by_for j)
    for_again_good j g env s = optionally_real here e.calls step env s _ (λ a env s. turn_real line s _ (λ s. g env s))

    for_real : (j : ℕ) → Good (rounds j)
    for_real zero env s = unfinished_real
    for_real (suc j) env s =
        let again_good : Good (again_by_for j) = for_again_good j (for_real j) in
        condition_real here e.calls test env s _ (λ v env s. either (is_zero v) _ _ (h env s)
        (m_real (in_loop next (again_by_for j) here) env s (λ _. again_by_for j) (round_loop line w next (again_by_for j) e h again_good) again_good))

    for_again_real : (j : ℕ) → Good (again_by_for j)
    for_again_real j = for_again_good j (for_real j)

-- ---- statements

abbrev PartRealIfAny : Option Part → Type 0
PartRealIfAny None = Unit {0}
PartRealIfAny (Some m) = PartReal m

abbrev BranchReal : Option Branching → Type 0
BranchReal None = Unit {0}
BranchReal (Some b) = PartReal b.body

first_real : (a c : Option Part) → PartRealIfAny a → PartRealIfAny c → PartRealIfAny (first_of_two a c)
first_real None c x y = y
first_real (Some m) c x y = x

selected_real : (o : Option Part) → PartRealIfAny o → (line : ℕ) (w : Ways) (next : Rest) → GoWell w → Good next → Good (selected o (in_line line w) next)
selected_real None x line w next e h env s = h env s
selected_real (Some m) x line w next e h env s = x (in_cases next (in_line line w)) env s (λ _. next) (round_cases line w next e h) h

went_on_real : (o : Option Branching) → BranchReal o → (words : List ℕ) (line : ℕ) (w : Ways) (next : Rest) → GoWell w → Good next
    → Good (λ env s. went_on o words (in_cases next (in_line line w)) env s (λ _. next))
went_on_real None x words line w next e h env s = stuck_real
went_on_real (Some b) x words line w next e h env s =
    went_real (in_cases next (in_line line w)) e.calls b.communication words env s _
    (λ a env s. x (in_cases next (in_line line w)) env s (λ _. next) (round_cases line w next e h) h)

alt_real : (cases : List Branching) → ((i : ℕ) → BranchReal (slice_get cases i)) → (line : ℕ) (w : Ways) (next : Rest) → GoWell w → Good next → Good (alternated cases (in_line line w) next)
alt_real cases x line w next e h env s =
    values_real (in_line line w) e.calls (alt_exprs (communications cases)) env s
    (λ values env s. ask_in line (act.Talk (alt_branches w.program (communications cases) values)) s (λ words s. went_on (slice_get cases (slice_index words 0)) (drop 1 words) (in_cases next (in_line line w)) env s (λ _. next)))
    (λ values env s. ask_real (act.Talk (alt_branches w.program (communications cases) values)) line s
    (λ words s. went_on (slice_get cases (slice_index words 0)) (drop 1 words) (in_cases next (in_line line w)) env s (λ _. next)) (λ e. absurd (cc e))
    (λ words s. went_on_real (slice_get cases (slice_index words 0)) (x (slice_index words 0)) (drop 1 words) line w next e h env s))

module _ (n : ℕ) where
  mutual
    meant_real : (a : TStmt) (w : Ways) (env : Env) (s : Still) (next : Unit {0} → Rest) → GoWell w → Good (next tt) → Real (meant a n w env s next)
    meant_real (Empty line) w env s next e h = h env s
    meant_real (Block' line _ body) w env s next e h = all_meant_real body w env s next e h
    meant_real (Declare line is) w env s next e h = initialized_real (in_line line w) e.calls is env s next (λ a. h)
    meant_real (Value line iterators x) w env s next e h =
        values_real (in_line line w) e.calls (bounds_exprs iterators) env s _ (λ vs env s. iterated_real (in_line line w) e.calls n 0 (bounds_of vs) x env s next h)
    meant_real (part.label line number body) w env s next e h = meant_real body w env s next e h
    meant_real (If' line test _ (more_of-TStmt chosen end_of-TStmt) other) w env s next e h =
        value_real (in_line line w) e.calls test env s _ (λ v env s. if_real w (is_zero v) (meant_other other n w) (meant chosen n w) env s next
        (other_real other w env s next e h) (meant_real chosen w env s next e h))
    meant_real (part.while_loop line test body) w env s next e h =
        while_real line w (next tt) e h test (meant body n) (λ w env s next e h. meant_real body w env s next e h) n env s
    meant_real (part.do_loop line body test) w env s next e h =
        do_real line w (next tt) e h test (meant body n) (λ w env s next e h. meant_real body w env s next e h) n env s
    meant_real (part.for_loop line start test step body) w env s next e h =
        optionally_real (in_line line w) e.calls start env s _ (λ a env s.
        for_real line w (next tt) e h test step (meant body n) (λ w env s next e h. meant_real body w env s next e h) n env s)
    meant_real (Switch' line x _ body) w env s next e h =
        value_real (in_line line w) e.calls x env s _ (λ v env s.
        selected_real _ (first_real _ _ (case_real body (bits_of v)) (default_real body)) line w (next tt) e h env s)
    meant_real (Case _ _) w env s next e h = h env s
    meant_real Default w env s next e h = h env s
    meant_real (Alt' line _ body) w env s next e h = alt_real (branchings body n) (λ i. branching_real body i) line w (next tt) e h env s
    meant_real (AltCase _) w env s next e h = h env s
    meant_real (Par line branches) w env s next e h = ask_real _ line s _ (λ e. absurd (cc e)) (λ v s. h env s)
    meant_real (part.rescue line _ _) w env s next e h = h env s
    meant_real (Raise line rescue) w env s next e h = turn_real line s _ (λ s. e.jump rescue env s)
    meant_real (Goto line label) w env s next e h = turn_real line s _ (λ s. e.jump label env s)
    meant_real (Return line None) w env s next e h = e.return line None env s
    meant_real (Return line (Some x)) w env s next e h = value_real (in_line line w) e.calls x env s _ (λ v env s. e.return line (Some v) env s)
    meant_real (Become line call) w env s next e h = start_real (in_line line w) e.calls call env s _ (λ st env s. e.become line st.code st.words env s)
    meant_real (Break line levels) w env s next e h = e.behind levels env s
    meant_real (Continue line levels) w env s next e h = e.again levels env s
    meant_real (Alloc line places) w env s next e h = allocated_real (in_line line w) e.calls places env s next (λ a. h)
    meant_real (Unalloc line values) w env s next e h = unallocated_real (in_line line w) e.calls values env s next (λ a. h)
    meant_real (Check line x) w env s next e h =
        value_real (in_line line w) e.calls x env s _ (λ v env s. if_real w (is_zero v) (traps (in_line line w) trap.Check) (give tt) env s next (stop_real s.answers _ line s.privates (λ e. absurd (cc e))) (h env s))
    meant_real (Proc line calls) w env s next e h = starts_real (in_line line w) e.calls act.Proc (λ st e. absurd (cc e)) calls env s next (λ a. h)
    meant_real (TaskStmt line calls) w env s next e h = starts_real (in_line line w) e.calls act.Task (λ st e. absurd (cc e)) calls env s next (λ a. h)

    other_real : (other : Held-TStmt-If-3) (w : Ways) (env : Env) (s : Still) (next : Unit {0} → Rest) → GoWell w → Good (next tt) → Real (meant_other other n w env s next)
    other_real stmt.None' w env s next e h = h env s
    other_real (stmt.Some' _ (more_of-TStmt other end_of-TStmt)) w env s next e h = meant_real other w env s next e h

    all_meant_real : {m : _} (row : Row_of-TStmt m) (w : Ways) (env : Env) (s : Still) (next : Unit {0} → Rest) → GoWell w → Good (next tt) → Real (meant_all row n w env s next)
    all_meant_real end_of-TStmt w env s next e h = h env s
    all_meant_real (more_of-TStmt a rest) w env s next e h =
        meant_real a w env s (λ _ env s. meant_all rest n w env s next) e (λ env s. all_meant_real rest w env s next e h)

    case_real : {m : _} (row : Row_of-TStmt m) (bits : ℕ) → PartRealIfAny (part_of_case bits row n)
    case_real end_of-TStmt bits = tt
    case_real (more_of-TStmt (Case shape label) rest) bits = on (label == bits) (λ w env s next e h. all_meant_real rest w env s next e h) (case_real rest bits)
      where
        on : (b : Bool) → PartReal (meant_all rest n) → PartRealIfAny (part_of_case bits rest n) → PartRealIfAny (if b then Some (meant_all rest n) else part_of_case bits rest n)
        on true x y = x
        on false x y = y
    case_real (more_of-TStmt a rest) bits = case_real rest bits

    default_real : {m : _} (row : Row_of-TStmt m) → PartRealIfAny (part_of_default row n)
    default_real end_of-TStmt = tt
    default_real (more_of-TStmt Default rest) = λ w env s next e h. all_meant_real rest w env s next e h
    default_real (more_of-TStmt a rest) = default_real rest

    branching_real : {m : _} (row : Row_of-TStmt m) (i : ℕ) → BranchReal (slice_get (branchings row n) i)
    branching_real end_of-TStmt i = tt
    branching_real (more_of-TStmt (AltCase c) rest) zero = λ w env s next e h. all_meant_real rest w env s next e h
    branching_real (more_of-TStmt (AltCase c) rest) (suc i) = branching_real rest i
    branching_real (more_of-TStmt a rest) i = branching_real rest i

  -- ---- from a label on

  found_real : (b : Bool) (m : Part) (o : Option Part) → PartReal m → PartRealIfAny o → PartRealIfAny (if b then Some m else o)
  found_real true m o x y = x
  found_real false m o x y = y

  loop_real : (again_by : Ways → Rest → Rest) → ((w : Ways) (next : Rest) → GoWell w → Good next → Good (again_by w next))
      → (o : Option Part) → PartRealIfAny o → PartRealIfAny (inside (rest_of_round again_by) o)
  loop_real again_by g None x = x
  loop_real again_by g (Some m) x = λ w env s next e h.
      let good : Good (again_by w (next tt)) = g w (next tt) e h in
      x (in_loop (next tt) (again_by w (next tt)) w) env s (λ _. again_by w (next tt)) (round_loop w.line w (next tt) (again_by w (next tt)) e h good) good

  cases_real : (o : Option Part) → PartRealIfAny o → PartRealIfAny (inside rest_of_cases o)
  cases_real None x = x
  cases_real (Some m) x = λ w env s next e h. x (in_cases (next tt) w) env s next (round_cases w.line w (next tt) e h) h

  then_real : {m : _} (row : Row_of-TStmt m) (o : Option Part) → PartRealIfAny o → PartRealIfAny (then_part o (meant_all row n))
  then_real row None x = x
  then_real row (Some m) x = λ w env s next e h. x w env s (λ _ env s. meant_all row n w env s next) e (λ env s. all_meant_real row w env s next e h)

  mutual
    from_real : (l : ℕ) (a : TStmt) → PartRealIfAny (part_from l a n)
    from_real l (Block' line _ body) = from_row_real l body
    from_real l (part.label line number body) =
        found_real (number == l) (meant (part.label line number body) n) _ (λ w env s next e h. meant_real body w env s next e h) (from_real l body)
    from_real l (If' line _ _ (more_of-TStmt chosen end_of-TStmt) other) = first_real _ _ (from_real l chosen) (from_other_real l other)
    from_real l (part.while_loop line test body) =
        loop_real (again_while n line test body) (λ w next e h. while_again_real line w next e h test (meant body n) (λ w env s next e h. meant_real body w env s next e h) n) _ (from_real l body)
    from_real l (part.do_loop line body test) =
        loop_real (again_do n line body test) (λ w next e h. do_again_real line w next e h test (meant body n) (λ w env s next e h. meant_real body w env s next e h) n) _ (from_real l body)
    from_real l (part.for_loop line start test step body) =
        loop_real (again_for n line test step body) (λ w next e h. for_again_real line w next e h test step (meant body n) (λ w env s next e h. meant_real body w env s next e h) n) _ (from_real l body)
    from_real l (Switch' line _ _ body) = cases_real _ (from_row_real l body)
    from_real l (Alt' line _ body) = cases_real _ (from_row_real l body)
    from_real l (part.rescue line number body) =
        found_real (number == l) (meant body n) _ (λ w env s next e h. meant_real body w env s next e h) (from_real l body)
    from_real l _ = tt

    from_other_real : (l : ℕ) (other : Held-TStmt-If-3) → PartRealIfAny (part_from_other l other n)
    from_other_real l stmt.None' = tt
    from_other_real l (stmt.Some' _ (more_of-TStmt other end_of-TStmt)) = from_real l other

    from_row_real : (l : ℕ) {m : _} (row : Row_of-TStmt m) → PartRealIfAny (part_from_row l row n)
    from_row_real l end_of-TStmt = tt
    from_row_real l (more_of-TStmt a rest) = first_real _ _ (then_real rest _ (from_real l a)) (from_row_real l rest)

-- ---- functions

freed_real : (line : ℕ) (locals : List LocalRow) (block : ℕ) (s : Still) (next : Still → Outcome) → ((s : Still) → Real (next s)) → Real (freed line locals block s next)
freed_real line locals block s next h = either (has_block locals) _ _ (ask_real _ line s _ (λ e. absurd (cc e)) (λ v s. h s)) (h s)

abbrev GivenReal : Given → Type 0
GivenReal next = (o : Option (List ℕ)) (s : Still) → Real (next o s)

returned_real : (locals : List LocalRow) (next : Given) → GivenReal next → (line : ℕ) (o : Option (List ℕ)) → Good (returned locals next line o)
returned_real locals next h line o env s = freed_real line locals env.block s _ (λ s. turn_real line s _ (λ s. h o s))

become_real : (locals : List LocalRow) (instead : ℕ → List ℕ → Still → Given → Outcome) (next : Given) → CallsReal instead → GivenReal next → (line function : ℕ) (words : List ℕ) → Good (become_in locals instead next line function words)
become_real locals instead next e h line function words env s =
    freed_real line locals env.block s _ (λ s. turn_real line s _ (λ s. e.by function words s next (λ o s. h o s)))

module _ (p : Program) (n : ℕ) (f : FunctionRow) (number : ℕ) (call instead : ℕ → List ℕ → Still → Given → Outcome) (next : Given) (ce : CallsReal call) (ie : CallsReal instead) (h : GivenReal next) where
  abbrev behind : Rest
  behind = returned f.locals next f.line (default_of p (Some f))

  abbrev ways : (ℕ → Rest) → Ways
  ways jump = record {
    program = p;
    function = number;
    line = f.line;
    call = call;
    jump = jump;
    behind = [];
    again = [];
    return = returned f.locals next;
    become = become_in f.locals instead next;
  }

  abbrev nowhere : Ways
  nowhere = ways (λ l env s. Stuck)

  none_real : (levels : ℕ) → Good (rest_at levels [])
  none_real zero env s = stuck_real
  none_real (suc levels) env s = stuck_real

  ways_real : (jump : ℕ → Rest) → ((label : ℕ) → Good (jump label)) → GoWell (ways jump)
  ways_real jump g = record {
    calls = ce;
    jump = g;
    return = λ line o. returned_real f.locals next h line o;
    become = λ line function words. become_real f.locals instead next ie h line function words;
    behind = λ levels. none_real levels;
    again = λ levels. none_real levels;
  }

  behind_real : Good behind
  behind_real = returned_real f.locals next h f.line (default_of p (Some f))

  jumped_real : (o : Option Part) → PartRealIfAny o → (w : Ways) → GoWell w → Good (jumped o w behind)
  jumped_real None x w e env s = stuck_real
  jumped_real (Some m) x w e env s = x w env s (λ _. behind) e behind_real

  jumps_real : (m label : ℕ) → Good (jumps m f.body n nowhere behind label)
  jumps_real zero label env s = unfinished_real
  jumps_real (suc m) label env s =
      jumped_real (part_from label f.body n) (from_real n label f.body) (ways (jumps m f.body n nowhere behind))
      (ways_real (jumps m f.body n nowhere behind) (λ label. jumps_real m label)) env s

  parameters_real : (count : ℕ) (ls : List LocalRow) (at_number : ℕ) (words : List ℕ) (w : Ways) (env : Env) (s : Still) (after : Unit {0} → Rest) → Good (after tt) → Real (store_parameters at_number count ls words w env s after)
  parameters_real zero ls at_number words w env s after h = h env s
  parameters_real (suc m) [] at_number words w env s after h = h env s
  parameters_real (suc m) (x ∷ ls) at_number words w env s after h =
      let rest : List ℕ = drop (words_in w.program x.ty) words in
      let more : Unit {0} → Rest = λ _ env s. store_parameters (at_number + 1) m ls rest w env s after in
      let stored : List ℕ = fitted_to (units_in w.program x.ty) (take (words_in w.program x.ty) words) in
      if_real w x.is_shared (local_here w at_number >>= (λ found. save w x.ty stored found)) (give tt) env s more
      (save_real w x.ty stored (local_found w.program w.function env.block at_number) env s more (λ a env s. parameters_real m ls (at_number + 1) rest w env s after h))
      (parameters_real m ls (at_number + 1) rest w env s after h)

  function_real : (words : List ℕ) (s : Still) → Real (function_meant p n call instead number f words s next)
  function_real words s =
      let body_real : (block : ℕ) (env : Env) (s : Still) → Real (body_meant p n f block words (ways (jumps n f.body n nowhere behind)) behind env s) = λ block env s.
      parameters_real f.parameters f.locals 0 words (ways (jumps n f.body n nowhere behind)) env s _ (λ env s.
      meant_real n f.body (ways (jumps n f.body n nowhere behind)) env s (λ _. behind)
      (ways_real (jumps n f.body n nowhere behind) (λ label. jumps_real n label)) behind_real) in
      either (has_block f.locals) _ _ (ask_real _ f.line s _ (λ e. absurd (cc e)) (λ v s. body_real (slice_index v 0) _ s)) (body_real 0 _ s)

module _ (p : Program) where
  function_or_real : (n : ℕ) (call instead : ℕ → List ℕ → Still → Given → Outcome) (number : ℕ) (o : Option FunctionRow) → CallsReal call → CallsReal instead → (words : List ℕ) (s : Still) (next : Given) → GivenReal next
      → Real (function_or_stuck p n call instead number o words s next)
  function_or_real n call instead number None ce ie words s next h = stuck_real
  function_or_real n call instead number (Some f) ce ie words s next h = function_real p n f number call instead next ce ie h words s

  called_real : (n below number : ℕ) (words : List ℕ) (s : Still) (next : Given) → GivenReal next → Real (called p n below number words s next)
  called_real zero below number words s next h = unfinished_real
  called_real (suc n) below number words s next h =
      either (nat_lt most_slots (below + slots_of p (function_at p number))) _ _ (stop_real s.answers _ _ s.privates (λ e. absurd (cc e)))
      (function_or_real n (called p n (below + slots_of p (function_at p number))) (called p n below) number (function_at p number)
      (record { by = λ function words s next h. called_real n (below + slots_of p (function_at p number)) function words s next h })
      (record { by = λ function words s next h. called_real n below function words s next h })
      words s next h)

  pub task_real : (n : ℕ) (st : Start) (privates : List ℕ) (answers : List Answer) → IsReal (task_told p n st privates answers)
  task_real n st privates answers =
      (function_or_real n (called p n (slots_of p (function_at p st.code))) (called p n 0) st.code (function_at p st.code)
      (record { by = λ function words s next h. called_real n (slots_of p (function_at p st.code)) function words s next h })
      (record { by = λ function words s next h. called_real n 0 function words s next h })
      st.words _ (λ o s. stop_in 0 act.End s) (λ o s. stop_real s.answers act.End 0 s.privates (λ e. absurd (cc e)))).by
