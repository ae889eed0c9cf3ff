-- With enough rounds the meaning of statements, functions and tasks is never left open.
use Rattle.std.proofs.Common.{ℕ, zero, suc, ◌+◌, ◌*◌, ◌<◌, ◌≤◌, List, [], ◌∷◌, length, take, drop, Option, Some, None, arith}
use Rattle.std.specs.Prelude.{Bool, true, false, ◌==◌, nat_lt, if◌then◌else◌, slice_get, slice_index}
use Rattle.al_base.specs.declared.trap.Trap.TheVariants as trap
use Rattle.al_event.specs.declared.act.Act.{Act}
use Rattle.al_event.specs.declared.act.Act.TheVariants as act
use Rattle.al_event.specs.declared.act.Start.{Start}
use Rattle.al_typed.specs.declared.ty.Ty.{Ty, out-Ty}
use Rattle.al_typed.specs.declared.ty.Ty.TheOpen.{Ty-F}
use Rattle.al_typed.specs.declared.expression.TExpr.{TExpr, Call'}
use Rattle.al_typed.specs.declared.expression.TPlace.{TPlace}
use Rattle.al_typed.specs.declared.program.Function.{Function as FunctionRow}
use Rattle.al_typed.specs.declared.program.Local.{Local as LocalRow}
use Rattle.al_typed.specs.declared.program.Program.{Program}
use Rattle.al_typed.specs.declared.statement.TInitializer.{TInitializer}
use Rattle.al_typed.specs.declared.statement.TCommunication.{TCommunication}
use Rattle.al_typed.specs.declared.statement.TCommunication.TheVariants as talk
use Rattle.al_typed.specs.declared.statement.TStmt.{TStmt, Empty, Block', Declare, Value, If', Switch', Case, Default, Alt', AltCase, Par, Raise, Goto, Return, Become, Break, Continue, Alloc, Unalloc, Check, Proc, Task as TaskStmt, Held-TStmt-If-3, Row_of-TStmt, end_of-TStmt, more_of-TStmt}
use Rattle.al_typed.specs.declared.statement.TStmt as stmt
use Rattle.al_typed.specs.StatementForms as part
use Rattle.al_typed.specs.Types.{is_void}
use Rattle.al_typed.specs.Typed.{type_of, place_type}
use Rattle.al_meaning.specs.Words.{bits_of, is_zero, is_below, fitted_to}
use Rattle.al_meaning.specs.Places.{function_at, has_block, words_in}
use Rattle.al_meaning.specs.Items.{Bounds, most_turns}
use Rattle.al_meaning.specs.Parts.{first_of_two}
use Rattle.al_meaning.specs.Here.{units_in}
use Rattle.al_meaning.specs.Calls.{default_of, slots_of, most_slots}
use Rattle.al_meaning.specs.Evaluate.{leaves_of, local_found, alt_branches, alt_exprs}
use Rattle.al_meaning.specs.Execute.{bounds_exprs, bounds_of, next_turn}
use Rattle.al_meaning.specs.Tasks.{Answer, Env, Still, Outcome, Stuck, Rest, Task, ◌>>=◌, ◌>>◌, give, Ways, in_line, a_turn, traps, ask_in, stop_in}
use Rattle.al_meaning.specs.Told.{value, told, save, local_here}
use Rattle.al_meaning.specs.Meant.{Part, Given, Branching, communications, meant, meant_other, meant_all, evaluated, optionally, condition, values_of, initialized, start_of, starts_all, new_of, allocated, given_back, unallocated, then_next, in_loop, in_cases, while_rounds, do_rounds, for_rounds, set_turn, turns_of, iterated, rest_at, then_part, inside, went, went_on, alternated, selected, part_of_case, part_of_default, branchings, rest_of_round, rest_of_cases, again_while, again_do, again_for, part_from, part_from_other, part_from_row, freed, returned, become_in, jumped, jumps, store_parameters, body_meant, function_meant, function_or_stuck, called, task_told}
use Rattle.al_meaning.specs.Laws.{LeaveNothingOpen}
use Rattle.al_meaning.proofs.Endings.{Ends, Low, lower, stuck_ends, ask_ends, stop_ends, turn_ends, CallsEnd, if_ends, val, drop_ends, save_ends, saves_end, expr_ends, place_ends, aim_ends, object_ends, all_end}

-- what goes on so comes to an end
abbrev pub Good : ℕ → Rest → Type 0
Good k next = (env : Env) (s : Still) → Low k s → Ends (next env s)

good_below : (k j : ℕ) (next : Rest) → j ≤ k → Good k next → Good j next
good_below k j next le h env s l = h env s (lower k j s le l)

either : (b : Bool) (x y : Outcome) → Ends x → Ends y → Ends (if b then x else y)
either true x y p q = p
either false x y p q = q

-- all ways out of a statement come to an end
record EndsWell (w : Ways) (k : ℕ) : Type 0 where
  calls : CallsEnd w.call k
  jump : (j label : ℕ) → j < k → Good j (w.jump label)
  return : (line : ℕ) (o : Option (List ℕ)) → Good k (w.return line o)
  become : (line function : ℕ) (words : List ℕ) → Good k (w.become line function words)
  behind : (levels : ℕ) → Good k (rest_at levels w.behind)
  again : (levels : ℕ) → Good k (rest_at levels w.again)

calls_below : (call : ℕ → List ℕ → Still → Given → Outcome) (k j : ℕ) → j ≤ k → CallsEnd call k → CallsEnd call j
calls_below call k j le e = record { by = λ i function words s next lt l h. e.by i function words s next (omega (arith, lt, le)) l h }

fewer : (w : Ways) (k j : ℕ) → j ≤ k → EndsWell w k → EndsWell w j
fewer w k j le e = record {
  calls = calls_below w.call k j le e.calls;
  jump = λ i label lt. e.jump i label (omega (arith, lt, le));
  return = λ line o. good_below k j _ le (e.return line o);
  become = λ line function words. good_below k j _ le (e.become line function words);
  behind = λ levels. good_below k j _ le (e.behind levels);
  again = λ levels. good_below k j _ le (e.again levels);
}

rest_good : (k levels : ℕ) (r : Rest) (rests : List Rest) → Good k r → ((levels : ℕ) → Good k (rest_at levels rests)) → Good k (rest_at levels (r ∷ rests))
rest_good k zero r rests h g env s l = stuck_ends
rest_good k (suc zero) r rests h g env s l = h env s l
rest_good k (suc (suc m)) r rests h g env s l = g (suc m) env s l

round_loop : (line : ℕ) (w : Ways) (k : ℕ) (next repeat : Rest) → EndsWell w k → Good k next → Good k repeat → EndsWell (in_loop next repeat (in_line line w)) k
round_loop line w k next repeat e h g = record {
  calls = e.calls;
  jump = e.jump;
  return = e.return;
  become = e.become;
  behind = λ levels. rest_good k levels next w.behind h e.behind;
  again = λ levels. rest_good k levels repeat w.again g e.again;
}

round_cases : (line : ℕ) (w : Ways) (k : ℕ) (next : Rest) → EndsWell w k → Good k next → EndsWell (in_cases next (in_line line w)) k
round_cases line w k next e h = record {
  calls = e.calls;
  jump = e.jump;
  return = e.return;
  become = e.become;
  behind = λ levels. rest_good k levels next w.behind h e.behind;
  again = e.again;
}

-- ---- the parts of statements

module _ (w : Ways) (k : ℕ) (calls_end : CallsEnd w.call k) where
  abbrev Fine : {A : Type 0} → (A → Rest) → Type 0
  Fine {A} next = (a : A) (env : Env) (s : Still) → Low k s → Ends (next a env s)

  value_ends : (e : TExpr) (env : Env) (s : Still) (next : List ℕ → Rest) → Fine next → Low k s → Ends (value (told e w) env s next)
  value_ends e env s next h l = expr_ends w k calls_end e env s _ (val w k next h) l

  evaluated_ends : (e : TExpr) (env : Env) (s : Still) (next : Unit {0} → Rest) → Fine next → Low k s → Ends (evaluated e w env s next)
  evaluated_ends e env s next h l = expr_ends w k calls_end e env s _ (λ o env s l. drop_ends w k (is_void (type_of e)) o env s next (h tt env s l)) l

  optionally_ends : (o : Option TExpr) (env : Env) (s : Still) (next : Unit {0} → Rest) → Fine next → Low k s → Ends (optionally o w env s next)
  optionally_ends None env s next h l = h tt env s l
  optionally_ends (Some e) env s next h l = evaluated_ends e env s next h l

  condition_ends : (o : Option TExpr) (env : Env) (s : Still) (next : List ℕ → Rest) → Fine next → Low k s → Ends (condition o w env s next)
  condition_ends None env s next h l = h _ env s l
  condition_ends (Some e) env s next h l = value_ends e env s next h l

  values_end : (es : List TExpr) (env : Env) (s : Still) (next : List (List ℕ) → Rest) → Fine next → Low k s → Ends (values_of es w env s next)
  values_end [] env s next h l = h _ env s l
  values_end (e ∷ es) env s next h l = value_ends e env s _ (λ v env s l. values_end es env s _ (λ vs env s l. h _ env s l) l) l

  initialized_ends : (is : List TInitializer) (env : Env) (s : Still) (next : Unit {0} → Rest) → Fine next → Low k s → Ends (initialized is w env s next)
  initialized_ends [] env s next h l = h tt env s l
  initialized_ends (i ∷ rest) env s next h l =
      value_ends i.value env s _ (λ v env s l. save_ends w k _ _ _ env s _ (λ a env s l. initialized_ends rest env s next h l) l) l

  start_ends : (e : TExpr) (env : Env) (s : Still) (next : Start → Rest) → Fine next → Low k s → Ends (start_of e w env s next)
  start_ends (Call' t function receiver _ arguments) env s next h l =
      object_ends w k calls_end receiver env s _ (λ os env s l. all_end w k calls_end arguments env s _ (λ vs env s l. h _ env s l) l) l
  start_ends _ env s next h l = stuck_ends

  starts_end : (how : Start → Act) (es : List TExpr) (env : Env) (s : Still) (next : Unit {0} → Rest) → Fine next → Low k s → Ends (starts_all how es w env s next)
  starts_end how [] env s next h l = h tt env s l
  starts_end how (e ∷ es) env s next h l = start_ends e env s _ (λ st env s l. ask_ends _ w.line k s _ l (λ v s l. starts_end how es env s next h l)) l

  new_ends : (t : Ty-F Ty) (env : Env) (s : Still) (next : List ℕ → Rest) → Fine next → Low k s → Ends (new_of w t env s next)
  new_ends (Ty-F.Pointer to) env s next h l = ask_ends _ w.line k s _ l (λ v s l. h v env s l)
  new_ends (Ty-F.Chan element capacity) env s next h l = ask_ends _ w.line k s _ l (λ v s l. h v env s l)
  new_ends _ env s next h l = stuck_ends

  allocated_ends : (places : List TPlace) (env : Env) (s : Still) (next : Unit {0} → Rest) → Fine next → Low k s → Ends (allocated places w env s next)
  allocated_ends [] env s next h l = h tt env s l
  allocated_ends (of ∷ rest) env s next h l =
      place_ends w k calls_end of env s _ (λ f env s l. new_ends (out-Ty (place_type of)) env s _ (λ v env s l.
      save_ends w k (place_type of) v f env s _ (λ a env s l. allocated_ends rest env s next h l) l) l) l

  back_ends : (t : Ty-F Ty) (m : ℕ) (env : Env) (s : Still) (next : List ℕ → Rest) → Fine next → Low k s → Ends (given_back w t m env s next)
  back_ends (Ty-F.Chan element capacity) m env s next h l = ask_ends _ w.line k s _ l (λ v s l. h v env s l)
  back_ends _ m env s next h l = ask_ends _ w.line k s _ l (λ v s l. h v env s l)

  unallocated_ends : (es : List TExpr) (env : Env) (s : Still) (next : Unit {0} → Rest) → Fine next → Low k s → Ends (unallocated es w env s next)
  unallocated_ends [] env s next h l = h tt env s l
  unallocated_ends (e ∷ es) env s next h l =
      value_ends e env s _ (λ v env s l. back_ends (out-Ty (type_of e)) _ env s _ (λ v env s l. unallocated_ends es env s next h l) l) l

  went_ends : (c : TCommunication) (words : List ℕ) (env : Env) (s : Still) (next : Unit {0} → Rest) → Fine next → Low k s → Ends (went c words w env s next)
  went_ends (talk.ReceiveInto t target chan) words env s next h l =
      aim_ends w k calls_end target env s _ (λ places env s l. saves_end w k (leaves_of target) places _ env s next h l) l
  went_ends (talk.Receive t chan) words env s next h l = h tt env s l
  went_ends (talk.Send chan e) words env s next h l = h tt env s l

  turns_of_end : (j i number : ℕ) (b : Bounds) (inner : Task (Unit {0})) → i ≤ j
      → ((r : ℕ) → r ≤ i → (env : Env) (s : Still) (next : Unit {0} → Rest) → Good r (next tt) → Low r s → Ends (inner env s next))
      → (env : Env) (s : Still) (next : Unit {0} → Rest) → Good i (next tt) → Low i s → Ends (turns_of j number b w inner env s next)
  turns_of_end zero i number b inner lt inner_ends env s next h l = absurd (omega (arith, l.0, l.1, lt))
  turns_of_end (suc j) i number b inner lt inner_ends env s next h l =
      if_ends w i (is_below b.from b.to) (set_turn number b.from >> inner >> a_turn w >> turns_of j number (next_turn b) w inner) (give tt) env s next
      (inner_ends i (omega arith) _ s _ (λ env s l. turn_ends w.line i s _ l (λ r s less l.
      turns_of_end j r number (next_turn b) inner (omega (arith, less, lt)) (λ q le. inner_ends q (omega (arith, le, less))) env s next (good_below i r _ (omega (arith, less)) h) l)) l)
      (h env s l)

  iterated_ends : (n number : ℕ) (bounds : List Bounds) (e : TExpr) (i : ℕ) → i ≤ k → i ≤ n
      → (env : Env) (s : Still) (next : Unit {0} → Rest) → Good i (next tt) → Low i s → Ends (iterated n number bounds w (evaluated e w) env s next)
  iterated_ends n number [] e i le ln env s next h l =
      expr_ends w i (calls_below w.call k i le calls_end) e env s _ (λ o env s l. drop_ends w i (is_void (type_of e)) o env s next (h env s l)) l
  iterated_ends n number (b ∷ rest) e i le ln env s next h l =
      turns_of_end n i number b (iterated n (number + 1) rest w (evaluated e w)) ln
      (λ r less env s next h l. iterated_ends n (number + 1) rest e r (omega (arith, less, le)) (omega (arith, less, ln)) env s next h l) env s next h l

-- ---- loops

module _ (n : ℕ) where
  abbrev PartEnds : Part → Type 0
  PartEnds m = (k : ℕ) → k ≤ n → (w : Ways) (env : Env) (s : Still) (next : Unit {0} → Rest) → EndsWell w k → Good k (next tt) → Low k s → Ends (m w env s next)

  module _ (line : ℕ) (w : Ways) (next : Rest) where
    abbrev here : Ways
    here = in_line line w

    module _ (test : TExpr) (m : Part) (m_ends : PartEnds m) where
      while_ends : (j k : ℕ) → k ≤ j → k ≤ n → EndsWell w k → Good k next → Good k (while_rounds j (value (told test here)) m here next)
      while_ends zero k lj ln e h env s l = absurd (omega (arith, l.0, l.1, lj))
      while_ends (suc j) k lj ln e h env s l =
          let again : Rest = then_next (a_turn here) (while_rounds j (value (told test here)) m here next) in
          let again_good : Good k again = λ env s l. turn_ends line k s _ l (λ i s lt l. while_ends j i (omega (arith, lt, lj)) (omega (arith, lt, ln)) (fewer w k i (omega (arith, lt)) e) (good_below k i next (omega (arith, lt)) h) env s l) in
          value_ends here k e.calls test env s _ (λ v env s l. either (is_zero v) _ _ (h env s l)
          (m_ends k ln (in_loop next again here) env s (λ _. again) (round_loop line w k next again e h again_good) again_good l)) l

      while_again_ends : (k : ℕ) → k ≤ n → EndsWell w k → Good k next → Good k (then_next (a_turn here) (while_rounds n (value (told test here)) m here next))
      while_again_ends k ln e h env s l = turn_ends line k s _ l (λ i s lt l. while_ends n i (omega (arith, lt, ln)) (omega (arith, lt, ln)) (fewer w k i (omega (arith, lt)) e) (good_below k i next (omega (arith, lt)) h) env s l)

      abbrev again_by_do : ℕ → Rest
      again_by_do j env s = value (told test here) env s (λ v env s. if is_zero v then next env s else then_next (a_turn here) (do_rounds j (value (told test here)) m here next) env s)

      do_again_good : (j k : ℕ) → EndsWell w k → Good k next → ((i : ℕ) → i < k → Good i (do_rounds j (value (told test here)) m here next)) → Good k (again_by_do j)
      do_again_good j k e h g env s l =
          value_ends here k e.calls test env s _ (λ v env s l. either (is_zero v) _ _ (h env s l) (turn_ends line k s _ l (λ i s lt l. g i lt env s l))) l

      do_ends : (j k : ℕ) → k ≤ j → k ≤ n → EndsWell w k → Good k next → Good k (do_rounds j (value (told test here)) m here next)
      do_ends zero k lj ln e h env s l = absurd (omega (arith, l.0, l.1, lj))
      do_ends (suc j) k lj ln e h env s l =
          let again_good : Good k (again_by_do j) = do_again_good j k e h (λ i lt. do_ends j i (omega (arith, lt, lj)) (omega (arith, lt, ln)) (fewer w k i (omega (arith, lt)) e) (good_below k i next (omega (arith, lt)) h)) in
          m_ends k ln (in_loop next (again_by_do j) here) env s (λ _. again_by_do j) (round_loop line w k next (again_by_do j) e h again_good) again_good l

      do_again_ends : (k : ℕ) → k ≤ n → EndsWell w k → Good k next → Good k (again_by_do n)
      do_again_ends k ln e h = do_again_good n k e h (λ i lt. do_ends n i (omega (arith, lt, ln)) (omega (arith, lt, ln)) (fewer w k i (omega (arith, lt)) e) (good_below k i next (omega (arith, lt)) h))

    module _ (test step : Option TExpr) (m : Part) (m_ends : PartEnds m) where
      abbrev rounds : ℕ → Rest
      rounds j = for_rounds j (condition test here) (optionally step here) m here next

      abbrev again_by_for : ℕ → Rest
      again_by_for j = then_next (optionally step here) (then_next (a_turn here) (rounds j))

      for_again_good : (j k : ℕ) → EndsWell w k → ((i : ℕ) → i < k → Good i (rounds j)) → Good k (again_by_for j)
      for_again_good j k e g env s l = optionally_ends here k e.calls step env s _ (λ a env s l. turn_ends line k s _ l (λ i s lt l. g i lt env s l)) l

      for_ends : (j k : ℕ) → k ≤ j → k ≤ n → EndsWell w k → Good k next → Good k (rounds j)
      for_ends zero k lj ln e h env s l = absurd (omega (arith, l.0, l.1, lj))
      for_ends (suc j) k lj ln e h env s l =
          let again_good : Good k (again_by_for j) = for_again_good j k e (λ i lt. for_ends j i (omega (arith, lt, lj)) (omega (arith, lt, ln)) (fewer w k i (omega (arith, lt)) e) (good_below k i next (omega (arith, lt)) h)) in
          condition_ends here k e.calls test env s _ (λ v env s l. either (is_zero v) _ _ (h env s l)
          (m_ends k ln (in_loop next (again_by_for j) here) env s (λ _. again_by_for j) (round_loop line w k next (again_by_for j) e h again_good) again_good l)) l

      for_again_ends : (k : ℕ) → k ≤ n → EndsWell w k → Good k next → Good k (again_by_for n)
      for_again_ends k ln e h = for_again_good n k e (λ i lt. for_ends n i (omega (arith, lt, ln)) (omega (arith, lt, ln)) (fewer w k i (omega (arith, lt)) e) (good_below k i next (omega (arith, lt)) h))

  -- ---- statements

  abbrev PartEndsIfAny : Option Part → Type 0
  PartEndsIfAny None = Unit {0}
  PartEndsIfAny (Some m) = PartEnds m

  abbrev BranchEnds : Option Branching → Type 0
  BranchEnds None = Unit {0}
  BranchEnds (Some b) = PartEnds b.body

  first_ends : (a c : Option Part) → PartEndsIfAny a → PartEndsIfAny c → PartEndsIfAny (first_of_two a c)
  first_ends None c x y = y
  first_ends (Some m) c x y = x

  selected_ends : (o : Option Part) → PartEndsIfAny o → (k : ℕ) → k ≤ n → (line : ℕ) (w : Ways) (next : Rest) → EndsWell w k → Good k next → Good k (selected o (in_line line w) next)
  selected_ends None x k ln line w next e h env s l = h env s l
  selected_ends (Some m) x k ln line w next e h env s l = x k ln (in_cases next (in_line line w)) env s (λ _. next) (round_cases line w k next e h) h l

  went_on_ends : (o : Option Branching) → BranchEnds o → (words : List ℕ) (k : ℕ) → k ≤ n → (line : ℕ) (w : Ways) (next : Rest) → EndsWell w k → Good k next
      → Good k (λ env s. went_on o words (in_cases next (in_line line w)) env s (λ _. next))
  went_on_ends None x words k ln line w next e h env s l = stuck_ends
  went_on_ends (Some b) x words k ln line w next e h env s l =
      went_ends (in_cases next (in_line line w)) k e.calls b.communication words env s _
      (λ a env s l. x k ln (in_cases next (in_line line w)) env s (λ _. next) (round_cases line w k next e h) h l) l

  alt_ends : (cases : List Branching) → ((i : ℕ) → BranchEnds (slice_get cases i)) → (k : ℕ) → k ≤ n → (line : ℕ) (w : Ways) (next : Rest) → EndsWell w k → Good k next → Good k (alternated cases (in_line line w) next)
  alt_ends cases x k ln line w next e h env s l =
      values_end (in_line line w) k e.calls (alt_exprs (communications cases)) env s
      (λ values env s. ask_in line (act.Talk (alt_branches w.program (communications cases) values)) s (λ words s. went_on (slice_get cases (slice_index words 0)) (drop 1 words) (in_cases next (in_line line w)) env s (λ _. next)))
      (λ values env s l. ask_ends (act.Talk (alt_branches w.program (communications cases) values)) line k s
      (λ words s. went_on (slice_get cases (slice_index words 0)) (drop 1 words) (in_cases next (in_line line w)) env s (λ _. next)) l
      (λ words s l. went_on_ends (slice_get cases (slice_index words 0)) (x (slice_index words 0)) (drop 1 words) k ln line w next e h env s l)) l

  mutual
    meant_ends : (a : TStmt) (k : ℕ) → k ≤ n → (w : Ways) (env : Env) (s : Still) (next : Unit {0} → Rest) → EndsWell w k → Good k (next tt) → Low k s → Ends (meant a n w env s next)
    meant_ends (Empty line) k ln w env s next e h l = h env s l
    meant_ends (Block' line _ body) k ln w env s next e h l = all_meant_ends body k ln w env s next e h l
    meant_ends (Declare line is) k ln w env s next e h l = initialized_ends (in_line line w) k e.calls is env s next (λ a. h) l
    meant_ends (Value line iterators x) k ln w env s next e h l =
        values_end (in_line line w) k e.calls (bounds_exprs iterators) env s _ (λ vs env s l. iterated_ends (in_line line w) k e.calls n 0 (bounds_of vs) x k (omega arith) ln env s next h l) l
    meant_ends (part.label line number body) k ln w env s next e h l = meant_ends body k ln w env s next e h l
    meant_ends (If' line test _ (more_of-TStmt chosen end_of-TStmt) other) k ln w env s next e h l =
        value_ends (in_line line w) k e.calls test env s _ (λ v env s l. if_ends w k (is_zero v) (meant_other other n w) (meant chosen n w) env s next
        (other_ends other k ln w env s next e h l) (meant_ends chosen k ln w env s next e h l)) l
    meant_ends (part.while_loop line test body) k ln w env s next e h l =
        while_ends line w (next tt) test (meant body n) (λ k ln w env s next e h l. meant_ends body k ln w env s next e h l) n k ln ln e h env s l
    meant_ends (part.do_loop line body test) k ln w env s next e h l =
        do_ends line w (next tt) test (meant body n) (λ k ln w env s next e h l. meant_ends body k ln w env s next e h l) n k ln ln e h env s l
    meant_ends (part.for_loop line start test step body) k ln w env s next e h l =
        optionally_ends (in_line line w) k e.calls start env s _ (λ a env s l.
        for_ends line w (next tt) test step (meant body n) (λ k ln w env s next e h l. meant_ends body k ln w env s next e h l) n k ln ln e h env s l) l
    meant_ends (Switch' line x _ body) k ln w env s next e h l =
        value_ends (in_line line w) k e.calls x env s _ (λ v env s l.
        selected_ends _ (first_ends _ _ (case_ends body (bits_of v)) (default_ends body)) k ln line w (next tt) e h env s l) l
    meant_ends (Case _ _) k ln w env s next e h l = h env s l
    meant_ends Default k ln w env s next e h l = h env s l
    meant_ends (Alt' line _ body) k ln w env s next e h l =
        alt_ends (branchings body n) (λ i. branching_ends body i) k ln line w (next tt) e h env s l
    meant_ends (AltCase _) k ln w env s next e h l = h env s l
    meant_ends (Par line branches) k ln w env s next e h l = ask_ends _ line k s _ l (λ v s l. h env s l)
    meant_ends (part.rescue line _ _) k ln w env s next e h l = h env s l
    meant_ends (Raise line rescue) k ln w env s next e h l = turn_ends line k s _ l (λ i s lt l. e.jump i rescue lt env s l)
    meant_ends (Goto line label) k ln w env s next e h l = turn_ends line k s _ l (λ i s lt l. e.jump i label lt env s l)
    meant_ends (Return line None) k ln w env s next e h l = e.return line None env s l
    meant_ends (Return line (Some x)) k ln w env s next e h l = value_ends (in_line line w) k e.calls x env s _ (λ v env s l. e.return line (Some v) env s l) l
    meant_ends (Become line call) k ln w env s next e h l = start_ends (in_line line w) k e.calls call env s _ (λ st env s l. e.become line st.code st.words env s l) l
    meant_ends (Break line levels) k ln w env s next e h l = e.behind levels env s l
    meant_ends (Continue line levels) k ln w env s next e h l = e.again levels env s l
    meant_ends (Alloc line places) k ln w env s next e h l = allocated_ends (in_line line w) k e.calls places env s next (λ a. h) l
    meant_ends (Unalloc line values) k ln w env s next e h l = unallocated_ends (in_line line w) k e.calls values env s next (λ a. h) l
    meant_ends (Check line x) k ln w env s next e h l =
        value_ends (in_line line w) k e.calls x env s _ (λ v env s l. if_ends w k (is_zero v) (traps (in_line line w) trap.Check) (give tt) env s next (stop_ends s.answers _ line s.privates) (h env s l)) l
    meant_ends (Proc line calls) k ln w env s next e h l = starts_end (in_line line w) k e.calls act.Proc calls env s next (λ a. h) l
    meant_ends (TaskStmt line calls) k ln w env s next e h l = starts_end (in_line line w) k e.calls act.Task calls env s next (λ a. h) l

    other_ends : (other : Held-TStmt-If-3) (k : ℕ) → k ≤ n → (w : Ways) (env : Env) (s : Still) (next : Unit {0} → Rest) → EndsWell w k → Good k (next tt) → Low k s → Ends (meant_other other n w env s next)
    other_ends stmt.None' k ln w env s next e h l = h env s l
    other_ends (stmt.Some' _ (more_of-TStmt other end_of-TStmt)) k ln w env s next e h l = meant_ends other k ln w env s next e h l

    all_meant_ends : {m : _} (row : Row_of-TStmt m) (k : ℕ) → k ≤ n → (w : Ways) (env : Env) (s : Still) (next : Unit {0} → Rest) → EndsWell w k → Good k (next tt) → Low k s → Ends (meant_all row n w env s next)
    all_meant_ends end_of-TStmt k ln w env s next e h l = h env s l
    all_meant_ends (more_of-TStmt a rest) k ln w env s next e h l =
        meant_ends a k ln w env s (λ _ env s. meant_all rest n w env s next) e (λ env s l. all_meant_ends rest k ln w env s next e h l) l

    case_ends : {m : _} (row : Row_of-TStmt m) (bits : ℕ) → PartEndsIfAny (part_of_case bits row n)
    case_ends end_of-TStmt bits = tt
    case_ends (more_of-TStmt (Case shape label) rest) bits = on (label == bits) (λ k ln w env s next e h l. all_meant_ends rest k ln w env s next e h l) (case_ends rest bits)
      where
        on : (b : Bool) → PartEnds (meant_all rest n) → PartEndsIfAny (part_of_case bits rest n) → PartEndsIfAny (if b then Some (meant_all rest n) else part_of_case bits rest n)
        on true x y = x
        on false x y = y
    case_ends (more_of-TStmt a rest) bits = case_ends rest bits

    default_ends : {m : _} (row : Row_of-TStmt m) → PartEndsIfAny (part_of_default row n)
    default_ends end_of-TStmt = tt
    default_ends (more_of-TStmt Default rest) = λ k ln w env s next e h l. all_meant_ends rest k ln w env s next e h l
    default_ends (more_of-TStmt a rest) = default_ends rest

    branching_ends : {m : _} (row : Row_of-TStmt m) (i : ℕ) → BranchEnds (slice_get (branchings row n) i)
    branching_ends end_of-TStmt i = tt
    branching_ends (more_of-TStmt (AltCase c) rest) zero = λ k ln w env s next e h l. all_meant_ends rest k ln w env s next e h l
    branching_ends (more_of-TStmt (AltCase c) rest) (suc i) = branching_ends rest i
    branching_ends (more_of-TStmt a rest) i = branching_ends rest i

  -- ---- from a label on

  found_ends : (b : Bool) (m : Part) (o : Option Part) → PartEnds m → PartEndsIfAny o → PartEndsIfAny (if b then Some m else o)
  found_ends true m o x y = x
  found_ends false m o x y = y

  loop_ends : (again_by : Ways → Rest → Rest) → ((k : ℕ) → k ≤ n → (w : Ways) (next : Rest) → EndsWell w k → Good k next → Good k (again_by w next))
      → (o : Option Part) → PartEndsIfAny o → PartEndsIfAny (inside (rest_of_round again_by) o)
  loop_ends again_by g None x = x
  loop_ends again_by g (Some m) x = λ k ln w env s next e h l.
      let good : Good k (again_by w (next tt)) = g k ln w (next tt) e h in
      x k ln (in_loop (next tt) (again_by w (next tt)) w) env s (λ _. again_by w (next tt)) (round_loop w.line w k (next tt) (again_by w (next tt)) e h good) good l

  cases_end : (o : Option Part) → PartEndsIfAny o → PartEndsIfAny (inside rest_of_cases o)
  cases_end None x = x
  cases_end (Some m) x = λ k ln w env s next e h l. x k ln (in_cases (next tt) w) env s next (round_cases w.line w k (next tt) e h) h l

  then_ends : {m : _} (row : Row_of-TStmt m) (o : Option Part) → PartEndsIfAny o → PartEndsIfAny (then_part o (meant_all row n))
  then_ends row None x = x
  then_ends row (Some m) x = λ k ln w env s next e h l.
      x k ln w env s (λ _ env s. meant_all row n w env s next) e (λ env s l. all_meant_ends row k ln w env s next e h l) l

  mutual
    from_ends : (l : ℕ) (a : TStmt) → PartEndsIfAny (part_from l a n)
    from_ends l (Block' line _ body) = from_row_ends l body
    from_ends l (part.label line number body) =
        found_ends (number == l) (meant (part.label line number body) n) _ (λ k ln w env s next e h l. meant_ends body k ln w env s next e h l) (from_ends l body)
    from_ends l (If' line _ _ (more_of-TStmt chosen end_of-TStmt) other) = first_ends _ _ (from_ends l chosen) (from_other_ends l other)
    from_ends l (part.while_loop line test body) =
        loop_ends (again_while n line test body) (λ k ln w next e h. while_again_ends line w next test (meant body n) (λ k ln w env s next e h l. meant_ends body k ln w env s next e h l) k ln e h) _ (from_ends l body)
    from_ends l (part.do_loop line body test) =
        loop_ends (again_do n line body test) (λ k ln w next e h. do_again_ends line w next test (meant body n) (λ k ln w env s next e h l. meant_ends body k ln w env s next e h l) k ln e h) _ (from_ends l body)
    from_ends l (part.for_loop line start test step body) =
        loop_ends (again_for n line test step body) (λ k ln w next e h. for_again_ends line w next test step (meant body n) (λ k ln w env s next e h l. meant_ends body k ln w env s next e h l) k ln e h) _ (from_ends l body)
    from_ends l (Switch' line _ _ body) = cases_end _ (from_row_ends l body)
    from_ends l (Alt' line _ body) = cases_end _ (from_row_ends l body)
    from_ends l (part.rescue line number body) =
        found_ends (number == l) (meant body n) _ (λ k ln w env s next e h l. meant_ends body k ln w env s next e h l) (from_ends l body)
    from_ends l _ = tt

    from_other_ends : (l : ℕ) (other : Held-TStmt-If-3) → PartEndsIfAny (part_from_other l other n)
    from_other_ends l stmt.None' = tt
    from_other_ends l (stmt.Some' _ (more_of-TStmt other end_of-TStmt)) = from_ends l other

    from_row_ends : (l : ℕ) {m : _} (row : Row_of-TStmt m) → PartEndsIfAny (part_from_row l row n)
    from_row_ends l end_of-TStmt = tt
    from_row_ends l (more_of-TStmt a rest) = first_ends _ _ (then_ends rest _ (from_ends l a)) (from_row_ends l rest)

-- ---- functions

freed_ends : (k line : ℕ) (locals : List LocalRow) (block : ℕ) (s : Still) (next : Still → Outcome) → ((s : Still) → Low k s → Ends (next s)) → Low k s → Ends (freed line locals block s next)
freed_ends k line locals block s next h l = either (has_block locals) _ _ (ask_ends _ line k s _ l (λ v s l. h s l)) (h s l)

abbrev GivenEnds : ℕ → Given → Type 0
GivenEnds k next = (o : Option (List ℕ)) (s : Still) → Low k s → Ends (next o s)

returned_ends : (k : ℕ) (locals : List LocalRow) (next : Given) → GivenEnds k next → (line : ℕ) (o : Option (List ℕ)) → Good k (returned locals next line o)
returned_ends k locals next h line o env s l =
    freed_ends k line locals env.block s _ (λ s l. turn_ends line k s _ l (λ j s lt l. h o s (lower k j s (omega (arith, lt)) l))) l

become_ends : (k : ℕ) (locals : List LocalRow) (instead : ℕ → List ℕ → Still → Given → Outcome) (next : Given) → CallsEnd instead k → GivenEnds k next → (line function : ℕ) (words : List ℕ) → Good k (become_in locals instead next line function words)
become_ends k locals instead next e h line function words env s l =
    freed_ends k line locals env.block s _ (λ s l. turn_ends line k s _ l (λ j s lt l. e.by j function words s next lt l (λ o s l. h o s (lower k j s (omega (arith, lt)) l)))) l

module _ (p : Program) (n : ℕ) (f : FunctionRow) (number : ℕ) (call instead : ℕ → List ℕ → Still → Given → Outcome) (next : Given) where
  abbrev behind : Rest
  behind = returned f.locals next f.line (default_of p (Some f))

  abbrev ways : (ℕ → Rest) → Ways
  ways jump = record {
    program = p;
    function = number;
    line = f.line;
    call = call;
    jump = jump;
    behind = [];
    again = [];
    return = returned f.locals next;
    become = become_in f.locals instead next;
  }

  abbrev nowhere : Ways
  nowhere = ways (λ l env s. Stuck)

  none_ends : (k levels : ℕ) → Good k (rest_at levels [])
  none_ends k zero env s l = stuck_ends
  none_ends k (suc levels) env s l = stuck_ends

  ways_end : (k : ℕ) (jump : ℕ → Rest) → CallsEnd call k → CallsEnd instead k → GivenEnds k next → ((j label : ℕ) → j < k → Good j (jump label)) → EndsWell (ways jump) k
  ways_end k jump ce ie h g = record {
    calls = ce;
    jump = g;
    return = λ line o. returned_ends k f.locals next h line o;
    become = λ line function words. become_ends k f.locals instead next ie h line function words;
    behind = λ levels. none_ends k levels;
    again = λ levels. none_ends k levels;
  }

  given_below : (k j : ℕ) → j ≤ k → GivenEnds k next → GivenEnds j next
  given_below k j le h o s l = h o s (lower k j s le l)

  jumped_ends : (o : Option Part) → PartEndsIfAny n o → (k : ℕ) → k ≤ n → (w : Ways) → EndsWell w k → Good k behind → Good k (jumped o w behind)
  jumped_ends None x k ln w e h env s l = stuck_ends
  jumped_ends (Some m) x k ln w e h env s l = x k ln w env s (λ _. behind) e h l

  jumps_end : (m k label : ℕ) → k < m → k ≤ n → CallsEnd call k → CallsEnd instead k → GivenEnds k next → Good k (jumps m f.body n nowhere behind label)
  jumps_end zero k label lt ln ce ie h env s l = absurd (omega (arith, lt))
  jumps_end (suc m) k label lt ln ce ie h env s l =
      jumped_ends (part_from label f.body n) (from_ends n label f.body) k ln (ways (jumps m f.body n nowhere behind))
      (ways_end k (jumps m f.body n nowhere behind) ce ie h (λ j label less.
      jumps_end m j label (omega (arith, less, lt)) (omega (arith, less, ln)) (calls_below call k j (omega (arith, less)) ce) (calls_below instead k j (omega (arith, less)) ie) (given_below k j (omega (arith, less)) h)))
      (returned_ends k f.locals next h f.line (default_of p (Some f))) env s l

  parameters_end : (k count : ℕ) (ls : List LocalRow) (at_number : ℕ) (words : List ℕ) (w : Ways) (env : Env) (s : Still) (after : Unit {0} → Rest) → Good k (after tt) → Low k s → Ends (store_parameters at_number count ls words w env s after)
  parameters_end k zero ls at_number words w env s after h l = h env s l
  parameters_end k (suc m) [] at_number words w env s after h l = h env s l
  parameters_end k (suc m) (x ∷ ls) at_number words w env s after h l =
      let rest : List ℕ = drop (words_in w.program x.ty) words in
      let more : Unit {0} → Rest = λ _ env s. store_parameters (at_number + 1) m ls rest w env s after in
      let stored : List ℕ = fitted_to (units_in w.program x.ty) (take (words_in w.program x.ty) words) in
      if_ends w k x.is_shared (local_here w at_number >>= (λ found. save w x.ty stored found)) (give tt) env s more
      (save_ends w k x.ty stored (local_found w.program w.function env.block at_number) env s more (λ a env s l. parameters_end k m ls (at_number + 1) rest w env s after h l) l)
      (parameters_end k m ls (at_number + 1) rest w env s after h l)

  function_ends : (k : ℕ) → k ≤ n → CallsEnd call k → CallsEnd instead k → GivenEnds k next → (words : List ℕ) (s : Still) → Low k s → Ends (function_meant p n call instead number f words s next)
  function_ends k ln ce ie h words s l =
      let body_ends : (block : ℕ) (env : Env) (s : Still) → Low k s → Ends (body_meant p n f block words (ways (jumps n f.body n nowhere behind)) behind env s) = λ block env s l.
      parameters_end k f.parameters f.locals 0 words (ways (jumps n f.body n nowhere behind)) env s _ (λ env s l.
      meant_ends n f.body k ln (ways (jumps n f.body n nowhere behind)) env s (λ _. behind)
      (ways_end k (jumps n f.body n nowhere behind) ce ie h (λ j label less.
      jumps_end n j label (omega (arith, less, ln)) (omega (arith, less, ln)) (calls_below call k j (omega (arith, less)) ce) (calls_below instead k j (omega (arith, less)) ie) (given_below k j (omega (arith, less)) h)))
      (returned_ends k f.locals next h f.line (default_of p (Some f))) l) l in
      either (has_block f.locals) _ _ (ask_ends _ f.line k s _ l (λ v s l. body_ends (slice_index v 0) _ s l)) (body_ends 0 _ s l)

module _ (p : Program) where
  function_or_ends : (n k : ℕ) → k ≤ n → (call instead : ℕ → List ℕ → Still → Given → Outcome) (number : ℕ) (o : Option FunctionRow) → CallsEnd call k → CallsEnd instead k → (words : List ℕ) (s : Still) (next : Given) → GivenEnds k next → Low k s
      → Ends (function_or_stuck p n call instead number o words s next)
  function_or_ends n k ln call instead number None ce ie words s next h l = stuck_ends
  function_or_ends n k ln call instead number (Some f) ce ie words s next h l = function_ends p n f number call instead next k ln ce ie h words s l

  called_ends : (n below k number : ℕ) (words : List ℕ) (s : Still) (next : Given) → k < n → GivenEnds k next → Low k s → Ends (called p n below number words s next)
  called_ends zero below k number words s next lt h l = absurd (omega (arith, lt))
  called_ends (suc n) below k number words s next lt h l =
      either (nat_lt most_slots (below + slots_of p (function_at p number))) _ _ (stop_ends s.answers _ _ s.privates)
      (function_or_ends n k (omega (arith, lt)) (called p n (below + slots_of p (function_at p number))) (called p n below) number (function_at p number)
      (record { by = λ j function words s next less l h. called_ends n (below + slots_of p (function_at p number)) j function words s next (omega (arith, less, lt)) h l })
      (record { by = λ j function words s next less l h. called_ends n below j function words s next (omega (arith, less, lt)) h l })
      words s next h l)

  pub task_ends : (n : ℕ) (st : Start) (privates : List ℕ) (answers : List Answer) → most_turns + most_turns * length answers ≤ n → Ends (task_told p n st privates answers)
  task_ends n st privates answers le =
      function_or_ends n n (omega arith) (called p n (slots_of p (function_at p st.code))) (called p n 0) st.code (function_at p st.code)
      (record { by = λ j function words s next less l h. called_ends n (slots_of p (function_at p st.code)) j function words s next less h l })
      (record { by = λ j function words s next less l h. called_ends n 0 j function words s next less h l })
      st.words _ (λ o s. stop_in 0 act.End s) (λ o s l. stop_ends s.answers act.End 0 s.privates) (omega arith, omega (arith, le))

pub leave_nothing_open : LeaveNothingOpen
leave_nothing_open p n st privates answers le = (task_ends p n st privates answers le).by
