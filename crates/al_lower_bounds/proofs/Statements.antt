-- The operations of statements and functions are in lines of the program.
use Rattle.std.proofs.Common.{◌≡◌, ℕ, zero, suc, ◌+◌, ◌-◌, List, [], ◌∷◌, ◌++◌, length, sym, subst}
use Rattle.std.specs.Prelude.{All, unwrap_or}
use Rattle.std.specs.List.{AllByRecursion}
use Rattle.std.proofs.lemmas.List.Elements.{All-from_recursion, recursion_from_All}
use Rattle.al_typed.specs.declared.program.Function.{Function as FunctionRow}
use Rattle.al_typed.specs.declared.program.Local.{Local as LocalRow}
use Rattle.al_typed.specs.declared.program.Program.{Program}
use Rattle.al_typed.specs.declared.statement.TStmt.{TStmt, Empty, Block', Declare, Value, If', Switch', Case, Default, Alt', AltCase, Par, Raise, Goto, Return, Become, Break, Continue, Alloc, Unalloc, Check, Proc, Task, Held-TStmt-If-3, Row_of-TStmt, end_of-TStmt, more_of-TStmt}
use Rattle.al_typed.specs.declared.statement.TStmt as stmt
use Rattle.al_typed.specs.StatementForms as part
use Rattle.al_typed.specs.Typed.{type_of}
use Rattle.al_meaning.specs.Places.{has_block}
use Rattle.al_ir.specs.declared.ir.Function.{Function}
use Rattle.al_ir.specs.declared.ir.Operation.{Operation}
use Rattle.al_ir.specs.declared.op.Op.TheVariants as op
use Rattle.al_lower_code.specs.Homes.{Spot, at_line, block_home, here, local_home, offset_in, words}
use Rattle.al_lower_code.specs.Moving.{zeros}
use Rattle.al_lower_code.specs.Expressions.{coded}
use Rattle.al_lower_code.specs.Simple.{frees_block}
use Rattle.al_lower_code.specs.Heads.{alt_size, cases_in, optional_code, optional_size, optional_test, switch_head, switch_size, test_code, test_size, zero_cases, alt_head}
use Rattle.al_lower_code.specs.Statements.{Again, Onward, Targets, Turned, again_code, all_code, all_size, at_level, before_other, body_places, case_places, default_place, in_cases, in_loop, other_code, stmt_code, stmt_size}
use Rattle.al_lower_code.specs.Functions.{clears_locals, epilogue, function_code, functions_from, lowered, parameter_layout, prologue, spot_of, stores_parameter, stores_parameters, takes_block, targets_of}
use Rattle.al_lower_bounds.specs.Lines.{LinesIn, LinesInAll, LinesInOther, LinesOf, LinesOfFunction}
use Rattle.al_lower_bounds.proofs.Pieces.{AreAt, chosen, joined, none, one, store_by_at, zeros_at}
use Rattle.al_lower_bounds.proofs.Terms.{coded_at}
use Rattle.al_lower_bounds.proofs.Heads as head

module _ (P : ℕ → Type 0) where
  -- operations in such lines
  record Keep (ops : List Operation) : Type 0 where
    each : AllByRecursion (λ (o : Operation). P o.line) ops

  all_kept_at : (line : ℕ) (ops : List Operation) → P line → AllByRecursion (λ (o : Operation). o.line ≡ line) ops → AllByRecursion (λ (o : Operation). P o.line) ops
  all_kept_at line [] x h = tt
  all_kept_at line (o ∷ ops) x h = (subst P (sym h.0) x, all_kept_at line ops x h.1)

  kept : {line : ℕ} {ops : List Operation} → P line → AreAt line ops → Keep ops
  kept {line} {ops} x h = record { each = all_kept_at line ops x h.each }

  nothing : Keep []
  nothing = record { each = tt }

  all_both : (xs ys : List Operation) → AllByRecursion (λ (o : Operation). P o.line) xs → AllByRecursion (λ (o : Operation). P o.line) ys → AllByRecursion (λ (o : Operation). P o.line) (xs ++ ys)
  all_both [] ys h k = k
  all_both (x ∷ xs) ys h k = (h.0, all_both xs ys h.1 k)

  both : (xs : List Operation) {ys : List Operation} → Keep xs → Keep ys → Keep (xs ++ ys)
  both xs {ys} h k = record { each = all_both xs ys h.each k.each }

  -- loops that go on in such lines
  abbrev GoesOn : Again → Type 0
  GoesOn (Turned line place) = P line
  GoesOn (Onward place) = Unit {0}

  goes_on : (levels : ℕ) (again : List Again) → AllByRecursion GoesOn again → GoesOn (at_level (Onward 0) levels again)
  goes_on zero again h = tt
  goes_on (suc n) [] h = tt
  goes_on (suc zero) (a ∷ again) h = h.0
  goes_on (suc (suc n)) (a ∷ again) h = goes_on (suc n) again h.1

  again_kept : (line : ℕ) (a : Again) → P line → GoesOn a → Keep (again_code line a)
  again_kept line (Turned at place) x h = kept h one
  again_kept line (Onward place) x h = kept x one

  module _ (s : Spot) where
    mutual
      unfolding LinesIn LinesInAll LinesInOther

      stmt_kept : (c : Targets) → AllByRecursion GoesOn c.again → (a : TStmt) (pc : ℕ) → LinesIn P a → Keep (stmt_code s c a pc)
      stmt_kept c g (Empty line) pc h = nothing
      stmt_kept c g (Block' line _ body) pc h = all_kept c g body pc h.1
      stmt_kept c g (Declare line is) pc h = kept h (head.declare_at (at_line line s) is)
      stmt_kept c g (Value line bs e) pc h = kept h (head.value_at (at_line line s) bs e pc)
      stmt_kept c g (part.label line number body) pc h = stmt_kept c g body pc h.1
      stmt_kept c g (If' line test _ (more_of-TStmt body end_of-TStmt) other) pc h =
          let at = at_line line s in
          let size = test_size at test in
          both (test_code at test (stmt_size s body + before_other other)) (kept h.0 (head.test_at at test (stmt_size s body + before_other other)))
          (both (stmt_code s c body (pc + size)) (stmt_kept c g body (pc + size) h.1.0) (other_kept line h.0 c g other (pc + size + stmt_size s body) h.1.1))
      stmt_kept c g (part.while_loop line test body) pc h =
          let at = at_line line s in
          let size = test_size at test in
          let d = in_loop (pc + size + stmt_size s body + 1) (Turned line pc) c in
          both (test_code at test (stmt_size s body + 1)) (kept h.0 (head.test_at at test (stmt_size s body + 1)))
          (both (stmt_code s d body (pc + size)) (stmt_kept d (h.0, g) body (pc + size) h.1) (kept h.0 one))
      stmt_kept c g (part.do_loop line body test) pc h =
          let at = at_line line s in
          let end = pc + stmt_size s body in
          let d = in_loop (end + test_size at test + 1) (Onward end) c in
          both (stmt_code s d body pc) (stmt_kept d (tt, g) body pc h.1) (both (test_code at test 1) (kept h.0 (head.test_at at test 1)) (kept h.0 one))
      stmt_kept c g (part.for_loop line start test step body) pc h =
          let at = at_line line s in
          let begin = optional_code at start in
          let next = optional_code at step in
          let round = pc + length begin in
          let size = optional_size at test in
          let end = round + size + stmt_size s body in
          let d = in_loop (end + length next + 1) (Onward end) c in
          both begin (kept h.0 (head.optional_at at start))
          (both (optional_test at test (stmt_size s body + (length next + 1))) (kept h.0 (head.optional_test_at at test (stmt_size s body + (length next + 1))))
          (both (stmt_code s d body (round + size)) (stmt_kept d (tt, g) body (round + size) h.1) (both next (kept h.0 (head.optional_at at step)) (kept h.0 one))))
      stmt_kept c g (Switch' line e _ body) pc h =
          let at = at_line line s in
          let begin = pc + switch_size at e (zero_cases body) in
          let end = begin + all_size s body in
          both (switch_head at e (case_places s body begin) (unwrap_or (default_place s body begin) end))
          (kept h.0 (head.switch_at at e (case_places s body begin) (unwrap_or (default_place s body begin) end))) (all_kept (in_cases end c) g body begin h.1)
      stmt_kept c g (Case label bits) pc h = nothing
      stmt_kept c g Default pc h = nothing
      stmt_kept c g (Alt' line _ body) pc h =
          let at = at_line line s in
          let begin = pc + alt_size at (cases_in body) in
          both (alt_head at (cases_in body) (body_places s body begin)) (kept h.0 (head.alt_at at (cases_in body) (body_places s body begin))) (all_kept (in_cases (begin + all_size s body) c) g body begin h.1)
      stmt_kept c g (AltCase communication) pc h = nothing
      stmt_kept c g (Par line branches) pc h = kept h (head.par_at (at_line line s) branches)
      stmt_kept c g (part.rescue line number body) pc h = both (here (at_line line s) (op.Skip (stmt_size s body))) (kept h.0 one) (stmt_kept c g body (pc + 1) h.1)
      stmt_kept c g (Raise line rescue) pc h = kept h one
      stmt_kept c g (Goto line label) pc h = kept h one
      stmt_kept c g (Return line value) pc h = kept h (head.return_at (at_line line s) value)
      stmt_kept c g (Become line call) pc h = kept h (head.become_at (at_line line s) call)
      stmt_kept c g (Break line levels) pc h = kept h one
      stmt_kept c g (Continue line levels) pc h = again_kept line (at_level (Onward 0) levels c.again) h (goes_on levels c.again g)
      stmt_kept c g (Alloc line places) pc h = kept h (head.alloc_at (at_line line s) places)
      stmt_kept c g (Unalloc line values) pc h = kept h (head.unalloc_at (at_line line s) values)
      stmt_kept c g (Check line e) pc h = kept h (head.check_at (at_line line s) (words s (type_of e)) (coded (at_line line s) e) (coded_at (at_line line s) e))
      stmt_kept c g (Proc line calls) pc h = kept h (head.starts_at (at_line line s) op.Proc calls)
      stmt_kept c g (Task line calls) pc h = kept h (head.starts_at (at_line line s) op.Task calls)

      other_kept : (line : ℕ) → P line → (c : Targets) → AllByRecursion GoesOn c.again → (other : Held-TStmt-If-3) (pc : ℕ) → LinesInOther P other → Keep (other_code s line c other pc)
      other_kept line x c g stmt.None' pc h = nothing
      other_kept line x c g (stmt.Some' _ (more_of-TStmt other end_of-TStmt)) pc h = both (here (at_line line s) (op.Skip (stmt_size s other))) (kept x one) (stmt_kept c g other (pc + 1) h)

      all_kept : (c : Targets) → AllByRecursion GoesOn c.again → {m : _} (row : Row_of-TStmt m) (pc : ℕ) → LinesInAll P row → Keep (all_code s c row pc)
      all_kept c g end_of-TStmt pc h = nothing
      all_kept c g (more_of-TStmt a rest) pc h = both (stmt_code s c a pc) (stmt_kept c g a pc h.0) (all_kept c g rest (pc + stmt_size s a) h.1)

    -- ---- functions

    stores_at : (f : FunctionRow) (number : ℕ) (l : LocalRow) → AreAt s.line (stores_parameter s f number l)
    stores_at f number l =
        chosen l.is_shared (store_by_at s (parameter_layout s number f l) l.ty (block_home s.program s.function) (offset_in s.program s.function number) (local_home s.program s.function number)) none

    all_stores_at : (f : FunctionRow) (number count : ℕ) (ls : List LocalRow) → AreAt s.line (stores_parameters s f number count ls)
    all_stores_at f number zero ls = none
    all_stores_at f number (suc n) [] = none
    all_stores_at f number (suc n) (l ∷ ls) = joined (stores_parameter s f number l) (stores_at f number l) (all_stores_at f (number + 1) n ls)

    prologue_at : (f : FunctionRow) → AreAt s.line (prologue s f)
    prologue_at f =
        joined (takes_block s f) (chosen (has_block f.locals) one none)
        (joined (clears_locals s f) (zeros_at s.line (local_home s.program s.function f.parameters) (block_home s.program s.function - local_home s.program s.function f.parameters)) (all_stores_at f 0 f.parameters f.locals))

    epilogue_at : (f : FunctionRow) → AreAt s.line (epilogue s f)
    epilogue_at f = joined (frees_block s) (head.frees_at s) (joined (zeros s.line 0 (words s f.returns)) (zeros_at s.line 0 (words s f.returns)) one)

    function_kept : (f : FunctionRow) → P s.line → LinesIn P f.body → Keep (function_code s f)
    function_kept f x h =
        both (prologue s f) (kept x (prologue_at f))
        (both (stmt_code s (targets_of s f) f.body (length (prologue s f))) (stmt_kept (targets_of s f) tt f.body (length (prologue s f)) h) (kept x (epilogue_at f)))

  abbrev FunctionIn : Function → Type 0
  FunctionIn f = P f.line × All (λ (o : Operation). P o.line) f.code

  functions_in : (p : Program) (number : ℕ) (fs : List FunctionRow) → AllByRecursion (LinesOfFunction P) fs → AllByRecursion FunctionIn (functions_from p number fs)
  functions_in p number [] h = tt
  functions_in p number (f ∷ fs) h =
      ((h.0.0, All-from_recursion (λ (o : Operation). P o.line) (function_code (spot_of p number f) f) (function_kept (spot_of p number f) f h.0.0 h.0.1).each), functions_in p (number + 1) fs h.1)

  pub lines_in : (p : Program) → LinesOf P p → All FunctionIn (lowered p).functions
  lines_in p h = All-from_recursion FunctionIn (functions_from p 0 p.functions) (functions_in p 0 p.functions (recursion_from_All (LinesOfFunction P) p.functions h))
