-- The operations of every statement. Labels stand at places of the function, and the loops, switches and alts round a statement
-- go on at others. How many operations a statement has depends on none of these, nor on where it stands.
use Rattle.std.specs.Prelude.{ℕ, zero, suc, ◌+◌, ◌==◌, if◌then◌else◌, List, [], ◌∷◌, ◌++◌, length, Option, Some, None, unwrap_or}
use Rattle.al_typed.specs.declared.statement.TStmt.{TStmt, Empty, Block', Value, If', Switch', Case, Default, Alt', AltCase, Raise, Goto, Break, Continue, Held-TStmt-If-3, Row_of-TStmt, end_of-TStmt, more_of-TStmt}
use Rattle.al_typed.specs.declared.statement.TStmt as stmt
use Rattle.al_typed.specs.StatementForms as part
use Rattle.al_meaning.specs.Parts.{first_of_two}
use Rattle.al_ir.specs.declared.ir.Operation.{Operation}
use Rattle.al_ir.specs.declared.op.Op.TheVariants as op
use Rattle.al_lower_code.specs.Homes.{Spot, at_line, operation, here}
use Rattle.al_lower_code.specs.Simple.{simple_code}
use Rattle.al_lower_code.specs.Heads.{optional_code, test_code, optional_test, test_size, optional_size, value_code, CasePlace, switch_head, zero_cases, switch_size, alt_head, cases_in, alt_size}

-- ---- where jumps lead

-- how a loop goes on with its next round: by a turn in its line to its start, or from a place further on
pub data Again : Type 0 where
  Turned : (line place : ℕ) → Again
  Onward : (place : ℕ) → Again

-- the places of labels and rescues, and those behind the loops, switches and alts round a statement, the innermost first
pub record Targets : Type 0 where
  pub label : ℕ → ℕ
  pub behind : List ℕ
  pub again : List Again

abbrev pub in_loop : (behind : ℕ) → Again → Targets → Targets
in_loop behind again c = record { label = c.label; behind = behind ∷ c.behind; again = again ∷ c.again }

abbrev pub in_cases : (behind : ℕ) → Targets → Targets
in_cases behind c = record { label = c.label; behind = behind ∷ c.behind; again = c.again }

-- the one of that number, the first being 1
abbrev pub at_level : {A : Type 0} → A → ℕ → List A → A
at_level a zero xs = a
at_level a (suc n) [] = a
at_level a (suc zero) (x ∷ xs) = x
at_level a (suc (suc n)) (x ∷ xs) = at_level a (suc n) xs

abbrev pub again_code : (line : ℕ) → Again → List Operation
again_code line (Turned at place) = operation at (op.Turn place) ∷ []
again_code line (Onward place) = operation line (op.GoTo place) ∷ []

-- ---- how many operations

abbrev mutual
  pub stmt_size : Spot → TStmt → ℕ
  stmt_size s (Block' _ _ body) = all_size s body
  stmt_size s (Value line bs e) = length (value_code (at_line line s) bs e 0)
  stmt_size s (part.label _ _ body) = stmt_size s body
  stmt_size s (If' line test _ (more_of-TStmt chosen end_of-TStmt) other) =
      test_size (at_line line s) test + (stmt_size s chosen + other_size s other)
  stmt_size s (part.while_loop line test body) = test_size (at_line line s) test + (stmt_size s body + 1)
  stmt_size s (part.do_loop line body test) = stmt_size s body + (test_size (at_line line s) test + 1)
  stmt_size s (part.for_loop line start test step body) =
      length (optional_code (at_line line s) start) + (optional_size (at_line line s) test
      + (stmt_size s body + (length (optional_code (at_line line s) step) + 1)))
  stmt_size s (Switch' line e _ body) = switch_size (at_line line s) e (zero_cases body) + all_size s body
  stmt_size s (Alt' line _ body) = alt_size (at_line line s) (cases_in body) + all_size s body
  stmt_size s (part.rescue line number body) = 1 + stmt_size s body
  stmt_size s (Raise line rescue) = 1
  stmt_size s (Goto line label) = 1
  stmt_size s (Break line levels) = 1
  stmt_size s (Continue line levels) = 1
  stmt_size s a = length (simple_code s a)

  -- with the jump over it
  pub other_size : Spot → Held-TStmt-If-3 → ℕ
  other_size s stmt.None' = 0
  other_size s (stmt.Some' _ (more_of-TStmt other end_of-TStmt)) = 1 + stmt_size s other

  pub all_size : Spot → {m : _} → Row_of-TStmt m → ℕ
  all_size s end_of-TStmt = 0
  all_size s (more_of-TStmt a rest) = stmt_size s a + all_size s rest

-- ---- where the cases of a body begin, whose first operation is the one of number pc

abbrev pub case_places : Spot → {m : _} → Row_of-TStmt m → (pc : ℕ) → List CasePlace
case_places s end_of-TStmt pc = []
case_places s (more_of-TStmt (Case _ bits) rest) pc = record { bits = bits; place = pc } ∷ case_places s rest pc
case_places s (more_of-TStmt a rest) pc = case_places s rest (pc + stmt_size s a)

abbrev pub default_place : Spot → {m : _} → Row_of-TStmt m → (pc : ℕ) → Option ℕ
default_place s end_of-TStmt pc = None
default_place s (more_of-TStmt Default rest) pc = Some pc
default_place s (more_of-TStmt a rest) pc = default_place s rest (pc + stmt_size s a)

abbrev pub body_places : Spot → {m : _} → Row_of-TStmt m → (pc : ℕ) → List ℕ
body_places s end_of-TStmt pc = []
body_places s (more_of-TStmt (AltCase c) rest) pc = pc ∷ body_places s rest pc
body_places s (more_of-TStmt a rest) pc = body_places s rest (pc + stmt_size s a)

-- the jump over what stands behind `else`
abbrev pub before_other : Held-TStmt-If-3 → ℕ
before_other stmt.None' = 0
before_other (stmt.Some' _ _) = 1

-- ---- statements

abbrev mutual
  -- a statement whose first operation is the one of number pc
  pub stmt_code : Spot → Targets → TStmt → (pc : ℕ) → List Operation
  stmt_code s c (Block' _ _ body) pc = all_code s c body pc
  stmt_code s c (Value line bs e) pc = value_code (at_line line s) bs e pc
  stmt_code s c (part.label _ number body) pc = stmt_code s c body pc
  stmt_code s c (If' line test _ (more_of-TStmt chosen end_of-TStmt) other) pc =
      let head = test_size (at_line line s) test in
      test_code (at_line line s) test (stmt_size s chosen + before_other other)
      ++ (stmt_code s c chosen (pc + head) ++ other_code s line c other (pc + head + stmt_size s chosen))
  stmt_code s c (part.while_loop line test body) pc =
      let head = test_size (at_line line s) test in
      let end = pc + head + stmt_size s body in
      test_code (at_line line s) test (stmt_size s body + 1)
      ++ (stmt_code s (in_loop (end + 1) (Turned line pc) c) body (pc + head) ++ here (at_line line s) (op.Turn pc))
  stmt_code s c (part.do_loop line body test) pc =
      let end = pc + stmt_size s body in
      stmt_code s (in_loop (end + test_size (at_line line s) test + 1) (Onward end) c) body pc
      ++ (test_code (at_line line s) test 1 ++ here (at_line line s) (op.Turn pc))
  stmt_code s c (part.for_loop line start test step body) pc =
      let begin = optional_code (at_line line s) start in
      let next = optional_code (at_line line s) step in
      let round = pc + length begin in
      let head = optional_size (at_line line s) test in
      let end = round + head + stmt_size s body in
      begin ++ (optional_test (at_line line s) test (stmt_size s body + (length next + 1))
      ++ (stmt_code s (in_loop (end + length next + 1) (Onward end) c) body (round + head) ++ (next ++ here (at_line line s) (op.Turn round))))
  stmt_code s c (Switch' line e _ body) pc =
      let begin = pc + switch_size (at_line line s) e (zero_cases body) in
      let end = begin + all_size s body in
      switch_head (at_line line s) e (case_places s body begin) (unwrap_or (default_place s body begin) end)
      ++ all_code s (in_cases end c) body begin
  stmt_code s c (Alt' line _ body) pc =
      let begin = pc + alt_size (at_line line s) (cases_in body) in
      alt_head (at_line line s) (cases_in body) (body_places s body begin)
      ++ all_code s (in_cases (begin + all_size s body) c) body begin
  stmt_code s c (part.rescue line number body) pc =
      here (at_line line s) (op.Skip (stmt_size s body)) ++ stmt_code s c body (pc + 1)
  stmt_code s c (Raise line rescue) pc = here (at_line line s) (op.Turn (c.label rescue))
  stmt_code s c (Goto line label) pc = here (at_line line s) (op.Turn (c.label label))
  stmt_code s c (Break line levels) pc = here (at_line line s) (op.GoTo (at_level 0 levels c.behind))
  stmt_code s c (Continue line levels) pc = again_code line (at_level (Onward 0) levels c.again)
  stmt_code s c a pc = simple_code s a

  -- behind what was chosen
  pub other_code : Spot → (line : ℕ) → Targets → Held-TStmt-If-3 → (pc : ℕ) → List Operation
  other_code s line c stmt.None' pc = []
  other_code s line c (stmt.Some' _ (more_of-TStmt other end_of-TStmt)) pc =
      here (at_line line s) (op.Skip (stmt_size s other)) ++ stmt_code s c other (pc + 1)

  pub all_code : Spot → Targets → {m : _} → Row_of-TStmt m → (pc : ℕ) → List Operation
  all_code s c end_of-TStmt pc = []
  all_code s c (more_of-TStmt a rest) pc = stmt_code s c a pc ++ all_code s c rest (pc + stmt_size s a)

-- ---- labels

abbrev mutual
  -- where a label or rescue stands in a statement
  pub place_of : Spot → (number : ℕ) → TStmt → (pc : ℕ) → Option ℕ
  place_of s l (Block' _ _ body) pc = place_in_row s l body pc
  place_of s l (part.label line number body) pc = if number == l then Some pc else place_of s l body pc
  place_of s l (If' line test _ (more_of-TStmt chosen end_of-TStmt) other) pc =
      let head = test_size (at_line line s) test in
      first_of_two (place_of s l chosen (pc + head)) (place_in_other s l other (pc + head + stmt_size s chosen))
  place_of s l (part.while_loop line test body) pc = place_of s l body (pc + test_size (at_line line s) test)
  place_of s l (part.do_loop line body test) pc = place_of s l body pc
  place_of s l (part.for_loop line start test step body) pc =
      place_of s l body (pc + length (optional_code (at_line line s) start) + optional_size (at_line line s) test)
  place_of s l (Switch' line e _ body) pc = place_in_row s l body (pc + switch_size (at_line line s) e (zero_cases body))
  place_of s l (Alt' line _ body) pc = place_in_row s l body (pc + alt_size (at_line line s) (cases_in body))
  place_of s l (part.rescue line number body) pc = if number == l then Some (pc + 1) else place_of s l body (pc + 1)
  place_of s l _ pc = None

  pub place_in_other : Spot → (number : ℕ) → Held-TStmt-If-3 → (pc : ℕ) → Option ℕ
  place_in_other s l stmt.None' pc = None
  place_in_other s l (stmt.Some' _ (more_of-TStmt other end_of-TStmt)) pc = place_of s l other (pc + 1)

  pub place_in_row : Spot → (number : ℕ) → {m : _} → Row_of-TStmt m → (pc : ℕ) → Option ℕ
  place_in_row s l end_of-TStmt pc = None
  place_in_row s l (more_of-TStmt a rest) pc = first_of_two (place_of s l a pc) (place_in_row s l rest (pc + stmt_size s a))
