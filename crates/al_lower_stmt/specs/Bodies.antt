-- Statements in lists, and one that may be missing: how many operations they have, where their cases and labels stand, and the
-- operations.
use Rattle.std.specs.Prelude.{ℕ, ◌+◌, Bool, true, false, if◌then◌else◌, List, [], ◌∷◌, ◌++◌, length, Option, Some, None, unwrap_or}
use Rattle.al_typed.specs.declared.expression.TExpr.{TExpr}
use Rattle.al_typed.specs.declared.statement.TStmt.{TStmt, Case, Default, AltCase}
use Rattle.al_meaning.specs.Parts.{first_of_two}
use Rattle.al_ir.specs.declared.ir.Operation.{Operation}
use Rattle.al_ir.specs.declared.op.Op.TheVariants as op
use Rattle.al_lower_code.specs.Homes.{Spot, at_line, here}
use Rattle.al_lower_code.specs.Heads.{CasePlace, optional_code, test_code, optional_test, test_size, optional_size, switch_head, switch_size, alt_head, alt_size}
use Rattle.al_lower_code.specs.Statements.{Targets, Turned, Onward, in_loop, in_cases, stmt_size, stmt_code, place_of}
use Rattle.al_lower_heads.specs.Cases.{zero_cases_of, communications}

-- ---- how many operations

abbrev pub sizes : Spot → List TStmt → ℕ
sizes s [] = 0
sizes s (a ∷ rest) = stmt_size s a + sizes s rest

-- of a statement behind `else`, with the jump over it
abbrev pub size_of_other : Spot → Option TStmt → ℕ
size_of_other s None = 0
size_of_other s (Some a) = 1 + stmt_size s a

-- the jump over it alone
abbrev pub jumps_over : Option TStmt → ℕ
jumps_over None = 0
jumps_over (Some a) = 1

-- ---- where the cases of statements begin, whose first operation is the one of number pc

abbrev pub case_at : TStmt → (pc : ℕ) → List CasePlace
case_at (Case _ bits) pc = record { bits = bits; place = pc } ∷ []
case_at _ pc = []

abbrev pub cases_from : Spot → List TStmt → (pc : ℕ) → List CasePlace
cases_from s [] pc = []
cases_from s (a ∷ rest) pc = case_at a pc ++ cases_from s rest (pc + stmt_size s a)

abbrev pub is_default : TStmt → Bool
is_default Default = true
is_default _ = false

abbrev pub default_from : Spot → List TStmt → (pc : ℕ) → Option ℕ
default_from s [] pc = None
default_from s (a ∷ rest) pc = if is_default a then Some pc else default_from s rest (pc + stmt_size s a)

abbrev pub body_at : TStmt → (pc : ℕ) → List ℕ
body_at (AltCase c) pc = pc ∷ []
body_at _ pc = []

abbrev pub bodies_from : Spot → List TStmt → (pc : ℕ) → List ℕ
bodies_from s [] pc = []
bodies_from s (a ∷ rest) pc = body_at a pc ++ bodies_from s rest (pc + stmt_size s a)

-- ---- the operations

abbrev pub codes_from : Spot → Targets → List TStmt → (pc : ℕ) → List Operation
codes_from s c [] pc = []
codes_from s c (a ∷ rest) pc = stmt_code s c a pc ++ codes_from s c rest (pc + stmt_size s a)

-- behind what was chosen
abbrev pub code_of_other : Spot → (line : ℕ) → Targets → Option TStmt → (pc : ℕ) → List Operation
code_of_other s line c None pc = []
code_of_other s line c (Some a) pc = here (at_line line s) (op.Skip (stmt_size s a)) ++ stmt_code s c a (pc + 1)

-- ---- labels

abbrev pub place_from : Spot → (number : ℕ) → List TStmt → (pc : ℕ) → Option ℕ
place_from s l [] pc = None
place_from s l (a ∷ rest) pc = first_of_two (place_of s l a pc) (place_from s l rest (pc + stmt_size s a))

abbrev pub place_of_other : Spot → (number : ℕ) → Option TStmt → (pc : ℕ) → Option ℕ
place_of_other s l None pc = None
place_of_other s l (Some a) pc = place_of s l a (pc + 1)

-- ---- statements, by their parts

abbrev pub if_code : Spot → (line : ℕ) → Targets → TExpr → TStmt → Option TStmt → (pc : ℕ) → List Operation
if_code s line c test chosen other pc =
    let head = test_size (at_line line s) test in
    test_code (at_line line s) test (stmt_size s chosen + jumps_over other)
    ++ (stmt_code s c chosen (pc + head) ++ code_of_other s line c other (pc + head + stmt_size s chosen))

abbrev pub while_code : Spot → (line : ℕ) → Targets → TExpr → TStmt → (pc : ℕ) → List Operation
while_code s line c test body pc =
    let head = test_size (at_line line s) test in
    let end = pc + head + stmt_size s body in
    test_code (at_line line s) test (stmt_size s body + 1)
    ++ (stmt_code s (in_loop (end + 1) (Turned line pc) c) body (pc + head) ++ here (at_line line s) (op.Turn pc))

abbrev pub do_code : Spot → (line : ℕ) → Targets → TStmt → TExpr → (pc : ℕ) → List Operation
do_code s line c body test pc =
    let end = pc + stmt_size s body in
    stmt_code s (in_loop (end + test_size (at_line line s) test + 1) (Onward end) c) body pc
    ++ (test_code (at_line line s) test 1 ++ here (at_line line s) (op.Turn pc))

-- all of a `for` but its start
abbrev pub rounds : Spot → (line : ℕ) → Targets → (test step : Option TExpr) → TStmt → (round : ℕ) → List Operation
rounds s line c test step body round =
    let next = optional_code (at_line line s) step in
    let head = optional_size (at_line line s) test in
    let end = round + head + stmt_size s body in
    optional_test (at_line line s) test (stmt_size s body + (length next + 1))
    ++ (stmt_code s (in_loop (end + length next + 1) (Onward end) c) body (round + head) ++ (next ++ here (at_line line s) (op.Turn round)))

abbrev pub for_code : Spot → (line : ℕ) → Targets → (start test step : Option TExpr) → TStmt → (pc : ℕ) → List Operation
for_code s line c start test step body pc =
    let begin = optional_code (at_line line s) start in
    begin ++ rounds s line c test step body (pc + length begin)

abbrev pub switch_code : Spot → (line : ℕ) → Targets → TExpr → List TStmt → (pc : ℕ) → List Operation
switch_code s line c e body pc =
    let begin = pc + switch_size (at_line line s) e (zero_cases_of body) in
    let end = begin + sizes s body in
    switch_head (at_line line s) e (cases_from s body begin) (unwrap_or (default_from s body begin) end)
    ++ codes_from s (in_cases end c) body begin

abbrev pub alt_code : Spot → (line : ℕ) → Targets → List TStmt → (pc : ℕ) → List Operation
alt_code s line c body pc =
    let begin = pc + alt_size (at_line line s) (communications body) in
    alt_head (at_line line s) (communications body) (bodies_from s body begin)
    ++ codes_from s (in_cases (begin + sizes s body) c) body begin
