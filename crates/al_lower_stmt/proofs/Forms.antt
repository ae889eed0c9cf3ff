-- Each form of statement by its parts: how many operations it has, the operations, and where labels stand in it.
use Rattle.std.proofs.Common.{◌≡◌, ℕ, ◌+◌, List, ◌++◌, length, Option, Some, None, refl, ap, ap₂, ◌∙◌, arith}
use Rattle.std.specs.Prelude.{◌==◌, if◌then◌else◌, unwrap_or}
use Rattle.al_typed.specs.declared.expression.TExpr.{TExpr}
use Rattle.al_typed.specs.declared.statement.TBounds.{TBounds}
use Rattle.al_typed.specs.declared.statement.TStmt.{TStmt}
use Rattle.al_typed.specs.declared.statement.TStmt.TheBlock.{hidden-the_row-TStmt-0, hidden-the_row-TStmt-1}
use Rattle.al_typed.specs.declared.statement.TStmt.TheVariants as stmt
use denote.Hole.Carrier.{hidden}
use Rattle.al_meaning.specs.Parts.{first_of_two}
use Rattle.al_ir.specs.declared.ir.Operation.{Operation}
use Rattle.al_ir.specs.declared.op.Op.TheVariants as op
use Rattle.al_lower_code.specs.Homes.{Spot, at_line, here}
use Rattle.al_lower_code.specs.Heads.{CasePlace, optional_code, test_size, optional_size, value_code, switch_head, switch_size, alt_head, alt_size, cases_in, zero_cases}
use Rattle.al_typed.specs.declared.statement.TCommunication.{TCommunication}
use Rattle.al_lower_code.specs.Statements.{Targets, Onward, stmt_size, stmt_code, place_of, at_level, again_code, in_cases, all_size, all_code, case_places, default_place, body_places}
use Rattle.al_lower_heads.specs.Cases.{communications, zero_cases_of}
use Rattle.al_lower_heads.proofs.Rows.{cases_are as communications_are, zero_cases_are}
use Rattle.al_lower_stmt.specs.Bodies.{sizes, size_of_other, codes_from, place_from, place_of_other, cases_from, default_from, bodies_from, if_code, while_code, do_code, for_code, switch_code, alt_code}
use Rattle.al_lower_stmt.proofs.Rows.{sizes_are, codes_are, places_are, cases_are, default_is, bodies_are}

-- ---- how many operations

pub size-Block : (s : Spot) (line : ℕ) (body : List TStmt) → stmt_size s (stmt.Block line body) ≡ sizes s body
size-Block s line body = sizes_are s body

pub size-Value : (s : Spot) (line : ℕ) (bs : List TBounds) (e : TExpr) → stmt_size s (stmt.Value line bs e) ≡ length (value_code (at_line line s) bs e 0)
size-Value s line bs e = refl

pub size-Label : (s : Spot) (line number : ℕ) (body : TStmt) → stmt_size s (stmt.Label line number body) ≡ stmt_size s body
unfolding hidden-the_row-TStmt-1 hidden
size-Label s line number body = refl

pub size-If : (s : Spot) (line : ℕ) (test : TExpr) (chosen : TStmt) (other : Option TStmt)
    → stmt_size s (stmt.If line test chosen other) ≡ test_size (at_line line s) test + (stmt_size s chosen + size_of_other s other)
unfolding hidden-the_row-TStmt-1 hidden
size-If s line test chosen None = refl
size-If s line test chosen (Some other) = refl

pub size-While : (s : Spot) (line : ℕ) (test : TExpr) (body : TStmt)
    → stmt_size s (stmt.While line test body) ≡ test_size (at_line line s) test + (stmt_size s body + 1)
unfolding hidden-the_row-TStmt-1 hidden
size-While s line test body = refl

test_behind : (n m : ℕ) → n + (m + 1) ≡ m + (n + 1)
test_behind n m = omega arith

pub size-Do : (s : Spot) (line : ℕ) (body : TStmt) (test : TExpr)
    → stmt_size s (stmt.Do line body test) ≡ test_size (at_line line s) test + (stmt_size s body + 1)
unfolding hidden-the_row-TStmt-1 hidden
size-Do s line body test = test_behind (stmt_size s body) (test_size (at_line line s) test)

pub size-For : (s : Spot) (line : ℕ) (start test step : Option TExpr) (body : TStmt)
    → stmt_size s (stmt.For line start test step body)
    ≡ length (optional_code (at_line line s) start) + (optional_size (at_line line s) test + (stmt_size s body + (length (optional_code (at_line line s) step) + 1)))
unfolding hidden-the_row-TStmt-1 hidden
size-For s line start test step body = refl

pub size-Switch : (s : Spot) (line : ℕ) (e : TExpr) (body : List TStmt)
    → stmt_size s (stmt.Switch line e body) ≡ switch_size (at_line line s) e (zero_cases_of body) + sizes s body
size-Switch s line e body =
    ap₂ (λ (cs : List CasePlace) (n : ℕ). switch_size (at_line line s) e cs + n) (zero_cases_are body) (sizes_are s body)

pub size-Alt : (s : Spot) (line : ℕ) (body : List TStmt)
    → stmt_size s (stmt.Alt line body) ≡ alt_size (at_line line s) (communications body) + sizes s body
size-Alt s line body =
    ap₂ (λ (cs : List TCommunication) (n : ℕ). alt_size (at_line line s) cs + n) (communications_are body) (sizes_are s body)

pub size-Rescue : (s : Spot) (line number : ℕ) (body : TStmt) → stmt_size s (stmt.Rescue line number body) ≡ 1 + stmt_size s body
unfolding hidden-the_row-TStmt-1 hidden
size-Rescue s line number body = refl

-- ---- the operations

pub code-Block : (s : Spot) (c : Targets) (line : ℕ) (body : List TStmt) (pc : ℕ) → stmt_code s c (stmt.Block line body) pc ≡ codes_from s c body pc
code-Block s c line body pc = codes_are s c body pc

pub code-Value : (s : Spot) (c : Targets) (line : ℕ) (bs : List TBounds) (e : TExpr) (pc : ℕ)
    → stmt_code s c (stmt.Value line bs e) pc ≡ value_code (at_line line s) bs e pc
code-Value s c line bs e pc = refl

pub code-Label : (s : Spot) (c : Targets) (line number : ℕ) (body : TStmt) (pc : ℕ) → stmt_code s c (stmt.Label line number body) pc ≡ stmt_code s c body pc
unfolding hidden-the_row-TStmt-1 hidden
code-Label s c line number body pc = refl

pub code-If : (s : Spot) (c : Targets) (line : ℕ) (test : TExpr) (chosen : TStmt) (other : Option TStmt) (pc : ℕ)
    → stmt_code s c (stmt.If line test chosen other) pc ≡ if_code s line c test chosen other pc
unfolding hidden-the_row-TStmt-1 hidden
code-If s c line test chosen None pc = refl
code-If s c line test chosen (Some other) pc = refl

pub code-While : (s : Spot) (c : Targets) (line : ℕ) (test : TExpr) (body : TStmt) (pc : ℕ)
    → stmt_code s c (stmt.While line test body) pc ≡ while_code s line c test body pc
unfolding hidden-the_row-TStmt-1 hidden
code-While s c line test body pc = refl

pub code-Do : (s : Spot) (c : Targets) (line : ℕ) (body : TStmt) (test : TExpr) (pc : ℕ)
    → stmt_code s c (stmt.Do line body test) pc ≡ do_code s line c body test pc
unfolding hidden-the_row-TStmt-1 hidden
code-Do s c line body test pc = refl

pub code-For : (s : Spot) (c : Targets) (line : ℕ) (start test step : Option TExpr) (body : TStmt) (pc : ℕ)
    → stmt_code s c (stmt.For line start test step body) pc ≡ for_code s line c start test step body pc
unfolding hidden-the_row-TStmt-1 hidden
code-For s c line start test step body pc = refl

-- the body of a switch that begins there
switch_at : Spot → (line : ℕ) → Targets → TExpr → List TStmt → (begin : ℕ) → List Operation
switch_at s line c e body begin =
    switch_head (at_line line s) e (cases_from s body begin) (unwrap_or (default_from s body begin) (begin + sizes s body))
    ++ codes_from s (in_cases (begin + sizes s body) c) body begin

switched : (s : Spot) (c : Targets) (line : ℕ) (e : TExpr) (body : List TStmt) (begin : ℕ)
    → switch_head (at_line line s) e (case_places s (hidden-the_row-TStmt-0 body) begin)
    (unwrap_or (default_place s (hidden-the_row-TStmt-0 body) begin) (begin + all_size s (hidden-the_row-TStmt-0 body)))
    ++ all_code s (in_cases (begin + all_size s (hidden-the_row-TStmt-0 body)) c) (hidden-the_row-TStmt-0 body) begin
    ≡ switch_at s line c e body begin
unfolding switch_at
switched s c line e body begin =
    ap₂ (λ (cs : List CasePlace) (ops : List Operation). switch_head (at_line line s) e cs (unwrap_or (default_place s (hidden-the_row-TStmt-0 body) begin) (begin + all_size s (hidden-the_row-TStmt-0 body))) ++ ops)
    (cases_are s body begin) (codes_are s (in_cases (begin + all_size s (hidden-the_row-TStmt-0 body)) c) body begin)
    ∙ ap₂ (λ (p : Option ℕ) (n : ℕ). switch_head (at_line line s) e (cases_from s body begin) (unwrap_or p (begin + n)) ++ codes_from s (in_cases (begin + n) c) body begin)
    (default_is s body begin) (sizes_are s body)

pub code-Switch : (s : Spot) (c : Targets) (line : ℕ) (e : TExpr) (body : List TStmt) (pc : ℕ)
    → stmt_code s c (stmt.Switch line e body) pc ≡ switch_code s line c e body pc
unfolding switch_at
code-Switch s c line e body pc =
    switched s c line e body (pc + switch_size (at_line line s) e (zero_cases (hidden-the_row-TStmt-0 body)))
    ∙ ap (λ (cs : List CasePlace). switch_at s line c e body (pc + switch_size (at_line line s) e cs)) (zero_cases_are body)

-- the body of an alt that begins there
alt_at : Spot → (line : ℕ) → Targets → List TStmt → List TCommunication → (begin : ℕ) → List Operation
alt_at s line c body talks begin = alt_head (at_line line s) talks (bodies_from s body begin) ++ codes_from s (in_cases (begin + sizes s body) c) body begin

talked : (s : Spot) (c : Targets) (line : ℕ) (body : List TStmt) (talks : List TCommunication) (begin : ℕ)
    → alt_head (at_line line s) talks (body_places s (hidden-the_row-TStmt-0 body) begin)
    ++ all_code s (in_cases (begin + all_size s (hidden-the_row-TStmt-0 body)) c) (hidden-the_row-TStmt-0 body) begin
    ≡ alt_at s line c body talks begin
unfolding alt_at
talked s c line body talks begin =
    ap₂ (λ (ps : List ℕ) (ops : List Operation). alt_head (at_line line s) talks ps ++ ops)
    (bodies_are s body begin) (codes_are s (in_cases (begin + all_size s (hidden-the_row-TStmt-0 body)) c) body begin)
    ∙ ap (λ (n : ℕ). alt_head (at_line line s) talks (bodies_from s body begin) ++ codes_from s (in_cases (begin + n) c) body begin) (sizes_are s body)

pub code-Alt : (s : Spot) (c : Targets) (line : ℕ) (body : List TStmt) (pc : ℕ)
    → stmt_code s c (stmt.Alt line body) pc ≡ alt_code s line c body pc
unfolding alt_at
code-Alt s c line body pc =
    talked s c line body (cases_in (hidden-the_row-TStmt-0 body)) (pc + alt_size (at_line line s) (cases_in (hidden-the_row-TStmt-0 body)))
    ∙ ap (λ (cs : List TCommunication). alt_at s line c body cs (pc + alt_size (at_line line s) cs)) (communications_are body)

pub code-Rescue : (s : Spot) (c : Targets) (line number : ℕ) (body : TStmt) (pc : ℕ)
    → stmt_code s c (stmt.Rescue line number body) pc ≡ here (at_line line s) (op.Skip (stmt_size s body)) ++ stmt_code s c body (pc + 1)
unfolding hidden-the_row-TStmt-1 hidden
code-Rescue s c line number body pc = refl

pub code-Raise : (s : Spot) (c : Targets) (line rescue pc : ℕ) → stmt_code s c (stmt.Raise line rescue) pc ≡ here (at_line line s) (op.Turn (c.label rescue))
code-Raise s c line rescue pc = refl

pub code-Goto : (s : Spot) (c : Targets) (line label pc : ℕ) → stmt_code s c (stmt.Goto line label) pc ≡ here (at_line line s) (op.Turn (c.label label))
code-Goto s c line label pc = refl

pub code-Break : (s : Spot) (c : Targets) (line levels pc : ℕ) → stmt_code s c (stmt.Break line levels) pc ≡ here (at_line line s) (op.GoTo (at_level 0 levels c.behind))
code-Break s c line levels pc = refl

pub code-Continue : (s : Spot) (c : Targets) (line levels pc : ℕ) → stmt_code s c (stmt.Continue line levels) pc ≡ again_code line (at_level (Onward 0) levels c.again)
code-Continue s c line levels pc = refl

-- ---- where labels stand

pub place-Block : (s : Spot) (l line : ℕ) (body : List TStmt) (pc : ℕ) → place_of s l (stmt.Block line body) pc ≡ place_from s l body pc
place-Block s l line body pc = places_are s l body pc

pub place-Label : (s : Spot) (l line number : ℕ) (body : TStmt) (pc : ℕ)
    → place_of s l (stmt.Label line number body) pc ≡ (if number == l then Some pc else place_of s l body pc)
unfolding hidden-the_row-TStmt-1 hidden
place-Label s l line number body pc = refl

pub place-If : (s : Spot) (l line : ℕ) (test : TExpr) (chosen : TStmt) (other : Option TStmt) (pc : ℕ)
    → place_of s l (stmt.If line test chosen other) pc
    ≡ first_of_two (place_of s l chosen (pc + test_size (at_line line s) test)) (place_of_other s l other (pc + test_size (at_line line s) test + stmt_size s chosen))
unfolding hidden-the_row-TStmt-1 hidden
place-If s l line test chosen None pc = refl
place-If s l line test chosen (Some other) pc = refl

pub place-While : (s : Spot) (l line : ℕ) (test : TExpr) (body : TStmt) (pc : ℕ)
    → place_of s l (stmt.While line test body) pc ≡ place_of s l body (pc + test_size (at_line line s) test)
unfolding hidden-the_row-TStmt-1 hidden
place-While s l line test body pc = refl

pub place-Do : (s : Spot) (l line : ℕ) (body : TStmt) (test : TExpr) (pc : ℕ) → place_of s l (stmt.Do line body test) pc ≡ place_of s l body pc
unfolding hidden-the_row-TStmt-1 hidden
place-Do s l line body test pc = refl

pub place-For : (s : Spot) (l line : ℕ) (start test step : Option TExpr) (body : TStmt) (pc : ℕ)
    → place_of s l (stmt.For line start test step body) pc
    ≡ place_of s l body (pc + length (optional_code (at_line line s) start) + optional_size (at_line line s) test)
unfolding hidden-the_row-TStmt-1 hidden
place-For s l line start test step body pc = refl

pub place-Switch : (s : Spot) (l line : ℕ) (e : TExpr) (body : List TStmt) (pc : ℕ)
    → place_of s l (stmt.Switch line e body) pc ≡ place_from s l body (pc + switch_size (at_line line s) e (zero_cases_of body))
place-Switch s l line e body pc =
    places_are s l body _ ∙ ap (λ (cs : List CasePlace). place_from s l body (pc + switch_size (at_line line s) e cs)) (zero_cases_are body)

pub place-Alt : (s : Spot) (l line : ℕ) (body : List TStmt) (pc : ℕ)
    → place_of s l (stmt.Alt line body) pc ≡ place_from s l body (pc + alt_size (at_line line s) (communications body))
place-Alt s l line body pc =
    places_are s l body _ ∙ ap (λ (cs : List TCommunication). place_from s l body (pc + alt_size (at_line line s) cs)) (communications_are body)

pub place-Rescue : (s : Spot) (l line number : ℕ) (body : TStmt) (pc : ℕ)
    → place_of s l (stmt.Rescue line number body) pc ≡ (if number == l then Some (pc + 1) else place_of s l body (pc + 1))
unfolding hidden-the_row-TStmt-1 hidden
place-Rescue s l line number body pc = refl
