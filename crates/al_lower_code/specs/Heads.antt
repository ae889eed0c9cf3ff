-- The operations of the parts of statements that decide what is gone through: conditions, iterators, and the heads of switches and
-- alts, before the statements of their cases.
use Rattle.std.specs.Prelude.{ℕ, zero, suc, ◌+◌, ◌*◌, max, true, false, if◌then◌else◌, List, [], ◌∷◌, ◌++◌, length, sum_by, Option, Some, None}
use Rattle.al_base.specs.declared.arith.Kind.{Kind}
use Rattle.al_base.specs.declared.arith.Op.TheVariants as arith
use Rattle.al_typed.specs.declared.ty.Ty.{Ty}
use Rattle.al_typed.specs.declared.expression.TExpr.{TExpr}
use Rattle.al_typed.specs.declared.statement.TBounds.{TBounds}
use Rattle.al_typed.specs.declared.statement.TCommunication.{TCommunication}
use Rattle.al_typed.specs.declared.statement.TCommunication.TheVariants as talk
use Rattle.al_typed.specs.declared.statement.TStmt.{Case, AltCase, Row_of-TStmt, end_of-TStmt, more_of-TStmt}
use Rattle.al_typed.specs.Typed.{type_of, target_type}
use Rattle.al_meaning.specs.Words.{integer_words}
use Rattle.al_meaning.specs.Shown.{kind_of}
use Rattle.al_ir.specs.declared.ir.Operation.{Operation}
use Rattle.al_ir.specs.declared.op.TalkBranch.{TalkBranch}
use Rattle.al_ir.specs.declared.op.Op.TheVariants as op
use Rattle.al_lower_code.specs.Homes.{Spot, words, units, operation, here}
use Rattle.al_lower_code.specs.Moving.{constants, trims}
use Rattle.al_lower_code.specs.Operators.{is_long, stays, convert_code}
use Rattle.al_lower_code.specs.Coded.{Aimed, operand_slot, operand_code}
use Rattle.al_lower_code.specs.Actions.{receives_from, sends_to}
use Rattle.al_lower_code.specs.Expressions.{coded, aimed}

-- ---- expressions in statements

abbrev pub effect_code : Spot → TExpr → List Operation
effect_code s e = (coded s e).effect s.turns

abbrev pub optional_code : Spot → Option TExpr → List Operation
optional_code s (Some e) = effect_code s e
optional_code s None = []

-- so many operations behind these are left out where a condition does not hold
abbrev pub test_code : Spot → TExpr → (count : ℕ) → List Operation
test_code s e count = (coded s e).unless s.turns count

abbrev pub optional_test : Spot → Option TExpr → (count : ℕ) → List Operation
optional_test s (Some e) count = test_code s e count
optional_test s None count = []

abbrev pub test_size : Spot → TExpr → ℕ
test_size s e = length (test_code s e 0)

abbrev pub optional_size : Spot → Option TExpr → ℕ
optional_size s e = length (optional_test s e 0)

-- ---- iterators

-- the bounds of iterators, one behind the other
abbrev pub bounds_code : Spot → List TBounds → (to : ℕ) → List Operation
bounds_code s [] to = []
bounds_code s (b ∷ bs) to =
    (coded s b.from).value to to ++ ((coded s b.to).value (to + 1) (to + 1) ++ bounds_code s bs (to + 2))

-- The turns of iterators stand from `turn` on, and their bounds from `bound` on. In each turn of all of them the operations of the
-- body are gone through. The first operation is the one of number pc.
abbrev pub turns_code : Spot → (count turn bound : ℕ) → (body : List Operation) → (pc : ℕ) → List Operation
turns_code s zero turn bound body pc = body
turns_code s (suc n) turn bound body pc =
    let inner = turns_code s n (turn + 1) (bound + 2) body (pc + 2) in
    operation s.line (op.Copy turn bound)
    ∷ operation s.line (op.SkipUnless arith.Lt true turn (bound + 1) (length inner + 2))
    ∷ inner ++ operation s.line (op.WordBy arith.Add true turn turn 1) ∷ operation s.line (op.Turn (pc + 1)) ∷ []

abbrev pub value_code : Spot → List TBounds → TExpr → (pc : ℕ) → List Operation
value_code s [] e pc = effect_code s e
value_code s (b ∷ bs) e pc =
    let n = length (b ∷ bs) in
    let bounds = bounds_code s (b ∷ bs) (s.turns + n) in
    bounds ++ turns_code s n s.turns (s.turns + n) ((coded s e).effect (s.turns + 3 * n)) (pc + length bounds)

-- ---- switches

-- a jump to the place of a case where a value in a slot has its bits
abbrev pub case_test : Spot → Kind → (at free bits place : ℕ) → List Operation
case_test s k at free bits place =
    if is_long k
    then constants s.line free (integer_words k bits) ++ operation s.line (op.Long arith.Eq false free at free) ∷ operation s.line (op.SkipIfZero free 1) ∷ operation s.line (op.GoTo place) ∷ []
    else constants s.line free (integer_words k bits) ++ operation s.line (op.SkipUnless arith.Eq false at free 1) ∷ operation s.line (op.GoTo place) ∷ []

-- where a case of a switch begins
pub record CasePlace : Type 0 where
  pub bits : ℕ
  pub place : ℕ

abbrev pub case_tests : Spot → Kind → (at free : ℕ) → List CasePlace → List Operation
case_tests s k at free [] = []
case_tests s k at free (c ∷ cs) = case_test s k at free c.bits c.place ++ case_tests s k at free cs

-- the value, a test for each case, and a jump to the default or behind the switch
abbrev pub switch_head : Spot → TExpr → List CasePlace → (otherwise : ℕ) → List Operation
switch_head s e cases otherwise =
    let c = coded s e in
    let at = operand_slot c s.turns in
    operand_code c s.turns ++ (case_tests s (kind_of (type_of e)) at (s.turns + words s (type_of e)) cases ++ here s (op.GoTo otherwise))

-- ---- alts

abbrev pub talk_size : Spot → TCommunication → ℕ
talk_size s (talk.Receive t chan) = 1
talk_size s (talk.ReceiveInto t target chan) = 1
talk_size s (talk.Send chan value) = 1 + words s (type_of value)

-- the channels and values of cases, one behind the other
abbrev pub talk_code : Spot → TCommunication → (to : ℕ) → List Operation
talk_code s (talk.Receive t chan) to = (coded s chan).value to to
talk_code s (talk.ReceiveInto t target chan) to = (coded s chan).value to to
talk_code s (talk.Send chan value) to = (coded s chan).value to to ++ (coded s value).value (to + 1) (to + 1)

abbrev pub talks_code : Spot → List TCommunication → (to : ℕ) → List Operation
talks_code s [] to = []
talks_code s (c ∷ cs) to = talk_code s c to ++ talks_code s cs (to + talk_size s c)

abbrev pub talk_branch : Spot → TCommunication → (at : ℕ) → TalkBranch
talk_branch s (talk.Receive t chan) at = receives_from at (words s t)
talk_branch s (talk.ReceiveInto t target chan) at = receives_from at (words s t)
talk_branch s (talk.Send chan value) at = sends_to at (words s (type_of value)) (at + 1)

abbrev pub talk_branches : Spot → List TCommunication → (at : ℕ) → List TalkBranch
talk_branches s [] at = []
talk_branches s (c ∷ cs) at = talk_branch s c at ∷ talk_branches s cs (at + talk_size s c)

-- how many words a case receives
abbrev pub received_words : Spot → TCommunication → ℕ
received_words s (talk.Receive t chan) = words s t
received_words s (talk.ReceiveInto t target chan) = words s t
received_words s (talk.Send chan value) = 0

abbrev pub most_received : Spot → List TCommunication → ℕ
most_received s [] = 0
most_received s (c ∷ cs) = max (received_words s c) (most_received s cs)

-- A value that was received is converted where it does not stay as it is; then the places are found, and it goes there.
abbrev pub received_code : Spot → (from into : Ty) → Aimed → (got free : ℕ) → List Operation
received_code s from into target got free =
    trims s.line got (units s from)
    ++ (if stays from into then target.code free ++ target.save free got
    else convert_code s from into free got ++ (target.code (free + words s into) ++ target.save (free + words s into) free))

-- what the case that went does with what it received
abbrev pub went_code : Spot → TCommunication → (got free : ℕ) → List Operation
went_code s (talk.ReceiveInto t target chan) got free = received_code s t (target_type target) (aimed s target) got free
went_code s _ got free = []

-- A test of the branch that went for each case but the last; then what it does with what it received, and a jump to its body.
abbrev pub dispatch : Spot → (number : ℕ) → List TCommunication → (bodies : List ℕ) → (branch got free : ℕ) → List Operation
dispatch s i (c ∷ []) (body ∷ bodies) branch got free = went_code s c got free ++ here s (op.GoTo body)
dispatch s i (c ∷ more ∷ cs) (body ∷ bodies) branch got free =
    let went = went_code s c got free in
    operation s.line (op.Constant free i) ∷ operation s.line (op.SkipUnless arith.Eq false branch free (length went + 1))
    ∷ went ++ operation s.line (op.GoTo body) ∷ dispatch s (i + 1) (more ∷ cs) bodies branch got free
dispatch s i _ _ branch got free = []

-- the slots behind the channels and values of so many cases: the branch that went, four for each record, what was received, and
-- free ones
abbrev pub alt_head : Spot → List TCommunication → (bodies : List ℕ) → List Operation
alt_head s cs bodies =
    let branch = s.turns + sum_by (talk_size s) cs in
    let got = branch + 1 + 4 * length cs in
    talks_code s cs s.turns ++ (here s (op.Talk (talk_branches s cs s.turns) (branch + 1) branch got)
    ++ dispatch s 0 cs bodies branch got (got + most_received s cs))

abbrev pub cases_in : {m : _} → Row_of-TStmt m → List TCommunication
cases_in end_of-TStmt = []
cases_in (more_of-TStmt (AltCase c) rest) = c ∷ cases_in rest
cases_in (more_of-TStmt a rest) = cases_in rest

abbrev pub zero_places : List TCommunication → List ℕ
zero_places [] = []
zero_places (c ∷ cs) = 0 ∷ zero_places cs

abbrev pub alt_size : Spot → List TCommunication → ℕ
alt_size s cs = length (alt_head s cs (zero_places cs))

abbrev pub zero_cases : {m : _} → Row_of-TStmt m → List CasePlace
zero_cases end_of-TStmt = []
zero_cases (more_of-TStmt (Case _ bits) rest) = record { bits = bits; place = 0 } ∷ zero_cases rest
zero_cases (more_of-TStmt a rest) = zero_cases rest

abbrev pub switch_size : Spot → TExpr → List CasePlace → ℕ
switch_size s e cases = length (switch_head s e cases 0)
