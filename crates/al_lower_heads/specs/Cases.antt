-- The cases of switches and alts in lists of statements.
use denote.Ref.{Bor}
use Rattle.std.specs.Prelude.{ℕ, ◌+◌, false, List, [], ◌∷◌, ◌++◌, length, map}
use Rattle.al_base.specs.declared.arith.Op.TheVariants as arith
use Rattle.al_typed.specs.declared.statement.TCommunication.{TCommunication}
use Rattle.al_typed.specs.declared.statement.TStmt.{TStmt, AltCase, Case}
use Rattle.al_ir.specs.declared.ir.Operation.{Operation}
use Rattle.al_ir.specs.declared.op.Op.TheVariants as op
use Rattle.al_lower_code.specs.Homes.{Spot, operation}
use Rattle.al_lower_code.specs.Heads as heads
use Rattle.al_lower_heads.specs.declared.switches.CasePlace.{CasePlace}

-- lists of references stand for lists of what they refer to
abbrev pub referred : {A : Type 0} → List (Bor A) → List A
referred rs = map (λ r. r.now) rs

-- where a case begins, as the code has it
abbrev pub case_of : CasePlace → heads.CasePlace
case_of c = record { bits = c.bits; place = c.place }

-- the case of a switch that a statement is the label of, with no place yet
abbrev pub zero_case_of : TStmt → List heads.CasePlace
zero_case_of (Case _ bits) = record { bits = bits; place = 0 } ∷ []
zero_case_of _ = []

abbrev pub zero_cases_of : List TStmt → List heads.CasePlace
zero_cases_of [] = []
zero_cases_of (a ∷ rest) = zero_case_of a ++ zero_cases_of rest

-- the communication that a statement is the case of
abbrev pub communication_of : TStmt → List TCommunication
communication_of (AltCase c) = c ∷ []
communication_of _ = []

abbrev pub communications : List TStmt → List TCommunication
communications [] = []
communications (a ∷ rest) = communication_of a ++ communications rest

-- what is done for a case of an alt that is not the last one
abbrev pub tested : Spot → (number : ℕ) → TCommunication → (body branch got free : ℕ) → List Operation
tested s i c body branch got free =
    let went = heads.went_code s c got free in
    operation s.line (op.Constant free i) ∷ operation s.line (op.SkipUnless arith.Eq false branch free (length went + 1))
    ∷ went ++ operation s.line (op.GoTo body) ∷ []
