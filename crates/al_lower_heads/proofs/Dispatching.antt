-- Which case of an alt went: one test after the other.
use denote.Ref.{Bor}
use Rattle.std.proofs.Common.{◌≡◌, ℕ, ◌+◌, ◌<◌, false, List, [], ◌∷◌, ◌++◌, drop, length, get_or, length-drop, sym, ap, ap₂, ◌∙◌, append_assoc, arith}
use Rattle.std.proofs.lemmas.List.{drop_more, length-map}
use Rattle.al_base.specs.declared.arith.Op.TheVariants as arithmetic
use Rattle.al_ir.specs.declared.ir.Operation.{Operation}
use Rattle.al_ir.specs.declared.op.Op.TheVariants as op
use Rattle.al_typed.specs.declared.statement.TCommunication.{TCommunication}
use Rattle.al_lower_code.specs.Homes.{Spot, here, operation}
use Rattle.al_lower_code.specs.Heads.{dispatch, went_code}
use Rattle.al_lower_heads.specs.Cases.{referred, tested}

-- the next case of those that are left
case_at : (cs : List (Bor TCommunication)) (i : ℕ) (c : Bor TCommunication) → i < length cs → c ≡ get_or cs i c
    → referred (drop i cs) ≡ c.now ∷ referred (drop (i + 1) cs)
case_at cs i c h is = ap referred (drop_more cs i c h) ∙ ap (λ (r : Bor TCommunication). r.now ∷ referred (drop (i + 1) cs)) (sym is)

-- a case before others
some_cases : (s : Spot) (i : ℕ) (c : TCommunication) (cs : List TCommunication) (body : ℕ) (bodies : List ℕ) (branch got free : ℕ) → 0 < length cs
    → dispatch s i (c ∷ cs) (body ∷ bodies) branch got free ≡ tested s i c body branch got free ++ dispatch s (i + 1) cs bodies branch got free
some_cases s i c [] body bodies branch got free h = absurd (omega arith)
some_cases s i c (d ∷ cs) body bodies branch got free h =
    let went = went_code s c got free in
    let front = operation s.line (op.Constant free i) ∷ operation s.line (op.SkipUnless arithmetic.Eq false branch free (length went + 1)) ∷ went in
    sym (append_assoc front (here s (op.GoTo body)) (dispatch s (i + 1) (d ∷ cs) bodies branch got free))

pub tested_more : (s : Spot) (cs : List (Bor TCommunication)) (k : ℕ) (c : Bor TCommunication) (bodies : List ℕ) (i branch got free : ℕ) (out all : List Operation)
    → k < length cs → c ≡ get_or cs k c → k < length bodies → k + 1 < length cs
    → out ++ dispatch s i (referred (drop k cs)) (drop k bodies) branch got free ≡ all
    → (out ++ tested s i c.now (get_or bodies k 0) branch got free) ++ dispatch s (i + 1) (referred (drop (k + 1) cs)) (drop (k + 1) bodies) branch got free ≡ all
tested_more s cs k c bodies i branch got free out all h is g another so_far =
    let others = referred (drop (k + 1) cs) in
    let left : 0 < length others = omega (arith, length-map (drop (k + 1) cs) (λ (r : Bor TCommunication). r.now), length-drop (k + 1) cs) in
    let one = tested s i c.now (get_or bodies k 0) branch got free in
    let rest = dispatch s (i + 1) others (drop (k + 1) bodies) branch got free in
    append_assoc out one rest
    ∙ ap (λ (os : List Operation). out ++ os)
    (sym
    (ap₂ (λ (ts : List TCommunication) (bs : List ℕ). dispatch s i ts bs branch got free) (case_at cs k c h is) (drop_more bodies k 0 g)
    ∙ some_cases s i c.now others (get_or bodies k 0) (drop (k + 1) bodies) branch got free left))
    ∙ so_far
