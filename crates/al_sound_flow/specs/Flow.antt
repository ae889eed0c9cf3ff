-- What the jumps of a body lead to, and the numbers of its labels and rescues.
use Rattle.std.specs.Prelude.{◌≡◌, ℕ, ◌+◌, ◌≤◌, Contains, List, [], ◌∷◌, length, Some, ⊤}
use Rattle.al_rules.specs.Outcome.{Good}
use Rattle.al_tree.specs.declared.statement.Stmt.{Stmt, out-Stmt}
use Rattle.al_tree.specs.declared.statement.Stmt.TheOpen.{Stmt-F}
use Rattle.al_tree_walks.specs.Statements.{Standing, branches, standing}
use Rattle.al_tree_places.specs.Apart.{AreApart}
use Rattle.al_tree_places.specs.Jumps.{jump_places}
use Rattle.al_typed.specs.declared.statement.TStmt.{TStmt}
use Rattle.al_typed.specs.WellTyped.{labels_in, rescues_in}
use Rattle.al_environment.specs.declared.environment.Environment.{Environment}
use Rattle.al_environment.specs.declared.environment.Here.{Here}
use Rattle.al_flow.specs.declared.mark.Mark.{Mark}
use Rattle.al_flow.specs.declared.mark.Mark.TheVariants as mark
use Rattle.al_flow.specs.declared.target.Target.{Target}
use Rattle.al_flow.specs.Flow.{marks, targets}
use Rattle.al_flow.specs.Targets.{number_at}
use Rattle.al_type_stmt.specs.declared.within.Within.{Within}
use Rattle.al_type_stmt.specs.Statements.{statement}

-- ---- numbers

-- the numbers of the labels among labels and rescues, the first of which has the number `from`
abbrev pub label_numbers : (from : ℕ) → List Mark → List ℕ
label_numbers from [] = []
label_numbers from (mark.Label name ∷ ms) = from ∷ label_numbers (from + 1) ms
label_numbers from (mark.Rescue name ∷ ms) = label_numbers (from + 1) ms

abbrev pub rescue_numbers : (from : ℕ) → List Mark → List ℕ
rescue_numbers from [] = []
rescue_numbers from (mark.Label name ∷ ms) = rescue_numbers (from + 1) ms
rescue_numbers from (mark.Rescue name ∷ ms) = from ∷ rescue_numbers (from + 1) ms

-- ---- jumps

-- A jump leads to one of these labels or rescues, or out of as many loops, switches and alts as are round it. A par has 1 to 64
-- branches.
abbrev pub Leads : List Target → (labels rescues : List ℕ) → (breaks loops : ℕ) → Stmt-F Stmt → Type 0
Leads ts labels rescues b l (Stmt-F.Goto at name) = (n : ℕ) → number_at ts at ≡ Some n → Contains labels n
Leads ts labels rescues b l (Stmt-F.Raise at name) = (n : ℕ) → number_at ts at ≡ Some n → Contains rescues n
Leads ts labels rescues b l (Stmt-F.Break at count) = (n : ℕ) → number_at ts at ≡ Some n → (1 ≤ n) × (n ≤ b)
Leads ts labels rescues b l (Stmt-F.Continue at count) = (n : ℕ) → number_at ts at ≡ Some n → (1 ≤ n) × (n ≤ l)
Leads ts labels rescues b l (Stmt-F.Par at bodies) = (1 ≤ length bodies) × (length bodies ≤ 64)
Leads ts labels rescues b l _ = ⊤

-- Of a function or a branch with that body, by the targets of all jumps of the function.
pub record HasTargets (ts : List Target) (body : Stmt) : Type 0 where
  pub leads : (x : Standing) → Contains (standing body 0 0) x
      → Leads ts (label_numbers 0 (marks body)) (rescue_numbers 0 (marks body)) x.breaks x.loops (out-Stmt x.tree)
  pub labels : (w : Within) (env : Environment) (here : Here) (t : TStmt) → w.targets ≡ ts → statement w env here body ≡ Good t
      → (labels_in t ≡ label_numbers 0 (marks body)) × (rescues_in t ≡ rescue_numbers 0 (marks body))

pub record BodiesHaveTargets : Type 0 where
  pub body : (body : Stmt) (ts : List Target) → targets body ≡ Good ts → AreApart (jump_places body) → HasTargets ts body
  pub branch : (body : Stmt) (ts : List Target) → targets body ≡ Good ts → AreApart (jump_places body) → (b : Stmt) → Contains (branches body) b
      → HasTargets ts b
