-- Where jumps lead in the body of a function, by the table of its labels.
use Rattle.std.proofs.Common.{◌≡◌, ℕ, List, [], Option, ap, ap₂, ◌∙◌, map}
use Rattle.std.specs.Prelude.{unwrap_or}
use Rattle.std.proofs.Math.Path.{fun_ext}
use Rattle.al_typed.specs.declared.statement.TStmt.{TStmt}
use Rattle.al_lower_code.specs.Homes.{Spot}
use Rattle.al_lower_code.specs.Statements.{Targets, Again as Round, place_of}
use Rattle.al_lower_stmt.specs.declared.jumps.Again.{Again}
use Rattle.al_lower_stmt.specs.Leading.{noted, again_of, targets_by, body_targets}

abbrev targets_with : (ℕ → ℕ) → List ℕ → List Round → Targets
targets_with label behind again = record { label = label; behind = behind; again = again }

pub all_labels : (s : Spot) (body : TStmt) (pc : ℕ) (labels : List (Option ℕ)) (behind : List ℕ) (again : List Again) → ((l : ℕ) → noted labels l ≡ place_of s l body pc)
    → behind ≡ [] → again ≡ [] → targets_by labels behind again ≡ body_targets s body pc
all_labels s body pc labels behind again are no_body no_loop =
    ap (λ (label : ℕ → ℕ). targets_with label behind (map again_of again)) (fun_ext (λ (l : ℕ). ap (λ (place : Option ℕ). unwrap_or place 0) (are l)))
    ∙ ap₂ (λ (b : List ℕ) (g : List Again). targets_with (λ l. unwrap_or (place_of s l body pc) 0) b (map again_of g)) no_body no_loop
