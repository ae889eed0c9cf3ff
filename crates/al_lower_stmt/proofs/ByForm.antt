-- What holds of a statement, by its form.
use Rattle.std.proofs.Common.{◌≡◌, ℕ, List, ◌++◌, Option, Result, IfOk, OnOk, sym, ap, ◌∙◌, subst}
use Rattle.std.proofs.lemmas.Result.{on_ok_weaker}
use Rattle.al_typed.specs.declared.statement.TStmt.{TStmt}
use Rattle.al_meaning.specs.Parts.{first_of_two}
use Rattle.al_ir.specs.declared.ir.Operation.{Operation}
use Rattle.al_lower_code.specs.Homes.{Spot}
use Rattle.al_lower_code.specs.Statements.{Targets, stmt_size, stmt_code, place_of}
use Rattle.al_lower_stmt.specs.Leading.{noted}

pub sized : {E : Type 0} (r : Result ℕ E) (s : Spot) (a v : TStmt) (n : ℕ) → a ≡ v → stmt_size s v ≡ n → IfOk r (λ k. k ≡ n) → IfOk r (λ k. k ≡ stmt_size s a)
sized r s a v n is form found = subst (λ (m : ℕ). IfOk r (λ k. k ≡ m)) (sym (ap (stmt_size s) is ∙ form)) found

pub made : {T E : Type 0} (r : Result T E) (s : Spot) (c : Targets) (a v : TStmt) (pc : ℕ) (new old code : List Operation) → a ≡ v → stmt_code s c v pc ≡ code
    → OnOk r (new ≡ old ++ code) → OnOk r (new ≡ old ++ stmt_code s c a pc)
made r s c a v pc new old code is form found =
    subst (λ (ops : List Operation). OnOk r (new ≡ old ++ ops)) (sym (ap (λ (x : TStmt). stmt_code s c x pc) is ∙ form)) found

pub entered : {T E : Type 0} (r : Result T E) (s : Spot) (a v : TStmt) (pc : ℕ) (before after : List (Option ℕ)) (place : ℕ → Option ℕ) → a ≡ v
    → ((l : ℕ) → place_of s l v pc ≡ place l)
    → OnOk r ((l : ℕ) → noted after l ≡ first_of_two (noted before l) (place l))
    → OnOk r ((l : ℕ) → noted after l ≡ first_of_two (noted before l) (place_of s l a pc))
entered r s a v pc before after place is form found =
    on_ok_weaker r (λ h l. h l ∙ ap (first_of_two (noted before l)) (sym (ap (λ (x : TStmt). place_of s l x pc) is ∙ form l))) found
