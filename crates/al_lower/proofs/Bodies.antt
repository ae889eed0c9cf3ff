-- The operations of a function, part by part.
use Rattle.std.proofs.Common.{◌≡◌, ℕ, List, [], ◌++◌, length, Some, ap, ◌∙◌, append_assoc}
use Rattle.al_typed.specs.declared.program.Function.{Function as FunctionRow}
use Rattle.al_typed.specs.declared.program.Program.{Program}
use Rattle.al_meaning.specs.Places.{function_at}
use Rattle.al_ir.specs.declared.ir.Operation.{Operation}
use Rattle.al_lower_code.specs.Homes.{Spot, home_in, local_home}
use Rattle.al_lower_code.specs.Statements.{stmt_code}
use Rattle.al_lower_code.specs.Functions.{epilogue, function_code, prologue, targets_of}
use Rattle.al_lower_stmt.specs.Leading.{body_targets}

pub code_is : (s : Spot) (f : FunctionRow) (begun went ended : List Operation) (pc : ℕ) → begun ≡ [] ++ prologue s f → pc ≡ length begun
    → went ≡ begun ++ stmt_code s (body_targets s f.body pc) f.body pc → ended ≡ went ++ epilogue s f → ended ≡ function_code s f
code_is s f begun went ended pc start at body end =
    end
    ∙ ap (λ (os : List Operation). os ++ epilogue s f)
    (body ∙ ap (λ n. begun ++ stmt_code s (body_targets s f.body n) f.body n) (at ∙ ap (λ (os : List Operation). length os) start)
    ∙ ap (λ (os : List Operation). os ++ stmt_code s (targets_of s f) f.body (length (prologue s f))) start)
    ∙ append_assoc (prologue s f) (stmt_code s (targets_of s f) f.body (length (prologue s f))) (epilogue s f)

-- the slot behind the parameters of a function of the program
pub lowered_is : (p : Program) (number : ℕ) (f : FunctionRow) (n : ℕ) → function_at p number ≡ Some f → n ≡ local_home p number f.parameters
    → n ≡ home_in p (Some f) f.parameters
lowered_is p number f n at e = e ∙ ap (λ o. home_in p o f.parameters) at
