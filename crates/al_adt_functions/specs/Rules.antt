-- Typing rules 2 and 11 of the functions of adts, one predicate for each sentence.
use Rattle.std.specs.Prelude.{ℕ, ◌==◌, Bool, true, false, ◌&&◌, List, [], ◌∷◌, Option, Some, None}
use Rattle.al_typed.specs.declared.expression.Passed.{Passed}
use Rattle.al_typed.specs.declared.expression.Passed.TheVariants as passed
use Rattle.al_typed.specs.declared.ty.Ty.{Ty}
use Rattle.al_typed.specs.declared.ty.Ty.TheVariants as ty
use Rattle.al_convert.specs.Same.{same, same_list, pointed}
use Rattle.al_environment.specs.declared.environment.Signature.{Signature}
use Rattle.al_environment.specs.declared.environment.NamedFunction.{NamedFunction}
use Rattle.al_member_names.specs.declared.function.OwnFunction.{OwnFunction}

-- 2. A function has one body at most. The first body of the function has that number among the definitions.
abbrev pub rule_2_body : (first : Option ℕ) → ℕ → Bool
rule_2_body None k = true
rule_2_body (Some first) k = first == k

abbrev pub is_adt : ℕ → Ty → Bool
is_adt aggregate t = same false (ty.Aggregate aggregate) t

abbrev pub is_pointed : ℕ → Option Ty → Bool
is_pointed aggregate None = false
is_pointed aggregate (Some t) = is_adt aggregate t

-- what a function gets of its object, at the adt of that number
abbrev pub is_object : Passed → (aggregate : ℕ) → Ty → Bool
is_object passed.Nothing aggregate t = false
is_object passed.Address aggregate t = is_pointed aggregate (pointed t)
is_object passed.Value aggregate t = is_adt aggregate t

abbrev pub behind : Passed → (aggregate : ℕ) → List Ty → List Ty → Bool
behind p aggregate named [] = false
behind p aggregate named (t ∷ ts) = is_object p aggregate t && same_list false named ts

-- the parameters of a definition are the object that it gets and then these
abbrev pub same_parameters : Passed → (aggregate : ℕ) → List Ty → List Ty → Bool
same_parameters passed.Nothing aggregate named list = same_list false named list
same_parameters passed.Address aggregate named list = behind passed.Address aggregate named list
same_parameters passed.Value aggregate named list = behind passed.Value aggregate named list

abbrev pub agrees : (aggregate : ℕ) → NamedFunction → Signature → Bool
agrees aggregate f s = same false f.signature.returns s.returns && same_parameters f.passed aggregate f.signature.parameters s.parameters

-- 2. A function of an adt may be declared again, outside of it, with the same type.
abbrev pub rule_2_again : (aggregate : ℕ) → Option OwnFunction → Signature → Bool
rule_2_again aggregate None s = true
rule_2_again aggregate (Some f) s = agrees aggregate f.function s

-- 11. A function `A.f` that is defined is declared in A with the same types.
abbrev pub rule_11_declared : (aggregate : ℕ) → Option OwnFunction → Signature → Bool
rule_11_declared aggregate None s = false
rule_11_declared aggregate (Some f) s = agrees aggregate f.function s
