-- The typing rules of expressions that names and their declarations decide, one predicate for each sentence, in the order of
-- their numbers. `Uses`, `Names`, `Members` and `Calls` say of which nodes they are asked.
use Rattle.std.specs.Prelude.{ℕ, Bool, true, false, not, ◌&&◌, List, is_some}
use Rattle.al_typed.specs.declared.ty.Ty.{Ty}
use Rattle.al_typed.specs.declared.expression.Passed.{Passed}
use Rattle.al_typed.specs.declared.expression.Passed.TheVariants as passed
use Rattle.al_typed.specs.declared.expression.TExpr.{TExpr, Call', CallPointer', Receive'}
use Rattle.al_typed.specs.Types.{is_array}
use Rattle.al_environment.specs.declared.environment.Here.{Here}
use Rattle.al_environment.specs.declared.environment.Signature.{Signature}
use Rattle.al_environment.specs.Lookups.{is_inside}

-- 5. A function that is called, started or used as a value is defined.
unfoldable pub rule_5_is_defined : Signature → Bool
rule_5_is_defined f = is_some f.number

-- 10. An intern member is named inside functions of its adt alone. (A lent member is intern in each adt that it comes through
-- as such.)
unfoldable pub rule_10_is_open : Here → List ℕ → Bool
rule_10_is_open here interns = is_inside here interns

-- 19. The address of a private global is not taken.
unfoldable pub rule_19_is_shared : (is_private : Bool) → Bool
rule_19_is_shared is_private = not is_private

-- a value that a call or a receive gives
abbrev pub is_given : TExpr → Bool
is_given (Call' _ _ _ _ _) = true
is_given (CallPointer' _ _ _ _ _) = true
is_given (Receive' _ _ _) = true
is_given _ = false

-- 58. A member is read of a place, or, where it is no array, of a value that a call or receive gives.
unfoldable pub rule_58_is_read : TExpr → Ty → Bool
rule_58_is_read value member = is_given value && not (is_array member)

abbrev pub by_address : Passed → Bool
by_address passed.Address = true
by_address _ = false

-- 57. A function called with `*T` has a place before `.`, or a pointer before `->`. (What stands there is a value.)
unfoldable pub rule_57_has_place : Passed → Bool
rule_57_has_place how = not (by_address how)

-- 58. The object before `.` is a place, or a value that a call or receive gives.
unfoldable pub rule_58_is_object : TExpr → Bool
rule_58_is_object value = is_given value
