-- Typing rules 2, 4, 6 and 19 of globals and functions, one predicate for each sentence.
use Rattle.std.specs.Prelude.{Bool, true, false, not, ◌&&◌, ◌||◌, List, [], ◌∷◌, Option, Some, None, is_some}
use Rattle.al_base.specs.declared.arith.Kind.TheVariants as kind
use Rattle.al_typed.specs.declared.ty.Ty.{Ty}
use Rattle.al_typed.specs.Types.{is_void, may_be_private}
use Rattle.al_convert.specs.Same.{same, same_list, pointed, is_of_kind}
use Rattle.al_environment.specs.declared.environment.Signature.{Signature}
use Rattle.al_environment.specs.declared.environment.Variable.{Variable}

-- 2. A global may be declared again with the same type.
abbrev pub rule_2_global : Option Variable → Ty → Bool
rule_2_global None t = true
rule_2_global (Some old) t = same false old.ty t

abbrev pub same_signature : Signature → Signature → Bool
same_signature a b = same false a.returns b.returns && same_list false a.parameters b.parameters

-- 2. A function may be declared again with the same type.
-- 6. A definition agrees with earlier declarations in its types.
abbrev pub rule_2_6_function : Option Signature → Signature → Bool
rule_2_6_function None s = true
rule_2_6_function (Some old) s = same_signature old s

abbrev pub is_byte_pointer : Option Ty → Bool
is_byte_pointer None = false
is_byte_pointer (Some t) = is_of_kind kind.Byte t

abbrev pub points_to_bytes : Option Ty → Bool
points_to_bytes None = false
points_to_bytes (Some t) = is_byte_pointer (pointed t)

abbrev pub is_nil : List Ty → Bool
is_nil [] = true
is_nil (t ∷ ts) = false

-- the parameters of main, where it has them
abbrev pub rest_of_main : List Ty → Bool
rest_of_main [] = false
rest_of_main (t ∷ ts) = is_nil ts && points_to_bytes (pointed t)

abbrev pub parameters_of_main : List Ty → Bool
parameters_of_main [] = true
parameters_of_main (t ∷ ts) = is_of_kind kind.Int t && rest_of_main ts

-- 4. A function main is defined, with result void and no parameters, or int and byte**.
abbrev pub rule_4_main : Option Signature → Bool
rule_4_main None = false
rule_4_main (Some s) = is_some s.number && (is_void s.returns && parameters_of_main s.parameters)

-- 19. A private global is an integer, pointer, channel or tuple without initializer.
abbrev pub rule_19_private : (is_private has_value : Bool) → Ty → Bool
rule_19_private is_private has_value t = not is_private || (not has_value && may_be_private t)
