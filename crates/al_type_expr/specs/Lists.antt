-- Lists of parts: of tuples, arguments and sequences.
use Rattle.std.specs.Prelude.{◌-◌, nat_le, Bool, false, List, [], ◌∷◌, ◌++◌, map, take, length, slice_get, Option, Some, None}
use Rattle.al_base.specs.declared.place.Place.{Place}
use Rattle.al_rules.specs.Outcome.{Outcome, Good, Bad, ask, judge, and_then, both}
use Rattle.al_typed.specs.declared.program.Aggregate.{Aggregate}
use Rattle.al_typed.specs.declared.ty.Ty.{Ty}
use Rattle.al_typed.specs.declared.ty.Ty.TheVariants as ty
use Rattle.al_typed.specs.declared.expression.TExpr.{TExpr}
use Rattle.al_typed.specs.declared.expression.TExpr.TheVariants as expr
use Rattle.al_typed.specs.declared.expression.TTarget.{TTarget}
use Rattle.al_typed.specs.Layout.{size_of}
use Rattle.al_typed.specs.Typed.{type_of, target_type}
use Rattle.al_convert.specs.declared.literal.Literal.TheVariants as literal
use Rattle.al_operands.specs.declared.operand.Operand.{Operand}
use Rattle.al_operands.specs.Operands.{taken}
use Rattle.al_operators.specs.Operators.{printable}
use Rattle.al_type_nodes.specs.declared.found.Found.{Found}
use Rattle.al_type_nodes.specs.declared.found.Found.TheVariants as found
use Rattle.al_type_nodes.specs.Uses.{written_as}
use Rattle.al_type_expr.specs.declared.columns.Columns.{Columns}

-- ---- tuples: the types of the parts, the parts, and what they are written as

abbrev pub no_columns : Columns
no_columns = record { types = []; values = []; written = [] }

abbrev pub with_part : Operand → Columns → Columns
with_part x c = record { types = type_of x.value ∷ c.types; values = x.value ∷ c.values; written = x.written ∷ c.written }

abbrev pub with_last_part : Columns → Operand → Columns
with_last_part c x = record { types = c.types ++ type_of x.value ∷ []; values = c.values ++ x.value ∷ []; written = c.written ++ x.written ∷ [] }

unfoldable pub columns : List (Outcome Operand) → Outcome Columns
columns [] = Good no_columns
columns (x ∷ xs) = both x (columns xs) (λ x c. Good (with_part x c))

unfoldable pub tuple : Columns → Found
tuple c = found.Value (written_as (literal.Tuple c.written) (expr.Tuple (ty.Tuple c.types) c.values))

-- 18. A type has at most 2^28 bytes, and so that of a tuple with parts of these types.
abbrev pub rule_18_tuple : List Aggregate → List Ty → Bool
rule_18_tuple rows ts = nat_le (size_of rows (ty.Tuple ts)) 268435456

unfoldable pub small_tuple : List Aggregate → Place → Columns → Outcome Found
small_tuple rows at c = judge (ask 18 at (rule_18_tuple rows c.types)) (tuple c)

-- ---- arguments

-- an argument for its parameter
abbrev pub argument : Place → Ty → Outcome Operand → Outcome TExpr
argument at p x = and_then x (taken 35 at p)

-- 35. A call has as many arguments as parameters, and each converts.
unfoldable pub arguments : Place → List Ty → List (Outcome Operand) → Outcome (List TExpr)
arguments at [] [] = Good []
arguments at [] (x ∷ xs) = Bad (ask 35 at false)
arguments at (p ∷ ps) [] = Bad (ask 35 at false)
arguments at (p ∷ ps) (x ∷ xs) = both (argument at p x) (arguments at ps xs) (λ e es. Good (e ∷ es))

-- what a print prints of an argument
abbrev pub print_of : Outcome Operand → Outcome TExpr
print_of x = and_then x (λ y. Good (printable y.value))

unfoldable pub prints : List (Outcome Operand) → Outcome (List TExpr)
prints [] = Good []
prints (x ∷ xs) = both (print_of x) (prints xs) (λ e es. Good (e ∷ es))

-- ---- sequences

-- each part is evaluated, and the last one is the value
unfoldable pub sequence : List TExpr → TExpr → TExpr
sequence first last = expr.Sequence (type_of last) first last

-- all of them, or the faults of all
unfoldable pub each : {A : Type 0} → List (Outcome A) → Outcome (List A)
each [] = Good []
each (x ∷ xs) = both x (each xs) (λ e es. Good (e ∷ es))

-- the last one and those before it
abbrev pub with_last : Place → List TExpr → Option TExpr → Outcome TExpr
with_last at first None = Bad (ask 44 at false)
with_last at first (Some last) = Good (sequence first last)

unfoldable pub sequenced : Place → List TExpr → Outcome TExpr
sequenced at es = with_last at (take (length es - 1) es) (slice_get es (length es - 1))

-- ---- targets

abbrev pub target_types : List TTarget → List Ty
target_types xs = map target_type xs
