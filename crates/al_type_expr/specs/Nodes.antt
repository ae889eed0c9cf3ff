-- The typed expression of a tree, or the faults in it.
use Rattle.std.specs.Prelude.{ℕ, Bool, true, false, List, [], ◌∷◌, map, Option, Some, None}
use Rattle.al_base.specs.declared.place.Place.{Place}
use Rattle.al_rules.specs.Outcome.{Outcome, Good, Bad, ask, judge, and_then, both, pair}
use Rattle.al_tree.specs.declared.expression.AssignOp.{AssignOp}
use Rattle.al_tree.specs.declared.expression.AssignOp.TheVariants as assign
use Rattle.al_tree.specs.declared.expression.Expr.{Expr, fold-Expr}
use Rattle.al_tree.specs.declared.expression.Expr.TheOpen.{Expr-F}
use Rattle.al_typed.specs.declared.program.Aggregate.{Aggregate}
use Rattle.al_typed.specs.declared.ty.Ty.{Ty}
use Rattle.al_typed.specs.declared.ty.Ty.TheVariants as ty
use Rattle.al_typed.specs.declared.expression.TExpr.{TExpr}
use Rattle.al_typed.specs.declared.expression.TExpr.TheVariants as expr
use Rattle.al_typed.specs.declared.expression.TPlace.{TPlace}
use Rattle.al_typed.specs.declared.expression.TTarget.{TTarget}
use Rattle.al_typed.specs.declared.expression.TTarget.TheVariants as target
use Rattle.al_typed.specs.Typed.{type_of}
use Rattle.al_convert.specs.Same.{parts_of}
use Rattle.al_environment.specs.declared.environment.Environment.{Environment}
use Rattle.al_environment.specs.declared.environment.Here.{Here}
use Rattle.al_environment.specs.Firsts.{number_at}
use Rattle.al_environment.specs.Written.{written}
use Rattle.al_operands.specs.declared.operand.Operand.{Operand}
use Rattle.al_operators.specs.Operators.{binary, sent, printed, terminated}
use Rattle.al_operators.specs.Formats.{pieces}
use Rattle.al_places.specs.Places.{index}
use Rattle.al_type_nodes.specs.declared.found.Found.{Found}
use Rattle.al_type_nodes.specs.Uses.{operand, dropped, sized, placed}
use Rattle.al_type_nodes.specs.Names.{named}
use Rattle.al_type_calls.specs.declared.callee.Callee.{Callee}
use Rattle.al_type_calls.specs.declared.callee.Callee.TheVariants as callee
use Rattle.al_type_calls.specs.Callees.{pointer_callee, named_callee}
use Rattle.al_type_expr.specs.Leaves.{number, character, text_found, nil_found, iterator_found, place_target, assigned_to}
use Rattle.al_type_expr.specs.Lists.{columns, small_tuple, rule_18_tuple, arguments, prints, each, sequenced, target_types}
use Rattle.al_type_expr.specs.Parts.{gives, is_at, unary, postfix_found, cast_to, type_sized, member_found, member_callee, compound}

-- ---- what is said of a node

-- What is on the left of `=`, whole or as a part of a tuple, is asked for the type of the part of the right side that it takes.
abbrev pub Aim : Type 0
Aim = (is_part : Bool) → Place → Ty → Outcome TTarget

pub record Node : Type 0 where
  pub at : Place
  pub found : Outcome Found
  -- the bytes of a string constant
  pub text : Option (List ℕ)
  -- as what stands on the left of `=`
  pub target : Aim
  -- as what is called
  pub callee : Outcome Callee

abbrev pub operand_of : Environment → Node → Outcome Operand
operand_of env n = and_then n.found (operand env.aggregates n.at)

abbrev pub dropped_of : Environment → Node → Outcome TExpr
dropped_of env n = and_then n.found (dropped env.aggregates n.at)

abbrev pub place_in : Place → Node → Outcome TPlace
place_in at n = and_then n.found (placed at)

-- the rule that a target breaks which is none
abbrev pub target_rule : Bool → ℕ
target_rule true = 40
target_rule false = 28

abbrev pub aim : Outcome Found → Aim
aim f is_part at t = and_then f (place_target (target_rule is_part) at)

abbrev pub value_callee : Environment → Place → Outcome Found → Outcome Callee
value_callee env at f = and_then (and_then f (operand env.aggregates at)) (pointer_callee at)

-- a node that is neither a name, a member, a string, nil nor a tuple
abbrev pub plain_node : Environment → Place → Outcome Found → Node
plain_node env at f = record { at = at; found = f; text = None; target = aim f; callee = value_callee env at f }

-- ---- targets

abbrev pub nil_aim : Aim
nil_aim true at t = Good (target.Dropped t)
nil_aim false at t = Bad (ask 28 at false)

-- 40. A tuple on the left of `=` has as many parts as the right; each is a place, a tuple of such, or nil.
unfoldable pub targets : Place → List Node → List Ty → Outcome (List TTarget)
targets at [] [] = Good []
targets at [] (t ∷ ts) = Bad (ask 40 at false)
targets at (n ∷ ns) [] = Bad (ask 40 at false)
targets at (n ∷ ns) (t ∷ ts) = both (n.target true at t) (targets at ns ts) (λ x xs. Good (x ∷ xs))

abbrev pub all_parts : List TTarget → TTarget
all_parts xs = target.Parts (ty.Tuple (target_types xs)) xs

-- 18. The type of a tuple on the left of `=` has at most 2^28 bytes too.
unfoldable pub small_target : List Aggregate → Place → List TTarget → Outcome TTarget
small_target rows at xs = judge (ask 18 at (rule_18_tuple rows (target_types xs))) (all_parts xs)

unfoldable pub tuple_target : List Aggregate → Place → List Node → Option (List Ty) → Outcome TTarget
tuple_target rows at ns None = Bad (ask 40 at false)
tuple_target rows at ns (Some ts) = and_then (targets at ns ts) (small_target rows at)

abbrev pub tuple_aim : List Aggregate → List Node → Aim
tuple_aim rows ns is_part at t = tuple_target rows at ns (parts_of t)

-- ---- assignments and sends

-- the right side gives the types that the left side takes
unfoldable pub assigned : Environment → Place → Node → Node → Outcome TExpr
assigned env at a b = and_then (operand_of env b) (λ x. and_then (a.target false at (type_of x.value)) (λ t. assigned_to at t x))

unfoldable pub assignment : Environment → Place → AssignOp → Node → Node → Outcome TExpr
assignment env at assign.Assign a b = assigned env at a b
assignment env at (assign.Compound how) a b = and_then (pair a.found (operand_of env b)) (λ p. compound env.aggregates at how p.0 p.1)
assignment env at assign.Send a b = and_then (pair (operand_of env a) (operand_of env b)) (λ p. sent at p.0 p.1)

-- ---- calls

-- 36. print has a string constant first.
unfoldable pub format_call : Environment → Place → Option (List ℕ) → List Node → Outcome TExpr
format_call env at None ns = Bad (ask 36 at false)
format_call env at (Some bytes) ns = and_then (prints (map (operand_of env) ns)) (printed at (pieces bytes))

unfoldable pub print_call : Environment → Place → List Node → Outcome TExpr
print_call env at [] = Bad (ask 36 at false)
print_call env at (n ∷ ns) = format_call env at n.text ns

-- 37. terminate has one argument.
unfoldable pub terminate_call : Environment → Place → List Node → Outcome TExpr
terminate_call env at [] = Bad (ask 37 at false)
terminate_call env at (n ∷ []) = and_then (operand_of env n) (terminated at)
terminate_call env at (n ∷ (m ∷ ns)) = Bad (ask 37 at false)

unfoldable pub called : Environment → Place → List Node → Callee → Outcome TExpr
called env at ns callee.Print = print_call env at ns
called env at ns callee.Terminate = terminate_call env at ns
called env at ns (callee.Function returns number receiver parameters) =
    and_then (arguments at parameters (map (operand_of env) ns)) (λ es. Good (expr.Call returns number receiver es))
called env at ns (callee.Pointer returns pointer parameters) =
    and_then (arguments at parameters (map (operand_of env) ns)) (λ es. Good (expr.CallPointer returns pointer es))

-- ---- every node

abbrev pub step : Environment → Here → Expr-F Node → Node
step env here (Expr-F.Number at n) = plain_node env at (Good (number n))
step env here (Expr-F.Char at n) = plain_node env at (Good (character n))
step env here (Expr-F.Text at bytes) = record (plain_node env at (text_found at (number_at here.texts at))) { text = Some bytes }
step env here (Expr-F.Nil at) = record (plain_node env at (Good (nil_found at))) { target = nil_aim }
step env here (Expr-F.Name at name) = record (plain_node env at (named env here at)) { callee = named_callee env here at }
step env here (Expr-F.Tuple at parts) =
    record (plain_node env at (and_then (columns (map (operand_of env) parts)) (small_tuple env.aggregates at))) { target = tuple_aim env.aggregates parts }
step env here (Expr-F.Unary at op a) = plain_node env at (and_then a.found (unary env.aggregates at op a.at))
step env here (Expr-F.Cast at to a) = plain_node env at (gives (and_then a.found (cast_to env.aggregates at (written env here to) a.at)))
step env here (Expr-F.SizeofType at of) = plain_node env at (gives (type_sized env.aggregates at (written env here of)))
step env here (Expr-F.SizeofValue at a) = plain_node env at (gives (and_then a.found (sized env.aggregates at)))
step env here (Expr-F.Index at a b) =
    plain_node env at (is_at (and_then (pair (operand_of env a) (operand_of env b)) (λ p. index env.aggregates at p.0 p.1)))
step env here (Expr-F.Member at a how name) =
    record (plain_node env at (and_then a.found (member_found env here at how name.name a.at)))
    { callee = and_then a.found (member_callee env here at how name.name a.at) }
step env here (Expr-F.Call at f ns) = plain_node env at (gives (and_then f.callee (called env at ns)))
step env here (Expr-F.Postfix at op a) = plain_node env at (and_then a.found (postfix_found env.aggregates at op a.at))
step env here (Expr-F.Binary at op a b) =
    plain_node env at (gives (and_then (pair (operand_of env a) (operand_of env b)) (λ p. binary env.aggregates at op p.0 p.1)))
step env here (Expr-F.Iterator at a b) = plain_node env at (iterator_found at (number_at here.iterators at))
step env here (Expr-F.Assign at op a b) = plain_node env at (gives (assignment env at op a b))
step env here (Expr-F.Sequence at ns) = plain_node env at (gives (and_then (each (map (dropped_of env) ns)) (sequenced at)))

unfoldable pub node : Environment → Here → Expr → Node
node env here = fold-Expr Node (step env here)

-- ---- what code gives

abbrev pub found : Environment → Here → Expr → Outcome Found
found env here e = (node env here e).found

-- as a value that is used, and as one that is dropped
abbrev pub value_of : Environment → Here → Expr → Outcome Operand
value_of env here e = operand_of env (node env here e)

abbrev pub dropped_value : Environment → Here → Expr → Outcome TExpr
dropped_value env here e = dropped_of env (node env here e)
