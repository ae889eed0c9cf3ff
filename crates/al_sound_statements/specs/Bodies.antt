-- What the tree of a body gives is well typed among any names of sound types, where the types that are written in it are sound.
use Rattle.std.specs.Prelude.{◌≡◌, ℕ, ◌<◌, true, All, Contains, List, [], ◌∷◌, ◌++◌, Option, Some, None}
use Rattle.std.specs.List.{flat_map}
use Rattle.al_tree.specs.declared.type_tree.TypeTree.{TypeTree}
use Rattle.al_tree.specs.declared.expression.Expr.{Expr, fold-Expr}
use Rattle.al_tree.specs.declared.expression.Expr.TheOpen.{Expr-F}
use Rattle.al_tree.specs.declared.statement.Variable.{Variable}
use Rattle.al_tree.specs.declared.statement.Stmt.{Stmt, fold-Stmt}
use Rattle.al_tree.specs.declared.statement.Stmt.TheOpen.{Stmt-F}
use Rattle.al_typed.specs.declared.ty.Ty.{Ty}
use Rattle.al_typed.specs.declared.program.Aggregate.{Aggregate as AggregateRow}
use Rattle.al_typed.specs.Sound.{outermost}
use Rattle.al_typed.specs.WellTyped.{IsStatement, Scope, any_names, is_sound, is_stored}
use Rattle.al_environment.specs.declared.environment.Environment.{Environment}
use Rattle.al_environment.specs.declared.environment.Here.{Here}
use Rattle.al_environment.specs.declared.environment.Round.{Round}
use Rattle.al_environment.specs.declared.environment.Variable.{Variable as Known}
use Rattle.al_environment.specs.declared.numbered.Numbered.{Numbered}
use Rattle.al_environment.specs.Written.{written}
use Rattle.al_type_stmt.specs.declared.within.Within.{Within}
use Rattle.al_type_stmt.specs.Statements.{statement}
use Rattle.al_sound_operators.specs.Typed.{IfGood}
use Rattle.al_sound_nodes.specs.Nodes.{Tells}

-- ---- the types that are written in casts and behind sizeof, in text order

abbrev pub all_types : List (List TypeTree) → List TypeTree
all_types ts = flat_map (λ t. t) ts

abbrev pub expr_types_step : Expr-F (List TypeTree) → List TypeTree
expr_types_step (Expr-F.Number at value) = []
expr_types_step (Expr-F.Char at value) = []
expr_types_step (Expr-F.Text at bytes) = []
expr_types_step (Expr-F.Nil at) = []
expr_types_step (Expr-F.Name at name) = []
expr_types_step (Expr-F.Tuple at parts) = all_types parts
expr_types_step (Expr-F.Unary at op a) = a
expr_types_step (Expr-F.Cast at to a) = to ∷ a
expr_types_step (Expr-F.SizeofType at of) = of ∷ []
expr_types_step (Expr-F.SizeofValue at a) = a
expr_types_step (Expr-F.Index at a b) = a ++ b
expr_types_step (Expr-F.Member at a how name) = a
expr_types_step (Expr-F.Call at f xs) = f ++ all_types xs
expr_types_step (Expr-F.Postfix at op a) = a
expr_types_step (Expr-F.Binary at op a b) = a ++ b
expr_types_step (Expr-F.Iterator at a b) = a ++ b
expr_types_step (Expr-F.Assign at op a b) = a ++ b
expr_types_step (Expr-F.Sequence at parts) = all_types parts

unfoldable pub expr_types : Expr → List TypeTree
expr_types = fold-Expr (List TypeTree) expr_types_step

abbrev pub each_types : List Expr → List TypeTree
each_types es = flat_map expr_types es

-- of an expression, and of a statement, that may be missing
abbrev pub optional_types : Option Expr → List TypeTree
optional_types None = []
optional_types (Some e) = expr_types e

abbrev pub types_if : Option (List TypeTree) → List TypeTree
types_if None = []
types_if (Some ts) = ts

abbrev pub variable_types : Variable → List TypeTree
variable_types v = optional_types v.value

abbrev pub types_step : Stmt-F (List TypeTree) → List TypeTree
types_step (Stmt-F.Empty at) = []
types_step (Stmt-F.Block at body) = all_types body
types_step (Stmt-F.Declare at base variables) = flat_map variable_types variables
types_step (Stmt-F.Value at e) = expr_types e
types_step (Stmt-F.Label at name body) = body
types_step (Stmt-F.If at e met other) = expr_types e ++ (met ++ types_if other)
types_step (Stmt-F.While at e body) = expr_types e ++ body
types_step (Stmt-F.Do at body e) = body ++ expr_types e
types_step (Stmt-F.For at start e next body) = optional_types start ++ (optional_types e ++ (optional_types next ++ body))
types_step (Stmt-F.Switch at e body) = expr_types e ++ all_types body
types_step (Stmt-F.Alt at body) = all_types body
types_step (Stmt-F.Case at e) = expr_types e
types_step (Stmt-F.Default at) = []
types_step (Stmt-F.Par at branches) = all_types branches
types_step (Stmt-F.Rescue at name body) = body
types_step (Stmt-F.Raise at name) = []
types_step (Stmt-F.Return at e) = optional_types e
types_step (Stmt-F.Become at e) = expr_types e
types_step (Stmt-F.Break at count) = []
types_step (Stmt-F.Continue at count) = []
types_step (Stmt-F.Goto at name) = []
types_step (Stmt-F.Alloc at es) = each_types es
types_step (Stmt-F.Unalloc at es) = each_types es
types_step (Stmt-F.Check at e text) = expr_types e
types_step (Stmt-F.Proc at es) = each_types es
types_step (Stmt-F.Task at es) = each_types es

-- those in a statement, and in the branches of pars in it
unfoldable pub types_in : Stmt → List TypeTree
types_in = fold-Stmt (List TypeTree) types_step

-- ---- the law

-- among any names, where no iterator stands
abbrev pub among : List AggregateRow → ℕ → ℕ → Scope
among rows strings functions = record { names = any_names rows strings functions; iterators = 0 }

-- The function or branch at hand returns a sound type, its strings are among so many, the variables of the functions round it
-- are stored, and the types that are written in the body are sound where they stand.
pub record IsFitBody (rows : List AggregateRow) (strings : ℕ) (w : Within) (env : Environment) (here : Here) (tree : Stmt) : Type 0 where
  pub returns : is_sound rows w.returns ≡ true
  pub texts : All (λ (n : Numbered). n.number < strings) here.texts
  pub around : All (λ (r : Round). All (λ (v : Known). is_stored rows v.ty ≡ true) r.locals) here.around
  pub iterators : here.iterators ≡ []
  pub types : (t : TypeTree) → Contains (types_in tree) t → (u : Ty) → written env here t ≡ Some u → is_sound rows u ≡ true

pub record BodiesAreSound : Type 0 where
  pub body : (rows : List AggregateRow) (strings functions : ℕ) (w : Within) (env : Environment) (here : Here) (tree : Stmt)
      → Tells (among rows strings functions) env here → IsFitBody rows strings w env here tree
      → IfGood (statement w env here tree) (IsStatement (among rows strings functions) outermost)
