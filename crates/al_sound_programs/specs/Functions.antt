-- Rows of functions and of branches whose types are sound.
use Rattle.std.specs.Prelude.{◌≡◌, ℕ, ◌<◌, ◌^◌, nat_le, true, All, Contains, List, [], Some, map}
use Rattle.std.specs.List.{list_all}
use Rattle.al_tree.specs.declared.type_tree.TypeTree.{TypeTree}
use Rattle.al_tree.specs.declared.expression.Expr.{Expr}
use Rattle.al_tree.specs.declared.statement.Stmt.{Stmt}
use Rattle.al_typed.specs.declared.program.Aggregate.{Aggregate}
use Rattle.al_typed.specs.declared.program.Function.{Function}
use Rattle.al_typed.specs.declared.program.Local.{Local}
use Rattle.al_typed.specs.declared.ty.Ty.{Ty}
use Rattle.al_typed.specs.Layout.{in_order, layout}
use Rattle.al_typed.specs.Sound.{outermost}
use Rattle.al_typed.specs.WellTyped.{IsStatement, Scope, any_names, is_sound, is_stored, shared_types}
use Rattle.al_environment.specs.declared.environment.Environment.{Environment}
use Rattle.al_environment.specs.declared.environment.Here.{Here}
use Rattle.al_environment.specs.declared.environment.Round.{Round}
use Rattle.al_environment.specs.declared.environment.Variable.{Variable}
use Rattle.al_environment.specs.declared.numbered.Numbered.{Numbered}
use Rattle.al_environment.specs.Written.{written}
use Rattle.al_body_parts.specs.Statements.{parts}
use Rattle.al_type_expr.specs.Nodes.{value_of}
use Rattle.al_type_stmt.specs.declared.within.Within.{Within}
use Rattle.al_type_stmt.specs.Statements.{statement}
use Rattle.al_sound_operators.specs.Typed.{IfGood, IsOperand}
use Rattle.al_sound_nodes.specs.Nodes.{Tells}
use Rattle.al_sound_statements.specs.Bodies.{expr_types}

-- among any names of a program with these types, so many strings and so many functions
abbrev pub among_any : List Aggregate → (strings functions : ℕ) → Scope
among_any rows strings functions = record { names = any_names rows strings functions; iterators = 0 }

-- a row of such a program
pub record IsSoundRow (rows : List Aggregate) (strings functions : ℕ) (f : Function) : Type 0 where
  pub locals : All (λ (l : Local). is_stored rows l.ty ≡ true) f.locals
  pub returns : is_sound rows f.returns ≡ true
  pub shared : nat_le (in_order (map (layout rows) (shared_types f.locals))).size (2 ^ 28) ≡ true
  pub body : IsStatement (among_any rows strings functions) outermost f.body

-- What is at hand in a function or branch: the variables of it and of those round it are stored, and its strings are among so many.
pub record IsReady (rows : List Aggregate) (strings : ℕ) (here : Here) : Type 0 where
  pub locals : All (λ (v : Variable). is_stored rows v.ty ≡ true) here.locals
  pub around : All (λ (r : Round). All (λ (v : Variable). is_stored rows v.ty ≡ true) r.locals) here.around
  pub texts : All (λ (n : Numbered). n.number < strings) here.texts
  pub iterators : here.iterators ≡ []

-- What a body gives is well typed where all that is at hand is ready, and what it returns and writes is sound. What is written is
-- the same wherever the own adt is.
abbrev pub BodiesAreTyped : Environment → (strings functions : ℕ) → Type 0
BodiesAreTyped env strings functions = (w : Within) (here written_at : Here) (tree : Stmt) → IsReady env.aggregates strings here → written_at.own ≡ here.own
    → is_sound env.aggregates w.returns ≡ true → list_all (is_sound env.aggregates) (parts env written_at tree).types ≡ true
    → IfGood (statement w env here tree) (IsStatement (among_any env.aggregates strings functions) outermost)

-- What the value of an initializer gives is well typed, where its strings are among so many and what is written in it is sound.
abbrev pub ValuesAreTyped : Type 0
ValuesAreTyped = (env : Environment) (strings functions : ℕ) (here : Here) → Tells (among_any env.aggregates strings functions) env here
    → All (λ (n : Numbered). n.number < strings) here.texts → here.around ≡ [] → here.iterators ≡ [] → (e : Expr)
    → ((t : TypeTree) → Contains (expr_types e) t → (u : Ty) → written env here t ≡ Some u → is_sound env.aggregates u ≡ true)
    → IfGood (value_of env here e) (IsOperand (among_any env.aggregates strings functions))
