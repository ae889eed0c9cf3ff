-- Names that mark locals as shared.
use Rattle.std.specs.Prelude.{◌≡◌, ℕ, ◌<◌, Bool, true, Contains, List, Some, slice_get}
use Rattle.al_base.specs.declared.place.Place.{Place}
use Rattle.al_tree.specs.declared.expression.Expr.{Expr}
use Rattle.al_tree.specs.declared.statement.Stmt.{Stmt}
use Rattle.al_tree_walks.specs.Expressions.{addressed_places, name_places}
use Rattle.al_tree_walks.specs.Statements.{branches, expressions, own_expressions}
use Rattle.al_scope.specs.declared.declaration.Declaration.TheVariants as declaration
use Rattle.al_scope.specs.declared.declaration.Resolved.{Resolved}
use Rattle.al_scope.specs.Firsts.{declaration_at}
use Rattle.al_shared.specs.Statements.{shared}

-- the local of that number is marked
abbrev pub IsMarked : List Bool → ℕ → Type 0
IsMarked marks n = slice_get marks n ≡ Some true

-- Of a function or branch with that body, round which so many functions are, and which has so many parameters and locals.
pub record SharedAreMarked : Type 0 where
  -- a name in a branch of a par in it that stands for one of them
  pub outer : (names : List Resolved) (round count : ℕ) (body b : Stmt) (e : Expr) (at : Place) (n : ℕ)
      → Contains (branches body) b → Contains (expressions b) e → Contains (name_places e) at
      → declaration_at names at ≡ Some (declaration.Outer round n) → n < count → IsMarked (shared names round count body) n
  -- a name behind `&` that stands for one of them
  pub addressed : (names : List Resolved) (round count : ℕ) (body : Stmt) (e : Expr) (at : Place) (n : ℕ)
      → Contains (own_expressions body) e → Contains (addressed_places e) at
      → declaration_at names at ≡ Some (declaration.Local n) → n < count → IsMarked (shared names round count body) n
