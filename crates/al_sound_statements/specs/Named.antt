-- What the tree of a body gives is well typed among any names, where the names that stand in it are among them, and its jumps and pars lead to what is
-- there.
use Rattle.std.specs.Prelude.{◌≡◌, ℕ, ◌<◌, true, false, All, Contains, List, [], map, Some, ⊤}
use Rattle.al_base.specs.declared.place.Place.{Place}
use Rattle.al_rules.specs.Outcome.{Good}
use Rattle.al_tree.specs.declared.type_tree.TypeTree.{TypeTree}
use Rattle.al_tree.specs.declared.expression.Expr.{Expr}
use Rattle.al_tree.specs.declared.statement.Stmt.{Stmt, out-Stmt}
use Rattle.al_tree.specs.declared.statement.Stmt.TheOpen.{Stmt-F}
use Rattle.al_tree_walks.specs.Expressions.{addressed_places, name_places}
use Rattle.al_tree_walks.specs.Statements.{Standing, own_expressions, standing}
use Rattle.al_scope.specs.declared.declaration.Declaration.TheVariants as declaration
use Rattle.al_scope.specs.Firsts.{declaration_at}
use Rattle.al_flow.specs.Targets.{number_at as target_at}
use Rattle.al_typed.specs.declared.ty.Ty.{Ty}
use Rattle.al_typed.specs.WellTyped.{AreBranches, AreRound, IsHandedOn, IsLabel, IsRescue, IsReturned, IsSharedLocal, IsStatement, Scope, is_sound, rows, strings_of}
use Rattle.al_convert.specs.Same.{same}
use Rattle.al_environment.specs.declared.environment.Environment.{Environment}
use Rattle.al_environment.specs.declared.environment.Here.{Here}
use Rattle.al_environment.specs.declared.environment.Variable.{Variable}
use Rattle.al_environment.specs.declared.numbered.Numbered.{Numbered}
use Rattle.al_environment.specs.Lookups.{local}
use Rattle.al_environment.specs.Written.{written}
use Rattle.al_branches.specs.Statements.{place}
use Rattle.al_type_stmt.specs.declared.within.Within.{Within}
use Rattle.al_type_stmt.specs.declared.within.Choice.TheVariants as choice
use Rattle.al_type_stmt.specs.Statements.{branch_at, of_each, statement}
use Rattle.al_sound_operators.specs.Typed.{IfGood}
use Rattle.al_sound_nodes.specs.Nodes.{IsReached, Tells}
use Rattle.al_sound_statements.specs.Statements.{nest_of}
use Rattle.al_sound_statements.specs.Bodies.{types_in}

-- The name at a place reaches what it stands for. Only a local of a function round the branch at hand may be out of reach: one that is not shared.
abbrev pub IsReachedAt : Scope → Environment → Here → Place → Type 0
IsReachedAt s env here at = IsReached s here (declaration_at env.scopes.names at)

-- The name at a place whose address is taken is shared, where it stands for a local.
abbrev pub IsSharedAt : Scope → Environment → Here → Place → Type 0
IsSharedAt s env here at = (n : ℕ) (v : Variable) → declaration_at env.scopes.names at ≡ Some (declaration.Local n) → local here n ≡ Some v → IsSharedLocal s.names v.number

-- A jump or a par with so many loops, switches and alts, and so many loops, round it leads to what is there.
abbrev pub Leads : Scope → ℕ → Within → ℕ → ℕ → Stmt-F Stmt → Type 0
Leads s number w b l (Stmt-F.Par at branches) = (ns : List ℕ) → of_each (branch_at w) (map place branches) ≡ Good ns → AreBranches s.names number ns
Leads s number w b l (Stmt-F.Raise at name) = (n : ℕ) → target_at w.targets at ≡ Some n → IsRescue s.names n
Leads s number w b l (Stmt-F.Break at count) = (n : ℕ) → target_at w.targets at ≡ Some n → AreRound s.names n b
Leads s number w b l (Stmt-F.Continue at count) = (n : ℕ) → target_at w.targets at ≡ Some n → AreRound s.names n l
Leads s number w b l (Stmt-F.Goto at name) = (n : ℕ) → target_at w.targets at ≡ Some n → IsLabel s.names n
Leads s number w b l _ = ⊤

-- The body of the function or branch of that number, among names that are told. Its result is the function's, its strings are there, no iterator stands
-- round it, and the types that are written in it are sound. Its names reach what they stand for, and its jumps and pars what they lead to.
pub record IsNamedBody (s : Scope) (number : ℕ) (w : Within) (env : Environment) (here : Here) (tree : Stmt) : Type 0 where
  pub tells : Tells s env here
  pub returned : IsReturned s.names w.returns
  pub returns : is_sound (rows s) w.returns ≡ true
  pub hands_on : (t : Ty) → same false t w.returns ≡ true → IsHandedOn s.names t
  pub texts : All (λ (n : Numbered). n.number < strings_of s.names) here.texts
  pub no_iterators : here.iterators ≡ []
  pub reached : (e : Expr) → Contains (own_expressions tree) e → (at : Place) → Contains (name_places e) at → IsReachedAt s env here at
  pub shared : (e : Expr) → Contains (own_expressions tree) e → (at : Place) → Contains (addressed_places e) at → IsSharedAt s env here at
  pub types : (t : TypeTree) → Contains (types_in tree) t → (u : Ty) → written env here t ≡ Some u → is_sound (rows s) u ≡ true
  pub leads : (x : Standing) → Contains (standing tree 0 0) x → Leads s number w x.breaks x.loops (out-Stmt x.tree)

pub record BodiesAreNamed : Type 0 where
  pub body : (s : Scope) (number : ℕ) (w : Within) (env : Environment) (here : Here) (tree : Stmt) → IsNamedBody s number w env here tree
      → IfGood (statement w env here tree) (IsStatement s (nest_of number 0 0 choice.Neither))
