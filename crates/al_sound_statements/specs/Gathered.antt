-- The types that are written in a body are among those that are gathered of it, and are asked by the rules of types.
use Rattle.std.specs.Prelude.{◌≡◌, true, Contains, [], Some}
use Rattle.al_tree.specs.declared.type_tree.TypeTree.{TypeTree}
use Rattle.al_tree.specs.declared.statement.Stmt.{Stmt}
use Rattle.al_typed.specs.declared.ty.Ty.{Ty}
use Rattle.al_environment.specs.declared.environment.Environment.{Environment}
use Rattle.al_environment.specs.declared.environment.Here.{Here}
use Rattle.al_environment.specs.Written.{written}
use Rattle.al_type_rules.specs.Rules.{rule_18_size}
use Rattle.al_type_rules.specs.Written.{faults_in}
use Rattle.al_body_parts.specs.Statements.{parts}
use Rattle.al_sound_statements.specs.Bodies.{types_in}

-- a written type breaks no rule of types
abbrev pub BreaksNone : Environment → Here → TypeTree → Type 0
BreaksNone env here t = (faults_in env here t ≡ []) × (rule_18_size env.aggregates (written env here t) ≡ true)

pub record TypesAreGathered : Type 0 where
  -- where what is gathered of a body breaks no rule
  pub faults : (env : Environment) (here : Here) (tree : Stmt) → (parts env here tree).faults ≡ [] → (t : TypeTree) → Contains (types_in tree) t → BreaksNone env here t
  -- What has a meaning. That hangs on the own adt alone of what is at hand.
  pub types : (env : Environment) (here there : Here) → here.own ≡ there.own → (tree : Stmt) (t : TypeTree) → Contains (types_in tree) t
      → (u : Ty) → written env here t ≡ Some u → Contains (parts env there tree).types u
