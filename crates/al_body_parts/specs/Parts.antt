-- What is gathered of a body.
use Rattle.std.specs.Prelude.{ℕ, Bool, true, false, List, [], ◌∷◌, ◌++◌, Option, Some, None}
use Rattle.al_base.specs.declared.place.Place.{Place}
use Rattle.al_tree.specs.declared.type_tree.TypeTree.{TypeTree}
use Rattle.al_tree.specs.declared.type_tree.Dcl.{Dcl}
use Rattle.al_rules.specs.declared.fault.TypeFault.{TypeFault}
use Rattle.al_rules.specs.Outcome.{ask}
use Rattle.al_typed.specs.declared.ty.Ty.{Ty}
use Rattle.al_environment.specs.declared.environment.Environment.{Environment}
use Rattle.al_environment.specs.declared.environment.Here.{Here}
use Rattle.al_environment.specs.Written.{written}
use Rattle.al_type_rules.specs.Rules.{rule_18_size}
use Rattle.al_type_rules.specs.Types.{declared, known, variable_faults}
use Rattle.al_type_rules.specs.Written.{faults_in}
use Rattle.al_body_parts.specs.declared.parts.Parts.{Parts}

abbrev pub nothing : Parts
nothing = record { locals = []; texts = []; types = []; labels = []; faults = [] }

-- a string constant that has a block
abbrev pub with_text : Place → List ℕ → Parts → Parts
with_text at bytes q = record q { texts = q.texts ++ (record { at = at; bytes = bytes }) ∷ [] }

-- a label or a rescue at a place, of the function itself or of a branch in it
abbrev pub with_label : (inside : Bool) → Place → Parts → Parts
with_label true at q = q
with_label false at q = record q { labels = q.labels ++ at ∷ [] }

abbrev pub with_faults : List TypeFault → Parts → Parts
with_faults fs q = record q { faults = q.faults ++ fs }

abbrev pub listed : Option Ty → List Ty
listed None = []
listed (Some t) = t ∷ []

-- a local, of the function itself or of a branch in it
abbrev pub with_declared : (inside : Bool) → Dcl → Ty → Parts → Parts
with_declared true dcl t q = record q { types = q.types ++ t ∷ [] }
with_declared false dcl t q = record q { locals = q.locals ++ (record { name = dcl.name.name; at = dcl.name.at; ty = t }) ∷ [] }

unfoldable pub with_local : Environment → (base : Option Ty) → (inside : Bool) → Dcl → Parts → Parts
with_local env base inside dcl q = with_declared inside dcl (known (declared env base dcl)) (with_faults (variable_faults env base dcl) q)

module _ (env : Environment) (here : Here) where
  -- a type that is written in a cast or behind sizeof
  abbrev pub type_faults : Place → TypeTree → List TypeFault
  type_faults at t = faults_in env here t ++ ask 18 at (rule_18_size env.aggregates (written env here t))

  unfoldable pub with_type : Place → TypeTree → Parts → Parts
  with_type at t q = record q { types = q.types ++ listed (written env here t); faults = q.faults ++ type_faults at t }

  -- the base type of a declaration
  unfoldable pub with_base : TypeTree → Parts → Parts
  with_base base q = with_faults (faults_in env here base) q
