-- Which types in a written type break rules 7, 16, 18 and 20. They are asked where a type stands in another, by what it is
-- there; what is written as a whole is asked by what it declares, and a tuple of rule 18 in any place.
use Rattle.std.specs.Prelude.{List, [], ◌++◌, map, Option}
use Rattle.std.specs.List.{flat_map}
use Rattle.al_base.specs.declared.place.Place.{Place}
use Rattle.al_tree.specs.declared.type_tree.TypeTree.{TypeTree, para-TypeTree}
use Rattle.al_tree.specs.declared.type_tree.TypeTree.TheOpen.{TypeTree-F}
use Rattle.al_tree.specs.declared.type_tree.TypeTree.TheVariants as tree
use Rattle.al_rules.specs.declared.fault.TypeFault.{TypeFault}
use Rattle.al_rules.specs.Outcome.{ask}
use Rattle.al_typed.specs.declared.program.Aggregate.{Aggregate}
use Rattle.al_typed.specs.declared.ty.Ty.{Ty}
use Rattle.al_environment.specs.declared.environment.Environment.{Environment}
use Rattle.al_environment.specs.declared.environment.Here.{Here}
use Rattle.al_environment.specs.Written.{written}
use Rattle.al_type_rules.specs.declared.written.Stands.{Stands}
use Rattle.al_type_rules.specs.declared.written.Stands.TheVariants as stands
use Rattle.al_type_rules.specs.Rules.{rule_7_value, rule_16_value, rule_18_size, rule_20_part}

-- ---- what is asked of a type in the type at a place

module _ (rows : List Aggregate) (at : Place) where
  abbrev pub value : Option Ty → List TypeFault
  value t = ask 7 at (rule_7_value rows t) ++ ask 18 at (rule_18_size rows t)

  abbrev pub behind : Option Ty → List TypeFault
  behind t = ask 18 at (rule_18_size rows t)

  abbrev pub argument : Option Ty → List TypeFault
  argument t = ask 16 at (rule_16_value t) ++ behind t

  abbrev pub element : Option Ty → List TypeFault
  element t = ask 16 at (rule_16_value t) ++ value t

  abbrev pub part : Option Ty → List TypeFault
  part t = ask 20 at (rule_20_part t) ++ element t

-- where it stands so
abbrev pub asked : List Aggregate → Stands → Place → Option Ty → List TypeFault
asked rows stands.Behind at t = behind rows at t
asked rows stands.Argument at t = argument rows at t
asked rows stands.Element at t = element rows at t
asked rows stands.Part at t = part rows at t

module _ (env : Environment) (here : Here) where
  -- one that stands so, behind the faults in it
  abbrev pub asked_child : Stands → Place → TypeTree × List TypeFault → List TypeFault
  asked_child s at c = c.1 ++ asked env.aggregates s at (written env here c.0)

  -- rule 18 of a tuple as a whole, which may stand where only a pointer to it is declared
  abbrev pub tuple_faults : Place → List TypeTree → List TypeFault
  tuple_faults at parts = behind env.aggregates at (written env here (tree.Tuple at parts))

  abbrev pub faults_step : TypeTree-F (TypeTree × List TypeFault) → List TypeFault
  faults_step (TypeTree-F.Basic at basic) = []
  faults_step (TypeTree-F.Named at name arguments) = flat_map (asked_child stands.Argument at) arguments
  faults_step (TypeTree-F.Tuple at parts) = flat_map (asked_child stands.Part at) parts ++ tuple_faults at (map (λ (c : TypeTree × List TypeFault). c.0) parts)
  faults_step (TypeTree-F.Chan at element capacity) = asked_child stands.Part at element
  faults_step (TypeTree-F.Pointer at to) = asked_child stands.Behind at to
  faults_step (TypeTree-F.Array at bound element) = asked_child stands.Element at element

  unfoldable pub faults_in : TypeTree → List TypeFault
  faults_in = para-TypeTree (List TypeFault) faults_step

  -- a type that stands so, with the faults in it
  abbrev pub faults_of : Stands → Place → TypeTree → List TypeFault
  faults_of s at t = faults_in t ++ asked env.aggregates s at (written env here t)
