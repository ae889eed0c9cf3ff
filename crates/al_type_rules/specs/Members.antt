-- The rules of the types of data members.
use Rattle.std.specs.Prelude.{List, ◌++◌}
use Rattle.std.specs.List.{flat_map}
use Rattle.al_tree.specs.declared.type_tree.TypeTree.{TypeTree}
use Rattle.al_tree.specs.declared.type_tree.Dcl.{Dcl}
use Rattle.al_tree.specs.declared.item.Member.{Member, fold-Member}
use Rattle.al_tree.specs.declared.item.Member.TheOpen.{Member-F}
use Rattle.al_rules.specs.declared.fault.TypeFault.{TypeFault}
use Rattle.al_environment.specs.declared.environment.Environment.{Environment}
use Rattle.al_environment.specs.declared.environment.Here.{Here}
use Rattle.al_environment.specs.Written.{written}
use Rattle.al_type_rules.specs.Written.{faults_in}
use Rattle.al_type_rules.specs.Types.{variable_faults}

module _ (env : Environment) (here : Here) where
  abbrev pub field_faults : TypeTree → Dcl → List TypeFault
  field_faults base dcl = variable_faults env (written env here base) dcl

  -- variables or members of one base type
  abbrev pub fields_faults : TypeTree → List Dcl → List TypeFault
  fields_faults base fields = faults_in env here base ++ flat_map (field_faults base) fields

  abbrev pub joined : List (List TypeFault) → List TypeFault
  joined = flat_map (λ (fs : List TypeFault). fs)

  abbrev pub member_step : Member-F (List TypeFault) → List TypeFault
  member_step (Member-F.Fields at base fields) = fields_faults base fields
  member_step (Member-F.Unnamed at of) = faults_in env here of
  member_step (Member-F.Inner at kind members) = joined members

  unfoldable pub member_faults : Member → List TypeFault
  member_faults = fold-Member (List TypeFault) member_step
