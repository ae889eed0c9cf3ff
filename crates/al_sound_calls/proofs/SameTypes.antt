-- Environments that have the same types.
use Rattle.std.proofs.Common.{◌≡◌, ℕ, List, refl}
use Rattle.al_tree.specs.declared.type_tree.TypeTree.{TypeTree}
use Rattle.al_tree.specs.declared.item.Parameter.{Parameter}
use Rattle.al_environment.specs.declared.environment.Environment.{Environment}
use Rattle.al_environment.specs.declared.environment.MemberNames.{MemberNames}
use Rattle.al_environment.specs.declared.environment.Here.{Here}
use Rattle.al_environment.specs.Written.{written}
use Rattle.al_environment.specs.Lookups.{plain_type, instance_type}
use Rattle.al_type_rules.specs.Types.{signature, parameter_types, plain_types, parameter_arrays}
use Rattle.al_globals.specs.declared.found.Found.{Found}
use Rattle.al_adt_functions.specs.Owned.{aggregate_named}
use Rattle.al_build_environment.specs.Whole.{with_names}

pub written_same : (env : Environment) (names : List MemberNames) (found : Found) (here : Here) (t : TypeTree) → written (with_names env names found) here t ≡ written env here t
unfolding written plain_type instance_type
written_same env names found here t = refl

pub signature_same : (env : Environment) (names : List MemberNames) (found : Found) (here : Here) (base : TypeTree) (stars : ℕ) (ps : List Parameter)
    → signature (with_names env names found) here base stars ps ≡ signature env here base stars ps
unfolding signature parameter_types plain_types parameter_arrays written plain_type instance_type
signature_same env names found here base stars ps = refl

pub named_same : (env : Environment) (names : List MemberNames) (found : Found) (name : ℕ) → aggregate_named (with_names env names found) name ≡ aggregate_named env name
unfolding plain_type
named_same env names found name = refl
