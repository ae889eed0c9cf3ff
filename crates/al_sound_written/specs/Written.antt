-- Written types that break no rule where they are written.
use Rattle.std.specs.Prelude.{◌≡◌, ℕ, Bool, true, ◌&&◌, List, [], Option, Some, None}
use Rattle.std.specs.List.{list_all}
use Rattle.al_base.specs.declared.place.Place.{Place}
use Rattle.al_tree.specs.Constants.{bound_number}
use Rattle.al_tree.specs.declared.type_tree.Bound.{Bound}
use Rattle.al_tree.specs.declared.type_tree.TypeTree.{TypeTree, fold-TypeTree}
use Rattle.al_tree.specs.declared.type_tree.TypeTree.TheOpen.{TypeTree-F}
use Rattle.al_typed.specs.declared.ty.Ty.{Ty}
use Rattle.al_typed.specs.WellTyped.{is_sound}
use Rattle.al_declare.specs.Rules.{rule_17_bound, rule_17_capacity}
use Rattle.al_environment.specs.declared.environment.Environment.{Environment}
use Rattle.al_environment.specs.declared.environment.Here.{Here}
use Rattle.al_environment.specs.Lookups.{plain_type}
use Rattle.al_environment.specs.Written.{written}
use Rattle.al_sound_types.specs.Environment.{is_instance}
use Rattle.al_type_rules.specs.Rules.{rule_18_size}
use Rattle.al_type_rules.specs.Written.{faults_in}

-- each name that stands for a type stands for a sound one, and all instances are there
pub record NamesHold (env : Environment) (here : Here) : Type 0 where
  pub plain : (name : ℕ) (t : Ty) → plain_type env here name ≡ Some t → is_sound env.aggregates t ≡ true
  pub instances : list_all (is_instance env.aggregates) env.instances ≡ true

-- ---- rule 17, of all bounds and capacities that are written

module _ (env : Environment) where
  abbrev pub bound_keeps : Place → Bound → Bool
  bound_keeps at b = rule_17_bound (bound_number env.scopes.constants.list b at)

  abbrev pub capacity_keeps : Place → Option Bound → Bool
  capacity_keeps at None = true
  capacity_keeps at (Some b) = rule_17_capacity (bound_number env.scopes.constants.list b at)

  abbrev pub all_keep : List Bool → Bool
  all_keep bs = list_all (λ b. b) bs

  abbrev pub keeps_step : TypeTree-F Bool → Bool
  keeps_step (TypeTree-F.Basic at basic) = true
  keeps_step (TypeTree-F.Named at name arguments) = all_keep arguments
  keeps_step (TypeTree-F.Tuple at parts) = all_keep parts
  keeps_step (TypeTree-F.Chan at element capacity) = element && capacity_keeps at capacity
  keeps_step (TypeTree-F.Pointer at to) = to
  keeps_step (TypeTree-F.Array at bound element) = element && bound_keeps at bound

  unfoldable pub keeps_17 : TypeTree → Bool
  keeps_17 = fold-TypeTree Bool keeps_step

-- ---- types as wholes

-- a written type that is asked all rules where it is written, and its size, is sound
abbrev pub IsSoundWritten : Environment → Here → TypeTree → Type 0
IsSoundWritten env here t =
    keeps_17 env t ≡ true → faults_in env here t ≡ [] → rule_18_size env.aggregates (written env here t) ≡ true → (u : Ty) → written env here t ≡ Some u → is_sound env.aggregates u ≡ true

abbrev pub WrittenAreSound : Type 0
WrittenAreSound = (env : Environment) (here : Here) → NamesHold env here → (t : TypeTree) → IsSoundWritten env here t
