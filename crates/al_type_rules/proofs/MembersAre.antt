-- The faults in a member, for each kind.
use Rattle.std.proofs.Common.{◌≡◌, List, [], ◌∷◌, ◌++◌, map, refl, ap, ◌∙◌, sym}
use Rattle.std.specs.List.{flat_map}
use Rattle.al_base.specs.declared.place.Place.{Place}
use Rattle.al_tree.specs.declared.type_tree.TypeTree.{TypeTree}
use Rattle.al_tree.specs.declared.type_tree.Dcl.{Dcl}
use Rattle.al_tree.specs.declared.item.AggregateKind.{AggregateKind}
use Rattle.al_tree.specs.declared.item.Member.{Member, fold-Member, fold-roll-Member}
use Rattle.al_tree.specs.declared.item.Member.TheVariants as m
use Rattle.al_tree.specs.declared.item.Member.TheOpen.{Member-F}
use Rattle.al_rules.specs.declared.fault.TypeFault.{TypeFault}
use Rattle.al_environment.specs.declared.environment.Environment.{Environment}
use Rattle.al_environment.specs.declared.environment.Here.{Here}
use Rattle.al_type_rules.specs.Written.{faults_in}
use Rattle.al_type_rules.specs.Members.{fields_faults, member_step, member_faults}

joined-map : {A B : Type 0} (f : A → List B) (xs : List A) → flat_map (λ (l : List B). l) (map f xs) ≡ flat_map f xs
joined-map f [] = refl
joined-map f (x ∷ xs) = ap (λ l. f x ++ l) (joined-map f xs)

module _ (env : Environment) (here : Here) where
  pub member-Fields : (at : Place) (base : TypeTree) (fields : List Dcl) → member_faults env here (m.Fields at base fields) ≡ fields_faults env here base fields
  unfolding member_faults
  member-Fields at base fields = ap (fold-Member (List TypeFault) (member_step env here)) (sym (m.rolls-Fields at base fields)) ∙ fold-roll-Member (List TypeFault) (member_step env here) (Member-F.Fields at base fields)

  pub member-Unnamed : (at : Place) (of : TypeTree) → member_faults env here (m.Unnamed at of) ≡ faults_in env here of
  unfolding member_faults
  member-Unnamed at of = ap (fold-Member (List TypeFault) (member_step env here)) (sym (m.rolls-Unnamed at of)) ∙ fold-roll-Member (List TypeFault) (member_step env here) (Member-F.Unnamed at of)

  pub member-Inner : (at : Place) (kind : AggregateKind) (members : List Member) → member_faults env here (m.Inner at kind members) ≡ flat_map (member_faults env here) members
  unfolding member_faults
  member-Inner at kind members =
      ap (fold-Member (List TypeFault) (member_step env here)) (sym (m.rolls-Inner at kind members))
      ∙ fold-roll-Member (List TypeFault) (member_step env here) (Member-F.Inner at kind members)
      ∙ joined-map (member_faults env here) members

pub ruleset member_is = (member-Fields, member-Unnamed, member-Inner)
