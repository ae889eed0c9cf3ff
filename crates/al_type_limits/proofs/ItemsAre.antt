-- What an initializer and a member of each kind add.
use Rattle.std.proofs.Common.{◌≡◌, List, ap, ◌∙◌, sym}
use Rattle.al_base.specs.declared.place.Place.{Place}
use Rattle.al_tree.specs.declared.type_tree.TypeTree.{TypeTree}
use Rattle.al_tree.specs.declared.type_tree.Dcl.{Dcl}
use Rattle.al_tree.specs.declared.expression.Expr.{Expr}
use Rattle.al_tree.specs.declared.item.AggregateKind.{AggregateKind}
use Rattle.al_tree.specs.declared.item.Member.{Member, fold-Member, fold-roll-Member}
use Rattle.al_tree.specs.declared.item.Member.TheVariants as m
use Rattle.al_tree.specs.declared.item.Member.TheOpen.{Member-F}
use Rattle.al_tree.specs.declared.item.Initializer.{Initializer, fold-Initializer, fold-roll-Initializer}
use Rattle.al_tree.specs.declared.item.Initializer.TheVariants as n
use Rattle.al_tree.specs.declared.item.Initializer.TheOpen.{Initializer-F}
use Rattle.al_type_limits.specs.declared.size.Size.{Size}
use Rattle.al_type_limits.specs.Types.{Names, type_size, with_type}
use Rattle.al_type_limits.specs.Expressions.{Way, each, expr}
use Rattle.al_type_limits.specs.Items.{initializer_step, initializer, field, member_step, member}
use Rattle.al_type_limits.proofs.Each.{each_map}

module _ (names : Names) where
  pub initializer-Value : (e : Expr) (w : Size) → initializer names (n.Value e) w ≡ expr names e w
  unfolding initializer
  initializer-Value e w = ap (λ i. fold-Initializer Way (initializer_step names) i w) (sym (n.rolls-Value e)) ∙ ap (λ (way : Way). way w) (fold-roll-Initializer Way (initializer_step names) (Initializer-F.Value e))

  pub initializer-Braces : (at : Place) (parts : List Initializer) (w : Size) → initializer names (n.Braces at parts) w ≡ each (initializer names) parts w
  unfolding initializer
  initializer-Braces at parts w = ap (λ i. fold-Initializer Way (initializer_step names) i w) (sym (n.rolls-Braces at parts)) ∙ ap (λ (way : Way). way w) (fold-roll-Initializer Way (initializer_step names) (Initializer-F.Braces at parts)) ∙ each_map (λ way. way) (initializer names) parts w

  pub member-Fields : (at : Place) (base : TypeTree) (fields : List Dcl) (w : Size) → member names (m.Fields at base fields) w ≡ each (field (type_size names base)) fields w
  unfolding member
  member-Fields at base fields w = ap (λ x. fold-Member Way (member_step names) x w) (sym (m.rolls-Fields at base fields)) ∙ ap (λ (way : Way). way w) (fold-roll-Member Way (member_step names) (Member-F.Fields at base fields))

  pub member-Unnamed : (at : Place) (of : TypeTree) (w : Size) → member names (m.Unnamed at of) w ≡ with_type names w of
  unfolding member
  member-Unnamed at of w = ap (λ x. fold-Member Way (member_step names) x w) (sym (m.rolls-Unnamed at of)) ∙ ap (λ (way : Way). way w) (fold-roll-Member Way (member_step names) (Member-F.Unnamed at of))

  pub member-Inner : (at : Place) (kind : AggregateKind) (members : List Member) (w : Size) → member names (m.Inner at kind members) w ≡ each (member names) members w
  unfolding member
  member-Inner at kind members w = ap (λ x. fold-Member Way (member_step names) x w) (sym (m.rolls-Inner at kind members)) ∙ ap (λ (way : Way). way w) (fold-roll-Member Way (member_step names) (Member-F.Inner at kind members)) ∙ each_map (λ way. way) (member names) members w

pub ruleset initializer_is = (initializer-Value, initializer-Braces)

pub ruleset member_is = (member-Fields, member-Unnamed, member-Inner)
