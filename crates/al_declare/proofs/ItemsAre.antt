-- What an initializer and a member of each kind do.
use Rattle.std.proofs.Common.{◌≡◌, List, ap, ◌∙◌, sym}
use Rattle.al_base.specs.declared.place.Place.{Place}
use Rattle.al_declare.specs.declared.text.Text.{Text}
use Rattle.al_declare.specs.declared.asked.Asked.{Asked}
use Rattle.al_tree.specs.declared.type_tree.TypeTree.{TypeTree}
use Rattle.al_tree.specs.declared.type_tree.Dcl.{Dcl}
use Rattle.al_tree.specs.declared.expression.Expr.{Expr}
use Rattle.al_tree.specs.declared.item.AggregateKind.{AggregateKind}
use Rattle.al_tree.specs.declared.item.Initializer.{Initializer, fold-Initializer, fold-roll-Initializer}
use Rattle.al_tree.specs.declared.item.Initializer.TheVariants as i
use Rattle.al_tree.specs.declared.item.Initializer.TheOpen.{Initializer-F}
use Rattle.al_tree.specs.declared.item.Member.{Member, fold-Member, fold-roll-Member}
use Rattle.al_tree.specs.declared.item.Member.TheVariants as m
use Rattle.al_tree.specs.declared.item.Member.TheOpen.{Member-F}
use Rattle.al_declare.specs.Types.{Way, each, type_tree, dcl_bounds}
use Rattle.al_declare.specs.Expressions.{expr}
use Rattle.al_declare.specs.Items.{initializer_step, initializer, member_step, member}
use Rattle.al_declare.proofs.Each.{each_map}

pub initializer-Value : (e : Expr) (c : Text) (w : Asked) → initializer (i.Value e) c w ≡ expr e c w
unfolding initializer
initializer-Value e c w = ap (λ n. fold-Initializer Way initializer_step n c w) (sym (i.rolls-Value e)) ∙ ap (λ (a : Way). a c w) (fold-roll-Initializer Way initializer_step (Initializer-F.Value e))

pub initializer-Braces : (at : Place) (parts : List Initializer) (c : Text) (w : Asked) → initializer (i.Braces at parts) c w ≡ each initializer parts c w
unfolding initializer
initializer-Braces at parts c w = ap (λ n. fold-Initializer Way initializer_step n c w) (sym (i.rolls-Braces at parts)) ∙ ap (λ (a : Way). a c w) (fold-roll-Initializer Way initializer_step (Initializer-F.Braces at parts)) ∙ each_map (λ a. a) initializer parts c w

pub ruleset initializer_is = (initializer-Value, initializer-Braces)

pub member-Fields : (at : Place) (base : TypeTree) (fields : List Dcl) (c : Text) (w : Asked) → member (m.Fields at base fields) c w ≡ each dcl_bounds fields c (type_tree base c w)
unfolding member
member-Fields at base fields c w = ap (λ n. fold-Member Way member_step n c w) (sym (m.rolls-Fields at base fields)) ∙ ap (λ (a : Way). a c w) (fold-roll-Member Way member_step (Member-F.Fields at base fields))

pub member-Unnamed : (at : Place) (of : TypeTree) (c : Text) (w : Asked) → member (m.Unnamed at of) c w ≡ type_tree of c w
unfolding member
member-Unnamed at of c w = ap (λ n. fold-Member Way member_step n c w) (sym (m.rolls-Unnamed at of)) ∙ ap (λ (a : Way). a c w) (fold-roll-Member Way member_step (Member-F.Unnamed at of))

pub member-Inner : (at : Place) (kind : AggregateKind) (members : List Member) (c : Text) (w : Asked) → member (m.Inner at kind members) c w ≡ each member members c w
unfolding member
member-Inner at kind members c w = ap (λ n. fold-Member Way member_step n c w) (sym (m.rolls-Inner at kind members)) ∙ ap (λ (a : Way). a c w) (fold-roll-Member Way member_step (Member-F.Inner at kind members)) ∙ each_map (λ a. a) member members c w

pub ruleset member_is = (member-Fields, member-Unnamed, member-Inner)
