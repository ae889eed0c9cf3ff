-- What an initializer of each kind adds.
use Rattle.std.proofs.Common.{◌≡◌, ℕ, List, ap, ◌∙◌, sym}
use Rattle.al_base.specs.declared.place.Place.{Place}
use Rattle.al_tree.specs.declared.expression.Expr.{Expr}
use Rattle.al_tree.specs.declared.item.Initializer.{Initializer, fold-Initializer, fold-roll-Initializer}
use Rattle.al_tree.specs.declared.item.Initializer.TheVariants as n
use Rattle.al_tree.specs.declared.item.Initializer.TheOpen.{Initializer-F}
use Rattle.al_rules.specs.declared.fault.TypeFault.{TypeFault}
use Rattle.al_called.specs.Expressions.{Way, each, expr}
use Rattle.al_called.specs.Items.{initializer_step, initializer}
use Rattle.al_called.proofs.Each.{each_map}

module _ (names : List (List ℕ)) where
  pub initializer-Value : (e : Expr) (w : List TypeFault) → initializer names (n.Value e) w ≡ expr names e w
  unfolding initializer
  initializer-Value e w = ap (λ i. fold-Initializer Way (initializer_step names) i w) (sym (n.rolls-Value e)) ∙ ap (λ (way : Way). way w) (fold-roll-Initializer Way (initializer_step names) (Initializer-F.Value e))

  pub initializer-Braces : (at : Place) (parts : List Initializer) (w : List TypeFault) → initializer names (n.Braces at parts) w ≡ each (initializer names) parts w
  unfolding initializer
  initializer-Braces at parts w = ap (λ i. fold-Initializer Way (initializer_step names) i w) (sym (n.rolls-Braces at parts)) ∙ ap (λ (way : Way). way w) (fold-roll-Initializer Way (initializer_step names) (Initializer-F.Braces at parts)) ∙ each_map (λ way. way) (initializer names) parts w

pub ruleset initializer_is = (initializer-Value, initializer-Braces)
