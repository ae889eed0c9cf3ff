-- The values of the enum constants of a text have no more bits than their kinds.
use Rattle.std.specs.Prelude.{◌≡◌, ℕ, ◌<◌, ◌^◌, List, Some, slice_get}
use Rattle.al_base.specs.Arith.{width_of}
use Rattle.al_tree.specs.Constants.{values}
use Rattle.al_tree.specs.declared.constants.EnumConstant.{EnumConstant}
use Rattle.al_tree.specs.declared.integer.Integer.{Integer}
use Rattle.al_tree.specs.declared.item.Item.{Item}
use Rattle.al_tree.specs.declared.item.Tree.{Tree}
use Rattle.al_rules.specs.Outcome.{Good}
use Rattle.al_scope.specs.declared.declaration.Scopes.{Scopes}
use Rattle.al_scope.specs.Items.{resolved}

abbrev pub AreWithin : List EnumConstant → Type 0
AreWithin cs = (n : ℕ) (c : EnumConstant) (i : Integer) → slice_get cs n ≡ Some c → c.value ≡ Some i → i.bits < 2 ^ width_of i.kind

pub record ConstantsAreWithin : Type 0 where
  pub values_are : (items : List Item) → AreWithin (values items)
  pub scopes_are : (tree : Tree) (scopes : Scopes) → resolved tree ≡ Good scopes → AreWithin scopes.constants.list
