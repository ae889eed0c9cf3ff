-- A type that has a body has a member, and so has each type without a name in it.
use Rattle.std.specs.Prelude.{◌≡◌, ℕ, Bool, true, false, ◌&&◌, List, [], ◌∷◌}
use Rattle.std.specs.List.{list_all}
use Rattle.al_lex.specs.TokenList.{TokenList}
use Rattle.al_tree.specs.Tree.{IsTree}
use Rattle.al_tree.specs.declared.item.Member.{Member, fold-Member}
use Rattle.al_tree.specs.declared.item.Member.TheOpen.{Member-F}
use Rattle.al_tree.specs.declared.item.AdtPart.{AdtPart}
use Rattle.al_tree.specs.declared.item.AdtPart.TheVariants as adt
use Rattle.al_tree.specs.declared.item.AdtMember.{AdtMember}
use Rattle.al_tree.specs.declared.item.Item.{Item}
use Rattle.al_tree.specs.declared.item.Item.TheVariants as item
use Rattle.al_tree.specs.declared.item.Tree.{Tree}

abbrev pub has_some : {A : Type 0} → List A → Bool
has_some [] = false
has_some (x ∷ xs) = true

abbrev pub member_step : Member-F Bool → Bool
member_step (Member-F.Fields at base fields) = has_some fields
member_step (Member-F.Unnamed at of) = true
member_step (Member-F.Inner at kind members) = has_some members && list_all (λ b. b) members

-- a declaration of members declares one, and what stands in braces has one
unfoldable pub declares_some : Member → Bool
declares_some = fold-Member Bool member_step

abbrev pub part_declares_some : AdtPart → Bool
part_declares_some (adt.Data m) = declares_some m
part_declares_some (adt.Function base stars name parameters) = true

abbrev pub adt_member_declares_some : AdtMember → Bool
adt_member_declares_some m = part_declares_some m.part

-- A body of an aggr or union has a member. That of an adt may have functions alone.
abbrev pub item_has_members : Item → Bool
item_has_members (item.Aggregate at kind name members) = has_some members && list_all declares_some members
item_has_members (item.Adt at name parameters members) = has_some members && list_all adt_member_declares_some members
item_has_members _ = true

unfoldable pub tree_has_members : Tree → Bool
tree_has_members tree = list_all item_has_members tree.items

pub record UnionsHaveMembers : Type 0 where
  pub tree : (tokens : TokenList) (tree : Tree) (height : ℕ) → IsTree tokens tree height → tree_has_members tree ≡ true
