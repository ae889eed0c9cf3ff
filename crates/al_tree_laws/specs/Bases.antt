-- The base type of a declaration is no array: the bounds of arrays stand behind the name that is declared.
use Rattle.std.specs.Prelude.{◌≡◌, ℕ, Bool, true, false, ◌&&◌, List, Option, Some, None}
use Rattle.std.specs.List.{list_all}
use Rattle.al_lex.specs.TokenList.{TokenList}
use Rattle.al_tree.specs.Tree.{IsTree}
use Rattle.al_tree.specs.declared.type_tree.TypeTree.{TypeTree, out-TypeTree}
use Rattle.al_tree.specs.declared.type_tree.TypeTree.TheOpen.{TypeTree-F}
use Rattle.al_tree.specs.declared.statement.Stmt.{Stmt, fold-Stmt}
use Rattle.al_tree.specs.declared.statement.Stmt.TheOpen.{Stmt-F}
use Rattle.al_tree.specs.declared.item.Parameter.{Parameter}
use Rattle.al_tree.specs.declared.item.Parameter.TheVariants as parameter
use Rattle.al_tree.specs.declared.item.Declarator.{Declarator}
use Rattle.al_tree.specs.declared.item.Declarator.TheVariants as declarator
use Rattle.al_tree.specs.declared.item.Member.{Member, fold-Member}
use Rattle.al_tree.specs.declared.item.Member.TheOpen.{Member-F}
use Rattle.al_tree.specs.declared.item.AdtPart.{AdtPart}
use Rattle.al_tree.specs.declared.item.AdtPart.TheVariants as adt
use Rattle.al_tree.specs.declared.item.AdtMember.{AdtMember}
use Rattle.al_tree.specs.declared.item.Item.{Item}
use Rattle.al_tree.specs.declared.item.Item.TheVariants as item
use Rattle.al_tree.specs.declared.item.Tree.{Tree}

abbrev pub is_base_at : TypeTree-F TypeTree → Bool
is_base_at (TypeTree-F.Array at bound x) = false
is_base_at _ = true

unfoldable pub is_base : TypeTree → Bool
is_base t = is_base_at (out-TypeTree t)

abbrev pub all_true : List Bool → Bool
all_true = list_all (λ b. b)

-- of a parameter, where it is none of its own
abbrev pub parameter_has_base : Parameter → Bool
parameter_has_base (parameter.Plain at base stars name bounds) = is_base base
parameter_has_base _ = true

-- ---- locals

abbrev pub true_if_any : Option Bool → Bool
true_if_any None = true
true_if_any (Some b) = b

abbrev pub statement_step : Stmt-F Bool → Bool
statement_step (Stmt-F.Block at body) = all_true body
statement_step (Stmt-F.Declare at base variables) = is_base base
statement_step (Stmt-F.Label at name body) = body
statement_step (Stmt-F.If at condition met other) = met && true_if_any other
statement_step (Stmt-F.While at condition body) = body
statement_step (Stmt-F.Do at body condition) = body
statement_step (Stmt-F.For at start condition next body) = body
statement_step (Stmt-F.Switch at value body) = all_true body
statement_step (Stmt-F.Alt at body) = all_true body
statement_step (Stmt-F.Par at branches) = all_true branches
statement_step (Stmt-F.Rescue at name body) = body
statement_step _ = true

-- of all local declarations in a statement
unfoldable pub statement_has_bases : Stmt → Bool
statement_has_bases = fold-Stmt Bool statement_step

-- ---- members

abbrev pub member_step : Member-F Bool → Bool
member_step (Member-F.Fields at base fields) = is_base base
member_step (Member-F.Unnamed at of) = is_base of
member_step (Member-F.Inner at kind members) = all_true members

-- of a member, and of all members inside it
unfoldable pub member_has_bases : Member → Bool
member_has_bases = fold-Member Bool member_step

abbrev pub part_has_bases : AdtPart → Bool
part_has_bases (adt.Data m) = member_has_bases m
part_has_bases (adt.Function base stars name parameters) = is_base base && list_all parameter_has_base parameters

abbrev pub adt_member_has_bases : AdtMember → Bool
adt_member_has_bases m = part_has_bases m.part

-- ---- items

abbrev pub declarator_has_bases : Declarator → Bool
declarator_has_bases (declarator.Global dcl value) = true
declarator_has_bases (declarator.Function head) = list_all parameter_has_base head.parameters

-- of all declarations in an item
abbrev pub item_has_bases : Item → Bool
item_has_bases (item.Typedef at base dcl) = is_base base
item_has_bases (item.FunctionType at base stars name parameters) = is_base base && list_all parameter_has_base parameters
item_has_bases (item.Aggregate at kind name members) = list_all member_has_bases members
item_has_bases (item.Adt at name parameters members) = list_all adt_member_has_bases members
item_has_bases (item.Declare at scope base declarators) = is_base base && list_all declarator_has_bases declarators
item_has_bases (item.Function at scope base head body) = is_base base && list_all parameter_has_base head.parameters && statement_has_bases body
item_has_bases _ = true

unfoldable pub tree_has_bases : Tree → Bool
tree_has_bases tree = list_all item_has_bases tree.items

pub record BasesArePlain : Type 0 where
  pub tree : (tokens : TokenList) (tree : Tree) (height : ℕ) → IsTree tokens tree height → tree_has_bases tree ≡ true
