-- A type that has a body has a member.
use Rattle.std.proofs.Common.{◌≡◌, ℕ, Bool, true, List, refl, sym, ap, ◌∙◌}
use Rattle.std.specs.List.{list_all}
use Rattle.al_lex.specs.declared.token.Token.{Token}
use Rattle.al_lex.specs.TokenList.{TokenList}
use Rattle.al_tree.specs.Words.{start}
use Rattle.al_tree.specs.Types.{Leaves}
use Rattle.al_tree.specs.Items as i
use Rattle.al_tree.specs.Items.{Declared, IsDcls, IsMember, IsMembers, IsAdtPart, IsAdtMember, IsAdtMembers, IsItem, IsItems}
use Rattle.al_tree.specs.Leaves.{leaves_of}
use Rattle.al_tree.specs.Tree.{IsTree}
use Rattle.al_tree.specs.declared.type_tree.Dcl.{Dcl}
use Rattle.al_tree.specs.declared.item.Member.{Member, roll-Member, map-Member, fold-roll-Member}
use Rattle.al_tree.specs.declared.item.Member.TheVariants as mem
use Rattle.al_tree.specs.declared.item.Member.TheOpen.{Member-F}
use Rattle.al_tree.specs.declared.item.AdtPart.{AdtPart}
use Rattle.al_tree.specs.declared.item.AdtMember.{AdtMember}
use Rattle.al_tree.specs.declared.item.Item.{Item}
use Rattle.al_tree.specs.declared.item.Tree.{Tree}
use Rattle.al_tree_laws.specs.Unions.{UnionsHaveMembers, has_some, member_step, declares_some, part_declares_some, adt_member_declares_some, item_has_members, tree_has_members}
use Rattle.al_tree_laws.proofs.Trues.{both_true, all_one_more, all_map, some_more, some_map}

member_by : (z : Member-F Member) {x : Member} → roll-Member z ≡ x → member_step (map-Member Member Bool declares_some z) ≡ true → declares_some x ≡ true
unfolding declares_some
member_by z q h = ap declares_some (sym q) ∙ fold-roll-Member Bool member_step z ∙ h

module _ (leaves : Leaves) where
  module _ (types : List ℕ) where
    dcls_are : {u : List Token} {xs : List Dcl} {h : ℕ} → IsDcls leaves types u xs h → has_some xs ≡ true
    dcls_are (i.one d) = refl
    dcls_are (i.more w {xs = xs} {x = x} l c d) = some_more xs x

    members_some : {u : List Token} {xs : List Member} {h : ℕ} → IsMembers leaves types u xs h → has_some xs ≡ true
    members_some (i.one d) = refl
    members_some (i.more {xs = xs} {x = x} l d) = some_more xs x

    mutual
      pub member_is : {u : List Token} {x : Member} {h : ℕ} → IsMember leaves types u x h → declares_some x ≡ true
      member_is (i.fields w {u = u} {x = x} {ys = ys} b l c) = member_by _ (mem.rolls-Fields (start u) x ys) (dcls_are l)
      member_is (i.unnamed w {u = u} {x = x} b c d) = member_by _ (mem.rolls-Unnamed (start u) x) refl
      member_is (i.inner w o c e {kind = kind} {xs = xs} a oc l ec tc) =
          member_by _ (mem.rolls-Inner w.place kind xs) (both_true (some_map declares_some xs (members_some l)) (all_map declares_some xs (members_are l)))

      pub members_are : {u : List Token} {xs : List Member} {h : ℕ} → IsMembers leaves types u xs h → list_all declares_some xs ≡ true
      members_are (i.one d) = both_true (member_is d) refl
      members_are (i.more {xs = xs} {x = x} l d) = all_one_more declares_some xs x (members_are l) (member_is d)

    pub part_is : {u : List Token} {x : AdtPart} {h : ℕ} → IsAdtPart leaves types u x h → part_declares_some x ≡ true
    part_is (i.data_member d) = member_is d
    part_is (i.function w o c q b a n oc l ec qc) = refl

    pub adt_member_is : {u : List Token} {x : AdtMember} {h : ℕ} → IsAdtMember leaves types u x h → adt_member_declares_some x ≡ true
    adt_member_is (i.plain d) = part_is d
    adt_member_is (i.marked w c d) = part_is d

    pub adt_members_some : {u : List Token} {xs : List AdtMember} {h : ℕ} → IsAdtMembers leaves types u xs h → has_some xs ≡ true
    adt_members_some (i.one d) = refl
    adt_members_some (i.more {xs = xs} {x = x} l d) = some_more xs x

    pub adt_members_are : {u : List Token} {xs : List AdtMember} {h : ℕ} → IsAdtMembers leaves types u xs h → list_all adt_member_declares_some xs ≡ true
    adt_members_are (i.one d) = both_true (adt_member_is d) refl
    adt_members_are (i.more {xs = xs} {x = x} l d) = all_one_more adt_member_declares_some xs x (adt_members_are l) (adt_member_is d)

  pub item_is : {d after : Declared} {u : List Token} {x : Item} {h : ℕ} → IsItem leaves d u x after h → item_has_members x ≡ true
  item_is (i.typedef w e wc b a tc) = refl
  item_is (i.function_type w m o c e wc b a mc oc l ec tc) = refl
  item_is (i.forward w m e a mc tc) = refl
  item_is (i.plain_members w m o c a mc oc l ec q) = both_true (members_some _ l) (members_are _ l)
  item_is (i.adt w m o c wc mc oc l ec q) = both_true (adt_members_some _ l) (adt_members_are _ l)
  item_is (i.parametrised w m l r o c wc mc lc a rc oc b ec q) = both_true (adt_members_some _ b) (adt_members_are _ b)
  item_is (i.enum w wc a q) = refl
  item_is (i.named_enum w m wc mc a q) = refl
  item_is (i.declare w a b l tc) = refl
  item_is (i.function a b f k) = refl

  pub items_are : {d : Declared} {u : List Token} {xs : List Item} {h : ℕ} → IsItems leaves u xs d h → list_all item_has_members xs ≡ true
  items_are i.none = refl
  items_are (i.more {xs = xs} {x = x} l d) = all_one_more item_has_members xs x (items_are l) (item_is d)

tree_is : (tokens : TokenList) (tree : Tree) (height : ℕ) → IsTree tokens tree height → tree_has_members tree ≡ true
unfolding tree_has_members
tree_is tokens tree height is = items_are (leaves_of tokens.text) is.tree_of.items

pub unions_have_members : UnionsHaveMembers
unions_have_members = record { tree = tree_is }
