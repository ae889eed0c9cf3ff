-- The forms that a text gives to its types are no more than its tokens.
use Rattle.std.proofs.Common.{◌≡◌, ℕ, ◌+◌, ◌<◌, ◌≤◌, List, [], ◌∷◌, ◌++◌, map, length, sym, ap, ◌∙◌, subst, arith, length-append}
use Rattle.al_lex.specs.TokenList.{TokenList}
use Rattle.al_lex.specs.declared.token.Token.{Token}
use Rattle.al_tree.specs.Leaves.{leaves_of}
use Rattle.al_tree.specs.Words.{start}
use Rattle.al_tree.specs.Types.{Leaves}
use Rattle.al_tree.specs.Items as i
use Rattle.al_tree.specs.Items.{Declared, IsItem, IsItems, IsMember, IsMembers, IsAdtPart, IsAdtMember, IsAdtMembers}
use Rattle.al_tree.specs.Tree.{IsTree}
use Rattle.al_tree.specs.declared.item.AdtPart.{AdtPart}
use Rattle.al_tree.specs.declared.item.AdtPart.TheVariants as part
use Rattle.al_tree.specs.declared.item.AdtMember.{AdtMember}
use Rattle.al_tree.specs.declared.item.Item.{Item}
use Rattle.al_tree.specs.declared.item.Item.TheVariants as item
use Rattle.al_tree.specs.declared.item.Member.{Member, fold-Member, roll-Member, map-Member, fold-roll-Member}
use Rattle.al_tree.specs.declared.item.Member.TheVariants as m
use Rattle.al_tree.specs.declared.item.Member.TheOpen.{Member-F}
use Rattle.al_tree.specs.declared.item.Tree.{Tree}

abbrev pub total : List ℕ → ℕ
total [] = 0
total (n ∷ ns) = n + total ns

abbrev pub forms_step : Member-F ℕ → ℕ
forms_step (Member-F.Fields at base fields) = 0
forms_step (Member-F.Unnamed at of) = 0
forms_step (Member-F.Inner at kind members) = 1 + total members

-- how many types stand in a member
unfoldable pub member_forms : Member → ℕ
member_forms = fold-Member ℕ forms_step

abbrev pub part_forms : AdtPart → ℕ
part_forms (part.Data m) = member_forms m
part_forms (part.Function base stars name ps) = 0

abbrev pub adt_member_forms : AdtMember → ℕ
adt_member_forms m = part_forms m.part

-- how many forms an item has at most, each time that it is formed
abbrev pub item_forms : Item → ℕ
item_forms (item.Forward at kind name) = 1
item_forms (item.Aggregate at kind name members) = 1 + total (map member_forms members)
item_forms (item.Adt at name ps members) = 1 + total (map adt_member_forms members)
item_forms _ = 0

abbrev pub all_forms : List Item → ℕ
all_forms items = total (map item_forms items)

pub total_more : {A : Type 0} (f : A → ℕ) (xs : List A) (x : A) → total (map f (xs ++ x ∷ [])) ≡ total (map f xs) + f x
total_more f [] x = omega arith
total_more f (y ∷ xs) x = let rest = total_more f xs x in omega (arith, rest)

abbrev step_of : Member-F Member → ℕ
step_of z = forms_step (map-Member Member ℕ member_forms z)

forms_is : (z : Member-F Member) {x : Member} → roll-Member z ≡ x → member_forms x ≡ step_of z
unfolding member_forms
forms_is z q = ap member_forms (sym q) ∙ fold-roll-Member ℕ forms_step z

few_by : (n : ℕ) (z : Member-F Member) {x : Member} → roll-Member z ≡ x → step_of z ≤ n → member_forms x ≤ n
few_by n z q h = subst (λ k. k ≤ n) (sym (forms_is z q)) h

module _ (leaves : Leaves) where
  module _ (types : List ℕ) where
    mutual
      member_few : {u : List Token} {x : Member} {h : ℕ} → IsMember leaves types u x h → member_forms x ≤ length u
      member_few (i.fields t {u = u} {x = x} {ys = ys} b d c) = few_by _ _ (m.rolls-Fields (start u) x ys) (omega arith)
      member_few (i.unnamed t {u = u} {x = x} b d c) = few_by _ _ (m.rolls-Unnamed (start u) x) (omega arith)
      member_few (i.inner w o c t {u = u} {kind = kind} {xs = xs} a b l d e) =
          few_by _ _ (m.rolls-Inner w.place kind xs) (let few : total (map member_forms xs) ≤ length u = members_few l in omega (arith, few, length-append u (c ∷ t ∷ [])))

      members_few : {u : List Token} {xs : List Member} {h : ℕ} → IsMembers leaves types u xs h → total (map member_forms xs) ≤ length u
      members_few (i.one {x = x} d) = let few = member_few d in omega (arith, few)
      members_few (i.more {u = u} {v = v} {xs = xs} {x = x} l d) =
          let few : total (map member_forms xs) ≤ length u = members_few l in let more : member_forms x ≤ length v = member_few d in
          omega (arith, few, more, total_more member_forms xs x, length-append u v)

    part_few : {u : List Token} {x : AdtPart} {h : ℕ} → IsAdtPart leaves types u x h → part_forms x ≤ length u
    part_few (i.data_member d) = member_few d
    part_few (i.function t o c q a b d e f g k) = omega arith

    adt_member_few : {u : List Token} {x : AdtMember} {h : ℕ} → IsAdtMember leaves types u x h → adt_member_forms x ≤ length u
    adt_member_few (i.plain d) = part_few d
    adt_member_few (i.marked w s d) = let few = part_few d in omega (arith, few)

    adt_members_few : {u : List Token} {xs : List AdtMember} {h : ℕ} → IsAdtMembers leaves types u xs h → total (map adt_member_forms xs) ≤ length u
    adt_members_few (i.one {x = x} d) = let few = adt_member_few d in omega (arith, few)
    adt_members_few (i.more {u = u} {v = v} {xs = xs} {x = x} l d) =
        let few : total (map adt_member_forms xs) ≤ length u = adt_members_few l in let more : adt_member_forms x ≤ length v = adt_member_few d in
        omega (arith, few, more, total_more adt_member_forms xs x, length-append u v)

  item_few : {d after : Declared} {u : List Token} {x : Item} {h : ℕ} → IsItem leaves d u x after h → item_forms x ≤ length u
  item_few (i.typedef w t wc b a tc) = omega arith
  item_few (i.function_type w o m c t wc b a mc oc p ec tc) = omega arith
  item_few (i.forward w n t a mc tc) = omega arith
  item_few (i.plain_members w n o c {u = u} {q = q} {xs = xs} a mc oc l ec s) =
      let few : total (map member_forms xs) ≤ length u = members_few _ l in omega (arith, few, length-append u (c ∷ q))
  item_few (i.adt w n o c {u = u} {q = q} {xs = xs} wc mc oc l ec s) =
      let few : total (map adt_member_forms xs) ≤ length u = adt_members_few _ l in omega (arith, few, length-append u (c ∷ q))
  item_few (i.parametrised w n l r o c {p = p} {u = u} {q = q} {xs = xs} wc mc lc a rc oc b ec s) =
      let few : total (map adt_member_forms xs) ≤ length u = adt_members_few _ b in
      omega (arith, few, length-append p (r ∷ o ∷ (u ++ c ∷ q)), length-append u (c ∷ q))
  item_few (i.enum w wc a s) = omega arith
  item_few (i.named_enum w n wc mc a s) = omega arith
  item_few (i.declare t a b l tc) = omega arith
  item_few (i.function a e f k) = omega arith

  items_few : {d : Declared} {u : List Token} {xs : List Item} {h : ℕ} → IsItems leaves u xs d h → all_forms xs ≤ length u
  items_few i.none = omega arith
  items_few (i.more {u = u} {v = v} {xs = xs} {x = x} l d) =
      let few : all_forms xs ≤ length u = items_few l in let more : item_forms x ≤ length v = item_few d in
      omega (arith, few, more, total_more item_forms xs x, length-append u v)

pub forms_are_few : (tokens : TokenList) (tree : Tree) (height : ℕ) → IsTree tokens tree height → all_forms tree.items < length tokens.list
forms_are_few tokens tree height is =
    let few : all_forms tree.items ≤ length is.front = items_few (leaves_of tokens.text) is.tree_of.items in
    omega (arith, few, ap length is.is, length-append is.front (is.last ∷ []))
