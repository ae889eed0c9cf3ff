-- What a member of each kind adds.
use Rattle.std.proofs.Common.{◌≡◌, Bool, false, List, [], ◌∷◌, map, fold, Option, refl, ap, ◌∙◌, sym}
use Rattle.al_base.specs.declared.place.Place.{Place}
use Rattle.al_tree.specs.declared.type_tree.TypeTree.{TypeTree}
use Rattle.al_tree.specs.declared.type_tree.Dcl.{Dcl}
use Rattle.al_tree.specs.declared.item.AggregateKind.{AggregateKind}
use Rattle.al_tree.specs.declared.item.Member.{Member, fold-Member, fold-roll-Member}
use Rattle.al_tree.specs.declared.item.Member.TheVariants as m
use Rattle.al_tree.specs.declared.item.Member.TheOpen.{Member-F}
use Rattle.al_poly.specs.declared.instance.Instance.{Instance}
use Rattle.al_poly.specs.declared.names.Names.{Names}
use Rattle.al_form.specs.declared.found.Found.{Found}
use Rattle.al_form.specs.Forms.{Way, with_member, unnamed, with_field, opened, closed_inner, member_step, member, with_plain}

module _ (names : Names) (inside : Option Instance) where
  folded : (f : Member → Way names inside) (xs : List Member) (w : Found)
      → fold (λ u (a : Way names inside). a false u) w (map f xs) ≡ fold (λ u x. f x false u) w xs
  folded f [] w = refl
  folded f (x ∷ xs) w = folded f xs (f x false w)

  pub member-Fields : (at : Place) (base : TypeTree) (fields : List Dcl) (b : Bool) (w : Found)
      → member names inside (m.Fields at base fields) b w ≡ fold (with_field names inside b base) w fields
  unfolding member
  member-Fields at base fields b w =
      ap (λ n. fold-Member (Way names inside) (member_step names inside) n b w) (sym (m.rolls-Fields at base fields))
      ∙ ap (λ (a : Way names inside). a b w) (fold-roll-Member (Way names inside) (member_step names inside) (Member-F.Fields at base fields))

  pub member-Unnamed : (at : Place) (of : TypeTree) (b : Bool) (w : Found)
      → member names inside (m.Unnamed at of) b w ≡ with_member (unnamed names inside b at of) w
  unfolding member
  member-Unnamed at of b w =
      ap (λ n. fold-Member (Way names inside) (member_step names inside) n b w) (sym (m.rolls-Unnamed at of))
      ∙ ap (λ (a : Way names inside). a b w) (fold-roll-Member (Way names inside) (member_step names inside) (Member-F.Unnamed at of))

  pub member-Inner : (at : Place) (kind : AggregateKind) (members : List Member) (b : Bool) (w : Found)
      → member names inside (m.Inner at kind members) b w ≡ closed_inner w.members at kind b (fold (with_plain names inside) (opened w) members)
  unfolding member
  member-Inner at kind members b w =
      ap (λ n. fold-Member (Way names inside) (member_step names inside) n b w) (sym (m.rolls-Inner at kind members))
      ∙ ap (λ (a : Way names inside). a b w) (fold-roll-Member (Way names inside) (member_step names inside) (Member-F.Inner at kind members))
      ∙ ap (closed_inner w.members at kind b) (folded (member names inside) members (opened w))

pub ruleset member_is = (member-Fields, member-Unnamed, member-Inner)
