-- How an `Items` holds its elements, so that a type may reach itself through one. The check holds this file
-- against the struct: to it an `Items` is the list that its `Vec` is, under another name.
use mathlib.Core.Path.{◌≡◌, refl, sym}
use mathlib.Core.List.{List, []}
use mathlib.Core.Former.{Former, this, list, via, children}
use base.Stored.{code_map}
use denote.RattleType.{RattleType}
use denote.HoleLaws.{Alike}
use denote.HolePlaces.{Recodes, struct_places, laid}
use denote.Hole.Carrier.{listed, list-listed}
use denote.Hole.Fix.{over}
use denote.Param.Weighed.{Weighed, w_list}
use denote.Model.Placed.{view_places}
use Rattle.std.specs.formers.vec.Vec as vec
use Rattle.std.specs.declared.alloc.Global.{Global}
use Rattle.std.specs.contracts.alloc.Global as heap
use Rattle.std.specs.contracts.impls.GlobalAllocator.TheImpl.{ghosts}
use Rattle.al_items.specs.declared.items.Items.TheInside.{Inside}
use Rattle.al_items.specs.declared.items.Items.TheView.{view, invariant}
use Rattle.al_items.specs.contracts.items.Items as closed
use Rattle.al_items.specs.contracts.items.Items.TheInside as opened

-- a value is a list, and its children are the list's elements in order
abbrev pub the_former : Former {0} → Former {0}
the_former element = list element

abbrev pub the_weighed : {element : Former {0}} → Weighed element → Weighed (the_former element)
the_weighed weight = w_list weight

pub the_empty : List ⊥
the_empty = []

abbrev pub the_items : (X : Type 0) → List X → List X
the_items X xs = xs

pub the_items_listed : (X : Type 0) (xs : List X) → listed _ (children (the_former this) X xs) ≡ the_items X xs
the_items_listed X xs = list-listed X xs

-- the one field, a `Vec`, with the name that the struct gives it
abbrev one_field : Former {0}
one_field =
    via (vec.the_former this Global) Inside (λ X s. s.items) (λ X v. record { items = v }) (λ X s. refl) (λ X v. refl)

module _ (R S : RattleType) (h : R.Denot → S.Denot) where
  pub the_places : Alike R S h → Alike (closed.the_row R) (closed.the_row S) ((the_former this).map R.Denot S.Denot h)
  the_places alike =
      let of_the_vec = vec.the_places heap.the_row ghosts R S h alike in
      view_places one_field (list this) view (λ X Y k s. refl) (λ X s. refl) R.Denot S.Denot h
      (closed.the_row R).coded (closed.the_row S).coded (invariant R.Denot) (invariant S.Denot)
      (λ s p q. refl) (λ s p q. refl) (λ s e. tt) (λ s e. tt) (over (opened.the_row R)) (over (opened.the_row S))
      (struct_places (opened.the_type R) (opened.the_type S) (vec.mapped h, tt) _ (λ s. refl) refl (laid _ _ _ of_the_vec, tt))

  pub the_codes_placed :
      Recodes R S h → Recodes (closed.the_row R) (closed.the_row S) ((the_former this).map R.Denot S.Denot h)
  the_codes_placed same xs = sym (code_map R.coded.code S.coded.code h (λ x. sym (same x)) xs)
