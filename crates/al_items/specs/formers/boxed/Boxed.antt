-- How a `Boxed` holds its value, so that a type may reach itself through one. The check holds this file against
-- the struct: to it a `Boxed` is the value in its `Box`, and the block's address is forgotten.
use mathlib.Core.Path.{refl}
use mathlib.Core.Former.{Former, this, const, pair, via}
use base.Stored.{gnil}
use base.Fml.{ftrue}
use denote.RattleType.{RattleType}
use denote.Memory.{part_of}
use denote.RawPtr.{Ptr}
use denote.Sharing.{nothing}
use denote.HoleLaws.{Alike}
use denote.HolePlaces.{Recodes, struct_places, laid, one_value}
use denote.Hole.Fix.{over}
use denote.Param.Weighed.{Weighed}
use denote.Model.Placed.{view_places}
use Rattle.std.specs.declared.boxed.Box.{Box}
use Rattle.std.specs.contracts.boxed.Box as std_box
use Rattle.std.specs.declared.alloc.Global.{Global}
use Rattle.std.specs.contracts.alloc.Global as heap
use Rattle.std.specs.contracts.impls.GlobalAllocator.TheImpl.{ghosts}
use Rattle.al_items.specs.declared.boxed.Boxed.TheInside.{Inside}
use Rattle.al_items.specs.declared.boxed.Boxed.TheView.{view, invariant}
use Rattle.al_items.specs.contracts.boxed.Boxed as closed
use Rattle.al_items.specs.contracts.boxed.Boxed.TheInside as opened

-- a value is its one child
abbrev pub the_former : Former {0} → Former {0}
the_former value = value

abbrev pub the_weighed : {value : Former {0}} → Weighed value → Weighed (the_former value)
the_weighed weight = weight

-- the field, a `Box`: an address and an allocator, which stay, beside the value
abbrev one_field : Former {0}
one_field =
    via (pair (const (Ptr × Global)) this) Inside (λ X s. ((s.inner.ptr, s.inner.alloc), s.inner.value))
    (λ X v. record { inner = record { ptr = v.0.0; alloc = v.0.1; value = v.1 } }) (λ X s. refl) (λ X v. refl)

-- the box with another value in the same block
abbrev holding : {X Y : Type 0} → Box X Global → Y → Box Y Global
holding box y = record { ptr = box.ptr; alloc = box.alloc; value = y }

abbrev boxes : RattleType → RattleType
boxes R = std_box.the_row R heap.the_row ghosts

module _ (R S : RattleType) (h : R.Denot → S.Denot) where
  of_the_box : Alike R S h → Alike (boxes R) (boxes S) (λ box. holding box (h box.value))
  unfolding part_of
  of_the_box alike = record {
    mir_same = λ i. (boxes (one_value R (alike.mir_same i) (λ _. ftrue) (λ _ _. nothing) gnil)).mir;
    own_same = λ box i. (boxes (one_value R (alike.mir_same i) (alike.own_same box.value i) (alike.shr_same box.value i) gnil)).own_val (holding box tt);
    shr_same = λ box i. (boxes (one_value R (alike.mir_same i) (alike.own_same box.value i) (alike.shr_same box.value i) gnil)).shr_at (holding box tt);
  }

  pub the_places : Alike R S h → Alike (closed.the_row R) (closed.the_row S) ((the_former this).map R.Denot S.Denot h)
  the_places alike =
      view_places one_field this view (λ X Y k s. refl) (λ X s. refl) R.Denot S.Denot h
      (closed.the_row R).coded (closed.the_row S).coded (invariant R.Denot) (invariant S.Denot)
      (λ s p q. refl) (λ s p q. refl) (λ s e. tt) (λ s e. tt) (over (opened.the_row R)) (over (opened.the_row S))
      (struct_places (opened.the_type R) (opened.the_type S) ((λ box. holding box (h box.value)), tt) _ (λ s. refl) refl (laid _ _ _ (of_the_box alike), tt))

  pub the_codes_placed :
      Recodes R S h → Recodes (closed.the_row R) (closed.the_row S) ((the_former this).map R.Denot S.Denot h)
  the_codes_placed same value = same value
