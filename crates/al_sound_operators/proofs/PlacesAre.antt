-- What is done with places, and what makes a place.
use Rattle.std.proofs.Common.{◌≡◌, Bool, true, false, ◌&&◌, List, Option, Some, None, refl, sym, ap, ap₂, ◌∙◌, inl, inr}
use Rattle.std.specs.Prelude.{◌||◌, not, is_some, if◌then◌else◌}
use Rattle.std.specs.Option.{unwrap_or}
use Rattle.al_base.specs.declared.arith.Kind.{Kind}
use Rattle.al_base.specs.declared.arith.Kind.TheVariants as kind
use Rattle.al_base.specs.declared.place.Place.{Place}
use Rattle.al_tree.specs.declared.expression.BinaryOp.{BinaryOp as Written}
use Rattle.al_typed.specs.declared.program.Aggregate.{Aggregate as AggregateRow}
use Rattle.al_typed.specs.declared.ty.Ty.{Ty}
use Rattle.al_typed.specs.declared.ty.Ty.TheVariants as ty
use Rattle.al_typed.specs.declared.ty.Ty.TheViews.{out-Ty}
use Rattle.al_typed.specs.declared.ty.Ty.TheOpen.{Ty-F}
use Rattle.al_typed.specs.declared.expression.BinaryOp.{BinaryOp}
use Rattle.al_typed.specs.declared.expression.BinaryOp.TheVariants as op
use Rattle.al_typed.specs.declared.expression.Change.TheVariants as change
use Rattle.al_typed.specs.declared.expression.StepOp.{StepOp}
use Rattle.al_typed.specs.declared.expression.TExpr.{TExpr}
use Rattle.al_typed.specs.declared.expression.TExpr.TheVariants as expr
use Rattle.al_typed.specs.declared.expression.TPlace.{TPlace}
use Rattle.al_typed.specs.Types.{int, is_array, is_array_at, is_complete, is_whole, points_to_complete, promoted}
use Rattle.al_typed.specs.Typed.{place_type, type_of}
use Rattle.al_typed.specs.WellTyped as well
use Rattle.al_typed.specs.WellTyped.{Changes, HasAddress, IsPlace, IsTarget, IsValue, Scope, is_arithmetic, is_integer_at, is_sound, is_stepped, rows}
use Rattle.al_typed.proofs.ValueRules.{IsPlace-Element, IsPlace-Pointed, IsTarget-Into, IsValue-Address, IsValue-Assign, IsValue-Decay, IsValue-Load, IsValue-SizeofPlace, IsValue-Step, IsValue-Update, IsValue-Zerox}
use Rattle.al_typed.proofs.Typing.{target_type-Into}
use Rattle.al_convert.specs.Same.{pointed}
use Rattle.al_convert.specs.Kinds.{is_integer, items_at, items_of, kind_at, kind_of}
use Rattle.al_operands.specs.declared.operand.Operand.{Operand}
use Rattle.al_operands.specs.Rules.{is_aimed_at, moves, rule_7_is_complete, rule_28_steps, rule_29_is_no_array, rule_30_points, rule_31_indexes, rule_33_converts, rule_34_updates, rule_39_has_size}
use Rattle.al_operands.specs.Operands.{arithmetic_kind, converted, in_kind, plain, plains, promoted_kind}
use Rattle.al_places.specs.Places.{address, aimed, apply_in, assigned, assignment, changed_in, element, index, indexed, indirection, into, is_back, is_shift, loaded, operator, operator_kind, pointed_by, pointed_node, pointer_to, read, read_as, size_of_place, step_node, stepped, update, updated, updated_by, updated_with, zero_node, zeroed}
use Rattle.al_sound_operators.specs.Typed.{IfGood, IsOperand, IsSoundPlace, IsUsable}
use Rattle.al_sound_operators.specs.Operands.{AreUsable}
use Rattle.al_sound_operators.specs.Places.{IsOpenPlace, PlacesAreSound}
use Rattle.al_sound_operators.proofs.TypeForms.{a_complete_pointer, an_integer, array_is, pointed-Pointer, pointer_is}
use Rattle.al_sound_operators.proofs.SameTypes.{and_both}
use Rattle.al_sound_operators.proofs.SoundTypes.{sound-Array, sound-Pointer, whole-Integer, whole-Pointer, whole_after}
use Rattle.al_sound_operators.proofs.Outcomes.{after, asked, asked_twice}
use Rattle.al_sound_operators.proofs.OperandsAre.{converted_is, in_kind_is, operand_converts, plain_usable, plains_are}
use Rattle.al_sound_operators.proofs.OperatorKinds.{either, integer_converts, not_true, promoted-arithmetic_kind, promoted-promoted_kind}
use Rattle.al_sound_operators.proofs.OperatorsAre.{integer_usable}

-- ---- reading

-- what is no array has no items, and the other way round
no_items : (t : Ty) → items_of t ≡ None → is_array t ≡ false
unfolding items_of is_array
no_items t h = on (out-Ty t) h
  where
    on : (y : Ty-F Ty) → items_at y ≡ None → is_array_at y ≡ false
    on (Ty-F.Array x n) h = absurd (cc)
    on _ h = refl

pub both_true : (a b : Bool) → a ≡ true → b ≡ true → (a && b) ≡ true
both_true a b h k = ap₂ (λ (x y : Bool). x && y) h k

read_is : (s : Scope) (p : TPlace) → IsSoundPlace s p → is_complete (rows s) (place_type p) ≡ true → IsUsable s (read p)
unfolding read
read_is s p h c = on (items_of (place_type p)) refl
  where
    on : (o : Option Ty) → items_of (place_type p) ≡ o → IsUsable s (read_as o p)
    on None e =
        let whole = both_true (is_complete (rows s) (place_type p)) (not (is_array (place_type p))) c (ap not (no_items (place_type p) e)) in
        record {
          value = rw (IsValue-Load s (place_type p) p) ((h.place, (refl, whole)));
          sound = h.sound;
          whole = whole;
        }
    on (Some x) e =
        let n = array_is (place_type p) x e in
        record {
          value = rw (IsValue-Decay s (ty.Pointer x) p) ((h.place, (x, ((n.0, n.1), refl))));
          sound = sound-Pointer (rows s) x ∙ sound-Array (rows s) x n.0 (sym (ap (is_sound (rows s)) n.1) ∙ h.sound);
          whole = whole-Pointer (rows s) x;
        }

pub loaded_is : (s : Scope) (at : Place) (p : TPlace) → IsSoundPlace s p → IfGood (loaded (rows s) at p) (IsUsable s)
unfolding loaded rule_7_is_complete
loaded_is s at p h = asked (IsUsable s) 7 at (rule_7_is_complete (rows s) (place_type p)) (read p) (λ q. read_is s p h q)

pub address_is : (s : Scope) (p : TPlace) → IsSoundPlace s p → HasAddress s p → IsUsable s (address p)
unfolding address
address_is s p h a = record {
  value = rw (IsValue-Address s (pointer_to (place_type p)) p) ((h.place, (a, refl)));
  sound = sound-Pointer (rows s) (place_type p) ∙ h.sound;
  whole = whole-Pointer (rows s) (place_type p);
}

pub size_of_place_is : (s : Scope) (at : Place) (p : TPlace) → IsSoundPlace s p → IfGood (size_of_place (rows s) at p) (IsUsable s)
unfolding size_of_place rule_39_has_size
size_of_place_is s at p h =
    asked (IsUsable s) 39 at (rule_39_has_size (rows s) (place_type p)) (expr.SizeofPlace int p)
    (λ q. integer_usable s kind.Int (expr.SizeofPlace int p)
    (rw (IsValue-SizeofPlace s int p) ((refl, (h.place, both_true (is_sound (rows s) (place_type p)) (is_complete (rows s) (place_type p)) h.sound q)))) refl)

-- ---- what makes a place

-- what a pointer points to
aims : (t : Ty) → is_aimed_at (pointed t) ≡ true → (x : Ty) × (t ≡ ty.Pointer x)
aims t h = on (pointed t) refl h
  where
    on : (o : Option Ty) → pointed t ≡ o → is_aimed_at o ≡ true → (x : Ty) × (t ≡ ty.Pointer x)
    on None e h = not_true h
    on (Some x) e h = (x, pointer_is t x e)

aimed_is : (t x : Ty) → t ≡ ty.Pointer x → aimed t ≡ x
aimed_is t x h = ap (λ o. unwrap_or o t) (ap pointed h ∙ pointed-Pointer x)

-- a pointer's value points to what its type says, and that is sound
aim_is : (s : Scope) (a : TExpr) (x : Ty) → IsUsable s a → type_of a ≡ ty.Pointer x → (type_of a ≡ ty.Pointer (aimed (type_of a))) × (is_sound (rows s) (aimed (type_of a)) ≡ true)
aim_is s a x u h =
    let same = aimed_is (type_of a) x h in
    (h ∙ sym (ap ty.Pointer same), ap (is_sound (rows s)) same ∙ sym (sound-Pointer (rows s) x) ∙ sym (ap (is_sound (rows s)) h) ∙ u.sound)

pub pointed_by_is : (s : Scope) (at : Place) (a : TExpr) → IsUsable s a → IfGood (pointed_by at a) (IsOpenPlace s)
unfolding pointed_by rule_30_points
pointed_by_is s at a u =
    asked (IsOpenPlace s) 30 at (rule_30_points (type_of a)) (pointed_node a)
    (λ q.
    let x = aims (type_of a) q in
    let there = aim_is s a x.0 u x.1 in
    record {
      place = record {
        place = rw (IsPlace-Pointed s (aimed (type_of a)) a) ((u.value, there.0));
        sound = there.1;
      };
      address = tt;
    })

pub indirection_is : (s : Scope) (at : Place) (x : Operand) → IsOperand s x → IfGood (indirection at x) (IsOpenPlace s)
unfolding indirection
indirection_is s at x o = after (IsUsable s) (IsOpenPlace s) (plain x) (pointed_by at) (plain_usable s x o) (λ a h. pointed_by_is s at a h)

pub indexed_is : (s : Scope) (at : Place) (a b : TExpr) → IsUsable s a → IsUsable s b → IfGood (indexed (rows s) at a b) (IsOpenPlace s)
unfolding indexed element rule_31_indexes
indexed_is s at a b u w =
    asked (IsOpenPlace s) 31 at (rule_31_indexes (rows s) (type_of a) (type_of b)) (element a b)
    (λ q.
    let both = and_both (points_to_complete (rows s) (type_of a)) (is_integer (type_of b)) q in
    let x = a_complete_pointer (rows s) (type_of a) both.0 in
    let there = aim_is s a x.0 u x.1 in
    let i = in_kind_is s kind.Int b w (integer_converts (type_of b) kind.Int both.1) in
    record {
      place = record {
        place = rw (IsPlace-Element s (aimed (type_of a)) a (in_kind kind.Int b))
            ((ap (is_complete (rows s)) (aimed_is (type_of a) x.0 x.1) ∙ x.2, (u.value, (there.0, (i.usable.value, i.is)))));
        sound = there.1;
      };
      address = tt;
    })

pub index_is : (s : Scope) (at : Place) (x y : Operand) → IsOperand s x → IsOperand s y → IfGood (index (rows s) at x y) (IsOpenPlace s)
unfolding index
index_is s at x y o p = after (AreUsable s) (IsOpenPlace s) (plains x y) (λ p. indexed (rows s) at p.0 p.1) (plains_are s x y o p) (λ p h. indexed_is s at p.0 p.1 h.0 h.1)

-- ---- changes

assignment_is : (s : Scope) (p : TPlace) (e : TExpr) → IsSoundPlace s p → IsUsable s e → well.converts (type_of e) (place_type p) ≡ true → IsUsable s (assignment p e)
unfolding assignment
assignment_is s p e h u c =
    let x = converted_is s (place_type p) e u h.sound c in
    let whole = whole_after (rows s) (type_of e) (place_type p) c u.whole h.sound in
    record {
      value = rw (IsValue-Assign s (place_type p) (into p) (converted (place_type p) e))
          ((whole, (rw (IsTarget-Into s p) (h.place), (target_type-Into p, (x.usable.value, x.is)))));
      sound = h.sound;
      whole = whole;
    }

pub assigned_is : (s : Scope) (at : Place) (p : TPlace) (x : Operand) → IsSoundPlace s p → IsOperand s x → IfGood (assigned at p x) (IsUsable s)
unfolding assigned
assigned_is s at p x h o =
    asked_twice (IsUsable s) 29 33 at (rule_29_is_no_array (place_type p)) (rule_33_converts x (place_type p)) (assignment p x.value)
    (λ q c. assignment_is s p x.value h o.usable (operand_converts s x (place_type p) o c))

integer_whole : (rows : List AggregateRow) (t : Ty) → is_integer t ≡ true → is_whole rows t ≡ true
integer_whole rows t h = let k = an_integer t h in ap (is_whole rows) k.1 ∙ whole-Integer rows k.0

pointer_whole : (rows : List AggregateRow) (t : Ty) → points_to_complete rows t ≡ true → is_whole rows t ≡ true
pointer_whole rows t h = let x = a_complete_pointer rows t h in ap (is_whole rows) x.1 ∙ whole-Pointer rows x.0

arithmetic_moves : (how : BinaryOp) → moves how ≡ true → is_arithmetic how ≡ true
arithmetic_moves op.Add h = refl
arithmetic_moves op.Subtract h = refl
arithmetic_moves _ h = not_true h

promoted-operator_kind : (how : BinaryOp) (a b : Ty) → promoted (operator_kind how a b) ≡ operator_kind how a b
promoted-operator_kind how a b = on (is_shift how)
  where
    on : (c : Bool) → promoted (if c then promoted_kind a else arithmetic_kind a b) ≡ (if c then promoted_kind a else arithmetic_kind a b)
    on true = promoted-promoted_kind a
    on false = promoted-arithmetic_kind a b

apply_is : (s : Scope) (k : Kind) (how : BinaryOp) (p : TPlace) (e : TExpr) → IsSoundPlace s p → IsUsable s e → promoted k ≡ k
    → is_integer (place_type p) ≡ true → is_integer (type_of e) ≡ true → is_arithmetic how ≡ true → IsUsable s (apply_in k how p e)
unfolding changed_in
apply_is s k how p e h u pr i j a =
    let x = in_kind_is s k e u (integer_converts (type_of e) k j) in
    record {
      value = rw (IsValue-Update s (place_type p) p (change.Apply how k) (in_kind k e))
          ((h.place, (refl, (x.usable.value, (an_integer (place_type p) i, (x.is, (pr, a)))))));
      sound = h.sound;
      whole = integer_whole (rows s) (place_type p) i;
    }

move_is : (s : Scope) (back : Bool) (p : TPlace) (e : TExpr) → IsSoundPlace s p → IsUsable s e
    → points_to_complete (rows s) (place_type p) ≡ true → is_integer (type_of e) ≡ true → IsUsable s (changed_in kind.Int (change.Move back) p e)
unfolding changed_in
move_is s back p e h u c j =
    let x = in_kind_is s kind.Int e u (integer_converts (type_of e) kind.Int j) in
    record {
      value = rw (IsValue-Update s (place_type p) p (change.Move back) (in_kind kind.Int e)) ((h.place, (refl, (x.usable.value, (c, x.is)))));
      sound = h.sound;
      whole = pointer_whole (rows s) (place_type p) c;
    }

update_is : (s : Scope) (how : BinaryOp) (p : TPlace) (e : TExpr) → IsSoundPlace s p → IsUsable s e → rule_34_updates (rows s) how (place_type p) (type_of e) ≡ true → IsUsable s (update how p e)
unfolding update rule_34_updates
update_is s how p e h u q =
    let both = and_both (is_integer (type_of e)) _ q in
    on both.0 (is_integer (place_type p)) refl both.1
  where
    on : is_integer (type_of e) ≡ true → (i : Bool) → is_integer (place_type p) ≡ i
        → ((i && is_arithmetic how) || (points_to_complete (rows s) (place_type p) && moves how)) ≡ true
        → IsUsable s (if i then apply_in (operator_kind how (place_type p) (type_of e)) how p e else changed_in kind.Int (change.Move (is_back how)) p e)
    on j true i q =
        apply_is s (operator_kind how (place_type p) (type_of e)) how p e h u (promoted-operator_kind how (place_type p) (type_of e)) i j
        (elim (either (is_arithmetic how) _ q) [
          | inl g ↦ g
          | inr g ↦ arithmetic_moves how (and_both (points_to_complete (rows s) (place_type p)) (moves how) g).1
        ])
    on j false i q = move_is s (is_back how) p e h u (and_both (points_to_complete (rows s) (place_type p)) (moves how) q).0 j

pub updated_with_is : (s : Scope) (at : Place) (how : BinaryOp) (p : TPlace) (e : TExpr) → IsSoundPlace s p → IsUsable s e → IfGood (updated_with (rows s) at how p e) (IsUsable s)
unfolding updated_with
updated_with_is s at how p e h u =
    asked (IsUsable s) 34 at (rule_34_updates (rows s) how (place_type p) (type_of e)) (update how p e) (λ q. update_is s how p e h u q)

updated_by_is : (s : Scope) (at : Place) (how : Option BinaryOp) (p : TPlace) (e : TExpr) → IsSoundPlace s p → IsUsable s e → IfGood (updated_by (rows s) at how p e) (IsUsable s)
unfolding updated_by
updated_by_is s at None p e h u = tt
updated_by_is s at (Some how) p e h u = updated_with_is s at how p e h u

pub updated_is : (s : Scope) (at : Place) (how : Written) (p : TPlace) (x : Operand) → IsSoundPlace s p → IsOperand s x → IfGood (updated (rows s) at how p x) (IsUsable s)
unfolding updated
updated_is s at how p x h o = after (IsUsable s) (IsUsable s) (plain x) (updated_by (rows s) at (operator how) p) (plain_usable s x o) (λ e u. updated_by_is s at (operator how) p e h u)

-- what `++` steps through
steps_is : (rows : List AggregateRow) (t : Ty) → rule_28_steps rows t ≡ true → is_stepped rows t ≡ true
unfolding rule_28_steps is_stepped kind_of
steps_is rows t h = on (out-Ty t) h
  where
    on : (y : Ty-F Ty) → (is_some (kind_at y) || points_to_complete rows t) ≡ true → (is_integer_at y || points_to_complete rows t) ≡ true
    on (Ty-F.Integer k) h = refl
    on _ h = h

step_whole : (rows : List AggregateRow) (t : Ty) → rule_28_steps rows t ≡ true → is_whole rows t ≡ true
unfolding rule_28_steps
step_whole rows t h = elim (either (is_integer t) (points_to_complete rows t) h) [
  | inl g ↦ integer_whole rows t g
  | inr g ↦ pointer_whole rows t g
]

pub stepped_is : (s : Scope) (at : Place) (how : StepOp) (p : TPlace) → IsSoundPlace s p → IfGood (stepped (rows s) at how p) (IsUsable s)
unfolding stepped
stepped_is s at how p h =
    asked (IsUsable s) 28 at (rule_28_steps (rows s) (place_type p)) (step_node how p)
    (λ q. record {
      value = rw (IsValue-Step s (place_type p) how p) ((h.place, (refl, steps_is (rows s) (place_type p) q)));
      sound = h.sound;
      whole = step_whole (rows s) (place_type p) q;
    })

pub zeroed_is : (s : Scope) (at : Place) (p : TPlace) → IsSoundPlace s p → IfGood (zeroed (rows s) at p) (IsUsable s)
unfolding zeroed rule_29_is_no_array rule_7_is_complete
zeroed_is s at p h =
    asked_twice (IsUsable s) 29 7 at (rule_29_is_no_array (place_type p)) (rule_7_is_complete (rows s) (place_type p)) (zero_node p)
    (λ q c.
    let whole = both_true (is_complete (rows s) (place_type p)) (not (is_array (place_type p))) c q in
    record {
      value = rw (IsValue-Zerox s (place_type p) p) ((h.place, (refl, whole)));
      sound = h.sound;
      whole = whole;
    })

pub places_are_sound : PlacesAreSound
places_are_sound = record {
  loaded = loaded_is;
  address = address_is;
  size_of_place = size_of_place_is;
  pointed_by = pointed_by_is;
  indirection = indirection_is;
  indexed = indexed_is;
  index = index_is;
  assigned = assigned_is;
  updated_with = updated_with_is;
  updated = updated_is;
  stepped = stepped_is;
  zeroed = zeroed_is;
}
