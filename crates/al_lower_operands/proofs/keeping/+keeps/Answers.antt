use Rattle.std.proofs.Common.{◌≡◌, ◌∙◌, IfOk, List, rules, arith, sym, ap, subst}
use Rattle.al_typed.specs.declared.expression.TExpr.{TExpr}
use Rattle.al_typed.specs.declared.expression.TPlace.{TPlace}
use Rattle.al_lower_code.specs.Coded.{Placed, Given}
use Rattle.al_lower_code.specs.Expressions.{coded, placed}
use Rattle.al_lower_base.specs.Spots.{spot_of}
use Rattle.al_lower_operands.specs.Rows.{row_of}
use Rattle.al_lower_operands.proofs.ByForm.{not_folded}
use Rattle.al_lower_operands.proofs.Forms.{placed-Pointed, placed-Element, placed-Member, placed-PointedMember, received_object-Place, received_object-Value, received_object-Pointer}
use Rattle.al_lower_operands.proofs.InRows.{one_changes, one_keeps, all_keep}
use Rattle.al_lower_operands.proofs.Kept.{kept, place_kept, object_kept, call_kept, element_known, element_open, keeps-Load, keeps-Decay, keeps-Address, keeps-Unary, keeps-Not, keeps-Binary, keeps-Logical, keeps-Move, keeps-Difference, keeps-Tuple, keeps-CallPointer, keeps-Print, keeps-Terminate, keeps-Receive, keeps-Send, keeps-CanReceive, keeps-CanSend, keeps-MemberOf, keeps-Cast, keeps-Convert, keeps-Sequence}
use Rattle.al_lower_operands.proofs.Unchanged.{object_at_keeps, object_in_keeps}
use Rattle.al_lower_operands.proofs.keeping.+keeps.Goals as goal

pub part_keeps-returns : goal.part_keeps-returns
part_keeps-returns t c =
    subst (λ (x : TExpr). IfOk c.keeps.result (λ k. k ≡ (coded (spot_of c.args.s) x).keeps)) c.get.ensures c.keeps.ensures

pub place_part_keeps-returns : goal.place_part_keeps-returns
place_part_keeps-returns t c =
    subst (λ (x : TPlace). IfOk c.place_keeps.result (λ k. k ≡ (placed (spot_of c.args.s) x).keeps)) c.get.ensures c.place_keeps.ensures

pub items_keep-returns : goal.items_keep-returns
items_keep-returns t c =
    subst (λ (xs : List TExpr). IfOk c.row_keeps.result (λ k. k ≡ (row_of (spot_of c.args.s) xs).keeps)) c.as_slice.ensures.value c.row_keeps.ensures

pub row_keeps-returns-then-not-branch : goal.row_keeps-returns-then-not-branch
row_keeps-returns-then-not-branch t c =
    one_changes (spot_of c.args.s) c.args.row.now c.loop-e.e-index c.e-item.result c.loop-e-test.true c.e-item.is (search rules) c.loop-e.invariant

pub row_keeps-loop-e-preserved : goal.row_keeps-loop-e-preserved
row_keeps-loop-e-preserved t c =
    one_keeps (spot_of c.args.s) c.args.row.now c.loop-e.e-index c.e-item.result c.loop-e-test.true c.e-item.is (search rules) c.loop-e.invariant

pub row_keeps-returns : goal.row_keeps-returns
row_keeps-returns t c =
    all_keep (spot_of c.args.s) c.args.row.now c.loop-e.e-index (omega (arith, c.loop-e-test.false)) c.loop-e.invariant

pub keeps-returns-in-Load : goal.keeps-returns-in-Load
keeps-returns-in-Load t c =
    kept c.place_part_keeps.result (spot_of c.args.s) c.args.e.now _ _ c.in-Load.is (keeps-Load _ _ _) c.place_part_keeps.ensures

pub keeps-returns-in-Decay : goal.keeps-returns-in-Decay
keeps-returns-in-Decay t c =
    kept c.place_part_keeps-in-Decay.result (spot_of c.args.s) c.args.e.now _ _ c.in-Decay.is (keeps-Decay _ _ _) c.place_part_keeps-in-Decay.ensures

pub keeps-returns-in-Address : goal.keeps-returns-in-Address
keeps-returns-in-Address t c =
    kept c.place_part_keeps-in-Address.result (spot_of c.args.s) c.args.e.now _ _ c.in-Address.is (keeps-Address _ _ _) c.place_part_keeps-in-Address.ensures

pub keeps-returns-in-Unary : goal.keeps-returns-in-Unary
keeps-returns-in-Unary t c =
    kept c.part_keeps.result (spot_of c.args.s) c.args.e.now _ _ c.in-Unary.is (keeps-Unary _ _ _ _ (not_folded (spot_of c.args.s) c.args.e.now _ _ c.in_ok-folded.ensures c.in-None.is c.in-Unary.is)) c.part_keeps.ensures

pub keeps-returns-in-Not : goal.keeps-returns-in-Not
keeps-returns-in-Not t c =
    kept c.part_keeps-in-Not.result (spot_of c.args.s) c.args.e.now _ _ c.in-Not.is (keeps-Not _ _ _ (not_folded (spot_of c.args.s) c.args.e.now _ _ c.in_ok-folded.ensures c.in-None.is c.in-Not.is)) c.part_keeps-in-Not.ensures

pub keeps-returns-in-Binary : goal.keeps-returns-in-Binary
keeps-returns-in-Binary t c =
    kept c.both_keep.result (spot_of c.args.s) c.args.e.now _ _ c.in-Binary.is (keeps-Binary _ _ _ _ _ _ (not_folded (spot_of c.args.s) c.args.e.now _ _ c.in_ok-folded.ensures c.in-None.is c.in-Binary.is)) c.both_keep.ensures

pub keeps-returns-in-Logical : goal.keeps-returns-in-Logical
keeps-returns-in-Logical t c =
    kept c.both_keep-in-Logical.result (spot_of c.args.s) c.args.e.now _ _ c.in-Logical.is (keeps-Logical _ _ _ _ _ (not_folded (spot_of c.args.s) c.args.e.now _ _ c.in_ok-folded.ensures c.in-None.is c.in-Logical.is)) c.both_keep-in-Logical.ensures

pub keeps-returns-in-Move : goal.keeps-returns-in-Move
keeps-returns-in-Move t c =
    kept c.both_keep-in-Move.result (spot_of c.args.s) c.args.e.now _ _ c.in-Move.is (keeps-Move _ _ _ _ _) c.both_keep-in-Move.ensures

pub keeps-returns-in-Difference : goal.keeps-returns-in-Difference
keeps-returns-in-Difference t c =
    kept c.both_keep-in-Difference.result (spot_of c.args.s) c.args.e.now _ _ c.in-Difference.is (keeps-Difference _ _ _ _) c.both_keep-in-Difference.ensures

pub keeps-returns-in-Tuple : goal.keeps-returns-in-Tuple
keeps-returns-in-Tuple t c =
    kept c.items_keep.result (spot_of c.args.s) c.args.e.now _ _ c.in-Tuple.is (keeps-Tuple (spot_of c.args.s) c.in-Tuple.ty c.in-Tuple.parts) c.items_keep.ensures

pub keeps-returns-in-CallPointer : goal.keeps-returns-in-CallPointer
keeps-returns-in-CallPointer t c =
    kept c.pointer_and_row_keep.result (spot_of c.args.s) c.args.e.now _ _ c.in-CallPointer.is (keeps-CallPointer _ _ _ _) c.pointer_and_row_keep.ensures

pub keeps-returns-in-Print : goal.keeps-returns-in-Print
keeps-returns-in-Print t c =
    kept c.items_keep-in-Print.result (spot_of c.args.s) c.args.e.now _ _ c.in-Print.is (keeps-Print (spot_of c.args.s) c.in-Print.ty c.in-Print.format c.in-Print.arguments) c.items_keep-in-Print.ensures

pub keeps-returns-in-Terminate : goal.keeps-returns-in-Terminate
keeps-returns-in-Terminate t c =
    kept c.part_keeps-in-Terminate.result (spot_of c.args.s) c.args.e.now _ _ c.in-Terminate.is (keeps-Terminate _ _ _) c.part_keeps-in-Terminate.ensures

pub keeps-returns-in-Receive : goal.keeps-returns-in-Receive
keeps-returns-in-Receive t c =
    kept c.part_keeps-in-Receive.result (spot_of c.args.s) c.args.e.now _ _ c.in-Receive.is (keeps-Receive _ _ _) c.part_keeps-in-Receive.ensures

pub keeps-returns-in-Send : goal.keeps-returns-in-Send
keeps-returns-in-Send t c =
    kept c.both_keep-in-Send.result (spot_of c.args.s) c.args.e.now _ _ c.in-Send.is (keeps-Send _ _ _ _) c.both_keep-in-Send.ensures

pub keeps-returns-in-CanReceive : goal.keeps-returns-in-CanReceive
keeps-returns-in-CanReceive t c =
    kept c.part_keeps-in-CanReceive.result (spot_of c.args.s) c.args.e.now _ _ c.in-CanReceive.is (keeps-CanReceive _ _ _) c.part_keeps-in-CanReceive.ensures

pub keeps-returns-in-CanSend : goal.keeps-returns-in-CanSend
keeps-returns-in-CanSend t c =
    kept c.part_keeps-in-CanSend.result (spot_of c.args.s) c.args.e.now _ _ c.in-CanSend.is (keeps-CanSend _ _ _) c.part_keeps-in-CanSend.ensures

pub keeps-returns-in-MemberOf : goal.keeps-returns-in-MemberOf
keeps-returns-in-MemberOf t c =
    kept c.part_keeps-in-MemberOf.result (spot_of c.args.s) c.args.e.now _ _ c.in-MemberOf.is (keeps-MemberOf _ _ _ _) c.part_keeps-in-MemberOf.ensures

pub keeps-returns-in-Cast : goal.keeps-returns-in-Cast
keeps-returns-in-Cast t c =
    kept c.part_keeps-in-Cast.result (spot_of c.args.s) c.args.e.now _ _ c.in-Cast.is (keeps-Cast _ _ _ (not_folded (spot_of c.args.s) c.args.e.now _ _ c.in_ok-folded.ensures c.in-None.is c.in-Cast.is)) c.part_keeps-in-Cast.ensures

pub keeps-returns-in-Convert : goal.keeps-returns-in-Convert
keeps-returns-in-Convert t c =
    kept c.part_keeps-in-Convert.result (spot_of c.args.s) c.args.e.now _ _ c.in-Convert.is (keeps-Convert _ _ _ (not_folded (spot_of c.args.s) c.args.e.now _ _ c.in_ok-folded.ensures c.in-None.is c.in-Convert.is)) c.part_keeps-in-Convert.ensures

pub keeps-returns-in-Sequence : goal.keeps-returns-in-Sequence
keeps-returns-in-Sequence t c =
    kept c.row_and_last_keep.result (spot_of c.args.s) c.args.e.now _ _ c.in-Sequence.is (keeps-Sequence _ _ _ _) c.row_and_last_keep.ensures

pub keeps-returns-then-object : goal.keeps-returns-then-object
keeps-returns-then-object t c =
    kept c.items_keep-then-object.result (spot_of c.args.s) c.args.e.now _ _ c.in-Call.is (call_kept (spot_of c.args.s) c.in-Call.ty c.in-Call.function c.in-Call.receiver c.in-Call.arguments _ (sym c.in_ok-object-in-Call.ensures ∙ c.if-object.true)) c.items_keep-then-object.ensures

pub keeps-returns-else-object : goal.keeps-returns-else-object
keeps-returns-else-object t c =
    sym (ap (λ (x : TExpr). (coded (spot_of c.args.s) x).keeps) c.in-Call.is ∙ call_kept (spot_of c.args.s) c.in-Call.ty c.in-Call.function c.in-Call.receiver c.in-Call.arguments _ (sym c.in_ok-object-in-Call.ensures ∙ c.if-object.false))

pub element_keeps-returns-in-Some : goal.element_keeps-returns-in-Some
element_keeps-returns-in-Some t c =
    λ size. subst (λ (pl : Placed). IfOk c.part_keeps.result (λ k. k ≡ pl.keeps)) (sym (element_known (spot_of c.args.s) size (coded (spot_of c.args.s) c.args.base.now) (coded (spot_of c.args.s) c.args.index.now) _ (ap (λ (x : TExpr). (coded (spot_of c.args.s) x).known) (sym c.get.ensures) ∙ sym c.in_ok-known.ensures ∙ c.in-Some.is))) c.part_keeps.ensures

pub element_keeps-returns-in-None : goal.element_keeps-returns-in-None
element_keeps-returns-in-None t c =
    λ size. subst (λ (pl : Placed). IfOk c.both_keep.result (λ k. k ≡ pl.keeps)) (sym (element_open (spot_of c.args.s) size (coded (spot_of c.args.s) c.args.base.now) (coded (spot_of c.args.s) c.args.index.now) (ap (λ (x : TExpr). (coded (spot_of c.args.s) x).known) (sym c.get.ensures) ∙ sym c.in_ok-known.ensures ∙ c.in-None.is))) c.both_keep.ensures

pub place_keeps-returns-in-Pointed : goal.place_keeps-returns-in-Pointed
place_keeps-returns-in-Pointed t c =
    place_kept c.part_keeps.result (spot_of c.args.s) c.args.p.now _ _ c.in-Pointed.is (placed-Pointed (spot_of c.args.s) c.in-Pointed.ty c.in-Pointed.pointer) c.part_keeps.ensures

pub place_keeps-returns-in-Element : goal.place_keeps-returns-in-Element
place_keeps-returns-in-Element t c =
    place_kept c.element_keeps.result (spot_of c.args.s) c.args.p.now _ _ c.in-Element.is (placed-Element (spot_of c.args.s) c.in-Element.ty c.in-Element.base c.in-Element.index) (c.element_keeps.ensures _)

pub place_keeps-returns-in-Member : goal.place_keeps-returns-in-Member
place_keeps-returns-in-Member t c =
    place_kept c.place_part_keeps.result (spot_of c.args.s) c.args.p.now _ _ c.in-Member.is (placed-Member (spot_of c.args.s) c.in-Member.ty c.in-Member.of c.in-Member.path) c.place_part_keeps.ensures

pub place_keeps-returns-in-PointedMember : goal.place_keeps-returns-in-PointedMember
place_keeps-returns-in-PointedMember t c =
    place_kept c.part_keeps-in-PointedMember.result (spot_of c.args.s) c.args.p.now _ _ c.in-PointedMember.is (placed-PointedMember (spot_of c.args.s) c.in-PointedMember.ty c.in-PointedMember.pointer c.in-PointedMember.path) c.part_keeps-in-PointedMember.ensures

pub received_keeps-returns-in-Place : goal.received_keeps-returns-in-Place
received_keeps-returns-in-Place t c =
    object_kept c.place_part_keeps.result (spot_of c.args.s) c.args.receiver.now _ _ c.in-Place.is (ap (λ (g : Given). g.keeps) (received_object-Place (spot_of c.args.s) c.in-Place.place c.in-Place.path c.in-Place.passed) ∙ object_at_keeps (spot_of c.args.s) c.in-Place.passed _ _) c.place_part_keeps.ensures

pub received_keeps-returns-in-Value : goal.received_keeps-returns-in-Value
received_keeps-returns-in-Value t c =
    object_kept c.part_keeps.result (spot_of c.args.s) c.args.receiver.now _ _ c.in-Value.is (ap (λ (g : Given). g.keeps) (received_object-Value (spot_of c.args.s) c.in-Value.value c.in-Value.path c.in-Value.passed) ∙ object_in_keeps (spot_of c.args.s) c.in-Value.passed _ _ _ _) c.part_keeps.ensures

pub received_keeps-returns-in-Pointer : goal.received_keeps-returns-in-Pointer
received_keeps-returns-in-Pointer t c =
    object_kept c.part_keeps-in-Pointer.result (spot_of c.args.s) c.args.receiver.now _ _ c.in-Pointer.is (ap (λ (g : Given). g.keeps) (received_object-Pointer (spot_of c.args.s) c.in-Pointer.pointer c.in-Pointer.path c.in-Pointer.passed) ∙ object_at_keeps (spot_of c.args.s) c.in-Pointer.passed _ _) c.part_keeps-in-Pointer.ensures
