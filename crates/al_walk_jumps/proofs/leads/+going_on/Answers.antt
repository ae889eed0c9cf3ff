use Rattle.std.proofs.Common.{◌≡◌, ◌∙◌, ◌+◌, ◌++◌, List, Some, true, false, ap, map, sym}
use Rattle.std.proofs.lemmas.Bool.{false≢true}
use Rattle.std.proofs.lemmas.List.{take_rest}
use Rattle.std.proofs.lemmas.Result.{on_ok_weaker}
use Rattle.al_meaning.specs.Parts.{going_on}
use Rattle.al_control.specs.declared.control.Item.{Item}
use Rattle.al_control.specs.Models.{item_of}
use Rattle.al_walk_loops.specs.BodyParts.{statements_in}
use Rattle.al_walk_jumps.specs.Holds.{any_holds, holds}
use Rattle.al_walk_jumps.specs.Labelled.{going_on_in}
use Rattle.al_walk_jumps.proofs.GoingOn.{goes-Alt, goes-Block, goes-Do, goes-For, goes-If, goes-Label, goes-Rescue, goes-Some, goes-Switch, goes-While, goes-chosen, goes-other, labelled_behind, labelled_here}
use Rattle.al_walk_jumps.proofs.Labels.{going_here, going_later, held_later, held_past}
use Rattle.al_walk_jumps.proofs.leads.+going_on.Goals as goal

-- ---- in a list

pub put_going_on_in-loop-k-preserved : goal.put_going_on_in-loop-k-preserved
put_going_on_in-loop-k-preserved t c =
    let not : holds c.args.number c.index-body-k.result ≡ false = sym c.holds.ensures ∙ c.if-holds.false in
    record {
      held = c.loop-k.invariant.held ∙ held_later c.args.number c.args.body.now c.loop-k.k c.index-body-k.result c.loop-k-test.true c.index-body-k.is not;
      going =
          λ rest.
          c.loop-k.invariant.going rest
          ∙ going_later c.args.number c.args.body.now c.loop-k.k c.index-body-k.result rest c.loop-k-test.true c.index-body-k.is not;
      kept = c.loop-k.invariant.kept;
    }

pub put_going_on_in-returns-then-holds : goal.put_going_on_in-returns-then-holds
put_going_on_in-returns-then-holds t c =
    let n = c.args.number in
    let body = c.args.body.now in
    let s = c.index-body-k.result in
    let old = map item_of c.loop-k.items in
    let here : holds n s ≡ true = sym c.holds.ensures ∙ c.if-holds.true in
    on_ok_weaker c.put_going_on.result
    (λ goes h.
    ap (λ (l : List Item). going_on_in n body (map item_of l)) (sym c.loop-k.invariant.kept)
    ∙ c.loop-k.invariant.going old
    ∙ going_here n body c.loop-k.k s old (map item_of c.put_going_on.new.items) c.loop-k-test.true c.index-body-k.is
    (ap (going_on n s) (ap (λ l. statements_in l ++ old) (sym (take_rest body (c.loop-k.k + 1))) ∙ sym c.in_ok-put_statements.ensures) ∙ goes here))
    c.put_going_on.ensures

pub put_going_on_in-returns : goal.put_going_on_in-returns
put_going_on_in-returns t c =
    λ h.
    let none : any_holds c.args.number c.args.body.now ≡ false =
    c.loop-k.invariant.held ∙ held_past c.args.number c.args.body.now c.loop-k.k c.loop-k-test.false
    in
    absurd (false≢true (sym none ∙ h))

-- ---- in the other statement of an if

pub put_going_on_other-returns-in-Some : goal.put_going_on_other-returns-in-Some
put_going_on_other-returns-in-Some t c =
    on_ok_weaker c.put_going_on.result
    (goes-Some c.args.number c.in-Some.other c.get.result.now c.args.other.now (map item_of c.args.items.now) (Some (map item_of c.put_going_on.new.items))
    c.in-Some.is c.get.ensures)
    c.put_going_on.ensures

-- ---- in a statement

pub put_labelled-returns-then-label-number : goal.put_labelled-returns-then-label-number
put_labelled-returns-then-label-number t c =
    on_ok_weaker c.put_to_do.result
    (λ put h.
    labelled_here c.args.number c.args.label c.args.there.now c.args.body.now (map item_of c.args.items.now) (map item_of c.put_to_do.new.items)
    c.if-label-number.true put)
    c.put_to_do.ensures

pub put_labelled-returns-else-label-number : goal.put_labelled-returns-else-label-number
put_labelled-returns-else-label-number t c =
    on_ok_weaker c.put_going_on.result
    (labelled_behind c.args.number c.args.label c.args.there.now c.args.body.now (map item_of c.args.items.now)
    (Some (map item_of c.put_going_on.new.items)) c.if-label-number.false)
    c.put_going_on.ensures

pub put_going_on-returns-in-Label : goal.put_going_on-returns-in-Label
put_going_on-returns-in-Label t c =
    on_ok_weaker c.put_labelled.result
    (goes-Label c.args.number c.in-Label.line c.in-Label.label c.in-Label.body c.get.result.now c.args.s.now (map item_of c.args.items.now)
    (Some (map item_of c.put_labelled.new.items)) c.in-Label.is c.get.ensures)
    c.put_labelled.ensures

pub put_going_on-returns-in-Rescue : goal.put_going_on-returns-in-Rescue
put_going_on-returns-in-Rescue t c =
    on_ok_weaker c.put_labelled-in-Rescue.result
    (goes-Rescue c.args.number c.in-Rescue.line c.in-Rescue.label c.in-Rescue.body c.get-body.result.now c.args.s.now (map item_of c.args.items.now)
    (Some (map item_of c.put_labelled-in-Rescue.new.items)) c.in-Rescue.is c.get-body.ensures)
    c.put_labelled-in-Rescue.ensures

pub put_going_on-returns-in-Block : goal.put_going_on-returns-in-Block
put_going_on-returns-in-Block t c =
    on_ok_weaker c.put_going_on_in.result
    (goes-Block c.args.number c.in-Block.line c.in-Block.body c.as_slice.result.now c.args.s.now (map item_of c.args.items.now) (Some (map item_of c.put_going_on_in.new.items))
    c.in-Block.is c.as_slice.ensures.value)
    c.put_going_on_in.ensures

pub put_going_on-returns-then-holds : goal.put_going_on-returns-then-holds
put_going_on-returns-then-holds t c =
    on_ok_weaker c.put_going_on.result
    (λ goes.
    goes-If c.args.number c.in-If.line c.in-If.condition c.in-If.then c.get-chosen.result.now c.args.s.now c.in-If.other
    (map item_of c.args.items.now) (Some (map item_of c.put_going_on.new.items)) c.in-If.is c.get-chosen.ensures
    (λ h.
    goes-chosen c.args.number c.get-chosen.result.now c.in-If.other (map item_of c.args.items.now) (map item_of c.put_going_on.new.items)
    (goes (sym c.holds.ensures ∙ c.if-holds.true))))
    c.put_going_on.ensures

pub put_going_on-returns-else-holds : goal.put_going_on-returns-else-holds
put_going_on-returns-else-holds t c =
    on_ok_weaker c.put_going_on_other.result
    (λ goes.
    goes-If c.args.number c.in-If.line c.in-If.condition c.in-If.then c.get-chosen.result.now c.args.s.now c.in-If.other
    (map item_of c.args.items.now) (Some (map item_of c.put_going_on_other.new.items)) c.in-If.is c.get-chosen.ensures
    (goes-other c.args.number c.get-chosen.result.now c.in-If.other (map item_of c.args.items.now)
    (Some (map item_of c.put_going_on_other.new.items)) (sym c.holds.ensures ∙ c.if-holds.false) goes))
    c.put_going_on_other.ensures

pub put_going_on-returns-in_ok-put_stage-in-While : goal.put_going_on-returns-in_ok-put_stage-in-While
put_going_on-returns-in_ok-put_stage-in-While t c =
    on_ok_weaker c.put_going_on-in-While.result
    (goes-While c.args.number c.in-While.line c.in-While.condition c.in-While.body c.get-in-While.result.now c.args.s.now (map item_of c.args.items.now) (map item_of c.put_stage.new.items) (Some (map item_of c.put_going_on-in-While.new.items))
    c.in-While.is c.get-in-While.ensures c.in_ok-put_stage-in-While.ensures)
    c.put_going_on-in-While.ensures

pub put_going_on-returns-in_ok-put_stage-in-Do : goal.put_going_on-returns-in_ok-put_stage-in-Do
put_going_on-returns-in_ok-put_stage-in-Do t c =
    on_ok_weaker c.put_going_on-in-Do.result
    (goes-Do c.args.number c.in-Do.line c.in-Do.body c.get-in-Do.result.now c.in-Do.condition c.args.s.now (map item_of c.args.items.now) (map item_of c.put_stage-in-Do.new.items) (Some (map item_of c.put_going_on-in-Do.new.items))
    c.in-Do.is c.get-in-Do.ensures c.in_ok-put_stage-in-Do.ensures)
    c.put_going_on-in-Do.ensures

pub put_going_on-returns-in_ok-put_stage-in-For : goal.put_going_on-returns-in_ok-put_stage-in-For
put_going_on-returns-in_ok-put_stage-in-For t c =
    on_ok_weaker c.put_going_on-in-For.result
    (goes-For c.args.number c.in-For.line c.in-For.start c.in-For.condition c.in-For.step c.in-For.body c.get-in-For.result.now c.args.s.now (map item_of c.args.items.now) (map item_of c.put_stage-in-For.new.items) (Some (map item_of c.put_going_on-in-For.new.items))
    c.in-For.is c.get-in-For.ensures c.in_ok-put_stage-in-For.ensures)
    c.put_going_on-in-For.ensures

pub put_going_on-returns-in_ok-put_work-in-Switch : goal.put_going_on-returns-in_ok-put_work-in-Switch
put_going_on-returns-in_ok-put_work-in-Switch t c =
    on_ok_weaker c.put_going_on_in-in-Switch.result
    (goes-Switch c.args.number c.in-Switch.line c.in-Switch.value c.in-Switch.body c.as_slice-in-Switch.result.now c.args.s.now (map item_of c.args.items.now) (map item_of c.put_work.new.items) (Some (map item_of c.put_going_on_in-in-Switch.new.items))
    c.in-Switch.is c.as_slice-in-Switch.ensures.value c.in_ok-put_work-in-Switch.ensures)
    c.put_going_on_in-in-Switch.ensures

pub put_going_on-returns-in_ok-put_work-in-Alt : goal.put_going_on-returns-in_ok-put_work-in-Alt
put_going_on-returns-in_ok-put_work-in-Alt t c =
    on_ok_weaker c.put_going_on_in-in-Alt.result
    (goes-Alt c.args.number c.in-Alt.line c.in-Alt.body c.as_slice-in-Alt.result.now c.args.s.now (map item_of c.args.items.now) (map item_of c.put_work-in-Alt.new.items) (Some (map item_of c.put_going_on_in-in-Alt.new.items))
    c.in-Alt.is c.as_slice-in-Alt.ensures.value c.in_ok-put_work-in-Alt.ensures)
    c.put_going_on_in-in-Alt.ensures
