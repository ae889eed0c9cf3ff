use Rattle.std.proofs.Common.{◌≡◌, ◌∙◌, sym, ap}
use Rattle.std.specs.List.{flat_map}
use Rattle.al_typed.specs.Measures.{tallied, whole_pieces, argument_pieces, target_pieces, given_pieces, object_pieces}
use Rattle.al_typed.proofs.Steps.{tallied-nil, tallied_more, argument_more, call_is}
use Rattle.al_typed.proofs.count.+count.Goals as goal
use Rattle.al_typed.proofs.count.+count.Goals.{expression-in-Some, expression-in_default}

pub all_assigned-loop-target-init : goal.all_assigned-loop-target-init
all_assigned-loop-target-init t c = tallied-nil c.args.p.now c.args.tally.now

pub all_assigned-loop-target-preserved : goal.all_assigned-loop-target-preserved
all_assigned-loop-target-preserved t c =
    tallied_more c.args.p.now c.args.tally.now c.loop-target.tally c.assigned.new.tally target_pieces c.args.row.now c.loop-target.target-index
    c.target-item.result c.loop-target-test.true c.target-item.is c.loop-target.invariant c.assigned.ensures

pub expressions-loop-e-init : goal.expressions-loop-e-init
expressions-loop-e-init t c = tallied-nil c.args.p.now c.args.tally.now

pub expressions-loop-e-preserved : goal.expressions-loop-e-preserved
expressions-loop-e-preserved t c =
    tallied_more c.args.p.now c.args.tally.now c.loop-e.tally c.expression.new.tally whole_pieces c.args.row.now c.loop-e.e-index
    c.e-item.result c.loop-e-test.true c.e-item.is c.loop-e.invariant c.expression.ensures

pub passed_on-loop-e-init : goal.passed_on-loop-e-init
passed_on-loop-e-init t c = tallied-nil c.args.p.now c.args.tally.now

pub passed_on-loop-e-preserved : goal.passed_on-loop-e-preserved
passed_on-loop-e-preserved t c =
    tallied_more c.args.p.now c.args.tally.now c.loop-e.tally c.expression.new.tally argument_pieces c.args.row.now c.loop-e.e-index
    c.e-item.result c.loop-e-test.true c.e-item.is c.loop-e.invariant
    (argument_more c.args.p.now c.loop-e.tally c.copied.new.tally c.expression.new.tally c.e-item.result c.ty.result.now c.ty.ensures c.copied.ensures c.expression.ensures)

pub expression-returns-after-receiver : goal.expression-returns-after-receiver
expression-returns-after-receiver t c =
    let given : c.match-receiver.tally ≡ tallied c.args.p.now c.node-in-Call.new.tally (given_pieces c.in-Call.receiver) =
    elim c.match-receiver.branch [
      | expression-in-Some w ↦
          w.tally-is ∙ w.object.ensures
          ∙ ap (λ r. tallied c.args.p.now c.node-in-Call.new.tally (object_pieces r)) w.get-in-Some.ensures
          ∙ ap (λ o. tallied c.args.p.now c.node-in-Call.new.tally (given_pieces o)) (sym w.in-Some.is)
      | expression-in_default w ↦
          w.tally-is ∙ tallied-nil c.args.p.now c.node-in-Call.new.tally
          ∙ ap (λ o. tallied c.args.p.now c.node-in-Call.new.tally (given_pieces o)) (sym w.in_default.is)
    ] in
    call_is c.args.p.now c.args.tally.now c.node-in-Call.new.tally c.match-receiver.tally c.expressions-in-Call.new.tally c.args.is_named
    c.args.e.now _ _ _ _ c.in-Call.is c.node-in-Call.ensures given
    (c.expressions-in-Call.ensures ∙ ap (λ l. tallied c.args.p.now c.match-receiver.tally (flat_map whole_pieces l)) c.as_slice-in-Call.ensures.value)
