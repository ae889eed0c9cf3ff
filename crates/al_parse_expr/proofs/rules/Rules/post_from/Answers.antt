use Rattle.std.proofs.Common.{◌≡◌, ◌∙◌, true, false, Err, sym, ap, rules, arith}
use Rattle.std.proofs.lemmas.Grind.{common_steps}
use Rattle.al_tree.specs.Leaves.{leaves_of}
use Rattle.al_tree.specs.Reading.{kind}
use Rattle.al_tree.proofs.Turns.{one_more, no_more}
use Rattle.al_parse_expr.specs.Parse.{within, post_from}
use Rattle.al_parse_expr.specs.Part.{goes_on}
use Rattle.al_parse_expr.proofs.Turn.{turn_is}
use Rattle.al_parse_expr.proofs.rules.Rules.post_from.Goals as goal

pub returns-then-not-goes_on-clause-reads : goal.returns-then-not-goes_on-clause-reads
returns-then-not-goes_on-clause-reads g c =
    let e = one_more (λ n. post_from (leaves_of c.args.self.now.text.now) c.args.self.now.types.now c.args.self.now.turns c.args.self.now.depth (within (leaves_of c.args.self.now.text.now) c.args.self.now.types.now c.args.self.now.turns c.args.self.now.depth) n c.args.at c.loop-turn.x c.loop-turn.tokens) _ c.loop-turn._turn c.loop-turn-test.true c.loop-turn.invariant.reads
    ∙ turn_is (leaves_of c.args.self.now.text.now) c.args.self.now.types.now c.args.self.now.turns c.args.self.now.depth (within (leaves_of c.args.self.now.text.now) c.args.self.now.types.now c.args.self.now.turns c.args.self.now.depth) _ c.args.at c.loop-turn.x c.loop-turn.tokens in
    let stops : goes_on (kind c.loop-turn.tokens) ≡ false = ap goes_on (sym c.peek.ensures) ∙ sym c.goes_on.ensures ∙ c.if-not-goes_on.true in
    let turn = rw stops at e in
    first_of (search rules, grind (arith, common_steps))

pub returns-in_err-y-clause-reads : goal.returns-in_err-y-clause-reads
returns-in_err-y-clause-reads g c =
    let e = one_more (λ n. post_from (leaves_of c.args.self.now.text.now) c.args.self.now.types.now c.args.self.now.turns c.args.self.now.depth (within (leaves_of c.args.self.now.text.now) c.args.self.now.types.now c.args.self.now.turns c.args.self.now.depth) n c.args.at c.loop-turn.x c.loop-turn.tokens) _ c.loop-turn._turn c.loop-turn-test.true c.loop-turn.invariant.reads
    ∙ turn_is (leaves_of c.args.self.now.text.now) c.args.self.now.types.now c.args.self.now.turns c.args.self.now.depth (within (leaves_of c.args.self.now.text.now) c.args.self.now.types.now c.args.self.now.turns c.args.self.now.depth) _ c.args.at c.loop-turn.x c.loop-turn.tokens in
    let goes : goes_on (kind c.loop-turn.tokens) ≡ true = ap goes_on (sym c.peek.ensures) ∙ sym c.goes_on.ensures ∙ c.if-not-goes_on.false in
    let turn = rw goes at e in
    first_of (search rules, grind (arith, common_steps))

pub loop-turn-preserved : goal.loop-turn-preserved
loop-turn-preserved g c =
    let e = one_more (λ n. post_from (leaves_of c.args.self.now.text.now) c.args.self.now.types.now c.args.self.now.turns c.args.self.now.depth (within (leaves_of c.args.self.now.text.now) c.args.self.now.types.now c.args.self.now.turns c.args.self.now.depth) n c.args.at c.loop-turn.x c.loop-turn.tokens) _ c.loop-turn._turn c.loop-turn-test.true c.loop-turn.invariant.reads
    ∙ turn_is (leaves_of c.args.self.now.text.now) c.args.self.now.types.now c.args.self.now.turns c.args.self.now.depth (within (leaves_of c.args.self.now.text.now) c.args.self.now.types.now c.args.self.now.turns c.args.self.now.depth) _ c.args.at c.loop-turn.x c.loop-turn.tokens in
    let goes : goes_on (kind c.loop-turn.tokens) ≡ true = ap goes_on (sym c.peek.ensures) ∙ sym c.goes_on.ensures ∙ c.if-not-goes_on.false in
    let turn = rw (goes, c.in_ok-y.ensures.reads) at e in
    record { reads = turn; low = c.in_ok-y.ensures.low; called = c.in_ok-y.ensures.callee }

pub returns-clause-reads : goal.returns-clause-reads
unfolding post_from
returns-clause-reads g c =
    let e = no_more (λ n. post_from (leaves_of c.args.self.now.text.now) c.args.self.now.types.now c.args.self.now.turns c.args.self.now.depth (within (leaves_of c.args.self.now.text.now) c.args.self.now.types.now c.args.self.now.turns c.args.self.now.depth) n c.args.at c.loop-turn.x c.loop-turn.tokens) _ c.loop-turn._turn c.loop-turn-test.false c.loop-turn.invariant.reads in
    λ some. e ∙ ap Err (sym c.refused.ensures)
