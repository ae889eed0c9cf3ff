use Rattle.std.proofs.Common.{rules, arith}
use Rattle.std.proofs.lemmas.Grind.{common_steps}
use Rattle.al_tree.proofs.Turns.{one_more, no_more}
use Rattle.al_parse_stmt.specs.Ahead.{pass_open}
use Rattle.al_parse_stmt.proofs.ahead.pass_open.Goals as goal

pub returns-then-brackets-eq0 : goal.returns-then-brackets-eq0
unfolding pass_open
returns-then-brackets-eq0 c =
    let e = one_more (λ n. pass_open n c.loop-turn.brackets c.loop-turn.tokens) _ c.loop-turn._turn c.loop-turn-test.true c.loop-turn.invariant.reads in
    first_of (search rules, grind (arith, common_steps))

pub returns-in_err-t : goal.returns-in_err-t
unfolding pass_open
returns-in_err-t c =
    let e = one_more (λ n. pass_open n c.loop-turn.brackets c.loop-turn.tokens) _ c.loop-turn._turn c.loop-turn-test.true c.loop-turn.invariant.reads in
    first_of (search rules, grind (arith, common_steps))

pub loop-turn-preserved : goal.loop-turn-preserved
unfolding pass_open
loop-turn-preserved c =
    let e = one_more (λ n. pass_open n c.loop-turn.brackets c.loop-turn.tokens) _ c.loop-turn._turn c.loop-turn-test.true c.loop-turn.invariant.reads in
    first_of (search rules, grind (arith, common_steps))

pub returns : goal.returns
unfolding pass_open
returns c =
    let e = no_more (λ n. pass_open n c.loop-turn.brackets c.loop-turn.tokens) _ c.loop-turn._turn c.loop-turn-test.false c.loop-turn.invariant.reads in
    first_of (search rules, grind (arith, common_steps))
