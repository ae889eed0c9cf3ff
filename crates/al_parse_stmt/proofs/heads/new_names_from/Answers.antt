use Rattle.std.proofs.Common.{rules, arith}
use Rattle.std.proofs.lemmas.Grind.{common_steps}
use Rattle.al_tree.proofs.Turns.{one_more, no_more}
use Rattle.al_parse_stmt.specs.Heads.{new_names_from}
use Rattle.al_parse_stmt.proofs.heads.new_names_from.Goals as goal

pub returns-then-not-next_is : goal.returns-then-not-next_is
unfolding new_names_from
returns-then-not-next_is c =
    let e = one_more (λ n. new_names_from c.args.types.now n c.loop-turn.found c.loop-turn.tokens) _ c.loop-turn._turn c.loop-turn-test.true c.loop-turn.invariant in
    first_of (search rules, grind (arith, common_steps))

pub returns-in_err-take_if : goal.returns-in_err-take_if
unfolding new_names_from
returns-in_err-take_if c =
    let e = one_more (λ n. new_names_from c.args.types.now n c.loop-turn.found c.loop-turn.tokens) _ c.loop-turn._turn c.loop-turn-test.true c.loop-turn.invariant in
    first_of (search rules, grind (arith, common_steps))

pub returns-in_err-t : goal.returns-in_err-t
unfolding new_names_from
returns-in_err-t c =
    let e = one_more (λ n. new_names_from c.args.types.now n c.loop-turn.found c.loop-turn.tokens) _ c.loop-turn._turn c.loop-turn-test.true c.loop-turn.invariant in
    first_of (search rules, grind (arith, common_steps))

pub loop-turn-preserved : goal.loop-turn-preserved
unfolding new_names_from
loop-turn-preserved c =
    let e = one_more (λ n. new_names_from c.args.types.now n c.loop-turn.found c.loop-turn.tokens) _ c.loop-turn._turn c.loop-turn-test.true c.loop-turn.invariant in
    first_of (search rules, grind (arith, common_steps))

pub returns : goal.returns
unfolding new_names_from
returns c =
    let e = no_more (λ n. new_names_from c.args.types.now n c.loop-turn.found c.loop-turn.tokens) _ c.loop-turn._turn c.loop-turn-test.false c.loop-turn.invariant in
    first_of (search rules, grind (arith, common_steps))
