use Rattle.std.proofs.Common.{rules, arith}
use Rattle.std.proofs.lemmas.Grind.{common_steps}
use Rattle.al_tree.specs.Leaves.{leaves_of}
use Rattle.al_tree.proofs.Turns.{one_more, no_more}
use Rattle.al_parse_member.specs.Members.{constants_from}
use Rattle.al_parse_member.proofs.context.Context.constants_from.Goals as goal

pub returns-in_err-x-clause-reads : goal.returns-in_err-x-clause-reads
unfolding constants_from
returns-in_err-x-clause-reads c =
    let e = one_more (λ n. constants_from (leaves_of c.args.self.now.text.now) c.args.self.now.types.now c.args.self.now.turns c.args.self.now.depth n c.loop-turn.found c.loop-turn.height c.loop-turn.tokens) _ c.loop-turn._turn c.loop-turn-test.true c.loop-turn.invariant.reads in
    first_of (search rules, grind (arith, common_steps))

pub returns-in_err-expect-clause-reads : goal.returns-in_err-expect-clause-reads
unfolding constants_from
returns-in_err-expect-clause-reads c =
    let e = one_more (λ n. constants_from (leaves_of c.args.self.now.text.now) c.args.self.now.types.now c.args.self.now.turns c.args.self.now.depth n c.loop-turn.found c.loop-turn.height c.loop-turn.tokens) _ c.loop-turn._turn c.loop-turn-test.true c.loop-turn.invariant.reads in
    first_of (search rules, grind (arith, common_steps))

pub returns-then-not-next_is-clause-reads : goal.returns-then-not-next_is-clause-reads
unfolding constants_from
returns-then-not-next_is-clause-reads c =
    let e = one_more (λ n. constants_from (leaves_of c.args.self.now.text.now) c.args.self.now.types.now c.args.self.now.turns c.args.self.now.depth n c.loop-turn.found c.loop-turn.height c.loop-turn.tokens) _ c.loop-turn._turn c.loop-turn-test.true c.loop-turn.invariant.reads in
    first_of (search rules, grind (arith, common_steps))

pub returns-in_err-take_if-clause-reads : goal.returns-in_err-take_if-clause-reads
unfolding constants_from
returns-in_err-take_if-clause-reads c =
    let e = one_more (λ n. constants_from (leaves_of c.args.self.now.text.now) c.args.self.now.types.now c.args.self.now.turns c.args.self.now.depth n c.loop-turn.found c.loop-turn.height c.loop-turn.tokens) _ c.loop-turn._turn c.loop-turn-test.true c.loop-turn.invariant.reads in
    first_of (search rules, grind (arith, common_steps))

pub returns-in_err-take_if-2-clause-reads : goal.returns-in_err-take_if-2-clause-reads
unfolding constants_from
returns-in_err-take_if-2-clause-reads c =
    let e = one_more (λ n. constants_from (leaves_of c.args.self.now.text.now) c.args.self.now.types.now c.args.self.now.turns c.args.self.now.depth n c.loop-turn.found c.loop-turn.height c.loop-turn.tokens) _ c.loop-turn._turn c.loop-turn-test.true c.loop-turn.invariant.reads in
    first_of (search rules, grind (arith, common_steps))

pub returns-then-next_is-clause-reads : goal.returns-then-next_is-clause-reads
unfolding constants_from
returns-then-next_is-clause-reads c =
    let e = one_more (λ n. constants_from (leaves_of c.args.self.now.text.now) c.args.self.now.types.now c.args.self.now.turns c.args.self.now.depth n c.loop-turn.found c.loop-turn.height c.loop-turn.tokens) _ c.loop-turn._turn c.loop-turn-test.true c.loop-turn.invariant.reads in
    first_of (search rules, grind (arith, common_steps))

pub loop-turn-preserved : goal.loop-turn-preserved
unfolding constants_from
loop-turn-preserved c =
    let e = one_more (λ n. constants_from (leaves_of c.args.self.now.text.now) c.args.self.now.types.now c.args.self.now.turns c.args.self.now.depth n c.loop-turn.found c.loop-turn.height c.loop-turn.tokens) _ c.loop-turn._turn c.loop-turn-test.true c.loop-turn.invariant.reads in
    first_of (search rules, grind (arith, common_steps))

pub returns-clause-reads : goal.returns-clause-reads
unfolding constants_from
returns-clause-reads c =
    let e = no_more (λ n. constants_from (leaves_of c.args.self.now.text.now) c.args.self.now.types.now c.args.self.now.turns c.args.self.now.depth n c.loop-turn.found c.loop-turn.height c.loop-turn.tokens) _ c.loop-turn._turn c.loop-turn-test.false c.loop-turn.invariant.reads in
    first_of (search rules, grind (arith, common_steps))
