use Rattle.std.proofs.Common.{rules, arith}
use Rattle.std.proofs.lemmas.Grind.{common_steps}
use Rattle.al_tree.specs.Leaves.{leaves_of}
use Rattle.al_tree.proofs.Turns.{one_more, no_more}
use Rattle.al_parse_expr.specs.Parse.{within, chain_from}
use Rattle.al_parse_expr.proofs.rules.Rules.chain_from.Goals as goal

pub returns-in_default-clause-reads : goal.returns-in_default-clause-reads
unfolding chain_from
returns-in_default-clause-reads g c =
    let e = one_more (λ n. chain_from (leaves_of c.args.self.now.text.now) c.args.self.now.types.now c.args.self.now.turns c.args.self.now.depth (within (leaves_of c.args.self.now.text.now) c.args.self.now.types.now c.args.self.now.turns c.args.self.now.depth) n c.args.level c.args.at c.loop-turn.x c.loop-turn.tokens) _ c.loop-turn._turn c.loop-turn-test.true c.loop-turn.invariant.reads in
    first_of (search rules, grind (arith, common_steps))

pub returns-in_err-take_if-clause-reads : goal.returns-in_err-take_if-clause-reads
unfolding chain_from
returns-in_err-take_if-clause-reads g c =
    let e = one_more (λ n. chain_from (leaves_of c.args.self.now.text.now) c.args.self.now.types.now c.args.self.now.turns c.args.self.now.depth (within (leaves_of c.args.self.now.text.now) c.args.self.now.types.now c.args.self.now.turns c.args.self.now.depth) n c.args.level c.args.at c.loop-turn.x c.loop-turn.tokens) _ c.loop-turn._turn c.loop-turn-test.true c.loop-turn.invariant.reads in
    first_of (search rules, grind (arith, common_steps))

pub returns-in_err-y-clause-reads : goal.returns-in_err-y-clause-reads
unfolding chain_from
returns-in_err-y-clause-reads g c =
    let e = one_more (λ n. chain_from (leaves_of c.args.self.now.text.now) c.args.self.now.types.now c.args.self.now.turns c.args.self.now.depth (within (leaves_of c.args.self.now.text.now) c.args.self.now.types.now c.args.self.now.turns c.args.self.now.depth) n c.args.level c.args.at c.loop-turn.x c.loop-turn.tokens) _ c.loop-turn._turn c.loop-turn-test.true c.loop-turn.invariant.reads in
    first_of (search rules, grind (arith, common_steps))

pub loop-turn-preserved : goal.loop-turn-preserved
unfolding chain_from
loop-turn-preserved g c =
    let e = one_more (λ n. chain_from (leaves_of c.args.self.now.text.now) c.args.self.now.types.now c.args.self.now.turns c.args.self.now.depth (within (leaves_of c.args.self.now.text.now) c.args.self.now.types.now c.args.self.now.turns c.args.self.now.depth) n c.args.level c.args.at c.loop-turn.x c.loop-turn.tokens) _ c.loop-turn._turn c.loop-turn-test.true c.loop-turn.invariant.reads in
    first_of (search rules, grind (arith, common_steps))

pub returns-clause-reads : goal.returns-clause-reads
unfolding chain_from
returns-clause-reads g c =
    let e = no_more (λ n. chain_from (leaves_of c.args.self.now.text.now) c.args.self.now.types.now c.args.self.now.turns c.args.self.now.depth (within (leaves_of c.args.self.now.text.now) c.args.self.now.types.now c.args.self.now.turns c.args.self.now.depth) n c.args.level c.args.at c.loop-turn.x c.loop-turn.tokens) _ c.loop-turn._turn c.loop-turn-test.false c.loop-turn.invariant.reads in
    first_of (search rules, grind (arith, common_steps))
