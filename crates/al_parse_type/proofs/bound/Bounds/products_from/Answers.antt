use Rattle.std.proofs.Common.{rules, arith}
use Rattle.std.proofs.lemmas.Grind.{common_steps}
use Rattle.al_tree.specs.Leaves.{leaves_of}
use Rattle.al_tree.proofs.Turns.{one_more}
use Rattle.al_parse_type.specs.Parse.{bound_below, products_from}
use Rattle.al_parse_type.proofs.bound.Bounds.products_from.Goals as goal

pub returns-in_err-take_if-in-Some-clause-reads : goal.returns-in_err-take_if-in-Some-clause-reads
unfolding products_from
returns-in_err-take_if-in-Some-clause-reads g c =
    let e = one_more (λ n. products_from (leaves_of c.args.self.now.text.now) c.args.self.now.types.now c.args.self.now.turns c.args.self.now.depth (bound_below (leaves_of c.args.self.now.text.now) c.args.self.now.types.now c.args.self.now.turns c.args.self.now.depth) n c.args.at c.loop-turn.x c.loop-turn.tokens) _ c.loop-turn._turn c.loop-turn-test.true c.loop-turn.invariant.reads in
    first_of (search rules, grind (arith, common_steps))

pub returns-in_err-y-in-Some-clause-reads : goal.returns-in_err-y-in-Some-clause-reads
unfolding products_from
returns-in_err-y-in-Some-clause-reads g c =
    let e = one_more (λ n. products_from (leaves_of c.args.self.now.text.now) c.args.self.now.types.now c.args.self.now.turns c.args.self.now.depth (bound_below (leaves_of c.args.self.now.text.now) c.args.self.now.types.now c.args.self.now.turns c.args.self.now.depth) n c.args.at c.loop-turn.x c.loop-turn.tokens) _ c.loop-turn._turn c.loop-turn-test.true c.loop-turn.invariant.reads in
    first_of (search rules, grind (arith, common_steps))

pub loop-turn-preserved : goal.loop-turn-preserved
unfolding products_from
loop-turn-preserved g c =
    let e = one_more (λ n. products_from (leaves_of c.args.self.now.text.now) c.args.self.now.types.now c.args.self.now.turns c.args.self.now.depth (bound_below (leaves_of c.args.self.now.text.now) c.args.self.now.types.now c.args.self.now.turns c.args.self.now.depth) n c.args.at c.loop-turn.x c.loop-turn.tokens) _ c.loop-turn._turn c.loop-turn-test.true c.loop-turn.invariant.reads in
    first_of (search rules, grind (arith, common_steps))
