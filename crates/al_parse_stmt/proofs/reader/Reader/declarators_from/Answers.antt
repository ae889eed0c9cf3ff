use Rattle.std.proofs.Common.{rules, arith}
use Rattle.std.proofs.lemmas.Grind.{common_steps}
use Rattle.al_tree.specs.Leaves.{leaves_of}
use Rattle.al_tree.proofs.Turns.{one_more, no_more}
use Rattle.al_parse_stmt.specs.Known.{declared_of}
use Rattle.al_parse_stmt.specs.Heads.{declarators_from}
use Rattle.al_parse_stmt.proofs.reader.Reader.declarators_from.Goals as goal

pub returns-then-not-next_is-clause-reads : goal.returns-then-not-next_is-clause-reads
unfolding declarators_from
returns-then-not-next_is-clause-reads c =
    let e = one_more (λ n. declarators_from (leaves_of c.args.text.now) c.args.self.now.turns c.args.self.now.depth (declared_of c.loop-turn.known) n c.loop-turn.found c.loop-turn.height c.loop-turn.tokens) _ c.loop-turn._turn c.loop-turn-test.true c.loop-turn.invariant.reads in
    first_of (search rules, grind (arith, common_steps))

pub returns-in_err-take_if-clause-reads : goal.returns-in_err-take_if-clause-reads
unfolding declarators_from
returns-in_err-take_if-clause-reads c =
    let e = one_more (λ n. declarators_from (leaves_of c.args.text.now) c.args.self.now.turns c.args.self.now.depth (declared_of c.loop-turn.known) n c.loop-turn.found c.loop-turn.height c.loop-turn.tokens) _ c.loop-turn._turn c.loop-turn-test.true c.loop-turn.invariant.reads in
    first_of (search rules, grind (arith, common_steps))

pub returns-in_err-x-clause-reads : goal.returns-in_err-x-clause-reads
unfolding declarators_from
returns-in_err-x-clause-reads c =
    let e = one_more (λ n. declarators_from (leaves_of c.args.text.now) c.args.self.now.turns c.args.self.now.depth (declared_of c.loop-turn.known) n c.loop-turn.found c.loop-turn.height c.loop-turn.tokens) _ c.loop-turn._turn c.loop-turn-test.true c.loop-turn.invariant.reads in
    first_of (search rules, grind (arith, common_steps))

pub loop-turn-preserved : goal.loop-turn-preserved
unfolding declarators_from
loop-turn-preserved c =
    let e = one_more (λ n. declarators_from (leaves_of c.args.text.now) c.args.self.now.turns c.args.self.now.depth (declared_of c.loop-turn.known) n c.loop-turn.found c.loop-turn.height c.loop-turn.tokens) _ c.loop-turn._turn c.loop-turn-test.true c.loop-turn.invariant.reads in
    first_of (search rules, grind (arith, common_steps))

pub returns-clause-reads : goal.returns-clause-reads
unfolding declarators_from
returns-clause-reads c =
    let e = no_more (λ n. declarators_from (leaves_of c.args.text.now) c.args.self.now.turns c.args.self.now.depth (declared_of c.loop-turn.known) n c.loop-turn.found c.loop-turn.height c.loop-turn.tokens) _ c.loop-turn._turn c.loop-turn-test.false c.loop-turn.invariant.reads in
    first_of (search rules, grind (arith, common_steps))
