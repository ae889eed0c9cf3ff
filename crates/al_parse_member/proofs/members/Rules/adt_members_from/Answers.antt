use Rattle.std.proofs.Common.{rules, arith}
use Rattle.std.proofs.lemmas.Grind.{common_steps}
use Rattle.al_tree.specs.Leaves.{leaves_of}
use Rattle.al_tree.proofs.Turns.{one_more, no_more}
use Rattle.al_parse_member.specs.Members.{member, adt_members_from}
use Rattle.al_parse_member.proofs.members.Rules.adt_members_from.Goals as goal

pub returns-then-not-begins_adt_member-clause-reads : goal.returns-then-not-begins_adt_member-clause-reads
unfolding adt_members_from
returns-then-not-begins_adt_member-clause-reads g c =
    let e = one_more (λ n. adt_members_from (leaves_of c.args.self.now.context.text.now) c.args.self.now.context.types.now c.args.self.now.context.turns c.args.self.now.context.depth (member (leaves_of c.args.self.now.context.text.now) c.args.self.now.context.types.now c.args.self.now.context.turns c.args.self.now.context.depth) n c.loop-turn.found c.loop-turn.height c.loop-turn.tokens) _ c.loop-turn._turn c.loop-turn-test.true c.loop-turn.invariant.reads in
    first_of (search rules, grind (arith, common_steps))

pub returns-in_err-x-clause-reads : goal.returns-in_err-x-clause-reads
unfolding adt_members_from
returns-in_err-x-clause-reads g c =
    let e = one_more (λ n. adt_members_from (leaves_of c.args.self.now.context.text.now) c.args.self.now.context.types.now c.args.self.now.context.turns c.args.self.now.context.depth (member (leaves_of c.args.self.now.context.text.now) c.args.self.now.context.types.now c.args.self.now.context.turns c.args.self.now.context.depth) n c.loop-turn.found c.loop-turn.height c.loop-turn.tokens) _ c.loop-turn._turn c.loop-turn-test.true c.loop-turn.invariant.reads in
    first_of (search rules, grind (arith, common_steps))

pub loop-turn-preserved : goal.loop-turn-preserved
unfolding adt_members_from
loop-turn-preserved g c =
    let e = one_more (λ n. adt_members_from (leaves_of c.args.self.now.context.text.now) c.args.self.now.context.types.now c.args.self.now.context.turns c.args.self.now.context.depth (member (leaves_of c.args.self.now.context.text.now) c.args.self.now.context.types.now c.args.self.now.context.turns c.args.self.now.context.depth) n c.loop-turn.found c.loop-turn.height c.loop-turn.tokens) _ c.loop-turn._turn c.loop-turn-test.true c.loop-turn.invariant.reads in
    first_of (search rules, grind (arith, common_steps))

pub returns-clause-reads : goal.returns-clause-reads
unfolding adt_members_from
returns-clause-reads g c =
    let e = no_more (λ n. adt_members_from (leaves_of c.args.self.now.context.text.now) c.args.self.now.context.types.now c.args.self.now.context.turns c.args.self.now.context.depth (member (leaves_of c.args.self.now.context.text.now) c.args.self.now.context.types.now c.args.self.now.context.turns c.args.self.now.context.depth) n c.loop-turn.found c.loop-turn.height c.loop-turn.tokens) _ c.loop-turn._turn c.loop-turn-test.false c.loop-turn.invariant.reads in
    first_of (search rules, grind (arith, common_steps))
