use Rattle.std.proofs.Common.{◌≡◌, ap, arith, rules}
use Rattle.std.proofs.lemmas.Grind.{common_steps}
use Rattle.al_tree.specs.Leaves.{leaves_of}
use Rattle.al_tree.proofs.Turns.{deeper}
use Rattle.al_parse_expr.specs.Parse.{within, levels}
use Rattle.al_parse_expr.proofs.rules.Rules.+levels.Goals as goal

pub returns-in_err-y-clause-reads : goal.returns-in_err-y-clause-reads
unfolding levels
returns-in_err-y-clause-reads g t c =
    let e = deeper (λ n. levels (leaves_of c.args.self.now.text.now) c.args.self.now.types.now c.args.self.now.turns c.args.self.now.depth (within (leaves_of c.args.self.now.text.now) c.args.self.now.types.now c.args.self.now.turns c.args.self.now.depth) n c.args.at c.args.x c.args.tokens.now) c.args.below (omega arith) in
    first_of (search rules, grind (arith, common_steps))

pub returns-clause-reads : goal.returns-clause-reads
unfolding levels
returns-clause-reads g t c =
    let e = deeper (λ n. levels (leaves_of c.args.self.now.text.now) c.args.self.now.types.now c.args.self.now.turns c.args.self.now.depth (within (leaves_of c.args.self.now.text.now) c.args.self.now.types.now c.args.self.now.turns c.args.self.now.depth) n c.args.at c.args.x c.args.tokens.now) c.args.below (omega arith) in
    first_of (search rules, grind (arith, common_steps))
