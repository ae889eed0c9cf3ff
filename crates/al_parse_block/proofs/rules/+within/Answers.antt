use Rattle.std.proofs.Common.{◌≡◌, ap, arith}
use Rattle.al_tree.specs.Leaves.{leaves_of}
use Rattle.al_tree.proofs.Turns.{deeper}
use Rattle.al_parse_block.specs.Parse.{within}
use Rattle.al_parse_block.proofs.rules.+within.Goals as goal

pub returns-then-depth-eq0-clause-reads : goal.returns-then-depth-eq0-clause-reads
unfolding within
returns-then-depth-eq0-clause-reads t c _ = let none : c.args.depth ≡ 0 = omega arith in ap (λ n. within (leaves_of c.args.text.now) c.args.types.now c.args.turns n c.args.want c.args.tokens.now) none

pub returns-clause-reads : goal.returns-clause-reads
unfolding within
returns-clause-reads t c = rw (deeper (λ n. within (leaves_of c.args.text.now) c.args.types.now c.args.turns n c.args.want c.args.tokens.now) c.args.depth (omega arith)) c.at_want.ensures.reads
