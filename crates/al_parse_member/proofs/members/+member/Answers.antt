use Rattle.std.proofs.Common.{◌≡◌, ap, arith}
use Rattle.al_tree.specs.Leaves.{leaves_of}
use Rattle.al_tree.proofs.Turns.{deeper}
use Rattle.al_parse_member.specs.Members.{member}
use Rattle.al_parse_member.proofs.members.+member.Goals as goal

pub returns-then-depth-eq0-clause-reads : goal.returns-then-depth-eq0-clause-reads
unfolding member
returns-then-depth-eq0-clause-reads t c _ = let none : c.args.depth ≡ 0 = omega arith in ap (λ n. member (leaves_of c.args.text.now) c.args.types.now c.args.turns n c.args.tokens.now) none

pub returns-clause-reads : goal.returns-clause-reads
unfolding member
returns-clause-reads t c = rw (deeper (λ n. member (leaves_of c.args.text.now) c.args.types.now c.args.turns n c.args.tokens.now) c.args.depth (omega arith)) c.member_at.ensures.reads
