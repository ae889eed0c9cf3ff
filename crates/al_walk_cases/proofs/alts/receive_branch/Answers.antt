use Rattle.al_walk_cases.proofs.Branches.{receive_made}
use Rattle.al_walk_cases.proofs.alts.receive_branch.Goals as goal

pub returns-clause-branch : goal.returns-clause-branch
returns-clause-branch c =
    receive_made c.branch_on.result c.args.p.now c.args.ty.now c.first_word-chan.result c.args.values.now c.first_word-chan.ensures.word c.branch_on.ensures
