use Rattle.al_walk_cases.proofs.Branches.{send_there}
use Rattle.al_walk_cases.proofs.alts.branch_of.Goals as goal

pub returns-in-Send-clause-branch : goal.returns-in-Send-clause-branch
returns-in-Send-clause-branch c =
    send_there c.send_branch.result c.args.p.now c.ty.result.now c.in-Send.chan c.in-Send.value c.args.communication.now c.args.values.now c.in-Send.is c.ty.ensures
    c.send_branch.ensures.branch
