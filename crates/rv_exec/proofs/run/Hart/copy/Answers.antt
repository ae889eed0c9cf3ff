use Rattle.rv_exec.proofs.Copies.{can_go_on}
use Rattle.rv_exec.proofs.run.Hart.copy.Goals as goal

pub returns-clause-takes : goal.returns-clause-takes
returns-clause-takes c =
    let e = c.in_ok-state.ensures in
    λ words can. can_go_on c.args.self.now.state c.in_ok-state.state words e.seen e.pc e.waits e.stack can
