use Rattle.al_core.specs.Kept.{history_of}
use Rattle.al_core.proofs.Loaning.{was_lent, back_or_over, loan_of_proc}
use Rattle.al_core.proofs.world.World.end_loan.Goals as goal

pub home-requires : goal.home-requires
home-requires c =
    let l = loan_of_proc (history_of c.self.inside) c.args.worker c.args.held.proc (rw (← c.self.view_is) at c.requires.lent) (rw (← c.self.view_is) at c.requires.loan) in
    was_lent _ _ c.self.invariant.stands c.args.worker c.args.held l.0 l.1

pub invariant_of-self : goal.invariant_of-self
invariant_of-self c =
    let l = loan_of_proc (history_of c.self.inside) c.args.worker c.args.held.proc (rw (← c.self.view_is) at c.requires.lent) (rw (← c.self.view_is) at c.requires.loan) in
    record {
      stands = rw (c.home.ensures, c.from.ensures) (back_or_over _ _ c.self.invariant.stands c.args.worker c.args.held l.0 l.1 (rw (← c.self.view_is) at c.requires.back));
      room = c.self.invariant.room;
    }
