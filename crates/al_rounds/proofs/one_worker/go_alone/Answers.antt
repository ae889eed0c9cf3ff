use Rattle.al_core.specs.History.{over_of}
use Rattle.al_rounds.proofs.Later.{later_on, loans_on, still_none, not_over, lent_later, lent_loans, lent_live}
use Rattle.al_rounds.proofs.one_worker.go_alone.Goals as goal

pub go_on-requires-clause-live : goal.go_on-requires-clause-live
go_on-requires-clause-live g c κs within =
    lent_live 0 c.in-Held.held.proc c.loop-held.world c.pick.new.self c.in-Held.ensures.lent
    (not_over (over_of c.loop-held.world) _ (λ e. cc) c.in-Held.ensures.over)

pub loop-held-preserved : goal.loop-held-preserved
loop-held-preserved g c = record {
  later =
      later_on 0 c.args.world.now c.loop-held.world c.go_on.new.world c.loop-held.invariant.later
      (later_on 0 c.loop-held.world c.pick.new.self c.go_on.new.world (lent_later 0 c.in-Held.held.proc c.loop-held.world c.pick.new.self c.in-Held.ensures.lent) c.go_on.ensures.later);
  here =
      still_none c.loop-held.world c.go_on.new.world c.loop-held.invariant.here c.in_ok-made.ensures.idle
      (loans_on 0 c.loop-held.world c.pick.new.self c.go_on.new.world (lent_loans 0 c.in-Held.held.proc c.loop-held.world c.pick.new.self c.in-Held.ensures.lent) c.go_on.ensures.others);
}

pub returns-in_err-made-clause-later : goal.returns-in_err-made-clause-later
returns-in_err-made-clause-later g c =
    later_on 0 c.args.world.now c.loop-held.world c.go_on.new.world c.loop-held.invariant.later
    (later_on 0 c.loop-held.world c.pick.new.self c.go_on.new.world (lent_later 0 c.in-Held.held.proc c.loop-held.world c.pick.new.self c.in-Held.ensures.lent) c.go_on.ensures.later)
