use Rattle.std.proofs.Common.{◌<◌, sym, subst, ◌∙◌, arith}
use Rattle.al_core.proofs.Prepared.{talk_goes, talk_waits, talk_bad, bad_range, past_range, positive_of}
use Rattle.al_core.proofs.machinery.Machinery.prepare_talk.Goals.{in_default-via-in-Ok-2+then-count-eq0+else-pick-eq0, in_default-via-in-Ok-2+else-count-eq0, in_default-via-in-Err+else-pick-eq0-2}
use Rattle.al_core.proofs.machinery.Machinery.prepare_talk.Goals as goal

pub returns-in-Ok-clause-prepared : goal.returns-in-Ok-clause-prepared
returns-in-Ok-clause-prepared c =
    λ image. rw (← c.self.view_is) (talk_goes image _ c.args.branches.now c.args.pick c.in-Ok.ensures.ok (subst (λ k. c.args.pick < k) c.in-Ok.ensures.count (subst (λ k. k < c.in-Ok.count) c.from.ensures c.if-from-count.true)))

pub returns-in-Ok-2-clause-prepared : goal.returns-in-Ok-2-clause-prepared
returns-in-Ok-2-clause-prepared c =
    λ image. rw (← c.self.view_is) (talk_waits image _ c.args.branches.now c.args.pick c.if-pick-eq0.true c.in-Ok.ensures.ok (sym c.in-Ok.ensures.count ∙ c.if-count-eq0.true))

pub returns-in-Err-clause-prepared : goal.returns-in-Err-clause-prepared
returns-in-Err-clause-prepared c =
    λ image. rw (← c.self.view_is) (talk_bad image _ c.args.branches.now c.args.pick c.if-pick-eq0-2.true c.in-Err.ensures.err.1)

pub returns-in_default-clause-range : goal.returns-in_default-clause-range
returns-in_default-clause-range c =
    elim c.in_default.branch [
      | in_default-via-in-Ok-2+then-count-eq0+else-pick-eq0 w ↦
          let a = w.in-Ok.ensures.count in
          let b = w.if-from-count.false in
          let d = w.from.ensures in
          rw (← c.self.view_is) (past_range _ c.args.branches.now c.args.pick (positive_of c.args.pick w.if-pick-eq0.false) w.in-Ok.ensures.ok (omega (arith, a, b, d)))
      | in_default-via-in-Ok-2+else-count-eq0 w ↦
          let a = w.in-Ok.ensures.count in
          let b = w.if-from-count.false in
          let d = w.from.ensures in
          let p = positive_of w.in-Ok.count w.if-count-eq0.false in
          rw (← c.self.view_is) (past_range _ c.args.branches.now c.args.pick (omega (arith, b, d, p)) w.in-Ok.ensures.ok (omega (arith, a, b, d)))
      | in_default-via-in-Err+else-pick-eq0-2 w ↦ rw (← c.self.view_is) (bad_range _ c.args.branches.now c.args.pick (positive_of c.args.pick w.if-pick-eq0-2.false) w.in-Err.ensures.err.1)
    ]
