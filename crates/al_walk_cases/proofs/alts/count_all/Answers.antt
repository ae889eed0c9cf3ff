use Rattle.std.proofs.Common.{◌∙◌, ◌+◌, ℕ, ap, arith, drop, length}
use Rattle.al_meaning.specs.Evaluate.{alt_exprs}
use Rattle.al_walk_cases.specs.CaseLists.{communications_in}
use Rattle.al_walk_cases.proofs.Branches.{count_more, count_past}
use Rattle.al_walk_cases.proofs.alts.count_all.Goals as goal

pub returns-in-None : goal.returns-in-None
returns-in-None c =
    λ fits.
    c.in-None.ensures
    (omega (
      arith,
      fits,
      count_more c.args.body.now c.loop-s.s-index c.s-item.result c.loop-s.count c.count_in.result (length (alt_exprs (communications_in c.args.body.now)))
          c.loop-s-test.true c.s-item.is c.count_in.ensures c.loop-s.invariant,
    ))

pub loop-s-preserved : goal.loop-s-preserved
loop-s-preserved c =
    ap (λ (n : ℕ). n + length (alt_exprs (communications_in (drop (c.loop-s.s-index + 1) c.args.body.now)))) c.in-Some.ensures.1
    ∙ count_more c.args.body.now c.loop-s.s-index c.s-item.result c.loop-s.count c.count_in.result (length (alt_exprs (communications_in c.args.body.now)))
    c.loop-s-test.true c.s-item.is c.count_in.ensures c.loop-s.invariant

pub returns : goal.returns
returns c =
    count_past c.args.body.now c.loop-s.s-index c.loop-s.count (length (alt_exprs (communications_in c.args.body.now))) c.loop-s-test.false c.loop-s.invariant
