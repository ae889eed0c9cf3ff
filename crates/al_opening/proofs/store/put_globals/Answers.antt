use Rattle.std.proofs.Common.{◌≡◌, true, false, ◌∙◌, rules}
use Rattle.al_opening.specs.Opening.{global_blocks}
use Rattle.al_opening.proofs.Placed.{one_more, blocks_none, next, all_done, as_placed, as_full}
use Rattle.al_opening.proofs.store.put_globals.Goals as goal

pub returns-then-not-placed-clause-placed : goal.returns-then-not-placed-clause-placed
returns-then-not-placed-clause-placed c =
    let no : c.in_ok-placed.placed ≡ false = search rules in
    λ rest.
    next (global_blocks c.args.p.now) (one_more c.args.p.now) _ _ c.args.globals.now c.loop-global.global-index c.global-item.result _ _ _ c.in_ok-placed.placed c.loop-global.invariant.region c.loop-global-test.true c.global-item.is c.loop-global.invariant.placed c.in_ok-placed.ensures.placed rest
    ∙ as_full _ no _ _ _

pub loop-global-preserved : goal.loop-global-preserved
loop-global-preserved c =
    let yes : c.in_ok-placed.placed ≡ true = search rules in
    record {
      region = c.in_ok-placed.ensures.region ∙ c.loop-global.invariant.region;
      placed = λ rest.
          next (global_blocks c.args.p.now) (one_more c.args.p.now) _ _ c.args.globals.now c.loop-global.global-index c.global-item.result _ _ _ c.in_ok-placed.placed c.loop-global.invariant.region c.loop-global-test.true c.global-item.is c.loop-global.invariant.placed c.in_ok-placed.ensures.placed rest
          ∙ as_placed _ yes _ _ _;
    }

pub returns-clause-placed : goal.returns-clause-placed
returns-clause-placed c = all_done (global_blocks c.args.p.now) (blocks_none c.args.p.now) _ c.args.globals.now c.loop-global.global-index _ _ c.loop-global-test.false c.loop-global.invariant.placed
