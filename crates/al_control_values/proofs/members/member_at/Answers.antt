use Rattle.std.proofs.Common.{◌≡◌, ◌+◌, get_or, refl, arith}
use Rattle.al_typed.specs.Capped.{capped}
use Rattle.al_control_values.proofs.Paths.{way_breaks, way_goes_on, way_ends}
use Rattle.al_control_values.proofs.members.member_at.Goals as goal

pub returns-in-None : goal.returns-in-None
returns-in-None c =
    way_breaks c.args.rows.now c.args.path.now c.args.ty.now c.loop-number.number-index (get_or c.args.path.now c.loop-number.number-index 0) 0 c.loop-number.reached.now
    c.loop-number.at c.loop-number.invariant c.loop-number-test.true refl c.in-None.ensures

pub loop-number-preserved : goal.loop-number-preserved
loop-number-preserved c =
    let moved : c.saturating_add-at.result ≡ capped (c.loop-number.at + c.in-Some.next.at) = omega (arith, c.saturating_add-at.ensures) in
    way_goes_on c.args.rows.now c.args.path.now c.args.ty.now c.loop-number.number-index (get_or c.args.path.now c.loop-number.number-index 0) 0
    c.loop-number.reached.now c.loop-number.at c.saturating_add-at.result c.in-Some.next c.loop-number.invariant c.loop-number-test.true refl c.in-Some.ensures moved

pub returns : goal.returns
returns c =
    way_ends c.args.rows.now c.args.path.now c.args.ty.now c.loop-number.number-index c.loop-number.reached.now c.loop-number.at
    (record { ty = c.loop-number.reached; at = c.loop-number.at }) c.loop-number.invariant c.loop-number-test.false refl refl
