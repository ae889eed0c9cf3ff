use Rattle.std.proofs.Common.{◌≡◌, min, length, arith}
use Rattle.al_variables.proofs.Placements.{globals_cut}
use Rattle.al_variables.proofs.globals.global_place.Goals as goal

pub returns : goal.returns
returns c =
    let cut : c.min.result ≡ min c.args.number (length c.as_slice-globals.result.now) = omega (arith, c.min.ensures) in
    globals_cut c.args.p.now c.as_slice-rows.result.now c.as_slice-globals.result.now _ c.args.number c.min.result c.loop-global.global-index c.loop-global.at
    c.as_slice-rows.ensures.value c.as_slice-globals.ensures.value cut (grind arith) c.loop-global-test.false c.loop-global.invariant
