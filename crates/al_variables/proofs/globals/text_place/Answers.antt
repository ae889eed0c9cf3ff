use Rattle.std.proofs.Common.{◌≡◌, min, length, arith}
use Rattle.al_variables.proofs.Placements.{texts_cut}
use Rattle.al_variables.proofs.globals.text_place.Goals as goal

pub returns : goal.returns
returns c =
    let cut : c.min.result ≡ min c.args.number (length c.as_slice-texts.result.now) = omega (arith, c.min.ensures) in
    texts_cut c.args.p.now c.as_slice-texts.result.now _ c.args.number c.min.result c.loop-text.text-index c.loop-text.at c.as_slice-texts.ensures.value cut (grind arith)
    c.loop-text-test.false c.loop-text.invariant
