use Rattle.std.proofs.Common.{false}
use Rattle.al_typed.specs.Measures.{place_pieces}
use Rattle.al_typed.proofs.Steps.{tallied-nil, tallied_more}
use Rattle.al_typed.proofs.count_statement.locations.Goals as goal

pub loop-place-init : goal.loop-place-init
loop-place-init c = tallied-nil c.args.p.now c.args.tally.now

pub loop-place-preserved : goal.loop-place-preserved
loop-place-preserved c =
    tallied_more c.args.p.now c.args.tally.now c.loop-place.tally c.location.new.tally (place_pieces false) c.args.places.now c.loop-place.place-index
    c.place-item.result c.loop-place-test.true c.place-item.is c.loop-place.invariant c.location.ensures
