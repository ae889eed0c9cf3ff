use Rattle.std.proofs.Common.{◌+◌, drop, ap, ◌∙◌, sym}
use Rattle.al_layout.specs.Order.{places}
use Rattle.al_layout.proofs.RoundsAre.{places-from}
use Rattle.al_layout.proofs.order.note_places.Goals as goal

pub loop-place-preserved : goal.loop-place-preserved
loop-place-preserved c =
    c.loop-place.invariant
    ∙ places-from c.args.order.now c.loop-place.place c.loop-place.numbers c.loop-place-test.true
    ∙ ap (places (c.loop-place.place + 1) (drop (c.loop-place.place + 1) c.args.order.now)) (sym c.note.ensures)
