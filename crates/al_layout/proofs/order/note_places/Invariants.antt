use Rattle.std.proofs.Common.{◌≡◌, drop}
use Rattle.al_layout.specs.Order.{places}
use Rattle.al_layout.proofs.order.note_places.Given as goal

abbrev pub invariant-loop-place : goal.invariant-loop-place
invariant-loop-place l = places 0 l.order l.fn.numbers ≡ places l.place (drop l.place l.order) l.numbers
