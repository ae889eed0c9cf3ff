-- How many borders of loops, and of switches and alts, an item is.
use Rattle.std.specs.Prelude.{ℕ}
use Rattle.al_meaning.specs.Items.{Work}
use Rattle.al_meaning.specs.Parts.{Border, Inside, LoopEnd, BodyEnd, border}

abbrev pub bodies_ended : Border → ℕ
bodies_ended Inside = 0
bodies_ended LoopEnd = 1
bodies_ended BodyEnd = 1

abbrev pub loops_ended : Border → ℕ
loops_ended Inside = 0
loops_ended LoopEnd = 1
loops_ended BodyEnd = 0

-- those that end with a work
abbrev pub bodies_at : Work → ℕ
bodies_at w = bodies_ended (border w)

abbrev pub loops_at : Work → ℕ
loops_at w = loops_ended (border w)
