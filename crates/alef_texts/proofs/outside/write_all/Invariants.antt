use Rattle.std.proofs.Common.{◌≡◌, ◌≤◌, length}
use Rattle.al_host.specs.Outside.{WhereTold}
use Rattle.alef_texts.proofs.Told.{Getting}
use Rattle.alef_texts.proofs.outside.write_all.Given as goal

abbrev pub invariant-loop : goal.invariant-loop
invariant-loop g l =
    (l.done ≤ length l.piece) × (l.counter ≤ l.done)
    × (g.S.Sink.faults l.sink ≡ g.S.Sink.faults l.initial.sink)
    × WhereTold (Getting l.done l.piece) (g.S.Sink.got l.initial.sink) (g.S.Sink.got l.sink)
