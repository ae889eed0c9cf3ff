use Rattle.std.proofs.Common.{◌≡◌, drop}
use Rattle.al_host.specs.Outside.{text_under}
use Rattle.al_host.specs.Files.{texts_of}
use Rattle.al_host.proofs.memory_host.place_of.Given as goal

abbrev pub invariant-loop-at : goal.invariant-loop-at
invariant-loop-at l = text_under l.name (texts_of l.files) ≡ text_under l.name (drop l.at (texts_of l.files))
