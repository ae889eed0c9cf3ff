use Rattle.std.proofs.Common.{◌≡◌, take, map}
use Rattle.al_initial.specs.Whole.{bytes_in}
use Rattle.al_initial.proofs.texts.all_bytes.Given as goal

abbrev pub invariant-loop-text : goal.invariant-loop-text
invariant-loop-text l = l.all ≡ map bytes_in (take l.text-index l.texts)
