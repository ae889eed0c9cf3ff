use Rattle.std.proofs.Common.{◌≡◌, take, map}
use Rattle.al_type_function.specs.Texts.{bytes_in}
use Rattle.al_type_function.proofs.texts.text_bytes.Given as goal

abbrev pub invariant-loop-t : goal.invariant-loop-t
invariant-loop-t l = l.list ≡ map bytes_in (take l.t-index l.texts)
