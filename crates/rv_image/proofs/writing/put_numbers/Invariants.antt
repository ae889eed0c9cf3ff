use Rattle.std.proofs.Common.{◌≡◌, ◌++◌, take}
use Rattle.rv_image.specs.Spelling.{spelled}
use Rattle.rv_image.proofs.writing.put_numbers.Given as goal

abbrev pub invariant-loop-number : goal.invariant-loop-number
invariant-loop-number l = l.out.items ≡ l.initial.out.items ++ spelled (take l.number-index l.numbers)
