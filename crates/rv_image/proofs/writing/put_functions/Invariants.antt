use Rattle.std.proofs.Common.{◌≡◌, ◌++◌, take}
use Rattle.std.specs.List.{flat_map}
use Rattle.rv_image.specs.Spelling.{spelled, function_row}
use Rattle.rv_image.proofs.writing.put_functions.Given as goal

abbrev pub invariant-loop-row : goal.invariant-loop-row
invariant-loop-row l = l.out.items ≡ l.initial.out.items ++ spelled (flat_map function_row (take l.row-index l.rows))
