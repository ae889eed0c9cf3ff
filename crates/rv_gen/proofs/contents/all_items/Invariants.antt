use Rattle.std.proofs.Common.{◌≡◌, ◌++◌, drop}
use Rattle.rv_form.specs.Program.{items_from}
use Rattle.rv_gen.proofs.contents.all_items.Given as goal

abbrev pub invariant-loop-number : goal.invariant-loop-number
invariant-loop-number l = l.items ++ items_from l.number (drop l.number l.globals) ≡ items_from 0 l.globals
