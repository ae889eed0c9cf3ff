use Rattle.std.proofs.Common.{◌≡◌, ◌++◌, drop, map}
use Rattle.rv_form.specs.Program.{item_of}
use Rattle.rv_gen.proofs.contents.add_items.Given as goal

abbrev pub invariant-loop-item : goal.invariant-loop-item
invariant-loop-item l =
    l.items ++ map (item_of l.number) (drop l.item-index l.start) ≡ l.fn.items ++ map (item_of l.number) l.start
