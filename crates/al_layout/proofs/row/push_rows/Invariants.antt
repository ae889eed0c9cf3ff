use Rattle.std.proofs.Common.{◌≡◌, drop}
use Rattle.al_typed.specs.Layout.{IsLaidOut}
use Rattle.al_layout.specs.Rows.{with_rows}
use Rattle.al_layout.proofs.row.push_rows.Given as goal

abbrev pub invariant-loop-k : goal.invariant-loop-k
invariant-loop-k l =
    (with_rows l.forms l.numbers l.fn.rows l.order ≡ with_rows l.forms l.numbers l.rows (drop l.k-index l.order))
    × IsLaidOut l.rows
