use Rattle.std.proofs.Common.{◌≡◌, ◌-◌, ◌+◌, ◌≤◌, []}
use Rattle.al_tree.specs.Leaves.{leaves_of}
use Rattle.al_tree.specs.Items.{nothing_declared}
use Rattle.al_parse_stmt.specs.Known.{declared_of}
use Rattle.al_parse_stmt.specs.Parse.{items_from}
use Rattle.al_parse_stmt.proofs.reader.Reader.text_items.Given as goal

abbrev pub invariant-loop-turn : goal.invariant-loop-turn
invariant-loop-turn l = record { reads : items_from (leaves_of l.text) l.self.turns l.self.depth l.self.turns nothing_declared [] 0 l.fn.tokens ≡ items_from (leaves_of l.text) l.self.turns l.self.depth (l._turn-end - l._turn) (declared_of l.known) l.found l.height l.tokens; low : l.height ≤ l.self.depth + 1 }
