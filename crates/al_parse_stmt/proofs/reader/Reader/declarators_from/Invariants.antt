use Rattle.std.proofs.Common.{◌≡◌, ◌-◌, ◌≤◌}
use Rattle.al_tree.specs.Leaves.{leaves_of}
use Rattle.al_parse_stmt.specs.Known.{declared_of}
use Rattle.al_parse_stmt.specs.Heads.{declarators_from}
use Rattle.al_parse_stmt.proofs.reader.Reader.declarators_from.Given as goal

abbrev pub invariant-loop-turn : goal.invariant-loop-turn
invariant-loop-turn l = record { reads : declarators_from (leaves_of l.text) l.self.turns l.self.depth (declared_of l.fn.known) l.self.turns l.fn.found l.fn.height l.fn.tokens ≡ declarators_from (leaves_of l.text) l.self.turns l.self.depth (declared_of l.known) (l._turn-end - l._turn) l.found l.height l.tokens; low : l.height ≤ l.self.depth; same : declared_of l.known ≡ declared_of l.fn.known }
