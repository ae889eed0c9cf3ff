use Rattle.std.proofs.Common.{◌≡◌, drop}
use Rattle.al_tree.specs.Leaves.{leaves_of}
use Rattle.al_parse_stmt.specs.Known.{declared_of}
use Rattle.al_parse_stmt.specs.Begun.{alive, some_alive}
use Rattle.al_parse_stmt.proofs.reader.Reader.some_alive.Given as goal

abbrev pub invariant-loop-name : goal.invariant-loop-name
invariant-loop-name l = record {
  value : some_alive (alive (leaves_of l.text) l.self.turns l.self.depth (declared_of l.fn.known) l.tokens l.left) l.names ≡ some_alive (alive (leaves_of l.text) l.self.turns l.self.depth (declared_of l.fn.known) l.tokens l.left) (drop l.name-index l.names);
  same : declared_of l.known ≡ declared_of l.fn.known;
}
