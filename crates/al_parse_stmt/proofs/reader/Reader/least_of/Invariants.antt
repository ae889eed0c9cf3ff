use Rattle.std.proofs.Common.{◌≡◌, drop}
use Rattle.al_tree.specs.Leaves.{leaves_of}
use Rattle.al_parse_stmt.specs.Known.{declared_of}
use Rattle.al_parse_stmt.specs.Begun.{begun_as, least_left}
use Rattle.al_parse_stmt.proofs.reader.Reader.least_of.Given as goal

abbrev pub invariant-loop-name : goal.invariant-loop-name
invariant-loop-name l = record {
  value : least_left (λ owner. begun_as (leaves_of l.text) l.self.turns l.self.depth (declared_of l.fn.known) owner l.tokens) l.names l.fn.left ≡ least_left (λ owner. begun_as (leaves_of l.text) l.self.turns l.self.depth (declared_of l.fn.known) owner l.tokens) (drop l.name-index l.names) l.left;
  same : declared_of l.known ≡ declared_of l.fn.known;
}
