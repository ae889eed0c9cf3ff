use Rattle.std.proofs.Common.{◌++◌, map, drop}
use Rattle.al_link_text.specs.Linked.{Alike}
use Rattle.al_link_names.specs.Twice.{name_of}
use Rattle.al_link_names.proofs.doubled.add_all.Given as goal

abbrev pub invariant-loop-d : goal.invariant-loop-d
invariant-loop-d l = Alike (l.names ++ map name_of (drop l.d-index l.list)) (l.fn.names ++ map name_of l.list)
