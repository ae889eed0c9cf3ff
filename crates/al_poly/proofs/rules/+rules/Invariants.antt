use Rattle.std.proofs.Common.{◌≡◌, ◌++◌, take}
use Rattle.std.specs.List.{flat_map}
use Rattle.al_poly.specs.Rules.{misuses_in}
use Rattle.al_poly.proofs.rules.+rules.Given as goal

abbrev pub invariant-ask_all-loop-t : goal.invariant-ask_all-loop-t
invariant-ask_all-loop-t l = l.misuses ≡ l.fn.misuses ++ flat_map (misuses_in l.names l.owner) (take l.t-index l.list)
