use Rattle.std.proofs.Common.{◌≡◌, ◌++◌, take, map}
use Rattle.std.specs.List.{flat_map}
use Rattle.al_poly.specs.Rules.{misuses_in}
use Rattle.al_poly.proofs.answer.ask_types.Given as goal

abbrev pub invariant-loop-t : goal.invariant-loop-t
invariant-loop-t l = l.misuses ≡ l.fn.misuses ++ flat_map (misuses_in l.names l.owner) (map (λ t. t.now) (take l.t-index l.types))
