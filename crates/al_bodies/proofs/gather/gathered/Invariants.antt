use Rattle.std.proofs.Common.{◌≡◌, drop, reverse}
use Rattle.al_bodies.specs.Gathering.{none, gathered}
use Rattle.al_bodies.proofs.gather.gathered.Given as goal

abbrev pub invariant-loop-k : goal.invariant-loop-k
invariant-loop-k l =
    gathered l.env l.tree.names l.tree.items l.texts 0 l.defined l.fn.numbers none
    ≡ gathered l.env l.tree.names l.tree.items l.texts l.k (drop l.k l.defined) (reverse l.rest) l.found
