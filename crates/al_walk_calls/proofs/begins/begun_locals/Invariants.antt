use Rattle.std.proofs.Common.{◌≡◌, ◌++◌, ◌-◌, drop}
use Rattle.al_meaning.specs.Calls.{begun_locals}
use Rattle.al_walk_calls.proofs.begins.begun_locals.Given as goal

abbrev pub invariant-loop-i : goal.invariant-loop-i
invariant-loop-i l = l.begun ++ begun_locals l.p (l.parameters - l.i) (drop l.i l.locals) l.rest ≡ begun_locals l.p l.parameters l.locals l.words
