use Rattle.std.proofs.Common.{◌≡◌, ◌++◌, drop}
use Rattle.al_initial.specs.Whole.{globals_from}
use Rattle.al_initial.proofs.globals.globals.Given as goal

abbrev pub invariant-loop-k : goal.invariant-loop-k
invariant-loop-k l =
    globals_from l.env l.tree l.starts 0 l.env.globals ≡ l.globals ++ globals_from l.env l.tree l.starts l.k (drop l.k l.env.globals)
