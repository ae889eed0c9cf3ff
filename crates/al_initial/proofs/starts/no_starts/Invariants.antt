use Rattle.std.proofs.Common.{◌≡◌, take, map}
use Rattle.al_initial.specs.Whole.{no_start}
use Rattle.al_initial.proofs.starts.no_starts.Given as goal

abbrev pub invariant-loop-global : goal.invariant-loop-global
invariant-loop-global l = l.starts ≡ map no_start (take l._global-index l.globals)
