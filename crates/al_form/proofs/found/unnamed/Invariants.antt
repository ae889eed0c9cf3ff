use Rattle.std.proofs.Common.{◌≡◌, take, map, None}
use Rattle.al_form.proofs.found.unnamed.Given as goal

abbrev pub invariant-loop-name : goal.invariant-loop-name
invariant-loop-name l = l.named ≡ map (λ _. None) (take l._name-index l.names)
