use Rattle.std.proofs.Common.{◌≡◌, take, map}
use Rattle.al_typed.specs.Capped.{capped}
use Rattle.al_typed.specs.Measures.{function_slots}
use Rattle.al_step.proofs.slots.slots_of.Given as goal

abbrev pub invariant-loop-f : goal.invariant-loop-f
invariant-loop-f l = l.slots ≡ map (λ f. capped (function_slots l.p f)) (take l.f-index l.p.functions)
