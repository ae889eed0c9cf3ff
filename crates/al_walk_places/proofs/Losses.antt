-- What is wanted was not found.
use Rattle.std.proofs.Common.{◌≡◌, sym, ap, ◌∙◌}
use Rattle.al_meaning.specs.Here as step
use Rattle.al_control.specs.declared.control.Next.{Next}
use Rattle.al_control.specs.declared.take.Taken.{Taken}
use Rattle.al_control.specs.declared.take.Taken.TheVariants.{Lost}
use Rattle.al_control.specs.Models.{next_of}
use Rattle.al_control.specs.Takes.{taken_by}

pub stays_lost : {T : Type 0} (t : Taken T) (n : Next) (s : step.Next) (k : T → step.Here → step.Next) → s ≡ taken_by t k → t ≡ Lost n → next_of n ≡ s
stays_lost t n s k e is = sym (e ∙ ap (λ t. taken_by t k) is)
