use Rattle.std.proofs.Common.{rules, ◌≡◌, ℕ, List, [], ◌∷◌, ◌++◌, Some, length, false, IfErr, subst}
use Rattle.al_meaning.specs.Here as step
use Rattle.al_meaning.specs.Items as item
use Rattle.al_meaning.specs.Evaluate.{read_place}
use Rattle.al_typed.specs.declared.program.Program.{Program}
use Rattle.al_control_values.specs.Fits.{IsSmall}
use Rattle.al_control.specs.Fits.{Explains}
use Rattle.al_control.proofs.Takings.{goes_on, keeps_took}
use Rattle.al_walk_places.proofs.storage.read.Goals as goal

pub returns-in-Took-clause-next : goal.returns-in-Took-clause-next
returns-in-Took-clause-next c =
    goes_on c.read_place.result _ c.in-Took.found c.in-Took.h _ _ (c.in_ok-next.ensures.taken (λ (f : item.Found) (h : step.Here). read_place c.args.ty.now f h)) c.in-Took.is c.read_place.ensures.next

pub returns-in-Took-clause-why : goal.returns-in-Took-clause-why
returns-in-Took-clause-why c =
    subst (λ (p : Program). IfErr c.read_place.result (λ e. Explains e (IsSmall p c.args.ty.now))) (keeps_took _ _ _ _ c.in-Took.is c.in_ok-next.ensures.keeps)
    c.read_place.ensures.why
