use Rattle.std.proofs.Common.{◌≡◌, ℕ, List, IfErr, IfOk, drop, subst}
use Rattle.std.specs.Prelude.{slice_get, slice_index}
use Rattle.al_typed.specs.declared.program.Program.{Program}
use Rattle.al_meaning.specs.Evaluate.{goes_into}
use Rattle.al_meaning.specs.Execute.{cases_of}
use Rattle.al_meaning.specs.Here as step
use Rattle.al_control.specs.Fits.{Explains}
use Rattle.al_control.specs.Models.{here_of, next_of}
use Rattle.al_control.proofs.Takings.{goes_on, keeps_took}
use Rattle.al_walk_cases.specs.Fits.{CasesFit}
use Rattle.al_walk_cases.proofs.alts.alt_went.Goals as goal

pub returns-in-Took-clause-next : goal.returns-in-Took-clause-next
returns-in-Took-clause-next c =
    goes_on c.went_with.result _ c.in-Took.answer c.in-Took.h _ _ (c.in_ok-next.ensures.taken (λ (answer : List ℕ) (h : step.Here). goes_into h (slice_get (cases_of c.args.s.now) (slice_index answer 0)) (drop 1 answer))) c.in-Took.is
    (subst (λ (ws : List ℕ). IfOk c.went_with.result (λ n. next_of n ≡ goes_into (here_of c.in-Took.h) (slice_get (cases_of c.args.s.now) (slice_index ws 0)) (drop 1 ws))) c.as_slice.ensures.value
    c.went_with.ensures.next)

pub returns-in-Took-clause-why : goal.returns-in-Took-clause-why
returns-in-Took-clause-why c =
    subst (λ (p : Program). IfErr c.went_with.result (λ e. Explains e (CasesFit p c.args.s.now)))
    (keeps_took _ _ _ _ c.in-Took.is c.in_ok-next.ensures.keeps) c.went_with.ensures.why
