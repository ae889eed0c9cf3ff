use Rattle.std.proofs.Common.{◌<◌, ℕ, map}
use Rattle.al_meaning.specs.Evaluate as spec
use Rattle.al_meaning.specs.Here as step
use Rattle.al_control.specs.Models.{argument_of, here_of}
use Rattle.al_control.proofs.Takings.{goes_on}
use Rattle.al_control.specs.declared.take.Taken.{Taken}
use Rattle.al_control.specs.Takes.{taken_by}
use Rattle.std.proofs.Common.{◌∙◌, ap}
use Rattle.al_walk_actions.specs.Fits.{ByteFits}
use Rattle.al_walk_actions.proofs.Onward.{explained}
use Rattle.al_walk_actions.proofs.Scans.{byte_found}
use Rattle.al_walk_actions.proofs.print.scanned.Goals as goal

pub returns-clause-next : goal.returns-clause-next
returns-clause-next c =
    goes_on c.scanned_word.result _ c.in-Took.byte c.in-Took.h _ _
    (c.in_ok-next.ensures.taken (λ (b : ℕ) (h : step.Here). spec.scanned b c.args.at c.args.pieces.now (map argument_of c.args.arguments) c.args.text h))
    c.in-Took.is c.scanned_word.ensures.next

pub returns-clause-why : goal.returns-clause-why
returns-clause-why c =
    let h = here_of c.args.h in
    explained c.scanned_word.result (c.in-Took.byte < 256) (ByteFits h.frame.found)
    (byte_found h.frame.found h (here_of c.in-Took.h) c.in-Took.byte
    (λ (k : ℕ → step.Here → step.Next). c.in_ok-next.ensures.taken k ∙ ap (λ (t : Taken ℕ). taken_by t k) c.in-Took.is))
    c.scanned_word.ensures.why
