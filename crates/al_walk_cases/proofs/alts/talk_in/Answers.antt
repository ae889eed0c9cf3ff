use Rattle.std.proofs.Common.{ℕ, [], ◌∷◌, ap}
use Rattle.al_event.specs.declared.act.Act.TheVariants as act
use Rattle.al_meaning.specs.Evaluate.{alt_branches}
use Rattle.al_meaning.specs.Here as step
use Rattle.al_meaning.specs.Items as item
use Rattle.al_control.specs.Models.{here_of}
use Rattle.al_walk_cases.specs.CaseLists.{communications_in}
use Rattle.al_walk_loops.proofs.Goings.{goes_same}
use Rattle.al_walk_cases.proofs.Explanations.{why_else}
use Rattle.al_walk_cases.proofs.alts.talk_in.Goals as goal

pub returns-clause-next : goal.returns-clause-next
returns-clause-next c =
    goes_same c.talk_with.result _ _
    (ap (λ (count : ℕ). step.with_values count (here_of c.args.h) (λ values h. step.asks h (act.Talk (alt_branches h.program (communications_in c.args.body.now) values)) (item.AltWent c.args.s.now ∷ [])))
    c.in-Some.ensures)
    c.talk_with.ensures.next

pub returns-clause-why : goal.returns-clause-why
returns-clause-why c = why_else c.talk_with.result _ _ (λ fit. fit.0) c.talk_with.ensures.why

pub returns-in-None-clause-why : goal.returns-in-None-clause-why
returns-in-None-clause-why c = λ fit. c.in-None.ensures fit.1
