use Rattle.std.proofs.Common.{ℕ, List, [], ◌∷◌, IfErr, subst}
use Rattle.std.specs.Prelude.{All}
use Rattle.al_event.specs.declared.act.Act.TheVariants as act
use Rattle.al_typed.specs.declared.program.Program.{Program}
use Rattle.al_meaning.specs.Evaluate.{alt_branches}
use Rattle.al_meaning.specs.Here as step
use Rattle.al_meaning.specs.Items as item
use Rattle.al_control.specs.Fits.{Explains}
use Rattle.al_control.proofs.Takings.{goes_on, keeps_took}
use Rattle.al_walk_cases.specs.CaseLists.{communications_in}
use Rattle.al_walk_cases.specs.Fits.{TalkFits}
use Rattle.al_walk_cases.proofs.alts.talk_with.Goals as goal

pub returns-in-Took-clause-next : goal.returns-in-Took-clause-next
returns-in-Took-clause-next c =
    goes_on c.talks.result _ c.in-Took.values c.in-Took.h _ _ (c.in_ok-next.ensures.taken (λ (values : List (List ℕ)) (h : step.Here). step.asks h (act.Talk (alt_branches h.program (communications_in c.args.body.now) values)) (item.AltWent c.args.s.now ∷ []))) c.in-Took.is c.talks.ensures.next

pub returns-in-Took-clause-why : goal.returns-in-Took-clause-why
returns-in-Took-clause-why c =
    subst (λ (p : Program). IfErr c.talks.result (λ e. Explains e (All (TalkFits p) (communications_in c.args.body.now))))
    (keeps_took _ _ _ _ c.in-Took.is c.in_ok-next.ensures.keeps) c.talks.ensures.why
