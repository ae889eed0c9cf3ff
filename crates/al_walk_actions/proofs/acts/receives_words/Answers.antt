use Rattle.std.proofs.Common.{ℕ, [], ◌∷◌, ◌∙◌, None, ap, sym}
use Rattle.al_event.specs.declared.act.Act.TheVariants as act
use Rattle.al_event.specs.declared.act.Branch.{Branch}
use Rattle.al_meaning.specs.Evaluate.{receiving}
use Rattle.al_meaning.specs.Here as step
use Rattle.al_meaning.specs.Items.{Received}
use Rattle.al_meaning.specs.Places.{words_in}
use Rattle.al_control.specs.Models.{here_of, next_of}
use Rattle.al_control.proofs.Takings.{goes_on, keeps_took}
use Rattle.al_walk_actions.proofs.Onward.{goes}
use Rattle.al_walk_actions.proofs.acts.receives_words.Goals as goal

pub returns-in-Took : goal.returns-in-Took
returns-in-Took c =
    let t = c.args.ty.now in
    let branch : ℕ → Branch = λ words. record { chan = c.in-Took.chan; words = words; send = None } in
    let kept = keeps_took c.args.h.program.now _ c.in-Took.chan c.in-Took.h c.in-Took.is c.in_ok-next.ensures.keeps in
    goes_on c.talks.result _ c.in-Took.chan c.in-Took.h _ _
    (c.in_ok-next.ensures.taken (λ (n : ℕ) (h : step.Here). step.asks h (act.Talk (receiving h.program t n ∷ [])) (Received t ∷ [])))
    c.in-Took.is
    (goes c.talks.result next_of _ _
    (ap (λ (n : ℕ). step.asks (here_of c.in-Took.h) (act.Talk (branch n ∷ [])) (Received t ∷ [])) (c.requires ∙ ap (λ p. words_in p t) (sym kept)))
    c.talks.ensures)
