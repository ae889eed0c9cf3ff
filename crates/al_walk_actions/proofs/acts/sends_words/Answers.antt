use Rattle.std.proofs.Common.{ℕ, List, [], ◌∷◌, ◌∙◌, Some, ap, ap₂, sym}
use Rattle.std.specs.Prelude.{slice_index}
use Rattle.al_event.specs.declared.act.Act.TheVariants as act
use Rattle.al_event.specs.declared.act.Branch.{Branch}
use Rattle.al_meaning.specs.Evaluate.{sending}
use Rattle.al_meaning.specs.Here as step
use Rattle.al_meaning.specs.Items.{Drop}
use Rattle.al_meaning.specs.Places.{words_in}
use Rattle.al_control.specs.Models.{here_of, next_of}
use Rattle.al_control.proofs.Takings.{goes_on, keeps_took}
use Rattle.al_walk_actions.proofs.Onward.{goes}
use Rattle.al_walk_actions.proofs.acts.sends_words.Goals as goal

pub returns-in-Took : goal.returns-in-Took
returns-in-Took c =
    let t = c.args.ty.now in
    let both = c.in-Took.both in
    let branch : ℕ → ℕ → Branch = λ chan words. record { chan = chan; words = words; send = Some both.1 } in
    let kept = keeps_took c.args.h.program.now _ both c.in-Took.h c.in-Took.is c.in_ok-next.ensures.keeps in
    goes_on c.talks.result _ both c.in-Took.h _ _
    (c.in_ok-next.ensures.taken (λ (chan ws : List ℕ) (h : step.Here). step.asks h (act.Talk (sending h.program t (slice_index chan 0) ws ∷ [])) (Drop ∷ [])))
    c.in-Took.is
    (goes c.talks.result next_of _ _
    (ap₂ (λ (chan words : ℕ). step.asks (here_of c.in-Took.h) (act.Talk (branch chan words ∷ [])) (Drop ∷ []))
    (c.split_word-cut.ensures.word ∙ ap (λ (l : List ℕ). slice_index l 0) c.as_slice.ensures.value)
    (c.requires ∙ ap (λ p. words_in p t) (sym kept)))
    c.talks.ensures)
