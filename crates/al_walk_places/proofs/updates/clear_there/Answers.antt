use Rattle.std.proofs.Common.{◌≡◌, ◌∙◌, ℕ, List, IfOk, sym, ap, subst}
use Rattle.al_typed.specs.declared.program.Program.{Program}
use Rattle.al_control.specs.Models.{found_of, here_of, next_of}
use Rattle.al_meaning.specs.Here as step
use Rattle.al_meaning.specs.Items as item
use Rattle.al_meaning.specs.Words.{zero_words}
use Rattle.al_meaning.specs.Places.{words_in}
use Rattle.al_meaning.specs.Evaluate.{saves_and_gives}
use Rattle.al_control.proofs.Takings.{goes_on, keeps_took}
use Rattle.al_walk_places.proofs.updates.clear_there.Goals as goal

pub returns-in_ok-zero-in-Took : goal.returns-in_ok-zero-in-Took
returns-in_ok-zero-in-Took c =
    let ty = c.args.ty.now in
    let same : c.in-Took.h.program.now ≡ c.args.h.program.now = keeps_took _ _ _ _ c.in-Took.is c.in_ok-next.ensures.keeps in
    let zero : c.in_ok-zero-in-Took.zero ≡ zero_words (words_in c.in-Took.h.program.now ty) =
    c.in_ok-zero-in-Took.ensures ∙ ap zero_words (c.requires ∙ ap (λ (p : Program). words_in p ty) (sym same))
    in
    goes_on c.saves_and_gives.result _ c.in-Took.place c.in-Took.h _ _
    (c.in_ok-next.ensures.taken (λ (f : item.Found) (h : step.Here). saves_and_gives h ty f (zero_words (words_in h.program ty)) c.args.old)) c.in-Took.is
    (subst (λ (ws : List ℕ). IfOk c.saves_and_gives.result (λ n. next_of n ≡ saves_and_gives (here_of c.in-Took.h) ty (found_of c.in-Took.place) ws c.args.old)) zero
    c.saves_and_gives.ensures)
