use Rattle.std.proofs.Common.{◌≡◌, ◌+◌, ◌-◌, ◌∷◌, ◌∙◌, ℕ, List, refl, sym, ap}
use Rattle.al_meaning.specs.Here as step
use Rattle.al_control.specs.declared.take.Taken.{Taken}
use Rattle.al_control.specs.Models.{here_of}
use Rattle.al_control.specs.Takes.{taken_by}
use Rattle.al_control.proofs.Takings.{keeps_took, values_begun, value_more, values_over}
use Rattle.al_control.proofs.take.values.Goals as goal

pub loop-init : goal.loop-init
loop-init c = record {
  taken =
      λ k.
      values_begun c.args.count (here_of c.args.h) k
      ∙ ap (λ (l : List (List ℕ)). step.words_before (c.args.count - 0) l (here_of c.args.h) k) (sym c.new-values.ensures);
  keeps = refl;
}

pub loop-preserved : goal.loop-preserved
loop-preserved c =
    let count = c.args.count in
    let i = c.loop.counter in
    let before = c.loop.values in
    let rest = here_of c.in-Took.rest in
    record {
      taken =
          λ k.
          let more = λ (ws : List ℕ) (h : step.Here). step.words_before (count - (i + 1)) (ws ∷ before) h k in
          c.loop.invariant.taken k
          ∙ value_more count i before (here_of c.loop.h) k c.loop-test.true
          ∙ c.in_ok-next.ensures.taken more
          ∙ ap (λ (t : Taken (List ℕ)). taken_by t more) c.in-Took.is
          ∙ ap (λ (l : List (List ℕ)). step.words_before (count - (i + 1)) l rest k) (sym c.in_ok-push-in-Took.ensures);
      keeps = keeps_took _ _ _ _ c.in-Took.is c.in_ok-next.ensures.keeps ∙ c.loop.invariant.keeps;
    }

pub returns-in-Lost-clause-taken : goal.returns-in-Lost-clause-taken
returns-in-Lost-clause-taken c =
    λ k.
    let more = λ (ws : List ℕ) (h : step.Here). step.words_before (c.args.count - (c.loop.counter + 1)) (ws ∷ c.loop.values) h k in
    c.loop.invariant.taken k
    ∙ value_more c.args.count c.loop.counter c.loop.values (here_of c.loop.h) k c.loop-test.true
    ∙ c.in_ok-next.ensures.taken more
    ∙ ap (λ (t : Taken (List ℕ)). taken_by t more) c.in-Lost.is

pub returns-clause-taken : goal.returns-clause-taken
returns-clause-taken c = λ k. c.loop.invariant.taken k ∙ values_over c.args.count c.loop.counter c.loop.values (here_of c.loop.h) k c.loop-test.false
