use Rattle.std.proofs.Common.{◌≡◌, ◌+◌, ◌-◌, [], ◌∷◌, ◌∙◌, ℕ, List, map, refl, sym, ap}
use Rattle.al_meaning.specs.Here as step
use Rattle.al_meaning.specs.Items as item
use Rattle.al_control.specs.declared.work.Found.{Found}
use Rattle.al_control.specs.declared.take.Taken.{Taken}
use Rattle.al_control.specs.Models.{found_of, here_of}
use Rattle.al_control.specs.Takes.{taken_by}
use Rattle.al_control.proofs.Takings.{keeps_took, places_begun, place_more, places_over}
use Rattle.al_control.proofs.take.places.Goals as goal

pub loop-init : goal.loop-init
loop-init c = record {
  taken =
      λ k.
      places_begun c.args.count (here_of c.args.h) k
      ∙ ap (λ (l : List Found). step.places_before (c.args.count - 0) (map found_of l) (here_of c.args.h) k) (sym c.new-places.ensures);
  keeps = refl;
}

pub loop-preserved : goal.loop-preserved
loop-preserved c =
    let count = c.args.count in
    let i = c.loop.counter in
    let before = map found_of c.loop.places in
    let rest = here_of c.in-Took.rest in
    record {
      taken =
          λ k.
          let more = λ (f : item.Found) (h : step.Here). step.places_before (count - (i + 1)) (f ∷ before) h k in
          c.loop.invariant.taken k
          ∙ place_more count i before (here_of c.loop.h) k c.loop-test.true
          ∙ c.in_ok-next.ensures.taken more
          ∙ ap (λ (t : Taken Found). taken_by t (λ f at. more (found_of f) at)) c.in-Took.is
          ∙ ap (λ (l : List Found). step.places_before (count - (i + 1)) (map found_of l) rest k) (sym c.in_ok-push-in-Took.ensures);
      keeps = keeps_took _ _ _ _ c.in-Took.is c.in_ok-next.ensures.keeps ∙ c.loop.invariant.keeps;
    }

pub returns-in-Lost-clause-taken : goal.returns-in-Lost-clause-taken
returns-in-Lost-clause-taken c =
    λ k.
    let more = λ (f : item.Found) (h : step.Here). step.places_before (c.args.count - (c.loop.counter + 1)) (f ∷ map found_of c.loop.places) h k in
    c.loop.invariant.taken k
    ∙ place_more c.args.count c.loop.counter (map found_of c.loop.places) (here_of c.loop.h) k c.loop-test.true
    ∙ c.in_ok-next.ensures.taken more
    ∙ ap (λ (t : Taken Found). taken_by t (λ f at. more (found_of f) at)) c.in-Lost.is

pub returns-clause-taken : goal.returns-clause-taken
returns-clause-taken c =
    λ k. c.loop.invariant.taken k ∙ places_over c.args.count c.loop.counter (map found_of c.loop.places) (here_of c.loop.h) k c.loop-test.false
