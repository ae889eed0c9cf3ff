use Rattle.std.proofs.Common.{[], ◌∷◌, ◌++◌, ap, ◌∙◌}
use Rattle.al_elements.proofs.ElementsAre.{in_type-Array, in_type-Chan, in_type-Function}
use Rattle.al_elements.proofs.element.+elements_in.Goals as goal

pub elements_in-returns-in-Array : goal.elements_in-returns-in-Array
elements_in-returns-in-Array t c = rw (c.in-Array.is, in_type-Array, ← c.get-in-Array.ensures) c.elements_in-in-Array.ensures

pub elements_in-returns-in_ok-push-in-Chan : goal.elements_in-returns-in_ok-push-in-Chan
elements_in-returns-in_ok-push-in-Chan t c =
    rw (c.in-Chan.is, in_type-Chan, ← c.get-element.ensures, ← (c.in_ok-push-in-Chan.ensures.ok ∙ ap (λ t. c.args.list.now ++ t ∷ []) c.in_ok-copy-in-Chan.ensures)) c.elements_in-in-Chan.ensures

pub elements_in-returns-in_ok-elements_in-in-Function :
    goal.elements_in-returns-in_ok-elements_in-in-Function
elements_in-returns-in_ok-elements_in-in-Function t c =
    rw (c.in-Function.is, in_type-Function, ← c.get-in-Function.ensures, ← c.in_ok-elements_in-in-Function.ensures, ← c.as_slice-in-Function.ensures.value) c.all_elements_in-in-Function.ensures
