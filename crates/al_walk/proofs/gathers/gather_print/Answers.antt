use Rattle.std.proofs.Common.{◌∙◌, ℕ, List, [], ◌∷◌, ap, map, sym}
use Rattle.std.proofs.lemmas.List.{length-map}
use Rattle.al_typed.specs.Typed.{type_of}
use Rattle.al_meaning.specs.Evaluate.{arguments_of}
use Rattle.al_meaning.specs.Here as step
use Rattle.al_meaning.specs.Items as item
use Rattle.al_control.specs.declared.take.Taken.{Taken}
use Rattle.al_control.specs.Models.{here_of}
use Rattle.al_control.specs.Takes.{taken_by}
use Rattle.al_control.proofs.Takings.{goes_on}
use Rattle.al_walk.proofs.Prints.{composed}
use Rattle.al_walk.proofs.gathers.gather_print.Goals as goal

pub returns-in_ok-arguments-in-Took : goal.returns-in_ok-arguments-in-Took
returns-in_ok-arguments-in-Took c =
    goes_on c.does.result _ c.in-Took.values c.in-Took.h _ _
    (ap (λ (n : ℕ). step.with_values n (here_of c.args.h) (λ values h. step.does h (item.Compose c.args.pieces.now (arguments_of (map type_of c.args.es.now) values) [] ∷ []))) (length-map c.args.es.now type_of)
    ∙ c.in_ok-next.ensures.taken (λ (values : List (List ℕ)) (h : step.Here). step.does h (item.Compose c.args.pieces.now (arguments_of (map type_of c.args.es.now) values) [] ∷ [])))
    c.in-Took.is
    (composed c.does.result c.args.pieces.now c.in_ok-arguments-in-Took.arguments (map type_of c.args.es.now) c.in-Took.values c.new.result (here_of c.in-Took.h)
    c.in_ok-arguments-in-Took.ensures c.new.ensures c.does.ensures)

pub returns-in-Lost : goal.returns-in-Lost
returns-in-Lost c =
    sym
    (ap (λ (n : ℕ). step.with_values n (here_of c.args.h) (λ (values : List (List ℕ)) (h : step.Here). step.does h (item.Compose c.args.pieces.now (arguments_of (map type_of c.args.es.now) values) [] ∷ []))) (length-map c.args.es.now type_of)
    ∙ c.in_ok-next.ensures.taken (λ (values : List (List ℕ)) (h : step.Here). step.does h (item.Compose c.args.pieces.now (arguments_of (map type_of c.args.es.now) values) [] ∷ []))
    ∙ ap (λ (t : Taken (List (List ℕ))). taken_by t (λ (values : List (List ℕ)) (h : step.Here). step.does h (item.Compose c.args.pieces.now (arguments_of (map type_of c.args.es.now) values) [] ∷ []))) c.in-Lost.is)
