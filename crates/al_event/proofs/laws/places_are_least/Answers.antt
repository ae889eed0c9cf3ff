use Rattle.al_event.proofs.Least.{least_is, none_is}
use Rattle.al_event.proofs.laws.places_are_least.Goals as goal

pub returns : goal.returns
returns c = record { found = λ region spans n at. least_is region spans n at; none = λ region spans n. none_is region spans n }
