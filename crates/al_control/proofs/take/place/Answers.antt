use Rattle.std.proofs.Common.{◌∙◌, sym}
use Rattle.al_control.proofs.Takings.{place_there, no_place}
use Rattle.al_control.proofs.take.place.Goals as goal

pub returns-in-Some-clause-taken : goal.returns-in-Some-clause-taken
returns-in-Some-clause-taken c = λ k. place_there c.args.h c.in-Some.found c.pop.new.self k c.in-Some.ensures

pub returns-in_ok-lost-in-None-clause-taken : goal.returns-in_ok-lost-in-None-clause-taken
returns-in_ok-lost-in-None-clause-taken c =
    λ k. no_place c.args.h c.pop.new.self k c.in-None.ensures.0 c.in-None.ensures.1 ∙ sym c.in_ok-lost-in-None.ensures
