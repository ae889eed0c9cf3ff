use Rattle.std.proofs.Common.{◌∙◌, ap, map, sym}
use Rattle.al_control.specs.Models.{argument_of, here_of, next_of}
use Rattle.al_walk_actions.specs.Shows.{shows}
use Rattle.al_walk_actions.proofs.Onward.{goes}
use Rattle.al_walk_actions.proofs.Verbs.{shows_by}
use Rattle.al_walk_actions.proofs.print.shows_next.Goals as goal

pub returns-in-None : goal.returns-in-None
returns-in-None c =
    let h = here_of c.args.h in
    goes c.lost.result next_of _ _
    (ap (λ l. shows h c.args.verb c.args.pieces.now (map argument_of l) c.args.text) (sym c.in-None.ensures.0)
    ∙ shows_by c.args.verb c.args.pieces.now (map argument_of c.args.arguments) c.args.text h c.requires)
    c.lost.ensures

pub returns : goal.returns
returns c =
    let h = here_of c.args.h in
    goes c.shows_argument.result next_of _ _
    (ap (λ l. shows h c.args.verb c.args.pieces.now (map argument_of l) c.args.text) (sym c.in-Some.ensures)
    ∙ shows_by c.args.verb c.args.pieces.now (map argument_of c.args.arguments) c.args.text h c.requires)
    c.shows_argument.ensures
