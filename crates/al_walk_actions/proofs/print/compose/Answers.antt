use Rattle.std.proofs.Common.{ap, map, sym}
use Rattle.al_meaning.specs.Evaluate as spec
use Rattle.al_control.specs.Models.{argument_of, here_of, next_of}
use Rattle.al_walk_actions.proofs.Onward.{goes}
use Rattle.al_walk_actions.proofs.Verbs.{no_pieces}
use Rattle.al_walk_actions.proofs.print.compose.Goals as goal

pub returns-in-None : goal.returns-in-None
returns-in-None c =
    goes c.asks.result next_of _ _
    (ap (λ l. spec.compose l (map argument_of c.args.arguments) c.args.text (here_of c.args.h)) (no_pieces c.args.pieces.now c.in-None.ensures.cases))
    c.asks.ensures

pub returns : goal.returns
returns c =
    goes c.composes_piece.result next_of _ _
    (ap (λ l. spec.compose l (map argument_of c.args.arguments) c.args.text (here_of c.args.h)) (sym c.in-Some.ensures.cases.0))
    c.composes_piece.ensures
