use Rattle.std.proofs.Common.{◌∷◌, ap, map, sym}
use Rattle.al_typed.specs.declared.expression.PrintPiece.TheVariants as print
use Rattle.al_meaning.specs.Evaluate.{compose}
use Rattle.al_control.specs.Models.{argument_of, here_of, next_of}
use Rattle.al_walk_actions.proofs.Onward.{goes}
use Rattle.al_walk_actions.proofs.print.composes_next_text.Goals as goal

pub returns-in-None : goal.returns-in-None
returns-in-None c =
    goes c.lost.result next_of _ _
    (ap (λ l. compose (print.Text ∷ c.args.pieces.now) (map argument_of l) c.args.text (here_of c.args.h)) (sym c.in-None.ensures.0)) c.lost.ensures

pub returns : goal.returns
returns c =
    goes c.composes_text.result next_of _ _
    (ap (λ l. compose (print.Text ∷ c.args.pieces.now) (map argument_of l) c.args.text (here_of c.args.h)) (sym c.in-Some.ensures)) c.composes_text.ensures
