use Rattle.std.proofs.Common.{◌∙◌, List, ap, map, sym}
use Rattle.al_typed.specs.declared.expression.PrintPiece.{PrintPiece}
use Rattle.al_typed.specs.declared.expression.TExpr.{TExpr}
use Rattle.al_typed.specs.Typed.{type_of}
use Rattle.al_meaning.specs.Items.{Gather, Work}
use Rattle.al_meaning.specs.Step.{step_work}
use Rattle.al_control.specs.Models.{gather_of, here_of}
use Rattle.al_walk_values.specs.Fits.{Fits}
use Rattle.al_walk.specs.Works.{WorkFits}
use Rattle.al_walk.proofs.Prints.{evaluates_so, gather-Print, gather_fits, gathered_other}
use Rattle.al_walk.proofs.Whys.{explains}
use Rattle.al_walk.proofs.gathers.gather.Goals as goal

pub returns-in_ok-gather_print-in-Print-clause-next : goal.returns-in_ok-gather_print-in-Print-clause-next
returns-in_ok-gather_print-in-Print-clause-next c =
    c.in_ok-gather_print-in-Print.ensures
    ∙ ap (λ (format : List PrintPiece). step_work (Gather format (map type_of c.as_slice-in-Print.result.now)) (here_of c.args.h)) c.as_slice.ensures.value
    ∙ ap (λ (es : List TExpr). step_work (Gather c.in-Print.format (map type_of es)) (here_of c.args.h)) c.as_slice-in-Print.ensures.value
    ∙ ap (λ (w : Work). step_work w (here_of c.args.h)) (sym (ap gather_of c.in-Print.is ∙ gather-Print c.in-Print.ty c.in-Print.format c.in-Print.arguments))

pub returns-in_default-clause-next : goal.returns-in_default-clause-next
returns-in_default-clause-next c =
    evaluates_so c.eval.result c.args.e.now (gather_of c.args.e.now) (here_of c.args.h) (gathered_other c.args.e.now c.in_default.not-Print) c.eval.ensures.next

pub returns-in_default-clause-why : goal.returns-in_default-clause-why
returns-in_default-clause-why c =
    explains c.eval.result (Fits c.args.h.program.now c.args.e.now) (WorkFits (here_of c.args.h) (gather_of c.args.e.now)) (gather_fits (here_of c.args.h) c.args.e.now)
    c.eval.ensures.why
