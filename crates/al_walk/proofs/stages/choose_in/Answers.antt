use Rattle.std.proofs.Common.{◌∙◌, sym, ap}
use Rattle.al_typed.specs.declared.statement.TStmt.{TStmt}
use Rattle.al_meaning.specs.Items.{Choose, Work}
use Rattle.al_meaning.specs.Step.{step_work}
use Rattle.al_control.specs.Models.{choose_of, here_of}
use Rattle.al_walk.specs.Works.{StatementFits, WorkFits}
use Rattle.al_walk.proofs.DoneStatements.{chosen-If, chosen_other, does_so_as}
use Rattle.al_walk.proofs.Needs.{choice_fits}
use Rattle.al_walk.proofs.Whys.{explains}
use Rattle.al_walk.proofs.stages.choose_in.Goals as goal

pub returns-in_ok-choose-in-If-clause-next : goal.returns-in_ok-choose-in-If-clause-next
returns-in_ok-choose-in-If-clause-next c =
    c.in_ok-choose-in-If.ensures
    ∙ ap (λ (chosen : TStmt). step_work (Choose chosen c.in-If.other) (here_of c.args.h)) c.get.ensures
    ∙ ap (λ (w : Work). step_work w (here_of c.args.h))
    (sym (ap choose_of c.in-If.is ∙ chosen-If c.in-If.line c.in-If.condition c.in-If.then c.in-If.other))

pub returns-in_default-clause-next : goal.returns-in_default-clause-next
returns-in_default-clause-next c =
    does_so_as c.do_statement.result c.args.s.now (choose_of c.args.s.now) (here_of c.args.h) (chosen_other c.args.s.now c.in_default.not-If)
    c.do_statement.ensures.next

pub returns-in_default-clause-why : goal.returns-in_default-clause-why
returns-in_default-clause-why c =
    explains c.do_statement.result (StatementFits c.args.h.program.now c.args.s.now) (WorkFits (here_of c.args.h) (choose_of c.args.s.now))
    (choice_fits (here_of c.args.h) c.args.s.now) c.do_statement.ensures.why
