use Rattle.std.proofs.Common.{◌∙◌, ap}
use Rattle.al_typed.specs.declared.ty.Ty.{Ty}
use Rattle.al_meaning.specs.Here.{units_in}
use Rattle.al_meaning.specs.Words.{converted, fitted_to}
use Rattle.al_control.specs.Models.{here_of}
use Rattle.al_walk_cases.proofs.Branches.{given_put}
use Rattle.al_walk_cases.proofs.alts.with_received.Goals as goal

pub returns : goal.returns
returns c =
    let p = c.args.h.program.now in
    let t = c.args.ty.now in
    given_put c.with_given.result c.args.target.now c.in_ok-given.given _ (here_of c.args.h)
    (c.in_ok-given.ensures ∙ ap (λ (u : Ty). converted p.aggregates t u (fitted_to (units_in p t) c.args.received.now)) c.ty.ensures)
    c.with_given.ensures
