use Rattle.std.proofs.Common.{◌∙◌, [], ◌∷◌, ap}
use Rattle.al_meaning.specs.Calls.{evaluated}
use Rattle.al_meaning.specs.Evaluate.{alt_exprs}
use Rattle.al_meaning.specs.Here.{with_work}
use Rattle.al_meaning.specs.Items.{AltTalk, Work}
use Rattle.al_control.specs.Models.{here_of}
use Rattle.al_walk_cases.specs.CaseLists.{communications_in}
use Rattle.al_walk_loops.proofs.Goings.{goes_both}
use Rattle.al_walk_statements.proofs.statements.do_alt.Goals as goal

pub returns : goal.returns
returns c =
    goes_both c.moves.result (evaluated (alt_exprs (communications_in c.args.body.now))) (AltTalk c.args.s.now ∷ [])
    c.args.h c.in_ok-h.h c.in_ok-with_cases.field-0
    (c.in_ok-h.ensures ∙ ap (λ (w : Work). with_work (w ∷ []) (here_of c.args.h)) c.in_ok-talk.ensures)
    c.in_ok-with_cases.ensures c.moves.ensures
