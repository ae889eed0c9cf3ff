use Rattle.std.proofs.Common.{◌≡◌, ◌∙◌, ap}
use Rattle.std.proofs.lemmas.Result.{IfOk-weaker}
use Rattle.al_meaning.specs.Here.{moves}
use Rattle.al_control.specs.Models.{here_of, next_of}
use Rattle.al_walk_statements.proofs.iterators.once.Goals as goal

pub returns : goal.returns
returns c =
    IfOk-weaker c.moves.result _ _
    (λ n (is : next_of n ≡ moves (here_of c.in_ok-with_dropped.field-0)) number. is ∙ ap moves c.in_ok-with_dropped.ensures) c.moves.ensures
