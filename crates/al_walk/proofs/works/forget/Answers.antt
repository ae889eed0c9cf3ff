use Rattle.std.proofs.Common.{ℕ, List}
use Rattle.al_meaning.specs.Here as step
use Rattle.al_control.proofs.Takings.{goes_on}
use Rattle.al_walk.proofs.works.forget.Goals as goal

pub returns : goal.returns
returns c =
    let k : List ℕ → step.Here → step.Next = λ words h. step.moves h in
    goes_on c.moves.result _ c.in-Took.field-0 c.in-Took.h _ k (c.in_ok-next.ensures.taken k) c.in-Took.is c.moves.ensures
