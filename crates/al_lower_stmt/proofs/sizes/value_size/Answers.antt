use Rattle.std.proofs.Common.{◌≡◌, List, length, IfOk, subst}
use Rattle.al_typed.specs.declared.statement.TBounds.{TBounds}
use Rattle.al_lower_code.specs.Homes.{at_line}
use Rattle.al_lower_code.specs.Heads.{value_code}
use Rattle.al_lower_base.specs.Spots.{spot_of}
use Rattle.al_lower_stmt.proofs.sizes.value_size.Goals as goal

pub returns : goal.returns
returns c =
    subst (λ (bs : List TBounds). IfOk c.iterated_size.result (λ n. n ≡ length (value_code (at_line c.args.line (spot_of c.args.s)) bs c.args.e.now 0))) c.as_slice.ensures.value c.iterated_size.ensures
