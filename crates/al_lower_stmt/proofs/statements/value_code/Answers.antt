use Rattle.std.proofs.Common.{◌≡◌, ◌++◌, List, OnOk, subst}
use Rattle.al_typed.specs.declared.statement.TBounds.{TBounds}
use Rattle.al_lower_code.specs.Homes.{at_line}
use Rattle.al_lower_code.specs.Heads.{value_code}
use Rattle.al_lower_base.specs.Spots.{spot_of}
use Rattle.al_lower_stmt.proofs.statements.value_code.Goals as goal

pub returns : goal.returns
returns c =
    subst (λ (bs : List TBounds). OnOk c.iterated.result (c.iterated.new.code ≡ c.args.code.now ++ value_code (at_line c.args.line (spot_of c.args.s)) bs c.args.e.now c.args.pc)) c.as_slice.ensures.value c.iterated.ensures
