use Rattle.std.proofs.Common.{ap, ◌∙◌, length, arith}
use Rattle.std.proofs.lemmas.Slice.{drop-put_mid}
use Rattle.al_base.proofs.line.put.Goals as goal

pub returns-clause-rest : goal.returns-clause-rest
returns-clause-rest c =
    drop-put_mid c.args.at _ c.args.line.now _ _ (omega arith) (omega arith) (ap length c.copy_from_slice.ensures.after ∙ omega arith)
