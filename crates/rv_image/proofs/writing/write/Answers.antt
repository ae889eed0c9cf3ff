use Rattle.std.proofs.Common.{subst}
use Rattle.std.specs.Prelude.{IfOk}
use Rattle.rv_isa.specs.declared.image.Contents.{Contents}
use Rattle.rv_image.specs.Spelling.{IsImage2}
use Rattle.rv_image.proofs.Again.{wrote_again}
use Rattle.rv_image.proofs.writing.write.Goals as goal

pub returns-clause-again : goal.returns-clause-again
returns-clause-again c =
    wrote_again c.write_contents.result c.args.image.now
    (subst (λ (x : Contents). IfOk c.write_contents.result (λ bytes. IsImage2 bytes.items x)) c.contents.ensures.value c.write_contents.ensures)
