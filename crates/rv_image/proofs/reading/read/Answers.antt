use Rattle.std.proofs.Common.{arith, subst}
use Rattle.rv_image.specs.Reading.{Gives}
use Rattle.rv_image.proofs.Again.{image_again}
use Rattle.rv_image.proofs.Found.{is_found}
use Rattle.rv_image.proofs.reading.read.Goals as goal

pub returns-clause-found : goal.returns-clause-found
returns-clause-found c = is_found c.args.bytes.now c.all.result (λ i. omega (arith, c.type_inv.bytes i)) c.all.ensures

pub returns-clause-only : goal.returns-clause-only
returns-clause-only c = λ image is. subst (λ read. Gives c.all.result read) (image_again c.args.bytes.now image is) c.all.ensures
