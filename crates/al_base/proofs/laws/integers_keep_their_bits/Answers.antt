use Rattle.al_base.specs.Arith.{width_of, is_signed}
use Rattle.al_base.proofs.Products.{wrapped-value}
use Rattle.al_base.proofs.laws.integers_keep_their_bits.Goals as goal

pub returns : goal.returns
returns c = λ kind n. wrapped-value (width_of kind) (is_signed kind) n
