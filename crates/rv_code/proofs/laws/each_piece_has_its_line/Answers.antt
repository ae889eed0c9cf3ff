use Rattle.rv_code.proofs.Laying.{line_is}
use Rattle.rv_code.proofs.laws.each_piece_has_its_line.Goals as goal

pub returns : goal.returns
returns c = λ ps at k j p e a b. line_is ps at k j 0 p e a b
