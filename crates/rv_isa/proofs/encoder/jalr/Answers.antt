use Rattle.std.proofs.Common.{arith}
use Rattle.std.proofs.lemmas.Int.{to_z-of_z}
use Rattle.rv_isa.proofs.Encoding.{named}
use Rattle.rv_isa.proofs.encoder.jalr.Goals as goal

pub returns-clause-names : goal.returns-clause-names
returns-clause-names c = named _ c.requires _ (grind (arith, to_z-of_z))
