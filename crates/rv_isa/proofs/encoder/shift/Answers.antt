use Rattle.std.proofs.Common.{refl}
use Rattle.rv_isa.proofs.Encoding.{named}
use Rattle.rv_isa.proofs.encoder.shift.Goals as goal
use Rattle.rv_isa.proofs.encoder.shift.Goals.{in-Slli, in-Srli, in-Srai}

pub returns-clause-names : goal.returns-clause-names
returns-clause-names c =
    named _ c.requires _ (elim c.match-op.branch [
      | in-Slli w ↦ rw (w.in-Slli.is, w.funct3-is) refl
      | in-Srli w ↦ rw (w.in-Srli.is, w.funct3-is) refl
      | in-Srai w ↦ rw (w.in-Srai.is, w.funct3-is) refl
    ])
