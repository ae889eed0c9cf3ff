use Rattle.std.proofs.Common.{refl}
use Rattle.rv_isa.proofs.Encoding.{named}
use Rattle.rv_isa.proofs.encoder.upper.Goals as goal
use Rattle.rv_isa.proofs.encoder.upper.Goals.{in-Lui, in-Auipc}

pub returns-clause-names : goal.returns-clause-names
returns-clause-names c =
    named _ c.requires _ (elim c.match-op.branch [
      | in-Lui w ↦ rw (w.in-Lui.is, w.opcode-is) refl
      | in-Auipc w ↦ rw (w.in-Auipc.is, w.opcode-is) refl
    ])
