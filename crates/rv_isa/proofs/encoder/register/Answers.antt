use Rattle.std.proofs.Common.{refl}
use Rattle.rv_isa.proofs.Encoding.{named}
use Rattle.rv_isa.proofs.encoder.register.Goals as goal
use Rattle.rv_isa.proofs.encoder.register.Goals.{in-Add, in-Sub, in-Sll, in-Slt, in-Sltu, in-Xor, in-Srl, in-Sra, in-Or, in-And, in-Mul, in-Mulh, in-Mulhsu, in-Mulhu, in-Div, in-Divu, in-Rem, in-Remu}

pub returns-clause-names : goal.returns-clause-names
returns-clause-names c =
    named _ c.requires _ (elim c.match-op.branch [
      | in-Add w ↦ rw (w.in-Add.is, w.funct3-is) refl
      | in-Sub w ↦ rw (w.in-Sub.is, w.funct3-is) refl
      | in-Sll w ↦ rw (w.in-Sll.is, w.funct3-is) refl
      | in-Slt w ↦ rw (w.in-Slt.is, w.funct3-is) refl
      | in-Sltu w ↦ rw (w.in-Sltu.is, w.funct3-is) refl
      | in-Xor w ↦ rw (w.in-Xor.is, w.funct3-is) refl
      | in-Srl w ↦ rw (w.in-Srl.is, w.funct3-is) refl
      | in-Sra w ↦ rw (w.in-Sra.is, w.funct3-is) refl
      | in-Or w ↦ rw (w.in-Or.is, w.funct3-is) refl
      | in-And w ↦ rw (w.in-And.is, w.funct3-is) refl
      | in-Mul w ↦ rw (w.in-Mul.is, w.funct3-is) refl
      | in-Mulh w ↦ rw (w.in-Mulh.is, w.funct3-is) refl
      | in-Mulhsu w ↦ rw (w.in-Mulhsu.is, w.funct3-is) refl
      | in-Mulhu w ↦ rw (w.in-Mulhu.is, w.funct3-is) refl
      | in-Div w ↦ rw (w.in-Div.is, w.funct3-is) refl
      | in-Divu w ↦ rw (w.in-Divu.is, w.funct3-is) refl
      | in-Rem w ↦ rw (w.in-Rem.is, w.funct3-is) refl
      | in-Remu w ↦ rw (w.in-Remu.is, w.funct3-is) refl
    ])
