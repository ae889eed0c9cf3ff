use Rattle.std.proofs.Common.{refl, w32}
use Rattle.std.proofs.lemmas.Int.{to_z-of_z}
use Rattle.rv_isa.proofs.Encoding.{named}
use Rattle.rv_isa.proofs.encoder.immediate.Goals as goal
use Rattle.rv_isa.proofs.encoder.immediate.Goals.{in-Addi, in-Slti, in-Sltiu, in-Xori, in-Ori, in-Andi}

pub returns-clause-names : goal.returns-clause-names
returns-clause-names c =
    let unchanged = to_z-of_z w32 c.args.imm c.ranges.imm in
    named _ c.requires _ (rw (c.i_format.ensures, unchanged) (elim c.match-op.branch [
      | in-Addi w ↦ rw (w.in-Addi.is, w.funct3-is) refl
      | in-Slti w ↦ rw (w.in-Slti.is, w.funct3-is) refl
      | in-Sltiu w ↦ rw (w.in-Sltiu.is, w.funct3-is) refl
      | in-Xori w ↦ rw (w.in-Xori.is, w.funct3-is) refl
      | in-Ori w ↦ rw (w.in-Ori.is, w.funct3-is) refl
      | in-Andi w ↦ rw (w.in-Andi.is, w.funct3-is) refl
    ]))
