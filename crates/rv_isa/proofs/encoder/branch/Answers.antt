use Rattle.std.proofs.Common.{refl, w32}
use Rattle.std.proofs.lemmas.Int.{to_z-of_z}
use Rattle.rv_isa.proofs.Encoding.{named}
use Rattle.rv_isa.proofs.encoder.branch.Goals as goal
use Rattle.rv_isa.proofs.encoder.branch.Goals.{in-Beq, in-Bne, in-Blt, in-Bge, in-Bltu, in-Bgeu}

pub returns-clause-names : goal.returns-clause-names
returns-clause-names c =
    let unchanged = to_z-of_z w32 c.args.imm c.ranges.imm in
    named _ c.requires _ (rw (c.pattern-imm.ensures.value, unchanged) (elim c.match-op.branch [
      | in-Beq w ↦ rw (w.in-Beq.is, w.funct3-is) refl
      | in-Bne w ↦ rw (w.in-Bne.is, w.funct3-is) refl
      | in-Blt w ↦ rw (w.in-Blt.is, w.funct3-is) refl
      | in-Bge w ↦ rw (w.in-Bge.is, w.funct3-is) refl
      | in-Bltu w ↦ rw (w.in-Bltu.is, w.funct3-is) refl
      | in-Bgeu w ↦ rw (w.in-Bgeu.is, w.funct3-is) refl
    ]))
