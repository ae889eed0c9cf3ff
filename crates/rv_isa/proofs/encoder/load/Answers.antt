use Rattle.std.proofs.Common.{refl, w32}
use Rattle.std.proofs.lemmas.Int.{to_z-of_z}
use Rattle.rv_isa.proofs.Encoding.{named}
use Rattle.rv_isa.proofs.encoder.load.Goals as goal
use Rattle.rv_isa.proofs.encoder.load.Goals.{in-Lb, in-Lh, in-Lw, in-Lbu, in-Lhu}

pub returns-clause-names : goal.returns-clause-names
returns-clause-names c =
    let unchanged = to_z-of_z w32 c.args.imm c.ranges.imm in
    named _ c.requires _ (rw (c.i_format.ensures, unchanged) (elim c.match-op.branch [
      | in-Lb w ↦ rw (w.in-Lb.is, w.funct3-is) refl
      | in-Lh w ↦ rw (w.in-Lh.is, w.funct3-is) refl
      | in-Lw w ↦ rw (w.in-Lw.is, w.funct3-is) refl
      | in-Lbu w ↦ rw (w.in-Lbu.is, w.funct3-is) refl
      | in-Lhu w ↦ rw (w.in-Lhu.is, w.funct3-is) refl
    ]))
