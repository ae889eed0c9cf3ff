use Rattle.std.proofs.Common.{refl, w32}
use Rattle.std.proofs.lemmas.Int.{to_z-of_z}
use Rattle.rv_isa.proofs.Encoding.{named}
use Rattle.rv_isa.proofs.encoder.store.Goals as goal
use Rattle.rv_isa.proofs.encoder.store.Goals.{in-Sb, in-Sh, in-Sw}

pub returns-clause-names : goal.returns-clause-names
returns-clause-names c =
    let unchanged = to_z-of_z w32 c.args.imm c.ranges.imm in
    named _ c.requires _ (rw (c.pattern-imm.ensures.value, unchanged) (elim c.match-op.branch [
      | in-Sb w ↦ rw (w.in-Sb.is, w.funct3-is) refl
      | in-Sh w ↦ rw (w.in-Sh.is, w.funct3-is) refl
      | in-Sw w ↦ rw (w.in-Sw.is, w.funct3-is) refl
    ]))
