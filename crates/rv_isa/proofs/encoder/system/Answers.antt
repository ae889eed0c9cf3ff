use Rattle.std.proofs.Common.{refl}
use Rattle.rv_isa.proofs.Encoding.{named}
use Rattle.rv_isa.specs.declared.instr.Instr.TheVariants.{Ecall, Ebreak}
use Rattle.rv_isa.proofs.encoder.system.Goals as goal

pub returns-clause-ecall : goal.returns-clause-ecall
returns-clause-ecall c e = named Ecall tt _ (rw e refl)

pub returns-clause-ebreak : goal.returns-clause-ebreak
returns-clause-ebreak c e = named Ebreak tt _ (rw e refl)
