use Rattle.std.proofs.Common.{◌*◌, ◌/◌, ◌%◌, pos, negsuc}
use Rattle.std.proofs.lemmas.Result.{on_ok_weaker}
use Rattle.rv_isa.specs.declared.instr.Instr.TheVariants.{Branch, Immediate, Register}
use Rattle.rv_isa.specs.declared.instr.BranchOp.TheVariants.{Bne}
use Rattle.rv_isa.specs.declared.instr.ImmediateOp.TheVariants.{Addi}
use Rattle.rv_isa.specs.declared.instr.RegisterOp.TheVariants.{Add}
use Rattle.rv_code.specs.Pieces.{number_code}
use Rattle.rv_form.specs.Units.{frame_address, zero_from}
use Rattle.rv_emit_units.proofs.Rounds.{zeroes}
use Rattle.rv_emit_units.proofs.zeros.zero_loop.Goals as goal

pub returns : goal.returns
returns c =
    on_ok_weaker c.zero_from-2.result
    (λ is.
    zeroes c.args.code.now.items c.frame_address.new.code.items c.number.new.code.items c.register.new.code.items c.zero_from.new.code.items c.immediate.new.code.items c.branch-code.new.code.items
    c.zero_from-2.new.code.items (frame_address 8 c.args.to) (number_code 5 (32 * (c.args.count / 8))) (zero_from 0 8) (zero_from 0 (c.args.count % 8)) (Register Add 5 5 8) (Immediate Addi 8 8 (pos 32)) (Branch Bne 8 5 (negsuc 35))
    c.in_ok-frame_address.ensures c.in_ok-number.ensures c.in_ok-register.ensures c.in_ok-zero_from.ensures c.in_ok-immediate.ensures c.in_ok-branch.ensures is)
    c.zero_from-2.ensures
