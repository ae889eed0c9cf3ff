use Rattle.std.proofs.Common.{sym}
use Rattle.rv_regs.proofs.Homing.{placed_homes}
use Rattle.rv_regs.proofs.Plain.{plain_homes}
use Rattle.rv_regs.proofs.place.Goals as goal

pub returns-in_ok-homes_for-in-Some : goal.returns-in_ok-homes_for-in-Some
returns-in_ok-homes_for-in-Some c =
    placed_homes c.args.ir.now c.args.function c.in-Some.f.now c.in_ok-homes_for-in-Some.field-0 (sym c.in-Some.ensures.value) c.in_ok-homes_for-in-Some.ensures

pub returns-in_default : goal.returns-in_default
returns-in_default c = rw c.new.ensures (plain_homes c.args.ir.now c.args.function)
