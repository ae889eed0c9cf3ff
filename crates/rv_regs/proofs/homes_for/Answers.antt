use Rattle.std.proofs.Common.{List, [], ◌∷◌, length, length-append, subst, sym, ap, arith}
use Rattle.rv_code.specs.declared.home.Home.{Home}
use Rattle.rv_regs.specs.Rows.{Gets}
use Rattle.rv_regs.proofs.Placing.{Placing, none_placed, one_more}
use Rattle.rv_regs.proofs.homes_for.Goals as goal

pub loop-slot-init : goal.loop-slot-init
loop-slot-init c =
    let none = c.new-homes.ensures in (
      ap length none,
      subst (λ (homes : List Home). Placing c.args.ir.now c.args.f.now homes c.in_ok-taken.taken) (sym none) (none_placed c.args.ir.now c.args.f.now c.in_ok-taken.taken c.in_ok-taken.ensures),
    )

pub loop-slot-preserved : goal.loop-slot-preserved
loop-slot-preserved c =
    let home = c.in_ok-home_for.field-0 in
    let homes = c.loop-slot.homes in
    let ok = c.in_ok-push.ensures.ok in
    let count = c.loop-slot.invariant.0 in
    let gets = subst (λ slot. Gets c.args.ir.now c.args.f.now slot c.loop-slot.taken c.home_for.new.taken home) (sym count) c.in_ok-home_for.ensures in (
      omega (arith, ap length ok, length-append homes (home ∷ []), count),
      subst (λ (all : List Home). Placing c.args.ir.now c.args.f.now all c.home_for.new.taken) (sym ok)
          (one_more c.args.ir.now c.args.f.now homes c.loop-slot.taken c.home_for.new.taken home c.loop-slot.invariant.1 gets),
    )

pub returns : goal.returns
returns c = c.loop-slot.invariant.1.placed
