use Rattle.std.proofs.Common.{◌≡◌, ◌+◌, ◌-◌, Bool, length, get_or, Some, sym, subst, arith}
use Rattle.std.specs.Prelude.{slice_get}
use Rattle.std.proofs.lemmas.Option.{slice_get-get_or}
use Rattle.rv_regs.specs.Marks.{IsSettled}
use Rattle.rv_regs.specs.Widening.{Marks}
use Rattle.rv_regs.proofs.Least.{round_begins, round_marks, round_leaves}
use Rattle.rv_regs.proofs.marks.widen.Goals as goal
use Rattle.rv_regs.proofs.marks.widen.Goals.{then-mark, else-mark}

pub loop-behind-init : goal.loop-behind-init
loop-behind-init c =
    let n : length c.args.code.now - 0 ≡ length c.args.code.now = omega arith in
    rw n (round_begins c.args.ir.now c.args.slot c.args.code.now c.args.live.now)

pub loop-behind-preserved : goal.loop-behind-preserved
loop-behind-preserved c =
    let count = length c.args.code.now in
    let behind = c.loop-behind.behind in
    let pc = count - 1 - behind in
    let o = get_or c.args.code.now pc c.index-code-pc.result in
    let there : slice_get c.args.code.now pc ≡ Some o = slice_get-get_or c.args.code.now pc c.index-code-pc.result (omega (arith, c.loop-behind-test.true)) in
    let left : count - behind ≡ pc + 1 = omega (arith, c.loop-behind-test.true) in
    let next : count - (behind + 1) ≡ pc = omega (arith, c.loop-behind-test.true) in
    rw next (elim c.if-mark.branch [
      | then-mark w ↦
          rw (w.changed-is) (round_marks c.args.ir.now c.args.slot c.args.code.now c.args.live.now c.loop-behind.changed c.loop-behind.live c.mark.new.live pc (count - behind) o left
          (omega (arith, c.loop-behind-test.true, c.loop-behind.invariant.count, c.requires.live)) there c.loop-behind.invariant
          (subst (λ (b : Bool). Marks c.args.ir.now c.args.slot c.loop-behind.live pc o.op b c.mark.new.live) w.if-mark.true c.mark.ensures))
      | else-mark w ↦
          rw (w.changed-is) (round_leaves c.args.ir.now c.args.slot c.args.code.now c.args.live.now c.loop-behind.changed c.loop-behind.live c.mark.new.live pc (count - behind) o left there
          c.loop-behind.invariant
          (subst (λ (b : Bool). Marks c.args.ir.now c.args.slot c.loop-behind.live pc o.op b c.mark.new.live) w.if-mark.false c.mark.ensures))
    ])

pub returns : goal.returns
returns c =
    let r = c.loop-behind.invariant in
    record {
      count = r.count;
      least = r.least;
      settled = λ e. subst (λ marks. IsSettled c.args.ir.now c.args.slot marks c.args.code.now) (sym (r.same e)) (λ pc o at d. r.settled e pc o (omega (arith, c.loop-behind-test.false)) at d);
      fewer = omega (arith, r.fewer);
    }
