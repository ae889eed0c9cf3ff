use Rattle.std.proofs.Common.{◌+◌, ◌<◌, Bool, if◌then◌else◌, sym, subst, ◌∙◌}
use Rattle.std.proofs.lemmas.Bool.{false≢true}
use Rattle.rv_regs.specs.Marks.{unmarked}
use Rattle.rv_regs.proofs.marks.live.Goals as goal

pub loop-going-init : goal.loop-going-init
loop-going-init c =
    let none = c.in_ok-live.ensures in
    record {
      count = none.length_is;
      least = λ given all pc m. absurd (false≢true (sym (none.none pc) ∙ m));
      settled = λ e. absurd (false≢true (sym e));
    }

pub loop-going-preserved : goal.loop-going-preserved
loop-going-preserved c =
    let w = c.widen-going.ensures in
    let was = c.loop-going.invariant in
    record { count = w.count ∙ was.count; least = λ given all. w.least given all (was.least given all); settled = w.settled }

pub loop-going-smaller : goal.loop-going-smaller
loop-going-smaller c =
    let w = c.widen-going.ensures in
    subst (λ (b : Bool). unmarked c.widen-going.new.live + (if c.widen-going.result then 1 else 0) < unmarked c.loop-going.live + (if b then 1 else 0)) (sym c.loop-going-test.true) w.fewer
