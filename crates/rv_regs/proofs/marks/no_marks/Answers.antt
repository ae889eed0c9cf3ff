use Rattle.std.proofs.Common.{List, Bool, false, [], ◌∷◌, length, length-append, ap, ◌∙◌, arith}
use Rattle.rv_regs.specs.Marks.{marked}
use Rattle.rv_regs.proofs.Least.{none_more}
use Rattle.rv_regs.proofs.marks.no_marks.Goals as goal

pub loop-init : goal.loop-init
loop-init c = let e = c.new-live.ensures in record { length_is = ap length e; none = λ pc. ap (λ (marks : List Bool). marked marks pc) e }

pub loop-preserved : goal.loop-preserved
loop-preserved c =
    let e = c.in_ok-push.ensures.ok in
    let was = c.loop.invariant in
    record {
      length_is = omega (arith, ap length e, length-append c.loop.live (false ∷ []), was.length_is);
      none = λ pc. ap (λ (marks : List Bool). marked marks pc) e ∙ none_more c.loop.live was.none pc;
    }

pub returns : goal.returns
returns c = record { length_is = omega (arith, c.loop-test.false, c.loop.auto.counter-end, c.loop.invariant.length_is); none = c.loop.invariant.none }
