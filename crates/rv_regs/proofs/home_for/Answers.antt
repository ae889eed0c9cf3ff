use Rattle.std.proofs.Common.{◌≡◌, ◌+◌, ◌/◌, ◌<◌, List, Bool, false, refl, sym, subst, ◌∙◌}
use Rattle.rv_regs.specs.Marks.{all_agree, busy_of, IsSettled, IsLeast}
use Rattle.std.specs.Prelude.{MatchOption}
use Rattle.rv_regs.specs.Rows.{AreTaken, Takes}
use Rattle.rv_regs.proofs.Least.{stays_taken, stays_apart, stays_given, stays_far}
use Rattle.rv_regs.proofs.home_for.Goals as goal

pub returns-then-slot-len : goal.returns-then-slot-len
returns-then-slot-len c =
    (refl, refl, stays_far c.args.ir.now c.args.f.now c.args.slot c.args.taken.now (subst (λ n. 4194304 / (n + 1) < c.args.slot) c.len.ensures c.if-slot-len.true))

pub returns-then-not-marked : goal.returns-then-not-marked
returns-then-not-marked c = (refl, refl, stays_given c.args.ir.now c.args.f.now c.args.slot c.args.taken.now c.if-slot-f.true)

pub returns-then-not-all_agree : goal.returns-then-not-all_agree
returns-then-not-all_agree c =
    let code = c.args.f.now.code in
    let live = c.in_ok-live.live in
    let settled = subst (λ os. IsSettled c.args.ir.now c.args.slot live os) c.as_slice.ensures.value c.in_ok-live.ensures.settled in
    let least = subst (λ os. IsLeast c.args.ir.now c.args.slot live os) c.as_slice.ensures.value c.in_ok-live.ensures.least in
    let none : all_agree c.args.ir.now c.args.slot c.as_slice-marks.result.now 0 c.as_slice-2.result.now ≡ false = sym c.all_agree.ensures ∙ c.if-not-all_agree.true in
    let here = subst (λ os. all_agree c.args.ir.now c.args.slot c.as_slice-marks.result.now 0 os ≡ false) c.as_slice-2.ensures.value none in
    let fails = subst (λ marks. all_agree c.args.ir.now c.args.slot marks 0 code ≡ false) c.as_slice-marks.ensures.value here in
    (refl, refl, stays_apart c.args.ir.now c.args.f.now c.args.slot live c.args.taken.now settled least fails)

pub returns : goal.returns
returns c =
    let live = c.in_ok-live.live in
    let least = subst (λ os. IsLeast c.args.ir.now c.args.slot live os) c.as_slice.ensures.value c.in_ok-live.ensures.least in
    let busy = c.in_ok-busy.ensures in
    let old = c.args.taken.now in
    let facts = subst (λ r. MatchOption r ((c.take_row.new.taken ≡ old) × AreTaken old c.as_slice-3.result.now) (λ k. Takes k c.as_slice-3.result.now old c.take_row.new.taken)) c.in-None.is c.in_ok-k.ensures in
    let there = subst (λ (marks : List Bool). AreTaken old marks) (c.as_slice-3.ensures.value ∙ busy) facts.1 in
    let taken = subst (λ (marks : List Bool). AreTaken old (busy_of c.args.ir.now c.args.f.now c.args.slot marks)) c.as_slice-marks.ensures.value there in
    (refl, facts.0, stays_taken c.args.ir.now c.args.f.now c.args.slot live old least taken)
