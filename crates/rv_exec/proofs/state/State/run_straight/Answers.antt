use Rattle.std.proofs.Common.{◌≡◌, ◌+◌, ◌*◌, ◌<◌, length, refl, ap, ◌∙◌, arith}
use Rattle.std.proofs.lemmas.Option.{slice_get-get_or}
use Rattle.rv_isa.specs.declared.addresses.TheConstants.{CODE_START}
use Rattle.rv_exec.specs.Machine.{ask, longest_stretch}
use Rattle.rv_exec.specs.Seen.{seen, words_of}
use Rattle.rv_exec.proofs.Running.{turns}
use Rattle.rv_exec.proofs.state.State.run_straight.Goals as goal

pub returns-in-Leapt-clause-same : goal.returns-in-Leapt-clause-same
returns-in-Leapt-clause-same c image all size =
    let at = c.loop-at.at in
    let work = c.loop-at.work in
    let less : work < longest_stretch = omega arith in
    let same_size : image.privates ≡ 4 * length c.loop-at.privates = omega (arith, c.loop-at.auto.privates) in
    turns image (seen c.loop-at.self) (words_of c.loop-at.privates) at work c.args.code.now _ _ (seen c.carry_out.new.self) (words_of c.carry_out.new.privates)
    all (slice_get-get_or c.args.code.now at _ c.loop-at-test.true) same_size less (c.carry_out.ensures.work c.in-Leapt.is) (c.carry_out.ensures.leapt c.in-Leapt.is)
    ∙ c.loop-at.invariant.same image all same_size

pub loop-at-preserved : goal.loop-at-preserved
loop-at-preserved c = record {
  same = λ image all size.
      let at = c.loop-at.at in
      let work = c.loop-at.work in
      let next = seen c.carry_out.new.self in
      let q = words_of c.carry_out.new.privates in
      let less : work < longest_stretch = omega arith in
      let same_size : image.privates ≡ 4 * length c.loop-at.privates = omega (arith, c.carry_out.auto.privates) in
      let further : CODE_START + 4 * (at + 1) ≡ CODE_START + 4 * at + 4 = omega arith in
      ap (λ n. ask image (record next { pc = n; work = work + 1 }) q) further
      ∙ turns image (seen c.loop-at.self) (words_of c.loop-at.privates) at work c.args.code.now _ _ (record next { pc = CODE_START + 4 * at + 4; work = work + 1 }) q
      all (slice_get-get_or c.args.code.now at _ c.loop-at-test.true) same_size less refl (c.carry_out.ensures.on c.in-On.is)
      ∙ c.loop-at.invariant.same image all same_size;
  zero = c.carry_out.ensures.zero;
  work = omega arith;
}
