use Rattle.std.proofs.Common.{◌≡◌, ℕ, ◌∙◌, ◌++◌, List, ap, take, drop, length, arith}
use Rattle.std.proofs.lemmas.Grind.{common_steps}
use Rattle.rv_exec.specs.Calls.{Goes, Asks}
use Rattle.rv_exec.specs.Step.{step}
use Rattle.rv_exec.specs.Machine.{ask, asked}
use Rattle.rv_exec.specs.Seen.{seen, words_of}
use Rattle.rv_exec.proofs.Stepping.{goes_on, asks_act}
use Rattle.rv_exec.proofs.run.stretch.Goals as goal

-- the words that were lent as a slice, given back
given_back : (lent words : List ℕ) (n m : ℕ) → n ≡ length lent → take n (lent ++ drop m words) ≡ lent
given_back lent words n m e = grind (arith, common_steps)

pub returns-in-Ok-Some-clause-asked : goal.returns-in-Ok-Some-clause-asked
returns-in-Ok-Some-clause-asked c =
    let image = c.contents-contents.result.now in
    let before = seen c.loop-state.state in
    let h = seen c.run.new.self in
    let p = words_of c.run.new.privates in
    let act = c.in-Ok-Some.act in
    let next = seen c.step.new.self in
    let lent = c.step.new.privates in
    let same : ask image h p ≡ ask image before (words_of c.as_mut_slice-slots.result.now) = rw c.contents-contents.ensures.value c.run.ensures.same in
    let steps : Asks act next (words_of lent) ≡ step image h p = rw c.in-Ok-Some.field-0-is at c.in-Ok-Some.ensures.asked in
    let long : c.loop-state.words.len ≡ length lent = omega (arith, c.step.auto.privates, c.run.auto.privates, c.as_mut_slice-slots.ensures.len) in
    let back = given_back lent c.loop-state.words.items c.loop-state.words.len (length lent) long in
    rw (← c.contents-contents.ensures.value)
    (c.asking.ensures.asked image ∙ ap (λ ws. asked image act next (words_of ws)) back ∙ asks_act image h p act next (words_of lent) c.run.ensures.most steps
    ∙ same ∙ ap (λ ws. ask image before (words_of ws)) c.as_mut_slice-slots.ensures.value ∙ c.loop-state.invariant.same)

pub loop-state-preserved : goal.loop-state-preserved
loop-state-preserved c =
    let image = c.contents-contents.result.now in
    let before = seen c.loop-state.state in
    let h = seen c.run.new.self in
    let p = words_of c.run.new.privates in
    let next = seen c.step.new.self in
    let lent = c.step.new.privates in
    let same : ask image h p ≡ ask image before (words_of c.as_mut_slice-slots.result.now) = rw c.contents-contents.ensures.value c.run.ensures.same in
    let work = rw c.in-Ok-None.field-0-is at c.in-Ok-None.ensures.work in
    let steps : Goes next (words_of lent) ≡ step image h p = rw c.in-Ok-None.field-0-is at c.in-Ok-None.ensures.asked in
    let long : c.loop-state.words.len ≡ length lent = omega (arith, c.step.auto.privates, c.run.auto.privates, c.as_mut_slice-slots.ensures.len) in
    let back = given_back lent c.loop-state.words.items c.loop-state.words.len (length lent) long in
    record {
      same =
          ap (λ ws. ask image next (words_of ws)) back ∙ goes_on image h p next (words_of lent) c.run.ensures.most work steps
          ∙ same ∙ ap (λ ws. ask image before (words_of ws)) c.as_mut_slice-slots.ensures.value ∙ c.loop-state.invariant.same;
      bytes = c.loop-state.invariant.bytes;
    }
