use Rattle.std.proofs.Common.{◌≡◌, ◌+◌, ◌<◌, ◌^◌, ◌∙◌, List, ℕ, min, length, ap, rules, arith}
use Rattle.al_typed.specs.Capped.{capped}
use Rattle.al_typed.specs.Layout.{words_of}
use Rattle.al_typed.specs.declared.program.Aggregate.{Aggregate}
use Rattle.al_walk_places.proofs.Savings.{saves_more, places_over, types_over}
use Rattle.al_walk_places.proofs.targets.saves.Goals as goal

pub loop-ty-preserved : goal.loop-ty-preserved
loop-ty-preserved c =
    let few : length c.args.words.now < 2 ^ 64 = search rules in
    let rest = c.loop-ty.rest.now in
    let within = c.loop-ty.invariant.within in
    let ty = c.ty-item.result in
    let back_len = c.split_at-cut.ensures.back_len in
    let taken = c.words_in.ensures ∙ ap (λ (rows : List Aggregate). capped (words_of rows ty.now)) c.as_slice.ensures.value in
    let count : c.min-count.result ≡ min (capped (words_of c.args.p.now.aggregates ty.now)) (length rest) = omega (arith, c.min-count.ensures, taken) in
    record {
      so_far =
          saves_more c.args.p.now c.args.types.now c.loop-ty.ty-index ty c.loop-ty.places c.pop.new.self c.in-Some.place c.loop-ty.works c.push.new.self rest
          c.in_ok-words-in-Some.words c.split_at-cut.result.1.now c.min-count.result _ c.loop-ty-test.true c.ty-item.is c.in-Some.ensures
          (omega (arith, few, within)) count (c.in_ok-words-in-Some.ensures ∙ c.split_at-cut.ensures.front) c.split_at-cut.ensures.back
          c.in_ok-push-in-Some.ensures.ok c.loop-ty.invariant.so_far;
      within = omega (arith, back_len, within);
    }

pub returns-in-None : goal.returns-in-None
returns-in-None c =
    places_over c.args.p.now _ c.loop-ty.places c.loop-ty.works c.loop-ty.rest.now _ c.in-None.ensures.0 c.loop-ty.invariant.so_far

pub returns : goal.returns
returns c =
    types_over c.args.p.now c.args.types.now c.loop-ty.ty-index c.loop-ty.places c.loop-ty.works c.loop-ty.rest.now _ c.loop-ty-test.false
    c.loop-ty.invariant.so_far
