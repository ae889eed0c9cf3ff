use Rattle.std.proofs.Common.{◌≡◌, ◌<◌, ◌^◌, List, subst}
use Rattle.std.specs.Prelude.{MatchOption}
use Rattle.al_typed.specs.declared.program.Aggregate.{Aggregate}
use Rattle.al_typed.specs.Layout.{words_of}
use Rattle.al_walk_actions.proofs.acts.count_words.Goals as goal

pub returns : goal.returns
returns c =
    let t = c.args.ty.now in
    subst (λ (rows : List Aggregate). MatchOption c.few_words.result (words_of rows t < 2 ^ 32 → ⊥) (λ words. words ≡ words_of rows t)) c.as_slice.ensures.value c.few_words.ensures
