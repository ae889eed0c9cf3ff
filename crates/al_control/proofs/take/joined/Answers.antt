use Rattle.std.proofs.Common.{◌++◌, ◌∙◌, ℕ, List, ap}
use Rattle.al_meaning.specs.Calls.{joined}
use Rattle.al_control.proofs.JoinedWords.{value_joined, all_joined}
use Rattle.al_control.proofs.take.joined.Goals as goal

pub loop-more-preserved : goal.loop-more-preserved
loop-more-preserved c =
    ap (λ (ws : List ℕ). ws ++ joined c.pop.new.self) c.in_ok-append.ensures.ok
    ∙ value_joined c.loop-more.values c.pop.new.self c.loop-more.words c.in-Some.more _ c.in-Some.ensures c.loop-more.invariant

pub returns : goal.returns
returns c = all_joined c.loop-more.values c.loop-more.words _ c.in_default.ensures.0 c.loop-more.invariant
