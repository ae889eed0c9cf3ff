use Rattle.al_walk_calls.proofs.BegunFrames.{none_begun}
use Rattle.al_walk_calls.proofs.begins.no_function.Goals as goal

pub returns : goal.returns
returns c =
    λ p words.
    none_begun p c.args.number words c.new-locals.result c.new-around.result c.new-turns.result c.new-items.result c.new-found.result c.new-locals.ensures
    c.new-around.ensures c.new-turns.ensures c.new-items.ensures c.new-found.ensures
