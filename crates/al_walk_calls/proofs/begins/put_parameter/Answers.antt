use Rattle.std.proofs.Common.{◌∙◌}
use Rattle.al_walk_calls.proofs.BegunFrames.{none_put, stored_there}
use Rattle.al_walk_calls.proofs.begins.put_parameter.Goals as goal

pub returns-then-not-local : goal.returns-then-not-local
returns-then-not-local c = none_put c.args.local.now _ _ c.if-not-local.true

pub returns : goal.returns
returns c =
    c.in_ok-pushed.ensures ∙ stored_there c.args.line c.args.number c.args.local.now c.in_ok-words.words _ _ c.if-not-local.false (c.in_ok-words.ensures ∙ c.first_words-own.ensures)
