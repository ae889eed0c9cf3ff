use Rattle.std.proofs.Common.{◌∙◌, ap}
use Rattle.al_meaning.specs.Words.{zero_words}
use Rattle.al_walk_calls.proofs.GivenFrames.{none_given, zeros_given}
use Rattle.al_walk_calls.proofs.ends.zero_given.Goals as goal

pub returns-then-is_void : goal.returns-then-is_void
returns-then-is_void c = none_given c.args.p.now c.args.ty.now c.if-is_void.ensures

pub returns : goal.returns
returns c =
    zeros_given c.args.p.now c.args.ty.now c.in_ok-words.words c.if-is_void.ensures (c.in_ok-words.ensures ∙ ap zero_words c.small_words.ensures)
