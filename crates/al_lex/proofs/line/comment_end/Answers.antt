use Rattle.std.proofs.Common.{sym, ◌∙◌}
use Rattle.std.proofs.lemmas.List.{take_rest}
use Rattle.al_lex.proofs.Steps.{comment_more}
use Rattle.al_lex.proofs.line.comment_end.Goals as goal

pub loop-at-preserved : goal.loop-at-preserved
loop-at-preserved c =
    let value = rw (take_rest c.args.rest.now c.loop-at.at) at c.starts_with.ensures.value in
    comment_more c.args.rest.now c.loop-at.at c.loop-at-test.true (sym value ∙ c.if-starts_with.false) c.loop-at.invariant
