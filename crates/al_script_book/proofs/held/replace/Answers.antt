use Rattle.std.proofs.Common.{◌∙◌, arith}
use Rattle.al_script_book.proofs.Channels.{replaces, replaces_nothing}
use Rattle.al_script_book.proofs.held.replace.Goals as goal

pub returns-then-place-len : goal.returns-then-place-len
returns-then-place-len c = c.set.ensures ∙ replaces c.args.chan _ _ (omega arith)

pub returns-else-place-len : goal.returns-else-place-len
returns-else-place-len c = replaces_nothing c.args.chan _ _ (omega arith) (omega arith)
