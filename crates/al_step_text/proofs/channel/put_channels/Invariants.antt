use Rattle.std.proofs.Common.{◌≡◌, ◌++◌}
use Rattle.al_step_text.specs.StepText.{channel_lines}
use Rattle.al_step_text.proofs.channel.put_channels.Given as goal

abbrev pub invariant-loop-number : goal.invariant-loop-number
invariant-loop-number l = l.out ≡ l.fn.out ++ channel_lines l.book.waiting l.book.channels l.number
