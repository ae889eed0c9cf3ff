use Rattle.std.proofs.Common.{◌++◌, ◌∙◌, ◌+◌, ◌-◌, ◌/◌, List, ℕ, ap}
use Rattle.al_event.specs.Store.{bytes_of}
use Rattle.al_control_values.proofs.SpelledBytes.{byte_put}
use Rattle.al_control_values.proofs.members.put_bytes.Goals as goal

pub loop-preserved : goal.loop-preserved
loop-preserved c =
    ap (λ (o : List ℕ). o ++ bytes_of (c.args.size - (c.loop.counter + 1)) (c.loop.left / 256)) c.in_ok-push.ensures.ok
    ∙ byte_put c.args.size c.loop.counter c.loop.left c.loop.out _ c.loop-test.true c.loop.invariant
