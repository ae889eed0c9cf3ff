use Rattle.std.proofs.Common.{◌+◌, ◌-◌, ◌^◌, ◌∙◌, ℕ, ap₂, length, min}
use Rattle.al_walk_actions.proofs.Verbs.{past}
use Rattle.al_walk_actions.proofs.print.is_past.Goals as goal

pub returns : goal.returns
returns c =
    past (length c.args.text.now + length c.args.more.now) c.saturating_add-all.result
    (c.saturating_add-all.ensures ∙ ap₂ (λ (a b : ℕ). min (a + b) (2 ^ 64 - 1)) c.len-own.ensures c.len-further.ensures)
