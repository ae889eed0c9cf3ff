use Rattle.std.proofs.Common.{◌+◌, ap, ◌∙◌, length, arith}
use Rattle.al_core.specs.Kept.{history_of}
use Rattle.al_core.proofs.Clearing.{dropping, all_shown, shown_fits}
use Rattle.al_core.proofs.world.World.clear_output.Goals as goal

pub overflow_add-self : goal.overflow_add-self
overflow_add-self c =
    let f = shown_fits _ _ c.self.invariant.stands in
    let e = ap length c.output.ensures in
    omega (arith, f, e)

pub returns : goal.returns
returns c =
    ap (λ n. record (history_of c.self.inside) { dropped = n }) (ap (λ l. c.self.inside.dropped + length l) c.output.ensures ∙ all_shown _ _ c.self.invariant.stands) ∙ ap dropping c.self.view_is
