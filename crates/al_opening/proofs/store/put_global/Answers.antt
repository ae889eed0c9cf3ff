use Rattle.std.proofs.Common.{ap, sym, ◌∷◌, ◌∙◌}
use Rattle.al_world.specs.Step.{with_globals}
use Rattle.al_opening.proofs.Placed.{one_private, one_shared}
use Rattle.al_opening.proofs.store.put_global.Goals as goal

pub returns-then-global-clause-placed : goal.returns-then-global-clause-placed
returns-then-global-clause-placed c = λ rest. ap (λ bs. with_globals c.args.store.now.region bs c.args.store.now.blocks) (one_private c.args.p.now c.args.global.now rest c.if-global.true)

pub returns-clause-placed : goal.returns-clause-placed
returns-clause-placed c = λ rest.
    ap (λ bs. with_globals c.args.store.now.region bs c.args.store.now.blocks) (one_shared c.args.p.now c.args.global.now rest c.if-global.false ∙ ap (λ b. b ∷ rest) (sym (c.deref.ensures.value ∙ c.in_ok-bytes.ensures.bytes)))
    ∙ c.put_block.ensures.placed rest
