use Rattle.std.proofs.Common.{ap, sym, ◌∷◌, ◌∙◌}
use Rattle.al_world.specs.Step.{with_globals}
use Rattle.al_opening.proofs.Placed.{text_is}
use Rattle.al_opening.proofs.store.put_text.Goals as goal

pub returns-clause-placed : goal.returns-clause-placed
returns-clause-placed c = λ rest.
    ap (λ bs. with_globals c.args.store.now.region bs c.args.store.now.blocks) (text_is c.args.text.now rest ∙ ap (λ b. b ∷ rest) (sym (c.deref.ensures.value ∙ c.in_ok-bytes.ensures)))
    ∙ c.put_block.ensures.placed rest
