use Rattle.std.proofs.Common.{ap, ◌∙◌}
use Rattle.al_link_text.specs.Linked.{among}
use Rattle.al_link_text.proofs.TextsAre.{any_text}
use Rattle.al_link_text.proofs.texts.Texts.has.Goals as goal

pub returns : goal.returns
returns c = c.contains.ensures ∙ any_text c.args.text.now c.self.inside.set.keys ∙ ap (λ l. among l c.args.text.now) c.self.view_is
