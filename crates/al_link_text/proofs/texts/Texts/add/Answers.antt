use Rattle.std.proofs.Common.{◌∷◌, [], ◌++◌, ap, ◌∙◌}
use Rattle.al_link_text.specs.Linked.{among}
use Rattle.al_link_text.proofs.Alike.{alike_from}
use Rattle.al_link_text.proofs.TextsAre.{texts_of, added}
use Rattle.al_link_text.proofs.texts.Texts.add.Goals as goal

pub returns : goal.returns
returns c = alike_from _ _ (λ other.
    ap (λ l. among (texts_of l) other) c.in_ok-insert.ensures.keys ∙ added c.self.inside.set.keys c.args.text other
    ∙ ap (λ l. among (l ++ c.args.text.items ∷ []) other) c.self.view_is)
