use Rattle.std.proofs.Common.{ap, sym, ◌∙◌}
use Rattle.al_convert.specs.Kinds.{element_of}
use Rattle.al_convert.specs.Conversions.{channels_convert, type_converts}
use Rattle.al_convert.proofs.ConversionsAre.{type_converts-Chan}
use Rattle.al_convert.proofs.conversion.+type_converts.Goals as goal

pub type_converts-returns-in-Chan : goal.type_converts-returns-in-Chan
type_converts-returns-in-Chan t c =
    c.channels_convert.ensures
    ∙ ap (channels_convert c.get-in-Chan.result.now) c.element_of.ensures
    ∙ ap (λ a. channels_convert a (element_of c.args.to.now)) c.get-in-Chan.ensures
    ∙ sym (type_converts-Chan c.in-Chan.element c.in-Chan.capacity c.args.to.now)
    ∙ ap (λ f. type_converts f c.args.to.now) (sym c.in-Chan.is)
