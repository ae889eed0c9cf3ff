use Rattle.std.proofs.Common.{sym, subst}
use Rattle.alef_texts.specs.CheckMode.{EndsText}
use Rattle.alef_texts.proofs.Checks.{ends_text}
use Rattle.alef_texts.proofs.checking.checked.Goals as goal

pub returns : goal.returns
returns c = subst (EndsText c.args.text.now) (sym c.end_of.ensures) (ends_text c.args.text.now c.front.result c.front.ensures.program c.front.ensures.refused)
