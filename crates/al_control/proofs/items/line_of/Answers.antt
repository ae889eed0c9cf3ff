use Rattle.std.proofs.Common.{◌∙◌, sym, ap}
use Rattle.al_meaning.specs.Parts.{line_of}
use Rattle.al_control.proofs.Lines.{line-Label, line-For, line-Rescue}
use Rattle.al_control.proofs.items.line_of.Goals as goal

pub returns-in-Label : goal.returns-in-Label
returns-in-Label c = sym (ap line_of c.in-Label.is ∙ line-Label c.in-Label.line c.in-Label.number _)

pub returns-in-For : goal.returns-in-For
returns-in-For c = sym (ap line_of c.in-For.is ∙ line-For c.in-For.line c.in-For.start c.in-For.condition c.in-For.step _)

pub returns-in-Rescue : goal.returns-in-Rescue
returns-in-Rescue c = sym (ap line_of c.in-Rescue.is ∙ line-Rescue c.in-Rescue.line c.in-Rescue.number _)
