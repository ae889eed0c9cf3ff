use Rattle.std.proofs.Common.{ap, ◌∙◌}
use Rattle.al_lower_parts.specs.Parts.{passed_words}
use Rattle.al_lower_parts.proofs.members.pointed_object_words.Goals as goal

pub returns : goal.returns
returns c = c.passed_words.ensures ∙ ap (passed_words c.args.how) c.in_ok-n.ensures
