use Rattle.std.proofs.Common.{◌∙◌, sym}
use Rattle.al_statements.proofs.FormsAre.{form-rest}
use Rattle.al_statements.proofs.cases.form_of.Goals as goal

pub returns-in_default : goal.returns-in_default
returns-in_default c = c.kept-in_default.ensures ∙ sym (form-rest c.args.e c.in_default.not-Receive c.in_default.not-Convert c.in_default.not-Assign c.in_default.not-Send)
