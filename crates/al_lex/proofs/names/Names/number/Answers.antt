use Rattle.std.proofs.Common.{ap, ◌∙◌}
use Rattle.std.specs.List.{position_or_len}
use Rattle.al_lex.specs.Written.{noted, same_bytes}
use Rattle.al_lex.proofs.NameLemmas.{bytes_all, noted_bytes, position_bytes}
use Rattle.al_lex.proofs.names.Names.number.Goals as goal

pub returns-clause-names : goal.returns-clause-names
returns-clause-names c = ap bytes_all c.in_ok-number.ensures.keys ∙ noted_bytes c.self.inside.set.keys c.args.name ∙ ap (λ l. noted l c.args.name.now) c.self.view_is

pub returns-clause-number : goal.returns-clause-number
returns-clause-number c = c.in_ok-number.ensures.index ∙ position_bytes c.args.name c.self.inside.set.keys ∙ ap (λ l. position_or_len (same_bytes c.args.name.now) l) c.self.view_is
