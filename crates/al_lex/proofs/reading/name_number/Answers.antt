use Rattle.al_lex.proofs.NameLemmas.{number_kept}
use Rattle.al_lex.proofs.reading.name_number.Goals as goal

pub returns-in-Name-clause-number : goal.returns-in-Name-clause-number
returns-in-Name-clause-number c = number_kept c.number.result c.args.names.now c.number.new.self c.args.kind c.args.bytes.now c.in-Name.is c.number.ensures.names c.number.ensures.number
