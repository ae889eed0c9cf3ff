use Rattle.al_link_lists.proofs.Unique.{reading_of, reading_once}
use Rattle.al_link_lists.proofs.reading.read_list.Goals as goal

pub returns-clause-only : goal.returns-clause-only
returns-clause-only c = λ r is no some.
    reading_once c.args.text.now c.names_of.result r (reading_of c.args.text.now c.names_of.result c.names_of.ensures.list c.names_of.ensures.wrong) is some no
