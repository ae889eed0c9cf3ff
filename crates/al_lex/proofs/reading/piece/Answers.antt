use Rattle.std.proofs.Common.{sym}
use Rattle.std.proofs.lemmas.List.{take_rest}
use Rattle.al_lex.proofs.Steppings.{stepped, fault_from}
use Rattle.al_lex.proofs.reading.piece.Goals as goal

pub returns-in-Ok-clause-next : goal.returns-in-Ok-clause-next
returns-in-Ok-clause-next c =
    let value = rw (take_rest c.args.text.now c.args.here.at) at c.in-Ok.ensures.value in
    let walked = rw (take_rest c.args.text.now c.args.here.at) at c.behind_bytes.ensures in
    (stepped c.args.text.now c.args.here c.behind_bytes.result c.in-Ok.found c.requires.more c.requires.at (sym value) walked).is

pub returns-in-Ok-clause-at : goal.returns-in-Ok-clause-at
returns-in-Ok-clause-at c =
    let value = rw (take_rest c.args.text.now c.args.here.at) at c.in-Ok.ensures.value in
    let walked = rw (take_rest c.args.text.now c.args.here.at) at c.behind_bytes.ensures in
    (stepped c.args.text.now c.args.here c.behind_bytes.result c.in-Ok.found c.requires.more c.requires.at (sym value) walked).at

pub returns-in-Err-clause-fault : goal.returns-in-Err-clause-fault
returns-in-Err-clause-fault c =
    let value = rw (take_rest c.args.text.now c.args.here.at) at c.in-Err.ensures.value in
    fault_from c.args.text.now c.args.here c.in-Err.flaw c.requires.more c.requires.at (sym value)
