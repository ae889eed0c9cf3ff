use Rattle.std.proofs.Common.{option_map}
use Rattle.al_type_stmt.specs.Statements.{part, inner, optional, condition_of}
use Rattle.al_type_stmt.proofs.StatementsAre.{way-If}
use Rattle.al_type_stmt.proofs.stmt.+statements.Goals as goal

pub statement-returns-in-If-clause-answer : goal.statement-returns-in-If-clause-answer
statement-returns-in-If-clause-answer t c =
    let env = c.args.env.now in
    let here = c.args.here.now in
    let p = part c.args.w.now env here in
    let met = rw c.get-in-If.ensures at c.boxed-met.ensures.answer in
    let other = rw c.boxed-met.ensures.same at c.optional_statement-other.ensures.answer in
    rw (c.in-If.is, way-If)
    (c.if_made.ensures (condition_of env here c.in-If.condition) (inner (p c.in-If.then)) (optional inner (option_map p c.in-If.other)) c.condition_of-condition.ensures met other)
