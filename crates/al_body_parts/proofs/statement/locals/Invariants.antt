use Rattle.std.proofs.Common.{◌≡◌, drop}
use Rattle.al_body_parts.specs.Expressions.{each}
use Rattle.al_body_parts.specs.Statements.{variable}
use Rattle.al_body_parts.proofs.statement.locals.Given as goal

abbrev pub invariant-loop-v : goal.invariant-loop-v
invariant-loop-v l =
    each (variable l.env l.here l.base) l.list l.inside l.fn.parts ≡ each (variable l.env l.here l.base) (drop l.v-index l.list) l.inside l.parts
