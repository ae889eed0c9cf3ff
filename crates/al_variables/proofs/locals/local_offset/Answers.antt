use Rattle.std.proofs.Common.{◌≡◌, min, length, List, subst, arith}
use Rattle.al_typed.specs.Capped.{capped}
use Rattle.al_typed.specs.declared.program.Aggregate.{Aggregate}
use Rattle.al_variables.specs.Placing.{end_of, first_of}
use Rattle.al_variables.proofs.Placements.{offset_cut}
use Rattle.al_variables.proofs.locals.local_offset.Goals as goal

pub returns : goal.returns
returns c =
    let parts = c.split_at-parts.result in
    let cut : c.min.result ≡ min c.args.number (length c.args.locals.now) = omega (arith, c.min.ensures) in
    offset_cut c.args.p.now c.args.locals.now parts.0.now parts.1.now c.args.number c.min.result c.first_of.result cut c.split_at-parts.ensures.front c.split_at-parts.ensures.back
    (subst (λ (rows : List Aggregate). c.first_of.result ≡ capped (first_of rows (end_of rows 0 parts.0.now) parts.1.now)) c.as_slice-rows.ensures.value
    (c.first_of.ensures (end_of c.as_slice-rows.result.now 0 parts.0.now) c.end_of.ensures))
