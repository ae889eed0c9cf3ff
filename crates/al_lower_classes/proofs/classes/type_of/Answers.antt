use Rattle.std.proofs.Common.{◌≡◌, min, length, arith}
use Rattle.al_lower_classes.proofs.FunctionTypes.{type_is}
use Rattle.al_lower_classes.proofs.classes.type_of.Goals as goal

pub returns : goal.returns
returns c =
    let cut : c.min-count.result ≡ min c.args.f.now.parameters (length c.as_slice-locals.result.now) = omega (arith, c.min-count.ensures) in
    type_is c.args.f.now c.as_slice-locals.result.now c.split_at-parts.result.0.now c.min-count.result c.in_ok-returns.returns c.in_ok-parameters.parameters
    c.as_slice-locals.ensures.value cut c.split_at-parts.ensures.front c.in_ok-parameters.ensures c.in_ok-returns.ensures
