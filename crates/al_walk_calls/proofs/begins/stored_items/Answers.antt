use Rattle.std.proofs.Common.{◌≡◌, ap, map, min, length, arith}
use Rattle.al_meaning.specs.Parts.{item}
use Rattle.al_control.specs.Models.{item_of}
use Rattle.al_walk_calls.proofs.BegunFrames.{parameters_cut}
use Rattle.al_walk_calls.proofs.Onward.{goes}
use Rattle.al_walk_calls.proofs.begins.stored_items.Goals as goal

pub returns : goal.returns
returns c =
    let cut : c.min-count.result ≡ min c.args.f.now.parameters (length c.as_slice-locals.result.now) = omega (arith, c.min-count.ensures) in
    goes c.parameter_items.result (map item_of) _ _
    (ap (map (item c.args.f.now.line))
    (parameters_cut c.args.p.now c.args.f.now.parameters c.min-count.result c.args.f.now.locals c.as_slice-locals.result.now c.split_at-parts.result.0.now c.args.words.now
    c.as_slice-locals.ensures.value cut c.split_at-parts.ensures.front))
    c.parameter_items.ensures
