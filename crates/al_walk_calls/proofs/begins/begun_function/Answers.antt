use Rattle.std.proofs.Common.{◌≡◌, min, length, arith}
use Rattle.al_walk_calls.proofs.BegunFrames.{frame_begun}
use Rattle.al_walk_calls.proofs.begins.begun_function.Goals as goal

pub returns : goal.returns
returns c =
    let kept : c.min-count.result ≡ min (length c.args.f.now.around) (length c.args.words.now) = omega (arith, c.min-count.ensures, c.len.ensures) in
    frame_begun c.args.p.now c.args.number c.min-count.result c.args.f.now c.args.words.now c.in_ok-locals.locals c.in_ok-around.around c.split_at-parts.result.0.now
    c.new-turns.result c.in_ok-items.items c.new-found.result c.as_slice.result.now c.as_slice.ensures.value c.in_ok-locals.ensures kept c.split_at-parts.ensures.front
    c.in_ok-around.ensures c.new-turns.ensures c.new-found.ensures c.in_ok-items.ensures
