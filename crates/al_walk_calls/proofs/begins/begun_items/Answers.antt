use Rattle.std.proofs.Common.{◌∙◌}
use Rattle.al_walk_calls.proofs.BegunFrames.{items_begun}
use Rattle.al_walk_calls.proofs.begins.begun_items.Goals as goal

pub returns : goal.returns
returns c =
    items_begun c.args.p.now c.args.f.now c.args.words.now c.in_ok-items.items c.in_ok-stores.stores _ c.from_vec.result c.in_ok-body.body c.in_ok-items.ensures
    c.in_ok-stores.ensures c.in_ok-body.ensures c.in_ok-append.ensures.ok (c.from_vec.ensures ∙ c.into_vec.ensures ∙ c.in_ok-push.ensures.ok)
