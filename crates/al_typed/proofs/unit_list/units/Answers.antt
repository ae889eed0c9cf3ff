use Rattle.al_typed.proofs.Placing.{put_whole}
use Rattle.al_typed.proofs.unit_list.units.Goals as goal

pub returns : goal.returns
returns c =
    put_whole c.new-out.result c.put.new.out c.into_vec.result.items c.args.p.now.aggregates c.as_slice.result.now c.args.ty.now
    c.new-out.ensures c.in_ok-put.ensures c.into_vec.ensures c.as_slice.ensures.value
