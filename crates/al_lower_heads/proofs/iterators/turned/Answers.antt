use Rattle.al_lower_base.specs.Spots.{spot_of}
use Rattle.al_lower_heads.proofs.Turning.{turned_all}
use Rattle.al_lower_heads.proofs.iterators.turned.Goals as goal

pub returns : goal.returns
returns c =
    turned_all c.ends.result (spot_of c.args.s) c.args.count c.args.s.turns c.args.bound c.in_ok-size.size c.args.body c.args.pc c.args.code.now c.begins.new.code
    c.append.new.self c.ends.new.code c.in_ok-size.ensures c.in_ok-begins.ensures c.in_ok-append.ensures.ok c.ends.ensures
