use Rattle.std.proofs.Common.{refl, arith}
use Rattle.alt_select.proofs.Counts.{pick_within, get_at, pair_here, pair_later}
use Rattle.alt_select.proofs.pairs.locate.Goals as goal

pub loop-number-init : goal.loop-number-init
loop-number-init c =
    let w = pick_within c.args.book.now.book c.args.branches.now c.args.pick c.requires in
    record { within = w.0; small = w.1; pair = refl }

pub returns-then-place-here : goal.returns-then-place-here
returns-then-place-here c =
    let h = c.loop-number.invariant in
    let w = pick_within c.args.book.now.book c.args.branches.now c.args.pick c.requires in
    record {
      branch = c.index-branches-number.result;
      is = get_at c.loop-number.number c.args.branches.now c.index-branches-number.result c.loop-number-test.true c.index-branches-number.is;
      pair = pair_here c.args.book.now.book c.args.branches.now c.args.pick c.loop-number.place c.loop-number.number c.pairs-here.result c.index-branches-number.result c.loop-number-test.true c.index-branches-number.is c.pairs-here.ensures h.pair (omega arith) w.1;
    }

pub loop-number-preserved : goal.loop-number-preserved
loop-number-preserved c =
    let h = c.loop-number.invariant in
    let later = pair_later c.args.book.now.book c.args.branches.now c.args.pick c.loop-number.place c.loop-number.number c.pairs-here.result c.index-branches-number.result c.loop-number-test.true c.index-branches-number.is c.pairs-here.ensures h.pair (omega arith) h.within in
    record { within = later.0; small = (let small = h.small in omega (arith, small)); pair = later.1 }
