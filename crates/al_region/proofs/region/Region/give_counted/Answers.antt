use Rattle.std.proofs.Common.{◌≡◌, ◌-◌, true, List, sym, ap, arith}
use Rattle.std.specs.List.{list_any}
use Rattle.al_event.specs.Store.{Span, begins_at}
use Rattle.al_run_tree.specs.Tree.{blocks}
use Rattle.al_run_tree.specs.Table.{span_of}
use Rattle.al_region.specs.Kept.{tree_at}
use Rattle.al_region.proofs.Calls.{is_there, has_block, some_live, gave-kept, gave-sound, gave-blocks}
use Rattle.al_region.proofs.region.Region.give_counted.Goals as goal

pub take_out-out-requires : goal.take_out-out-requires
take_out-out-requires g c =
    let there : list_any (begins_at c.args.at c.args.kind) (blocks (tree_at c.self.inside.nodes c.self.inside.top)) ≡ true = rw (← c.self.view_is) at (sym c.if-not-has_block.ensures.there) in
    has_block c.self.inside.bytes c.self.inside.nodes c.self.inside.top c.self.inside.live c.self.inside.used c.self.inside.free.items c.self.invariant.sound c.self.invariant.kept c.args.at c.args.kind there

pub invariant_of-self : goal.invariant_of-self
invariant_of-self g c =
    let there : list_any (begins_at c.args.at c.args.kind) (blocks (tree_at c.self.inside.nodes c.self.inside.top)) ≡ true = rw (← c.self.view_is) at (sym c.if-not-has_block.ensures.there) in
    record {
      sound = gave-sound c.self.inside.bytes c.self.inside.nodes c.self.inside.top c.self.inside.live c.self.inside.used c.self.inside.free.items c.self.invariant.sound c.self.invariant.kept c.args.at c.args.kind there c.take_out-out.new.nodes c.take_out-out.result.rest c.take_out-out.result.index (span_of c.take_out-out.result.block) (c.take_out-out.ensures.tree (tree_at c.self.inside.nodes c.self.inside.top) c.self.invariant.kept.is (is_there c.self.inside.bytes c.self.inside.nodes c.self.inside.top c.self.inside.live c.self.inside.used c.self.inside.free.items c.self.invariant.sound c.self.invariant.kept c.args.at c.args.kind there)) (c.self.inside.live - 1) (omega (arith, some_live c.self.inside.bytes c.self.inside.nodes c.self.inside.top c.self.inside.live c.self.inside.used c.self.inside.free.items c.self.invariant.sound c.self.invariant.kept c.args.at c.args.kind there)) c.push.new.self.items c.in-Ok.ensures.items;
      kept = gave-kept c.self.inside.bytes c.self.inside.nodes c.self.inside.top c.self.inside.live c.self.inside.used c.self.inside.free.items c.self.invariant.sound c.self.invariant.kept c.args.at c.args.kind there c.take_out-out.new.nodes c.take_out-out.result.rest c.take_out-out.result.index (span_of c.take_out-out.result.block) (c.take_out-out.ensures.tree (tree_at c.self.inside.nodes c.self.inside.top) c.self.invariant.kept.is (is_there c.self.inside.bytes c.self.inside.nodes c.self.inside.top c.self.inside.live c.self.inside.used c.self.inside.free.items c.self.invariant.sound c.self.invariant.kept c.args.at c.args.kind there)) (c.self.inside.live - 1) (omega (arith, some_live c.self.inside.bytes c.self.inside.nodes c.self.inside.top c.self.inside.live c.self.inside.used c.self.inside.free.items c.self.invariant.sound c.self.invariant.kept c.args.at c.args.kind there)) c.push.new.self.items c.in-Ok.ensures.items;
      room = omega (arith, c.in-Ok.ensures.capacity, c.self.invariant.room);
    }

pub returns-clause-given : goal.returns-clause-given
returns-clause-given g c =
    let there : list_any (begins_at c.args.at c.args.kind) (blocks (tree_at c.self.inside.nodes c.self.inside.top)) ≡ true = rw (← c.self.view_is) at (sym c.if-not-has_block.ensures.there) in
    rw (← c.self.view_is) (ap (λ (bs : List Span). record { bytes = c.self.inside.bytes; blocks = bs }) (gave-blocks c.self.inside.bytes c.self.inside.nodes c.self.inside.top c.self.inside.live c.self.inside.used c.self.inside.free.items c.self.invariant.sound c.self.invariant.kept c.args.at c.args.kind there c.take_out-out.new.nodes c.take_out-out.result.rest c.take_out-out.result.index (span_of c.take_out-out.result.block) (c.take_out-out.ensures.tree (tree_at c.self.inside.nodes c.self.inside.top) c.self.invariant.kept.is (is_there c.self.inside.bytes c.self.inside.nodes c.self.inside.top c.self.inside.live c.self.inside.used c.self.inside.free.items c.self.invariant.sound c.self.invariant.kept c.args.at c.args.kind there)) (c.self.inside.live - 1) (omega (arith, some_live c.self.inside.bytes c.self.inside.nodes c.self.inside.top c.self.inside.live c.self.inside.used c.self.inside.free.items c.self.invariant.sound c.self.invariant.kept c.args.at c.args.kind there)) c.push.new.self.items c.in-Ok.ensures.items))

pub returns-clause-sound : goal.returns-clause-sound
returns-clause-sound g c =
    let there : list_any (begins_at c.args.at c.args.kind) (blocks (tree_at c.self.inside.nodes c.self.inside.top)) ≡ true = rw (← c.self.view_is) at (sym c.if-not-has_block.ensures.there) in
    gave-sound c.self.inside.bytes c.self.inside.nodes c.self.inside.top c.self.inside.live c.self.inside.used c.self.inside.free.items c.self.invariant.sound c.self.invariant.kept c.args.at c.args.kind there c.take_out-out.new.nodes c.take_out-out.result.rest c.take_out-out.result.index (span_of c.take_out-out.result.block) (c.take_out-out.ensures.tree (tree_at c.self.inside.nodes c.self.inside.top) c.self.invariant.kept.is (is_there c.self.inside.bytes c.self.inside.nodes c.self.inside.top c.self.inside.live c.self.inside.used c.self.inside.free.items c.self.invariant.sound c.self.invariant.kept c.args.at c.args.kind there)) (c.self.inside.live - 1) (omega (arith, some_live c.self.inside.bytes c.self.inside.nodes c.self.inside.top c.self.inside.live c.self.inside.used c.self.inside.free.items c.self.invariant.sound c.self.invariant.kept c.args.at c.args.kind there)) c.push.new.self.items c.in-Ok.ensures.items
