use Rattle.std.proofs.Common.{◌∙◌, vec_len}
use Rattle.rv_exec.specs.Seen.{seen}
use Rattle.rv_exec.proofs.Room.{room_next, room_all}
use Rattle.rv_exec.proofs.state.State.make_room.Goals as goal

pub loop-k-preserved : goal.loop-k-preserved
loop-k-preserved c =
    let same = c.in_ok-make_room_for.ensures.same ∙ c.loop-k.invariant.same in
    record {
      same = same;
      room = room_next (seen c.args.self.now) _ c.args.branches.now c.loop-k.k _ _ same c.loop-k.invariant.room c.in_ok-make_room_for.ensures.grows (rw c.received.ensures at c.in_ok-make_room_for.ensures.room);
    }

pub returns-clause-room : goal.returns-clause-room
returns-clause-room c =
    room_all (seen c.args.self.now) (seen c.loop-k.self) c.args.branches.now c.loop-k.k (vec_len c.loop-k.self.stack) c.loop-k.invariant.same c.loop-k.invariant.room c.loop-k-test.false
