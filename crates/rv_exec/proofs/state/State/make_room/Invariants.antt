use Rattle.std.proofs.Common.{◌≡◌, vec_len}
use Rattle.rv_exec.specs.Seen.{seen}
use Rattle.rv_exec.proofs.Room.{RoomUpTo}
use Rattle.rv_exec.proofs.state.State.make_room.Given as goal

-- there is room for the branches so far
abbrev pub invariant-loop-k : goal.invariant-loop-k
invariant-loop-k l = record {
  same : seen l.self ≡ seen l.fn.self;
  room : RoomUpTo (seen l.fn.self) l.branches (vec_len l.self.stack) l.k;
}
