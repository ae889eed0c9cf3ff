use Rattle.std.proofs.Common.{◌<◌, arith}
use Rattle.al_core.proofs.world.World.make_first.Goals as goal

pub unreachable-requires : goal.unreachable-requires
unreachable-requires c = let p : 0 < 0 = c.in-Err-default-NotPermitted.ensures.picked c.in-Err-default-NotPermitted.field-0-1-is in omega (arith, p)
