-- A pass may cross threads, and so may a type that has one. Where a call asks `Send` of such a type, a caller answers
-- that goal by `search crossing depth 40`: the tactic's own search leaves out what is below.
use denote.Param.Send.{sendable}
use Rattle.std.proofs.Crossing.{crosses}
use Rattle.atomic_table.proofs.badge.Badge.TheSendSync as badge

pub ruleset crossing = (sendable, crosses, badge.the_send)
