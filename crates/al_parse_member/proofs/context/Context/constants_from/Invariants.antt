use Rattle.std.proofs.Common.{◌≡◌, ◌-◌, ◌≤◌}
use Rattle.al_tree.specs.Leaves.{leaves_of}
use Rattle.al_parse_member.specs.Members.{constants_from}
use Rattle.al_parse_member.proofs.context.Context.constants_from.Given as goal

abbrev pub invariant-loop-turn : goal.invariant-loop-turn
invariant-loop-turn l = record { reads : constants_from (leaves_of l.self.text.now) l.self.types.now l.self.turns l.self.depth l.self.turns l.fn.found l.fn.height l.fn.tokens ≡ constants_from (leaves_of l.self.text.now) l.self.types.now l.self.turns l.self.depth (l._turn-end - l._turn) l.found l.height l.tokens; low : l.height ≤ l.self.depth }
