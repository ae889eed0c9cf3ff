use Rattle.std.proofs.Common.{◌≡◌, ◌+◌, ◌-◌, ◌≤◌}
use Rattle.al_tree.specs.Leaves.{leaves_of}
use Rattle.al_parse_member.specs.Members.{member, adt_members_from}
use Rattle.al_parse_member.proofs.members.Rules.adt_members_from.Given as goal

abbrev pub invariant-loop-turn : goal.invariant-loop-turn
invariant-loop-turn g l = record { reads : adt_members_from (leaves_of l.self.context.text.now) l.self.context.types.now l.self.context.turns l.self.context.depth (member (leaves_of l.self.context.text.now) l.self.context.types.now l.self.context.turns l.self.context.depth) l.self.context.turns l.fn.found l.fn.height l.fn.tokens ≡ adt_members_from (leaves_of l.self.context.text.now) l.self.context.types.now l.self.context.turns l.self.context.depth (member (leaves_of l.self.context.text.now) l.self.context.types.now l.self.context.turns l.self.context.depth) (l._turn-end - l._turn) l.found l.height l.tokens; low : l.height ≤ l.self.context.depth + 1 }
