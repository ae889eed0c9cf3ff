use Rattle.std.proofs.Common.{◌≡◌, ◌-◌, ◌<◌}
use Rattle.al_tree.specs.Leaves.{leaves_of}
use Rattle.al_parse_member.specs.Members.{initializer, parts_from}
use Rattle.al_parse_member.proofs.initializers.Braces.parts_from.Given as goal

abbrev pub invariant-loop-turn : goal.invariant-loop-turn
invariant-loop-turn g l = record { reads : parts_from (leaves_of l.self.context.text.now) l.self.context.types.now l.self.context.turns l.self.context.depth (initializer (leaves_of l.self.context.text.now) l.self.context.types.now l.self.context.turns (l.self.context.depth - 1)) l.self.context.turns l.fn.found l.fn.height l.fn.tokens ≡ parts_from (leaves_of l.self.context.text.now) l.self.context.types.now l.self.context.turns l.self.context.depth (initializer (leaves_of l.self.context.text.now) l.self.context.types.now l.self.context.turns (l.self.context.depth - 1)) (l._turn-end - l._turn) l.found l.height l.tokens; low : l.height < l.self.context.depth }
