use Rattle.std.proofs.Common.{◌≡◌, ◌-◌, ◌<◌}
use Rattle.al_tree.specs.Leaves.{leaves_of}
use Rattle.al_parse_type.specs.Parse.{below, types_from}
use Rattle.al_parse_type.proofs.base.Types.types_from.Given as goal

abbrev pub invariant-loop-turn : goal.invariant-loop-turn
invariant-loop-turn g l = record { reads : types_from (leaves_of l.self.text.now) l.self.types.now l.self.turns l.self.depth (below (leaves_of l.self.text.now) l.self.types.now l.self.turns l.self.depth) l.fn.bare l.self.turns l.fn.found l.fn.height l.fn.tokens ≡ types_from (leaves_of l.self.text.now) l.self.types.now l.self.turns l.self.depth (below (leaves_of l.self.text.now) l.self.types.now l.self.turns l.self.depth) l.bare (l._turn-end - l._turn) l.found l.height l.tokens; low : l.height < l.self.depth }
