use Rattle.std.proofs.Common.{◌≡◌, ◌+◌, ◌-◌, ◌<◌, ◌≤◌}
use Rattle.al_tree.specs.Leaves.{leaves_of}
use Rattle.al_parse_expr.specs.Parse.{within, post_from}
use Rattle.al_parse_expr.proofs.rules.Rules.post_from.Given as goal

abbrev pub invariant-loop-turn : goal.invariant-loop-turn
invariant-loop-turn g l = record { reads : post_from (leaves_of l.self.text.now) l.self.types.now l.self.turns l.self.depth (within (leaves_of l.self.text.now) l.self.types.now l.self.turns l.self.depth) l.self.turns l.fn.at l.fn.x l.fn.tokens ≡ post_from (leaves_of l.self.text.now) l.self.types.now l.self.turns l.self.depth (within (leaves_of l.self.text.now) l.self.types.now l.self.turns l.self.depth) (l._turn-end - l._turn) l.at l.x l.tokens; low : l.x.height ≤ l.self.depth + 1; called : l.x.called ≤ l.self.depth + 1 }
