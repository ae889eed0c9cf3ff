use Rattle.std.proofs.Common.{◌≡◌, ◌-◌, ◌≤◌}
use Rattle.al_tree.specs.Leaves.{leaves_of}
use Rattle.al_parse_type.specs.Parse.{bound_below, products_from}
use Rattle.al_parse_type.proofs.bound.Bounds.products_from.Given as goal

abbrev pub invariant-loop-turn : goal.invariant-loop-turn
invariant-loop-turn g l = record { reads : products_from (leaves_of l.self.text.now) l.self.types.now l.self.turns l.self.depth (bound_below (leaves_of l.self.text.now) l.self.types.now l.self.turns l.self.depth) l.self.turns l.fn.at l.fn.x l.fn.tokens ≡ products_from (leaves_of l.self.text.now) l.self.types.now l.self.turns l.self.depth (bound_below (leaves_of l.self.text.now) l.self.types.now l.self.turns l.self.depth) (l._turn-end - l._turn) l.at l.x l.tokens; low : l.x.1 ≤ l.self.depth }
