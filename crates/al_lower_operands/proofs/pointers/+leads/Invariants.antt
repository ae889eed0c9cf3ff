use Rattle.std.proofs.Common.{◌+◌, ◌*◌, max}
use Rattle.al_typed.specs.declared.expression.TExpr.{size-TExpr}
use Rattle.al_typed.specs.declared.expression.TPlace.{size-TPlace}
use Rattle.al_lower_operands.proofs.pointers.+leads.Given as goal

abbrev pub decreases-stands : goal.decreases-stands
decreases-stands l = 8 * size-TExpr l.e.now

abbrev pub decreases-plain_leads : goal.decreases-plain_leads
decreases-plain_leads l = 8 * size-TExpr l.e.now + 1

abbrev pub decreases-leads : goal.decreases-leads
decreases-leads l = 8 * size-TExpr l.e.now + 2

abbrev pub decreases-unary_stands : goal.decreases-unary_stands
decreases-unary_stands l = 8 * size-TExpr l.of.now + 1

abbrev pub decreases-converted_stands : goal.decreases-converted_stands
decreases-converted_stands l = 8 * size-TExpr l.of.now + 1

abbrev pub decreases-unary_leads : goal.decreases-unary_leads
decreases-unary_leads l = 8 * size-TExpr l.of.now + 3

abbrev pub decreases-converted_leads : goal.decreases-converted_leads
decreases-converted_leads l = 8 * size-TExpr l.of.now + 3

abbrev pub decreases-part_leads : goal.decreases-part_leads
decreases-part_leads l = 8 * size-TExpr l.e.now + 3

abbrev pub decreases-pointed_at : goal.decreases-pointed_at
decreases-pointed_at l = 8 * size-TExpr l.e.now + 4

abbrev pub decreases-pointed_member_at : goal.decreases-pointed_member_at
decreases-pointed_member_at l = 8 * size-TExpr l.e.now + 5

abbrev pub decreases-numbered_at : goal.decreases-numbered_at
decreases-numbered_at l = 8 * size-TExpr l.base.now + 5

abbrev pub decreases-element_at : goal.decreases-element_at
decreases-element_at l = 8 * max (size-TExpr l.base.now) (size-TExpr l.index.now) + 6

abbrev pub decreases-place_at : goal.decreases-place_at
decreases-place_at l = 8 * size-TPlace l.p.now

abbrev pub decreases-place_part_at : goal.decreases-place_part_at
decreases-place_part_at l = 8 * size-TPlace l.p.now + 1

abbrev pub decreases-home_at : goal.decreases-home_at
decreases-home_at l = 8 * size-TPlace l.p.now + 2

abbrev pub decreases-member_at : goal.decreases-member_at
decreases-member_at l = 8 * size-TPlace l.of.now + 2
