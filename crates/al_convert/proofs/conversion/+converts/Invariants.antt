use Rattle.std.proofs.Common.{◌≡◌, ◌+◌, ◌*◌, drop}
use Rattle.al_convert.specs.declared.literal.Literal.{size-Literal}
use Rattle.al_convert.specs.Conversions.{literals_convert}
use Rattle.al_convert.proofs.conversion.+converts.Given as goal

abbrev pub invariant-literals_convert-loop-i : goal.invariant-literals_convert-loop-i
invariant-literals_convert-loop-i l = literals_convert l.literals l.from l.to ≡ literals_convert (drop l.i l.literals) (drop l.i l.from) (drop l.i l.to)

abbrev pub decreases-converts : goal.decreases-converts
decreases-converts l = 8 * size-Literal l.literal.now

abbrev pub decreases-literals_convert : goal.decreases-literals_convert
decreases-literals_convert l = 8 * goal.size-literals_convert l + 1

abbrev pub decreases-parts_of_literal_convert : goal.decreases-parts_of_literal_convert
decreases-parts_of_literal_convert l = 8 * goal.size-parts_of_literal_convert l + 2
