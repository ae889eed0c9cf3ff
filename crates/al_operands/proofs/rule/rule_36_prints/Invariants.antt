use Rattle.std.proofs.Common.{◌≡◌, drop}
use Rattle.al_operands.specs.Rules.{rule_36_prints}
use Rattle.al_operands.proofs.rule.rule_36_prints.Given as goal

abbrev pub invariant-loop-piece : goal.invariant-loop-piece
invariant-loop-piece l = rule_36_prints l.fn.pieces l.fn.arguments ≡ rule_36_prints (drop l.piece-index l.pieces) l.left
