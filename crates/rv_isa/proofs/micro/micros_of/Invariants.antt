use Rattle.std.proofs.Common.{◌≡◌, take, All}
use Rattle.rv_isa.specs.Micro.{micros_of, IsNumbered}
use Rattle.rv_isa.proofs.micro.micros_of.Given as goal

-- the micro-operations of the words so far
abbrev pub invariant-loop-word : goal.invariant-loop-word
invariant-loop-word l = record {
  all : l.micros ≡ micros_of (take l.word-index l.code);
  numbered : All IsNumbered l.micros;
}
