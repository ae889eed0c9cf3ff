use Rattle.std.proofs.Common.{sym}
use Rattle.std.proofs.lemmas.List.{map_more}
use Rattle.std.proofs.lemmas.List.Elements.{All-push}
use Rattle.rv_isa.specs.Table.{instruction_of}
use Rattle.rv_isa.specs.Micro.{micro_of, or_break, IsNumbered}
use Rattle.rv_isa.proofs.micro.micros_of.Goals as goal

pub loop-word-preserved : goal.loop-word-preserved
loop-word-preserved c = record {
  all =
      rw (c.in_ok-push.ensures.ok, c.loop-word.invariant.all, c.micro_at.ensures.micro)
      (sym (map_more (λ word. micro_of (or_break (instruction_of word))) c.args.code.now c.loop-word.word-index 0 c.loop-word-test.true));
  numbered = rw c.in_ok-push.ensures.ok (All-push IsNumbered _ _ c.loop-word.invariant.numbered c.micro_at.ensures.numbered);
}
