use Rattle.std.proofs.Common.{ℕ, ◌+◌, List, ◌++◌, drop, get_or, arith}
use Rattle.std.proofs.lemmas.List.{at_drop_more}
use Rattle.rv_form.specs.Acts.{start_record, start_records}
use Rattle.rv_emit_starts.proofs.Rounds.{one_round}
use Rattle.rv_emit_starts.proofs.starts.start_records.Goals as goal

pub loop-function-preserved : goal.loop-function-preserved
loop-function-preserved c =
    let functions = c.args.functions.now in
    let i = c.loop-function.function-index in
    record {
      place = omega (arith, c.loop-function.invariant.place);
      code =
          one_round c.loop-function.code.items (start_record c.args.arguments c.args.words (get_or functions i 0) c.loop-function.at) c.start_record.new.code.items
          (start_records c.args.arguments c.args.words (drop i functions) c.loop-function.at)
          (start_records c.args.arguments c.args.words (drop (i + 1) functions) (c.loop-function.at + 3))
          (c.args.code.now.items ++ start_records c.args.arguments c.args.words functions c.args.k)
          c.loop-function.invariant.code
          (at_drop_more (λ (fs : List ℕ). start_records c.args.arguments c.args.words fs c.loop-function.at) functions i 0 c.loop-function-test.true)
          c.in_ok-start_record.ensures;
    }
