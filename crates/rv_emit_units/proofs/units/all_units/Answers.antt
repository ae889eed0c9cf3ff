use Rattle.std.proofs.Common.{◌+◌, List, ◌++◌, drop, get_or, length, arith}
use Rattle.std.proofs.lemmas.List.{at_drop_more}
use Rattle.std.proofs.lemmas.List.Elements.{All-get_or}
use Rattle.al_ir.specs.declared.ir.Run.{Run}
use Rattle.al_ir.specs.Units.{units_in}
use Rattle.rv_form.specs.Units.{run_code, runs_code}
use Rattle.rv_emit_units.specs.Ways.{way_of, IsSmall}
use Rattle.rv_emit_units.proofs.Counting.{units_of_one_more}
use Rattle.rv_emit_units.proofs.Rounds.{one_round}
use Rattle.rv_emit_units.proofs.units.all_units.Goals as goal

abbrev past : Run
past = record { at = 0; size = 0; count = 0 }

pub run_units-requires-clause-run : goal.run_units-requires-clause-run
run_units-requires-clause-run c = All-get_or IsSmall c.args.runs.now c.loop-run.run-index past c.loop-run-test.true c.requires.runs

pub run_units-requires-clause-words : goal.run_units-requires-clause-words
run_units-requires-clause-words c =
    let runs = c.args.runs.now in
    let i = c.loop-run.run-index in
    omega (arith, c.loop-run.invariant.words, at_drop_more (λ (rs : List Run). length (units_in rs)) runs i past c.loop-run-test.true, units_of_one_more (get_or runs i past) (drop (i + 1) runs))

pub loop-run-preserved : goal.loop-run-preserved
loop-run-preserved c =
    let runs = c.args.runs.now in
    let i = c.loop-run.run-index in
    record {
      words = omega (arith, c.loop-run.invariant.words, at_drop_more (λ (rs : List Run). length (units_in rs)) runs i past c.loop-run-test.true, units_of_one_more (get_or runs i past) (drop (i + 1) runs));
      code =
          one_round c.loop-run.code.items (run_code (way_of c.args.way) (get_or runs i past) c.loop-run.word) c.run_units.new.code.items
          (runs_code (way_of c.args.way) (drop i runs) c.loop-run.word)
          (runs_code (way_of c.args.way) (drop (i + 1) runs) (c.loop-run.word + (get_or runs i past).count))
          (c.args.code.now.items ++ runs_code (way_of c.args.way) runs c.args.k)
          c.loop-run.invariant.code
          (at_drop_more (λ (rs : List Run). runs_code (way_of c.args.way) rs c.loop-run.word) runs i past c.loop-run-test.true)
          c.in_ok-run_units.ensures;
    }

pub overflow_add-word : goal.overflow_add-word
overflow_add-word c =
    let runs = c.args.runs.now in
    let i = c.loop-run.run-index in
    omega (arith, c.loop-run.invariant.words, at_drop_more (λ (rs : List Run). length (units_in rs)) runs i past c.loop-run-test.true, units_of_one_more (get_or runs i past) (drop (i + 1) runs))
