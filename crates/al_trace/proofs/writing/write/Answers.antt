use Rattle.std.proofs.Common.{◌+◌, ◌-◌, ◌∙◌, List, ℕ, sym, subst, take, drop, arith}
use Rattle.std.specs.List.{flat_map}
use Rattle.std.proofs.lemmas.Result.{err_from_is_err_and}
use Rattle.al_host.specs.Outside.{WhereTold}
use Rattle.al_trace.specs.Schedule.{first_line, entry_line, schedule_text}
use Rattle.al_trace.specs.Sending.{GetsAll, GetsPart}
use Rattle.al_trace.proofs.Told.{told_both, told_part, told_part_more, text_to, text_parts}
use Rattle.al_trace.proofs.writing.write.Goals as goal

pub returns-in_err-write_all-clause-part : goal.returns-in_err-write_all-clause-part
returns-in_err-write_all-clause-part g c =
    let p = err_from_is_err_and c.from_residual.result c.from_residual.ensures.1 in
    rw p.1 (told_part_more first_line (flat_map entry_line c.args.entries.now) (g.K.Sink.got c.args.out.now) (g.K.Sink.got c.write_all.new.sink) c.in_err-write_all.ensures.part)

pub returns-in_err-write_entries-clause-part : goal.returns-in_err-write_entries-clause-part
returns-in_err-write_entries-clause-part g c =
    let p = err_from_is_err_and c.from_residual-in_err-write_entries.result c.from_residual-in_err-write_entries.ensures.1 in
    let h = c.args.entries.now in let i = c.loop-done.done in let n = c.loop-done.done + c.min.result - c.loop-done.done in
    rw p.1
    (subst (λ (v : List ℕ). WhereTold (GetsPart v) (g.K.Sink.got c.args.out.now) (g.K.Sink.got c.write_entries.new.out)) (sym (text_parts h i n))
    (told_part (schedule_text (take i h)) (flat_map entry_line (take n (drop i h))) (flat_map entry_line (drop n (drop i h)))
    (g.K.Sink.got c.args.out.now) (g.K.Sink.got c.loop-done.out) (g.K.Sink.got c.write_entries.new.out) c.loop-done.invariant.told c.in_err-write_entries.ensures.part))

pub loop-done-preserved : goal.loop-done-preserved
loop-done-preserved g c =
    let h = c.args.entries.now in let i = c.loop-done.done in let j = c.loop-done.done + c.min.result in
    record {
      within = omega (arith, c.min.ensures, c.loop-done.invariant.within);
      faults = c.in_ok-write_entries.ensures.ok ∙ c.loop-done.invariant.faults;
      told = subst (λ (v : List ℕ). WhereTold (GetsAll v) (g.K.Sink.got c.args.out.now) (g.K.Sink.got c.write_entries.new.out)) (sym (text_to h i j (omega arith)))
          (told_both (schedule_text (take i h)) (flat_map entry_line (take (j - i) (drop i h))) (g.K.Sink.got c.args.out.now) (g.K.Sink.got c.loop-done.out) (g.K.Sink.got c.write_entries.new.out)
          c.loop-done.invariant.told c.in_ok-write_entries.ensures.all);
    }
