use Rattle.std.proofs.Common.{leb, ◌-◌, sym, arith, rules}
use Rattle.std.proofs.lemmas.List.Sorted.{IsPartitionPoint-from_clause, IsPartitionedBy-leb}
use Rattle.rv_isa.specs.declared.image.LineRow.{LineRow}
use Rattle.rv_exec.proofs.LineRows.{none_before, last_before}
use Rattle.rv_exec.proofs.lines.line_at.Goals as goal

pub returns-then-after-eq0 : goal.returns-then-after-eq0
returns-then-after-eq0 c =
    let parted = IsPartitionedBy-leb (λ (row : LineRow). row.word) _ c.args.at c.requires in
    let point = IsPartitionPoint-from_clause (λ (row : LineRow). leb row.word c.args.at) _ _ c.partition_point-after.ensures.partitioned parted (λ a r q k. search rules) in
    sym (none_before c.args.at 0 c.args.rows.now (λ k d less. point.1 k d (omega arith) less))

pub returns-else-after-eq0 : goal.returns-else-after-eq0
returns-else-after-eq0 c =
    let parted = IsPartitionedBy-leb (λ (row : LineRow). row.word) _ c.args.at c.requires in
    let point = IsPartitionPoint-from_clause (λ (row : LineRow). leb row.word c.args.at) _ _ c.partition_point-after.ensures.partitioned parted (λ a r q k. search rules) in
    let i = c.partition_point-after.result - 1 in
    sym (last_before c.args.at 0 i _ c.args.rows.now (omega arith) (λ k d less. point.0 k d (omega arith) (omega arith)) (λ k d past less. point.1 k d (omega arith) less))
