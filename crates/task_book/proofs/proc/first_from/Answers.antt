use Rattle.std.proofs.Common.{ltb, rules}
use Rattle.std.proofs.lemmas.List.Sorted.{IsPartitionPoint-from_clause, IsPartitionedBy-ltb}
use Rattle.task_book.specs.declared.proc.Proc.{Proc}
use Rattle.task_book.proofs.Places.{parted, rising_sorted}
use Rattle.task_book.proofs.proc.first_from.Goals as goal

-- the numbers rise, so the search parts the procs at the number
pub returns : goal.returns
returns c =
    let procs = c.args.procs.now in
    let cut = IsPartitionPoint-from_clause (λ (r : Proc). ltb r.number c.args.number) procs _ c.partition_point.ensures.partitioned (IsPartitionedBy-ltb (λ (r : Proc). r.number) procs c.args.number (rising_sorted procs 0 c.requires)) (λ a r f called. search rules) in
    parted procs c.args.number _ c.partition_point.ensures.bound cut.0 cut.1
