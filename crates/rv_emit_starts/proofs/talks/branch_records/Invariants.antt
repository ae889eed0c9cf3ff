use Rattle.std.proofs.Common.{◌≡◌, ◌+◌, ◌*◌, ◌++◌, drop}
use Rattle.rv_regs.specs.Homes.{home_at}
use Rattle.rv_form.specs.Acts.{branch_records}
use Rattle.rv_emit_starts.proofs.talks.branch_records.Given as goal

abbrev pub invariant-loop-branch : goal.invariant-loop-branch
invariant-loop-branch l = record {
  place : l.at ≡ l.k + 4 * l.branch-index;
  code : l.code.items ++ branch_records (home_at l.homes) l.got (drop l.branch-index l.branches) l.at ≡ l.fn.code.items ++ branch_records (home_at l.homes) l.got l.branches l.k;
}
