use Rattle.std.proofs.Common.{◌+◌, List, None, ◌++◌, drop, get_or, arith}
use Rattle.std.proofs.lemmas.List.{at_drop_more}
use Rattle.std.proofs.lemmas.List.Elements.{All-get_or}
use Rattle.al_ir.specs.declared.op.TalkBranch.{TalkBranch}
use Rattle.rv_regs.specs.Homes.{home_at}
use Rattle.rv_form.specs.Acts.{branch_record, branch_records}
use Rattle.rv_emit_starts.specs.Branches.{IsInFrame}
use Rattle.rv_emit_starts.proofs.Rounds.{one_round}
use Rattle.rv_emit_starts.proofs.talks.branch_records.Goals as goal

abbrev past : TalkBranch
past = record { chan = 0; words = 0; send = None }

pub branch_record-requires-clause-branch : goal.branch_record-requires-clause-branch
branch_record-requires-clause-branch c = All-get_or (IsInFrame c.args.got) c.args.branches.now c.loop-branch.branch-index past c.loop-branch-test.true c.requires.branches

pub loop-branch-preserved : goal.loop-branch-preserved
loop-branch-preserved c =
    let branches = c.args.branches.now in
    let i = c.loop-branch.branch-index in
    record {
      place = omega (arith, c.loop-branch.invariant.place);
      code =
          one_round c.loop-branch.code.items (branch_record (home_at c.args.homes.now) c.args.got (get_or branches i past) c.loop-branch.at) c.branch_record.new.code.items
          (branch_records (home_at c.args.homes.now) c.args.got (drop i branches) c.loop-branch.at)
          (branch_records (home_at c.args.homes.now) c.args.got (drop (i + 1) branches) (c.loop-branch.at + 4))
          (c.args.code.now.items ++ branch_records (home_at c.args.homes.now) c.args.got branches c.args.k)
          c.loop-branch.invariant.code
          (at_drop_more (λ (bs : List TalkBranch). branch_records (home_at c.args.homes.now) c.args.got bs c.loop-branch.at) branches i past c.loop-branch-test.true)
          c.in_ok-branch_record.ensures;
    }
