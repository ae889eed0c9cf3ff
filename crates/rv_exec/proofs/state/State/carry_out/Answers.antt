use Rattle.std.proofs.Common.{sym, ◌∙◌}
use Rattle.rv_exec.specs.Seen.{seen, words_of}
use Rattle.rv_exec.proofs.Running.{on_computing}
use Rattle.rv_exec.proofs.state.State.carry_out.Goals as goal

pub returns-in-Some-clause-on : goal.returns-in-Some-clause-on
returns-in-Some-clause-on c on =
    on_computing (seen c.args.self.now) (words_of c.args.privates.now) c.args.pc c.args.work _ c.args.m.now c.requires.zero c.in-Some.value _
    c.second_operand-sum.ensures.register c.second_operand-sum.ensures.immediate (rw c.second_operand-sum.ensures.sum at (sym c.computes.ensures ∙ c.in-Some.is)) c.give.ensures.hart
