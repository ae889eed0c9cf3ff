use Rattle.std.proofs.Common.{◌∙◌, sym}
use Rattle.rv_exec.specs.Seen.{seen, words_of}
use Rattle.rv_exec.proofs.Stepping.{performed_some, performed_none}
use Rattle.rv_exec.proofs.state.State.perform.Goals as goal

pub returns-in-Ok-clause-asked : goal.returns-in-Ok-clause-asked
returns-in-Ok-clause-asked c =
    c.in-Ok.ensures.asked ∙ performed_some c.args.word c.args.image.now c.in-Some.instr (seen c.args.self.now) (words_of c.args.privates.now) (sym c.decode.ensures.is_table ∙ c.in-Some.is)

pub returns-in-None-clause-asked : goal.returns-in-None-clause-asked
returns-in-None-clause-asked c =
    c.trap.ensures.asked _ ∙ performed_none c.args.word c.args.image.now (seen c.args.self.now) (words_of c.args.privates.now) (sym c.decode.ensures.is_table ∙ c.in-None.is)
