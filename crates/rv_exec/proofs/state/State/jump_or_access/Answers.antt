use Rattle.rv_exec.specs.Seen.{seen, words_of}
use Rattle.rv_exec.proofs.Running.{on_storing_globals}
use Rattle.rv_exec.proofs.state.State.jump_or_access.Goals as goal

pub returns-then-put_globals_word-clause-on : goal.returns-then-put_globals_word-clause-on
returns-then-put_globals_word-clause-on c on =
    on_storing_globals (seen c.args.self.now) (words_of c.args.privates.now) c.args.pc c.args.work _ c.args.m.now c.requires.zero _ _ c.in-StoreGlobals.is
    (c.put_globals_word.ensures.put c.if-put_globals_word.true _)
