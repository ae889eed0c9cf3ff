use Rattle.std.proofs.Common.{◌∙◌, [], ◌∷◌, ap}
use Rattle.al_event.specs.declared.act.Act.TheVariants as act
use Rattle.al_event.specs.declared.act.Block.TheVariants.{Frame as FrameBlock}
use Rattle.al_meaning.specs.Here as step
use Rattle.al_meaning.specs.Items.{Answered}
use Rattle.al_meaning.specs.Places.{function_at, locals_of}
use Rattle.al_control.specs.Models.{here_of}
use Rattle.al_walk_calls.proofs.SharedLocals.{block_fits, block_too_large}
use Rattle.al_walk_calls.proofs.calls.take_block.Goals as goal

pub returns-in-None-clause-why : goal.returns-in-None-clause-why
returns-in-None-clause-why c =
    block_too_large c.args.h.program.now c.locals_of-locals.result.now (locals_of (function_at c.args.h.program.now c.args.h.frame.function)) c.in_ok-size.size
    c.locals_of-locals.ensures c.in-None.is c.in_ok-size.ensures

pub returns-clause-next : goal.returns-clause-next
returns-clause-next c =
    c.in_ok-asks-in-Some.ensures
    ∙ ap (λ n. step.asks (here_of c.args.h) (act.Alloc n FrameBlock) (Answered ∷ []))
    (block_fits c.args.h.program.now c.locals_of-locals.result.now (locals_of (function_at c.args.h.program.now c.args.h.frame.function)) c.in_ok-size.size c.in-Some.bytes
    c.locals_of-locals.ensures c.in-Some.is c.in_ok-size.ensures)
