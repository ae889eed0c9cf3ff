use Rattle.std.proofs.Common.{◌∙◌, None, Some, sym}
use Rattle.al_meaning.specs.Calls as spec
use Rattle.al_walk_calls.proofs.BegunFrames.{chosen, other}
use Rattle.al_walk_calls.proofs.named.numbered.Goals as goal

pub returns-then-is_so : goal.returns-then-is_so
returns-then-is_so c =
    chosen (spec.has_type c.args.ty.now c.args.function.now.around c.args.function.now) (Some c.args.number) None (sym c.in_ok-is_so.ensures ∙ c.if-is_so.true)

pub returns-else-is_so : goal.returns-else-is_so
returns-else-is_so c =
    other (spec.has_type c.args.ty.now c.args.function.now.around c.args.function.now) (Some c.args.number) None (sym c.in_ok-is_so.ensures ∙ c.if-is_so.false)
