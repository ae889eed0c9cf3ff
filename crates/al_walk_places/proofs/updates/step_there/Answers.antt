use Rattle.std.proofs.Common.{rules, ◌≡◌, ℕ, List, [], ◌∷◌, ◌++◌, Some, length, false}
use Rattle.al_meaning.specs.Here as step
use Rattle.al_meaning.specs.Items as item
use Rattle.al_typed.specs.declared.ty.Ty.{out-Ty}
use Rattle.al_meaning.specs.Evaluate.{goes_back, next_value, saves_and_gives, step_gives}
use Rattle.al_control.proofs.Takings.{goes_on}
use Rattle.al_walk_places.proofs.updates.step_there.Goals as goal

pub returns-in-Took : goal.returns-in-Took
returns-in-Took c =
    goes_on c.step_to.result _ c.in-Took.place c.in-Took.h _ _ (c.in_ok-next.ensures.taken (λ (f : item.Found) (h : step.Here). saves_and_gives h c.args.ty.now f (next_value h.program (goes_back c.args.op) c.args.ty.now (out-Ty c.args.ty.now) c.args.old) (step_gives c.args.op c.args.old (next_value h.program (goes_back c.args.op) c.args.ty.now (out-Ty c.args.ty.now) c.args.old)))) c.in-Took.is c.step_to.ensures
