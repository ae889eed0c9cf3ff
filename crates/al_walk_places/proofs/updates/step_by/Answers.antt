use Rattle.std.proofs.Common.{rules, ◌≡◌, ℕ, List, [], ◌∷◌, ◌++◌, Some, length, false}
use Rattle.al_meaning.specs.Here as step
use Rattle.al_typed.specs.declared.ty.Ty.{out-Ty}
use Rattle.al_meaning.specs.Evaluate.{goes_back, next_value, saves_and_gives, step_gives}
use Rattle.al_control.proofs.Takings.{goes_on}
use Rattle.al_walk_places.proofs.updates.step_by.Goals as goal

pub returns-in-Took : goal.returns-in-Took
returns-in-Took c =
    goes_on c.step_there.result _ c.in-Took.old c.in-Took.h _ _ (c.in_ok-next.ensures.taken (λ (old : List ℕ) (h : step.Here). step.with_place h (λ f h. saves_and_gives h c.args.ty.now f (next_value h.program (goes_back c.args.op) c.args.ty.now (out-Ty c.args.ty.now) old) (step_gives c.args.op old (next_value h.program (goes_back c.args.op) c.args.ty.now (out-Ty c.args.ty.now) old))))) c.in-Took.is c.step_there.ensures
