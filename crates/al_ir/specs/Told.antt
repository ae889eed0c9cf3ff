-- What a task asks after the answers that it was given so far, told one private step at a time.
use Rattle.std.specs.Prelude.{ℕ, zero, suc, if◌then◌else◌, List}
use Rattle.al_event.specs.declared.act.Act.{Act}
use Rattle.al_event.specs.declared.act.Start.{Start}
use Rattle.al_world.specs.Turns.{Move, Moves, Turns, Asks}
use Rattle.al_until_last.specs.UntilLast.{is_last}
use Rattle.al_meaning.specs.Items.{most_turns}
use Rattle.al_meaning.specs.Tasks.{Answer, Still, Outcome, Unfinished, ask_in, stop_in, turn_in}
use Rattle.al_ir.specs.declared.ir.Ir.{Ir}
use Rattle.al_ir.specs.Step.{private_step}
use Rattle.al_ir.specs.Meaning.{resume, start}

-- of any kind of control that is made of private steps
module _ {C : Type 0} (step : C → List ℕ → Move C (List ℕ)) (resume : C → List ℕ → C) where
  -- an action, and what follows its answer, if it has one
  abbrev pub asked_or_last : Act → ℕ → C → Still → (C → Still → Outcome) → Outcome
  asked_or_last a line c s next =
      if is_last a then stop_in line a s else ask_in line a s (λ words s. next (resume c words) s)

  -- a private step, and then `next`
  abbrev pub moved : Move C (List ℕ) → Still → (C → Still → Outcome) → Outcome
  moved (Moves d v) s next = next d (record s { privates = v })
  moved (Turns line d v) s next = turn_in line (record s { privates = v }) (next d)
  moved (Asks a line d v) s next = asked_or_last a line d (record s { privates = v }) next

  -- at most so many private steps
  abbrev pub steps : ℕ → C → Still → Outcome
  steps zero c s = Unfinished
  steps (suc n) c s = moved (step c s.privates) s (steps n)

-- what a task of operations that starts so asks after these answers, in at most so many private steps
abbrev pub task_told : Ir → ℕ → Start → List ℕ → List Answer → Outcome
task_told ir n s privates answers =
    steps (private_step ir) resume n (start ir s) (record { left = most_turns; privates = privates; answers = answers })
