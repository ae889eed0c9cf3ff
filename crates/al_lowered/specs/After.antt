-- What a task of any kind whose private globals are words asks after the answers so far, one action at a time.
use Rattle.std.specs.Prelude.{ℕ, if◌then◌else◌, List, [], ◌∷◌}
use Rattle.al_event.specs.declared.act.Act.TheVariants as act
use Rattle.al_world.specs.Control.{Asked, fitted}
use Rattle.al_world.specs.Turns.{Move, ask_within}
use Rattle.al_until_last.specs.UntilLast.{is_last}
use Rattle.al_meaning.specs.Items.{most_turns}
use Rattle.al_meaning.specs.Tasks.{Answer, Outcome, Over}
use Rattle.al_meaning.specs.Tasks as outcome

module _ {C : Type 0} (ask : C → List ℕ → Asked C (List ℕ)) (resume : C → List ℕ → C) where
  -- where the task has asked this, and these are the answers to it and to what it asks then
  abbrev pub after : Asked C (List ℕ) → List Answer → Outcome
  after a [] = outcome.Asks a.act a.line a.privates
  after a (r ∷ answers) =
      if is_last a.act then Over else after (ask (resume a.control (fitted a.act r.words)) r.privates) answers

-- what is asked next by a control that is made of private steps
abbrev pub asked_next : {C : Type 0} → (C → List ℕ → Move C (List ℕ)) → (C → ℕ) → C → List ℕ → Asked C (List ℕ)
asked_next step weight c u = ask_within step weight most_turns act.Pause c u
