-- Tasks that ask what their text says.
use Rattle.std.specs.Prelude.{◌≡◌, ◌≢◌, ℕ, ◌+◌, ◌*◌, ◌≤◌, List, [], ◌∷◌, length}
use Rattle.al_event.specs.declared.act.Start.{Start}
use Rattle.al_world.specs.Control.{Asked, fitted}
use Rattle.al_typed.specs.declared.program.Program.{Program}
use Rattle.al_meaning.specs.Items.{Control, most_turns}
use Rattle.al_meaning.specs.Meaning.{ask, resume}
use Rattle.al_meaning.specs.Meaning as meaning
use Rattle.al_meaning.specs.Meant.{task_told}
use Rattle.al_meaning.specs.Tasks.{Answer, Asks, Stuck}
use Rattle.al_lowered.specs.Rules.{AreGood, IsKnownStart, IsPrivate, rules}

-- what a task asks once this answer to what it asked is there
abbrev pub asked_then : Program → Asked Control (List ℕ) → Answer → Asked Control (List ℕ)
asked_then p a r = ask p (resume a.control (fitted a.act r.words)) r.privates

-- what it asks after these answers, one after the other
abbrev pub asked_after : Program → Asked Control (List ℕ) → List Answer → Asked Control (List ℕ)
asked_after p a [] = a
asked_after p a (r ∷ answers) = asked_after p (asked_then p a r) answers

-- What a task asks next has a sense: it is what the text says, clause by clause, of a task that began so and was given these answers.
pub record HasSense (p : Program) (c : Control) (privates : List ℕ) : Type 0 where
  -- how it began, and the private globals at its first question
  pub start : Start
  pub first : List ℕ
  -- the answers since
  pub answers : List Answer
  pub known : IsKnownStart p start
  pub globals : IsPrivate p first
  pub good : AreGood (rules p) answers
  -- it came to what it asks now by them
  pub came : ask p c privates ≡ asked_after p (ask p (meaning.start p start) first) answers
  -- the text, with enough rounds of each loop, says that this is asked, in this line and with these private globals
  pub said : (n : ℕ) → most_turns + most_turns * length answers ≤ n → task_told p n start first answers ≡ Asks (ask p c privates).act (ask p c privates).line (ask p c privates).privates
  -- with fewer rounds too it is not stuck
  pub never : (n : ℕ) → task_told p n start first answers ≢ Stuck
