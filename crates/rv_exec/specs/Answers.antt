-- The answers that an action can have, and the tasks that can go on with them.
use Rattle.std.specs.Prelude.{◌≡◌, ℕ, ◌+◌, ◌^◌, ◌<◌, ◌≤◌, List, [], ◌∷◌, length, slice_get, slice_index, vec_len}
use Rattle.al_event.specs.declared.act.Branch.{Branch}
use Rattle.al_event.specs.declared.act.Act.{Act}
use Rattle.al_event.specs.declared.act.Act.TheVariants.{Load, Alloc, NewChan, CanRecv, CanSend, Talk, Terminate, Trap, End}
use Rattle.al_world.specs.Control.{received_by}
use Rattle.rv_exec.specs.declared.state.State.{State}
use Rattle.rv_exec.specs.declared.state.Waits.{Waits}
use Rattle.rv_exec.specs.declared.state.Waits.TheVariants.{Done, Unit as UnitWaits, Word, Talk as TalkWaits}
use Rattle.rv_exec.specs.Machine.{place_of, FitsWaits}
use Rattle.rv_exec.specs.Seen.{seen}

-- the number of a branch, and as many words as it receives
abbrev pub AnswersTalk : List Branch → List ℕ → Type 0
AnswersTalk branches [] = ⊥
AnswersTalk branches (branch ∷ received) = length received ≡ received_by (slice_get branches branch)

-- the words of an answer to an action: a word, or a branch and what it received, or none; a trap, the end of the program
-- and the end of the task have no answer
abbrev pub CanAnswer : Act → List ℕ → Type 0
CanAnswer (Load at size) words = length words ≡ 1
CanAnswer (Alloc bytes kind) words = length words ≡ 1
CanAnswer (NewChan capacity words_each) words = length words ≡ 1
CanAnswer (CanRecv chan) words = length words ≡ 1
CanAnswer (CanSend chan) words = length words ≡ 1
CanAnswer (Talk branches) words = AnswersTalk branches words
CanAnswer (Terminate status) words = ⊥
CanAnswer (Trap trap) words = ⊥
CanAnswer End words = ⊥
CanAnswer _ words = words ≡ []

-- the task goes on after the action
abbrev pub HasAnswer : Act → Type 0
HasAnswer (Terminate status) = ⊥
HasAnswer (Trap trap) = ⊥
HasAnswer End = ⊥
HasAnswer _ = Unit {0}

-- the hart waits at an instruction for an answer with these words, and its stack has room for what was received
pub record CanGoOn (s : State) (words : List ℕ) : Type 0 where
  pub near : s.pc + 4 < 2 ^ 32
  pub register : FitsWaits s.waits
  pub some : s.waits ≡ TalkWaits → 0 < length words
  pub room : s.waits ≡ TalkWaits → 1 < length words → place_of (seen s) (slice_index words 0) + length words ≤ vec_len s.stack + 1

-- the hart can go on with each answer that the action can have
pub record IsReady (s : State) (act : Act) : Type 0 where
  pub goes_on : (words : List ℕ) → CanAnswer act words → CanGoOn s words

-- the stack has room for what each of these branches receives
abbrev pub HasRoom : State → List Branch → Type 0
HasRoom s branches =
    (branch : ℕ) → 0 < received_by (slice_get branches branch) → place_of (seen s) branch + received_by (slice_get branches branch) ≤ vec_len s.stack

-- an answer of at most a word, which goes to a register that there is
abbrev pub IsPlain : Waits → Type 0
IsPlain Done = Unit {0}
IsPlain (UnitWaits op rd) = rd < 32
IsPlain Word = Unit {0}
IsPlain TalkWaits = ⊥
