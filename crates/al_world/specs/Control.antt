-- Kinds of control: what a task asks of the world, and how it goes on with the answer. The world is written over any kind;
-- the meaning of a text is one, the machine's harts are another.
use Rattle.std.specs.Prelude.{ℕ, zero, suc, ◌%◌, ◌^◌, if◌then◌else◌, nat_lt, List, [], ◌∷◌, length, drop, slice_get, slice_index, Option, Some, None, is_some}
use Rattle.al_event.specs.declared.act.Branch.{Branch}
use Rattle.al_event.specs.declared.act.Start.{Start}
use Rattle.al_event.specs.declared.act.Act.{Act}
use Rattle.al_event.specs.declared.act.Act.TheVariants.{Load, Alloc, NewChan, CanRecv, CanSend, Talk}

-- what a task asks next: the action, the line of the text that it stands in (0 for none), the number of instructions done
-- on the way to it (0 where none are counted), and the control and private globals that wait for the answer
pub record Asked (Control Privates : Type 0) : Type 0 where
  pub act : Act
  pub line : ℕ
  pub work : ℕ
  pub control : Control
  pub privates : Privates

-- a kind of control, with the private globals of its procs
pub record Kind : Type 1 where
  pub Control : Type 0
  pub Privates : Type 0
  -- runs privately up to the next action
  pub ask : Control → Privates → Asked Control Privates
  -- goes on with an answer
  pub resume : Control → List ℕ → Control
  -- a task at its start
  pub start : Start → Control
  -- private globals at a proc's start
  pub fresh : Privates

-- the kind that is made of these
abbrev pub kind_of : {C U : Type 0} → (C → U → Asked C U) → (C → List ℕ → C) → (Start → C) → U → Kind
kind_of {C} {U} ask resume start fresh = record { Control = C; Privates = U; ask = ask; resume = resume; start = start; fresh = fresh }

-- ---- answers

-- n words, each below m: what is missing is 0, and what is too much is cut off
abbrev pub cut : ℕ → ℕ → List ℕ → List ℕ
cut zero m ws = []
cut (suc n) m [] = 0 ∷ cut n m []
cut (suc n) m (w ∷ ws) = w % m ∷ cut n m ws

-- how many words a branch receives
abbrev pub received_by : Option Branch → ℕ
received_by None = 0
received_by (Some b) = if is_some b.send then 0 else b.words

abbrev pub talk_answer : List Branch → ℕ → List ℕ → List ℕ
talk_answer branches i words = i ∷ cut (received_by (slice_get branches i)) (2 ^ 32) words

-- the branch that a talk's answer names, the first where there is no such branch
abbrev pub branch_in : List Branch → ℕ → ℕ
branch_in branches i = if nat_lt i (length branches) then i else 0

-- the words that an answer to this action has, each of the size of its unit: the word of a load, the address of a block,
-- the number of a channel, 0 or 1, or the branch that went with the words that it received; no words for other actions
abbrev pub fitted : Act → List ℕ → List ℕ
fitted (Load at size) words = cut 1 (256 ^ size) words
fitted (Alloc bytes kind) words = cut 1 (2 ^ 32) words
fitted (NewChan capacity words_each) words = cut 1 (2 ^ 32) words
fitted (CanRecv c) words = cut 1 2 words
fitted (CanSend c) words = cut 1 2 words
fitted (Talk branches) words = talk_answer branches (branch_in branches (slice_index words 0)) (drop 1 words)
fitted _ words = []
