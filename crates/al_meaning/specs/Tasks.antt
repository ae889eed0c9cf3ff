-- What a task asks after the answers that it was given so far, as a run that goes on from point to point.
--
-- A task is told the variables of the function at hand, where the run stands, and what is done next; it says how the run
-- comes out. Written in `do` notation, a clause is read as the text is: this first, and then that.
use Rattle.std.specs.Prelude.{ℕ, suc, if◌then◌else◌, List, [], ◌∷◌, Option, slice_index}
use Rattle.al_base.specs.declared.trap.Trap.{Trap}
use Rattle.al_event.specs.declared.act.Act.{Act}
use Rattle.al_event.specs.declared.act.Act.TheVariants as act
use Rattle.al_world.specs.Control.{fitted}
use Rattle.al_typed.specs.declared.program.Program.{Program}
use Rattle.al_meaning.specs.Words.{is_zero}
use Rattle.al_meaning.specs.Items.{most_turns}

-- the answer to an action, and the private globals of the proc by then
pub record Answer : Type 0 where
  pub words : List ℕ
  pub privates : List ℕ

-- where a run stands: the turns left until a pause, the private globals, and the answers that are left
pub record Still : Type 0 where
  pub left : ℕ
  pub privates : List ℕ
  pub answers : List Answer

pub data Outcome : Type 0 where
  -- the answers are used up, and this is asked in a line, with these private globals
  Asks : (act : Act) → (line : ℕ) → (privates : List ℕ) → Outcome
  -- an action that has no answer was asked before the last of them
  Over : Outcome
  -- there are more rounds, calls or jumps than were looked at
  Unfinished : Outcome
  -- no well-typed program comes to it
  Stuck : Outcome

-- the variables of the function at hand
pub record Env : Type 0 where
  pub locals : List (List ℕ)
  pub block : ℕ
  pub around : List ℕ
  pub turns : List ℕ

abbrev pub Rest : Type 0
Rest = Env → Still → Outcome

abbrev pub Task : Type 0 → Type 0
Task A = Env → Still → (A → Rest) → Outcome

infixl 20 ◌>>=◌
abbrev pub ◌>>=◌ : {A B : Type 0} → Task A → (A → Task B) → Task B
◌>>=◌ m f = λ env s next. m env s (λ a env s. f a env s next)

infixl 20 ◌>>◌
abbrev pub ◌>>◌ : {A B : Type 0} → Task A → Task B → Task B
◌>>◌ m f = λ env s next. m env s (λ a env s. f env s next)

abbrev pub give : {A : Type 0} → A → Task A
give a env s next = next a env s

abbrev pub stuck : {A : Type 0} → Task A
stuck env s next = Stuck

-- goes on elsewhere
abbrev pub leave_to : {A : Type 0} → Rest → Task A
leave_to there env s next = there env s

abbrev pub if_zero : {A : Type 0} → List ℕ → Task A → Task A → Task A
if_zero v a b = if is_zero v then a else b

-- ---- actions and turns

abbrev pub answered : List Answer → Act → ℕ → Still → (List ℕ → Still → Outcome) → Outcome
answered [] a line s next = Asks a line s.privates
answered (r ∷ answers) a line s next =
    next (fitted a r.words) (record { left = most_turns; privates = r.privates; answers = answers })

abbrev pub ask_in : ℕ → Act → Still → (List ℕ → Still → Outcome) → Outcome
ask_in line a s next = answered s.answers a line s next

-- an action that has no answer
abbrev pub last_asked : List Answer → Act → ℕ → List ℕ → Outcome
last_asked [] a line privates = Asks a line privates
last_asked (_ ∷ _) a line privates = Over

abbrev pub stop_in : ℕ → Act → Still → Outcome
stop_in line a s = last_asked s.answers a line s.privates

abbrev pub turn_at : ℕ → ℕ → Still → (Still → Outcome) → Outcome
turn_at (suc (suc n)) line s next = next (record s { left = suc n })
turn_at _ line s next = ask_in line act.Pause s (λ _ s. next s)

abbrev pub turn_in : ℕ → Still → (Still → Outcome) → Outcome
turn_in line s next = turn_at s.left line s next

-- ---- where a construct stands

pub record Ways : Type 0 where
  pub program : Program
  -- the function at hand
  pub function : ℕ
  -- the line of the statement at hand
  pub line : ℕ
  -- calls a function with these words above the functions that wait
  pub call : ℕ → List ℕ → Still → (Option (List ℕ) → Still → Outcome) → Outcome
  -- goes on from a label or rescue
  pub jump : ℕ → Rest
  -- goes on behind the loops, switches and alts round it, and with the next round of the loops, the innermost first
  pub behind : List Rest
  pub again : List Rest
  -- returns, and calls a function in the place of this one, in a line
  pub return : ℕ → Option (List ℕ) → Rest
  pub become : ℕ → ℕ → List ℕ → Rest

abbrev pub in_line : ℕ → Ways → Ways
in_line line w = record w { line = line }

abbrev pub asks : Ways → Act → Task (List ℕ)
asks w a env s next = ask_in w.line a s (λ words s. next words env s)

abbrev pub stops : {A : Type 0} → Ways → Act → Task A
stops w a env s next = stop_in w.line a s

abbrev pub traps : {A : Type 0} → Ways → Trap → Task A
traps w t = stops w (act.Trap t)

abbrev pub a_turn : Ways → Task (Unit {0})
a_turn w env s next = turn_in w.line s (λ s. next tt env s)

-- an answer of one word
abbrev pub asks_word : Ways → Act → Task ℕ
asks_word w a = do
  words ← asks w a
  give (slice_index words 0)

abbrev pub calls : Ways → ℕ → List ℕ → Task (Option (List ℕ))
calls w function words env s next = turn_in w.line s (λ s. w.call function words s (λ o s. next o env s))
