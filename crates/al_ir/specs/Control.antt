-- The control of a task that goes through operations: frames with the words of their slots.
use Rattle.std.specs.Prelude.{ℕ, zero, suc, ◌+◌, nat_eq, nat_le, nat_lt, ◌&&◌, if◌then◌else◌, List, [], ◌∷◌, Option, Some, None, option_map, option_and_then, slice_get, slice_index}
use Rattle.al_ir.specs.declared.ir.Function.{Function}
use Rattle.al_ir.specs.declared.ir.Operation.{Operation}
use Rattle.al_ir.specs.declared.ir.Ir.{Ir}

-- ---- slots

-- A slot that was given no word has none that anything may rest on.
abbrev pub Slots : Type 0
Slots = ℕ → Option ℕ

abbrev pub no_slots : Slots
no_slots t = None

abbrev pub put : ℕ → ℕ → Slots → Slots
put t w slots u = if nat_eq u t then Some w else slots u

-- these words, one behind the other
abbrev pub put_all : ℕ → List ℕ → Slots → Slots
put_all t [] slots = slots
put_all t (w ∷ ws) slots = put_all (t + 1) ws (put t w slots)

-- so many slots lose what they had
abbrev pub forget : (t n : ℕ) → Slots → Slots
forget t n slots u = if nat_le t u && nat_lt u (t + n) then None else slots u

-- so many slots, from the first on, and no others
abbrev pub first_slots : ℕ → Slots → Slots
first_slots n slots t = if nat_lt t n then slots t else None

-- the slots from one on, with new numbers
abbrev pub slots_from : ℕ → Slots → Slots
slots_from t slots i = slots (t + i)

-- the words of so many slots, if each has one
abbrev pub words_at : Slots → (t n : ℕ) → Option (List ℕ)
words_at slots t zero = Some []
words_at slots t (suc n) = option_and_then (λ w. option_map (λ ws. w ∷ ws) (words_at slots (t + 1) n)) (slots t)

-- ---- controls

-- a function at work: its number, the number of the operation that is next, and its slots
pub record Frame : Type 0 where
  pub function : ℕ
  pub pc : ℕ
  pub slots : Slots

-- a function that begins once the stack was tested, with its arguments
pub record Entering : Type 0 where
  pub function : ℕ
  pub arguments : Slots

-- Where the words of an answer go: nowhere; into a slot; the branch of a talk into one and the words that it received into
-- those from another on; or, a byte of a text at this place, behind the text, where a slot holds the place.
pub data Into : Type 0 where
  Nowhere : Into
  Word : (to : ℕ) → Into
  Branch : (to got : ℕ) → Into
  Byte : (slot at : ℕ) → Into

-- `unit` is how many units the operation at hand has done, and 0 before each operation. `last` has what the function gave that
-- returned last. The frames stand with the innermost first.
pub record Control : Type 0 where
  pub entering : Option Entering
  pub into : Into
  pub unit : ℕ
  pub text : List ℕ
  pub last : Slots
  pub frames : List Frame

-- ---- functions

abbrev pub function_at : Ir → ℕ → Option Function
function_at ir number = slice_get ir.functions number

abbrev pub code_of : Option Function → List Operation
code_of (Some f) = f.code
code_of None = []

abbrev pub operation_at : Ir → (function pc : ℕ) → Option Operation
operation_at ir function pc = slice_get (code_of (function_at ir function)) pc

abbrev pub line_of : Option Function → ℕ
line_of (Some f) = f.line
line_of None = 0

abbrev pub stack_of : Option Function → ℕ
stack_of (Some f) = f.stack
stack_of None = 0

abbrev pub arguments_of : Option Function → ℕ
arguments_of (Some f) = f.arguments
arguments_of None = 0

-- a function begins: it has its arguments, and nothing else
abbrev pub begun : Ir → ℕ → Slots → Frame
begun ir number arguments = record {
  function = number;
  pc = 0;
  slots = first_slots (arguments_of (function_at ir number)) arguments;
}

-- the words of a task's start as its arguments
abbrev pub given : List ℕ → Slots
given words t = Some (slice_index words t)
