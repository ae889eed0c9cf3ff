-- Where the variables of a function stand in its slots.
--
-- What the function is given comes first, in order: for a branch of a par the addresses of the blocks round it, for others the
-- words of the parameters, also of those that lie in the shared block. Then come the private locals, and then the address of
-- the shared block. Slots behind these are free.
use Rattle.std.specs.Prelude.{ℕ, zero, suc, ◌+◌, if◌then◌else◌, List, [], ◌∷◌, length, Option, Some, None}
use Rattle.al_typed.specs.declared.ty.Ty.{Ty}
use Rattle.al_typed.specs.declared.layout.Unit.{Unit}
use Rattle.al_typed.specs.declared.program.Function.{Function as FunctionRow}
use Rattle.al_typed.specs.declared.program.Local.{Local as LocalRow}
use Rattle.al_typed.specs.declared.program.Program.{Program}
use Rattle.al_meaning.specs.Places.{function_at, locals_of, local_offset, words_in}
use Rattle.al_meaning.specs.Here.{size_in, units_in}
use Rattle.al_meaning.specs.Evaluate.{round_of}
use Rattle.al_ir.specs.declared.ir.Operation.{Operation}
use Rattle.al_ir.specs.declared.op.Op.{Op}

-- Where operations are made: in a function of a program, in a line. The turn of the statement's first iterator stands in a
-- slot, and those of the others in the slots behind it.
pub record Spot : Type 0 where
  pub program : Program
  pub function : ℕ
  pub line : ℕ
  pub turns : ℕ

abbrev pub at_line : ℕ → Spot → Spot
at_line line s = record s { line = line }

abbrev pub words : Spot → Ty → ℕ
words s t = words_in s.program t

abbrev pub size : Spot → Ty → ℕ
size s t = size_in s.program t

abbrev pub units : Spot → Ty → List Unit
units s t = units_in s.program t

-- ---- operations in the line at hand

abbrev pub operation : ℕ → Op → Operation
operation line o = record { line = line; op = o }

abbrev pub here : Spot → Op → List Operation
here s o = operation s.line o ∷ []

-- ---- homes

-- the words that a local has in slots, where so many parameters are left
abbrev pub local_slots : Program → ℕ → LocalRow → ℕ
local_slots p zero l = if l.is_shared then 0 else words_in p l.ty
local_slots p (suc m) l = words_in p l.ty

abbrev pub one_less : ℕ → ℕ
one_less zero = zero
one_less (suc n) = n

-- the slot behind the first so many locals, the first of which stands at `at`
abbrev pub behind_locals : Program → (at parameters number : ℕ) → List LocalRow → ℕ
behind_locals p at m zero ls = at
behind_locals p at m (suc n) [] = at
behind_locals p at m (suc n) (l ∷ ls) = behind_locals p (at + local_slots p m l) (one_less m) n ls

abbrev pub parameters_of : Option FunctionRow → ℕ
parameters_of (Some f) = f.parameters
parameters_of None = 0

abbrev pub home_in : Program → Option FunctionRow → ℕ → ℕ
home_in p f number = behind_locals p (length (round_of f)) (parameters_of f) number (locals_of f)

-- the slot where a local begins
abbrev pub local_home : Program → (function number : ℕ) → ℕ
local_home p function number = home_in p (function_at p function) number

-- the slot of the address of the shared block
abbrev pub block_home : Program → ℕ → ℕ
block_home p function = local_home p function (length (locals_of (function_at p function)))

-- the first slot that holds no variable
abbrev pub first_free : Program → ℕ → ℕ
first_free p function = block_home p function + 1

-- where a shared local of a function stands in the block
abbrev pub offset_in : Program → (function number : ℕ) → ℕ
offset_in p function number = local_offset p (locals_of (function_at p function)) number
