-- The state of a task on the machine.
use Rattle.std.specs.Prelude.{ℕ, zero, suc, ◌+◌, ◌==◌, if◌then◌else◌, List}
use Rattle.rv_isa.specs.declared.addresses.TheConstants.{CODE_START, STACK_START, GLOBALS_START}
use Rattle.rv_exec.specs.declared.state.Waits.{Waits}

-- Words are numbers below 2^32.
pub record Hart : Type 0 where
  pub pc : ℕ
  pub registers : ℕ → ℕ  -- register n; what it holds at 0 is never read
  pub stack : ℕ → ℕ  -- word n of the private stack, counted from the window's start
  pub text : List ℕ  -- the bytes of the print being composed
  pub waits : Waits  -- where the words of the answer go that the task waits for
  pub jumps : ℕ  -- counted jumps since the last answer
  pub work : ℕ  -- code words fetched since the last answer

-- a list's words are the first ones
abbrev pub put : {X : Type 0} → (ℕ → X) → ℕ → X → (ℕ → X)
put f at value = λ n. if n == at then value else f n

-- register 0 reads 0
abbrev pub register : Hart → ℕ → ℕ
register h zero = 0
register h (suc n) = h.registers (suc n)

-- turns in register 3 after each answer
abbrev pub full_turns : ℕ
full_turns = 4096

-- a hart with a new value in a register
abbrev pub with_register : ℕ → ℕ → Hart → Hart
with_register rd value h = record h { registers = put h.registers rd value }

-- a hart at the next word
abbrev pub moved : Hart → Hart
moved h = record h { pc = h.pc + 4 }

abbrev pub first_registers : ℕ → ℕ
first_registers = put (put (put (put (λ n. 0) 1 CODE_START) 2 STACK_START) 3 full_turns) 4 GLOBALS_START
