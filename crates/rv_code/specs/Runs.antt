-- Runs of the machine by instructions that stand in the code, told without counting what is left of a stretch.
use Rattle.std.specs.Prelude.{◌≡◌, ℕ, ◌+◌, List, [], ◌∷◌, slice_get, Some}
use Rattle.al_world.specs.Control.{Asked}
use Rattle.rv_isa.specs.declared.image.Contents.{Contents}
use Rattle.rv_isa.specs.declared.instr.Instr.{Instr}
use Rattle.rv_isa.specs.Table.{instruction_of}
use Rattle.rv_exec.specs.Hart.{Hart}
use Rattle.rv_exec.specs.Calls.{Privates}
use Rattle.rv_exec.specs.Machine.{asked_within}
use Rattle.rv_exec.specs.Proper.{AreBelow, IsHart}

-- word number `at` of the code is this instruction
abbrev pub At : List ℕ → ℕ → Instr → Type 0
At code at i = (w : ℕ) × (slice_get code at ≡ Some w) × (instruction_of w ≡ Some i)

-- these instructions stand in the code from word number `at` on
abbrev pub Stands : List ℕ → ℕ → List Instr → Type 0
Stands code at [] = Unit {0}
Stands code at (i ∷ is) = At code at i × Stands code (at + 1) is

-- all numbers have 32 bits
pub record Fine (h : Hart) (p : Privates) : Type 0 where
  pub hart : IsHart h
  pub privates : AreBelow p

module _ (image : Contents) where
  -- `count` instructions lead from one hart to another, however many more are left to it
  pub record Leads (h : Hart) (p : Privates) (next : Hart) (q : Privates) : Type 0 where
    pub count : ℕ
    pub by : (m : ℕ) → asked_within image (count + m) h p ≡ asked_within image m next q
    pub fine : Fine h p → Fine next q

  -- after `count` instructions the hart asks this, however many more are left to it
  pub record Comes (h : Hart) (p : Privates) (a : Asked Hart Privates) : Type 0 where
    pub count : ℕ
    pub by : (m : ℕ) → asked_within image (count + m) h p ≡ a
