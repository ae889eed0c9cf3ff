-- What is asked of the world for one unit of a value, and what a hart waits for.
use Rattle.std.specs.Prelude.{ℕ, ◌%◌, ◌^◌}
use Rattle.al_event.specs.declared.act.Act.{Act}
use Rattle.al_event.specs.declared.act.Act.TheVariants as act
use Rattle.rv_exec.specs.Hart.{put}
use Rattle.rv_exec.specs.declared.state.Waits.{Waits}
use Rattle.rv_exec.specs.declared.state.Waits.TheVariants.{Done, Unit as UnitWaits}
use Rattle.rv_form.specs.Units.{Way, Loads, Stores, Clears, load_op}

-- `w` is the word that is stored
abbrev pub act_of : Way → (address size w : ℕ) → Act
act_of Loads address size w = act.Load address size
act_of Stores address size w = act.Store address size (w % 256 ^ size)
act_of Clears address size w = act.Store address size (0 % 256 ^ size)

abbrev pub waits_of : Way → (size : ℕ) → Waits
waits_of Loads size = UnitWaits (load_op size) 11
waits_of Stores size = Done
waits_of Clears size = Done

-- the registers behind an answer, which is a unit or nothing
abbrev pub answered : Way → (v : ℕ) → (ℕ → ℕ) → (ℕ → ℕ)
answered Loads v registers = put (put registers 11 v) 3 4096
answered Stores v registers = put registers 3 4096
answered Clears v registers = put registers 3 4096

-- the stack once the unit has come to its word
abbrev pub stored : Way → (cell v : ℕ) → (ℕ → ℕ) → (ℕ → ℕ)
stored Loads cell v stack = put stack cell v
stored Stores cell v stack = stack
stored Clears cell v stack = stack
