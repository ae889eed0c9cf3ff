-- Outcomes that have a sense on a machine.
use Rattle.std.specs.Prelude.{◌≢◌, ⊤}
use Rattle.al_base.specs.declared.trap.Trap.TheVariants.{Illegal}
use Rattle.al_event.specs.declared.act.Act.{Act}
use Rattle.al_event.specs.declared.act.Act.TheVariants.{Trap}
use Rattle.al_meaning.specs.Tasks.{Outcome, Asks}

-- the trap that stands for what has no meaning
abbrev pub illegal : Act
illegal = Trap Illegal

-- what is asked is not that trap
abbrev pub IsReal : Outcome → Type 0
IsReal (Asks a line privates) = a ≢ illegal
IsReal _ = ⊤
