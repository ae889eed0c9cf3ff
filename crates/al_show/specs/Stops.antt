-- What an entry that was not made stops.
use Rattle.al_control.specs.declared.unmade.Unmade.{Unmade}
use Rattle.al_control.specs.declared.unmade.Unmade.TheVariants as unmade
use Rattle.al_show.specs.declared.walking.WalkStop.{WalkStop}
use Rattle.al_show.specs.declared.walking.WalkStop.TheVariants as stop

abbrev pub of_unmade : Unmade → WalkStop
of_unmade unmade.NoMemory = stop.NoMemory
of_unmade unmade.TooLarge = stop.TooLarge
