use Rattle.std.proofs.Common.{◌≡◌, take}
use Rattle.al_event.specs.Store.{region_base}
use Rattle.al_typed.specs.Capped.{capped}
use Rattle.al_variables.specs.Placing.{behind_all}
use Rattle.al_variables.proofs.globals.global_place.Given as goal

abbrev pub invariant-loop-global : goal.invariant-loop-global
invariant-loop-global l = l.at ≡ capped (behind_all l.rows region_base (take l.global-index l.before))
