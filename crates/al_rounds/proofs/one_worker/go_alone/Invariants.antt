use Rattle.std.proofs.Common.{◌≡◌, ◌-◌, length}
use Rattle.al_core.specs.History.{away}
use Rattle.al_rounds.specs.Later.{IsLater}
use Rattle.al_rounds.proofs.one_worker.go_alone.Given as goal

abbrev pub invariant-loop-held : goal.invariant-loop-held
invariant-loop-held g l = record { later : IsLater 0 l.initial.world l.world; here : away l.world ≡ 0 }

abbrev pub decreases-loop-held : goal.decreases-loop-held
decreases-loop-held g l = l.world.quota - length l.world.entries
