-- The picks of an action by the channels are those that the world gives it.
use Rattle.std.proofs.Common.{◌≡◌, refl}
use Rattle.al_event.specs.declared.act.Act.{Act}
use Rattle.al_event.specs.declared.act.Act.TheVariants as act
use Rattle.al_world.specs.World.{Shared}
use Rattle.al_world.specs.Permitted.{picks}
use Rattle.al_script.specs.Worlds.{picks_with}

pub picks-are : (s : Shared) (a : Act) → picks_with s.book a ≡ picks s a
picks-are s (act.Talk branches) = refl
picks-are s (act.Load at size) = refl
picks-are s (act.Store at size word) = refl
picks-are s (act.Alloc bytes kind) = refl
picks-are s (act.Free at kind) = refl
picks-are s (act.NewChan capacity words) = refl
picks-are s (act.FreeChan chan) = refl
picks-are s (act.CanRecv chan) = refl
picks-are s (act.CanSend chan) = refl
picks-are s (act.Proc start) = refl
picks-are s (act.Task start) = refl
picks-are s (act.Par starts) = refl
picks-are s (act.Print text) = refl
picks-are s (act.Terminate status) = refl
picks-are s act.Pause = refl
picks-are s (act.Trap trap) = refl
picks-are s act.End = refl
