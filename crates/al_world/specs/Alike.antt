-- Two kinds of control whose tasks ask the same.
use Rattle.std.specs.Prelude.{ℕ, List, [], ◌∷◌, ◌≡◌}
use Rattle.std.specs.List.{AllByRecursion}
use Rattle.al_event.specs.declared.act.Start.{Start}
use Rattle.al_event.specs.declared.act.Act.{Act}
use Rattle.al_event.specs.declared.act.Act.TheVariants.{Proc, Task, Par}
use Rattle.al_event.specs.declared.entry.Entry.{Entry}
use Rattle.al_world.specs.Control.{Asked, Kind, fitted}
use Rattle.al_world.specs.World.{World}
use Rattle.al_world.specs.Step.{seen, opening}

-- each function that an action starts
abbrev pub starts_in : Act → List Start
starts_in (Proc start) = start ∷ []
starts_in (Task start) = start ∷ []
starts_in (Par starts) = starts
starts_in _ = []

-- which controls of two kinds correspond before they ask, and while they wait for the answer to an action; which private
-- globals correspond; and which starts there are
pub record Relation (C D U V : Type 0) : Type 1 where
  pub Going : C → D → Type 0
  pub Waiting : Act → C → D → Type 0
  pub Private : U → V → Type 0
  pub IsStart : Start → Type 0

-- the same action in the same line, which starts known functions, with controls and private globals that correspond; the
-- instructions on the way may differ
pub record AsksAlike {C D U V : Type 0} (R : Relation C D U V) (a : Asked C U) (b : Asked D V) : Type 0 where
  pub act : a.act ≡ b.act
  pub line : a.line ≡ b.line
  pub control : R.Waiting a.act a.control b.control
  pub privates : R.Private a.privates b.privates
  pub starts : AllByRecursion R.IsStart (starts_in a.act)

-- tasks that correspond ask alike, and go on alike with each answer
pub record Alike (K L : Kind) (R : Relation K.Control L.Control K.Privates L.Privates) : Type 0 where
  pub asks : (c : K.Control) (d : L.Control) (u : K.Privates) (v : L.Privates) → R.Going c d → R.Private u v → AsksAlike R (K.ask c u) (L.ask d v)
  pub resumes : (act : Act) (c : K.Control) (d : L.Control) (words : List ℕ) → R.Waiting act c d → R.Going (K.resume c (fitted act words)) (L.resume d (fitted act words))
  pub starts : (start : Start) → R.IsStart start → R.Going (K.start start) (L.start start)
  pub fresh : R.Private K.fresh L.fresh

-- along every schedule the one world is there exactly where the other is, and then all can see the same in both: store,
-- channels, waiting list, ready lists, output, end and line, and what went
abbrev pub Simulates : (K L : Kind) → World K → World L → Type 0
Simulates K L w v = (h : List Entry) → seen K w h ≡ seen L v h

-- the same from the first worlds, for every region and all globals
abbrev pub SimulatesFrom : (K L : Kind) → Start → Type 0
SimulatesFrom K L start =
    (region : ℕ) (globals : List (List ℕ)) → Simulates K L (opening K region globals start) (opening L region globals start)
