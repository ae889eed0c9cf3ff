-- Kinds of control whose tasks never ask the trap Illegal, which operations ask that have no meaning.
use Rattle.std.specs.Prelude.{◌≡◌, ◌≢◌, ℕ, false, List}
use Rattle.std.specs.List.{AllByRecursion}
use Rattle.al_base.specs.declared.trap.Trap.TheVariants.{Illegal}
use Rattle.al_event.specs.declared.act.Act.TheVariants.{Trap as Traps}
use Rattle.al_event.specs.declared.act.Start.{Start}
use Rattle.al_until_last.specs.UntilLast.{is_last}
use Rattle.al_world.specs.Alike.{starts_in}
use Rattle.al_world.specs.Control.{Kind, fitted}

-- `Good` controls ask so, start known functions, and go on so with each answer
pub record Sensible (K : Kind) (Good : K.Control → Type 0) (IsPrivate : K.Privates → Type 0) (IsStart : Start → Type 0) : Type 0 where
  pub acts : (c : K.Control) (u : K.Privates) → Good c → IsPrivate u → (K.ask c u).act ≢ Traps Illegal
  pub known : (c : K.Control) (u : K.Privates) → Good c → IsPrivate u → AllByRecursion IsStart (starts_in (K.ask c u).act)
  pub privates : (c : K.Control) (u : K.Privates) → Good c → IsPrivate u → IsPrivate (K.ask c u).privates
  pub resumes : (c : K.Control) (u : K.Privates) (words : List ℕ) → Good c → IsPrivate u → is_last (K.ask c u).act ≡ false → Good (K.resume (K.ask c u).control (fitted (K.ask c u).act words))
  pub starts : (start : Start) → IsStart start → Good (K.start start)
  pub fresh : IsPrivate K.fresh
