-- Worlds that are over at their start.
use Rattle.std.proofs.Common.{◌≡◌, ℕ, List, [], ◌∷◌, Option, Some, None, option_and_then, option_map, refl, ap, ◌∙◌}
use Rattle.al_base.specs.declared.over.Over.{Over}
use Rattle.al_base.specs.declared.over.Over.TheVariants.{Trapped}
use Rattle.al_base.specs.declared.trap.Trap.TheVariants.{Memory}
use Rattle.al_event.specs.declared.act.Start.{Start}
use Rattle.al_event.specs.declared.entry.Entry.{Entry}
use Rattle.al_world.specs.Control.{Kind}
use Rattle.al_world.specs.Step.{opening, opening_with, run, seen, step_held, task_of, with_globals}
use Rattle.al_world.specs.World.{Shared, TaskName, World}
use Rattle.al_world.proofs.Runs.{run_none}

-- what all see where no entry is permitted
abbrev pub at_start : Shared → List Entry → Option Shared
at_start s [] = Some s
at_start s (e ∷ es) = None

module _ (K : Kind) where
  none_goes : (w : World K) (over : Over) → w.shared.over ≡ Some over → (e : Entry) (es : List Entry) → run K (e ∷ es) (Some w) ≡ None
  none_goes w over is e es =
      ap (λ o. run K es (option_and_then (λ (t : TaskName). step_held K w t e.pick (w.tasks t)) (task_of w.shared o e.proc))) is ∙ run_none K es

  -- a run comes to a world that is not over only from such a one
  pub was_going : (h : List Entry) (w v : World K) → run K h (Some w) ≡ Some v → v.shared.over ≡ None → w.shared.over ≡ None
  was_going [] w v is goes = ap (λ (o : Option (World K)). over_in o) is ∙ goes
    where
      over_in : Option (World K) → Option Over
      over_in (Some w) = w.shared.over
      over_in None = None
  was_going (e ∷ es) w v is goes = on w.shared.over refl
    where
      on : (o : Option Over) → w.shared.over ≡ o → o ≡ None
      on None at = refl
      on (Some over) at = let none = none_goes w over at e es in absurd (cc)

  seen_from : (w : World K) (over : Over) → w.shared.over ≡ Some over → (h : List Entry) → seen K w h ≡ at_start w.shared h
  seen_from w over is [] = refl
  seen_from w over is (e ∷ es) = ap (option_map (λ (v : World K). v.shared)) (none_goes w over is e es)

  -- where the blocks have no place, all see that, and no entry is permitted
  pub seen_closed : (region : ℕ) (globals : List (List ℕ)) (start : Start) → with_globals region globals [] ≡ None → (h : List Entry)
      → seen K (opening K region globals start) h ≡ at_start (opening_with region None) h
  seen_closed region globals start none h =
      seen_from (opening K region globals start) (Trapped Memory 0 0) (ap (λ o. (opening_with region o).over) none) h
      ∙ ap (λ o. at_start (opening_with region o) h) none
