-- Runs along more and more entries of a schedule.
use Rattle.std.proofs.Common.{ℕ, zero, suc, ◌+◌, ◌≡◌, arith, List, [], ◌∷◌, take, slice_get, Option, Some, option_and_then, ap, subst, ◌∙◌}
use Rattle.std.proofs.lemmas.Option.{same_Some}
use Rattle.al_event.specs.declared.entry.Entry.{Entry}
use Rattle.al_world.specs.World.{World}
use Rattle.al_world.specs.Step.{step, run}
use Rattle.al_script.specs.declared.script.Instruction.{Instruction}
use Rattle.al_script.specs.declared.world.World.{World as Lists}
use Rattle.al_script.specs.declared.step.Next.{Next}
use Rattle.al_script.specs.declared.step.Next.TheVariants.{To, Refused, TooLarge}
use Rattle.al_script.specs.declared.run.Stop.TheVariants as stop
use Rattle.al_script.specs.Scripts.{scripts}
use Rattle.al_script.specs.Worlds.{world_of}
use Rattle.al_script.specs.Stops.{IsNext, IsStopped}

module _ (functions : List (List Instruction)) where
  goes_on : (entry : Entry) (o : Option (World (scripts functions))) (w : World (scripts functions)) → o ≡ Some w → option_and_then (λ (v : World (scripts functions)). step (scripts functions) v entry) o ≡ step (scripts functions) w entry
  goes_on entry o w e = ap (λ (p : Option (World (scripts functions))). option_and_then (λ (v : World (scripts functions)). step (scripts functions) v entry) p) e

  pub runs_more : (schedule : List Entry) (at : ℕ) (entry : Entry) (o : Option (World (scripts functions))) (w v : World (scripts functions)) → slice_get schedule at ≡ Some entry → run (scripts functions) (take at schedule) o ≡ Some w → step (scripts functions) w entry ≡ Some v → run (scripts functions) (take (suc at) schedule) o ≡ Some v
  runs_more [] at entry o w v is ran goes = cc
  runs_more (e ∷ es) zero entry o w v is ran goes =
      goes_on e o w ran ∙ (ap (λ (x : Entry). step (scripts functions) w x) (same_Some e entry is) ∙ goes)
  runs_more (e ∷ es) (suc k) entry o w v is ran goes =
      runs_more es k entry (option_and_then (λ (u : World (scripts functions)). step (scripts functions) u e) o) w v is ran goes

  -- the world after one entry more
  pub runs_to : (schedule : List Entry) (at : ℕ) (entry : Entry) (first : World (scripts functions)) (w v : Lists) (n : Next) → n ≡ To v → IsNext functions (world_of functions w) entry n → run (scripts functions) (take at schedule) (Some first) ≡ Some (world_of functions w) → slice_get schedule at ≡ Some entry → run (scripts functions) (take (at + 1) schedule) (Some first) ≡ Some (world_of functions v)
  runs_to schedule at entry first w v n e h ran is =
      let more : suc at ≡ at + 1 = omega arith in
      let goes : step (scripts functions) (world_of functions w) entry ≡ Some (world_of functions v) = subst (λ (x : Next). IsNext functions (world_of functions w) entry x) e h in
      subst (λ (k : ℕ). run (scripts functions) (take k schedule) (Some first) ≡ Some (world_of functions v)) more
      (runs_more schedule at entry (Some first) (world_of functions w) (world_of functions v) is ran goes)

  -- an entry that is refused, and one that has no room
  pub refused_at : (schedule : List Entry) (at : ℕ) (entry : Entry) (first : World (scripts functions)) (w : Lists) (n : Next) → n ≡ Refused → IsNext functions (world_of functions w) entry n → run (scripts functions) (take at schedule) (Some first) ≡ Some (world_of functions w) → slice_get schedule at ≡ Some entry → IsStopped functions first schedule (stop.NotPermitted at)
  refused_at schedule at entry first w n e h ran is =
      (record { before = world_of functions w; ran = ran; entry = entry; is = is }, subst (λ (x : Next). IsNext functions (world_of functions w) entry x) e h)

  pub full_at : (schedule : List Entry) (at : ℕ) (entry : Entry) (first : World (scripts functions)) (w : Lists) (n : Next) → n ≡ TooLarge → IsNext functions (world_of functions w) entry n → run (scripts functions) (take at schedule) (Some first) ≡ Some (world_of functions w) → slice_get schedule at ≡ Some entry → IsStopped functions first schedule (stop.TooLarge at)
  full_at schedule at entry first w n e h ran is =
      (record { before = world_of functions w; ran = ran; entry = entry; is = is }, subst (λ (x : Next). IsNext functions (world_of functions w) entry x) e h)
