-- From steps that harts follow to runs that are the same.
use Rattle.std.proofs.Common.{◌≡◌, ℕ, zero, suc, List, replicate, slice_index, refl, subst}
use Rattle.std.proofs.lemmas.List.{length-replicate}
use Rattle.al_event.specs.declared.act.Start.{Start}
use Rattle.al_world.specs.Alike.{SimulatesFrom}
use Rattle.al_world.specs.Turns.{Moves, to_turn}
use Rattle.al_until_last.proofs.Lifting.{lifting_from_start}
use Rattle.al_ir.specs.declared.ir.Ir.{Ir}
use Rattle.al_ir.specs.Control.{Control}
use Rattle.al_ir.specs.Laws.{IsTurnOrAction}
use Rattle.al_ir.specs.Meaning.{tasks, start, resume, fresh_privates, control_weight}
use Rattle.al_ir.specs.Step.{private_step}
use Rattle.al_ir.proofs.Total.{come_to_actions}
use Rattle.rv_isa.specs.declared.image.Contents.{Contents}
use Rattle.rv_exec.specs.Machine.{machine}
use Rattle.rv_exec.proofs.Staying.{stays_proper}
use Rattle.rv_match.specs.Laws.{Followed}
use Rattle.rv_match.specs.Match.{Private, Plain, Match}
use Rattle.rv_match.specs.Places.{full}
use Rattle.rv_match.proofs.Alike.{alike, relation}
use Rattle.rv_match.proofs.Following.{either_follows}

module _ (ir : Ir) where
  no_step : (c d : Control) (u v : List ℕ) → to_turn (private_step ir) (control_weight ir) (control_weight ir c) c u ≡ Moves d v → ⊥
  no_step c d u v e = subst IsTurnOrAction e (come_to_actions ir c u)

  zeros : (n j : ℕ) → 0 ≡ slice_index (replicate n 0) j
  zeros zero j = refl
  zeros (suc n) zero = refl
  zeros (suc n) (suc j) = zeros n j

  first : Private ir (fresh_privates ir) (λ n. 0)
  first = (length-replicate ir.privates 0, λ j less. zeros ir.privates j)

module _ (ir : Ir) (image : Contents) (IsStart : Start → Type 0) (f : Followed ir image IsStart) where
  pub simulates : (s : Start) → IsStart s → SimulatesFrom (tasks ir) (machine image) s
  simulates s known =
      lifting_from_start (tasks ir) (machine image)
      (relation image f.small (private_step ir) (control_weight ir) resume (start ir) (fresh_privates ir) (Private ir) (Match ir image f.places f.live f.Midway) 4095 f.Good f.IsPrivate IsStart)
      (alike image f.small (private_step ir) (control_weight ir) resume (start ir) (fresh_privates ir) (Private ir) (Match ir image f.places f.live f.Midway) 4095 f.Good f.IsPrivate IsStart f.sensible
      (either_follows image (private_step ir) resume (Private ir) (Plain ir image f.places f.live f.Midway) full f.follows)
      (no_step ir)
      (λ s k. ((stays_proper image f.small).starts s (f.words s k), f.begins s k))
      (first ir)) s known
