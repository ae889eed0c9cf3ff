-- The weight of a control bounds its private steps.
use Rattle.std.proofs.Common.{◌≡◌, ℕ, zero, suc, ◌≤◌, List, refl, arith}
use Rattle.al_world.specs.Turns.{Moves, Turns, Asks, to_turn}
use Rattle.al_typed.specs.declared.program.Program.{Program}
use Rattle.al_meaning.specs.Items.{Control}
use Rattle.al_meaning.specs.Here.{Next}
use Rattle.al_meaning.specs.Step.{private_step}
use Rattle.al_meaning.specs.Weight.{control_weight}
use Rattle.al_meaning.specs.Laws.{IsTurnOrAction, ComeToActions}
use Rattle.al_meaning.proofs.Lighter.{lighter}

within : (p : Program) (n : ℕ) (c : Control) (u : List ℕ) → control_weight p c ≤ n → IsTurnOrAction (to_turn (private_step p) (control_weight p) n c u)
within p zero c u le = on (private_step p c u) refl
  where
    on : (x : Next) → private_step p c u ≡ x → IsTurnOrAction x
    on (Moves d v) e = absurd (omega (arith, lighter p c d u v e, le))
    on (Turns line d v) e = tt
    on (Asks a line d v) e = tt
within p (suc n) c u le = on (private_step p c u) refl (λ d v lt. within p n d v lt)
  where
    on : (x : Next) → private_step p c u ≡ x → ((d : Control) (v : List ℕ) → control_weight p d ≤ n → IsTurnOrAction (to_turn (private_step p) (control_weight p) n d v))
        → IsTurnOrAction (elim x [ Moves d v ↦ to_turn (private_step p) (control_weight p) n d v | Turns line d v ↦ Turns line d v | Asks a line d v ↦ Asks a line d v ])
    on (Moves d v) e more = more d v (omega (arith, lighter p c d u v e, le))
    on (Turns line d v) e more = tt
    on (Asks a line d v) e more = tt

pub come_to_actions : ComeToActions
come_to_actions p c u = within p (control_weight p c) c u (omega arith)
