-- The weight of a control bounds its private steps.
use Rattle.std.proofs.Common.{◌≡◌, ℕ, zero, suc, ◌≤◌, List, refl, arith}
use Rattle.al_world.specs.Turns.{Moves, Turns, Asks, to_turn}
use Rattle.al_ir.specs.declared.ir.Ir.{Ir}
use Rattle.al_ir.specs.Control.{Control}
use Rattle.al_ir.specs.Step.{Next, private_step}
use Rattle.al_ir.specs.Meaning.{control_weight}
use Rattle.al_ir.specs.Laws.{IsTurnOrAction, ComeToActions}
use Rattle.al_ir.proofs.Lighter.{lighter}

within : (ir : Ir) (n : ℕ) (c : Control) (u : List ℕ) → control_weight ir c ≤ n → IsTurnOrAction (to_turn (private_step ir) (control_weight ir) n c u)
within ir zero c u le = on (private_step ir c u) refl
  where
    on : (x : Next) → private_step ir c u ≡ x → IsTurnOrAction x
    on (Moves d v) e = absurd (omega (arith, lighter ir c d u v e, le))
    on (Turns line d v) e = tt
    on (Asks a line d v) e = tt
within ir (suc n) c u le = on (private_step ir c u) refl (λ d v lt. within ir n d v lt)
  where
    on : (x : Next) → private_step ir c u ≡ x → ((d : Control) (v : List ℕ) → control_weight ir d ≤ n → IsTurnOrAction (to_turn (private_step ir) (control_weight ir) n d v))
        → IsTurnOrAction (elim x [ Moves d v ↦ to_turn (private_step ir) (control_weight ir) n d v | Turns line d v ↦ Turns line d v | Asks a line d v ↦ Asks a line d v ])
    on (Moves d v) e more = more d v (omega (arith, lighter ir c d u v e, le))
    on (Turns line d v) e more = tt
    on (Asks a line d v) e more = tt

pub come_to_actions : ComeToActions
come_to_actions ir c u = within ir (control_weight ir c) c u (omega arith)
