-- What operations that stand in a function do, one after the other.
use Rattle.std.proofs.Common.{◌≡◌, ℕ, ◌+◌, List, [], ◌∷◌, ◌++◌, length, sym, ap, ◌∙◌, subst, arith}
use Rattle.al_world.specs.Turns.{Moves}
use Rattle.al_meaning.specs.Tasks.{Still, Outcome}
use Rattle.al_ir.specs.declared.ir.Operation.{Operation}
use Rattle.al_ir.specs.declared.op.Op.{Op}
use Rattle.al_ir.specs.Control.{Slots, Control}
use Rattle.al_ir.specs.Step.{Next, step_op, step_at, private_step}
use Rattle.al_ir.specs.Meaning.{control_weight, resume}
use Rattle.al_ir.proofs.Lighter.{lighter}
use Rattle.al_lowered.proofs.Does.{Does, one}
use Rattle.al_lower_steps.specs.Site.{Site, frame_at, standing, here, HasOperation, HasAt}

-- ---- operations behind others

pub has_front : (x : Site) (pc : ℕ) (a b : List Operation) → HasAt x pc (a ++ b) → HasAt x pc a
has_front x pc [] b h = tt
has_front x pc (i ∷ a) b h = (h.0, has_front x (pc + 1) a b h.1)

pub has_back : (x : Site) (pc : ℕ) (a b : List Operation) → HasAt x pc (a ++ b) → HasAt x (pc + length a) b
has_back x pc [] b h = let e : pc ≡ pc + 0 = omega arith in subst (λ n. HasAt x n b) e h
has_back x pc (i ∷ a) b h =
    let e : pc + 1 + length a ≡ pc + length (i ∷ a) = omega arith in subst (λ n. HasAt x n b) e (has_back x (pc + 1) a b h.1)

pub has_same : (x : Site) (pc : ℕ) (a b : List Operation) → a ≡ b → HasAt x pc a → HasAt x pc b
has_same x pc a b e h = subst (HasAt x pc) e h

module _ (x : Site) where
  -- an outcome says well how a control comes out
  abbrev pub Out : Outcome → Control → Still → Type 0
  Out o c s = Does (private_step x.ir) (control_weight x.ir) resume (lighter x.ir) x.rules o c s

  -- the operations from here on come out so
  abbrev pub Runs : Outcome → (pc : ℕ) → (slots last : Slots) → Still → Type 0
  Runs o pc slots last s = Out o (standing x pc 0 slots last) s

  pub moved : {o : Outcome} {pc to : ℕ} {slots last : Slots} {s : Still} → pc ≡ to → Runs o to slots last s → Runs o pc slots last s
  moved {o} {pc} {to} {slots} {last} {s} e r = subst (λ n. Runs o n slots last s) (sym e) r

  pub comes_out : {o p : Outcome} {pc : ℕ} {slots last : Slots} {s : Still} → o ≡ p → Runs p pc slots last s → Runs o pc slots last s
  comes_out {o} {p} {pc} {slots} {last} {s} e r = subst (λ q. Runs q pc slots last s) (sym e) r

  -- the step that the operation here is
  pub step_is : (line pc unit : ℕ) (i : Op) (slots last : Slots) (u : List ℕ) (m : Next) → HasOperation x pc line i → step_op i (here x line pc unit slots last u) ≡ m → private_step x.ir (standing x pc unit slots last) u ≡ m
  step_is line pc unit i slots last u m h e = ap (λ o. step_at x.ir (standing x pc unit slots last) (frame_at x pc slots) x.below o u) h ∙ e

  -- an operation that goes on somewhere
  pub goes : {o : Outcome} {line pc : ℕ} {i : Op} {slots last : Slots} {s : Still} (to : ℕ) (now : Slots) → HasOperation x pc line i → step_op i (here x line pc 0 slots last s.privates) ≡ Moves (standing x to 0 now last) s.privates → Runs o to now last s → Runs o pc slots last s
  goes {o} {line} {pc} {i} {slots} {last} {s} to now h e r = one (private_step x.ir) (control_weight x.ir) resume (lighter x.ir) x.rules (step_is line pc 0 i slots last s.privates _ h e) (λ k. k) r

  -- one that sets slots and goes on behind itself
  pub sets : {o : Outcome} {line pc : ℕ} {i : Op} {slots last : Slots} {s : Still} (now : Slots) → HasOperation x pc line i → step_op i (here x line pc 0 slots last s.privates) ≡ Moves (standing x (pc + 1) 0 now last) s.privates → Runs o (pc + 1) now last s → Runs o pc slots last s
  sets {o} {line} {pc} {i} {slots} {last} {s} now h e r = goes (pc + 1) now h e r
