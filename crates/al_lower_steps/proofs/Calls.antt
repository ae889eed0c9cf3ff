-- Functions that begin above others, and return to them.
use Rattle.std.proofs.Common.{◌≡◌, ℕ, ◌+◌, List, [], ◌∷◌, Some, None, refl}
use Rattle.std.specs.Prelude.{nat_lt, Bool, true, false, if◌then◌else◌, sum_by}
use Rattle.al_base.specs.declared.trap.Trap.TheVariants as trap
use Rattle.al_event.specs.declared.act.Act.TheVariants as act
use Rattle.al_meaning.specs.Calls.{most_slots}
use Rattle.al_meaning.specs.Tasks.{Still, Outcome, stop_in, turn_in}
use Rattle.al_ir.specs.declared.ir.Ir.{Ir}
use Rattle.al_ir.specs.declared.op.Op.TheVariants.{Invoke, InvokePointer, Become, Leave}
use Rattle.al_ir.specs.Control.{Slots, no_slots, first_slots, slots_from, Frame, Control, function_at, line_of, stack_of, begun}
use Rattle.al_ir.specs.Step.{private_step, frame_stack, named_in, class_of}
use Rattle.al_ir.specs.Meaning.{control_weight, resume}
use Rattle.al_ir.proofs.Lighter.{lighter}
use Rattle.al_lowered.specs.Rules.{Rules}
use Rattle.al_lowered.proofs.Does.{Does, one, stops, turns}
use Rattle.al_lower_steps.specs.Site.{Site, frame_at, going, entering, HasOperation}
use Rattle.al_lower_steps.proofs.Steps.{Out, Runs, step_is}
use Rattle.al_lower_steps.proofs.Actions.{stops_does}

module _ (x : Site) where
  -- the turn of a call, and then the function is to begin
  pub invoke_does : {line pc function arguments : ℕ} {slots last : Slots} {s : Still} (k : Still → Outcome) → HasOperation x pc line (Invoke function arguments) → ((s : Still) → Out x (k s) (entering x.text function (slots_from arguments slots) (frame_at x (pc + 1) slots ∷ x.below)) s) → Runs x (turn_in line s k) pc slots last s
  invoke_does {line} {pc} {function} {arguments} {slots} {last} {s} k h go =
      turns (private_step x.ir) (control_weight x.ir) resume (lighter x.ir) x.rules (λ c. refl) k (step_is x line pc 0 (Invoke function arguments) slots last s.privates _ h refl) go

  -- a call through a pointer that names a function of the class
  pub invoke_pointer_does : {line pc class pointer arguments v function : ℕ} {slots last : Slots} {s : Still} (k : Still → Outcome) → HasOperation x pc line (InvokePointer class pointer arguments) → slots pointer ≡ Some v → named_in v (class_of x.ir class) ≡ Some function → ((s : Still) → Out x (k s) (entering x.text function (slots_from arguments slots) (frame_at x (pc + 1) slots ∷ x.below)) s) → Runs x (turn_in line s k) pc slots last s
  invoke_pointer_does {line} {pc} {class} {pointer} {arguments} {v} {function} {slots} {last} {s} k h e n go =
      turns (private_step x.ir) (control_weight x.ir) resume (lighter x.ir) x.rules (λ c. refl) k (step_is x line pc 0 (InvokePointer class pointer arguments) slots last s.privates _ h (rw (e, n) refl)) go

  -- one that names none
  pub invoke_pointer_traps : {line pc class pointer arguments v : ℕ} {slots last : Slots} {s : Still} → HasOperation x pc line (InvokePointer class pointer arguments) → slots pointer ≡ Some v → named_in v (class_of x.ir class) ≡ None → Runs x (stop_in line (act.Trap trap.Call) s) pc slots last s
  invoke_pointer_traps {line} {pc} {class} {pointer} {arguments} h e n = stops_does x {line = line} {pc = pc} {i = InvokePointer class pointer arguments} h (rw (e, n) refl) refl tt

  -- a call in the place of the function at hand
  pub become_does : {line pc function arguments : ℕ} {slots last : Slots} {s : Still} (k : Still → Outcome) → HasOperation x pc line (Become function arguments) → ((s : Still) → Out x (k s) (entering x.text function (slots_from arguments slots) x.below) s) → Runs x (turn_in line s k) pc slots last s
  become_does {line} {pc} {function} {arguments} {slots} {last} {s} k h go =
      turns (private_step x.ir) (control_weight x.ir) resume (lighter x.ir) x.rules (λ c. refl) k (step_is x line pc 0 (Become function arguments) slots last s.privates _ h refl) go

  -- the turn of a return, and then the frames below go on
  pub leave_does : {line pc words : ℕ} {slots last : Slots} {s : Still} (k : Still → Outcome) → HasOperation x pc line (Leave words) → ((s : Still) → Out x (k s) (going x.text (first_slots words slots) x.below) s) → Runs x (turn_in line s k) pc slots last s
  leave_does {line} {pc} {words} {slots} {last} {s} k h go =
      turns (private_step x.ir) (control_weight x.ir) resume (lighter x.ir) x.rules (λ c. refl) k (step_is x line pc 0 (Leave words) slots last s.privates _ h refl) go

module _ (ir : Ir) (R : Rules) where
  abbrev pub Comes : Outcome → Control → Still → Type 0
  Comes o c s = Does (private_step ir) (control_weight ir) resume (lighter ir) R o c s

  -- A function begins: the stack is tested, in the line of its name, and then its first operation is next.
  pub enters_does : {o : Outcome} {text : List ℕ} {function : ℕ} {arguments : Slots} {frames : List Frame} {s : Still} (b : Bool) → nat_lt most_slots (sum_by (frame_stack ir) frames + stack_of (function_at ir function)) ≡ b → (b ≡ false → Comes o (going text no_slots (begun ir function arguments ∷ frames)) s) → Comes (if b then stop_in (line_of (function_at ir function)) (act.Trap trap.Stack) s else o) (entering text function arguments frames) s
  enters_does {o} {text} {function} {arguments} {frames} {s} true e go =
      stops (private_step ir) (control_weight ir) resume (lighter ir) R {d = entering text function arguments frames} (act.Trap trap.Stack) (line_of (function_at ir function)) (rw e refl) refl tt
  enters_does {o} {text} {function} {arguments} {frames} {s} false e go =
      one (private_step ir) (control_weight ir) resume (lighter ir) R {d = going text no_slots (begun ir function arguments ∷ frames)} (rw e refl) (λ k. k) (go refl)

  -- a task without frames has ended
  pub ends_does : {text : List ℕ} {last : Slots} {s : Still} → Comes (stop_in 0 act.End s) (going text last []) s
  ends_does {text} {last} {s} = stops (private_step ir) (control_weight ir) resume (lighter ir) R {d = going text last []} act.End 0 refl refl tt
