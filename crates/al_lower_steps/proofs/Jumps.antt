-- Operations that go elsewhere.
use Rattle.std.proofs.Common.{◌≡◌, ℕ, ◌+◌, ◌-◌, ◌<◌, Some, refl, arith}
use Rattle.std.specs.Prelude.{◌==◌, nat_lt, Bool, true, false, if◌then◌else◌}
use Rattle.std.proofs.lemmas.Grind.{common_steps}
use Rattle.al_base.specs.Arith.{applied}
use Rattle.al_base.specs.declared.arith.Op.{Op as Arith}
use Rattle.al_world.specs.Turns.{Moves}
use Rattle.al_meaning.specs.Tasks.{Still, Outcome, turn_in}
use Rattle.al_ir.specs.declared.op.Op.{Op}
use Rattle.al_ir.specs.declared.op.Op.TheVariants.{Skip, SkipIfZero, SkipIfSet, SkipUnless, GoTo, Back, Turn}
use Rattle.al_ir.specs.Control.{Slots}
use Rattle.al_ir.specs.Step.{step_op, private_step, word_kind, skips_if}
use Rattle.al_ir.specs.Meaning.{control_weight, resume}
use Rattle.al_ir.proofs.Lighter.{lighter}
use Rattle.al_lowered.proofs.Does.{turns}
use Rattle.al_lower_steps.specs.Site.{Site, standing, here, HasOperation}
use Rattle.al_lower_steps.proofs.Steps.{Runs, goes, step_is}

module _ (x : Site) where
  -- ---- forward

  pub skip_does : {o : Outcome} {line pc count : ℕ} {slots last : Slots} {s : Still} → HasOperation x pc line (Skip count) → Runs x o (pc + 1 + count) slots last s → Runs x o pc slots last s
  skip_does {o} {line} {pc} {count} {slots} {last} {s} h r = goes x (pc + 1 + count) slots h refl r

  pub go_to_does : {o : Outcome} {line pc to : ℕ} {slots last : Slots} {s : Still} → HasOperation x pc line (GoTo to) → pc < to → Runs x o to slots last s → Runs x o pc slots last s
  go_to_does {o} {line} {pc} {to} {slots} {last} {s} h lt r = let e : nat_lt pc to ≡ true = grind (arith, common_steps, lt) in goes x to slots h (rw e refl) r

  -- where a word is 0 or is not: `so` says how it comes out then
  skips : {line pc : ℕ} {i : Op} {slots last : Slots} {s : Still} (count : ℕ) (so : Bool → Outcome) (b : Bool) → HasOperation x pc line i → step_op i (here x line pc 0 slots last s.privates) ≡ (if b then Moves (standing x (pc + 1 + count) 0 slots last) s.privates else Moves (standing x (pc + 1) 0 slots last) s.privates) → (b ≡ true → Runs x (so true) (pc + 1 + count) slots last s) → (b ≡ false → Runs x (so false) (pc + 1) slots last s) → Runs x (so b) pc slots last s
  skips {line} {pc} {i} {slots} {last} {s} count so true h e over on = goes x (pc + 1 + count) slots h e (over refl)
  skips {line} {pc} {i} {slots} {last} {s} count so false h e over on = goes x (pc + 1) slots h e (on refl)

  pub skip_if_zero_does : {line pc slot count w : ℕ} {slots last : Slots} {s : Still} (so : Bool → Outcome) → HasOperation x pc line (SkipIfZero slot count) → slots slot ≡ Some w → ((w == 0) ≡ true → Runs x (so true) (pc + 1 + count) slots last s) → ((w == 0) ≡ false → Runs x (so false) (pc + 1) slots last s) → Runs x (so (w == 0)) pc slots last s
  skip_if_zero_does {line} {pc} {slot} {count} {w} {slots} {last} {s} so h e over on = skips {i = SkipIfZero slot count} count so (w == 0) h (rw e (step (w == 0))) over on
    where
      step : (b : Bool) → skips_if b count (here x line pc 0 slots last s.privates) ≡ (if b then Moves (standing x (pc + 1 + count) 0 slots last) s.privates else Moves (standing x (pc + 1) 0 slots last) s.privates)
      step true = refl
      step false = refl

  pub skip_if_set_does : {line pc slot count w : ℕ} {slots last : Slots} {s : Still} (so : Bool → Outcome) → HasOperation x pc line (SkipIfSet slot count) → slots slot ≡ Some w → ((w == 0) ≡ true → Runs x (so true) (pc + 1) slots last s) → ((w == 0) ≡ false → Runs x (so false) (pc + 1 + count) slots last s) → Runs x (so (w == 0)) pc slots last s
  skip_if_set_does {line} {pc} {slot} {count} {w} {slots} {last} {s} so h e on over = by (w == 0) (rw e refl) on over
    where
      by : (b : Bool) → step_op (SkipIfSet slot count) (here x line pc 0 slots last s.privates) ≡ (if b then Moves (standing x (pc + 1) 0 slots last) s.privates else Moves (standing x (pc + 1 + count) 0 slots last) s.privates) → (b ≡ true → Runs x (so true) (pc + 1) slots last s) → (b ≡ false → Runs x (so false) (pc + 1 + count) slots last s) → Runs x (so b) pc slots last s
      by true q on over = goes x (pc + 1) slots h q (on refl)
      by false q on over = goes x (pc + 1 + count) slots h q (over refl)

  -- A comparison of words, which has no trap. `so` says how it comes out where it does not hold, and where it does.
  pub skip_unless_does : {line pc : ℕ} {op : Arith} {signed : Bool} {left right count a b z : ℕ} {slots last : Slots} {s : Still} (so : Bool → Outcome) → HasOperation x pc line (SkipUnless op signed left right count) → slots left ≡ Some a → slots right ≡ Some b → applied op (word_kind signed) a b ≡ Some z → ((z == 0) ≡ true → Runs x (so true) (pc + 1 + count) slots last s) → ((z == 0) ≡ false → Runs x (so false) (pc + 1) slots last s) → Runs x (so (z == 0)) pc slots last s
  skip_unless_does {line} {pc} {op} {signed} {left} {right} {count} {a} {b} {z} {slots} {last} {s} so h e k c over on = skips {i = SkipUnless op signed left right count} count so (z == 0) h (rw (e, k, c) (step (z == 0))) over on
    where
      step : (b : Bool) → skips_if b count (here x line pc 0 slots last s.privates) ≡ (if b then Moves (standing x (pc + 1 + count) 0 slots last) s.privates else Moves (standing x (pc + 1) 0 slots last) s.privates)
      step true = refl
      step false = refl

  -- ---- turns

  pub turn_does : {line pc to : ℕ} {slots last : Slots} {s : Still} (k : Still → Outcome) → HasOperation x pc line (Turn to) → ((s : Still) → Runs x (k s) to slots last s) → Runs x (turn_in line s k) pc slots last s
  turn_does {line} {pc} {to} {slots} {last} {s} k h r = turns (private_step x.ir) (control_weight x.ir) resume (lighter x.ir) x.rules (λ c. refl) k (step_is x line pc 0 (Turn to) slots last s.privates _ h refl) r

  pub back_does : {line pc count : ℕ} {slots last : Slots} {s : Still} (k : Still → Outcome) → HasOperation x pc line (Back count) → ((s : Still) → Runs x (k s) (pc - count) slots last s) → Runs x (turn_in line s k) pc slots last s
  back_does {line} {pc} {count} {slots} {last} {s} k h r = turns (private_step x.ir) (control_weight x.ir) resume (lighter x.ir) x.rules (λ c. refl) k (step_is x line pc 0 (Back count) slots last s.privates _ h refl) r
