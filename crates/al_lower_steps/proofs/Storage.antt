-- Operations that load and store all units of a value.
use Rattle.std.proofs.Common.{◌≡◌, ℕ, ◌+◌, List, [], length, Some, sym, ap, subst, arith}
use Rattle.std.specs.Prelude.{slice_get}
use Rattle.al_typed.specs.declared.layout.Unit.{Unit as StorageUnit}
use Rattle.al_meaning.specs.Words.{sum, zero_words}
use Rattle.al_meaning.specs.Tasks.{Still, Env, Rest, Ways}
use Rattle.al_meaning.specs.Told.{load_units, store_units}
use Rattle.al_ir.specs.declared.op.Op.TheVariants.{LoadUnits, StoreUnits, ClearUnits}
use Rattle.al_ir.specs.Units.{units_at}
use Rattle.al_ir.specs.Bounds.{IsApart}
use Rattle.al_ir.specs.Control.{Slots, put_all}
use Rattle.al_lowered.specs.Rules.{AreOf}
use Rattle.al_lowered.proofs.Units as unit
use Rattle.al_lower_steps.specs.Slots.{Holds}
use Rattle.al_lower_steps.specs.Site.{Site, HasOperation}
use Rattle.al_lower_steps.proofs.Slots.{holds_at, stand_held}
use Rattle.al_lower_steps.proofs.Steps.{Runs}

from_first : (us : List StorageUnit) → unit.GoOn us 0 us
from_first us k = let e : 0 + k ≡ k = omega arith in ap (slice_get us) e

module _ (x : Site) (w : Ways) (env : Env) (s : Still) where
  pub load_units_does : {pc to at offset layout a : ℕ} {slots last : Slots} (next : List ℕ → Rest) → HasOperation x pc w.line (LoadUnits to at offset layout) → slots at ≡ Some a → IsApart at to (length (units_at x.ir layout)) → ((words : List ℕ) (s : Still) → AreOf (units_at x.ir layout) words → Runs x (next words env s) (pc + 1) (put_all to words slots) last s) → Runs x (load_units w (sum a offset) (units_at x.ir layout) [] env s next) pc slots last s
  load_units_does {pc} {to} {at} {offset} {layout} {a} {slots} {last} next h e apart go =
      let q : to + 0 ≡ to = omega arith in
      unit.loads_do x.ir x.rules x.function pc x.below x.text last w env at offset layout a to next h (units_at x.ir layout) 0 slots [] s (from_first (units_at x.ir layout)) e (subst (λ n. IsApart at n (length (units_at x.ir layout))) (sym q) apart)
      (λ words s o. subst (λ n. Runs x (next words env s) (pc + 1) (put_all n words slots) last s) (sym q) (go words s o))

  pub store_units_does : {pc at offset layout from a : ℕ} {slots last : Slots} (words : List ℕ) (next : Unit {0} → Rest) → HasOperation x pc w.line (StoreUnits at offset layout from) → slots at ≡ Some a → AreOf (units_at x.ir layout) words → Holds slots from words → ((s : Still) → Runs x (next tt env s) (pc + 1) slots last s) → Runs x (store_units w (sum a offset) (units_at x.ir layout) words env s next) pc slots last s
  store_units_does {pc} {at} {offset} {layout} {from} {a} {slots} {last} words next h e o there go =
      let q : from ≡ from + 0 = omega arith in
      unit.stores_do x.ir x.rules x.function pc x.below x.text last w env at offset layout a from slots next h e (units_at x.ir layout) 0 words s (from_first (units_at x.ir layout)) o (stand_held words (from + 0) slots (holds_at words from (from + 0) slots q there)) go

  pub clear_units_does : {pc at offset layout a : ℕ} {slots last : Slots} (next : Unit {0} → Rest) → HasOperation x pc w.line (ClearUnits at offset layout) → slots at ≡ Some a → ((s : Still) → Runs x (next tt env s) (pc + 1) slots last s) → Runs x (store_units w (sum a offset) (units_at x.ir layout) (zero_words (length (units_at x.ir layout))) env s next) pc slots last s
  clear_units_does {pc} {at} {offset} {layout} {a} {slots} {last} next h e go =
      unit.clears_do x.ir x.rules x.function pc x.below x.text last w env at offset layout a slots next h e (units_at x.ir layout) 0 s (from_first (units_at x.ir layout)) go
