-- Operations that go through units do what the meaning of loads and stores says, unit by unit.
use Rattle.std.proofs.Common.{◌≡◌, ℕ, suc, ◌+◌, ◌%◌, ◌<◌, ◌^◌, inl, inr, List, [], ◌∷◌, ◌++◌, length, Some, None, refl, sym, ap, ◌∙◌, subst, arith, append-nil}
use Rattle.std.specs.Prelude.{nat_eq, false, slice_get, slice_index}
use Rattle.std.proofs.Math.Nat.{mod-mod, zero-mod}
use Rattle.std.proofs.lemmas.List.{append_assoc}
use Rattle.al_event.specs.declared.act.Act.TheVariants as act
use Rattle.al_world.specs.Control.{cut}
use Rattle.al_world.specs.Turns.{Moves, Asks}
use Rattle.al_typed.specs.declared.layout.Unit.{Unit as StorageUnit}
use Rattle.al_meaning.specs.Words.{sum, zero_words}
use Rattle.al_meaning.specs.Tasks.{Still, Outcome, Env, Rest, Ways}
use Rattle.al_meaning.specs.Told.{load_units, store_units}
use Rattle.al_ir.specs.declared.ir.Operation.{Operation}
use Rattle.al_ir.specs.declared.ir.Ir.{Ir}
use Rattle.al_ir.specs.declared.op.Op.TheVariants.{LoadUnits, StoreUnits, ClearUnits}
use Rattle.al_ir.specs.Units.{units_at}
use Rattle.al_ir.specs.Bounds.{IsApart}
use Rattle.al_ir.specs.Control.{Slots, put, put_all, Frame, Nowhere, Word, Control, operation_at}
use Rattle.al_ir.specs.Step.{here_at, step_op, step_at, unit_place, private_step, Next}
use Rattle.al_ir.specs.Meaning.{control_weight, resume}
use Rattle.al_ir.proofs.Lighter.{lighter}
use Rattle.al_lowered.specs.Rules.{Rules, AreOf}
use Rattle.al_lowered.proofs.Does.{Does, one, asks_starting}

-- the units from one on are these
abbrev pub GoOn : List StorageUnit → ℕ → List StorageUnit → Type 0
GoOn units n rest = (k : ℕ) → slice_get units (n + k) ≡ slice_get rest k

go_on : (units : List StorageUnit) (n : ℕ) (u : StorageUnit) (rest : List StorageUnit) → GoOn units n (u ∷ rest) → GoOn units (n + 1) rest
go_on units n u rest h k = let e : n + suc k ≡ n + 1 + k = omega arith in subst (λ m. slice_get units m ≡ slice_get rest k) e (h (suc k))

unit_here : (units : List StorageUnit) (n : ℕ) (rest : List StorageUnit) → GoOn units n rest → slice_get units n ≡ slice_get rest 0
unit_here units n rest h = let e : n + 0 ≡ n = omega arith in subst (λ m. slice_get units m ≡ slice_get rest 0) e (h 0)

differs : (t from n : ℕ) → IsApart t from (suc n) → nat_eq t from ≡ false
differs t from n (inl h) = grind (arith, h)
differs t from n (inr h) = let lt : from < t = omega (arith, h) in grind (arith, lt)

still_apart : (t to unit n : ℕ) → IsApart t (to + unit) (suc n) → IsApart t (to + (unit + 1)) n
still_apart t to unit n (inl h) = inl (omega (arith, h))
still_apart t to unit n (inr h) = inr (omega (arith, h))

-- a slot that was not written
kept : (t from w : ℕ) (slots : Slots) → nat_eq t from ≡ false → put from w slots t ≡ slots t
kept t from w slots e = rw e refl

of_units : (u : StorageUnit) (us : List StorageUnit) (w : ℕ) (v : List ℕ) → w % 256 ^ u.size ≡ w → AreOf us v → AreOf (u ∷ us) (w ∷ v)
of_units u us w v h k = rw (h, k) refl

first_is : (a b : ℕ) (xs ys : List ℕ) → a ∷ xs ≡ b ∷ ys → a ≡ b
first_is a b xs ys e = cc

rest_is : (a b : ℕ) (xs ys : List ℕ) → a ∷ xs ≡ b ∷ ys → xs ≡ ys
rest_is a b xs ys e = cc

-- the words stand in slots from one on
abbrev pub Stand : Slots → ℕ → List ℕ → Type 0
Stand slots t [] = Unit {0}
Stand slots t (w ∷ ws) = (slots t ≡ Some w) × Stand slots (t + 1) ws

module _ (ir : Ir) (R : Rules) (function pc : ℕ) (below : List Frame) (text : List ℕ) (last : Slots) where
  abbrev pub Runs : Outcome → Control → Still → Type 0
  Runs o c s = Does (private_step ir) (control_weight ir) resume (lighter ir) R o c s

  -- a frame at an operation of which so many units are done
  abbrev pub standing : (at unit : ℕ) → Slots → Control
  standing at unit slots = record {
    entering = None;
    into = Nowhere;
    unit = unit;
    text = text;
    last = last;
    frames = record { function = function; pc = at; slots = slots } ∷ below;
  }

  abbrev frame : Slots → Frame
  frame slots = record { function = function; pc = pc; slots = slots }

  -- the step that the operation here is
  step_is : (o : Operation) (unit : ℕ) (slots : Slots) (u : List ℕ) (m : Next) → operation_at ir function pc ≡ Some o → step_op o.op (here_at ir (standing pc unit slots) (frame slots) below o.line u) ≡ m → private_step ir (standing pc unit slots) u ≡ m
  step_is o unit slots u m h e = ap (λ o. step_at ir (standing pc unit slots) (frame slots) below o u) h ∙ e

  module _ (w : Ways) (env : Env) (at offset layout a : ℕ) where
    -- the words come to stand from `to` on, one for each unit
    module _ (to : ℕ) (next : List ℕ → Rest) (code : operation_at ir function pc ≡ Some (record { line = w.line; op = LoadUnits to at offset layout })) where
      asking : (unit : ℕ) (slots : Slots) (u : StorageUnit) (privates : List ℕ) → slots at ≡ Some a → slice_get (units_at ir layout) unit ≡ Some u → private_step ir (standing pc unit slots) privates ≡ Asks (act.Load (unit_place a offset u) u.size) w.line (record (standing pc (unit + 1) slots) { into = Word (to + unit) }) privates
      asking unit slots u privates e h = step_is _ unit slots privates _ code (rw (e, h) refl)

      done : (unit : ℕ) (slots : Slots) (privates : List ℕ) → slots at ≡ Some a → slice_get (units_at ir layout) unit ≡ None → private_step ir (standing pc unit slots) privates ≡ Moves (standing (pc + 1) 0 slots) privates
      done unit slots privates e h = step_is _ unit slots privates _ code (rw (e, h) refl)

      -- what follows once all units are loaded
      abbrev pub Loaded : List StorageUnit → (unit : ℕ) → Slots → List ℕ → Type 0
      Loaded rest unit slots got =
          (words : List ℕ) (s : Still) → AreOf rest words → Runs (next (got ++ words) env s) (standing (pc + 1) 0 (put_all (to + unit) words slots)) s

      loaded_on : (u : StorageUnit) (rest : List StorageUnit) (unit : ℕ) (slots : Slots) (got : List ℕ) (x : ℕ) → x % 256 ^ u.size ≡ x → Loaded (u ∷ rest) unit slots got → Loaded rest (unit + 1) (put (to + unit) x slots) (got ++ x ∷ [])
      loaded_on u rest unit slots got x m k words s o =
          let q : to + unit + 1 ≡ to + (unit + 1) = omega arith in
          subst (λ n. Runs (next ((got ++ x ∷ []) ++ words) env s) (standing (pc + 1) 0 (put_all n words (put (to + unit) x slots))) s) q
          (subst (λ v. Runs (next v env s) (standing (pc + 1) 0 (put_all (to + unit) (x ∷ words) slots)) s) (sym (append_assoc got (x ∷ []) words)) (k (x ∷ words) s (of_units u rest x words m o)))

      -- an answer of one word, however it came
      one_word : (o : ℕ → Outcome) (unit m : ℕ) (slots : Slots) (words : List ℕ) (s : Still) → ((x : ℕ) → x % m ≡ x → Runs (o x) (standing pc (unit + 1) (put (to + unit) x slots)) s) → Runs (o (slice_index (cut 1 m words) 0)) (resume (record (standing pc (unit + 1) slots) { into = Word (to + unit) }) (cut 1 m words)) s
      one_word o unit m slots [] s r = r 0 (zero-mod m)
      one_word o unit m slots (x ∷ words) s r = r (x % m) (mod-mod x m)

      pub loads_do : (rest : List StorageUnit) (unit : ℕ) (slots : Slots) (got : List ℕ) (s : Still) → GoOn (units_at ir layout) unit rest → slots at ≡ Some a → IsApart at (to + unit) (length rest) → Loaded rest unit slots got → Runs (load_units w (sum a offset) rest got env s next) (standing pc unit slots) s
      loads_do [] unit slots got s g e p k =
          one (private_step ir) (control_weight ir) resume (lighter ir) R (done unit slots s.privates e (unit_here (units_at ir layout) unit [] g)) (λ u. u)
          (subst (λ v. Runs (next v env s) (standing (pc + 1) 0 slots) s) (append-nil got) (k [] s refl))
      loads_do (u ∷ rest) unit slots got s g e p k =
          asks_starting (private_step ir) (control_weight ir) resume (lighter ir) R (λ words s. load_units w (sum a offset) rest (got ++ slice_index words 0 ∷ []) env s next)
          (asking unit slots u s.privates e (unit_here (units_at ir layout) unit (u ∷ rest) g)) refl tt
          (λ words s. one_word (λ x. load_units w (sum a offset) rest (got ++ x ∷ []) env s next) unit (256 ^ u.size) slots words s (λ x m.
          loads_do rest (unit + 1) (put (to + unit) x slots) (got ++ x ∷ []) s (go_on (units_at ir layout) unit u rest g) (kept at (to + unit) x slots (differs at (to + unit) (length rest) p) ∙ e) (still_apart at to unit (length rest) p) (loaded_on u rest unit slots got x m k)))

    -- the words stand from `from` on
    module _ (from : ℕ) (slots : Slots) (next : Unit {0} → Rest) (code : operation_at ir function pc ≡ Some (record { line = w.line; op = StoreUnits at offset layout from })) (e : slots at ≡ Some a) where
      pub stores_do : (rest : List StorageUnit) (unit : ℕ) (words : List ℕ) (s : Still) → GoOn (units_at ir layout) unit rest → AreOf rest words → Stand slots (from + unit) words → ((s : Still) → Runs (next tt env s) (standing (pc + 1) 0 slots) s) → Runs (store_units w (sum a offset) rest words env s next) (standing pc unit slots) s
      stores_do [] unit words s g o h k =
          one (private_step ir) (control_weight ir) resume (lighter ir) R (step_is _ unit slots s.privates _ code (rw (e, unit_here (units_at ir layout) unit [] g) refl)) (λ u. u) (k s)
      stores_do (u ∷ rest) unit [] s g o h k = absurd (cc)
      stores_do (u ∷ rest) unit (x ∷ words) s g o h k =
          let m : x % 256 ^ u.size ≡ x = first_is _ _ _ _ o in
          asks_starting (private_step ir) (control_weight ir) resume (lighter ir) R {d = standing pc (unit + 1) slots} (λ _ s. store_units w (sum a offset) rest words env s next)
          (step_is _ unit slots s.privates _ code (rw (e, unit_here (units_at ir layout) unit (u ∷ rest) g, h.0, m) refl)) refl tt
          (λ _ s.
          let q : from + unit + 1 ≡ from + (unit + 1) = omega arith in
          stores_do rest (unit + 1) words s (go_on (units_at ir layout) unit u rest g) (rest_is _ _ _ _ o) (subst (λ n. Stand slots n words) q h.1) k)

    -- each unit gets 0
    module _ (slots : Slots) (next : Unit {0} → Rest) (code : operation_at ir function pc ≡ Some (record { line = w.line; op = ClearUnits at offset layout })) (e : slots at ≡ Some a) where
      pub clears_do : (rest : List StorageUnit) (unit : ℕ) (s : Still) → GoOn (units_at ir layout) unit rest → ((s : Still) → Runs (next tt env s) (standing (pc + 1) 0 slots) s) → Runs (store_units w (sum a offset) rest (zero_words (length rest)) env s next) (standing pc unit slots) s
      clears_do [] unit s g k =
          one (private_step ir) (control_weight ir) resume (lighter ir) R (step_is _ unit slots s.privates _ code (rw (e, unit_here (units_at ir layout) unit [] g) refl)) (λ u. u) (k s)
      clears_do (u ∷ rest) unit s g k =
          asks_starting (private_step ir) (control_weight ir) resume (lighter ir) R {d = standing pc (unit + 1) slots} (λ _ s. store_units w (sum a offset) rest (zero_words (length rest)) env s next)
          (step_is _ unit slots s.privates _ code (rw (e, unit_here (units_at ir layout) unit (u ∷ rest) g, zero-mod (256 ^ u.size)) refl)) refl tt
          (λ _ s. clears_do rest (unit + 1) s (go_on (units_at ir layout) unit u rest g) k)
