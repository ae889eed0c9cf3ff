-- Loads and stores of the units of a value at an address that a slot has.
use Rattle.std.proofs.Common.{◌≡◌, ℕ, ◌+◌, ◌%◌, ◌^◌, ◌<◌, ◌≤◌, List, [], ◌∷◌, ◌++◌, length, Some, refl, sym, ap, ◌∙◌, subst, ◌⊎◌, inl, inr, arith, append-nil}
use Rattle.std.specs.Prelude.{slice_index}
use Rattle.std.proofs.lemmas.List.{append_assoc}
use Rattle.std.proofs.Math.Nat.{zero-mod}
use Rattle.al_event.specs.declared.act.Act.TheVariants as act
use Rattle.al_typed.specs.declared.layout.Unit.{Unit as StorageUnit}
use Rattle.al_meaning.specs.Words.{sum, zero_words}
use Rattle.al_meaning.specs.Tasks.{Still, Env, Rest, Ways, ask_in}
use Rattle.al_meaning.specs.Told.{load_units, store_units}
use Rattle.al_ir.specs.Control.{Slots, put}
use Rattle.al_lower_words.specs.Units.{AreOf}
use Rattle.al_lower_code.specs.Moving.{loads, stores, stores_same}
use Rattle.al_lower_steps.specs.Slots.{Holds, Outside}
use Rattle.al_lower_steps.specs.Site.{Site, HasAt}
use Rattle.al_lower_steps.proofs.Slots.{put_outside, outside_none}
use Rattle.al_lower_steps.proofs.Steps.{Runs, moved, comes_out}
use Rattle.al_lower_steps.proofs.Actions.{load_does, store_does}
use Rattle.al_lower_claims.proofs.Moving.{more_outside, first_holds}

first_is : (a b : ℕ) (xs ys : List ℕ) → a ∷ xs ≡ b ∷ ys → a ≡ b
first_is a b xs ys e = cc

rest_is : (a b : ℕ) (xs ys : List ℕ) → a ∷ xs ≡ b ∷ ys → xs ≡ ys
rest_is a b xs ys e = cc

-- one word and the others
of_units : (u : StorageUnit) (us : List StorageUnit) (w : ℕ) (v : List ℕ) → w % 256 ^ u.size ≡ w → AreOf us v → AreOf (u ∷ us) (w ∷ v)
of_units u us w v h k = rw (h, k) refl

pub sum_sum : (a offset at : ℕ) → sum (sum a offset) at ≡ sum a (sum offset at)
sum_sum a offset at = omega arith

-- no word but the last one is loaded over the address
abbrev pub CanLoad : (slot to n : ℕ) → Type 0
CanLoad slot to n = (slot < to) ⊎ (to + n ≤ slot + 1)

-- the address is there as long as there is something to load
abbrev pub Ready : List StorageUnit → (slot a to : ℕ) → Slots → Type 0
Ready [] slot a to slots = Unit {0}
Ready (u ∷ us) slot a to slots = (slots slot ≡ Some a) × CanLoad slot to (length (u ∷ us))

next_ready : (u : StorageUnit) (us : List StorageUnit) (slot a to v : ℕ) (slots : Slots) → Ready (u ∷ us) slot a to slots → Ready us slot a (to + 1) (put to v slots)
next_ready u [] slot a to v slots h = tt
next_ready u (u2 ∷ us) slot a to v slots (h, inl lt) = (put_outside to v slots slot (inl lt) ∙ h, inl (omega (arith, lt)))
next_ready u (u2 ∷ us) slot a to v slots (h, inr le) = (put_outside to v slots slot (inr (omega (arith, le))) ∙ h, inr (omega (arith, le)))

pub ready : (us : List StorageUnit) (slot a to : ℕ) (slots : Slots) → slots slot ≡ Some a → CanLoad slot to (length us) → Ready us slot a to slots
ready [] slot a to slots e can = tt
ready (u ∷ us) slot a to slots e can = (e, can)

module _ (x : Site) (w : Ways) (env : Env) where
  pub loads_do : (us : List StorageUnit) (got : List ℕ) (s : Still) (next : List ℕ → Rest) (a to slot offset pc : ℕ) (slots last : Slots) → HasAt x pc (loads w.line to slot offset us) → Ready us slot a to slots → ((v : List ℕ) (s : Still) (now : Slots) → AreOf us v → Outside to (length us) now slots → Holds now to v → Runs x (next (got ++ v) env s) (pc + length (loads w.line to slot offset us)) now last s) → Runs x (load_units w (sum a offset) us got env s next) pc slots last s
  loads_do [] got s next a to slot offset pc slots last has e h =
      let q : pc ≡ pc + 0 = omega arith in
      moved x q (subst (λ v. Runs x (next v env s) (pc + 0) slots last s) (append-nil got) (h [] s slots refl (outside_none to 0 slots) tt))
  loads_do (u ∷ us) got s next a to slot offset pc slots last has e h =
      comes_out x (ap (λ at. ask_in w.line (act.Load at u.size) s (λ words s. load_units w (sum a offset) us (got ++ slice_index words 0 ∷ []) env s next)) (sum_sum a offset u.at))
      (load_does x (λ words s. load_units w (sum a offset) us (got ++ slice_index words 0 ∷ []) env s next) has.0 e.0 (λ v s m.
      loads_do us (got ++ v ∷ []) s next a (to + 1) slot offset (pc + 1) (put to v slots) last has.1 (next_ready u us slot a to v slots e) (λ vs s now o b held.
      let q : pc + 1 + length (loads w.line (to + 1) slot offset us) ≡ pc + length (loads w.line to slot offset (u ∷ us)) = omega arith in
      moved x q (subst (λ z. Runs x (next z env s) (pc + length (loads w.line to slot offset (u ∷ us))) now last s) (sym (append_assoc got (v ∷ []) vs)) (h (v ∷ vs) s now (of_units u us v vs m o) (more_outside to (length us) v now slots b) (first_holds to (length us) v now slots b, held))))))

  pub stores_do : (us : List StorageUnit) (v : List ℕ) (s : Still) (next : Unit {0} → Rest) (a slot offset from pc : ℕ) (slots last : Slots) → AreOf us v → HasAt x pc (stores w.line slot offset from us) → slots slot ≡ Some a → Holds slots from v → ((s : Still) → Runs x (next tt env s) (pc + length (stores w.line slot offset from us)) slots last s) → Runs x (store_units w (sum a offset) us v env s next) pc slots last s
  stores_do [] v s next a slot offset from pc slots last o has e k h = let q : pc ≡ pc + 0 = omega arith in moved x q (h s)
  stores_do (u ∷ us) [] s next a slot offset from pc slots last o has e k h = absurd (cc)
  stores_do (u ∷ us) (v ∷ vs) s next a slot offset from pc slots last o has e k h =
      let m : v % 256 ^ u.size ≡ v = first_is _ _ _ _ o in
      comes_out x (ap (λ at. ask_in w.line (act.Store at u.size v) s (λ words s. store_units w (sum a offset) us vs env s next)) (sum_sum a offset u.at) ∙ ap (λ z. ask_in w.line (act.Store (sum a (sum offset u.at)) u.size z) s (λ words s. store_units w (sum a offset) us vs env s next)) (sym m))
      (store_does x (λ words s. store_units w (sum a offset) us vs env s next) has.0 e k.0 (λ s.
      stores_do us vs s next a slot offset (from + 1) (pc + 1) slots last (rest_is _ _ _ _ o) has.1 e k.1 (λ s.
      let q : pc + 1 + length (stores w.line slot offset (from + 1) us) ≡ pc + length (stores w.line slot offset from (u ∷ us)) = omega arith in
      moved x q (h s))))

  -- zero into each unit, from one slot
  pub stores_same_do : (us : List StorageUnit) (s : Still) (next : Unit {0} → Rest) (a slot offset from pc : ℕ) (slots last : Slots) → HasAt x pc (stores_same w.line slot offset from us) → slots slot ≡ Some a → slots from ≡ Some 0 → ((s : Still) → Runs x (next tt env s) (pc + length (stores_same w.line slot offset from us)) slots last s) → Runs x (store_units w (sum a offset) us (zero_words (length us)) env s next) pc slots last s
  stores_same_do [] s next a slot offset from pc slots last has e k h = let q : pc ≡ pc + 0 = omega arith in moved x q (h s)
  stores_same_do (u ∷ us) s next a slot offset from pc slots last has e k h =
      let m : 0 % 256 ^ u.size ≡ 0 = zero-mod (256 ^ u.size) in
      comes_out x (ap (λ at. ask_in w.line (act.Store at u.size 0) s (λ words s. store_units w (sum a offset) us (zero_words (length us)) env s next)) (sum_sum a offset u.at) ∙ ap (λ z. ask_in w.line (act.Store (sum a (sum offset u.at)) u.size z) s (λ words s. store_units w (sum a offset) us (zero_words (length us)) env s next)) (sym m))
      (store_does x (λ words s. store_units w (sum a offset) us (zero_words (length us)) env s next) has.0 e k (λ s.
      stores_same_do us s next a slot offset from (pc + 1) slots last has.1 e k (λ s.
      let q : pc + 1 + length (stores_same w.line slot offset from us) ≡ pc + length (stores_same w.line slot offset from (u ∷ us)) = omega arith in
      moved x q (h s))))
