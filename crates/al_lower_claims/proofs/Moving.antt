-- Operations on several words: between slots, from what a call left, with private globals.
use Rattle.std.proofs.Common.{◌≡◌, ℕ, suc, ◌+◌, ◌%◌, ◌/◌, ◌^◌, ◌<◌, ◌≤◌, List, [], ◌∷◌, ◌++◌, length, Some, refl, sym, ap, ◌∙◌, subst, ◌⊎◌, inl, inr, arith}
use Rattle.std.specs.Prelude.{⊤, ◌==◌, Bool, true, false, if◌then◌else◌}
use Rattle.std.proofs.Math.Nat.{mod-eq_of_lt}
use Rattle.std.proofs.lemmas.Grind.{common_steps}
use Rattle.al_typed.specs.declared.layout.Unit.{Unit as StorageUnit}
use Rattle.al_meaning.specs.Words.{fitted_to, zero_words}
use Rattle.al_meaning.specs.Tasks.{Still, Outcome}
use Rattle.al_ir.specs.declared.op.Op.TheVariants.{Zero, Extract}
use Rattle.al_ir.specs.Control.{Slots, put, put_all}
use Rattle.al_lower_code.specs.Homes.{operation}
use Rattle.al_lower_code.specs.Moving.{constants, copies, moves, zeros, results, trims}
use Rattle.al_lower_steps.specs.Slots.{Holds, Outside}
use Rattle.al_lower_steps.specs.Site.{Site, HasAt}
use Rattle.al_lower_steps.proofs.Slots.{put_same, put_outside, outside_none, outside_more, outside_wider, holds_outside, holds_put, holds_at, put_all_outside, put_all_holds}
use Rattle.al_lower_steps.proofs.Steps.{Runs, moved}
use Rattle.al_lower_steps.proofs.Plain.{constant_does, copy_does, zero_does, result_does, extract_does}

-- a stretch of slots lies before another, or begins no further up: then it can be copied there word by word
abbrev pub CanCopy : (from to n : ℕ) → Type 0
CanCopy from to n = (from + n ≤ to) ⊎ (to ≤ from)

-- one word more at the front
pub more_outside : (to n w : ℕ) (now slots : Slots) → Outside (to + 1) n now (put to w slots) → Outside to (suc n) now slots
more_outside to n w now slots h = outside_more to n w now slots h

pub first_holds : (to n w : ℕ) (now slots : Slots) → Outside (to + 1) n now (put to w slots) → now to ≡ Some w
first_holds to n w now slots h = h to (inl (omega arith)) ∙ put_same slots to w

-- a word of 4 bytes
small_is : (v size : ℕ) → v < 2 ^ 32 → size ≡ 4 → v ≡ v % 256 ^ size
small_is v size lt e = sym (ap (λ n. v % 256 ^ n) e ∙ mod-eq_of_lt lt)

over_one : (v : ℕ) → v / 256 ^ 0 ≡ v
over_one v = omega arith

-- words of 32 bits
abbrev pub AreWords : List ℕ → Type 0
AreWords [] = ⊤
AreWords (w ∷ ws) = (w < 2 ^ 32) × AreWords ws

module _ (x : Site) where
  pub constants_do : (ws : List ℕ) (line to pc : ℕ) (slots last : Slots) (s : Still) (o : Outcome) → HasAt x pc (constants line to ws) → ((now : Slots) → Outside to (length ws) now slots → Holds now to ws → Runs x o (pc + length (constants line to ws)) now last s) → Runs x o pc slots last s
  constants_do [] line to pc slots last s o has h = let e : pc ≡ pc + 0 = omega arith in moved x e (h slots (outside_none to 0 slots) tt)
  constants_do (w ∷ ws) line to pc slots last s o has h =
      constant_does x has.0 (constants_do ws line (to + 1) (pc + 1) (put to w slots) last s o has.1 (λ now b k.
      let e : pc + 1 + length (constants line (to + 1) ws) ≡ pc + length (constants line to (w ∷ ws)) = omega arith in
      moved x e (h now (more_outside to (length ws) w now slots b) (first_holds to (length ws) w now slots b, k))))

  pub copies_do : (ws : List ℕ) (line to from pc : ℕ) (slots last : Slots) (s : Still) (o : Outcome) → HasAt x pc (copies line to from (length ws)) → Holds slots from ws → CanCopy from to (length ws) → ((now : Slots) → Outside to (length ws) now slots → Holds now to ws → Runs x o (pc + length (copies line to from (length ws))) now last s) → Runs x o pc slots last s
  copies_do [] line to from pc slots last s o has k apart h = let e : pc ≡ pc + 0 = omega arith in moved x e (h slots (outside_none to 0 slots) tt)
  copies_do (w ∷ ws) line to from pc slots last s o has k apart h =
      copy_does x has.0 k.0 (copies_do ws line (to + 1) (from + 1) (pc + 1) (put to w slots) last s o has.1 (kept apart) (further apart) (λ now b q.
      let e : pc + 1 + length (copies line (to + 1) (from + 1) (length ws)) ≡ pc + length (copies line to from (length (w ∷ ws))) = omega arith in
      moved x e (h now (more_outside to (length ws) w now slots b) (first_holds to (length ws) w now slots b, q))))
    where
      kept : CanCopy from to (length (w ∷ ws)) → Holds (put to w slots) (from + 1) ws
      kept (inl le) = holds_outside ws (from + 1) to 1 (put to w slots) slots (inl (omega (arith, le))) (put_outside to w slots) k.1
      kept (inr le) = holds_outside ws (from + 1) to 1 (put to w slots) slots (inr (omega (arith, le))) (put_outside to w slots) k.1

      further : CanCopy from to (length (w ∷ ws)) → CanCopy (from + 1) (to + 1) (length ws)
      further (inl le) = inl (omega (arith, le))
      further (inr le) = inr (omega (arith, le))

  -- nothing where they stand there already
  pub moves_do : (ws : List ℕ) (n line to from pc : ℕ) (slots last : Slots) (s : Still) (o : Outcome) → n ≡ length ws → HasAt x pc (moves line to from n) → Holds slots from ws → CanCopy from to (length ws) → ((now : Slots) → Outside to (length ws) now slots → Holds now to ws → Runs x o (pc + length (moves line to from n)) now last s) → Runs x o pc slots last s
  moves_do ws n line to from pc slots last s o count has k apart h = on (to == from) refl has h
    where
      on : (b : Bool) → (to == from) ≡ b → HasAt x pc (if b then [] else copies line to from n) → ((now : Slots) → Outside to (length ws) now slots → Holds now to ws → Runs x o (pc + length (if b then [] else copies line to from n)) now last s) → Runs x o pc slots last s
      on true e has h =
          let same : from ≡ to = grind (arith, common_steps, e) in
          let q : pc ≡ pc + 0 = omega arith in
          moved x q (h slots (outside_none to (length ws) slots) (holds_at ws from to slots same k))
      on false e has h =
          copies_do ws line to from pc slots last s o (subst (λ m. HasAt x pc (copies line to from m)) count has) k apart (λ now b q.
          moved x (ap (λ m. pc + length (copies line to from m)) (sym count)) (h now b q))

  pub zeros_do : (n line to pc : ℕ) (slots last : Slots) (s : Still) (o : Outcome) → HasAt x pc (zeros line to n) → ((now : Slots) → Outside to n now slots → Holds now to (zero_words n) → Runs x o (pc + length (zeros line to n)) now last s) → Runs x o pc slots last s
  zeros_do n line to pc slots last s o has h = on (n == 0) refl has h
    where
      length_zero : (n : ℕ) → length (zero_words n) ≡ n
      length_zero n = grind (arith, common_steps)

      on : (b : Bool) → (n == 0) ≡ b → HasAt x pc (if b then [] else operation line (Zero to n) ∷ []) → ((now : Slots) → Outside to n now slots → Holds now to (zero_words n) → Runs x o (pc + length (if b then [] else operation line (Zero to n) ∷ [])) now last s) → Runs x o pc slots last s
      on true e has h =
          let none : n ≡ 0 = grind (arith, common_steps, e) in
          let q : pc ≡ pc + 0 = omega arith in
          moved x q (h slots (outside_none to n slots) (subst (λ m. Holds slots to (zero_words m)) (sym none) tt))
      on false e has h =
          zero_does x has.0 (h (put_all to (zero_words n) slots) (subst (λ k. Outside to k (put_all to (zero_words n) slots) slots) (length_zero n) (put_all_outside (zero_words n) to slots)) (put_all_holds (zero_words n) to slots))

  -- the words that a call left
  pub results_do : (ws : List ℕ) (line to word pc : ℕ) (slots last : Slots) (s : Still) (o : Outcome) → HasAt x pc (results line to word (length ws)) → Holds last word ws → ((now : Slots) → Outside to (length ws) now slots → Holds now to ws → Runs x o (pc + length (results line to word (length ws))) now last s) → Runs x o pc slots last s
  results_do [] line to word pc slots last s o has k h = let e : pc ≡ pc + 0 = omega arith in moved x e (h slots (outside_none to 0 slots) tt)
  results_do (w ∷ ws) line to word pc slots last s o has k h =
      result_does x has.0 k.0 (results_do ws line (to + 1) (word + 1) (pc + 1) (put to w slots) last s o has.1 k.1 (λ now b q.
      let e : pc + 1 + length (results line (to + 1) (word + 1) (length ws)) ≡ pc + length (results line to word (length (w ∷ ws))) = omega arith in
      moved x e (h now (more_outside to (length ws) w now slots b) (first_holds to (length ws) w now slots b, q))))

  -- ---- words that keep the bytes of their units

  -- each word where it stands
  pub trims_do : (us : List StorageUnit) (ws : List ℕ) (line at pc : ℕ) (slots last : Slots) (s : Still) (o : Outcome) → length ws ≡ length us → AreWords ws → HasAt x pc (trims line at us) → Holds slots at ws → ((now : Slots) → Outside at (length us) now slots → Holds now at (fitted_to us ws) → Runs x o (pc + length (trims line at us)) now last s) → Runs x o pc slots last s
  trims_do [] ws line at pc slots last s o e small has k h = let q : pc ≡ pc + 0 = omega arith in moved x q (h slots (outside_none at 0 slots) tt)
  trims_do (u ∷ us) [] line at pc slots last s o e small has k h = absurd (omega (arith, e))
  trims_do (u ∷ us) (w ∷ ws) line at pc slots last s o e small has k h =
      on (λ pc slots has held next. trims_do us ws line (at + 1) pc slots last s o (omega (arith, e)) small.1 has held next) (u.size == 4) refl has h
    where
      on : ((pc : ℕ) (slots : Slots) → HasAt x pc (trims line (at + 1) us) → Holds slots (at + 1) ws → ((now : Slots) → Outside (at + 1) (length us) now slots → Holds now (at + 1) (fitted_to us ws) → Runs x o (pc + length (trims line (at + 1) us)) now last s) → Runs x o pc slots last s) → (b : Bool) → (u.size == 4) ≡ b → HasAt x pc ((if b then [] else operation line (Extract at at 0 u.size) ∷ []) ++ trims line (at + 1) us) → ((now : Slots) → Outside at (length (u ∷ us)) now slots → Holds now at (fitted_to (u ∷ us) (w ∷ ws)) → Runs x o (pc + length ((if b then [] else operation line (Extract at at 0 u.size) ∷ []) ++ trims line (at + 1) us)) now last s) → Runs x o pc slots last s
      on rest true q has h =
          let same : w ≡ w % 256 ^ u.size = small_is w u.size small.0 (grind (arith, common_steps, q)) in
          rest pc slots has k.1 (λ now b held.
          h now (outside_wider at (suc (length us)) (at + 1) (length us) now slots (omega arith) (omega arith) b) (b at (inl (omega arith)) ∙ (k.0 ∙ ap Some same), held))
      on rest false q has h =
          let v = w / 256 ^ 0 % 256 ^ u.size in
          let one : w / 256 ^ 0 ≡ w = over_one w in
          extract_does x has.0 k.0 (rest (pc + 1) (put at v slots) has.1 (holds_put ws (at + 1) at v slots (omega arith) k.1) (λ now b held.
          let len : pc + 1 + length (trims line (at + 1) us) ≡ pc + length (operation line (Extract at at 0 u.size) ∷ trims line (at + 1) us) = omega arith in
          moved x len (h now (more_outside at (length us) v now slots b) (first_holds at (length us) v now slots b ∙ ap (λ n. Some (n % 256 ^ u.size)) one, held))))
