-- A run of private steps, step by step, and the action that it comes to.
use Rattle.std.proofs.Common.{◌≡◌, ℕ, zero, suc, ◌<◌, ◌≤◌, refl, arith, sub-one, le_refl}
use Rattle.al_event.specs.declared.act.Act.{Act}
use Rattle.al_world.specs.Control.{Asked}
use Rattle.al_world.specs.Turns.{Move, Moves, Turns, Asks, to_turn, with_turns, ask_within}

module _ {C U : Type 0} (step : C → U → Move C U) (weight : C → ℕ) (last : Act) where
  -- from c and u, with so many turns before the one at which the task is cut off, it comes to this
  pub data Comes : ℕ → C → U → Asked C U → Type 0 where
    asks : {n line : ℕ} {c d : C} {u v : U} {a : Act} → step c u ≡ Asks a line d v → Comes n c u (record { act = a; line = line; work = 0; control = d; privates = v })
    moves : {n : ℕ} {c d : C} {u v : U} {r : Asked C U} → step c u ≡ Moves d v → weight d < weight c → Comes n d v r → Comes n c u r
    turns : {n line : ℕ} {c d : C} {u v : U} {r : Asked C U} → step c u ≡ Turns line d v → Comes n d v r → Comes (suc n) c u r
    stops : {line : ℕ} {c d : C} {u v : U} → step c u ≡ Turns line d v → Comes 0 c u (record { act = last; line = line; work = 0; control = d; privates = v })

  -- one step under a bound on the steps
  to_turn_asks : (k line : ℕ) (c d : C) (u v : U) (a : Act) → step c u ≡ Asks a line d v → to_turn step weight k c u ≡ Asks a line d v
  to_turn_asks zero line c d u v a e = e
  to_turn_asks (suc k) line c d u v a e = rw (e, to_turn)

  to_turn_turns : (k line : ℕ) (c d : C) (u v : U) → step c u ≡ Turns line d v → to_turn step weight k c u ≡ Turns line d v
  to_turn_turns zero line c d u v e = e
  to_turn_turns (suc k) line c d u v e = rw (e, to_turn)

  to_turn_moves : (k : ℕ) (c d : C) (u v : U) → step c u ≡ Moves d v → to_turn step weight (suc k) c u ≡ to_turn step weight k d v
  to_turn_moves k c d u v e = rw (e, to_turn)

  comes_to : {n : ℕ} {c : C} {u : U} {r : Asked C U} → Comes n c u r → (k : ℕ) → weight c ≤ k → with_turns step weight n last (to_turn step weight k c u) ≡ r
  comes_to (asks e) k le = rw (to_turn_asks k _ _ _ _ _ _ e)
  comes_to (moves e lt h) zero le = absurd (omega arith)
  comes_to (moves e lt h) (suc k) le = rw (to_turn_moves k _ _ _ _ e) (comes_to h k (omega arith))
  comes_to (turns {d = d} e h) k le = rw (to_turn_turns k _ _ _ _ _ e) (comes_to h (weight d) (omega arith))
  comes_to (stops e) k le = rw (to_turn_turns k _ _ _ _ _ e)

  -- what it comes to is what is asked
  pub comes : (n : ℕ) (c : C) (u : U) (r : Asked C U) → Comes n c u r → ask_within step weight (suc n) last c u ≡ r
  comes n c u r h = rw sub-one (comes_to h (weight c) (omega arith))

  -- each control comes to something, where a step that is no turn makes it lighter
  module _ (lighter : (c d : C) (u v : U) → step c u ≡ Moves d v → weight d < weight c) where
    abbrev Result : ℕ → C → U → Type 0
    Result n c u = (r : Asked C U) × Comes n c u r

    by_step : (n k : ℕ) (c : C) (u : U) → weight c ≤ k → ((line : ℕ) (d : C) (v : U) → step c u ≡ Turns line d v → Result n c u) → ((d : C) (v : U) → weight d < k → Result n d v) → Result n c u
    by_step n k c u le turn move = on (step c u) refl
      where
        on : (m : Move C U) → step c u ≡ m → Result n c u
        on (Asks a line d v) e = (_, asks e)
        on (Turns line d v) e = turn line d v e
        on (Moves d v) e = let lt = lighter c d u v e in let r = move d v (omega arith) in (r.0, moves e lt r.1)

    within : (n k : ℕ) → ((line : ℕ) (c d : C) (u v : U) → step c u ≡ Turns line d v → Result n c u) → (c : C) (u : U) → weight c ≤ k → Result n c u
    within n zero turn c u le = by_step n zero c u le (λ line d v e. turn line c d u v e) (λ d v lt. absurd (omega arith))
    within n (suc k) turn c u le = by_step n (suc k) c u le (λ line d v e. turn line c d u v e) (λ d v lt. within n k turn d v (omega arith))

    pub all_come : (n : ℕ) (c : C) (u : U) → Result n c u
    all_come zero c u = within zero (weight c) (λ line c d u v e. (_, stops e)) c u (le_refl _)
    all_come (suc n) c u = within (suc n) (weight c) (λ line c d u v e. let r = all_come n d v in (r.0, turns e r.1)) c u (le_refl _)
