-- Private steps up to a turn or an action, one after the other.
use Rattle.std.proofs.Common.{◌≡◌, ℕ, zero, suc, ◌-◌, ◌<◌, ◌≤◌, refl, ap, sym, subst, ◌∙◌, arith}
use Rattle.std.specs.Prelude.{⊤}
use Rattle.al_event.specs.declared.act.Act.{Act}
use Rattle.al_world.specs.Turns.{Move, Moves, Turns, Asks, to_turn, with_turns}
use Rattle.al_walk.specs.Fitting.{StepsFit, TurnFits, TurnsFit}

module _ {C U : Type 0} (step : C → U → Move C U) (weight : C → ℕ) (Fits : C → U → Type 0) where
  -- with a step that is no turn
  more : (k : ℕ) (c d : C) (u v : U) → step c u ≡ Moves d v → to_turn step weight (suc k) c u ≡ to_turn step weight k d v
  more k c d u v e = rw (e, to_turn)

  pub turn_made : (k line : ℕ) (c d : C) (u v : U) → step c u ≡ Turns line d v → to_turn step weight k c u ≡ Turns line d v
  turn_made zero line c d u v e = e
  turn_made (suc k) line c d u v e = rw (e, to_turn)

  pub action_asked : (k line : ℕ) (c d : C) (u v : U) (a : Act) → step c u ≡ Asks a line d v → to_turn step weight k c u ≡ Asks a line d v
  action_asked zero line c d u v a e = e
  action_asked (suc k) line c d u v a e = rw (e, to_turn)

  -- the first of them fits
  pub first_fits : (k : ℕ) (c : C) (u : U) → StepsFit step weight Fits k c u → Fits c u
  first_fits zero c u h = h
  first_fits (suc k) c u h = h.0

  rest_fit : (k : ℕ) (c d : C) (u v : U) → step c u ≡ Moves d v → StepsFit step weight Fits (suc k) c u → StepsFit step weight Fits k d v
  rest_fit k c d u v e h = rw (e, StepsFit) at h.1

  -- fewer of them fit too
  abbrev After : ℕ → Move C U → Type 0
  After n (Moves d v) = StepsFit step weight Fits n d v
  After n (Turns line d v) = ⊤
  After n (Asks a line d v) = ⊤

  fewer_after : (m n : ℕ) (x : Move C U) → ((d : C) (v : U) → StepsFit step weight Fits n d v → StepsFit step weight Fits m d v) → After n x → After m x
  fewer_after m n (Moves d v) fewer g = fewer d v g
  fewer_after m n (Turns line d v) fewer g = g
  fewer_after m n (Asks a line d v) fewer g = g

  fewer_fit : (m n : ℕ) (c : C) (u : U) → m ≤ n → StepsFit step weight Fits n c u → StepsFit step weight Fits m c u
  fewer_fit zero n c u le h = first_fits n c u h
  fewer_fit (suc m) zero c u le h = absurd (omega arith)
  fewer_fit (suc m) (suc n) c u le h = (h.0, fewer_after m n (step c u) (λ d v g. fewer_fit m n d v (omega arith) g) h.1)

  module _ (lighter : (c d : C) (u v : U) → step c u ≡ Moves d v → weight d < weight c) where
    -- the steps that a step leaves, whatever bounds them
    by_step : (k n : ℕ) (c : C) (u : U) → ((d : C) (v : U) → step c u ≡ Moves d v → to_turn step weight k c u ≡ to_turn step weight n c u) → to_turn step weight k c u ≡ to_turn step weight n c u
    by_step k n c u moved = on (step c u) refl
      where
        on : (x : Move C U) → step c u ≡ x → to_turn step weight k c u ≡ to_turn step weight n c u
        on (Moves d v) e = moved d v e
        on (Turns line d v) e = turn_made k line c d u v e ∙ sym (turn_made n line c d u v e)
        on (Asks a line d v) e = action_asked k line c d u v a e ∙ sym (action_asked n line c d u v a e)

    -- more steps than the weight change nothing
    enough : (k n : ℕ) (c : C) (u : U) → weight c ≤ k → weight c ≤ n → to_turn step weight k c u ≡ to_turn step weight n c u
    enough zero n c u lk ln = by_step zero n c u (λ d v e. let lt = lighter c d u v e in absurd (omega arith))
    enough (suc k) zero c u lk ln = by_step (suc k) zero c u (λ d v e. let lt = lighter c d u v e in absurd (omega arith))
    enough (suc k) (suc n) c u lk ln =
        by_step (suc k) (suc n) c u (λ d v e. let lt = lighter c d u v e in more k c d u v e ∙ enough k n d v (omega arith) (omega arith) ∙ sym (more n c d u v e))

    one_less : (m n : ℕ) → m < n → n ≡ suc (n - 1)
    one_less m n lt = omega arith

    -- a control comes to what the step leaves comes to
    pub turn_moves : (c d : C) (u v : U) → step c u ≡ Moves d v → to_turn step weight (weight c) c u ≡ to_turn step weight (weight d) d v
    turn_moves c d u v e =
        let lt = lighter c d u v e in
        ap (λ n. to_turn step weight n c u) (one_less (weight d) (weight c) lt)
        ∙ more (weight c - 1) c d u v e
        ∙ enough (weight c - 1) (weight d) d v (omega arith) (omega arith)

    pub turn_fits : (c d : C) (u v : U) → step c u ≡ Moves d v → TurnFits step weight Fits c u → TurnFits step weight Fits d v
    turn_fits c d u v e h =
        let lt = lighter c d u v e in
        let P : ℕ → Type 0 = λ n. StepsFit step weight Fits n c u in
        fewer_fit (weight d) (weight c - 1) d v (omega arith) (rest_fit (weight c - 1) c d u v e (subst P (one_less (weight d) (weight c) lt) h))

  -- ---- turns

  pub turn_more : (n line : ℕ) (last : Act) (c : C) (u : U) → 0 < n
      → with_turns step weight n last (Turns line c u) ≡ with_turns step weight (n - 1) last (to_turn step weight (weight c) c u)
  turn_more zero line last c u below = absurd (omega arith)
  turn_more (suc n) line last c u below = ap (λ m. with_turns step weight m last (to_turn step weight (weight c) c u)) (omega arith)

  pub more_fit : (n line : ℕ) (c : C) (u : U) → 0 < n
      → TurnsFit step weight Fits n (Turns line c u) → TurnFits step weight Fits c u × TurnsFit step weight Fits (n - 1) (to_turn step weight (weight c) c u)
  more_fit zero line c u below h = absurd (omega arith)
  more_fit (suc n) line c u below h =
      (h.0, (let P : ℕ → Type 0 = λ m. TurnsFit step weight Fits m (to_turn step weight (weight c) c u) in subst P (let e : n ≡ suc n - 1 = omega arith in e) h.1))
