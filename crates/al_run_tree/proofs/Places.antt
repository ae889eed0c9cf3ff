-- Blocks whose places rise: what stands where, with one more and without one.
use Rattle.std.proofs.Common.{◌≡◌, ℕ, suc, ◌<◌, ◌≤◌, ◌⊎◌, inl, inr, Bool, true, false, cond, not, ltb, List, [], ◌∷◌, ◌++◌, filter, refl, ap, arith}
use Rattle.std.proofs.lemmas.Bool.Decides.{nat_tests}
use Rattle.al_event.specs.declared.act.Block.{Block}
use Rattle.al_event.specs.Store.{Span, begins_at, with_span}
use Rattle.al_run_tree.specs.Order.{Rises}

pub rises_le : (bs : List Span) (from end : ℕ) → Rises from bs end → from ≤ end
rises_le [] from end h = h
rises_le (b ∷ bs) from end h = omega (arith, rises_le bs (suc b.at) end h.1, h.0)

-- the two sides of a block
pub rises_left : (xs : List Span) (b : Span) (ys : List Span) (from end : ℕ) → Rises from (xs ++ b ∷ ys) end → Rises from xs b.at
rises_left [] b ys from end h = h.0
rises_left (x ∷ xs) b ys from end h = (h.0, rises_left xs b ys (suc x.at) end h.1)

pub rises_right : (xs : List Span) (b : Span) (ys : List Span) (from end : ℕ) → Rises from (xs ++ b ∷ ys) end → Rises (suc b.at) ys end
rises_right [] b ys from end h = h.1
rises_right (x ∷ xs) b ys from end h = rises_right xs b ys (suc x.at) end h.1

-- one more block goes before those that begin past it
pub with-left : (xs : List Span) (b : Span) (ys : List Span) (e : Span) → e.at < b.at → with_span e (xs ++ b ∷ ys) ≡ with_span e xs ++ b ∷ ys
with-left [] b ys e lt = let t : ltb e.at b.at ≡ true = grind (arith, nat_tests) in rw t refl
with-left (x ∷ xs) b ys e lt = on (ltb e.at x.at) (with-left xs b ys e lt)
  where
    on : (t : Bool) → with_span e (xs ++ b ∷ ys) ≡ with_span e xs ++ b ∷ ys → cond t (e ∷ x ∷ (xs ++ b ∷ ys)) (x ∷ with_span e (xs ++ b ∷ ys)) ≡ cond t (e ∷ x ∷ xs) (x ∷ with_span e xs) ++ b ∷ ys
    on true rec = refl
    on false rec = ap (λ zs. x ∷ zs) rec

pub with-right : (xs : List Span) (b : Span) (ys : List Span) (e : Span) (from : ℕ) → b.at ≤ e.at → Rises from xs b.at → with_span e (xs ++ b ∷ ys) ≡ xs ++ b ∷ with_span e ys
with-right [] b ys e from le h = let t : ltb e.at b.at ≡ false = grind (arith, nat_tests) in rw t refl
with-right (x ∷ xs) b ys e from le h =
    let t : ltb e.at x.at ≡ false = grind (arith, nat_tests, rises_le xs (suc x.at) b.at h.1) in
    rw t (ap (λ zs. x ∷ zs) (with-right xs b ys e (suc x.at) le h.1))

-- blocks that begin elsewhere are not taken out
pub apart : (b : Span) (at : ℕ) (kind : Block) → (b.at < at) ⊎ (at < b.at) → begins_at at kind b ≡ false
apart b at kind (inl lt) = grind (arith, nat_tests)
apart b at kind (inr lt) = grind (arith, nat_tests)

pub filter-apart : (bs : List Span) (from end at : ℕ) (kind : Block) → Rises from bs end → (end ≤ at) ⊎ (at < from) → filter (λ b. not (begins_at at kind b)) bs ≡ bs
filter-apart [] from end at kind h out = refl
filter-apart (b ∷ bs) from end at kind h out =
    let t : begins_at at kind b ≡ false = apart b at kind (elim out [ inl le ↦ inl (omega (arith, rises_le bs (suc b.at) end h.1)) | inr lt ↦ inr (omega (arith, h.0)) ]) in
    let rest : (end ≤ at) ⊎ (at < suc b.at) = elim out [ inl le ↦ inl le | inr lt ↦ inr (omega (arith, h.0)) ] in
    rw t (ap (λ zs. b ∷ zs) (filter-apart bs (suc b.at) end at kind h.1 rest))
