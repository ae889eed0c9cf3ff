-- The slots behind locals, one local at a time.
use native.Mathlib.Omega.{arith}
use native.Mathlib.Numerals.{unary_clauses}
use Rattle.std.proofs.Common.{◌≡◌, ℕ, zero, suc, ◌+◌, ◌-◌, ◌<◌, ◌≤◌, List, [], ◌∷◌, length, drop, get_or, refl, ap, sym, ◌∙◌, drop-cons}
use Rattle.std.proofs.lemmas.List.{at_drop_all}
use Rattle.al_typed.specs.declared.program.Local.{Local as LocalRow}
use Rattle.al_typed.specs.declared.program.Program.{Program}
use Rattle.al_lower_code.specs.Homes.{behind_locals, local_slots}

-- with none left to count, and behind all there are
pub behind_none : (p : Program) (at m : ℕ) (ls : List LocalRow) → behind_locals p at m 0 ls ≡ at
behind_none p at m [] = refl
behind_none p at m (l ∷ ls) = refl

pub behind_end : (p : Program) (at m n : ℕ) → behind_locals p at m n [] ≡ at
behind_end p at m zero = refl
behind_end p at m (suc n) = refl

pub behind_step : (p : Program) (at m n : ℕ) (l : LocalRow) (ls : List LocalRow) → 0 < n →
    behind_locals p at m n (l ∷ ls) ≡ behind_locals p (at + local_slots p m l) (m - 1) (n - 1) ls
behind_step p at m zero l ls h = absurd (omega arith)
behind_step p at zero (suc n) l ls h = simp unary_clauses refl
behind_step p at (suc m) (suc n) l ls h = simp unary_clauses refl

at_hand : (ls : List LocalRow) (i : ℕ) (l : LocalRow) → i < length ls → l ≡ get_or ls i l → drop i ls ≡ l ∷ drop (i + 1) ls
at_hand ls i l h is = drop-cons ls i l h ∙ ap (λ y. y ∷ drop (suc i) ls) (sym is) ∙ ap (λ (k : ℕ). l ∷ drop k ls) (next i)
  where
    next : (i : ℕ) → suc i ≡ i + 1
    next i = omega arith

-- all were gone through
pub behind_all : (p : Program) (at m n : ℕ) (ls : List LocalRow) (i : ℕ) → length ls ≤ i → at ≡ behind_locals p at m n (drop i ls)
behind_all p at m n ls i h = sym (at_drop_all (behind_locals p at m n) ls i h ∙ behind_end p at m n)

-- one local more of a list that is gone through
pub behind_more : (p : Program) (at m n : ℕ) (ls : List LocalRow) (i : ℕ) (l : LocalRow) → i < length ls → l ≡ get_or ls i l → 0 < n →
    behind_locals p (at + local_slots p m l) (m - 1) (n - 1) (drop (i + 1) ls) ≡ behind_locals p at m n (drop i ls)
behind_more p at m n ls i l h is some =
    sym (ap (behind_locals p at m n) (at_hand ls i l h is) ∙ behind_step p at m n l (drop (i + 1) ls) some)

pub ruleset behind_rules = (behind_none, behind_end, behind_step)
