-- Causes that lie in other causes.
use Rattle.std.proofs.Common.{◌≡◌, ℕ, zero, suc, ◌<◌, Bool, true, false, List, [], ◌∷◌, length, filter, get_or, sym, subst, arith}
use Rattle.std.specs.List.{All}
use Rattle.std.specs.Prelude.{if◌then◌else◌}
use Rattle.al_control.specs.declared.unmade.Unmade.{Unmade}
use Rattle.al_control.specs.declared.unmade.Unmade.TheVariants.{NoMemory, TooLarge}
use Rattle.al_control.specs.Fits.{Explains}

pub explains : (e : Unmade) (P Q : Type 0) → (Q → P) → Explains e P → Explains e Q
explains NoMemory P Q f h = tt
explains TooLarge P Q f h = λ q. h (f q)

module _ {X : Type 0} (P : X → Type 0) where
  all_one : (x : X) → P x → All P (x ∷ [])
  all_one x h zero d l = h
  all_one x h (suc k) d l = absurd (omega (arith, l))

  all_tail : (x : X) (xs : List X) → All P (x ∷ xs) → All P xs
  all_tail x xs h k d l = h (suc k) d (omega (arith, l))

  none : All P []
  none k d l = absurd (omega (arith, l))

  -- those that are kept of one element
  pub kept_one : (s : X → Bool) (xs : List X) (i : ℕ) (d : X) → i < length xs → All P (filter s xs) → All P (filter s (get_or xs i d ∷ []))
  kept_one s [] i d l h = absurd (omega (arith, l))
  kept_one s (x ∷ xs) zero d l h =
      elim (s x) as (λ b. All P (if b then x ∷ filter s xs else filter s xs) → All P (if b then x ∷ [] else [])) [ true ↦ λ a. all_one x (a 0 x (omega arith)) | false ↦ λ a. none ] h
  kept_one s (x ∷ xs) (suc i) d l h =
      kept_one s xs i d (omega (arith, l))
      (elim (s x) as (λ b. All P (if b then x ∷ filter s xs else filter s xs) → All P (filter s xs)) [ true ↦ λ a. all_tail x (filter s xs) a | false ↦ λ a. a ] h)

-- of an element, of a list
pub element_explains : {X : Type 0} (P : X → Type 0) (xs : List X) (i : ℕ) (d : X) (e : Unmade) → i < length xs → Explains e (P (get_or xs i d)) → Explains e (All P xs)
element_explains P xs i d e l h = explains e (P (get_or xs i d)) (All P xs) (λ a. a i d l) h

pub ruleset elements_explain = (element_explains)

-- of one that is kept, of all that are
pub kept_explains : {X : Type 0} (P : X → Type 0) (s : X → Bool) (xs : List X) (i : ℕ) (x : X) (e : Unmade) → i < length xs → x ≡ get_or xs i x → Explains e (All P (filter s (x ∷ []))) → Explains e (All P (filter s xs))
kept_explains P s xs i x e l is h =
    explains e (All P (filter s (x ∷ []))) (All P (filter s xs)) (λ a. subst (λ y. All P (filter s (y ∷ []))) (sym is) (kept_one P s xs i x l a)) h

pub ruleset kept_ones_explain = (kept_explains)
