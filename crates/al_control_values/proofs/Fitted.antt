-- Words that keep the bytes of their units, and bytes of units.
use Rattle.std.proofs.Common.{◌≡◌, ℕ, suc, ◌+◌, ◌%◌, ◌^◌, ◌<◌, ◌≤◌, List, [], ◌∷◌, ◌++◌, drop, length, get_or, slice_index, refl, sym, ap, ap₂, ◌∙◌, append_assoc, arith}
use Rattle.std.proofs.Math.Seq.{drop-cons}
use Rattle.std.proofs.lemmas.List.{append-nil, drop_all}
use Rattle.al_typed.specs.declared.layout.Unit.{Unit}
use Rattle.al_event.specs.Store.{bytes_of, overwritten}
use Rattle.al_meaning.specs.Words.{fitted_to, spelled}

at_hand : (us : List Unit) (i : ℕ) (d : Unit) → i < length us → drop i us ≡ get_or us i d ∷ drop (i + 1) us
at_hand us i d h = drop-cons us i d h ∙ ap (λ (k : ℕ). get_or us i d ∷ drop k us) (next i)
  where
    next : (i : ℕ) → suc i ≡ i + 1
    next i = omega arith

pub word_fitted : (us : List Unit) (i : ℕ) (d : Unit) (fitted rest more all : List ℕ) (kept : ℕ)
    → i < length us → kept ≡ slice_index rest 0 % 256 ^ (get_or us i d).size → more ≡ drop 1 rest
    → fitted ++ fitted_to (drop i us) rest ≡ all → (fitted ++ kept ∷ []) ++ fitted_to (drop (i + 1) us) more ≡ all
word_fitted us i d fitted rest more all kept h k e so_far =
    append_assoc fitted (kept ∷ []) _
    ∙ ap₂ (λ w m. fitted ++ w ∷ fitted_to (drop (i + 1) us) m) k e
    ∙ ap (λ vs. fitted ++ fitted_to vs rest) (sym (at_hand us i d h))
    ∙ so_far

pub all_fitted : (us : List Unit) (i : ℕ) (fitted rest all : List ℕ) → length us ≤ i → fitted ++ fitted_to (drop i us) rest ≡ all → fitted ≡ all
all_fitted us i fitted rest all h so_far =
    sym (append-nil fitted) ∙ ap (λ vs. fitted ++ fitted_to vs rest) (sym (drop_all i us h)) ∙ so_far

pub unit_spelled : (us : List Unit) (i : ℕ) (d : Unit) (rest more bytes new all : List ℕ)
    → i < length us → new ≡ overwritten bytes (get_or us i d).at (bytes_of (get_or us i d).size (slice_index rest 0)) → more ≡ drop 1 rest
    → spelled (drop i us) rest bytes ≡ all → spelled (drop (i + 1) us) more new ≡ all
unit_spelled us i d rest more bytes new all h k e so_far =
    ap₂ (λ m b. spelled (drop (i + 1) us) m b) e k ∙ ap (λ vs. spelled vs rest bytes) (sym (at_hand us i d h)) ∙ so_far

pub all_spelled : (us : List Unit) (i : ℕ) (rest bytes all : List ℕ) → length us ≤ i → spelled (drop i us) rest bytes ≡ all → bytes ≡ all
all_spelled us i rest bytes all h so_far = ap (λ vs. spelled vs rest bytes) (sym (drop_all i us h)) ∙ so_far
