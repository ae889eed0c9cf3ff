-- Counts of procs by their numbers.
use Rattle.std.proofs.Common.{◌≡◌, ℕ, zero, suc, ◌<◌, List, [], ◌∷◌, ◌++◌, length, refl, arith}
use Rattle.std.proofs.lemmas.Bool.Decides.{nat_tests}
use Rattle.std.specs.Prelude.{◌==◌, if◌then◌else◌, slice_index, slice_set}
use Rattle.al_world.specs.World.{at_proc}
use Rattle.al_script.specs.Worlds.{counts_of}

index_padded : (cs : List ℕ) (p : ℕ) → slice_index (cs ++ 0 ∷ []) p ≡ slice_index cs p
index_padded [] zero = refl
index_padded [] (suc p) = refl
index_padded (c ∷ cs) zero = refl
index_padded (c ∷ cs) (suc p) = index_padded cs p

index_set : (cs : List ℕ) (p c q : ℕ) → p < length cs → slice_index (slice_set cs p c) q ≡ (if q == p then c else slice_index cs q)
index_set [] p c q h = absurd (omega (arith, h))
index_set (x ∷ cs) zero c zero h = refl
index_set (x ∷ cs) zero c (suc q) h = grind (arith, nat_tests)
index_set (x ∷ cs) (suc p) c zero h = grind (arith, nat_tests)
index_set (x ∷ cs) (suc p) c (suc q) h = grind (arith, nat_tests, index_set cs p c q (omega (arith, h)))

index_none : (p : ℕ) → slice_index [] p ≡ 0
index_none zero = refl
index_none (suc p) = refl

pub counts-at : (cs : List ℕ) (p : ℕ) → counts_of cs p ≡ slice_index cs p
unfolding counts_of
counts-at cs p = refl

pub counts-none : counts_of [] ≡ λ _. 0
unfolding counts_of
counts-none = λ i p. index_none p i

-- a place more changes none
pub counts-padded : (cs : List ℕ) → counts_of (cs ++ 0 ∷ []) ≡ counts_of cs
unfolding counts_of
counts-padded cs = λ i p. index_padded cs p i

pub counts-set : (cs : List ℕ) (p c : ℕ) → p < length cs → counts_of (slice_set cs p c) ≡ at_proc p c (counts_of cs)
unfolding counts_of
counts-set cs p c h = λ i q. index_set cs p c q h i

pub ruleset padded_are = (counts-padded)

pub ruleset counts_are = (counts-set)

pub ruleset counts_at = (counts-at)

pub ruleset counts_open = (counts-none)
