-- Words cut to so many bytes.
use Rattle.std.proofs.Common.{◌≡◌, ℕ, zero, suc, ◌+◌, ◌*◌, ◌%◌, ◌^◌, ◌<◌, ◌≤◌, List, [], ◌∷◌, refl, ap, sym, ◌∙◌, arith}
use Rattle.std.proofs.Math.Nat.{mod-eq_of_lt, zero-mod, pow-suc}
use Rattle.std.specs.Prelude.{slice_index}
use Rattle.al_world.specs.Control.{cut}

-- four bytes and more have a value for each word
bytes_more : (n : ℕ) → 4294967296 ≤ 256 ^ (n + 4)
bytes_more zero = omega arith
bytes_more (suc n) =
    let e : 256 ^ (suc n + 4) ≡ 256 ^ (n + 4) * 256 = ap (λ k. 256 ^ k) (omega arith) ∙ pow-suc 256 (n + 4) in
    omega (arith, e, bytes_more n)

many : (size : ℕ) → 4 ≤ size → 4294967296 ≤ 256 ^ size
many zero h = absurd (omega (arith, h))
many (suc zero) h = absurd (omega (arith, h))
many (suc (suc zero)) h = absurd (omega (arith, h))
many (suc (suc (suc zero))) h = absurd (omega (arith, h))
many (suc (suc (suc (suc n)))) h = let e : 256 ^ (suc (suc (suc (suc n)))) ≡ 256 ^ (n + 4) = ap (λ k. 256 ^ k) (omega arith) in omega (arith, e, bytes_more n)

pub all_bytes : (size word : ℕ) → 4 ≤ size → word < 2 ^ 32 → word % 4294967296 ≡ word % 256 ^ size
all_bytes size word h below =
    let m : 4294967296 ≤ 256 ^ size = many size h in
    let one : word < 4294967296 = omega (arith, below) in
    mod-eq_of_lt one ∙ sym (mod-eq_of_lt (omega (arith, one, m)))

pub ruleset bounds_are = (all_bytes)

-- one word that is cut
pub first-cut : (below : ℕ) (given : List ℕ) → cut 1 below given ≡ slice_index given 0 % below ∷ []
first-cut below [] = ap (λ w. w ∷ []) (sym (zero-mod below))
first-cut below (w ∷ ws) = refl

pub ruleset first_is_cut = (first-cut)
