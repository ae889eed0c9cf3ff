-- A loop that has turns left, and one that has none.
use Rattle.std.proofs.Common.{◌≡◌, ℕ, zero, suc, ◌+◌, ◌-◌, ◌<◌, ◌≤◌, ap, ◌∙◌, arith}

one_less : (m n : ℕ) → n < m → m - n ≡ suc (m - (n + 1))
one_less m n h = omega (arith, h)

-- the loop's turn and what comes after it
pub one_more : {A : Type 0} {x : A} (L : ℕ → A) (m n : ℕ) → n < m → x ≡ L (m - n) → x ≡ L (suc (m - (n + 1)))
one_more L m n h e = e ∙ ap L (one_less m n h)

none_left : (m n : ℕ) → m ≤ n → m - n ≡ zero
none_left m n h = omega (arith, h)

pub no_more : {A : Type 0} {x : A} (L : ℕ → A) (m n : ℕ) → m ≤ n → x ≡ L (m - n) → x ≡ L zero
no_more L m n h e = e ∙ ap L (none_left m n h)

-- one level down
pub deeper : {A : Type 0} (L : ℕ → A) (n : ℕ) → 0 < n → L n ≡ L (suc (n - 1))
deeper L n h = let e : n ≡ suc (n - 1) = omega (arith, h) in ap L e
