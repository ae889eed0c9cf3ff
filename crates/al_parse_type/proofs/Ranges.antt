-- A range of a text that is cut at the text's ends.
use Rattle.std.proofs.Common.{◌≡◌, ℕ, ◌<◌, ◌≤◌, min, nat_le, Bool, true, false, List, length, take, drop, refl, sym, ap, ◌∙◌, arith}
use Rattle.std.proofs.lemmas.List.{drop_all, take_all}

within : (a b : ℕ) → nat_le a b ≡ true → a ≤ b
within a b h = grind arith

beyond : (a b : ℕ) → nat_le a b ≡ false → b < a
beyond a b h = grind arith

drop_clipped : (xs : List ℕ) (n : ℕ) → drop (min n (length xs)) xs ≡ drop n xs
drop_clipped xs n = go (nat_le n (length xs)) refl
  where
    go : (b : Bool) → nat_le n (length xs) ≡ b → drop (min n (length xs)) xs ≡ drop n xs
    go true e = let l = within n (length xs) e in ap (λ k. drop k xs) (let m : min n (length xs) ≡ n = omega arith in m)
    go false e = let l = beyond n (length xs) e in drop_all (min n (length xs)) xs (omega arith) ∙ sym (drop_all n xs (omega arith))

take_clipped : (xs : List ℕ) (n : ℕ) → take (min n (length xs)) xs ≡ take n xs
take_clipped xs n = go (nat_le n (length xs)) refl
  where
    go : (b : Bool) → nat_le n (length xs) ≡ b → take (min n (length xs)) xs ≡ take n xs
    go true e = let l = within n (length xs) e in ap (λ k. take k xs) (let m : min n (length xs) ≡ n = omega arith in m)
    go false e = let l = beyond n (length xs) e in take_all (min n (length xs)) xs (omega arith) ∙ sym (take_all n xs (omega arith))

pub clipped : (xs : List ℕ) (i n : ℕ) → take (min n (length (drop (min i (length xs)) xs))) (drop (min i (length xs)) xs) ≡ take n (drop i xs)
clipped xs i n = take_clipped (drop (min i (length xs)) xs) n ∙ ap (take n) (drop_clipped xs i)
