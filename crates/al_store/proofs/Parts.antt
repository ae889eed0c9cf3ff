-- A part of a list, and what a write leaves of it.
use Rattle.std.proofs.Common.{◌≡◌, ℕ, ◌+◌, ◌-◌, ◌≤◌, List, ◌++◌, length, take, drop, rules, arith}
use Rattle.std.proofs.lemmas.List.{places, same_lists}
use Rattle.al_event.specs.Store.{overwritten}

-- a part of a part
pub part-part : (m : List ℕ) (j k i n : ℕ) → i + n ≤ k → j + k ≤ length m → take n (drop i (take k (drop j m))) ≡ take n (drop (j + i) m)
part-part m j k i n le within = same_lists _ _ (search (rules, places)) (λ q d h. grind (arith, places))

-- a write within a part
pub part-written : (m : List ℕ) (j k p : ℕ) (ys : List ℕ) → j ≤ p → p + length ys ≤ j + k → j + k ≤ length m → take k (drop j (overwritten m p ys)) ≡ overwritten (take k (drop j m)) (p - j) ys
part-written m j k p ys from to within = same_lists _ _ (search (rules, places)) (λ q d h. grind (arith, places))

-- a write elsewhere
pub part-before : (m : List ℕ) (j k p : ℕ) (ys : List ℕ) → j + k ≤ p → p + length ys ≤ length m → take k (drop j (overwritten m p ys)) ≡ take k (drop j m)
part-before m j k p ys le within = same_lists _ _ (search (rules, places)) (λ q d h. grind (arith, places))

pub part-behind : (m : List ℕ) (j k p : ℕ) (ys : List ℕ) → p + length ys ≤ j → j + k ≤ length m → take k (drop j (overwritten m p ys)) ≡ take k (drop j m)
part-behind m j k p ys le within = same_lists _ _ (search (rules, places)) (λ q d h. grind (arith, places))

-- more at the end
pub part-longer : (m zs : List ℕ) (j k : ℕ) → j + k ≤ length m → take k (drop j (m ++ zs)) ≡ take k (drop j m)
part-longer m zs j k within = same_lists _ _ (search (rules, places)) (λ q d h. grind (arith, places))

-- what was written
pub part-here : (m ys : List ℕ) (p n : ℕ) → n ≡ length ys → p + n ≤ length m → take n (drop p (overwritten m p ys)) ≡ ys
part-here m ys p n is within = same_lists _ _ (search (rules, places)) (λ q d h. grind (arith, places))

pub length-overwritten : (m ys : List ℕ) (p : ℕ) → p + length ys ≤ length m → length (overwritten m p ys) ≡ length m
length-overwritten m ys p within = search (rules, places)
