-- What the bytes of a value's units spell at a unit of a member.
use Rattle.std.proofs.Common.{◌≡◌, ℕ, zero, suc, ◌+◌, ◌-◌, ◌*◌, ◌/◌, ◌%◌, ◌^◌, ◌<◌, ◌≤◌, List, [], ◌∷◌, length, take, drop, Some, refl, sym, ap, ◌∙◌, subst, lit<, rules, arith}
use Rattle.std.specs.Prelude.{slice_get, slice_index}
use Rattle.std.proofs.lemmas.List.{places, same_lists}
use Rattle.std.proofs.Math.Arith.{mod-mul}
use Rattle.std.proofs.Math.Nat.{div-div-eq-div-mul, pow-suc, pow-succ'}
use Rattle.al_event.specs.Store.{bytes_of, number_of, overwritten}
use Rattle.al_typed.specs.declared.layout.Unit.{Unit}
use Rattle.al_meaning.specs.Words.{spelled}
use Rattle.al_lower_members.proofs.Even.{AreEven}
use Rattle.al_lower_members.proofs.Within.{bounded}

-- ---- writes

part_part : (m : List ℕ) (j k i n : ℕ) → i + n ≤ k → j + k ≤ length m → take n (drop i (take k (drop j m))) ≡ take n (drop (j + i) m)
part_part m j k i n le within = same_lists _ _ (search (rules, places)) (λ q d h. grind (arith, places))

part_before : (m : List ℕ) (j k p : ℕ) (ys : List ℕ) → j + k ≤ p → p + length ys ≤ length m → take k (drop j (overwritten m p ys)) ≡ take k (drop j m)
part_before m j k p ys le within = same_lists _ _ (search (rules, places)) (λ q d h. grind (arith, places))

part_here : (m ys : List ℕ) (p n : ℕ) → n ≡ length ys → p + n ≤ length m → take n (drop p (overwritten m p ys)) ≡ ys
part_here m ys p n is within = same_lists _ _ (search (rules, places)) (λ q d h. grind (arith, places))

overwritten_length : (m ys : List ℕ) (p : ℕ) → p + length ys ≤ length m → length (overwritten m p ys) ≡ length m
overwritten_length m ys p within = search (rules, places)

bytes_length : (n word : ℕ) → length (bytes_of n word) ≡ n
bytes_length zero word = refl
bytes_length (suc n) word = ap suc (bytes_length n (word / 256))

-- ---- bytes of a word

some_256 : 0 < 256
some_256 = lit< tt

power_some : (n : ℕ) → 0 < 256 ^ n
power_some zero = omega arith
power_some (suc n) = let e = pow-suc 256 n in let r = power_some n in omega (arith, e, r)

bytes_behind : (s n word : ℕ) → drop s (bytes_of (s + n) word) ≡ bytes_of n (word / 256 ^ s)
bytes_behind zero n word =
    let z : 0 + n ≡ n = omega arith in
    let one : word / 256 ^ 0 ≡ word = omega arith in
    ap (λ k. bytes_of k word) z ∙ ap (bytes_of n) (sym one)
bytes_behind (suc s) n word =
    let z : suc s + n ≡ suc (s + n) = omega arith in
    let quotient : word / 256 / 256 ^ s ≡ word / 256 ^ suc s = div-div-eq-div-mul word 256 (256 ^ s) ∙ ap (λ k. word / k) (sym (pow-succ' 256 s)) in
    ap (λ k. drop (suc s) (bytes_of k word)) z ∙ (bytes_behind s n (word / 256) ∙ ap (bytes_of n) quotient)

bytes_front : (n m word : ℕ) → take n (bytes_of (n + m) word) ≡ bytes_of n word
bytes_front zero m word = refl
bytes_front (suc n) m word =
    let z : suc n + m ≡ suc (n + m) = omega arith in
    ap (λ k. take (suc n) (bytes_of k word)) z ∙ ap (λ bs. word % 256 ∷ bs) (bytes_front n m (word / 256))

bytes_number : (n word : ℕ) → number_of (bytes_of n word) ≡ word % 256 ^ n
bytes_number zero word = let e : word % 256 ^ 0 ≡ 0 = omega arith in sym e
bytes_number (suc n) word =
    let e : 256 ^ suc n ≡ 256 ^ n * 256 = pow-suc 256 n in
    let m = mod-mul word {m = 256 ^ n} {c = 256} (power_some n) some_256 in
    let r = bytes_number n (word / 256) in
    let q : word % 256 ^ suc n ≡ (word / 256 % 256 ^ n) * 256 + word % 256 = ap (λ k. word % k) e ∙ m in
    omega (arith, q, r)

part_number : (size s n word : ℕ) → s + n ≤ size → number_of (take n (drop s (bytes_of size word))) ≡ word / 256 ^ s % 256 ^ n
part_number size s n word le =
    let z : size ≡ s + (n + (size - (s + n))) = omega (arith, le) in
    let back = ap (λ k. drop s (bytes_of k word)) z ∙ bytes_behind s (n + (size - (s + n))) word in
    ap (λ bs. number_of (take n bs)) back ∙ (ap number_of (bytes_front n (size - (s + n)) (word / 256 ^ s)) ∙ bytes_number n (word / 256 ^ s))

-- ---- units

-- units further on leave the bytes before them
spelled_behind : (us : List Unit) (ws bytes : List ℕ) (lo hi a k n : ℕ) → AreEven lo hi a us → k + n ≤ lo → hi ≤ length bytes → take n (drop k (spelled us ws bytes)) ≡ take n (drop k bytes)
spelled_behind [] ws bytes lo hi a k n h le fit = refl
spelled_behind (u ∷ us) ws bytes lo hi a k n h le fit =
    let ys = bytes_of u.size (slice_index ws 0) in
    let len = bytes_length u.size (slice_index ws 0) in
    let from = h.0 in
    let end = bounded (u.at + u.size) hi a us h.1.1 in
    let same = overwritten_length bytes ys u.at (omega (arith, len, end, fit)) in
    spelled_behind us (drop 1 ws) (overwritten bytes u.at ys) (u.at + u.size) hi a k n h.1.1 (omega (arith, le, from)) (omega (arith, same, fit))
    ∙ part_before bytes k n u.at ys (omega (arith, le, from)) (omega (arith, len, end, fit))

-- a part of one of the units
pub spelled_part : (us : List Unit) (ws bytes : List ℕ) (lo hi a i s n : ℕ) (u : Unit) → AreEven lo hi a us → hi ≤ length bytes → slice_get us i ≡ Some u → s + n ≤ u.size → number_of (take n (drop (u.at + s) (spelled us ws bytes))) ≡ slice_index ws i / 256 ^ s % 256 ^ n
spelled_part [] ws bytes lo hi a i s n u h fit e le = absurd (cc)
spelled_part (x ∷ us) ws bytes lo hi a zero s n u h fit e le =
    let same : x ≡ u = cc in
    subst (λ (u : Unit). s + n ≤ u.size → number_of (take n (drop (u.at + s) (spelled (x ∷ us) ws bytes))) ≡ slice_index ws 0 / 256 ^ s % 256 ^ n) same (λ le.
    let ys = bytes_of x.size (slice_index ws 0) in
    let len = bytes_length x.size (slice_index ws 0) in
    let end = bounded (x.at + x.size) hi a us h.1.1 in
    let kept = overwritten_length bytes ys x.at (omega (arith, len, end, fit)) in
    let rest = spelled_behind us (drop 1 ws) (overwritten bytes x.at ys) (x.at + x.size) hi a (x.at + s) n h.1.1 (omega (arith, le)) (omega (arith, kept, fit)) in
    let here = part_here bytes ys x.at x.size (sym len) (omega (arith, end, fit)) in
    let part = part_part (overwritten bytes x.at ys) x.at x.size s n le (omega (arith, kept, end, fit)) in
    ap number_of (rest ∙ (sym part ∙ ap (λ bs. take n (drop s bs)) here)) ∙ part_number x.size s n (slice_index ws 0) le) le
spelled_part (x ∷ us) ws bytes lo hi a (suc i) s n u h fit e le =
    let ys = bytes_of x.size (slice_index ws 0) in
    let len = bytes_length x.size (slice_index ws 0) in
    let end = bounded (x.at + x.size) hi a us h.1.1 in
    let kept = overwritten_length bytes ys x.at (omega (arith, len, end, fit)) in
    spelled_part us (drop 1 ws) (overwritten bytes x.at ys) (x.at + x.size) hi a i s n u h.1.1 (omega (arith, kept, fit)) e le ∙ ap (λ w. w / 256 ^ s % 256 ^ n) (index_behind ws i)
  where
    index_behind : (ws : List ℕ) (i : ℕ) → slice_index (drop 1 ws) i ≡ slice_index ws (suc i)
    index_behind [] i = refl
    index_behind (w ∷ ws) i = refl
