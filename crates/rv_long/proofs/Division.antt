-- Restoring division, a bit at a time.
use Rattle.std.proofs.Common.{◌≡◌, ℕ, suc, ◌+◌, ◌-◌, ◌*◌, ◌/◌, ◌%◌, ◌^◌, ◌<◌, ◌≤◌, ◌⊎◌, inl, inr, refl, sym, ap, ◌∙◌, arith}
use Rattle.std.proofs.Math.Nat.{mul-add, add-mul, mul_assoc, mul_comm, pow-suc, mul-le-mul_right}
use Rattle.std.proofs.lemmas.Bool.{cases_lt}
use Rattle.std.proofs.lemmas.Nat.{div-mul-add, mod-mul-add}

-- Of a division by d of n there are m bits left. The remainder so far is r and q has the bits of the dividend that are
-- left above those of the quotient so far.
pub record IsDividing (n d m r q : ℕ) : Type 0 where
  pub left : ℕ  -- what is left of the dividend
  pub done : ℕ  -- the quotient so far
  pub above : ℕ  -- 2 to the power of the bits that are done
  pub small : left < 2 ^ m
  pub few : done < above
  pub whole : above * 2 ^ m ≡ 2 ^ 64
  pub both : q ≡ left * above + done
  pub below : r < d
  pub is : n ≡ (d * done + r) * 2 ^ m + left

pub begins : (n d : ℕ) → n < 2 ^ 64 → 0 < d → IsDividing n d 64 0 n
begins n d h some = record {
  left = n;
  done = 0;
  above = 1;
  small = h;
  few = omega arith;
  whole = refl;
  both = omega arith;
  below = some;
  is = omega arith;
}

pub ends : (n d r q : ℕ) → IsDividing n d 0 r q → (q ≡ n / d) × (r ≡ n % d)
ends n d r q h =
    let none : h.left ≡ 0 = omega (arith, h.small) in
    let q_is : q ≡ h.done = omega (arith, h.both, ap (λ x. x * h.above) none) in
    let n_is : n ≡ h.done * d + r = omega (arith, h.is, mul_comm d h.done) in
    (q_is ∙ sym (ap (λ x. x / d) n_is ∙ div-mul-add h.done d r h.below), sym (ap (λ x. x % d) n_is ∙ mod-mul-add h.done d r h.below))

spread : (x r b c : ℕ) → (2 * x + 2 * r + b) * c ≡ (x + r) * (2 * c) + b * c
spread x r b c = omega (arith, add-mul (2 * x + 2 * r) b c, add-mul (2 * x) (2 * r) c, add-mul x r (2 * c), mul_assoc 2 x c, mul_assoc 2 r c, mul_assoc x 2 c, mul_assoc r 2 c, mul_comm x 2, mul_comm r 2, mul_assoc 2 x c, mul_assoc 2 r c)

twice : (d done take : ℕ) → d * (2 * done + take) ≡ 2 * (d * done) + take * d
twice d done take = omega (arith, mul-add d (2 * done) take, mul_assoc d 2 done, mul_comm d 2, mul_assoc 2 d done, mul_comm d take)

halves : (above c : ℕ) → above * (c * 2) ≡ 2 ^ 64 → c * above ≡ 2 ^ 63
halves above c e = omega (arith, sym (mul_assoc above c 2), mul_comm above c)

under : (left done above c : ℕ) → left < c → done < above → c * above ≡ 2 ^ 63 → left * above + done < 2 ^ 63
under left done above c h f e =
    let more : (left + 1) * above ≤ c * above = mul-le-mul_right above (omega arith) in
    omega (arith, add-mul left 1 above)

-- the dividend so far
module _ (d done r c left r' take bit : ℕ) where
  moved_on : r' + take * d ≡ 2 * r + bit → (d * done + r) * (c * 2) + bit * c + left ≡ (d * (2 * done + take) + r') * c + left
  moved_on e =
      let all : d * (2 * done + take) + r' ≡ 2 * (d * done) + 2 * r + bit = omega (arith, twice d done take) in
      rw all (omega (arith, spread (d * done) r bit c, mul_comm c 2))

doubled : (left done above : ℕ) (take : ℕ) → 2 * (left * above + done) + take ≡ left * (2 * above) + (2 * done + take)
doubled left done above take = omega (arith, sym (mul_assoc left 2 above), mul_comm left 2, mul_assoc 2 left above)

module _ (n d m r q : ℕ) (h : IsDividing n d (suc m) r q) (r' q' take : ℕ)
    (rest : r' + take * d ≡ 2 * r + q / 2 ^ 63) (below : r' < d) (digits : q' ≡ 2 * q % 2 ^ 64 + take) (few : take ≤ 1) where
  power : 2 ^ suc m ≡ 2 ^ m * 2
  power = pow-suc 2 m

  half : 2 ^ m * h.above ≡ 2 ^ 63
  half = halves h.above (2 ^ m) (rw power at h.whole)

  whole : 2 * h.above * 2 ^ m ≡ 2 ^ 64
  whole = omega (arith, half, mul_assoc 2 h.above (2 ^ m), mul_comm h.above (2 ^ m))

  next_is : n ≡ (d * h.done + r) * (2 ^ m * 2) + h.left
  next_is = rw power at h.is

  no_bit : h.left < 2 ^ m → IsDividing n d m r' q'
  no_bit less =
      let small : h.left * h.above + h.done < 2 ^ 63 = under h.left h.done h.above (2 ^ m) less h.few half in
      let zero_bit : q / 2 ^ 63 ≡ 0 = omega (arith, small, h.both) in
      record {
        left = h.left;
        done = 2 * h.done + take;
        above = 2 * h.above;
        small = less;
        few = omega (arith, h.few);
        whole = whole;
        both = omega (arith, small, h.both, doubled h.left h.done h.above take);
        below = below;
        is = next_is ∙ omega (arith, moved_on d h.done r (2 ^ m) h.left r' take 0 (omega arith));
      }

  one_bit : 2 ^ m ≤ h.left → IsDividing n d m r' q'
  one_bit more =
      let left : ℕ = h.left - 2 ^ m in
      let left_is : h.left ≡ left + 2 ^ m = omega arith in
      let less : left < 2 ^ m = omega (arith, h.small, power) in
      let small : left * h.above + h.done < 2 ^ 63 = under left h.done h.above (2 ^ m) less h.few half in
      let digits_are : q ≡ left * h.above + h.done + 2 ^ 63 = omega (arith, h.both, ap (λ x. x * h.above) left_is, add-mul left (2 ^ m) h.above, half) in
      let some_bit : q / 2 ^ 63 ≡ 1 = omega (arith, small, digits_are) in
      record {
        left = left;
        done = 2 * h.done + take;
        above = 2 * h.above;
        small = less;
        few = omega (arith, h.few);
        whole = whole;
        both = omega (arith, small, digits_are, doubled left h.done h.above take);
        below = below;
        is = next_is ∙ omega (arith, left_is, moved_on d h.done r (2 ^ m) left r' take 1 (omega arith));
      }

  pub goes_on : IsDividing n d m r' q'
  goes_on = on (cases_lt h.left (2 ^ m)) where
    on : (h.left < 2 ^ m) ⊎ (2 ^ m ≤ h.left) → IsDividing n d m r' q'
    on (inl less) = no_bit less
    on (inr more) = one_bit more
