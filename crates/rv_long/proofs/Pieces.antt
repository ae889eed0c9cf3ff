-- What each piece of a routine does.
use Rattle.std.proofs.Common.{◌≡◌, ℕ, zero, suc, ◌+◌, ◌-◌, ◌*◌, ◌/◌, ◌%◌, ◌^◌, ◌<◌, ◌≤◌, nat_lt, ◌⊎◌, inl, inr, refl, sym, ap, ap₂, subst, ◌∙◌, arith, lit<}
use Rattle.std.proofs.Math.Nat.{mod-lt, div-le_self}
use Rattle.std.proofs.lemmas.Nat.{mod_below, pow_pos}
use Rattle.rv_exec.specs.Words.{flag}
use Rattle.rv_long.specs.declared.blocks.TheConstants.{MULTIPLY, POWER, SHIFT_RIGHT, COMPLEMENT, ADD_SIGN, ABSOLUTE_RIGHT, CLEAR, DIVIDE, REMAINDER}
use Rattle.rv_long.specs.Code.{repeated}
use Rattle.rv_long.specs.Long.{two_words}
use Rattle.rv_long.proofs.Running.{after, after-append}
use Rattle.rv_long.proofs.Numbers.{less, doubled, borrow, taking, less_taken, left_over, is_bit, at_most_one}
use Rattle.rv_long.proofs.Products.{product_two, bit_five, power_two}
use Rattle.rv_long.proofs.Shifts.{funnel, other_bits, powers, chosen}
use Rattle.rv_long.proofs.Signs.{turned_by, complement_two, one_more}
use Rattle.rv_long.proofs.Division.{IsDividing, goes_on, begins}
use Rattle.rv_long.proofs.Integers.{with_sign, Differ}

-- two registers hold a number of 64 bits, low word first
pub record IsAt (low high : ℕ) (r : ℕ → ℕ) (value : ℕ) : Type 0 where
  pub low_word : r low < 2 ^ 32
  pub high_word : r high < 2 ^ 32
  pub is : two_words (r low) (r high) ≡ value

pub small_at : (low high : ℕ) (r : ℕ → ℕ) (value : ℕ) → IsAt low high r value → value < 2 ^ 64
small_at low high r value h = omega (arith, h.low_word, h.high_word, h.is)

below : (n : ℕ) → n % 2 ^ 32 < 2 ^ 32
below n = mod-lt n (lit< tt)

pub multiply : (r : ℕ → ℕ) (a b : ℕ) → IsAt 10 11 r a → IsAt 12 13 r b → IsAt 10 11 (after MULTIPLY r) (a * b % 2 ^ 64)
multiply r a b p q = record {
  low_word = below (r 10 * r 12);
  high_word = below _;
  is = product_two (r 10) (r 11) (r 12) (r 13) ∙ ap₂ (λ (x y : ℕ). x * y % 2 ^ 64) p.is q.is;
}

pub power : (r : ℕ → ℕ) → r 12 < 2 ^ 32 → IsAt 12 13 (after POWER r) (2 ^ (r 12 % 64))
power r h = record {
  low_word = below _;
  high_word = below _;
  is = power_two (r 12 % 64) (r 12 % 32) (r 12 * 2 ^ 26 % 2 ^ 32 / 2 ^ 31) (mod_below (r 12) 32 (lit< tt)) (bit_five (r 12) h);
}

-- a number shifted right by the low five bits of the count
funnelled : (lo hi c : ℕ) → lo < 2 ^ 32 → hi < 2 ^ 32 → c < 2 ^ 32
    → two_words ((lo / 2 ^ (c % 32) + hi * 2 % 2 ^ 32 * 2 ^ ((31 + (2 ^ 32 - c)) % 2 ^ 32 % 32) % 2 ^ 32) % 2 ^ 32) (hi / 2 ^ (c % 32)) ≡ two_words lo hi / 2 ^ (c % 32)
funnelled lo hi c a b h =
    rw (other_bits c h) (funnel lo hi (2 ^ (c % 32)) (2 ^ (31 - c % 32)) a b (pow_pos (c % 32)) (powers (c % 32) (mod_below c 32 (lit< tt))))

-- the words of a number shifted right
module _ (lo hi c a : ℕ) (p : lo < 2 ^ 32) (q : hi < 2 ^ 32) (h : c < 2 ^ 32) (e : two_words lo hi ≡ a) where
  abbrev mixed : ℕ
  mixed = (lo / 2 ^ (c % 32) + hi * 2 % 2 ^ 32 * 2 ^ ((31 + (2 ^ 32 - c)) % 2 ^ 32 % 32) % 2 ^ 32) % 2 ^ 32

  abbrev top : ℕ
  top = hi / 2 ^ (c % 32)

  abbrev big : ℕ
  big = c * 2 ^ 26 % 2 ^ 32 / 2 ^ 31

  abbrev keep : ℕ
  keep = flag (nat_lt big 1)

  low_is : (mixed * keep % 2 ^ 32 + top * big % 2 ^ 32) % 2 ^ 32 < 2 ^ 32
  low_is = below (mixed * keep % 2 ^ 32 + top * big % 2 ^ 32)

  high_is : top * keep % 2 ^ 32 < 2 ^ 32
  high_is = below (top * keep)

  both_are : two_words ((mixed * keep % 2 ^ 32 + top * big % 2 ^ 32) % 2 ^ 32) (top * keep % 2 ^ 32) ≡ a / 2 ^ (c % 64)
  both_are =
      let small : a < 2 ^ 64 = omega (arith, p, q, e) in
      let high : top < 2 ^ 32 = omega (arith, div-le_self hi (2 ^ (c % 32)), q) in
      chosen a mixed top (c % 32) (c % 64) big keep (below (lo / 2 ^ (c % 32) + hi * 2 % 2 ^ 32 * 2 ^ ((31 + (2 ^ 32 - c)) % 2 ^ 32 % 32) % 2 ^ 32)) high small
      (funnelled lo hi c p q h ∙ ap (λ (x : ℕ). x / 2 ^ (c % 32)) e) (bit_five c h) (less big 1)

pub shift_right : (r : ℕ → ℕ) (a : ℕ) → IsAt 10 11 r a → r 12 < 2 ^ 32 → IsAt 10 11 (after SHIFT_RIGHT r) (a / 2 ^ (r 12 % 64))
shift_right r a p h = record {
  low_word = low_is (r 10) (r 11) (r 12) a p.low_word p.high_word h p.is;
  high_word = high_is (r 10) (r 11) (r 12) a p.low_word p.high_word h p.is;
  is = both_are (r 10) (r 11) (r 12) a p.low_word p.high_word h p.is;
}

-- ---- signs

abbrev pub IsSign : ℕ → Type 0
IsSign s = (s ≡ 0) ⊎ (s ≡ 1)

-- the sign of 64 bits
pub sign_is : (low high a : ℕ) → low < 2 ^ 32 → high < 2 ^ 32 → two_words low high ≡ a → (high / 2 ^ 31 ≡ a / 2 ^ 63) × IsSign (a / 2 ^ 63)
sign_is low high a p q e = (omega (arith, e), on (a / 2 ^ 63) refl) where
  on : (n : ℕ) → a / 2 ^ 63 ≡ n → IsSign n
  on zero f = inl refl
  on (suc n) f = inr (omega (arith, e))

abbrev pub turned : (sign a : ℕ) → ℕ
turned zero a = a
turned (suc n) a = 2 ^ 64 - 1 - a

turned_is : (s a b : ℕ) → ((s ≡ 0) × (b ≡ a)) ⊎ ((s ≡ 1) × (b ≡ 2 ^ 64 - 1 - a)) → b ≡ turned s a
turned_is s a b (inl e) = rw e.0 e.1
turned_is s a b (inr e) = rw e.0 e.1

masked_below : (x s b : ℕ) → x < 2 ^ 32 → ((s ≡ 0) × (b ≡ x)) ⊎ ((s ≡ 1) × (b ≡ 2 ^ 32 - 1 - x)) → b < 2 ^ 32
masked_below x s b h (inl e) = omega (arith, e.1)
masked_below x s b h (inr e) = omega (arith, e.1)

pub complement : (r : ℕ → ℕ) (a : ℕ) → IsSign (r 16) → IsAt 10 11 r a → IsAt 10 11 (after COMPLEMENT r) (turned (r 16) a)
complement r a s p =
    let low = turned_by (r 10) (r 16) p.low_word s in
    let high = turned_by (r 11) (r 16) p.high_word s in
    record {
      low_word = masked_below (r 10) (r 16) _ p.low_word low;
      high_word = masked_below (r 11) (r 16) _ p.high_word high;
      is = turned_is (r 16) (two_words (r 10) (r 11)) _ (complement_two (r 10) (r 11) (r 16) _ _ p.low_word p.high_word low high) ∙ ap (turned (r 16)) p.is;
    }

pub add_sign : (r : ℕ → ℕ) (a : ℕ) → IsSign (r 16) → IsAt 10 11 r a → IsAt 10 11 (after ADD_SIGN r) ((a + r 16) % 2 ^ 64)
add_sign r a s p = record {
  low_word = below _;
  high_word = below _;
  is = one_more (r 10) (r 11) (r 16) _ p.low_word p.high_word s (less ((r 10 + r 16) % 2 ^ 32) (r 16)) ∙ ap (λ (x : ℕ). (x + r 16) % 2 ^ 64) p.is;
}

-- both make the number or its opposite
pub signed_is : (s a : ℕ) → IsSign s → a < 2 ^ 64 → (turned s a + s) % 2 ^ 64 ≡ with_sign s a
signed_is s a (inl e) h = rw e (omega arith)
signed_is s a (inr e) h = rw e (omega arith)

pub absolute_right : (r : ℕ → ℕ) (b : ℕ) → IsAt 12 13 r b → IsAt 12 13 (after ABSOLUTE_RIGHT r) (with_sign (b / 2 ^ 63) b)
absolute_right r b p =
    let sign = sign_is (r 12) (r 13) b p.low_word p.high_word p.is in
    let s : ℕ = r 13 / 2 ^ 31 in
    let is_sign : IsSign s = subst IsSign (sym sign.0) sign.1 in
    let low = turned_by (r 12) s p.low_word is_sign in
    let high = turned_by (r 13) s p.high_word is_sign in
    let both = turned_is s (two_words (r 12) (r 13)) _ (complement_two (r 12) (r 13) s _ _ p.low_word p.high_word low high) ∙ ap (turned s) p.is in
    record {
      low_word = below _;
      high_word = below _;
      is = one_more _ _ s _ (masked_below (r 12) s _ p.low_word low) (masked_below (r 13) s _ p.high_word high) is_sign (less _ s)
          ∙ ap (λ (x : ℕ). (x + s) % 2 ^ 64) both ∙ signed_is s b is_sign (small_at 12 13 r b p) ∙ ap (λ (x : ℕ). with_sign x b) sign.0;
    }

pub differs : (s t : ℕ) → IsSign s → IsSign t → Differ s t (flag (nat_lt 0 ((s + (2 ^ 32 - t)) % 2 ^ 32)))
differs s t (inl e) (inl f) = rw (e, f) (inl (refl, refl))
differs s t (inl e) (inr f) = rw (e, f) (inr (λ h. absurd (omega (arith, h)), refl))
differs s t (inr e) (inl f) = rw (e, f) (inr (λ h. absurd (omega (arith, h)), refl))
differs s t (inr e) (inr f) = rw (e, f) (inl (refl, refl))

-- ---- division

-- the words after a bit
pub record IsNext (n d m ql qh rl rh : ℕ) : Type 0 where
  pub digits_low : ql < 2 ^ 32
  pub digits_high : qh < 2 ^ 32
  pub rest_low : rl < 2 ^ 32
  pub rest_high : rh < 2 ^ 32
  pub state : IsDividing n d m (two_words rl rh) (two_words ql qh)

-- a bit of restoring division on words
module _ (ql qh dl dh rl rh : ℕ) (a : ql < 2 ^ 32) (b : qh < 2 ^ 32) (c : dl < 2 ^ 32) (d : dh < 2 ^ 32) (e : rl < 2 ^ 32) (f : rh < 2 ^ 32)
    (less_than : two_words rl rh < two_words dl dh) where
  abbrev pub rl1 : ℕ
  rl1 = (rl * 2 % 2 ^ 32 + qh / 2 ^ 31) % 2 ^ 32

  abbrev pub rh1 : ℕ
  rh1 = (rh * 2 % 2 ^ 32 + rl / 2 ^ 31) % 2 ^ 32

  abbrev pub low : ℕ
  low = flag (nat_lt rl1 dl)

  abbrev pub borrowed : ℕ
  borrowed = (flag (nat_lt rh1 dh) + flag (nat_lt ((rh1 + (2 ^ 32 - dh)) % 2 ^ 32) low)) % 2 ^ 32

  abbrev pub take : ℕ
  take = flag (nat_lt 0 ((flag (nat_lt borrowed 1) + rh / 2 ^ 31) % 2 ^ 32))

  abbrev all : ℕ
  all = 2 * two_words rl rh + qh / 2 ^ 31

  all_is : two_words rl1 rh1 + rh / 2 ^ 31 * 2 ^ 64 ≡ all
  all_is = doubled rl rh (qh / 2 ^ 31) e f (omega arith)

  small : two_words rl1 rh1 < 2 ^ 64
  small = omega (arith, below (rl * 2 % 2 ^ 32 + qh / 2 ^ 31), below (rh * 2 % 2 ^ 32 + rl / 2 ^ 31))

  taken : ((all < two_words dl dh) × (take ≡ 0)) ⊎ ((two_words dl dh ≤ all) × (take ≡ 1))
  taken =
      taking all (two_words rl1 rh1) (two_words dl dh) (rh / 2 ^ 31) borrowed small (omega arith) all_is (omega arith)
      (borrow rl1 rh1 dl dh low (flag (nat_lt rh1 dh)) (flag (nat_lt ((rh1 + (2 ^ 32 - dh)) % 2 ^ 32) low)) (below _) (below _) c d
      (less rl1 dl) (less rh1 dh) (less ((rh1 + (2 ^ 32 - dh)) % 2 ^ 32) low))
      take (flag (nat_lt borrowed 1)) (less borrowed 1) (less 0 ((flag (nat_lt borrowed 1) + rh / 2 ^ 31) % 2 ^ 32))

  abbrev pub rl2 : ℕ
  rl2 = (rl1 + (2 ^ 32 - dl * take % 2 ^ 32)) % 2 ^ 32

  abbrev pub rh2 : ℕ
  rh2 = ((rh1 + (2 ^ 32 - dh * take % 2 ^ 32)) % 2 ^ 32 + (2 ^ 32 - flag (nat_lt rl1 (dl * take % 2 ^ 32)))) % 2 ^ 32

  abbrev pub ql2 : ℕ
  ql2 = (ql * 2 % 2 ^ 32 + take) % 2 ^ 32

  abbrev pub qh2 : ℕ
  qh2 = (qh * 2 % 2 ^ 32 + ql / 2 ^ 31) % 2 ^ 32

  bit : (take ≡ 0) ⊎ (take ≡ 1)
  bit = is_bit all (two_words dl dh) take taken

  over : two_words rl2 rh2 ≡ (two_words rl1 rh1 + (2 ^ 64 - two_words dl dh * take)) % 2 ^ 64
  over = less_taken rl1 rh1 dl dh take (flag (nat_lt rl1 (dl * take % 2 ^ 32))) (below _) (below _) c d bit (less rl1 (dl * take % 2 ^ 32))

  digits : two_words ql2 qh2 + qh / 2 ^ 31 * 2 ^ 64 ≡ 2 * two_words ql qh + take
  digits = doubled ql qh take a b (at_most_one take bit)

  pub next : (n m : ℕ) → IsDividing n (two_words dl dh) (suc m) (two_words rl rh) (two_words ql qh)
      → IsNext n (two_words dl dh) m ql2 qh2 rl2 rh2
  next n m h =
      let rest = left_over all (two_words rl1 rh1) (two_words dl dh) (rh / 2 ^ 31) take (two_words rl2 rh2) small (omega arith) all_is (omega arith) taken over in
      let few : two_words ql2 qh2 < 2 ^ 64 = omega (arith, below (ql * 2 % 2 ^ 32 + take), below (qh * 2 % 2 ^ 32 + ql / 2 ^ 31)) in
      let first : qh / 2 ^ 31 ≡ two_words ql qh / 2 ^ 63 = (sign_is ql qh (two_words ql qh) a b refl).0 in
      record {
        digits_low = below (ql * 2 % 2 ^ 32 + take);
        digits_high = below (qh * 2 % 2 ^ 32 + ql / 2 ^ 31);
        rest_low = below (rl1 + (2 ^ 32 - dl * take % 2 ^ 32));
        rest_high = below ((rh1 + (2 ^ 32 - dh * take % 2 ^ 32)) % 2 ^ 32 + (2 ^ 32 - flag (nat_lt rl1 (dl * take % 2 ^ 32))));
        state = goes_on n (two_words dl dh) m (two_words rl rh) (two_words ql qh) h (two_words rl2 rh2) (two_words ql2 qh2) take
            (rest.0 ∙ ap (λ (x : ℕ). 2 * two_words rl rh + x) first) rest.1 (omega (arith, digits, few, first, rest.2)) rest.2;
      }

-- the registers of a division, and the sign that it keeps
pub record Dividing (n d s m : ℕ) (r : ℕ → ℕ) : Type 0 where
  pub digits : ℕ
  pub rest : ℕ
  pub left : IsAt 10 11 r digits
  pub right : IsAt 12 13 r d
  pub over : IsAt 14 15 r rest
  pub state : IsDividing n d m rest digits
  pub sign : r 16 ≡ s

divide_words : (n m : ℕ) (r : ℕ → ℕ) → r 10 < 2 ^ 32 → r 11 < 2 ^ 32 → r 12 < 2 ^ 32 → r 13 < 2 ^ 32 → r 14 < 2 ^ 32 → r 15 < 2 ^ 32
    → IsDividing n (two_words (r 12) (r 13)) (suc m) (two_words (r 14) (r 15)) (two_words (r 10) (r 11))
    → IsNext n (two_words (r 12) (r 13)) m (after DIVIDE r 10) (after DIVIDE r 11) (after DIVIDE r 14) (after DIVIDE r 15)
divide_words n m r a b c d e f h = next (r 10) (r 11) (r 12) (r 13) (r 14) (r 15) a b c d e f h.below n m h

divide_next : (n d s m : ℕ) (r' : ℕ → ℕ) → IsAt 12 13 r' d → r' 16 ≡ s → IsNext n d m (r' 10) (r' 11) (r' 14) (r' 15) → Dividing n d s m r'
divide_next n d s m r' right sign h = record {
  digits = two_words (r' 10) (r' 11);
  rest = two_words (r' 14) (r' 15);
  left = record { low_word = h.digits_low; high_word = h.digits_high; is = refl };
  right = right;
  over = record { low_word = h.rest_low; high_word = h.rest_high; is = refl };
  state = h.state;
  sign = sign;
}

divide_one : (n d s m : ℕ) (r : ℕ → ℕ) → Dividing n d s (suc m) r → Dividing n d s m (after DIVIDE r)
divide_one n d s m r h =
    let same : IsDividing n (two_words (r 12) (r 13)) (suc m) (two_words (r 14) (r 15)) (two_words (r 10) (r 11)) = rw (h.right.is, h.over.is, h.left.is) h.state in
    let words = divide_words n m r h.left.low_word h.left.high_word h.right.low_word h.right.high_word h.over.low_word h.over.high_word same in
    divide_next n d s m (after DIVIDE r) (record { low_word = h.right.low_word; high_word = h.right.high_word; is = h.right.is }) h.sign
    (subst (λ (x : ℕ). IsNext n x m (after DIVIDE r 10) (after DIVIDE r 11) (after DIVIDE r 14) (after DIVIDE r 15)) h.right.is words)

pub divide_all : (n d s k m : ℕ) (r : ℕ → ℕ) → Dividing n d s (k + m) r → Dividing n d s m (after (repeated k DIVIDE) r)
unfolding repeated
divide_all n d s zero m r h = let e : 0 + m ≡ m = omega arith in subst (λ (x : ℕ). Dividing n d s x r) e h
divide_all n d s (suc k) m r h =
    let e : suc k + m ≡ k + suc m = omega arith in
    let before : Dividing n d s (k + suc m) r = subst (λ (x : ℕ). Dividing n d s x r) e h in
    rw (after-append (repeated k DIVIDE) DIVIDE r) (divide_one n d s m (after (repeated k DIVIDE) r) (divide_all n d s k (suc m) r before))

pub divide : (r : ℕ → ℕ) (n d s : ℕ) → IsAt 10 11 r n → IsAt 12 13 r d → 0 < d → r 16 ≡ s → Dividing n d s 64 (after CLEAR r)
divide r n d s p q some e = record {
  digits = n;
  rest = 0;
  left = record { low_word = p.low_word; high_word = p.high_word; is = p.is };
  right = record { low_word = q.low_word; high_word = q.high_word; is = q.is };
  over = record { low_word = lit< tt; high_word = lit< tt; is = refl };
  state = begins n d (small_at 10 11 r n p) some;
  sign = e;
}

-- the remainder, moved
pub remainder : (r : ℕ → ℕ) (a : ℕ) → IsAt 14 15 r a → IsAt 10 11 (after REMAINDER r) a
remainder r a p =
    let low : (r 14 + 0) % 2 ^ 32 ≡ r 14 = omega (arith, p.low_word) in
    let high : (r 15 + 0) % 2 ^ 32 ≡ r 15 = omega (arith, p.high_word) in
    record {
      low_word = below (r 14 + 0);
      high_word = below (r 15 + 0);
      is = ap₂ (λ (x y : ℕ). two_words x y) low high ∙ p.is;
    }
