-- Integers of one kind that are those of another with the same bits.
use Rattle.std.proofs.Common.{◌≡◌, ℕ, ◌+◌, ◌*◌, ◌/◌, ◌%◌, ◌^◌, ◌<◌, ◌≤◌, List, [], ◌∷◌, length, refl, sym, ap, ◌∙◌, subst, ◌⊎◌, inl, inr, ⊎_elim, arith, lit<, ℤ, pos, negsuc}
use Rattle.std.specs.Prelude.{Bool, true, false, ◌==◌, nat_lt, ◌&&◌, ◌||◌, not, if◌then◌else◌, unsigned_abs}
use Rattle.std.specs.Int.{int_rem_euclid}
use Rattle.std.proofs.Math.Nat.{mod-eq_of_lt, mod-lt, pow-le-pow_right}
use Rattle.std.proofs.lemmas.Nat.{pow_pos}
use Rattle.std.proofs.lemmas.Grind.{common_steps}
use Rattle.al_base.specs.Arith.{width_of, is_signed, value_of, integer_of, wrapped}
use Rattle.al_base.proofs.Products.{wrapped-value}
use Rattle.al_base.specs.declared.arith.Kind.{Kind}
use Rattle.al_base.specs.declared.arith.Kind.TheVariants as kind
use Rattle.al_typed.specs.declared.ty.Ty.TheVariants as ty
use Rattle.al_typed.specs.Layout.{unit_at}
use Rattle.al_meaning.specs.Words.{bits_of, integer_words, words_with}
use Rattle.al_lower_words.specs.Units.{AreOf}
use Rattle.al_lower_words.proofs.Integers.{units_of_kind, two_words}
use Rattle.al_lower_code.specs.Operators.{is_long, keeps_bits}
use Rattle.al_lower_claims.proofs.Claims.{Setting, UnitsOf}
use Rattle.al_lower_claims.proofs.Operands.{both_true}

rem_below : (z : ℤ) (n : ℕ) → 0 < n → unsigned_abs (int_rem_euclid z (pos n)) < n
rem_below (pos a) n some = mod-lt a some
rem_below (negsuc a) n some = omega arith

pub wrapped_within : (w : ℕ) (z : ℤ) → wrapped w z < 2 ^ w
wrapped_within w z = rem_below z (2 ^ w) (pow_pos w)

not_true : (b : Bool) → not b ≡ true → b ≡ false
not_true true e = absurd (cc)
not_true false e = refl

-- as many bits, or more of them for what has no sign
pub record Wider (j i : Kind) : Type 0 where
  pub less : width_of j < width_of i
  pub short : is_long i ≡ false
  pub plain : is_signed j ≡ false

pub keeps_cases : (j i : Kind) → keeps_bits j i ≡ true → (width_of j ≡ width_of i) ⊎ Wider j i
keeps_cases j i e = on (width_of j == width_of i) refl e
  where
    on : (b : Bool) → (width_of j == width_of i) ≡ b → (b || (nat_lt (width_of j) (width_of i) && not (is_long i) && not (is_signed j))) ≡ true → (width_of j ≡ width_of i) ⊎ Wider j i
    on true q e = inl (grind (arith, common_steps, q))
    on false q e =
        let a = both_true (nat_lt (width_of j) (width_of i) && not (is_long i)) (not (is_signed j)) e in
        let b = both_true (nat_lt (width_of j) (width_of i)) (not (is_long i)) a.0 in
        inr (record { less = grind (arith, common_steps, b.0); short = not_true (is_long i) b.1; plain = not_true (is_signed j) a.1 })

-- the integer of such bits has them in the other kind too
pub wrapped_same : (j i : Kind) (n : ℕ) → keeps_bits j i ≡ true → n < 2 ^ width_of j → wrapped (width_of i) (integer_of j n) ≡ n
wrapped_same j i n e lt = ⊎_elim same wider (keeps_cases j i e)
  where
    same : width_of j ≡ width_of i → wrapped (width_of i) (integer_of j n) ≡ n
    same q =
        let small : n < 2 ^ width_of i = subst (λ w. n < 2 ^ w) q lt in
        ap (λ w. wrapped (width_of i) (value_of (is_signed j) w n)) q ∙ (wrapped-value (width_of i) (is_signed j) n ∙ mod-eq_of_lt small)

    wider : Wider j i → wrapped (width_of i) (integer_of j n) ≡ n
    wider x =
        let is : n % 2 ^ width_of j ≡ n = mod-eq_of_lt lt in
        let le : width_of j ≤ width_of i = let l = x.less in omega (arith, l) in
        let powers : 2 ^ width_of j ≤ 2 ^ width_of i = pow-le-pow_right {n = 2} (lit< tt) {i = width_of j} {j = width_of i} le in
        let small : n < 2 ^ width_of i = omega (arith, lt, powers) in
        ap (λ s. wrapped (width_of i) (value_of s (width_of j) n)) x.plain ∙ (ap (λ m. wrapped (width_of i) (pos m)) is ∙ mod-eq_of_lt small)

short_width : (j : Kind) → width_of j < 64 → (width_of j == 64) ≡ false
short_width j lt = grind (arith, common_steps, lt)

at_most_64 : (i : Kind) → width_of i ≤ 64
at_most_64 kind.Byte = omega arith
at_most_64 kind.Sint = omega arith
at_most_64 kind.Usint = omega arith
at_most_64 kind.Int = omega arith
at_most_64 kind.Uint = omega arith
at_most_64 kind.Lint = omega arith
at_most_64 kind.Ulint = omega arith

-- and as many words
pub words_same : (j i : Kind) (n : ℕ) → keeps_bits j i ≡ true → integer_words j n ≡ integer_words i n
words_same j i n e = ⊎_elim (λ q. ap (λ w. words_with w n) q) wider (keeps_cases j i e)
  where
    wider : Wider j i → integer_words j n ≡ integer_words i n
    wider x =
        let l = x.less in
        let m = at_most_64 i in
        let short : (width_of j == 64) ≡ false = short_width j (omega (arith, l, m)) in
        ap (λ b. if b then n % 2 ^ 32 ∷ n / 2 ^ 32 ∷ [] else n ∷ []) (short ∙ sym x.short)

-- ---- the words of an integer

pub record IsInteger (j : Kind) (v : List ℕ) : Type 0 where
  pub is : v ≡ integer_words j (bits_of v)
  pub small : bits_of v < 2 ^ width_of j

first_is : (a b : ℕ) (xs ys : List ℕ) → a ∷ xs ≡ b ∷ ys → a ≡ b
first_is a b xs ys e = cc

one : (size : ℕ) (v : List ℕ) → AreOf (unit_at 0 size ∷ []) v → (w : ℕ) × ((v ≡ w ∷ []) × (w % 256 ^ size ≡ w))
one size [] h = absurd (cc)
one size (w ∷ []) h = (w, (refl, first_is _ _ _ _ h))
one size (w ∷ x ∷ v) h = absurd (cc)

two : (v : List ℕ) → AreOf (unit_at 0 4 ∷ unit_at 4 4 ∷ []) v → (v ≡ bits_of v % 2 ^ 32 ∷ bits_of v / 2 ^ 32 ∷ []) × (bits_of v < 2 ^ 64)
two v h =
    let w = two_words 0 4 v h in
    let low = w.low_small in
    let high = w.high_small in
    let bits : bits_of v ≡ w.low + 2 ^ 32 * w.high = ap bits_of w.is in
    let below : w.low ≡ bits_of v % 2 ^ 32 = omega (arith, low, bits) in
    let above : w.high ≡ bits_of v / 2 ^ 32 = omega (arith, low, bits) in
    (w.is ∙ (ap (λ n. n ∷ w.high ∷ []) below ∙ ap (λ n. bits_of v % 2 ^ 32 ∷ n ∷ []) above), omega (arith, low, high, bits))

pub integer_value : (k : Setting) (j : Kind) (v : List ℕ) → UnitsOf k (ty.Integer j) v → IsInteger j v
integer_value k kind.Byte v h = let w = one 1 v (subst (λ us. AreOf us v) (units_of_kind k.ways.program kind.Byte) h) in let b : bits_of v ≡ w.0 = ap bits_of w.1.0 in let e = w.1.1 in record { is = w.1.0 ∙ ap (λ n. n ∷ []) (sym b); small = omega (arith, e, b) }
integer_value k kind.Sint v h = let w = one 2 v (subst (λ us. AreOf us v) (units_of_kind k.ways.program kind.Sint) h) in let b : bits_of v ≡ w.0 = ap bits_of w.1.0 in let e = w.1.1 in record { is = w.1.0 ∙ ap (λ n. n ∷ []) (sym b); small = omega (arith, e, b) }
integer_value k kind.Usint v h = let w = one 2 v (subst (λ us. AreOf us v) (units_of_kind k.ways.program kind.Usint) h) in let b : bits_of v ≡ w.0 = ap bits_of w.1.0 in let e = w.1.1 in record { is = w.1.0 ∙ ap (λ n. n ∷ []) (sym b); small = omega (arith, e, b) }
integer_value k kind.Int v h = let w = one 4 v (subst (λ us. AreOf us v) (units_of_kind k.ways.program kind.Int) h) in let b : bits_of v ≡ w.0 = ap bits_of w.1.0 in let e = w.1.1 in record { is = w.1.0 ∙ ap (λ n. n ∷ []) (sym b); small = omega (arith, e, b) }
integer_value k kind.Uint v h = let w = one 4 v (subst (λ us. AreOf us v) (units_of_kind k.ways.program kind.Uint) h) in let b : bits_of v ≡ w.0 = ap bits_of w.1.0 in let e = w.1.1 in record { is = w.1.0 ∙ ap (λ n. n ∷ []) (sym b); small = omega (arith, e, b) }
integer_value k kind.Lint v h = let w = two v (subst (λ us. AreOf us v) (units_of_kind k.ways.program kind.Lint) h) in record { is = w.0; small = w.1 }
integer_value k kind.Ulint v h = let w = two v (subst (λ us. AreOf us v) (units_of_kind k.ways.program kind.Ulint) h) in record { is = w.0; small = w.1 }
