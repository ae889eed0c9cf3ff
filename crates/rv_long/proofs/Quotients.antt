-- What the routines of division do.
use Rattle.std.proofs.Common.{◌≡◌, ℕ, ◌+◌, ◌-◌, ◌/◌, ◌%◌, ◌^◌, ◌<◌, ◌==◌, nat_lt, true, if◌then◌else◌, List, ◌++◌, Some, None, inl, inr, refl, sym, ap, ap₂, subst, ◌∙◌, arith, pos, lit<}
use Rattle.std.specs.Prelude.{int_div, int_rem}
use Rattle.std.proofs.Math.Nat.{mod-eq_of_lt, div-le_self, mod-le}
use Rattle.al_base.specs.Arith.{wrapped, value_of}
use Rattle.rv_exec.specs.Words.{flag}
use Rattle.rv_long.specs.declared.step.Step.{Step}
use Rattle.rv_long.specs.declared.op.LongOp.TheVariants.{Div, DivU, Rem, RemU}
use Rattle.rv_long.specs.declared.blocks.TheConstants.{SIGN, COMPLEMENT, ADD_SIGN, ABSOLUTE_RIGHT, SIGN_OF_QUOTIENT, CLEAR, DIVIDE, REMAINDER}
use Rattle.rv_long.specs.Code.{repeated}
use Rattle.rv_long.specs.Long.{HasOperands, two_words}
use Rattle.rv_long.proofs.Running.{after, after-append}
use Rattle.rv_long.proofs.Integers.{sized, with_sign, Differ, quotient_bits, rest_bits}
use Rattle.rv_long.proofs.Division.{ends}
use Rattle.rv_long.proofs.Pieces.{IsAt, small_at, IsSign, sign_is, turned, complement, add_sign, signed_is, absolute_right, differs, Dividing, divide, divide_all, remainder}
use Rattle.rv_long.proofs.Wholes.{Does, left_at, right_at, same_at, divided, below_64, whole_bits}

-- a division of n by d from the first bit to the last
bits_done : (before : List Step) (r : ℕ → ℕ) (n d s : ℕ) → Dividing n d s 64 (after before r) → Dividing n d s 0 (after (before ++ repeated 64 DIVIDE) r)
bits_done before r n d s h = rw (after-append before (repeated 64 DIVIDE) r) (divide_all n d s 64 0 (after before r) h)

quotient_at : (r : ℕ → ℕ) (n d s : ℕ) → Dividing n d s 0 r → IsAt 10 11 r (n / d)
quotient_at r n d s h = same_at r h.digits (n / d) h.left (ends n d h.rest h.digits h.state).0

rest_at : (r : ℕ → ℕ) (n d s : ℕ) → Dividing n d s 0 r → IsAt 14 15 r (n % d)
rest_at r n d s h = record { low_word = h.over.low_word; high_word = h.over.high_word; is = h.over.is ∙ (ends n d h.rest h.digits h.state).1 }

-- ---- without signs

divided_u : (a b x value : ℕ) → a < 2 ^ 64 → b < 2 ^ 64 → (if b % 2 ^ 64 == 0 then None else Some x) ≡ Some value → (0 < b) × (x ≡ value)
divided_u a b x value p q e =
    let both = divided (b % 2 ^ 64) x value e in
    (omega (arith, both.0), both.1)

quotient_u : (a b : ℕ) → a < 2 ^ 64 → b < 2 ^ 64 → a / b ≡ wrapped 64 (int_div (pos (a % 2 ^ 64)) (pos (b % 2 ^ 64)))
quotient_u a b p q =
    let small : a / b < 2 ^ 64 = omega (arith, div-le_self a b) in
    sym (ap₂ (λ (x y : ℕ). x / y % 2 ^ 64) (whole_bits a p) (whole_bits b q) ∙ mod-eq_of_lt small)

rest_u : (a b : ℕ) → a < 2 ^ 64 → b < 2 ^ 64 → a % b ≡ wrapped 64 (int_rem (pos (a % 2 ^ 64)) (pos (b % 2 ^ 64)))
rest_u a b p q =
    let small : a % b < 2 ^ 64 = omega (arith, mod-le a b) in
    sym (ap₂ (λ (x y : ℕ). x % y % 2 ^ 64) (whole_bits a p) (whole_bits b q) ∙ mod-eq_of_lt small)

unsigned_division : (r : ℕ → ℕ) → HasOperands r → 0 < two_words (r 12) (r 13)
    → Dividing (two_words (r 10) (r 11)) (two_words (r 12) (r 13)) (r 16) 0 (after (CLEAR ++ repeated 64 DIVIDE) r)
unsigned_division r h some =
    bits_done CLEAR r (two_words (r 10) (r 11)) (two_words (r 12) (r 13)) (r 16)
    (divide r (two_words (r 10) (r 11)) (two_words (r 12) (r 13)) (r 16) (left_at r h) (right_at r h) some refl)

pub divu_does : Does DivU (CLEAR ++ repeated 64 DIVIDE)
divu_does r value h e =
    let a : ℕ = two_words (r 10) (r 11) in
    let b : ℕ = two_words (r 12) (r 13) in
    let p : a < 2 ^ 64 = below_64 (r 10) (r 11) h.left_low h.left_high in
    let q : b < 2 ^ 64 = below_64 (r 12) (r 13) h.right_low h.right_high in
    let both = divided_u a b (wrapped 64 (int_div (pos (a % 2 ^ 64)) (pos (b % 2 ^ 64)))) value p q e in
    let r' : ℕ → ℕ = after (CLEAR ++ repeated 64 DIVIDE) r in
    same_at r' (a / b) value (quotient_at r' a b (r 16) (unsigned_division r h both.0)) (quotient_u a b p q ∙ both.1)

pub remu_does : Does RemU (CLEAR ++ repeated 64 DIVIDE ++ REMAINDER)
remu_does r value h e =
    let a : ℕ = two_words (r 10) (r 11) in
    let b : ℕ = two_words (r 12) (r 13) in
    let p : a < 2 ^ 64 = below_64 (r 10) (r 11) h.left_low h.left_high in
    let q : b < 2 ^ 64 = below_64 (r 12) (r 13) h.right_low h.right_high in
    let both = divided_u a b (wrapped 64 (int_rem (pos (a % 2 ^ 64)) (pos (b % 2 ^ 64)))) value p q e in
    let r' : ℕ → ℕ = after (CLEAR ++ repeated 64 DIVIDE) r in
    rw (after-append (CLEAR ++ repeated 64 DIVIDE) REMAINDER r)
    (same_at (after REMAINDER r') (a % b) value (remainder r' (a % b) (rest_at r' a b (r 16) (unsigned_division r h both.0))) (rest_u a b p q ∙ both.1))

-- ---- with signs

abbrev pub absolutes : List Step
absolutes = SIGN ++ COMPLEMENT ++ ADD_SIGN ++ ABSOLUTE_RIGHT

-- the registers with the absolute values and the signs of two numbers
pub record AreAbsolute (a b : ℕ) (r : ℕ → ℕ) : Type 0 where
  pub left : IsAt 10 11 r (with_sign (a / 2 ^ 63) a)
  pub right : IsAt 12 13 r (with_sign (b / 2 ^ 63) b)
  pub left_sign : r 16 ≡ a / 2 ^ 63
  pub right_sign : r 17 ≡ b / 2 ^ 63
  pub are_signs : IsSign (a / 2 ^ 63) × IsSign (b / 2 ^ 63)

-- the number or its opposite
negated : (r : ℕ → ℕ) (a s : ℕ) → IsSign s → r 16 ≡ s → IsAt 10 11 r a → IsAt 10 11 (after ADD_SIGN (after COMPLEMENT r)) (with_sign s a)
negated r a s is_sign e p =
    let q : IsSign (r 16) = subst IsSign (sym e) is_sign in
    same_at (after ADD_SIGN (after COMPLEMENT r)) ((turned (r 16) a + r 16) % 2 ^ 64) (with_sign s a)
    (add_sign (after COMPLEMENT r) (turned (r 16) a) q (complement r a q p))
    (signed_is (r 16) a q (small_at 10 11 r a p) ∙ ap (λ (x : ℕ). with_sign x a) e)

are_absolute : (r : ℕ → ℕ) → HasOperands r → AreAbsolute (two_words (r 10) (r 11)) (two_words (r 12) (r 13)) (after absolutes r)
are_absolute r h =
    let a : ℕ = two_words (r 10) (r 11) in
    let b : ℕ = two_words (r 12) (r 13) in
    let sign = sign_is (r 10) (r 11) a h.left_low h.left_high refl in
    let other = sign_is (r 12) (r 13) b h.right_low h.right_high refl in
    let r1 : ℕ → ℕ = after SIGN r in
    let p1 : IsAt 10 11 r1 a = record { low_word = h.left_low; high_word = h.left_high; is = refl } in
    let r2 : ℕ → ℕ = after ADD_SIGN (after COMPLEMENT r1) in
    let p2 : IsAt 10 11 r2 (with_sign (a / 2 ^ 63) a) = negated r1 a (a / 2 ^ 63) sign.1 sign.0 p1 in
    let q2 : IsAt 12 13 r2 b = record { low_word = h.right_low; high_word = h.right_high; is = refl } in
    record {
      left = record { low_word = p2.low_word; high_word = p2.high_word; is = p2.is };
      right = absolute_right r2 b q2;
      left_sign = sign.0;
      right_sign = other.0;
      are_signs = (sign.1, other.1);
    }

some_size : (s b : ℕ) → s ≡ b / 2 ^ 63 → IsSign s → 0 < b → b < 2 ^ 64 → 0 < with_sign s b
some_size s b e (inl f) some h = rw f some
some_size s b e (inr f) some h = rw f (omega arith)

divided_s : (b x value : ℕ) → b < 2 ^ 64 → (if b % 2 ^ 64 == 0 then None else Some x) ≡ Some value → (0 < b) × (x ≡ value)
divided_s b x value q e = divided_u 0 b x value (lit< tt) q e

sign_of : (s t d : ℕ) → Differ s t d → IsSign d
sign_of s t d (inl e) = inl e.1
sign_of s t d (inr e) = inr e.1

pub rem_does : Does Rem (absolutes ++ CLEAR ++ repeated 64 DIVIDE ++ (REMAINDER ++ COMPLEMENT ++ ADD_SIGN))
rem_does r value h e =
    let a : ℕ = two_words (r 10) (r 11) in
    let b : ℕ = two_words (r 12) (r 13) in
    let s : ℕ = a / 2 ^ 63 in
    let t : ℕ = b / 2 ^ 63 in
    let p : a < 2 ^ 64 = below_64 (r 10) (r 11) h.left_low h.left_high in
    let q : b < 2 ^ 64 = below_64 (r 12) (r 13) h.right_low h.right_high in
    let both = divided_s b (wrapped 64 (int_rem (value_of true 64 a) (value_of true 64 b))) value q e in
    let abs = are_absolute r h in
    let some : 0 < with_sign t b = some_size t b refl abs.are_signs.1 both.0 q in
    let begun : Dividing (with_sign s a) (with_sign t b) s 64 (after (absolutes ++ CLEAR) r) = divide (after absolutes r) (with_sign s a) (with_sign t b) s abs.left abs.right some abs.left_sign in
    let r1 : ℕ → ℕ = after (absolutes ++ CLEAR ++ repeated 64 DIVIDE) r in
    let done : Dividing (with_sign s a) (with_sign t b) s 0 r1 = bits_done (absolutes ++ CLEAR) r (with_sign s a) (with_sign t b) s begun in
    let moved : IsAt 10 11 (after REMAINDER r1) (with_sign s a % with_sign t b) = remainder r1 (with_sign s a % with_sign t b) (rest_at r1 (with_sign s a) (with_sign t b) s done) in
    let signed : IsAt 10 11 (after ADD_SIGN (after COMPLEMENT (after REMAINDER r1))) (with_sign s (with_sign s a % with_sign t b)) = negated (after REMAINDER r1) (with_sign s a % with_sign t b) s abs.are_signs.0 done.sign moved in
    rw (after-append (absolutes ++ CLEAR ++ repeated 64 DIVIDE) (REMAINDER ++ COMPLEMENT ++ ADD_SIGN) r)
    (same_at (after ADD_SIGN (after COMPLEMENT (after REMAINDER r1))) (with_sign s (with_sign s a % with_sign t b)) value signed
    (sym (rest_bits a b (with_sign s a) (with_sign t b) (value_of true 64 a) (value_of true 64 b) p (small_at 10 11 (after absolutes r) (with_sign s a) abs.left) some s t (sized a s p refl) (sized b t q refl)) ∙ both.1))

pub div_does : Does Div (absolutes ++ SIGN_OF_QUOTIENT ++ CLEAR ++ repeated 64 DIVIDE ++ (COMPLEMENT ++ ADD_SIGN))
div_does r value h e =
    let a : ℕ = two_words (r 10) (r 11) in
    let b : ℕ = two_words (r 12) (r 13) in
    let s : ℕ = a / 2 ^ 63 in
    let t : ℕ = b / 2 ^ 63 in
    let p : a < 2 ^ 64 = below_64 (r 10) (r 11) h.left_low h.left_high in
    let q : b < 2 ^ 64 = below_64 (r 12) (r 13) h.right_low h.right_high in
    let both = divided_s b (wrapped 64 (int_div (value_of true 64 a) (value_of true 64 b))) value q e in
    let abs = are_absolute r h in
    let some : 0 < with_sign t b = some_size t b refl abs.are_signs.1 both.0 q in
    let d : ℕ = flag (nat_lt 0 ((s + (2 ^ 32 - t)) % 2 ^ 32)) in
    let differ : Differ s t d = differs s t abs.are_signs.0 abs.are_signs.1 in
    let r0 : ℕ → ℕ = after (absolutes ++ SIGN_OF_QUOTIENT) r in
    let sign : r0 16 ≡ d = ap₂ (λ (x y : ℕ). flag (nat_lt 0 ((x + (2 ^ 32 - y)) % 2 ^ 32))) abs.left_sign abs.right_sign in
    let left : IsAt 10 11 r0 (with_sign s a) = record { low_word = abs.left.low_word; high_word = abs.left.high_word; is = abs.left.is } in
    let right : IsAt 12 13 r0 (with_sign t b) = record { low_word = abs.right.low_word; high_word = abs.right.high_word; is = abs.right.is } in
    let begun : Dividing (with_sign s a) (with_sign t b) d 64 (after (absolutes ++ SIGN_OF_QUOTIENT ++ CLEAR) r) = divide r0 (with_sign s a) (with_sign t b) d left right some sign in
    let r1 : ℕ → ℕ = after (absolutes ++ SIGN_OF_QUOTIENT ++ CLEAR ++ repeated 64 DIVIDE) r in
    let done : Dividing (with_sign s a) (with_sign t b) d 0 r1 = bits_done (absolutes ++ SIGN_OF_QUOTIENT ++ CLEAR) r (with_sign s a) (with_sign t b) d begun in
    let is_sign : IsSign d = sign_of s t d differ in
    let signed : IsAt 10 11 (after ADD_SIGN (after COMPLEMENT r1)) (with_sign d (with_sign s a / with_sign t b)) = negated r1 (with_sign s a / with_sign t b) d is_sign done.sign (quotient_at r1 (with_sign s a) (with_sign t b) d done) in
    rw (after-append (absolutes ++ SIGN_OF_QUOTIENT ++ CLEAR ++ repeated 64 DIVIDE) (COMPLEMENT ++ ADD_SIGN) r)
    (same_at (after ADD_SIGN (after COMPLEMENT r1)) (with_sign d (with_sign s a / with_sign t b)) value signed
    (sym (quotient_bits a b (with_sign s a) (with_sign t b) (value_of true 64 a) (value_of true 64 b) p (small_at 10 11 (after absolutes r) (with_sign s a) abs.left) some s t d (sized a s p refl) (sized b t q refl) differ) ∙ both.1))
