-- Unary minus, and complements.
use Rattle.std.proofs.Common.{◌≡◌, ℕ, ◌+◌, ◌-◌, ◌*◌, ◌/◌, ◌%◌, ◌^◌, ◌<◌, ◌≤◌, nat_le, List, [], ◌∷◌, ◌++◌, length, Option, Some, None, refl, sym, ap, ap₂, ◌∙◌, subst, le_refl, inl, inr, ⊎_elim, arith, length-append, ℤ, pos, ◌+ℤ◌, ◌-ℤ◌}
use Rattle.std.specs.Prelude.{Bool, true, false, ◌&&◌, if◌then◌else◌, unwrap_or, unsigned_abs}
use Rattle.std.proofs.Math.Nat.{mod-eq_of_lt}
use Rattle.std.proofs.lemmas.Int.{ints, int_rem_euclid_is}
use Rattle.al_base.specs.Arith.{width_of, is_signed, integer_of, wrapped}
use Rattle.al_base.specs.declared.arith.Kind.{Kind}
use Rattle.al_base.specs.declared.arith.Kind.TheVariants as kind
use Rattle.al_base.specs.declared.arith.Op.TheVariants as alu
use Rattle.al_typed.specs.declared.ty.Ty.{Ty}
use Rattle.al_typed.specs.declared.ty.Ty.TheVariants as ty
use Rattle.al_typed.specs.declared.expression.UnaryOp.{UnaryOp}
use Rattle.al_typed.specs.declared.expression.UnaryOp.TheVariants as unary
use Rattle.al_typed.specs.declared.expression.BinaryOp.TheVariants as binary
use Rattle.al_typed.specs.Types.{promoted, is_void}
use Rattle.al_typed.specs.WellTyped.{IsPromoted}
use Rattle.al_meaning.specs.Words.{bits_of, integer_words, operated_once, complement}
use Rattle.al_meaning.specs.Shown.{kind_of}
use Rattle.al_meaning.specs.Here.{units_in}
use Rattle.al_meaning.specs.Tasks.{Still, Env, Rest, Task}
use Rattle.al_ir.specs.declared.op.Op.TheVariants.{Complement}
use Rattle.al_ir.specs.Control.{Slots, put}
use Rattle.al_lower_words.specs.Units.{AreOf}
use Rattle.al_lower_words.proofs.Integers.{length_of}
use Rattle.al_lower_code.specs.Homes.{here}
use Rattle.al_lower_code.specs.Moving.{constants}
use Rattle.al_lower_code.specs.Operators.{is_long, arithmetic}
use Rattle.al_lower_code.specs.Coded.{Coded, plain, operand_slot, operand_code}
use Rattle.al_lower_code.specs.Values.{less_than_constant, complement_coded, unary_coded}
use Rattle.al_lower_steps.specs.Slots.{Holds, Outside}
use Rattle.al_lower_steps.proofs.Slots.{put_same, put_outside, holds_outside}
use Rattle.al_lower_steps.proofs.Steps.{moved, comes_out, has_front, has_back}
use Rattle.al_lower_steps.proofs.Plain.{complement_does}
use Rattle.al_lower_claims.proofs.Moving.{constants_do}
use Rattle.al_lower_claims.proofs.Variables.{put_outside_is}
use Rattle.al_lower_claims.proofs.Claims.{Setting, scene, site, spot, HasRoom, UnitsOf, count_of, ValueDoes, CodedDoes}
use Rattle.al_lower_claims.proofs.Operands.{operand_does}
use Rattle.al_lower_claims.proofs.Plain.{valued_does}
use Rattle.al_lower_values.proofs.Operating.{operates}
use Rattle.al_lower_values.proofs.Binary.{kind_of_integer, not_void_integer, counts_integer}
use Rattle.al_lower_integers.proofs.Constants.{integer_fits}
use Rattle.al_lower_conversions.proofs.Wrapping.{IsInteger, integer_value}
use Rattle.al_lower_conversions.proofs.Same.{mapped, same_does}
use Rattle.al_lower_conversions.proofs.Words.{equal_same}

bits_are : (j : Kind) (n : ℕ) → bits_of (integer_words j n) ≡ n
bits_are kind.Byte n = refl
bits_are kind.Sint n = refl
bits_are kind.Usint n = refl
bits_are kind.Int n = refl
bits_are kind.Uint n = refl
bits_are kind.Lint n = omega arith
bits_are kind.Ulint n = omega arith

zero_is : (j : Kind) → integer_of j 0 ≡ pos 0
zero_is kind.Byte = refl
zero_is kind.Sint = refl
zero_is kind.Usint = refl
zero_is kind.Int = refl
zero_is kind.Uint = refl
zero_is kind.Lint = refl
zero_is kind.Ulint = refl

zero_small : (j : Kind) → 0 < 2 ^ width_of j
zero_small kind.Byte = omega arith
zero_small kind.Sint = omega arith
zero_small kind.Usint = omega arith
zero_small kind.Int = omega arith
zero_small kind.Uint = omega arith
zero_small kind.Lint = omega arith
zero_small kind.Ulint = omega arith

rest_of : (z : ℤ) (k m : ℕ) → z +ℤ pos (k * 2 ^ 64) ≡ pos m → m < 2 ^ 64 → wrapped 64 z ≡ m
rest_of z k m e lt = ap unsigned_abs (int_rem_euclid_is z (pos (2 ^ 64)) (2 ^ 64) k m (omega arith) refl e) ∙ mod-eq_of_lt lt

-- all ones, less the value
ones_less : (below : Bool) (x : ℕ) → x < 2 ^ 64 → wrapped 64 (pos (2 ^ 64 - 1) -ℤ pos (2 ^ 64) -ℤ (if below then pos x -ℤ pos (2 ^ 64) else pos x)) ≡ 2 ^ 64 - 1 - x
ones_less true x lt = rest_of _ 0 (2 ^ 64 - 1 - x) (omega (arith, ints, lt)) (omega (arith, lt))
ones_less false x lt = rest_of _ 1 (2 ^ 64 - 1 - x) (omega (arith, ints, lt)) (omega (arith, lt))

long_ones : (j : Kind) (x : ℕ) → is_long j ≡ true → x < 2 ^ width_of j → wrapped (width_of j) (integer_of j (2 ^ 64 - 1) -ℤ integer_of j x) ≡ complement j x
long_ones kind.Lint x e lt =
    let is : x % 2 ^ 64 ≡ x = mod-eq_of_lt lt in
    ap (λ n. wrapped 64 (pos (2 ^ 64 - 1) -ℤ pos (2 ^ 64) -ℤ (if nat_le (2 ^ 63) n then pos n -ℤ pos (2 ^ 64) else pos n))) is ∙ ones_less (nat_le (2 ^ 63) x) x lt
long_ones kind.Ulint x e lt =
    let is : x % 2 ^ 64 ≡ x = mod-eq_of_lt lt in
    ap (λ n. wrapped 64 (pos (2 ^ 64 - 1) -ℤ pos n)) is ∙ rest_of (pos (2 ^ 64 - 1) -ℤ pos x) 0 (2 ^ 64 - 1 - x) (omega (arith, ints, lt)) (omega (arith, lt))
long_ones kind.Byte x e lt = absurd (cc)
long_ones kind.Sint x e lt = absurd (cc)
long_ones kind.Usint x e lt = absurd (cc)
long_ones kind.Int x e lt = absurd (cc)
long_ones kind.Uint x e lt = absurd (cc)

long_small : (j : Kind) → is_long j ≡ true → 2 ^ 64 - 1 < 2 ^ width_of j
long_small kind.Lint e = omega arith
long_small kind.Ulint e = omega arith
long_small kind.Byte e = absurd (cc)
long_small kind.Sint e = absurd (cc)
long_small kind.Usint e = absurd (cc)
long_small kind.Int e = absurd (cc)
long_small kind.Uint e = absurd (cc)

short_complement : (j : Kind) (w : ℕ) → promoted j ≡ j → is_long j ≡ false → integer_words j (complement j w) ≡ (2 ^ 32 - 1 - w) ∷ []
short_complement kind.Int w e l = refl
short_complement kind.Uint w e l = refl
short_complement kind.Lint w e l = absurd (cc)
short_complement kind.Ulint w e l = absurd (cc)
short_complement kind.Byte w e l = absurd (cc)
short_complement kind.Sint w e l = absurd (cc)
short_complement kind.Usint w e l = absurd (cc)

short_words : (j : Kind) (n : ℕ) → is_long j ≡ false → integer_words j n ≡ n ∷ []
short_words j n l = ap (λ b. if b then n % 2 ^ 32 ∷ n / 2 ^ 32 ∷ [] else n ∷ []) l

complement_small : (j : Kind) (x : ℕ) → complement j x < 2 ^ width_of j
complement_small j x = let some = zero_small j in omega (arith, some)

module _ (k : Setting) {m : Task (Option (List ℕ))} {c : Coded} (t : Ty) (j : Kind) (is_promoted : promoted j ≡ j) (e : t ≡ ty.Integer j) (h : CodedDoes k m t c) where
  of_type : (v : List ℕ) → UnitsOf k t v → UnitsOf k (ty.Integer j) v
  of_type v fits = subst (λ q. UnitsOf k q v) e fits

  to_type : (v : List ℕ) → UnitsOf k (ty.Integer j) v → UnitsOf k t v
  to_type v fits = subst (λ q. UnitsOf k q v) (sym e) fits

  counts : count_of k t ≡ length (units_in k.ways.program t)
  counts = counts_integer k t j e

  -- an operand stands before the slots behind its own
  operand_before : (to : ℕ) → HasRoom k to → operand_slot c to + count_of k t ≤ to + count_of k t
  operand_before to room = on c.stands refl
    where
      on : (o : Option ℕ) → c.stands ≡ o → unwrap_or o to + count_of k t ≤ to + count_of k t
      on None q = le_refl (to + count_of k t)
      on (Some slot) q =
          let n = counts in
          let a = k.above in
          ⊎_elim
          (λ x. let at = x.1.1.1.0 in let fit = k.homes.fits x.0 x.1.0 x.1.1.0 in omega (arith, at, fit, a, room))
          (λ x. let lt = x.1.0 in let at = x.1.1.0 in omega (arith, lt, at, room))
          (h.stands slot q).where_is

  less_does : (bits : ℕ) (given : ℕ → ℕ) → bits < 2 ^ width_of j → ((x : ℕ) → x < 2 ^ width_of j → wrapped (width_of j) (integer_of j bits -ℤ integer_of j x) ≡ given x) → CodedDoes k (mapped (λ a. integer_words j (given (bits_of a))) m) t (less_than_constant (spot k) t j bits c)
  less_does bits given small is = valued_does k c.keeps _ (record {
    by = λ dest to pc slots last env s next d room vars has go.
        let n = count_of k t in
        let ws = integer_words j bits in
        let ca = operand_code c to in
        let cb = constants k.ways.line (to + n) ws in
        let cd = here (spot k) (arithmetic j alu.Sub dest (to + n) (operand_slot c to)) in
        let nv = not_void_integer t j e in
        operand_does k h nv to pc slots last env s (λ v env s. next (Some (integer_words j (given (bits_of v)))) env s) room vars (has_front (site k) pc ca (cb ++ cd) has) (λ v env2 s now last2 fits vars2 st2 holds same.
        let behind = has_back (site k) pc ca (cb ++ cd) has in
        constants_do (site k) ws k.ways.line (to + n) (pc + length ca) now last2 s _ (has_front (site k) (pc + length ca) cb cd behind) (λ now3 out3 holds3.
        let own = of_type v fits in
        let x : IsInteger j v = integer_value k j v own in
        let lv = length_of _ _ fits in
        let nn = counts in
        let before = operand_before to room in
        let held : Holds now3 (operand_slot c to) v = holds_outside v (operand_slot c to) (to + n) (length ws) now3 now (inl (omega (arith, lv, nn, before))) out3 holds in
        let value_is : wrapped (width_of j) (integer_of j (bits_of ws) -ℤ integer_of j (bits_of v)) ≡ given (bits_of v) = ap (λ b. wrapped (width_of j) (integer_of j b -ℤ integer_of j (bits_of v))) (bits_are j bits) ∙ is (bits_of v) x.small in
        let len : pc + length ca + length cb + 1 ≡ pc + length (ca ++ (cb ++ cd)) = omega (arith, length-append ca (cb ++ cd), length-append cb cd) in
        comes_out (site k) (ap (λ z. next (Some (integer_words j z)) env2 s) (sym value_is))
        (operates (site k) k.ways (pc + length ca + length cb) dest now3 last2 env2 s next binary.Subtract j is_promoted ws v (integer_fits k j bits small) own (to + n) (operand_slot c to) holds3 held (has_back (site k) (pc + length ca) cb cd behind).0 (λ z q fit now4 out4 holds4.
        let fit2 : UnitsOf k t (integer_words j z) = to_type (integer_words j z) fit in
        let count : length (integer_words j z) ≡ n = length_of _ _ fit2 ∙ sym counts in
        let kept : Outside dest n now4 now3 = subst (λ i. Outside dest i now4 now3) count out4 in
        moved (site k) len (go (Some (integer_words j z)) env2 s now now4 last2 (nv, fit2) vars2 st2 (λ i lt a. kept i a ∙ out3 i (inl (omega (arith, lt)))) holds4 same (λ q. absurd (cc)))))));
  })

  pub minus_does : CodedDoes k (mapped (operated_once unary.Minus j) m) t (less_than_constant (spot k) t j 0 c)
  minus_does = less_does 0 (λ x. wrapped (width_of j) (pos 0 -ℤ integer_of j x)) (zero_small j) (λ x lt. ap (λ z. wrapped (width_of j) (z -ℤ integer_of j x)) (zero_is j))

  pub complement_of_does : CodedDoes k (mapped (operated_once unary.Complement j) m) t (complement_coded (spot k) t j c)
  complement_of_does = on (is_long j) refl
    where
      short : is_long j ≡ false → ValueDoes k (mapped (operated_once unary.Complement j) m) t c.keeps false (λ dest to. operand_code c to ++ here (spot k) (Complement dest (operand_slot c to)))
      short l = record {
        by = λ dest to pc slots last env s next d room vars has go.
            let ca = operand_code c to in
            let cb = here (spot k) (Complement dest (operand_slot c to)) in
            let nv = not_void_integer t j e in
            operand_does k h nv to pc slots last env s (λ v env s. next (Some (operated_once unary.Complement j v)) env s) room vars (has_front (site k) pc ca cb has) (λ v env2 s now last2 fits vars2 st2 holds same.
            let x : IsInteger j v = integer_value k j v (of_type v fits) in
            let w = bits_of v in
            let one : v ≡ w ∷ [] = x.is ∙ short_words j w l in
            let z = 2 ^ 32 - 1 - w in
            let now3 : Slots = put dest z now in
            let is : operated_once unary.Complement j v ≡ z ∷ [] = short_complement j w is_promoted l in
            let fit : UnitsOf k t (z ∷ []) = to_type (z ∷ []) (subst (UnitsOf k (ty.Integer j)) is (integer_fits k j (complement j w) (complement_small j w))) in
            let count : 1 ≡ count_of k t = length_of _ _ fit ∙ sym counts in
            let len : pc + length ca + 1 ≡ pc + length (ca ++ cb) = omega (arith, length-append ca cb) in
            comes_out (site k) (ap (λ q. next (Some q) env2 s) is)
            (complement_does (site k) (has_back (site k) pc ca cb has).0 (subst (Holds now (operand_slot c to)) one holds).0
            (moved (site k) len (go (Some (z ∷ [])) env2 s now now3 last2 (nv, fit) vars2 st2 (put_outside_is (count_of k t) dest to now3 now (subst (λ n. Outside dest n now3 now) count (put_outside dest z now))) (put_same now dest z, tt) same (λ q. absurd (cc))))));
      }

      on : (b : Bool) → is_long j ≡ b → CodedDoes k (mapped (operated_once unary.Complement j) m) t (if b then less_than_constant (spot k) t j (2 ^ 64 - 1) c else plain (spot k) t None c.keeps false (λ dest to. operand_code c to ++ here (spot k) (Complement dest (operand_slot c to))))
      on true l = less_does (2 ^ 64 - 1) (complement j) (long_small j l) (λ x lt. long_ones j x l lt)
      on false l = valued_does k c.keeps (λ dest to. operand_code c to ++ here (spot k) (Complement dest (operand_slot c to))) (short l)

-- ---- every operator on one value

pub unary_does : (k : Setting) {m : Task (Option (List ℕ))} {c : Coded} (t : Ty) (op : UnaryOp) → IsPromoted t → CodedDoes k m t c → CodedDoes k (mapped (operated_once op (kind_of t)) m) t (unary_coded (spot k) t op c)
unary_does k {m} {c} t op (j, (tj, pj)) h = on op
  where
    kind_is : kind_of t ≡ j
    kind_is = ap kind_of tj ∙ kind_of_integer j

    type_is : t ≡ ty.Integer (kind_of t)
    type_is = tj ∙ ap ty.Integer (sym kind_is)

    is_promoted : promoted (kind_of t) ≡ kind_of t
    is_promoted = subst (λ q. promoted q ≡ q) (sym kind_is) pj

    on : (op : UnaryOp) → CodedDoes k (mapped (operated_once op (kind_of t)) m) t (unary_coded (spot k) t op c)
    on unary.Plus = same_does k (equal_same k t (λ v. v) (not_void_integer t j tj) (λ v. refl)) h
    on unary.Minus = minus_does k t (kind_of t) is_promoted type_is h
    on unary.Complement = complement_of_does k t (kind_of t) is_promoted type_is h
