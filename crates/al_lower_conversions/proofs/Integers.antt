-- Integers of every kind, made into those of another.
use Rattle.std.proofs.Common.{◌≡◌, ℕ, ◌+◌, ◌<◌, ◌≤◌, ◌^◌, List, [], ◌∷◌, ◌++◌, length, Option, Some, None, refl, sym, ap, ◌∙◌, subst, ◌⊎◌, inl, inr, arith, length-append}
use Rattle.std.specs.Prelude.{Bool, true, false, if◌then◌else◌}
use Rattle.al_base.specs.Arith.{width_of, integer_of, wrapped}
use Rattle.al_base.specs.declared.arith.Kind.{Kind}
use Rattle.al_base.specs.declared.arith.Kind.TheVariants as kind
use Rattle.al_typed.specs.declared.ty.Ty.{Ty, Integer}
use Rattle.al_typed.specs.declared.ty.Ty.TheViews.{out-Ty}
use denote.Hole.Carrier.{out}
use Rattle.al_typed.specs.Types.{is_scalar}
use Rattle.al_typed.specs.Layout.{unit_at}
use Rattle.al_meaning.specs.Words.{bits_of, integer_words, converted}
use Rattle.al_meaning.specs.Shown.{kind_of}
use Rattle.al_meaning.specs.Here.{units_in}
use Rattle.al_meaning.specs.Tasks.{Still, Env, Rest, Task}
use Rattle.al_ir.specs.declared.op.Op.TheVariants.{Convert}
use Rattle.al_ir.specs.Control.{put_all}
use Rattle.al_ir.specs.Step.{kind_words, converted_words}
use Rattle.al_lower_words.proofs.Integers.{length_of, units_of_kind, integer_not_void, integer_not_array, words_are}
use Rattle.al_lower_code.specs.Homes.{here}
use Rattle.al_lower_code.specs.Operators.{keeps_bits}
use Rattle.al_lower_code.specs.Coded.{Coded, plain, operand_slot, operand_code}
use Rattle.al_lower_code.specs.Values.{converted_coded}
use Rattle.al_lower_steps.specs.Slots.{Outside}
use Rattle.al_lower_steps.proofs.Slots.{put_all_outside, put_all_holds}
use Rattle.al_lower_steps.proofs.Steps.{moved, has_front, has_back}
use Rattle.al_lower_steps.proofs.Plain.{convert_does}
use Rattle.al_lower_claims.proofs.Variables.{put_outside_is}
use Rattle.al_lower_claims.proofs.Claims.{Setting, scene, site, spot, UnitsOf, count_of, IsTest, IsAddress, ValueDoes, CodedDoes}
use Rattle.al_lower_claims.proofs.Operands.{operand_does}
use Rattle.al_lower_claims.proofs.Plain.{valued_does}
use Rattle.al_lower_values.proofs.Binary.{kind_of_integer}
use Rattle.al_lower_integers.proofs.Constants.{integer_fits}
use Rattle.al_lower_conversions.proofs.Wrapping.{wrapped_within, wrapped_same, words_same, IsInteger, integer_value}
use Rattle.al_lower_conversions.proofs.Same.{mapped, Same, same_does}

integer_scalar : (j : Kind) → is_scalar (Integer j) ≡ true
unfolding is_scalar out-Ty out
integer_scalar j = refl

module _ (k : Setting) where
  pub integer_counts : (j : Kind) → count_of k (Integer j) ≡ length (units_in k.ways.program (Integer j))
  integer_counts j = words_are k.ways.program (Integer j) (integer_not_array j)

  -- an integer is a condition
  pub integer_test : (j : Kind) → IsTest k (Integer j)
  integer_test j = record { not_void = integer_not_void j; scalar = integer_scalar j; counts = integer_counts j; words = on j }
    where
      on : (j : Kind) → (units_in k.ways.program (Integer j) ≡ unit_at 0 4 ∷ []) ⊎ ((units_in k.ways.program (Integer j) ≡ unit_at 0 4 ∷ unit_at 4 4 ∷ []) ⊎ ((size : ℕ) × ((units_in k.ways.program (Integer j) ≡ unit_at 0 size ∷ []) × (size < 4))))
      on kind.Int = inl (units_of_kind k.ways.program kind.Int)
      on kind.Uint = inl (units_of_kind k.ways.program kind.Uint)
      on kind.Lint = inr (inl (units_of_kind k.ways.program kind.Lint))
      on kind.Ulint = inr (inl (units_of_kind k.ways.program kind.Ulint))
      on kind.Byte = inr (inr (1, (units_of_kind k.ways.program kind.Byte, omega arith)))
      on kind.Sint = inr (inr (2, (units_of_kind k.ways.program kind.Sint, omega arith)))
      on kind.Usint = inr (inr (2, (units_of_kind k.ways.program kind.Usint, omega arith)))

  -- one of at most 4 bytes may be an address
  pub integer_address : (j : Kind) → length (units_in k.ways.program (Integer j)) ≡ 1 → IsAddress k (Integer j)
  integer_address kind.Int e = record { not_void = integer_not_void kind.Int; scalar = integer_scalar kind.Int; size = 4; small = omega arith; units = units_of_kind k.ways.program kind.Int }
  integer_address kind.Uint e = record { not_void = integer_not_void kind.Uint; scalar = integer_scalar kind.Uint; size = 4; small = omega arith; units = units_of_kind k.ways.program kind.Uint }
  integer_address kind.Byte e = record { not_void = integer_not_void kind.Byte; scalar = integer_scalar kind.Byte; size = 1; small = omega arith; units = units_of_kind k.ways.program kind.Byte }
  integer_address kind.Sint e = record { not_void = integer_not_void kind.Sint; scalar = integer_scalar kind.Sint; size = 2; small = omega arith; units = units_of_kind k.ways.program kind.Sint }
  integer_address kind.Usint e = record { not_void = integer_not_void kind.Usint; scalar = integer_scalar kind.Usint; size = 2; small = omega arith; units = units_of_kind k.ways.program kind.Usint }
  integer_address kind.Lint e = let u = ap length (units_of_kind k.ways.program kind.Lint) in absurd (omega (arith, e, u))
  integer_address kind.Ulint e = let u = ap length (units_of_kind k.ways.program kind.Ulint) in absurd (omega (arith, e, u))

  -- an integer whose kind keeps its bits is that of the other kind
  pub integer_kept : (j i : Kind) (v : List ℕ) → keeps_bits j i ≡ true → UnitsOf k (Integer j) v → (converted k.ways.program.aggregates (Integer j) (Integer i) v ≡ v) × UnitsOf k (Integer i) v
  integer_kept j i v e h =
      let x : IsInteger j v = integer_value k j v h in
      let words : integer_words i (bits_of v) ≡ v = sym (words_same j i (bits_of v) e) ∙ sym x.is in
      let same : wrapped (width_of i) (integer_of j (bits_of v)) ≡ bits_of v = wrapped_same j i (bits_of v) e x.small in
      let fit : bits_of v < 2 ^ width_of i = subst (λ n. n < 2 ^ width_of i) same (wrapped_within (width_of i) (integer_of j (bits_of v))) in
      (ap (integer_words i) same ∙ words, subst (UnitsOf k (Integer i)) words (integer_fits k i (bits_of v) fit))

  some_width : (j : Kind) → 0 < 2 ^ width_of j
  some_width j = let lt = wrapped_within (width_of j) (integer_of j 0) in omega (arith, lt)

  pub same_length : (j i : Kind) → keeps_bits j i ≡ true → length (units_in k.ways.program (Integer j)) ≡ length (units_in k.ways.program (Integer i))
  same_length j i e = sym (length_of _ _ (integer_fits k j 0 (some_width j))) ∙ (ap length (words_same j i 0 e) ∙ length_of _ _ (integer_fits k i 0 (some_width i)))

  integers_same : (j i : Kind) → keeps_bits j i ≡ true → Same k (Integer j) (Integer i) (converted k.ways.program.aggregates (Integer j) (Integer i))
  integers_same j i e = record {
    not_void = integer_not_void j;
    not_void_either = integer_not_void i;
    count = integer_counts j ∙ (same_length j i e ∙ sym (integer_counts i));
    units = same_length j i e;
    same = λ v h. (integer_kept j i v e h).0;
    fits = λ v h. (integer_kept j i v e h).1;
    test = λ t. integer_test j;
    address = λ a. integer_address j (same_length j i e ∙ ap length a.units);
    number = λ bits h. ap (λ q. integer_words q bits) (kind_of_integer j) ∙ (words_same j i bits e ∙ sym (ap (λ q. integer_words q bits) (kind_of_integer i)));
  }

  pub words_of_kind : (j : Kind) → length (units_in k.ways.program (Integer j)) ≡ kind_words j
  words_of_kind kind.Byte = ap length (units_of_kind k.ways.program kind.Byte)
  words_of_kind kind.Sint = ap length (units_of_kind k.ways.program kind.Sint)
  words_of_kind kind.Usint = ap length (units_of_kind k.ways.program kind.Usint)
  words_of_kind kind.Int = ap length (units_of_kind k.ways.program kind.Int)
  words_of_kind kind.Uint = ap length (units_of_kind k.ways.program kind.Uint)
  words_of_kind kind.Lint = ap length (units_of_kind k.ways.program kind.Lint)
  words_of_kind kind.Ulint = ap length (units_of_kind k.ways.program kind.Ulint)

  pub converted_fits : (j i : Kind) (v : List ℕ) → UnitsOf k (Integer i) (converted_words j i v)
  converted_fits j i v = integer_fits k i (wrapped (width_of i) (integer_of j (bits_of v))) (wrapped_within (width_of i) (integer_of j (bits_of v)))

  integers_changed : {m : Task (Option (List ℕ))} {c : Coded} (j i : Kind) → CodedDoes k m (Integer j) c → ValueDoes k (mapped (converted k.ways.program.aggregates (Integer j) (Integer i)) m) (Integer i) c.keeps false (λ dest to. operand_code c to ++ here (spot k) (Convert j i dest (operand_slot c to)))
  integers_changed {m} {c} j i h = record {
    by = λ dest to pc slots last env s next d room vars has go.
        let ca = operand_code c to in
        let cb = here (spot k) (Convert j i dest (operand_slot c to)) in
        operand_does k h (integer_not_void j) to pc slots last env s (λ v env s. next (Some (converted_words j i v)) env s) room vars (has_front (site k) pc ca cb has) (λ v env2 s now last2 fits vars2 st2 holds same.
        let ws = converted_words j i v in
        let now3 = put_all dest ws now in
        let fit : UnitsOf k (Integer i) ws = converted_fits j i v in
        let count : length ws ≡ count_of k (Integer i) = length_of _ _ fit ∙ sym (integer_counts i) in
        let len : pc + length ca + 1 ≡ pc + length (ca ++ cb) = omega (arith, length-append ca cb) in
        convert_does (site k) v (has_back (site k) pc ca cb has).0 (length_of _ _ fits ∙ words_of_kind j) holds
        (moved (site k) len (go (Some ws) env2 s now now3 last2 (integer_not_void i, fit) vars2 st2 (put_outside_is (count_of k (Integer i)) dest to now3 now (subst (λ n. Outside dest n now3 now) count (put_all_outside ws dest now))) (put_all_holds ws dest now) same (λ e. absurd (cc)))));
  }

  pub integers_convert : {m : Task (Option (List ℕ))} {c : Coded} (j i : Kind) → CodedDoes k m (Integer j) c → CodedDoes k (mapped (converted k.ways.program.aggregates (Integer j) (Integer i)) m) (Integer i) (converted_coded (spot k) (Integer j) (Integer i) c)
  integers_convert {m} {c} j i h = on (keeps_bits j i) refl
    where
      changes : Coded
      changes = plain (spot k) (Integer i) None c.keeps false (λ dest to. operand_code c to ++ here (spot k) (Convert j i dest (operand_slot c to)))

      on : (b : Bool) → keeps_bits j i ≡ b → CodedDoes k (mapped (converted k.ways.program.aggregates (Integer j) (Integer i)) m) (Integer i) (if b then c else changes)
      on true e = same_does k (integers_same j i e) h
      on false e = valued_does k c.keeps (λ dest to. operand_code c to ++ here (spot k) (Convert j i dest (operand_slot c to))) (integers_changed j i h)
