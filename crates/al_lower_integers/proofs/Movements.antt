-- A pointer that moves by a count that is found before it.
use Rattle.std.proofs.Common.{◌≡◌, ℕ, zero, suc, ◌+◌, ◌*◌, ◌%◌, ◌^◌, ◌<◌, List, [], ◌∷◌, ◌++◌, length, Option, Some, None, refl, sym, ap, ◌∙◌, subst, arith, length-append}
use Rattle.std.specs.Prelude.{Bool, true, false, ◌&&◌}
use Rattle.al_typed.specs.declared.ty.Ty.{Ty}
use Rattle.al_meaning.specs.Words.{bits_of, sum, stepped_by, integer_words}
use Rattle.al_meaning.specs.Shown.{kind_of}
use Rattle.al_meaning.specs.Tasks.{Still, Outcome, Env, Rest, Task}
use Rattle.al_meaning.specs.Told.{value, needed}
use Rattle.al_ir.specs.declared.ir.Operation.{Operation}
use Rattle.al_ir.specs.declared.op.Op.TheVariants.{Offset, Advance}
use Rattle.al_ir.specs.Control.{Slots, put}
use Rattle.al_lower_words.specs.Units.{AreOf}
use Rattle.al_lower_words.proofs.Integers.{one_word}
use Rattle.al_lower_code.specs.Homes.{here}
use Rattle.al_lower_code.specs.Operators.{step_bytes}
use Rattle.al_lower_code.specs.Coded.{Coded, operand_slot, operand_code, first_slot}
use Rattle.al_lower_code.specs.Values.{pair_code, count_first_coded}
use Rattle.al_lower_steps.specs.Slots.{Holds, Outside}
use Rattle.al_lower_steps.proofs.Slots.{put_same, put_outside}
use Rattle.al_lower_steps.proofs.Steps.{moved, comes_out, has_front, has_back}
use Rattle.al_lower_steps.proofs.Plain.{offset_does, advance_does}
use Rattle.al_lower_claims.proofs.Variables.{put_outside_is}
use Rattle.al_lower_claims.proofs.Claims.{Setting, scene, site, spot, Run, Has, HasVars, HasRoom, UnitsOf, count_of, IsWord, ValueDoes, CodedDoes}
use Rattle.al_lower_claims.proofs.Operands.{both_true, operand_does}
use Rattle.al_lower_claims.proofs.Plain.{valued_does}
use Rattle.al_lower_values.proofs.Pairs.{word_fits, two_mean, two_set}

stepped_small : (size a n : ℕ) → stepped_by false size a n < 2 ^ 32
stepped_small size a n = omega arith

stepped_is : (size a n : ℕ) → stepped_by false size a n ≡ sum a (step_bytes false size n)
stepped_is size a n = omega arith

module _ (k : Setting) {m o : Task (Option (List ℕ))} {t u v : Ty} {count pointer : Coded} (size : ℕ) (wt : IsWord k t) (wu : IsWord k u) (wv : IsWord k v) (words : (bits : ℕ) → count.known ≡ Some bits → integer_words (kind_of u) bits ≡ bits ∷ []) (hc : CodedDoes k m u count) (hp : CodedDoes k o v pointer) where
  -- the count is a constant
  constant_first : (n : ℕ) → count.known ≡ Some n → ValueDoes k (two_mean k wt wu wv hc hp (λ n a. stepped_by false size a n)) t (pointer.keeps && count.keeps) false (λ dest to. operand_code pointer to ++ here (spot k) (Offset dest (operand_slot pointer to) (step_bytes false size n)))
  constant_first n known = record {
    by = λ dest to pc slots last env s next d room vars has go.
        let ca = operand_code pointer to in
        let cb = here (spot k) (Offset dest (operand_slot pointer to) (step_bytes false size n)) in
        let constant = hc.known n known in
        let x = integer_words (kind_of u) n in
        let end : pc + length ca + 1 ≡ pc + length (ca ++ cb) = omega (arith, length-append ca cb) in
        comes_out (site k) (constant.means env s (λ p env s. needed p env s (λ x env s. value o env s (λ y env s. next (Some (stepped_by false size (bits_of y) (bits_of x) ∷ [])) env s))))
        (operand_does k hp wv.not_void to pc slots last env s (λ y env s. next (Some (stepped_by false size (bits_of y) (bits_of x) ∷ [])) env s) room vars (has_front (site k) pc ca cb has) (λ y env2 s now last2 fy vars2 st2 hy same.
        let one = one_word 0 y (subst (λ us. AreOf us y) wv.units fy) in
        let w = sum one.word (step_bytes false size n) in
        let is : stepped_by false size (bits_of y) (bits_of x) ≡ w = ap (λ q. stepped_by false size (bits_of q) (bits_of x)) one.is ∙ (ap (λ q. stepped_by false size one.word (bits_of q)) (words n known) ∙ stepped_is size one.word n) in
        let small : w < 2 ^ 32 = omega arith in
        comes_out (site k) (ap (λ q. next (Some (q ∷ [])) env2 s) is)
        (offset_does (site k) (has_back (site k) pc ca cb has).0 (subst (Holds now (operand_slot pointer to)) one.is hy).0
        (moved (site k) end (go (Some (w ∷ [])) env2 s now (put dest w now) last2 (wt.not_void, word_fits k t wt w small) vars2 st2 (put_outside_is (count_of k t) dest to (put dest w now) now (subst (λ n. Outside dest n (put dest w now) now) (sym wt.counts) (put_outside dest w now))) (put_same now dest w, tt) (λ e. same (both_true pointer.keeps count.keeps e).0) (λ e. absurd (cc)))))));
  }

  swaps : (a b : Bool) → (a && b) ≡ true → (b && a) ≡ true
  swaps true true e = refl
  swaps true false e = absurd (cc)
  swaps false b e = absurd (cc)

  both_found : ValueDoes k (two_mean k wt wu wv hc hp (λ n a. stepped_by false size a n)) t (pointer.keeps && count.keeps) false (λ dest to. pair_code 1 count pointer to ++ here (spot k) (Advance false size dest (operand_slot pointer (to + 1)) (first_slot count pointer to)))
  both_found =
      let h = two_set k wt wu wv hc hp (λ n a. stepped_by false size a n) (λ dest i j. Advance false size dest j i) (λ n a. stepped_small size a n) (λ o pc dest i j a b slots last s h x y r. advance_does (site k) h y x r) in
      record {
        by = λ dest to pc slots last env s next d room vars has go.
            h.by dest to pc slots last env s next d room vars has (λ o env2 s was now last2 g vars2 st2 put2 holds same truth.
            go o env2 s was now last2 g vars2 st2 put2 holds (λ e. same (swaps pointer.keeps count.keeps e)) truth);
      }

  pub count_first_does : CodedDoes k (two_mean k wt wu wv hc hp (λ n a. stepped_by false size a n)) t (count_first_coded (spot k) t size pointer count)
  count_first_does = valued_does k (pointer.keeps && count.keeps) _ (on count.known refl)
    where
      on : (c : Option ℕ) → count.known ≡ c → ValueDoes k (two_mean k wt wu wv hc hp (λ n a. stepped_by false size a n)) t (pointer.keeps && count.keeps) false (λ dest to. elim c [ Some n ↦ operand_code pointer to ++ here (spot k) (Offset dest (operand_slot pointer to) (step_bytes false size n)) | None ↦ pair_code 1 count pointer to ++ here (spot k) (Advance false size dest (operand_slot pointer (to + 1)) (first_slot count pointer to)) ])
      on (Some n) e = constant_first n e
      on None e = both_found
