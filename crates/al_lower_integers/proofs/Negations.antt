-- `!`
use Rattle.std.proofs.Common.{◌≡◌, ℕ, zero, suc, ◌+◌, ◌<◌, ◌≤◌, ◌^◌, List, [], ◌∷◌, ◌++◌, length, Option, Some, None, refl, sym, ap, ◌∙◌, subst, le_refl, ◌⊎◌, inl, inr, arith, length-append}
use Rattle.std.specs.Prelude.{Bool, true, false, ◌==◌, not, if◌then◌else◌}
use Rattle.al_typed.specs.declared.ty.Ty.{Ty}
use Rattle.al_meaning.specs.Words.{is_zero, truth}
use Rattle.al_meaning.specs.Here.{units_in}
use Rattle.al_meaning.specs.Tasks.{Still, Outcome, Env, Rest, Task}
use Rattle.al_meaning.specs.Told.{value, needed}
use Rattle.al_ir.specs.declared.ir.Operation.{Operation}
use Rattle.al_ir.specs.declared.op.Op.TheVariants.{IsZero, IsLongSet, SkipIfSet}
use Rattle.al_ir.specs.Control.{Slots, put}
use Rattle.al_ir.specs.Step.{pair, one_if, zero_if}
use Rattle.al_lower_code.specs.Homes.{operation, here}
use Rattle.al_lower_code.specs.Operators.{negation_code, skip_if_set}
use Rattle.al_lower_code.specs.Coded.{Coded, operand_slot, operand_code, plain}
use Rattle.al_lower_code.specs.Values.{negation_coded}
use Rattle.al_lower_steps.specs.Slots.{Holds, Below, Outside}
use Rattle.al_lower_steps.proofs.Slots.{put_same, put_below, below_refl, put_outside}
use Rattle.al_lower_steps.proofs.Steps.{moved, comes_out, has_front, has_back}
use Rattle.al_lower_steps.proofs.Plain.{is_zero_does, is_long_set_does}
use Rattle.al_lower_steps.proofs.Jumps.{skip_if_set_does}
use Rattle.al_lower_claims.proofs.Variables.{Stays, stays_both, stays_below, vars_kept, Put}
use Rattle.al_lower_claims.proofs.Claims.{Setting, scene, site, spot, Run, Has, HasVars, HasRoom, UnitsOf, count_of, IsTest, IsWord, GoesOn, ValueDoes, UnlessDoes, CodedDoes}
use Rattle.al_lower_claims.proofs.Operands.{operand_does}
use Rattle.al_lower_claims.proofs.Plain.{test_words, one_of, two_of, plain_does}
use Rattle.al_lower_values.proofs.Logic.{truth_fits}

one_truth : (b : Bool) → truth b ≡ one_if b ∷ []
one_truth true = refl
one_truth false = refl

zero_one : (b : Bool) → one_if (zero_if b == 0) ≡ one_if b
zero_one true = refl
zero_one false = refl

zero_zero : (b : Bool) → (zero_if b == 0) ≡ b
zero_zero true = refl
zero_zero false = refl

truth_zero : (b : Bool) → is_zero (truth b) ≡ not b
truth_zero true = refl
truth_zero false = refl

if_not : (b : Bool) (x y : ℕ) → (if not b then x else y) ≡ (if b then y else x)
if_not true x y = refl
if_not false x y = refl

module _ (k : Setting) where
  -- 1 where a value that stands in slots is 0
  negates : (v : List ℕ) (n slot dest to pc : ℕ) (slots last : Slots) (s : Still) (o : Outcome) → n ≡ length v → (length v ≡ 1) ⊎ (length v ≡ 2) → Holds slots slot v → Has k pc (negation_code (spot k) n dest slot to) → ((now : Slots) → Put 1 dest to now slots → Holds now dest (truth (is_zero v)) → Run k o (pc + length (negation_code (spot k) n dest slot to)) now last s) → Run k o pc slots last s
  negates v n slot dest to pc slots last s o en (inl one) holds has go =
      let w = one_of 0 4 v one in
      by (n == 2) (let q : n ≡ 1 = en ∙ one in ap (λ m. m == 2) q) w.0 (subst (Holds slots slot) w.1 holds).0 (ap is_zero w.1) has go
    where
      by : (b : Bool) → b ≡ false → (w : ℕ) → slots slot ≡ Some w → is_zero v ≡ (w == 0) → Has k pc (if b then operation k.ways.line (IsLongSet to slot) ∷ operation k.ways.line (IsZero dest to) ∷ [] else here (spot k) (IsZero dest slot)) → ((now : Slots) → Put 1 dest to now slots → Holds now dest (truth (is_zero v)) → Run k o (pc + length (if b then operation k.ways.line (IsLongSet to slot) ∷ operation k.ways.line (IsZero dest to) ∷ [] else here (spot k) (IsZero dest slot))) now last s) → Run k o pc slots last s
      by true e w h z has go = absurd (cc)
      by false e w h z has go =
          let x = one_if (w == 0) in
          let is : truth (is_zero v) ≡ x ∷ [] = ap truth z ∙ one_truth (w == 0) in
          is_zero_does (site k) has.0 h (go (put dest x slots) (λ i lt a. put_outside dest x slots i a) (subst (Holds (put dest x slots) dest) (sym is) (put_same slots dest x, tt)))
  negates v n slot dest to pc slots last s o en (inr two) holds has go =
      let w = two_of v two in
      by (n == 2) (let q : n ≡ 2 = en ∙ two in ap (λ m. m == 2) q) w.0 w.1.0 (subst (Holds slots slot) w.1.1 holds) (ap is_zero w.1.1) has go
    where
      by : (b : Bool) → b ≡ true → (low high : ℕ) → Holds slots slot (low ∷ high ∷ []) → is_zero v ≡ (pair low high == 0) → Has k pc (if b then operation k.ways.line (IsLongSet to slot) ∷ operation k.ways.line (IsZero dest to) ∷ [] else here (spot k) (IsZero dest slot)) → ((now : Slots) → Put 1 dest to now slots → Holds now dest (truth (is_zero v)) → Run k o (pc + length (if b then operation k.ways.line (IsLongSet to slot) ∷ operation k.ways.line (IsZero dest to) ∷ [] else here (spot k) (IsZero dest slot))) now last s) → Run k o pc slots last s
      by false e low high h z has go = absurd (cc)
      by true e low high h z has go =
          let y = zero_if (pair low high == 0) in
          let x = one_if (y == 0) in
          let mid : Slots = put to y slots in
          let is : truth (is_zero v) ≡ x ∷ [] = ap truth z ∙ (one_truth (pair low high == 0) ∙ ap (λ q. q ∷ []) (sym (zero_one (pair low high == 0)))) in
          let c : pc + 1 + 1 ≡ pc + 2 = omega arith in
          is_long_set_does (site k) has.0 h (is_zero_does (site k) has.1.0 (put_same slots to y) (moved (site k) c (go (put dest x mid) (λ i lt a. put_outside dest x mid i a ∙ put_outside to y slots i (inl lt)) (subst (Holds (put dest x mid) dest) (sym is) (put_same mid dest x, tt)))))

  -- a jump where it is not 0
  jumps_if_set : (v : List ℕ) (n slot to count pc : ℕ) (slots last : Slots) (s : Still) (o : Outcome) → n ≡ length v → (length v ≡ 1) ⊎ (length v ≡ 2) → Holds slots slot v → Has k pc (skip_if_set (spot k) n slot to count) → ((now : Slots) → Below to now slots → Run k o (if is_zero v then pc + length (skip_if_set (spot k) n slot to count) else pc + length (skip_if_set (spot k) n slot to count) + count) now last s) → Run k o pc slots last s
  jumps_if_set v n slot to count pc slots last s o en (inl one) holds has go =
      let w = one_of 0 4 v one in
      by (n == 2) (let q : n ≡ 1 = en ∙ one in ap (λ m. m == 2) q) w.0 (subst (Holds slots slot) w.1 holds).0 (ap is_zero w.1) has go
    where
      by : (b : Bool) → b ≡ false → (w : ℕ) → slots slot ≡ Some w → is_zero v ≡ (w == 0) → Has k pc (if b then operation k.ways.line (IsLongSet to slot) ∷ operation k.ways.line (SkipIfSet to count) ∷ [] else here (spot k) (SkipIfSet slot count)) → ((now : Slots) → Below to now slots → Run k o (if is_zero v then pc + length (if b then operation k.ways.line (IsLongSet to slot) ∷ operation k.ways.line (SkipIfSet to count) ∷ [] else here (spot k) (SkipIfSet slot count)) else pc + length (if b then operation k.ways.line (IsLongSet to slot) ∷ operation k.ways.line (SkipIfSet to count) ∷ [] else here (spot k) (SkipIfSet slot count)) + count) now last s) → Run k o pc slots last s
      by true e w h z has go = absurd (cc)
      by false e w h z has go =
          skip_if_set_does (site k) (λ b. o) has.0 h
          (λ q. moved (site k) (sym (ap (λ b. if b then pc + 1 else pc + 1 + count) (z ∙ q))) (go slots (below_refl to slots)))
          (λ q. moved (site k) (sym (ap (λ b. if b then pc + 1 else pc + 1 + count) (z ∙ q))) (go slots (below_refl to slots)))
  jumps_if_set v n slot to count pc slots last s o en (inr two) holds has go =
      let w = two_of v two in
      by (n == 2) (let q : n ≡ 2 = en ∙ two in ap (λ m. m == 2) q) w.0 w.1.0 (subst (Holds slots slot) w.1.1 holds) (ap is_zero w.1.1) has go
    where
      by : (b : Bool) → b ≡ true → (low high : ℕ) → Holds slots slot (low ∷ high ∷ []) → is_zero v ≡ (pair low high == 0) → Has k pc (if b then operation k.ways.line (IsLongSet to slot) ∷ operation k.ways.line (SkipIfSet to count) ∷ [] else here (spot k) (SkipIfSet slot count)) → ((now : Slots) → Below to now slots → Run k o (if is_zero v then pc + length (if b then operation k.ways.line (IsLongSet to slot) ∷ operation k.ways.line (SkipIfSet to count) ∷ [] else here (spot k) (SkipIfSet slot count)) else pc + length (if b then operation k.ways.line (IsLongSet to slot) ∷ operation k.ways.line (SkipIfSet to count) ∷ [] else here (spot k) (SkipIfSet slot count)) + count) now last s) → Run k o pc slots last s
      by false e low high h z has go = absurd (cc)
      by true e low high h z has go =
          let y = zero_if (pair low high == 0) in
          let mid : Slots = put to y slots in
          let below : Below to mid slots = put_below slots slots to y to (le_refl to) (below_refl to slots) in
          let z2 : is_zero v ≡ (y == 0) = z ∙ sym (zero_zero (pair low high == 0)) in
          let c : pc + 1 + 1 ≡ pc + 2 = omega arith in
          is_long_set_does (site k) has.0 h (skip_if_set_does (site k) (λ b. o) has.1.0 (put_same slots to y)
          (λ q. moved (site k) (c ∙ sym (ap (λ b. if b then pc + 2 else pc + 2 + count) (z2 ∙ q))) (go mid below))
          (λ q. moved (site k) (ap (λ n. n + count) c ∙ sym (ap (λ b. if b then pc + 2 else pc + 2 + count) (z2 ∙ q))) (go mid below)))

  abbrev pub negation_means : Task (Option (List ℕ)) → Task (Option (List ℕ))
  negation_means m env s next = value m env s (λ a env s. next (Some (truth (is_zero a))) env s)

  pub negation_does : {m : Task (Option (List ℕ))} {u : Ty} {c : Coded} (t : Ty) → IsWord k t → IsTest k u → CodedDoes k m u c → CodedDoes k (negation_means m) t (negation_coded (spot k) t (count_of k u) c)
  negation_does {m} {u} {c} t word test h =
      let values : ValueDoes k (negation_means m) t c.keeps true (λ dest to. operand_code c to ++ negation_code (spot k) (count_of k u) dest (operand_slot c to) to) = record {
        by = λ dest to pc slots last env s next d room vars has go.
            let ca = operand_code c to in
            let cb = negation_code (spot k) (count_of k u) dest (operand_slot c to) to in
            operand_does k h test.not_void to pc slots last env s (λ a env s. next (Some (truth (is_zero a))) env s) room vars (has_front (site k) pc ca cb has) (λ v env2 s now last2 fits vars2 st2 holds same.
            let q = test_words k u v test fits in
            negates v (count_of k u) (operand_slot c to) dest to (pc + length ca) now last2 s _ q.0 q.1 holds (has_back (site k) pc ca cb has) (λ now3 put3 holds3.
            let len : pc + length ca + length cb ≡ pc + length (ca ++ cb) = omega (arith, length-append ca cb) in
            moved (site k) len (go (Some (truth (is_zero v))) env2 s now now3 last2 (word.not_void, truth_fits k t word (is_zero v)) vars2 st2 (subst (λ n. Put n dest to now3 now) (sym word.counts) put3) holds3 same (λ e. (is_zero v, refl)))));
      } in
      let p = plain_does k None c.keeps true (λ dest to. operand_code c to ++ negation_code (spot k) (count_of k u) dest (operand_slot c to) to) values (λ slot e. absurd (cc)) in
      record {
        value = values;
        effect = p.effect;
        unless = λ t_test. record {
          by = λ to count pc slots last env s next room vars has go.
              let ca = operand_code c to in
              let cb = skip_if_set (spot k) (count_of k u) (operand_slot c to) to count in
              operand_does k h test.not_void to pc slots last env s (λ a env s. next (truth (is_zero a)) env s) room vars (has_front (site k) pc ca cb has) (λ v env2 s now last2 fits vars2 st2 holds same.
              let q = test_words k u v test fits in
              jumps_if_set v (count_of k u) (operand_slot c to) to count (pc + length ca) now last2 s _ q.0 q.1 holds (has_back (site k) pc ca cb has) (λ now3 below3.
              let len : pc + length ca + length cb ≡ pc + length (ca ++ cb) = omega (arith, length-append ca cb) in
              let end : (if is_zero v then pc + length ca + length cb else pc + length ca + length cb + count) ≡ (if is_zero (truth (is_zero v)) then pc + length (ca ++ cb) + count else pc + length (ca ++ cb)) =
              ap (λ n. if is_zero v then n else n + count) len ∙ (sym (if_not (is_zero v) (pc + length (ca ++ cb) + count) (pc + length (ca ++ cb))) ∙ ap (λ b. if b then pc + length (ca ++ cb) + count else pc + length (ca ++ cb)) (sym (truth_zero (is_zero v)))) in
              moved (site k) end (go (truth (is_zero v)) env2 s now3 last2 (truth_fits k t word (is_zero v)) (vars_kept (scene k) env2 to now3 now room below3 vars2) (stays_both (scene k) to to now3 now slots (le_refl to) (stays_below (scene k) to now3 now below3) st2) same)));
        };
        pointer = p.pointer;
        stored = p.stored;
        known = p.known;
        stands = p.stands;
      }
