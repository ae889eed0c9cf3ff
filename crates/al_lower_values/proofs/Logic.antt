-- Negations, and values that are 0 or 1.
use Rattle.std.proofs.Common.{◌≡◌, ℕ, ◌+◌, List, [], ◌∷◌, ◌++◌, length, Option, Some, None, refl, sym, ap, ◌∙◌, subst, ◌⊎◌, inl, inr, arith, length-append}
use Rattle.std.specs.Prelude.{Bool, true, false, ◌==◌, ◌&&◌, not, if◌then◌else◌}
use Rattle.al_typed.specs.declared.ty.Ty.{Ty}
use Rattle.al_typed.specs.Types.{is_void}
use Rattle.al_meaning.specs.Words.{is_zero, truth}
use Rattle.al_meaning.specs.Tasks.{Still, Outcome, Env, Rest, Task}
use Rattle.al_meaning.specs.Told.{value, needed, logical_by}
use Rattle.al_ir.specs.declared.op.Op.TheVariants.{Constant, IsZero, IsLongSet, Skip}
use Rattle.al_ir.specs.Control.{Slots, put}
use Rattle.al_ir.specs.Step.{pair, one_if, zero_if}
use Rattle.al_lower_words.specs.Units.{AreOf}
use Rattle.al_lower_words.proofs.Integers.{one_fits}
use Rattle.al_lower_code.specs.Homes.{operation, here}
use Rattle.al_lower_code.specs.Operators.{truth_code}
use Rattle.al_lower_code.specs.Coded.{Coded, operand_slot, operand_code}
use Rattle.al_lower_code.specs.Values.{truth_of, and_coded, or_coded}
use Rattle.al_lower_steps.specs.Slots.{Holds, Outside}
use Rattle.al_lower_steps.proofs.Slots.{put_same, put_outside, outside_both}
use Rattle.al_lower_steps.proofs.Steps.{moved, comes_out, has_front, has_back}
use Rattle.al_lower_steps.proofs.Plain.{constant_does, is_zero_does, is_long_set_does}
use Rattle.al_lower_steps.proofs.Jumps.{skip_does}
use Rattle.al_lower_claims.proofs.Variables.{Stays, stays_both, Dest, Put, put_outside_is}
use Rattle.al_lower_claims.proofs.Claims.{Setting, scene, site, spot, Run, Has, HasVars, HasRoom, UnitsOf, count_of, IsTest, IsWord, GoesOn, ValueDoes, UnlessDoes, CodedDoes}
use Rattle.al_lower_claims.proofs.Operands.{both_true, operand_does}
use Rattle.al_lower_claims.proofs.Plain.{test_words, one_of, two_of, plain_does}

twice : (b : Bool) → truth (not b) ≡ one_if (one_if b == 0) ∷ []
twice true = refl
twice false = refl

long_truth : (b : Bool) → truth (not b) ≡ zero_if b ∷ []
long_truth true = refl
long_truth false = refl

truth_again : (b : Bool) → truth (not (is_zero (truth b))) ≡ truth b
truth_again true = refl
truth_again false = refl

if_so : (b : Bool) (x y : ℕ) → b ≡ true → (if b then x else y) ≡ x
if_so true x y e = refl
if_so false x y e = absurd (cc)

if_not : (b : Bool) (x y : ℕ) → b ≡ false → (if b then x else y) ≡ y
if_not true x y e = absurd (cc)
if_not false x y e = refl

by_case : {A : Type 0} (b : Bool) → (b ≡ true → A) → (b ≡ false → A) → A
by_case true f g = f refl
by_case false f g = g refl

true_is_not : (b : Bool) → b ≡ true → b ≡ false → ⊥
true_is_not true h k = cc
true_is_not false h k = cc

abbrev chosen : Bool → Task (Option (List ℕ)) → Task (Option (List ℕ)) → Task (Option (List ℕ))
chosen b x y = if b then x else y

module _ (k : Setting) where
  pub truth_fits : (t : Ty) → IsWord k t → (b : Bool) → UnitsOf k t (truth b)
  truth_fits t word true = subst (λ us. AreOf us (1 ∷ [])) (sym word.units) (one_fits 0 1 (omega arith))
  truth_fits t word false = subst (λ us. AreOf us (0 ∷ [])) (sym word.units) (one_fits 0 0 (omega arith))

  -- 1 where a value that stands in slots is not 0
  truths_do : (v : List ℕ) (n slot dest pc : ℕ) (slots last : Slots) (s : Still) (o : Outcome) → n ≡ length v → (length v ≡ 1) ⊎ (length v ≡ 2) → Holds slots slot v → Has k pc (truth_code (spot k) n dest slot) → ((now : Slots) → Outside dest 1 now slots → Holds now dest (truth (not (is_zero v))) → Run k o (pc + length (truth_code (spot k) n dest slot)) now last s) → Run k o pc slots last s
  truths_do v n slot dest pc slots last s o en (inl one) holds has go =
      let w = one_of 0 4 v one in
      by (n == 2) (let q : n ≡ 1 = en ∙ one in ap (λ m. m == 2) q) w.0 (subst (Holds slots slot) w.1 holds).0 (ap is_zero w.1) has go
    where
      by : (b : Bool) → b ≡ false → (w : ℕ) → slots slot ≡ Some w → is_zero v ≡ (w == 0) → Has k pc (if b then here (spot k) (IsLongSet dest slot) else operation k.ways.line (IsZero dest slot) ∷ operation k.ways.line (IsZero dest dest) ∷ []) → ((now : Slots) → Outside dest 1 now slots → Holds now dest (truth (not (is_zero v))) → Run k o (pc + length (if b then here (spot k) (IsLongSet dest slot) else operation k.ways.line (IsZero dest slot) ∷ operation k.ways.line (IsZero dest dest) ∷ [])) now last s) → Run k o pc slots last s
      by true e w h z has go = absurd (cc)
      by false e w h z has go =
          let first = one_if (w == 0) in
          let now1 : Slots = put dest first slots in
          let now2 : Slots = put dest (one_if (first == 0)) now1 in
          let is : truth (not (is_zero v)) ≡ one_if (first == 0) ∷ [] = ap (λ b. truth (not b)) z ∙ twice (w == 0) in
          let c : pc + 1 + 1 ≡ pc + 2 = omega arith in
          is_zero_does (site k) has.0 h (is_zero_does (site k) has.1.0 (put_same slots dest first) (moved (site k) c (go now2 (outside_both dest 1 now2 now1 slots (put_outside dest (one_if (first == 0)) now1) (put_outside dest first slots)) (subst (Holds now2 dest) (sym is) (put_same now1 dest (one_if (first == 0)), tt)))))
  truths_do v n slot dest pc slots last s o en (inr two) holds has go =
      let w = two_of v two in
      by (n == 2) (let q : n ≡ 2 = en ∙ two in ap (λ m. m == 2) q) w.0 w.1.0 (subst (Holds slots slot) w.1.1 holds) (ap is_zero w.1.1) has go
    where
      by : (b : Bool) → b ≡ true → (low high : ℕ) → Holds slots slot (low ∷ high ∷ []) → is_zero v ≡ (pair low high == 0) → Has k pc (if b then here (spot k) (IsLongSet dest slot) else operation k.ways.line (IsZero dest slot) ∷ operation k.ways.line (IsZero dest dest) ∷ []) → ((now : Slots) → Outside dest 1 now slots → Holds now dest (truth (not (is_zero v))) → Run k o (pc + length (if b then here (spot k) (IsLongSet dest slot) else operation k.ways.line (IsZero dest slot) ∷ operation k.ways.line (IsZero dest dest) ∷ [])) now last s) → Run k o pc slots last s
      by false e low high h z has go = absurd (cc)
      by true e low high h z has go =
          let w = zero_if (pair low high == 0) in
          let is : truth (not (is_zero v)) ≡ w ∷ [] = ap (λ b. truth (not b)) z ∙ long_truth (pair low high == 0) in
          is_long_set_does (site k) has.0 h (go (put dest w slots) (put_outside dest w slots) (subst (Holds (put dest w slots) dest) (sym is) (put_same slots dest w, tt)))

  -- ---- a value as 0 or 1

  abbrev pub truth_means : Task (Option (List ℕ)) → Task (Option (List ℕ))
  truth_means m env s next = value m env s (λ b env s. next (Some (truth (not (is_zero b)))) env s)

  module _ {m : Task (Option (List ℕ))} {t u : Ty} {c : Coded} (word : IsWord k t) (test : IsTest k u) (one : c.is_truth ≡ true → count_of k u ≡ 1) (h : CodedDoes k m u c) where
    pub truth_does : ValueDoes k (truth_means m) t c.keeps true (truth_of (spot k) (count_of k u) c)
    truth_does = record { by = λ dest to pc slots last env s next d room vars has go. on c.is_truth refl dest to pc slots last env s next d room vars has go }
      where
        on : (b : Bool) → c.is_truth ≡ b → (dest to pc : ℕ) (slots last : Slots) (env : Env) (s : Still) (next : Option (List ℕ) → Rest) → Dest (scene k) (count_of k t) dest to → HasRoom k to → HasVars k env slots → Has k pc (if b then c.value dest to else operand_code c to ++ truth_code (spot k) (count_of k u) dest (operand_slot c to)) → GoesOn k t c.keeps true env slots next dest to (pc + length (if b then c.value dest to else operand_code c to ++ truth_code (spot k) (count_of k u) dest (operand_slot c to))) → Run k (truth_means m env s next) pc slots last s
        on true is dest to pc slots last env s next d room vars has go =
            let same_count : count_of k t ≡ count_of k u = word.counts ∙ sym (one is) in
            h.value.by dest to pc slots last env s (λ o env s. needed o env s (λ b env s. next (Some (truth (not (is_zero b)))) env s)) (subst (λ n. Dest (scene k) n dest to) same_count d) room vars has gave
          where
            gave : GoesOn k u c.keeps c.is_truth env slots (λ o env s. needed o env s (λ b env s. next (Some (truth (not (is_zero b)))) env s)) dest to (pc + length (c.value dest to))
            gave None env2 s was now last2 g vars2 st2 put2 holds same truly = absurd (true_is_not (is_void u) g test.not_void)
            gave (Some v) env2 s was now last2 g vars2 st2 put2 holds same truly =
                let b = truly is in
                let again : truth (not (is_zero v)) ≡ v = ap (λ v. truth (not (is_zero v))) b.1 ∙ (truth_again b.0 ∙ sym b.1) in
                comes_out (site k) (ap (λ z. next (Some z) env2 s) again) (go (Some v) env2 s was now last2 (word.not_void, subst (UnitsOf k t) (sym b.1) (truth_fits t word b.0)) vars2 st2 (subst (λ n. Put n dest to now was) (sym (word.counts ∙ sym (one is))) put2) holds same (λ e. b))
        on false is dest to pc slots last env s next d room vars has go =
            let ca = operand_code c to in
            let cb = truth_code (spot k) (count_of k u) dest (operand_slot c to) in
            operand_does k h test.not_void to pc slots last env s (λ b env s. next (Some (truth (not (is_zero b)))) env s) room vars (has_front (site k) pc ca cb has) (λ v env2 s now last2 fits vars2 st2 holds same.
            let q = test_words k u v test fits in
            truths_do v (count_of k u) (operand_slot c to) dest (pc + length ca) now last2 s _ q.0 q.1 holds (has_back (site k) pc ca cb has) (λ now3 out holds3.
            let len : pc + length ca + length cb ≡ pc + length (ca ++ cb) = omega (arith, length-append ca cb) in
            moved (site k) len (go (Some (truth (not (is_zero v)))) env2 s now now3 last2 (word.not_void, truth_fits t word (not (is_zero v))) vars2 st2 (put_outside_is (count_of k t) dest to now3 now (subst (λ n. Outside dest n now3 now) (sym word.counts) out)) holds3 same (λ e. (not (is_zero v), refl)))))

  -- ---- `&&`

  module _ {m o : Task (Option (List ℕ))} {t u v : Ty} {left right : Coded} (word : IsWord k t) (test_left : IsTest k u) (test_right : IsTest k v) (one : right.is_truth ≡ true → count_of k v ≡ 1) (hl : CodedDoes k m u left) (hr : CodedDoes k o v right) where
    abbrev pub logical_means : Bool → Task (Option (List ℕ))
    logical_means is_and env s next = value m env s (λ a env s. logical_by k.ways is_and a (value o) env s next)

    -- 0 or 1 where it is wanted
    constant_goes : (b : Bool) (dest to end : ℕ) (slots now last : Slots) (env env2 : Env) (s : Still) (next : Option (List ℕ) → Rest) (w : ℕ) → truth b ≡ w ∷ [] → HasVars k env2 now → Stays (scene k) to now slots → ((left.keeps && right.keeps) ≡ true → env2 ≡ env) → GoesOn k t (left.keeps && right.keeps) true env slots next dest to end → Run k (next (Some (truth b)) env2 s) end (put dest w now) last s
    constant_goes b dest to end slots now last env env2 s next w is vars st same go =
        go (Some (truth b)) env2 s now (put dest w now) last (word.not_void, truth_fits t word b) vars st (put_outside_is (count_of k t) dest to (put dest w now) now (subst (λ n. Outside dest n (put dest w now) now) (sym word.counts) (put_outside dest w now))) (subst (Holds (put dest w now) dest) (sym is) (put_same now dest w, tt)) same (λ e. (b, refl))

    and_values : ValueDoes k (logical_means true) t (left.keeps && right.keeps) true (λ dest to. left.unless to (length (truth_of (spot k) (count_of k v) right dest to) + 1) ++ (truth_of (spot k) (count_of k v) right dest to ++ operation k.ways.line (Skip 1) ∷ operation k.ways.line (Constant dest 0) ∷ []))
    and_values = record {
      by = λ dest to pc slots last env s next d room vars has go.
          let cb = truth_of (spot k) (count_of k v) right dest to in
          let ca = left.unless to (length cb + 1) in
          let cc2 = operation k.ways.line (Skip 1) ∷ operation k.ways.line (Constant dest 0) ∷ [] in
          let back = has_back (site k) pc ca (cb ++ cc2) has in
          let tail = has_back (site k) (pc + length ca) cb cc2 back in
          let end : pc + length ca + length cb + 1 + 1 ≡ pc + length (ca ++ (cb ++ cc2)) = omega (arith, length-append ca (cb ++ cc2), length-append cb cc2) in
          (hl.unless test_left).by to (length cb + 1) pc slots last env s (λ a env s. logical_by k.ways true a (value o) env s next) room vars (has_front (site k) pc ca (cb ++ cc2) has) (λ x env2 s now last2 fits vars2 st2 same.
          by_case (is_zero x)
          (λ e. let at : (if is_zero x then pc + length ca + (length cb + 1) else pc + length ca) ≡ pc + length ca + length cb + 1 = if_so (is_zero x) _ _ e ∙ (let q : pc + length ca + (length cb + 1) ≡ pc + length ca + length cb + 1 = omega arith in q) in
          moved (site k) at (comes_out (site k) (ap (λ b. chosen b (λ env s next. next (Some (truth false)) env s) (λ env s next. value o env s (λ b env s. next (Some (truth (not (is_zero b)))) env s)) env2 s next) e)
          (constant_does (site k) tail.1.0 (moved (site k) end (constant_goes false dest to (pc + length (ca ++ (cb ++ cc2))) slots now last2 env env2 s next 0 refl vars2 st2 (λ e. same (both_true left.keeps right.keeps e).0) go)))))
          (λ e. let at = if_not (is_zero x) (pc + length ca + (length cb + 1)) (pc + length ca) e in
          moved (site k) at (comes_out (site k) (ap (λ b. chosen b (λ env s next. next (Some (truth false)) env s) (λ env s next. value o env s (λ b env s. next (Some (truth (not (is_zero b)))) env s)) env2 s next) e)
          ((truth_does word test_right one hr).by dest to (pc + length ca) now last2 env2 s next d room vars2 (has_front (site k) (pc + length ca) cb cc2 back) (λ p env3 s was now3 last3 g vars3 st3 put3 holds3 same3 truly.
          skip_does (site k) tail.0 (moved (site k) end (go p env3 s was now3 last3 g vars3 (stays_both (scene k) to to was now slots (omega arith) st3 st2) put3 holds3 (λ e. let b = both_true left.keeps right.keeps e in same3 b.1 ∙ same b.0) truly)))))));
    }

    zero_again : (b : Bool) → is_zero (truth (not b)) ≡ b
    zero_again true = refl
    zero_again false = refl

    or_values : ValueDoes k (logical_means false) t (left.keeps && right.keeps) true (λ dest to. left.unless to 2 ++ operation k.ways.line (Constant dest 1) ∷ operation k.ways.line (Skip (length (truth_of (spot k) (count_of k v) right dest to))) ∷ truth_of (spot k) (count_of k v) right dest to)
    or_values = record {
      by = λ dest to pc slots last env s next d room vars has go.
          let cb = truth_of (spot k) (count_of k v) right dest to in
          let ca = left.unless to 2 in
          let cc2 = operation k.ways.line (Constant dest 1) ∷ operation k.ways.line (Skip (length cb)) ∷ cb in
          let tail = has_back (site k) pc ca cc2 has in
          let end : pc + length ca + 1 + 1 + length cb ≡ pc + length (ca ++ cc2) = omega (arith, length-append ca cc2) in
          (hl.unless test_left).by to 2 pc slots last env s (λ a env s. logical_by k.ways false a (value o) env s next) room vars (has_front (site k) pc ca cc2 has) (λ x env2 s now last2 fits vars2 st2 same.
          by_case (is_zero x)
          (λ e. let at : (if is_zero x then pc + length ca + 2 else pc + length ca) ≡ pc + length ca + 1 + 1 = if_so (is_zero x) _ _ e ∙ (let q : pc + length ca + 2 ≡ pc + length ca + 1 + 1 = omega arith in q) in
          moved (site k) at (comes_out (site k) (ap (λ b. chosen b (λ env s next. value o env s (λ b env s. next (Some (truth (not (is_zero b)))) env s)) (λ env s next. next (Some (truth true)) env s) env2 s next) e)
          ((truth_does word test_right one hr).by dest to (pc + length ca + 1 + 1) now last2 env2 s next d room vars2 tail.1.1 (λ p env3 s was now3 last3 g vars3 st3 put3 holds3 same3 truly.
          moved (site k) end (go p env3 s was now3 last3 g vars3 (stays_both (scene k) to to was now slots (omega arith) st3 st2) put3 holds3 (λ e. let b = both_true left.keeps right.keeps e in same3 b.1 ∙ same b.0) truly)))))
          (λ e. let at = if_not (is_zero x) (pc + length ca + 2) (pc + length ca) e in
          moved (site k) at (comes_out (site k) (ap (λ b. chosen b (λ env s next. value o env s (λ b env s. next (Some (truth (not (is_zero b)))) env s)) (λ env s next. next (Some (truth true)) env s) env2 s next) e)
          (constant_does (site k) tail.0 (skip_does (site k) tail.1.0 (moved (site k) end (constant_goes true dest to (pc + length (ca ++ cc2)) slots now last2 env env2 s next 1 refl vars2 st2 (λ e. same (both_true left.keeps right.keeps e).0) go)))))));
    }

    and_unless : UnlessDoes k (logical_means true) t (left.keeps && right.keeps) (λ to count. left.unless to (length (right.unless to count) + count) ++ right.unless to count)
    and_unless = record {
      by = λ to count pc slots last env s next room vars has go.
          let cb = right.unless to count in
          let ca = left.unless to (length cb + count) in
          let back = has_back (site k) pc ca cb has in
          let end : pc + length ca + length cb ≡ pc + length (ca ++ cb) = omega (arith, length-append ca cb) in
          (hl.unless test_left).by to (length cb + count) pc slots last env s (λ a env s. logical_by k.ways true a (value o) env s (λ p env s. needed p env s next)) room vars (has_front (site k) pc ca cb has) (λ x env2 s now last2 fits vars2 st2 same.
          by_case (is_zero x)
          (λ e. let at : (if is_zero x then pc + length ca + (length cb + count) else pc + length ca) ≡ pc + length (ca ++ cb) + count = if_so (is_zero x) _ _ e ∙ (let q : pc + length ca + (length cb + count) ≡ pc + length (ca ++ cb) + count = omega (arith, end) in q) in
          moved (site k) at (comes_out (site k) (ap (λ b. chosen b (λ env s next. next (Some (truth false)) env s) (λ env s next. value o env s (λ b env s. next (Some (truth (not (is_zero b)))) env s)) env2 s (λ p env s. needed p env s next)) e)
          (go (truth false) env2 s now last2 (truth_fits t word false) vars2 st2 (λ e. same (both_true left.keeps right.keeps e).0))))
          (λ e. let at = if_not (is_zero x) (pc + length ca + (length cb + count)) (pc + length ca) e in
          moved (site k) at (comes_out (site k) (ap (λ b. chosen b (λ env s next. next (Some (truth false)) env s) (λ env s next. value o env s (λ b env s. next (Some (truth (not (is_zero b)))) env s)) env2 s (λ p env s. needed p env s next)) e)
          ((hr.unless test_right).by to count (pc + length ca) now last2 env2 s (λ b env s. next (truth (not (is_zero b))) env s) room vars2 back (λ y env3 s now3 last3 fits3 vars3 st3 same3.
          let to2 : (if is_zero y then pc + length ca + length cb + count else pc + length ca + length cb) ≡ (if is_zero (truth (not (is_zero y))) then pc + length (ca ++ cb) + count else pc + length (ca ++ cb)) = ap (λ n. if is_zero y then n + count else n) end ∙ ap (λ b. if b then pc + length (ca ++ cb) + count else pc + length (ca ++ cb)) (sym (zero_again (is_zero y))) in
          moved (site k) to2 (go (truth (not (is_zero y))) env3 s now3 last3 (truth_fits t word (not (is_zero y))) vars3 (stays_both (scene k) to to now3 now slots (omega arith) st3 st2) (λ e. let b = both_true left.keeps right.keeps e in same3 b.1 ∙ same b.0)))))));
    }

    or_unless : UnlessDoes k (logical_means false) t (left.keeps && right.keeps) (λ to count. left.unless to 1 ++ operation k.ways.line (Skip (length (right.unless to count))) ∷ right.unless to count)
    or_unless = record {
      by = λ to count pc slots last env s next room vars has go.
          let cb = right.unless to count in
          let ca = left.unless to 1 in
          let cc2 = operation k.ways.line (Skip (length cb)) ∷ cb in
          let tail = has_back (site k) pc ca cc2 has in
          let end : pc + length ca + 1 + length cb ≡ pc + length (ca ++ cc2) = omega (arith, length-append ca cc2) in
          (hl.unless test_left).by to 1 pc slots last env s (λ a env s. logical_by k.ways false a (value o) env s (λ p env s. needed p env s next)) room vars (has_front (site k) pc ca cc2 has) (λ x env2 s now last2 fits vars2 st2 same.
          by_case (is_zero x)
          (λ e. let at : (if is_zero x then pc + length ca + 1 else pc + length ca) ≡ pc + length ca + 1 = if_so (is_zero x) _ _ e in
          moved (site k) at (comes_out (site k) (ap (λ b. chosen b (λ env s next. value o env s (λ b env s. next (Some (truth (not (is_zero b)))) env s)) (λ env s next. next (Some (truth true)) env s) env2 s (λ p env s. needed p env s next)) e)
          ((hr.unless test_right).by to count (pc + length ca + 1) now last2 env2 s (λ b env s. next (truth (not (is_zero b))) env s) room vars2 tail.1 (λ y env3 s now3 last3 fits3 vars3 st3 same3.
          let to2 : (if is_zero y then pc + length ca + 1 + length cb + count else pc + length ca + 1 + length cb) ≡ (if is_zero (truth (not (is_zero y))) then pc + length (ca ++ cc2) + count else pc + length (ca ++ cc2)) = ap (λ n. if is_zero y then n + count else n) end ∙ ap (λ b. if b then pc + length (ca ++ cc2) + count else pc + length (ca ++ cc2)) (sym (zero_again (is_zero y))) in
          moved (site k) to2 (go (truth (not (is_zero y))) env3 s now3 last3 (truth_fits t word (not (is_zero y))) vars3 (stays_both (scene k) to to now3 now slots (omega arith) st3 st2) (λ e. let b = both_true left.keeps right.keeps e in same3 b.1 ∙ same b.0))))))
          (λ e. let at = if_not (is_zero x) (pc + length ca + 1) (pc + length ca) e in
          moved (site k) at (comes_out (site k) (ap (λ b. chosen b (λ env s next. value o env s (λ b env s. next (Some (truth (not (is_zero b)))) env s)) (λ env s next. next (Some (truth true)) env s) env2 s (λ p env s. needed p env s next)) e)
          (skip_does (site k) tail.0 (moved (site k) end (go (truth true) env2 s now last2 (truth_fits t word true) vars2 st2 (λ e. same (both_true left.keeps right.keeps e).0)))))));
    }

    pub and_does : CodedDoes k (logical_means true) t (and_coded (spot k) t (count_of k v) left right)
    and_does =
        let p = plain_does k None (left.keeps && right.keeps) true _ and_values (λ slot e. absurd (cc)) in
        record { value = p.value; effect = p.effect; unless = λ test. and_unless; pointer = p.pointer; stored = p.stored; known = p.known; stands = p.stands }

    pub or_does : CodedDoes k (logical_means false) t (or_coded (spot k) t (count_of k v) left right)
    or_does =
        let p = plain_does k None (left.keeps && right.keeps) true _ or_values (λ slot e. absurd (cc)) in
        record { value = p.value; effect = p.effect; unless = λ test. or_unless; pointer = p.pointer; stored = p.stored; known = p.known; stands = p.stands }
