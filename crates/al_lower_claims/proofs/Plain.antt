-- Expressions whose other uses follow from how their value comes to stand.
use Rattle.std.proofs.Common.{◌≡◌, ℕ, ◌+◌, ◌%◌, ◌<◌, ◌≤◌, ◌^◌, List, [], ◌∷◌, ◌++◌, length, Option, Some, None, refl, sym, ap, ◌∙◌, subst, le_refl, ◌⊎◌, inl, inr, ⊎_elim, arith, lit<, length-append}
use Rattle.std.proofs.Math.Nat.{mod-lt, pow-le-pow_right}
use Rattle.std.specs.Prelude.{◌==◌, Bool, true, false, if◌then◌else◌, unwrap_or}
use Rattle.al_typed.specs.declared.ty.Ty.{Ty}
use Rattle.al_typed.specs.Types.{is_void}
use Rattle.al_typed.specs.Layout.{unit_at}
use Rattle.al_meaning.specs.Words.{sum, integer_words, is_zero}
use Rattle.al_meaning.specs.Shown.{kind_of}
use Rattle.al_meaning.specs.Tasks.{Still, Outcome, Env, Rest, Task}
use Rattle.al_meaning.specs.Told.{value, needed}
use Rattle.al_ir.specs.declared.ir.Operation.{Operation}
use Rattle.al_ir.specs.declared.op.Op.TheVariants.{IsLongSet, Skip, SkipIfZero}
use Rattle.al_ir.specs.Control.{Slots, put}
use Rattle.al_ir.specs.Step.{pair, zero_if}
use Rattle.al_lower_words.specs.Units.{AreOf}
use Rattle.al_lower_words.proofs.Integers.{length_of, IsOne}
use Rattle.al_lower_code.specs.Homes.{operation}
use Rattle.al_lower_code.specs.Moving.{Stored, home_of, constants}
use Rattle.al_lower_code.specs.Operators.{skip_if_zero}
use Rattle.al_lower_code.specs.Coded.{plain, constant_coded, skips_known}
use Rattle.al_lower_steps.specs.Slots.{Holds, Below, Outside}
use Rattle.al_lower_steps.proofs.Slots.{below_refl, put_same, put_below}
use Rattle.al_lower_steps.proofs.Steps.{moved, comes_out, has_front, has_back}
use Rattle.al_lower_steps.proofs.Plain.{is_long_set_does}
use Rattle.al_lower_steps.proofs.Jumps.{skip_does, skip_if_zero_does}
use Rattle.al_lower_claims.proofs.Moving.{constants_do}
use Rattle.al_lower_claims.proofs.Variables.{Stays, stays_refl, stays_both, stays_below, vars_kept, free, put_free, put_outside_is, IsFree, behind_free}
use Rattle.al_lower_claims.proofs.Claims.{Setting, scene, site, spot, Run, Has, HasVars, HasRoom, UnitsOf, count_of, Gave, IsTest, IsAddress, ValueDoes, EffectDoes, UnlessDoes, PointerDoes, PointsBy, Leads, own, bound, variable, IsKnown, IsStanding, CodedDoes}
use Rattle.al_lower_claims.proofs.Operands.{GoesWith, free_does, standing_or}

-- ---- a word or a pair that is 0

pub one_of : (at size : ℕ) (v : List ℕ) → length v ≡ 1 → (w : ℕ) × (v ≡ w ∷ [])
one_of at size [] e = absurd (omega (arith, e))
one_of at size (w ∷ []) e = (w, refl)
one_of at size (w ∷ x ∷ v) e = absurd (omega (arith, e))

pub two_of : (v : List ℕ) → length v ≡ 2 → (w : ℕ) × ((x : ℕ) × (v ≡ w ∷ x ∷ []))
two_of [] e = absurd (omega (arith, e))
two_of (w ∷ []) e = absurd (omega (arith, e))
two_of (w ∷ x ∷ []) e = (w, (x, refl))
two_of (w ∷ x ∷ y ∷ v) e = absurd (omega (arith, e))

zero_if_zero : (b : Bool) → (zero_if b == 0) ≡ b
zero_if_zero true = refl
zero_if_zero false = refl

no_home : (at slot : ℕ) → home_of (Stored at 0) ≡ Some slot → ⊥
no_home at slot e = cc

if_true : (b : Bool) (x y : ℕ) → b ≡ true → (if b then x else y) ≡ x
if_true true x y e = refl
if_true false x y e = absurd (cc)

if_false : (b : Bool) (x y : ℕ) → b ≡ false → (if b then x else y) ≡ y
if_false true x y e = absurd (cc)
if_false false x y e = refl

-- a word of at most 4 bytes
powers : (size : ℕ) → size ≤ 4 → (0 < 256 ^ size) × (256 ^ size ≤ 2 ^ 32)
powers size few =
    let none : 0 ≤ size = omega arith in
    let low : 256 ^ 0 ≤ 256 ^ size = pow-le-pow_right {n = 256} (lit< tt) {i = 0} {j = size} none in
    let high : 256 ^ size ≤ 256 ^ 4 = pow-le-pow_right {n = 256} (lit< tt) {i = size} {j = 4} few in
    (omega (arith, low), omega (arith, high))

rest_below : (w n : ℕ) → n ≤ 2 ^ 32 → 0 < n → w % n ≡ w → w < 2 ^ 32
rest_below w n le some e = let lt = mod-lt w some in omega (arith, le, e, lt)

first_is : (a b : ℕ) (xs ys : List ℕ) → a ∷ xs ≡ b ∷ ys → a ≡ b
first_is a b xs ys e = cc

address_word : (size : ℕ) (v : List ℕ) → size ≤ 4 → AreOf (unit_at 0 size ∷ []) v → IsOne v
address_word size [] le h = absurd (cc)
address_word size (w ∷ []) le h = record { word = w; is = refl; small = rest_below w (256 ^ size) (powers size le).1 (powers size le).0 (first_is _ _ _ _ h) }
address_word size (w ∷ x ∷ v) le h = absurd (cc)

-- how many words a condition has
pub test_words : (k : Setting) (t : Ty) (v : List ℕ) → IsTest k t → UnitsOf k t v → (count_of k t ≡ length v) × ((length v ≡ 1) ⊎ (length v ≡ 2))
test_words k t v test fits =
    let n = length_of _ _ fits in
    (test.counts ∙ sym n, ⊎_elim (λ e. inl (n ∙ ap length e)) (λ r. ⊎_elim (λ e. inr (n ∙ ap length e)) (λ e. inl (n ∙ ap length e.1.0)) r) test.words)

abbrev unless_code : Setting → Ty → Option ℕ → (ℕ → ℕ → List Operation) → (to count : ℕ) → List Operation
unless_code k t o code to count = elim o [ Some slot ↦ skip_if_zero (spot k) (count_of k t) slot to count | None ↦ code to to ++ skip_if_zero (spot k) (count_of k t) to to count ]

module _ (k : Setting) where
  -- a jump where the value that stands in slots is 0
  pub skips_if_zero : (v : List ℕ) (n slot to count pc : ℕ) (slots last : Slots) (s : Still) (o : Outcome) → n ≡ length v → (length v ≡ 1) ⊎ (length v ≡ 2) → Holds slots slot v → Has k pc (skip_if_zero (spot k) n slot to count) → ((now : Slots) → Below to now slots → Run k o (if is_zero v then pc + length (skip_if_zero (spot k) n slot to count) + count else pc + length (skip_if_zero (spot k) n slot to count)) now last s) → Run k o pc slots last s
  skips_if_zero v n slot to count pc slots last s o en (inl one) holds has go =
      let w = one_of 0 4 v one in
      let h : slots slot ≡ Some w.0 = (subst (Holds slots slot) w.1 holds).0 in
      let e : (n == 2) ≡ false = let q : n ≡ 1 = en ∙ one in ap (λ m. m == 2) q in
      let z : is_zero v ≡ (w.0 == 0) = ap is_zero w.1 in
      by (n == 2) e h z has go
    where
      by : {w : ℕ} (b : Bool) → b ≡ false → slots slot ≡ Some w → is_zero v ≡ (w == 0) → Has k pc (if b then operation k.ways.line (IsLongSet to slot) ∷ operation k.ways.line (SkipIfZero to count) ∷ [] else operation k.ways.line (SkipIfZero slot count) ∷ []) → ((now : Slots) → Below to now slots → Run k o (if is_zero v then pc + length (if b then operation k.ways.line (IsLongSet to slot) ∷ operation k.ways.line (SkipIfZero to count) ∷ [] else operation k.ways.line (SkipIfZero slot count) ∷ []) + count else pc + length (if b then operation k.ways.line (IsLongSet to slot) ∷ operation k.ways.line (SkipIfZero to count) ∷ [] else operation k.ways.line (SkipIfZero slot count) ∷ [])) now last s) → Run k o pc slots last s
      by true e h z has go = absurd (cc)
      by {w} false e h z has go =
          skip_if_zero_does (site k) (λ b. o) has.0 h
          (λ q. moved (site k) (sym (if_true (is_zero v) (pc + 1 + count) (pc + 1) (z ∙ q))) (go slots (below_refl to slots)))
          (λ q. moved (site k) (sym (if_false (is_zero v) (pc + 1 + count) (pc + 1) (z ∙ q))) (go slots (below_refl to slots)))
  skips_if_zero v n slot to count pc slots last s o en (inr two) holds has go =
      let w = two_of v two in
      let h : Holds slots slot (w.0 ∷ w.1.0 ∷ []) = subst (Holds slots slot) w.1.1 holds in
      let e : (n == 2) ≡ true = let q : n ≡ 2 = en ∙ two in ap (λ m. m == 2) q in
      let z : is_zero v ≡ (pair w.0 w.1.0 == 0) = ap is_zero w.1.1 in
      by (n == 2) e h z has go
    where
      by : {low high : ℕ} (b : Bool) → b ≡ true → Holds slots slot (low ∷ high ∷ []) → is_zero v ≡ (pair low high == 0) → Has k pc (if b then operation k.ways.line (IsLongSet to slot) ∷ operation k.ways.line (SkipIfZero to count) ∷ [] else operation k.ways.line (SkipIfZero slot count) ∷ []) → ((now : Slots) → Below to now slots → Run k o (if is_zero v then pc + length (if b then operation k.ways.line (IsLongSet to slot) ∷ operation k.ways.line (SkipIfZero to count) ∷ [] else operation k.ways.line (SkipIfZero slot count) ∷ []) + count else pc + length (if b then operation k.ways.line (IsLongSet to slot) ∷ operation k.ways.line (SkipIfZero to count) ∷ [] else operation k.ways.line (SkipIfZero slot count) ∷ [])) now last s) → Run k o pc slots last s
      by false e h z has go = absurd (cc)
      by {low} {high} true e h z has go =
          let now : Slots = put to (zero_if (pair low high == 0)) slots in
          let z2 : is_zero v ≡ (zero_if (pair low high == 0) == 0) = z ∙ sym (zero_if_zero (pair low high == 0)) in
          is_long_set_does (site k) has.0 h
          (skip_if_zero_does (site k) (λ b. o) has.1.0 (put_same slots to (zero_if (pair low high == 0)))
          (λ q. let c : pc + 1 + 1 + count ≡ pc + 2 + count = omega arith in moved (site k) (c ∙ sym (if_true (is_zero v) (pc + 2 + count) (pc + 2) (z2 ∙ q))) (go now (put_below slots slots to (zero_if (pair low high == 0)) to (le_refl to) (below_refl to slots))))
          (λ q. let c : pc + 1 + 1 ≡ pc + 2 = omega arith in moved (site k) (c ∙ sym (if_false (is_zero v) (pc + 2 + count) (pc + 2) (z2 ∙ q))) (go now (put_below slots slots to (zero_if (pair low high == 0)) to (le_refl to) (below_refl to slots)))))

  module _ {m : Task (Option (List ℕ))} {t : Ty} (stands : Option ℕ) (keeps is_truth : Bool) (code : (dest to : ℕ) → List Operation) (h : ValueDoes k m t keeps is_truth code) (st : (slot : ℕ) → stands ≡ Some slot → IsStanding k m t slot) where
    -- the value that stands somewhere, or is made to stand in free slots
    stands_or_free : is_void t ≡ false → (to pc : ℕ) (slots last : Slots) (env : Env) (s : Still) (next : List ℕ → Rest) → HasRoom k to → HasVars k env slots → Has k pc (standing_or stands (code to to)) → GoesWith k t keeps env slots next (unwrap_or stands to) to (pc + length (standing_or stands (code to to))) → Run k (value m env s next) pc slots last s
    stands_or_free nv to pc slots last env s next room vars has go = on stands st has go
      where
        on : (o : Option ℕ) → ((slot : ℕ) → o ≡ Some slot → IsStanding k m t slot) → Has k pc (standing_or o (code to to)) → GoesWith k t keeps env slots next (unwrap_or o to) to (pc + length (standing_or o (code to to))) → Run k (value m env s next) pc slots last s
        on (Some slot) st has go =
            let x = st slot refl in
            let q : pc ≡ pc + 0 = omega arith in
            comes_out (site k) (x.means env s (λ o env s. needed o env s next)) (moved (site k) q (go (x.is env) env s slots last (x.fits env slots vars) vars (stays_refl (scene k) to slots) (x.holds env slots vars) (λ e. refl)))
        on None st has go = free_does k h nv to pc slots last env s next room vars has go

    plain_effect : EffectDoes k m t keeps (λ to. standing_or stands (code to to))
    plain_effect = record { by = λ to pc slots last env s next room vars has go. on stands st to pc slots last env s next room vars has go }
      where
        on : (o : Option ℕ) → ((slot : ℕ) → o ≡ Some slot → IsStanding k m t slot) → (to pc : ℕ) (slots last : Slots) (env : Env) (s : Still) (next : Option (List ℕ) → Rest) → HasRoom k to → HasVars k env slots → Has k pc (standing_or o (code to to)) → ((o2 : Option (List ℕ)) (env2 : Env) (s : Still) (now last : Slots) → Gave k t o2 → HasVars k env2 now → Stays (scene k) to now slots → (keeps ≡ true → env2 ≡ env) → Run k (next o2 env2 s) (pc + length (standing_or o (code to to))) now last s) → Run k (m env s next) pc slots last s
        on (Some slot) st to pc slots last env s next room vars has go =
            let x = st slot refl in
            let q : pc ≡ pc + 0 = omega arith in
            comes_out (site k) (x.means env s next) (moved (site k) q (go (Some (x.is env)) env s slots last (x.not_void, x.fits env slots vars) vars (stays_refl (scene k) to slots) (λ e. refl)))
        on None st to pc slots last env s next room vars has go =
            h.by to to pc slots last env s next (free refl) room vars has (λ o env2 s was now last g v stay put holds same truth.
            let b : Below to now was = put_free (count_of k t) to to now was refl put in
            go o env2 s now last g (vars_kept (scene k) env2 to now was room b v) (stays_both (scene k) to to now was slots (le_refl to) (stays_below (scene k) to now was b) stay) same)

    plain_unless : IsTest k t → UnlessDoes k m t keeps (λ to count. unless_code k t stands code to count)
    plain_unless test = record { by = λ to count pc slots last env s next room vars has go. on stands st to count pc slots last env s next room vars has go }
      where
        on : (o : Option ℕ) → ((slot : ℕ) → o ≡ Some slot → IsStanding k m t slot) → (to count pc : ℕ) (slots last : Slots) (env : Env) (s : Still) (next : List ℕ → Rest) → HasRoom k to → HasVars k env slots → Has k pc (unless_code k t o code to count) → ((v : List ℕ) (env2 : Env) (s : Still) (now last : Slots) → UnitsOf k t v → HasVars k env2 now → Stays (scene k) to now slots → (keeps ≡ true → env2 ≡ env) → Run k (next v env2 s) (if is_zero v then pc + length (unless_code k t o code to count) + count else pc + length (unless_code k t o code to count)) now last s) → Run k (value m env s next) pc slots last s
        on (Some slot) st to count pc slots last env s next room vars has go =
            let x = st slot refl in
            let fits = x.fits env slots vars in
            let c = test_words k t (x.is env) test fits in
            comes_out (site k) (x.means env s (λ o env s. needed o env s next))
            (skips_if_zero (x.is env) (count_of k t) slot to count pc slots last s _ c.0 c.1 (x.holds env slots vars) has (λ now b.
            go (x.is env) env s now last fits (vars_kept (scene k) env to now slots room b vars) (stays_below (scene k) to now slots b) (λ e. refl)))
        on None st to count pc slots last env s next room vars has go =
            let ca = code to to in
            let cb = skip_if_zero (spot k) (count_of k t) to to count in
            free_does k h test.not_void to pc slots last env s next room vars (has_front (site k) pc ca cb has) (λ v env2 s now1 last1 fits vars1 st1 holds same.
            let c = test_words k t v test fits in
            skips_if_zero v (count_of k t) to to count (pc + length ca) now1 last1 s _ c.0 c.1 holds (has_back (site k) pc ca cb has) (λ now b.
            let len : pc + length (ca ++ cb) ≡ pc + length ca + length cb = omega (arith, length-append ca cb) in
            let len2 : (if is_zero v then pc + length ca + length cb + count else pc + length ca + length cb) ≡ (if is_zero v then pc + length (ca ++ cb) + count else pc + length (ca ++ cb)) = ap (λ n. if is_zero v then n + count else n) (sym len) in
            moved (site k) len2 (go v env2 s now last1 fits (vars_kept (scene k) env2 to now now1 room b vars1) (stays_both (scene k) to to now now1 slots (le_refl to) (stays_below (scene k) to now now1 b) st1) same)))

    sum_zero : (a x : ℕ) → sum a x ≡ sum a (sum 0 x)
    sum_zero a x = omega arith

    leads_to : (o : Option ℕ) → ((slot : ℕ) → o ≡ Some slot → IsStanding k m t slot) → IsAddress k t → (to : ℕ) → Leads k false (unwrap_or o to) to
    leads_to None st word to = own refl
    leads_to (Some slot) st word to =
        let x = st slot refl in
        ⊎_elim (λ n. variable n.0 n.1.0 refl n.1.1.0 n.1.1.1.0 (n.1.1.1.1 ∙ ap length word.units))
        (λ i. let a = k.above in let lt = i.1.0 in bound (subst (IsFree (scene k)) (sym i.1.1.0) (behind_free (scene k) (k.turns + i.0) (omega (arith, a)))) (subst (λ n. n < k.turns + k.iterators) (sym i.1.1.0) (omega (arith, lt)))) x.where_is

    -- the word of an address
    points : (lasting : Bool) (slot to : ℕ) (next : List ℕ → Rest) (v : List ℕ) (env2 : Env) (s : Still) (end : ℕ) (now last : Slots) → IsAddress k t → UnitsOf k t v → Holds now slot v → Leads k lasting slot to → ((a : ℕ) → a < 2 ^ 32 → UnitsOf k t (a ∷ []) → PointsBy k lasting to now (Stored slot 0) a → Run k (next (a ∷ []) env2 s) end now last s) → Run k (next v env2 s) end now last s
    points lasting slot to next v env2 s end now last word fits holds leads go =
        let one = address_word word.size v word.small (subst (λ us. AreOf us v) word.units fits) in
        let held = subst (Holds now slot) one.is holds in
        subst (λ v. Run k (next v env2 s) end now last s) (sym one.is) (go one.word one.small (subst (UnitsOf k t) one.is fits) (record { slot = slot; offset = 0; is = refl; word = one.word; there = held.0; same = sum_zero one.word; leads = leads }))

    plain_pointer : IsAddress k t → PointerDoes k m t keeps (λ lasting to. if lasting then code to to else standing_or stands (code to to)) (λ lasting to. Stored (if lasting then to else unwrap_or stands to) 0)
    plain_pointer word = record { by = on }
      where
        on : (lasting : Bool) (to pc : ℕ) (slots last : Slots) (env : Env) (s : Still) (next : List ℕ → Rest) → HasRoom k to → HasVars k env slots → Has k pc (if lasting then code to to else standing_or stands (code to to)) → ((a : ℕ) (env2 : Env) (s : Still) (now last : Slots) → a < 2 ^ 32 → UnitsOf k t (a ∷ []) → PointsBy k lasting to now (Stored (if lasting then to else unwrap_or stands to) 0) a → HasVars k env2 now → Stays (scene k) to now slots → (keeps ≡ true → env2 ≡ env) → Run k (next (a ∷ []) env2 s) (pc + length (if lasting then code to to else standing_or stands (code to to))) now last s) → Run k (value m env s next) pc slots last s
        on true to pc slots last env s next room vars has go =
            free_does k h word.not_void to pc slots last env s next room vars has (λ v env2 s now last fits vars2 st2 holds same.
            points true to to next v env2 s _ now last word fits holds (own refl) (λ a small fit p. go a env2 s now last small fit p vars2 st2 same))
        on false to pc slots last env s next room vars has go =
            stands_or_free word.not_void to pc slots last env s next room vars has (λ v env2 s now last fits vars2 st2 holds same.
            points false (unwrap_or stands to) to next v env2 s _ now last word fits holds (leads_to stands st word to) (λ a small fit p. go a env2 s now last small fit p vars2 st2 same))

    pub plain_does : CodedDoes k m t (plain (spot k) t stands keeps is_truth code)
    plain_does = record {
      value = h;
      effect = plain_effect;
      unless = plain_unless;
      pointer = plain_pointer;
      stored = λ word lasting to slot e. no_home (if lasting then to else unwrap_or stands to) slot e;
      known = λ bits e. absurd (cc);
      stands = st;
    }

  pub valued_does : {m : Task (Option (List ℕ))} {t : Ty} (keeps : Bool) (code : (dest to : ℕ) → List Operation) → ValueDoes k m t keeps false code → CodedDoes k m t (plain (spot k) t None keeps false code)
  valued_does keeps code h = plain_does None keeps false code h (λ slot e. absurd (cc))

  -- ---- constants

  -- it is 0 where its bits are
  pub record IsNumber (t : Ty) (bits : ℕ) : Type 0 where
    pub zero : is_zero (integer_words (kind_of t) bits) ≡ (bits == 0)

  -- what is known to be a constant
  pub constant_does : {m : Task (Option (List ℕ))} (t : Ty) (bits : ℕ) → IsKnown k m t bits → count_of k t ≡ length (integer_words (kind_of t) bits) → IsNumber t bits → CodedDoes k m t (constant_coded (spot k) t bits)
  constant_does {m} t bits known count number =
      let ws = integer_words (kind_of t) bits in
      let code : (dest to : ℕ) → List Operation = λ dest to. constants k.ways.line dest ws in
      let v : ValueDoes k m t true false code = record {
        by = λ dest to pc slots last env s next d room vars has go.
            comes_out (site k) (known.means env s next)
            (constants_do (site k) ws k.ways.line dest pc slots last s _ has (λ now o holds.
            go (Some ws) env s slots now last (known.not_void, known.fits) vars (stays_refl (scene k) to slots) (put_outside_is (count_of k t) dest to now slots (subst (λ n. Outside dest n now slots) (sym count) o)) holds (λ e. refl) (λ e. absurd (cc))));
      } in
      let p = valued_does true code v in
      record {
        value = v;
        effect = record {
          by = λ to pc slots last env s next room vars has go.
              let q : pc ≡ pc + 0 = omega arith in
              comes_out (site k) (known.means env s next) (moved (site k) q (go (Some ws) env s slots last (known.not_void, known.fits) vars (stays_refl (scene k) to slots) (λ e. refl)));
        };
        unless = λ test. record { by = λ to count pc slots last env s next room vars has go. comes_out (site k) (known.means env s (λ o env s. needed o env s next)) (skips count pc slots last env s next (bits == 0) refl has (go ws env s slots last known.fits vars (stays_refl (scene k) to slots) (λ e. refl))) };
        pointer = p.pointer;
        stored = p.stored;
        known = λ b e. subst (IsKnown k m t) (same_bits bits b e) known;
        stands = λ slot e. absurd (cc);
      }
    where
      same_bits : (a b : ℕ) → Some a ≡ Some b → a ≡ b
      same_bits a b e = cc

      skips : (count pc : ℕ) (slots last : Slots) (env : Env) (s : Still) (next : List ℕ → Rest) (b : Bool) → (bits == 0) ≡ b → Has k pc (if b then operation k.ways.line (Skip count) ∷ [] else []) → Run k (next (integer_words (kind_of t) bits) env s) (if is_zero (integer_words (kind_of t) bits) then pc + length (skips_known (spot k) bits count) + count else pc + length (skips_known (spot k) bits count)) slots last s → Run k (next (integer_words (kind_of t) bits) env s) pc slots last s
      skips count pc slots last env s next true e has r =
          let z : is_zero (integer_words (kind_of t) bits) ≡ true = number.zero ∙ e in
          let len : length (skips_known (spot k) bits count) ≡ 1 = ap (λ b. length (if b then operation k.ways.line (Skip count) ∷ [] else [])) e in
          let to : pc + 1 + count ≡ (if is_zero (integer_words (kind_of t) bits) then pc + length (skips_known (spot k) bits count) + count else pc + length (skips_known (spot k) bits count)) =
          ap (λ n. pc + n + count) (sym len) ∙ sym (if_true (is_zero (integer_words (kind_of t) bits)) (pc + length (skips_known (spot k) bits count) + count) (pc + length (skips_known (spot k) bits count)) z) in
          skip_does (site k) has.0 (moved (site k) to r)
      skips count pc slots last env s next false e has r =
          let z : is_zero (integer_words (kind_of t) bits) ≡ false = number.zero ∙ e in
          let len : length (skips_known (spot k) bits count) ≡ 0 = ap (λ b. length (if b then operation k.ways.line (Skip count) ∷ [] else [])) e in
          let q : pc ≡ pc + 0 = omega arith in
          let to : pc ≡ (if is_zero (integer_words (kind_of t) bits) then pc + length (skips_known (spot k) bits count) + count else pc + length (skips_known (spot k) bits count)) =
          q ∙ (ap (λ n. pc + n) (sym len) ∙ sym (if_false (is_zero (integer_words (kind_of t) bits)) (pc + length (skips_known (spot k) bits count) + count) (pc + length (skips_known (spot k) bits count)) z)) in
          moved (site k) to r
