-- The tests of a switch: a jump where a value has the bits of a case.
use Rattle.std.proofs.Common.{◌≡◌, ℕ, ◌+◌, ◌/◌, ◌%◌, ◌<◌, ◌≤◌, ◌^◌, List, [], ◌∷◌, ◌++◌, length, Option, Some, None, refl, sym, ap, ◌∙◌, subst, arith, length-append}
use Rattle.std.specs.Prelude.{Bool, true, false, not, ◌==◌, if◌then◌else◌}
use Rattle.std.specs.List.{AllByRecursion}
use Rattle.std.proofs.Math.Nat.{mod-eq_of_lt}
use Rattle.std.proofs.lemmas.Grind.{common_steps}
use Rattle.al_base.specs.Arith.{width_of, applied, wrapped, one_where}
use Rattle.al_base.specs.declared.arith.Kind.{Kind}
use Rattle.al_base.specs.declared.arith.Op.TheVariants as arith_op
use Rattle.al_base.specs.declared.trap.Trap.TheVariants as trap
use Rattle.al_event.specs.declared.act.Act.TheVariants as act
use Rattle.al_meaning.specs.Words.{bits_of, integer_words}
use Rattle.al_meaning.specs.Tasks.{Still, Outcome, stop_in}
use Rattle.al_ir.specs.declared.op.Op.TheVariants as op
use Rattle.al_ir.specs.Control.{Slots, put_all}
use Rattle.al_ir.specs.Step.{word_kind, long_kind, long_words, pair}
use Rattle.al_lower_code.specs.Homes.{Spot, operation}
use Rattle.al_lower_code.specs.Moving.{constants}
use Rattle.al_lower_code.specs.Operators.{is_long}
use Rattle.al_lower_code.specs.Heads.{CasePlace, case_test, case_tests}
use Rattle.al_lower_steps.specs.Slots.{Holds, Below}
use Rattle.al_lower_steps.specs.Site.{Site, HasAt}
use Rattle.al_lower_steps.proofs.Slots.{below_both, below_outside, holds_below, put_all_below, put_all_holds}
use Rattle.al_lower_steps.proofs.Steps.{Runs, moved, has_front, has_back}
use Rattle.al_lower_steps.proofs.Plain.{long_does}
use Rattle.al_lower_steps.proofs.Jumps.{skip_unless_does, skip_if_zero_does, go_to_does}
use Rattle.al_lower_claims.proofs.Moving.{constants_do}
use Rattle.al_lower_switch.proofs.Cases.{first_place}

-- ---- equal bits

-- what a comparison gives is 0 where it does not hold
record Compared (o : Option ℕ) (same : Bool) : Type 0 where
  gives : ℕ
  is : o ≡ Some gives
  zero : (gives == 0) ≡ not same

compared : (w : ℕ) (c : Bool) (o : Option ℕ) → o ≡ Some (wrapped w (one_where c)) → wrapped w (one_where true) ≡ 1 → wrapped w (one_where false) ≡ 0 → Compared o c
compared w true o e one none = record { gives = 1; is = e ∙ ap Some one; zero = refl }
compared w false o e one none = record { gives = 0; is = e ∙ ap Some none; zero = refl }

word_compared : (a b : ℕ) → a < 2 ^ 32 → b < 2 ^ 32 → Compared (applied arith_op.Eq (word_kind false) a b) (a == b)
word_compared a b la lb =
    let ea : a % 2 ^ 32 ≡ a = mod-eq_of_lt la in
    let eb : b % 2 ^ 32 ≡ b = mod-eq_of_lt lb in
    compared 32 (a == b) (applied arith_op.Eq (word_kind false) a b) (rw (ea, eb) refl) refl refl

long_compared : (a b : ℕ) → a < 2 ^ 64 → b < 2 ^ 64 → Compared (applied arith_op.Eq (long_kind false) a b) (a == b)
long_compared a b la lb =
    let ea : a % 2 ^ 64 ≡ a = mod-eq_of_lt la in
    let eb : b % 2 ^ 64 ≡ b = mod-eq_of_lt lb in
    compared 64 (a == b) (applied arith_op.Eq (long_kind false) a b) (rw (ea, eb) refl) refl refl

same_turned : (a b : ℕ) → (a == b) ≡ (b == a)
same_turned a b = grind (arith, common_steps)

not_true : (c : Bool) → not c ≡ true → c ≡ false
not_true false e = refl
not_true true e = absurd (cc)

not_false : (c : Bool) → not c ≡ false → c ≡ true
not_false true e = refl
not_false false e = absurd (cc)

-- ---- one test

-- a value of a switch, of one word or of two
pub data Switched (k : Kind) (v : List ℕ) : Type 0 where
  word : (w : ℕ) → v ≡ w ∷ [] → w < 2 ^ 32 → is_long k ≡ false → ((bits : ℕ) → bits < 2 ^ width_of k → (bits < 2 ^ 32) × (integer_words k bits ≡ bits ∷ [])) → Switched k v
  two : (low high : ℕ) → v ≡ low ∷ high ∷ [] → low < 2 ^ 32 → high < 2 ^ 32 → is_long k ≡ true → ((bits : ℕ) → bits < 2 ^ width_of k → (bits < 2 ^ 64) × (integer_words k bits ≡ bits % 2 ^ 32 ∷ bits / 2 ^ 32 ∷ [])) → Switched k v

pub switched_count : (k : Kind) (v : List ℕ) → Switched k v → ℕ
switched_count k v (word w e small short means) = 1
switched_count k v (two low high e ls hs long means) = 2

module _ (x : Site) (s : Spot) (k : Kind) (v : List ℕ) (n : Switched k v) where
  -- the bits of a case are those of the value, or not
  one_does : (at free bits place pc : ℕ) (slots last : Slots) (st : Still) (o : Outcome) → bits < 2 ^ width_of k → Holds slots at v → at + length v ≤ free → HasAt x pc (case_test s k at free bits place) → pc + length (case_test s k at free bits place) ≤ place → ((bits == bits_of v) ≡ true → (now : Slots) → Below free now slots → Runs x o place now last st) → ((bits == bits_of v) ≡ false → (now : Slots) → Below free now slots → Runs x o (pc + length (case_test s k at free bits place)) now last st) → Runs x o pc slots last st
  one_does at free bits place pc slots last st o small holds le has far same other = on n
    where
      at_word : (b : Bool) → b ≡ false → (w : ℕ) → v ≡ w ∷ [] → w < 2 ^ 32 → bits < 2 ^ 32 → (ws : List ℕ) → ws ≡ bits ∷ [] → HasAt x pc (if b then constants s.line free ws ++ operation s.line (op.Long arith_op.Eq false free at free) ∷ operation s.line (op.SkipIfZero free 1) ∷ operation s.line (op.GoTo place) ∷ [] else constants s.line free ws ++ operation s.line (op.SkipUnless arith_op.Eq false at free 1) ∷ operation s.line (op.GoTo place) ∷ []) → pc + length (if b then constants s.line free ws ++ operation s.line (op.Long arith_op.Eq false free at free) ∷ operation s.line (op.SkipIfZero free 1) ∷ operation s.line (op.GoTo place) ∷ [] else constants s.line free ws ++ operation s.line (op.SkipUnless arith_op.Eq false at free 1) ∷ operation s.line (op.GoTo place) ∷ []) ≤ place → ((bits == bits_of v) ≡ true → (now : Slots) → Below free now slots → Runs x o place now last st) → ((bits == bits_of v) ≡ false → (now : Slots) → Below free now slots → Runs x o (pc + length (if b then constants s.line free ws ++ operation s.line (op.Long arith_op.Eq false free at free) ∷ operation s.line (op.SkipIfZero free 1) ∷ operation s.line (op.GoTo place) ∷ [] else constants s.line free ws ++ operation s.line (op.SkipUnless arith_op.Eq false at free 1) ∷ operation s.line (op.GoTo place) ∷ [])) now last st) → Runs x o pc slots last st
      at_word true e w vw lw lb ws ew has far same other = absurd (cc)
      at_word false e w vw lw lb ws ew has far same other =
          let ca = constants s.line free ws in
          let cb = operation s.line (op.SkipUnless arith_op.Eq false at free 1) ∷ operation s.line (op.GoTo place) ∷ [] in
          let len : pc + length ca + 2 ≡ pc + length (ca ++ cb) = omega (arith, length-append ca cb) in
          let q = word_compared w bits lw lb in
          let turned : (w == bits) ≡ (bits == bits_of v) = same_turned w bits ∙ ap (λ v. bits == bits_of v) (sym vw) in
          constants_do x ws s.line free pc slots last st o (has_front x pc ca cb has) (λ now out held.
          let below = below_outside free (length ws) now slots out in
          let there : now at ≡ Some w = (subst (Holds now at) vw (holds_below v at free now slots le below holds)).0 in
          let with_it : now free ≡ Some bits = (subst (Holds now free) ew held).0 in
          let code = has_back x pc ca cb has in
          skip_unless_does x (λ b. o) code.0 there with_it q.is
          (λ z. let to : pc + length ca + 1 + 1 ≡ pc + length ca + 2 = omega arith in moved x (to ∙ len) (other (sym turned ∙ not_true (w == bits) (sym q.zero ∙ z)) now below))
          (λ z. go_to_does x code.1.0 (omega (arith, far, len)) (same (sym turned ∙ not_false (w == bits) (sym q.zero ∙ z)) now below)))

      at_two : (b : Bool) → b ≡ true → (low high : ℕ) → v ≡ low ∷ high ∷ [] → low < 2 ^ 32 → high < 2 ^ 32 → bits < 2 ^ 64 → (ws : List ℕ) → ws ≡ bits % 2 ^ 32 ∷ bits / 2 ^ 32 ∷ [] → HasAt x pc (if b then constants s.line free ws ++ operation s.line (op.Long arith_op.Eq false free at free) ∷ operation s.line (op.SkipIfZero free 1) ∷ operation s.line (op.GoTo place) ∷ [] else constants s.line free ws ++ operation s.line (op.SkipUnless arith_op.Eq false at free 1) ∷ operation s.line (op.GoTo place) ∷ []) → pc + length (if b then constants s.line free ws ++ operation s.line (op.Long arith_op.Eq false free at free) ∷ operation s.line (op.SkipIfZero free 1) ∷ operation s.line (op.GoTo place) ∷ [] else constants s.line free ws ++ operation s.line (op.SkipUnless arith_op.Eq false at free 1) ∷ operation s.line (op.GoTo place) ∷ []) ≤ place → ((bits == bits_of v) ≡ true → (now : Slots) → Below free now slots → Runs x o place now last st) → ((bits == bits_of v) ≡ false → (now : Slots) → Below free now slots → Runs x o (pc + length (if b then constants s.line free ws ++ operation s.line (op.Long arith_op.Eq false free at free) ∷ operation s.line (op.SkipIfZero free 1) ∷ operation s.line (op.GoTo place) ∷ [] else constants s.line free ws ++ operation s.line (op.SkipUnless arith_op.Eq false at free 1) ∷ operation s.line (op.GoTo place) ∷ [])) now last st) → Runs x o pc slots last st
      at_two false e low high vw ll lh lb ws ew has far same other = absurd (cc)
      at_two true e low high vw ll lh lb ws ew has far same other =
          let ca = constants s.line free ws in
          let cb = operation s.line (op.Long arith_op.Eq false free at free) ∷ operation s.line (op.SkipIfZero free 1) ∷ operation s.line (op.GoTo place) ∷ [] in
          let len : pc + length ca + 3 ≡ pc + length (ca ++ cb) = omega (arith, length-append ca cb) in
          let whole : pair (bits % 2 ^ 32) (bits / 2 ^ 32) ≡ bits = omega arith in
          let q = long_compared (pair low high) (pair (bits % 2 ^ 32) (bits / 2 ^ 32)) (omega (arith, ll, lh)) (omega (arith, lb, whole)) in
          let turned : (pair low high == pair (bits % 2 ^ 32) (bits / 2 ^ 32)) ≡ (bits == bits_of v) = ap (λ n. pair low high == n) whole ∙ (same_turned (pair low high) bits ∙ ap (λ v. bits == bits_of v) (sym vw)) in
          constants_do x ws s.line free pc slots last st o (has_front x pc ca cb has) (λ now out held.
          let below = below_outside free (length ws) now slots out in
          let there : Holds now at (low ∷ high ∷ []) = subst (Holds now at) vw (holds_below v at free now slots le below holds) in
          let with_it : Holds now free (bits % 2 ^ 32 ∷ bits / 2 ^ 32 ∷ []) = subst (Holds now free) ew held in
          let code = has_back x pc ca cb has in
          long_does x {op = arith_op.Eq} {signed = false} (λ c. elim c [ Some _ ↦ o | None ↦ stop_in s.line (act.Trap trap.Divide) st ]) code.0 there with_it refl (λ z is.
          let now2 : Slots = put_all free (long_words arith_op.Eq z) now in
          let below2 : Below free now2 slots = below_both free free now2 now slots (omega arith) (put_all_below (long_words arith_op.Eq z) free now) below in
          let z_is : z ≡ q.gives = same_some z q.gives (sym is ∙ q.is) in
          skip_if_zero_does x (λ b. o) code.1.0 (put_all_holds (long_words arith_op.Eq z) free now).0
          (λ e. let to : pc + length ca + 1 + 1 + 1 ≡ pc + length ca + 3 = omega arith in moved x (to ∙ len) (other (sym turned ∙ not_true (pair low high == pair (bits % 2 ^ 32) (bits / 2 ^ 32)) (sym q.zero ∙ (ap (λ n. n == 0) (sym z_is) ∙ e))) now2 below2))
          (λ e. go_to_does x code.1.1.0 (omega (arith, far, len)) (same (sym turned ∙ not_false (pair low high == pair (bits % 2 ^ 32) (bits / 2 ^ 32)) (sym q.zero ∙ (ap (λ n. n == 0) (sym z_is) ∙ e))) now2 below2))))
        where
          same_some : (a c : ℕ) → Some a ≡ Some c → a ≡ c
          same_some a c e = cc

      on : Switched k v → Runs x o pc slots last st
      on (word w e lw short means) = let m = means bits small in at_word (is_long k) short w e lw m.0 (integer_words k bits) m.1 has far same other
      on (two low high e ll lh long means) = let m = means bits small in at_two (is_long k) long low high e ll lh m.0 (integer_words k bits) m.1 has far same other

  -- ---- the tests of all cases

  pub tests_do : (cs : List CasePlace) (at free end pc : ℕ) (slots last : Slots) (st : Still) (o : Outcome) → AllByRecursion (λ (c : CasePlace). c.bits < 2 ^ width_of k) cs → AllByRecursion (λ (c : CasePlace). end ≤ c.place) cs → pc + length (case_tests s k at free cs) ≤ end → Holds slots at v → at + length v ≤ free → HasAt x pc (case_tests s k at free cs) → ((place : ℕ) → first_place (bits_of v) cs ≡ Some place → (now : Slots) → Below free now slots → Runs x o place now last st) → (first_place (bits_of v) cs ≡ None → (now : Slots) → Below free now slots → Runs x o (pc + length (case_tests s k at free cs)) now last st) → Runs x o pc slots last st
  tests_do [] at free end pc slots last st o fit far bound holds le has found none = let z : pc ≡ pc + 0 = omega arith in moved x z (none refl slots (λ i lt. refl))
  tests_do (c ∷ cs) at free end pc slots last st o fit far bound holds le has found none =
      let ca = case_test s k at free c.bits c.place in
      let cb = case_tests s k at free cs in
      let len : pc + length ca + length cb ≡ pc + length (ca ++ cb) = omega (arith, length-append ca cb) in
      let f = far.0 in
      one_does at free c.bits c.place pc slots last st o fit.0 holds le (has_front x pc ca cb has) (omega (arith, f, bound, len))
      (λ e now below. found c.place (ap (λ q. if q then Some c.place else first_place (bits_of v) cs) e) now below)
      (λ e now below.
      tests_do cs at free end (pc + length ca) now last st o fit.1 far.1 (omega (arith, bound, len)) (holds_below v at free now slots le below holds) le (has_back x pc ca cb has)
      (λ place q now2 below2. found place (ap (λ b. if b then Some c.place else first_place (bits_of v) cs) e ∙ q) now2 (below_both free free now2 now slots (omega arith) below2 below))
      (λ q now2 below2. moved x len (none (ap (λ b. if b then Some c.place else first_place (bits_of v) cs) e ∙ q) now2 (below_both free free now2 now slots (omega arith) below2 below))))
