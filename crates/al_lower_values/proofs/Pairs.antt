-- Operations on one word or two that give a word: pointers that move, and how far they lie apart.
use Rattle.std.proofs.Common.{◌≡◌, ℕ, ◌+◌, ◌*◌, ◌%◌, ◌^◌, ◌<◌, List, [], ◌∷◌, ◌++◌, length, Option, Some, None, refl, sym, ap, ◌∙◌, subst, arith, length-append}
use Rattle.std.specs.Prelude.{Bool, true, false, ◌&&◌}
use Rattle.al_typed.specs.declared.ty.Ty.{Ty}
use Rattle.al_meaning.specs.Words.{bits_of, sum, negated, stepped_by, elements_between, integer_words}
use Rattle.al_meaning.specs.Shown.{kind_of}
use Rattle.al_meaning.specs.Tasks.{Still, Outcome, Env, Rest, Task}
use Rattle.al_meaning.specs.Told.{value, needed}
use Rattle.al_ir.specs.declared.op.Op.{Op}
use Rattle.al_ir.specs.declared.op.Op.TheVariants.{Offset, Advance, Between}
use Rattle.al_ir.specs.Control.{Slots, put}
use Rattle.al_lower_words.specs.Units.{AreOf}
use Rattle.al_lower_words.proofs.Integers.{one_word, one_fits, wrapped_32}
use Rattle.al_lower_code.specs.Homes.{here}
use Rattle.al_lower_code.specs.Operators.{step_bytes}
use Rattle.al_lower_code.specs.Coded.{Coded, operand_slot, operand_code, first_slot}
use Rattle.al_lower_code.specs.Values.{pair_code, advance_coded, difference_coded}
use Rattle.al_lower_steps.specs.Slots.{Holds, Outside}
use Rattle.al_lower_steps.specs.Site.{HasOperation}
use Rattle.al_lower_steps.proofs.Slots.{put_same, put_outside}
use Rattle.al_lower_steps.proofs.Steps.{moved, comes_out, has_front, has_back}
use Rattle.al_lower_steps.proofs.Plain.{offset_does, advance_does, between_does}
use Rattle.al_lower_claims.proofs.Variables.{Stays, put_outside_is}
use Rattle.al_lower_claims.proofs.Claims.{Setting, scene, site, spot, Run, HasVars, UnitsOf, count_of, IsWord, GoesOn, ValueDoes, CodedDoes}
use Rattle.al_lower_claims.proofs.Operands.{both_true, operand_does, pair_does}
use Rattle.al_lower_claims.proofs.Plain.{valued_does}

module _ (k : Setting) where
  pub word_fits : (t : Ty) → IsWord k t → (w : ℕ) → w < 2 ^ 32 → UnitsOf k t (w ∷ [])
  word_fits t word w small = subst (λ us. AreOf us (w ∷ [])) (sym word.units) (one_fits 0 w small)

  -- what an operation does that sets a slot from one or two others
  abbrev pub Sets : (ℕ → ℕ → ℕ) → (ℕ → ℕ → ℕ → Op) → Type 0
  Sets f op = (o : Outcome) (pc dest i j a b : ℕ) (slots last : Slots) (s : Still) → HasOperation (site k) pc k.ways.line (op dest i j) → slots i ≡ Some a → slots j ≡ Some b → Run k o (pc + 1) (put dest (f a b) slots) last s → Run k o pc slots last s

  abbrev pub SetsOne : (ℕ → ℕ) → (ℕ → ℕ → Op) → Type 0
  SetsOne f op = (o : Outcome) (pc dest i a : ℕ) (slots last : Slots) (s : Still) → HasOperation (site k) pc k.ways.line (op dest i) → slots i ≡ Some a → Run k o (pc + 1) (put dest (f a) slots) last s → Run k o pc slots last s

  -- a word goes where it is wanted
  word_goes : (t : Ty) → IsWord k t → (keeps : Bool) (w dest to pc : ℕ) (slots now last : Slots) (env env2 : Env) (s : Still) (next : Option (List ℕ) → Rest) → w < 2 ^ 32 → HasVars k env2 now → Stays (scene k) to now slots → (keeps ≡ true → env2 ≡ env) → GoesOn k t keeps false env slots next dest to pc → Run k (next (Some (w ∷ [])) env2 s) pc (put dest w now) last s
  word_goes t word keeps w dest to pc slots now last env env2 s next small vars st same go =
      go (Some (w ∷ [])) env2 s now (put dest w now) last (word.not_void, word_fits t word w small) vars st (put_outside_is (count_of k t) dest to (put dest w now) now (subst (λ n. Outside dest n (put dest w now) now) (sym word.counts) (put_outside dest w now))) (put_same now dest w, tt) same (λ e. absurd (cc))

  module _ {m o : Task (Option (List ℕ))} {t u v : Ty} {left right : Coded} (wt : IsWord k t) (wu : IsWord k u) (wv : IsWord k v) (hl : CodedDoes k m u left) (hr : CodedDoes k o v right) where
    abbrev pub two_mean : (ℕ → ℕ → ℕ) → Task (Option (List ℕ))
    two_mean f env s next = value m env s (λ x env s. value o env s (λ y env s. next (Some (f (bits_of x) (bits_of y) ∷ [])) env s))

    pub two_set : (f : ℕ → ℕ → ℕ) (op : ℕ → ℕ → ℕ → Op) → ((a b : ℕ) → f a b < 2 ^ 32) → Sets f op → ValueDoes k (two_mean f) t (left.keeps && right.keeps) false (λ dest to. pair_code 1 left right to ++ here (spot k) (op dest (first_slot left right to) (operand_slot right (to + 1))))
    two_set f op small sets = record {
      by = λ dest to pc slots last env s next d room vars has go.
          let ca = pair_code 1 left right to in
          let cb = here (spot k) (op dest (first_slot left right to) (operand_slot right (to + 1))) in
          pair_does k hl hr wu.not_void wv.not_void 1 (sym (ap length wu.units)) to pc slots last env s (λ x y env s. next (Some (f (bits_of x) (bits_of y) ∷ [])) env s) room vars (has_front (site k) pc ca cb has) (λ x y env2 s now last2 fx fy vars2 st2 hx hy same.
          let one = one_word 0 x (subst (λ us. AreOf us x) wu.units fx) in
          let two = one_word 0 y (subst (λ us. AreOf us y) wv.units fy) in
          let is : f (bits_of x) (bits_of y) ≡ f one.word two.word = ap (λ q. f (bits_of q) (bits_of y)) one.is ∙ ap (λ q. f one.word (bits_of q)) two.is in
          let len : pc + length ca + 1 ≡ pc + length (ca ++ cb) = omega (arith, length-append ca cb) in
          comes_out (site k) (ap (λ w. next (Some (w ∷ [])) env2 s) is)
          (sets _ (pc + length ca) dest (first_slot left right to) (operand_slot right (to + 1)) one.word two.word now last2 s (has_back (site k) pc ca cb has).0 (subst (Holds now (first_slot left right to)) one.is hx).0 (subst (Holds now (operand_slot right (to + 1))) two.is hy).0
          (moved (site k) len (word_goes t wt (left.keeps && right.keeps) (f one.word two.word) dest to (pc + length (ca ++ cb)) slots now last2 env env2 s next (small one.word two.word) vars2 st2 same go))));
    }

    -- the second one is a constant, whose code is left out
    pub one_set : (f : ℕ → ℕ → ℕ) (g : ℕ → ℕ) (op : ℕ → ℕ → Op) (bits : ℕ) → right.known ≡ Some bits → integer_words (kind_of v) bits ≡ bits ∷ [] → ((a b : ℕ) → f a b < 2 ^ 32) → ((a : ℕ) → f a bits ≡ g a) → SetsOne g op → ValueDoes k (two_mean f) t (left.keeps && right.keeps) false (λ dest to. operand_code left to ++ here (spot k) (op dest (operand_slot left to)))
    one_set f g op bits known words small same_value sets = record {
      by = λ dest to pc slots last env s next d room vars has go.
          let ca = operand_code left to in
          let cb = here (spot k) (op dest (operand_slot left to)) in
          let constant = hr.known bits known in
          operand_does k hl wu.not_void to pc slots last env s (λ x env s. value o env s (λ y env s. next (Some (f (bits_of x) (bits_of y) ∷ [])) env s)) room vars (has_front (site k) pc ca cb has) (λ x env2 s now last2 fx vars2 st2 hx same.
          let one = one_word 0 x (subst (λ us. AreOf us x) wu.units fx) in
          let y = integer_words (kind_of v) bits in
          let is : f (bits_of x) (bits_of y) ≡ g one.word = ap (λ q. f (bits_of q) (bits_of y)) one.is ∙ (ap (λ q. f one.word (bits_of q)) words ∙ same_value one.word) in
          let less : g one.word < 2 ^ 32 = subst (λ n. n < 2 ^ 32) (same_value one.word) (small one.word bits) in
          let len : pc + length ca + 1 ≡ pc + length (ca ++ cb) = omega (arith, length-append ca cb) in
          comes_out (site k) (constant.means env2 s (λ p env s. needed p env s (λ y env s. next (Some (f (bits_of x) (bits_of y) ∷ [])) env s)))
          (comes_out (site k) (ap (λ w. next (Some (w ∷ [])) env2 s) is)
          (sets _ (pc + length ca) dest (operand_slot left to) one.word now last2 s (has_back (site k) pc ca cb has).0 (subst (Holds now (operand_slot left to)) one.is hx).0
          (moved (site k) len (word_goes t wt (left.keeps && right.keeps) (g one.word) dest to (pc + length (ca ++ cb)) slots now last2 env env2 s next less vars2 st2 (λ e. same (both_true left.keeps right.keeps e).0) go)))));
    }

    stepped_small : (back : Bool) (size a n : ℕ) → stepped_by back size a n < 2 ^ 32
    stepped_small true size a n = omega arith
    stepped_small false size a n = omega arith

    sum_cut : (a n : ℕ) → sum a n ≡ sum a (n % 2 ^ 32)
    sum_cut a n = omega arith

    stepped_is : (back : Bool) (size n a : ℕ) → stepped_by back size a n ≡ sum a (step_bytes back size n)
    stepped_is true size n a = sum_cut a (negated (n * size))
    stepped_is false size n a = sum_cut a (n * size)

    -- a pointer, and then a count
    pub advance_coded_does : (back : Bool) (size : ℕ) → ((bits : ℕ) → right.known ≡ Some bits → integer_words (kind_of v) bits ≡ bits ∷ []) → CodedDoes k (two_mean (stepped_by back size)) t (advance_coded (spot k) t back size left right)
    advance_coded_does back size words = valued_does k (left.keeps && right.keeps) _ (on right.known refl)
      where
        on : (c : Option ℕ) → right.known ≡ c → ValueDoes k (two_mean (stepped_by back size)) t (left.keeps && right.keeps) false (λ dest to. elim c [ Some n ↦ operand_code left to ++ here (spot k) (Offset dest (operand_slot left to) (step_bytes back size n)) | None ↦ pair_code 1 left right to ++ here (spot k) (Advance back size dest (first_slot left right to) (operand_slot right (to + 1))) ])
        on (Some n) e = one_set (stepped_by back size) (λ a. sum a (step_bytes back size n)) (λ dest i. Offset dest i (step_bytes back size n)) n e (words n e) (stepped_small back size) (stepped_is back size n) (λ o pc dest i a slots last s h there r. offset_does (site k) h there r)
        on None e = two_set (stepped_by back size) (λ dest i j. Advance back size dest i j) (stepped_small back size) (λ o pc dest i j a b slots last s h x y r. advance_does (site k) h x y r)

    between_small : (size a b : ℕ) → elements_between size a b < 2 ^ 32
    between_small size a b = wrapped_32 _

    pub difference_does : (size : ℕ) → CodedDoes k (two_mean (elements_between size)) t (difference_coded (spot k) t size left right)
    difference_does size = valued_does k (left.keeps && right.keeps) _ (two_set (elements_between size) (λ dest i j. Between size dest i j) (between_small size) (λ o pc dest i j a b slots last s h x y r. between_does (site k) h x y r))
