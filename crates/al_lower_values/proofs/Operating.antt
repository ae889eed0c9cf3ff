-- One operation of an operator, where its operands stand in slots.
use Rattle.std.proofs.Common.{◌≡◌, ℕ, ◌+◌, ◌%◌, ◌/◌, ◌^◌, ◌<◌, List, [], ◌∷◌, length, Option, Some, refl, sym, ap, ◌∙◌, subst, subst₂, arith}
use Rattle.std.specs.Prelude.{Bool, true, false, if◌then◌else◌, option_map}
use Rattle.al_base.specs.Arith.{width_of, applied, wrapped, one_where}
use Rattle.al_base.specs.declared.arith.Kind.{Kind}
use Rattle.al_base.specs.declared.arith.Kind.TheVariants as kind
use Rattle.al_typed.specs.declared.ty.Ty.TheVariants as ty
use Rattle.al_typed.specs.declared.expression.BinaryOp.{BinaryOp}
use Rattle.al_typed.specs.declared.expression.BinaryOp.TheVariants as binary
use Rattle.al_typed.specs.declared.program.Program.{Program}
use Rattle.al_typed.specs.Types.{promoted}
use Rattle.al_typed.specs.Layout.{unit_at}
use Rattle.al_typed.specs.WellTyped.{result_kind}
use Rattle.al_meaning.specs.Words.{bits_of, integer_words, computed, operated, truth}
use Rattle.al_meaning.specs.Here.{units_in}
use Rattle.al_meaning.specs.Tasks.{Still, Outcome, Env, Rest, Ways}
use Rattle.al_meaning.specs.Told.{quotient}
use Rattle.al_ir.specs.declared.op.Op.TheVariants.{Word, WordBy, Long}
use Rattle.al_ir.specs.Control.{Slots, put, put_all}
use Rattle.al_ir.specs.Step.{word_kind, long_kind, long_words, pair}
use Rattle.al_lower_words.specs.Units.{AreOf}
use Rattle.al_lower_words.proofs.Integers.{units_of_kind, one_word, two_words, one_fits, two_fit, applied_small, wrapped_32, wrapped_64, low_small, high_small}
use Rattle.al_lower_code.specs.Operators.{arith_of, is_swapped, compares, operator}
use Rattle.al_lower_steps.specs.Slots.{Holds, Outside}
use Rattle.al_lower_steps.specs.Site.{Site, HasOperation}
use Rattle.al_lower_steps.proofs.Slots.{put_all_outside, put_all_holds}
use Rattle.al_lower_steps.proofs.Steps.{Runs, comes_out}
use Rattle.al_lower_steps.proofs.Plain.{word_does, word_by_does, long_does}

-- ---- what an operator gives

-- by its operation, with the operands in its order
pub computed_is : (op : BinaryOp) (k : Kind) (a b : ℕ) → computed op k a b ≡ (if is_swapped op then applied (arith_of op) k b a else applied (arith_of op) k a b)
computed_is binary.Multiply k a b = refl
computed_is binary.Divide k a b = refl
computed_is binary.Remainder k a b = refl
computed_is binary.Add k a b = refl
computed_is binary.Subtract k a b = refl
computed_is binary.ShiftLeft k a b = refl
computed_is binary.ShiftRight k a b = refl
computed_is binary.BitAnd k a b = refl
computed_is binary.BitXor k a b = refl
computed_is binary.BitOr k a b = refl
computed_is binary.Less k a b = refl
computed_is binary.Greater k a b = refl
computed_is binary.LessEqual k a b = refl
computed_is binary.GreaterEqual k a b = refl
computed_is binary.Equal k a b = refl
computed_is binary.NotEqual k a b = refl

pub computed_below : (w : ℕ) (op : BinaryOp) (k : Kind) (a b z : ℕ) → width_of k ≡ w → ((i : _) → wrapped w i < 2 ^ w) → computed op k a b ≡ Some z → z < 2 ^ w
computed_below w op k a b z e h q = on (is_swapped op) (sym (computed_is op k a b) ∙ q)
  where
    on : (c : Bool) → (if c then applied (arith_of op) k b a else applied (arith_of op) k a b) ≡ Some z → z < 2 ^ w
    on true x = applied_small w k (arith_of op) b a z e h x
    on false x = applied_small w k (arith_of op) a b z e h x

-- on 32 bits it is one word
pub result_words : (op : BinaryOp) (signed : Bool) (z : ℕ) → integer_words (result_kind op (word_kind signed)) z ≡ z ∷ []
result_words binary.Less true z = refl
result_words binary.Less false z = refl
result_words binary.Greater true z = refl
result_words binary.Greater false z = refl
result_words binary.LessEqual true z = refl
result_words binary.LessEqual false z = refl
result_words binary.GreaterEqual true z = refl
result_words binary.GreaterEqual false z = refl
result_words binary.Equal true z = refl
result_words binary.Equal false z = refl
result_words binary.NotEqual true z = refl
result_words binary.NotEqual false z = refl
result_words _ true z = refl
result_words _ false z = refl

result_units : (op : BinaryOp) (signed : Bool) (p : Program) → units_in p (ty.Integer (result_kind op (word_kind signed))) ≡ unit_at 0 4 ∷ []
result_units binary.Less true p = units_of_kind p kind.Int
result_units binary.Less false p = units_of_kind p kind.Int
result_units binary.Greater true p = units_of_kind p kind.Int
result_units binary.Greater false p = units_of_kind p kind.Int
result_units binary.LessEqual true p = units_of_kind p kind.Int
result_units binary.LessEqual false p = units_of_kind p kind.Int
result_units binary.GreaterEqual true p = units_of_kind p kind.Int
result_units binary.GreaterEqual false p = units_of_kind p kind.Int
result_units binary.Equal true p = units_of_kind p kind.Int
result_units binary.Equal false p = units_of_kind p kind.Int
result_units binary.NotEqual true p = units_of_kind p kind.Int
result_units binary.NotEqual false p = units_of_kind p kind.Int
result_units _ true p = units_of_kind p kind.Int
result_units _ false p = units_of_kind p kind.Uint

-- on 64 bits, as many words as its operation gives
long_result : (op : BinaryOp) (signed : Bool) (z : ℕ) → integer_words (result_kind op (long_kind signed)) z ≡ long_words (arith_of op) z
long_result binary.Less true z = refl
long_result binary.Less false z = refl
long_result binary.Greater true z = refl
long_result binary.Greater false z = refl
long_result binary.LessEqual true z = refl
long_result binary.LessEqual false z = refl
long_result binary.GreaterEqual true z = refl
long_result binary.GreaterEqual false z = refl
long_result binary.Equal true z = refl
long_result binary.Equal false z = refl
long_result binary.NotEqual true z = refl
long_result binary.NotEqual false z = refl
long_result _ true z = refl
long_result _ false z = refl

some_same : (m n : ℕ) → Some m ≡ Some n → m ≡ n
some_same m n e = cc

truth_small : (b : Bool) (z : ℕ) → Some (wrapped 64 (one_where b)) ≡ Some z → z < 2 ^ 32
truth_small true z e = subst (λ n. n < 2 ^ 32) (some_same _ _ e) (omega arith)
truth_small false z e = subst (λ n. n < 2 ^ 32) (some_same _ _ e) (omega arith)

one_fits_of : (p : Program) (z : ℕ) → z < 2 ^ 32 → AreOf (units_in p (ty.Integer kind.Int)) (z ∷ [])
one_fits_of p z h = subst (λ us. AreOf us (z ∷ [])) (sym (units_of_kind p kind.Int)) (one_fits 0 z h)

two_fit_of : (p : Program) (k : Kind) (z : ℕ) → units_in p (ty.Integer k) ≡ unit_at 0 4 ∷ unit_at 4 4 ∷ [] → z < 2 ^ 64 → AreOf (units_in p (ty.Integer k)) (z % 2 ^ 32 ∷ z / 2 ^ 32 ∷ [])
two_fit_of p k z e h = subst (λ us. AreOf us (z % 2 ^ 32 ∷ z / 2 ^ 32 ∷ [])) (sym e) (two_fit 0 4 (z % 2 ^ 32) (z / 2 ^ 32) (low_small z) (high_small z h))

pub word_fits : (op : BinaryOp) (signed : Bool) (p : Program) (a b z : ℕ) → computed op (word_kind signed) a b ≡ Some z → AreOf (units_in p (ty.Integer (result_kind op (word_kind signed)))) (integer_words (result_kind op (word_kind signed)) z)
word_fits op signed p a b z e = subst₂ AreOf (sym (result_units op signed p)) (sym (result_words op signed z)) (one_fits 0 z (computed_below 32 op (word_kind signed) a b z (width_word signed) wrapped_32 e))
  where
    width_word : (signed : Bool) → width_of (word_kind signed) ≡ 32
    width_word true = refl
    width_word false = refl

long_fits : (op : BinaryOp) (signed : Bool) (p : Program) (a b z : ℕ) → computed op (long_kind signed) a b ≡ Some z → AreOf (units_in p (ty.Integer (result_kind op (long_kind signed)))) (integer_words (result_kind op (long_kind signed)) z)
long_fits binary.Less true p a b z e = one_fits_of p z (truth_small _ z e)
long_fits binary.Less false p a b z e = one_fits_of p z (truth_small _ z e)
long_fits binary.Greater true p a b z e = one_fits_of p z (truth_small _ z e)
long_fits binary.Greater false p a b z e = one_fits_of p z (truth_small _ z e)
long_fits binary.LessEqual true p a b z e = one_fits_of p z (truth_small _ z e)
long_fits binary.LessEqual false p a b z e = one_fits_of p z (truth_small _ z e)
long_fits binary.GreaterEqual true p a b z e = one_fits_of p z (truth_small _ z e)
long_fits binary.GreaterEqual false p a b z e = one_fits_of p z (truth_small _ z e)
long_fits binary.Equal true p a b z e = one_fits_of p z (truth_small _ z e)
long_fits binary.Equal false p a b z e = one_fits_of p z (truth_small _ z e)
long_fits binary.NotEqual true p a b z e = one_fits_of p z (truth_small _ z e)
long_fits binary.NotEqual false p a b z e = one_fits_of p z (truth_small _ z e)
long_fits op true p a b z e = two_fit_of p kind.Lint z (units_of_kind p kind.Lint) (computed_below 64 op kind.Lint a b z refl wrapped_64 e)
long_fits op false p a b z e = two_fit_of p kind.Ulint z (units_of_kind p kind.Ulint) (computed_below 64 op kind.Ulint a b z refl wrapped_64 e)

-- ---- comparisons give 0 or 1

one_wrapped : (k : Kind) → wrapped (width_of k) (one_where true) ≡ 1
one_wrapped kind.Byte = refl
one_wrapped kind.Sint = refl
one_wrapped kind.Usint = refl
one_wrapped kind.Int = refl
one_wrapped kind.Uint = refl
one_wrapped kind.Lint = refl
one_wrapped kind.Ulint = refl

zero_wrapped : (k : Kind) → wrapped (width_of k) (one_where false) ≡ 0
zero_wrapped kind.Byte = refl
zero_wrapped kind.Sint = refl
zero_wrapped kind.Usint = refl
zero_wrapped kind.Int = refl
zero_wrapped kind.Uint = refl
zero_wrapped kind.Lint = refl
zero_wrapped kind.Ulint = refl

truth_word : (k : Kind) (b : Bool) (z : ℕ) → Some (wrapped (width_of k) (one_where b)) ≡ Some z → (c : Bool) × (z ∷ [] ≡ truth c)
truth_word k true z e = (true, ap (λ n. n ∷ []) (sym (some_same _ _ e) ∙ one_wrapped k))
truth_word k false z e = (false, ap (λ n. n ∷ []) (sym (some_same _ _ e) ∙ zero_wrapped k))

pub compared_truth : (op : BinaryOp) (k : Kind) (a b z : ℕ) → compares op ≡ true → computed op k a b ≡ Some z → (c : Bool) × (integer_words (result_kind op k) z ≡ truth c)
compared_truth binary.Less k a b z c e = truth_word k _ z e
compared_truth binary.Greater k a b z c e = truth_word k _ z e
compared_truth binary.LessEqual k a b z c e = truth_word k _ z e
compared_truth binary.GreaterEqual k a b z c e = truth_word k _ z e
compared_truth binary.Equal k a b z c e = truth_word k _ z e
compared_truth binary.NotEqual k a b z c e = truth_word k _ z e
compared_truth _ k a b z c e = absurd (cc)

-- ---- the operation

module _ (x : Site) (w : Ways) (pc to : ℕ) (slots last : Slots) (env : Env) (s : Still) (next : Option (List ℕ) → Rest) where
  -- the value goes into slots from one on
  abbrev pub Goes : BinaryOp → Kind → List ℕ → Type 0
  Goes op k z = (now : Slots) → Outside to (length z) now slots → Holds now to z → Runs x (next (Some z) env s) (pc + 1) now last s

  abbrev pub GoesOn : BinaryOp → Kind → (u v : ℕ) → Type 0
  GoesOn op k u v = (z : ℕ) → computed op k u v ≡ Some z → AreOf (units_in w.program (ty.Integer (result_kind op k))) (integer_words (result_kind op k) z) → Goes op k (integer_words (result_kind op k) z)

  abbrev comes : BinaryOp → Kind → Option ℕ → Outcome
  comes op k c = quotient w (option_map (integer_words (result_kind op k)) c) env s next

  word_goes : (op : BinaryOp) (signed : Bool) (u v z : ℕ) → computed op (word_kind signed) u v ≡ Some z → GoesOn op (word_kind signed) u v → Runs x (comes op (word_kind signed) (Some z)) (pc + 1) (put to z slots) last s
  word_goes op signed u v z e go =
      let ws = integer_words (result_kind op (word_kind signed)) z in
      let is : put_all to ws slots ≡ put to z slots = ap (λ v. put_all to v slots) (result_words op signed z) in
      subst (λ now. Runs x (comes op (word_kind signed) (Some z)) (pc + 1) now last s) is (go z e (word_fits op signed w.program u v z e) (put_all to ws slots) (put_all_outside ws to slots) (put_all_holds ws to slots))

  word_operates : (op : BinaryOp) (signed : Bool) (a b u v : ℕ) → slots a ≡ Some u → slots b ≡ Some v → HasOperation x pc w.line (if is_swapped op then Word (arith_of op) signed to b a else Word (arith_of op) signed to a b) → GoesOn op (word_kind signed) u v → Runs x (comes op (word_kind signed) (computed op (word_kind signed) u v)) pc slots last s
  word_operates op signed a b u v hu hv has go = on (is_swapped op) (computed_is op (word_kind signed) u v) has
    where
      on : (sw : Bool) → computed op (word_kind signed) u v ≡ (if sw then applied (arith_of op) (word_kind signed) v u else applied (arith_of op) (word_kind signed) u v) → HasOperation x pc w.line (if sw then Word (arith_of op) signed to b a else Word (arith_of op) signed to a b) → Runs x (comes op (word_kind signed) (computed op (word_kind signed) u v)) pc slots last s
      on true e has = comes_out x (ap (comes op (word_kind signed)) e) (word_does x (comes op (word_kind signed)) has hv hu refl (λ z q. word_goes op signed u v z (e ∙ q) go))
      on false e has = comes_out x (ap (comes op (word_kind signed)) e) (word_does x (comes op (word_kind signed)) has hu hv refl (λ z q. word_goes op signed u v z (e ∙ q) go))

  long_goes : (op : BinaryOp) (signed : Bool) (u v z : ℕ) → computed op (long_kind signed) u v ≡ Some z → GoesOn op (long_kind signed) u v → Runs x (comes op (long_kind signed) (Some z)) (pc + 1) (put_all to (long_words (arith_of op) z) slots) last s
  long_goes op signed u v z e go =
      let ws = integer_words (result_kind op (long_kind signed)) z in
      let is : put_all to ws slots ≡ put_all to (long_words (arith_of op) z) slots = ap (λ v. put_all to v slots) (long_result op signed z) in
      subst (λ now. Runs x (comes op (long_kind signed) (Some z)) (pc + 1) now last s) is (go z e (long_fits op signed w.program u v z e) (put_all to ws slots) (put_all_outside ws to slots) (put_all_holds ws to slots))

  long_operates : (op : BinaryOp) (signed : Bool) (a b u0 u1 v0 v1 : ℕ) → Holds slots a (u0 ∷ u1 ∷ []) → Holds slots b (v0 ∷ v1 ∷ []) → HasOperation x pc w.line (if is_swapped op then Long (arith_of op) signed to b a else Long (arith_of op) signed to a b) → GoesOn op (long_kind signed) (pair u0 u1) (pair v0 v1) → Runs x (comes op (long_kind signed) (computed op (long_kind signed) (pair u0 u1) (pair v0 v1))) pc slots last s
  long_operates op signed a b u0 u1 v0 v1 hu hv has go = on (is_swapped op) (computed_is op (long_kind signed) (pair u0 u1) (pair v0 v1)) has
    where
      on : (sw : Bool) → computed op (long_kind signed) (pair u0 u1) (pair v0 v1) ≡ (if sw then applied (arith_of op) (long_kind signed) (pair v0 v1) (pair u0 u1) else applied (arith_of op) (long_kind signed) (pair u0 u1) (pair v0 v1)) → HasOperation x pc w.line (if sw then Long (arith_of op) signed to b a else Long (arith_of op) signed to a b) → Runs x (comes op (long_kind signed) (computed op (long_kind signed) (pair u0 u1) (pair v0 v1))) pc slots last s
      on true e has = comes_out x (ap (comes op (long_kind signed)) e) (long_does x (comes op (long_kind signed)) has hv hu refl (λ z q. long_goes op signed (pair u0 u1) (pair v0 v1) z (e ∙ q) go))
      on false e has = comes_out x (ap (comes op (long_kind signed)) e) (long_does x (comes op (long_kind signed)) has hu hv refl (λ z q. long_goes op signed (pair u0 u1) (pair v0 v1) z (e ∙ q) go))

  -- The operands are values of the kind, which stand from `a` and `b` on. The value is one of the operator's kind, or it traps.
  pub operates : (op : BinaryOp) (k : Kind) → promoted k ≡ k → (p q : List ℕ) → AreOf (units_in w.program (ty.Integer k)) p → AreOf (units_in w.program (ty.Integer k)) q → (a b : ℕ) → Holds slots a p → Holds slots b q → HasOperation x pc w.line (operator op k to a b) → GoesOn op k (bits_of p) (bits_of q) → Runs x (quotient w (operated op k p q) env s next) pc slots last s
  operates op kind.Int e p q fp fq a b hp hq has go =
      let u = one_word 0 p (subst (λ us. AreOf us p) (units_of_kind w.program kind.Int) fp) in
      let v = one_word 0 q (subst (λ us. AreOf us q) (units_of_kind w.program kind.Int) fq) in
      let bp : bits_of p ≡ u.word = ap bits_of u.is in let bq : bits_of q ≡ v.word = ap bits_of v.is in
      comes_out x (ap (λ c. comes op kind.Int c) (ap (λ m. computed op kind.Int m (bits_of q)) bp ∙ ap (computed op kind.Int u.word) bq))
      (word_operates op true a b u.word v.word (subst (Holds slots a) u.is hp).0 (subst (Holds slots b) v.is hq).0 has (subst₂ (GoesOn op kind.Int) bp bq go))
  operates op kind.Uint e p q fp fq a b hp hq has go =
      let u = one_word 0 p (subst (λ us. AreOf us p) (units_of_kind w.program kind.Uint) fp) in
      let v = one_word 0 q (subst (λ us. AreOf us q) (units_of_kind w.program kind.Uint) fq) in
      let bp : bits_of p ≡ u.word = ap bits_of u.is in let bq : bits_of q ≡ v.word = ap bits_of v.is in
      comes_out x (ap (λ c. comes op kind.Uint c) (ap (λ m. computed op kind.Uint m (bits_of q)) bp ∙ ap (computed op kind.Uint u.word) bq))
      (word_operates op false a b u.word v.word (subst (Holds slots a) u.is hp).0 (subst (Holds slots b) v.is hq).0 has (subst₂ (GoesOn op kind.Uint) bp bq go))
  operates op kind.Lint e p q fp fq a b hp hq has go =
      let u = two_words 0 4 p (subst (λ us. AreOf us p) (units_of_kind w.program kind.Lint) fp) in
      let v = two_words 0 4 q (subst (λ us. AreOf us q) (units_of_kind w.program kind.Lint) fq) in
      let bp : bits_of p ≡ pair u.low u.high = ap bits_of u.is in let bq : bits_of q ≡ pair v.low v.high = ap bits_of v.is in
      comes_out x (ap (λ c. comes op kind.Lint c) (ap (λ m. computed op kind.Lint m (bits_of q)) bp ∙ ap (computed op kind.Lint (pair u.low u.high)) bq))
      (long_operates op true a b u.low u.high v.low v.high (subst (Holds slots a) u.is hp) (subst (Holds slots b) v.is hq) has (subst₂ (GoesOn op kind.Lint) bp bq go))
  operates op kind.Ulint e p q fp fq a b hp hq has go =
      let u = two_words 0 4 p (subst (λ us. AreOf us p) (units_of_kind w.program kind.Ulint) fp) in
      let v = two_words 0 4 q (subst (λ us. AreOf us q) (units_of_kind w.program kind.Ulint) fq) in
      let bp : bits_of p ≡ pair u.low u.high = ap bits_of u.is in let bq : bits_of q ≡ pair v.low v.high = ap bits_of v.is in
      comes_out x (ap (λ c. comes op kind.Ulint c) (ap (λ m. computed op kind.Ulint m (bits_of q)) bp ∙ ap (computed op kind.Ulint (pair u.low u.high)) bq))
      (long_operates op false a b u.low u.high v.low v.high (subst (Holds slots a) u.is hp) (subst (Holds slots b) v.is hq) has (subst₂ (GoesOn op kind.Ulint) bp bq go))
  operates op kind.Byte e p q fp fq a b hp hq has go = absurd (cc)
  operates op kind.Sint e p q fp fq a b hp hq has go = absurd (cc)
  operates op kind.Usint e p q fp fq a b hp hq has go = absurd (cc)

  -- the right side is a constant of 12 bits
  pub operates_by : (op : BinaryOp) (signed : Bool) (u n a : ℕ) → is_swapped op ≡ false → slots a ≡ Some u → HasOperation x pc w.line (WordBy (arith_of op) signed to a n) → GoesOn op (word_kind signed) u n → Runs x (quotient w (option_map (integer_words (result_kind op (word_kind signed))) (computed op (word_kind signed) u n)) env s next) pc slots last s
  operates_by op signed u n a sw hu has go =
      let e : computed op (word_kind signed) u n ≡ applied (arith_of op) (word_kind signed) u n = computed_is op (word_kind signed) u n ∙ ap (λ b. if b then applied (arith_of op) (word_kind signed) n u else applied (arith_of op) (word_kind signed) u n) sw in
      comes_out x (ap (comes op (word_kind signed)) e) (word_by_does x (comes op (word_kind signed)) has hu refl (λ z q. word_goes op signed u n z (e ∙ q) go))
