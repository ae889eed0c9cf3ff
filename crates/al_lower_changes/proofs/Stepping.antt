-- One more or less, in slots.
use Rattle.std.proofs.Common.{◌≡◌, ℕ, ◌+◌, ◌-◌, ◌*◌, ◌/◌, ◌%◌, ◌^◌, ◌<◌, ◌≤◌, nat_le, List, [], ◌∷◌, ◌++◌, length, Some, refl, sym, ap, ◌∙◌, subst, ◌⊎◌, inl, arith, length-append, ℤ, pos, ◌+ℤ◌, ◌-ℤ◌}
use Rattle.std.specs.Prelude.{Bool, true, false, if◌then◌else◌, unwrap_or, option_map, unsigned_abs}
use Rattle.std.proofs.lemmas.Int.{ints, int_rem_euclid_is}
use Rattle.std.proofs.lemmas.Nat.{pow_pos}
use Rattle.al_base.specs.Arith.{width_of, wrapped, integer_of}
use Rattle.al_base.specs.declared.arith.Kind.{Kind}
use Rattle.al_base.specs.declared.arith.Kind.TheVariants as kind
use Rattle.al_typed.specs.declared.ty.Ty.{Ty}
use Rattle.al_typed.specs.declared.ty.Ty.TheVariants as ty
use Rattle.al_typed.specs.declared.ty.Ty.TheViews.{out-Ty}
use Rattle.al_typed.specs.declared.ty.Ty.TheBlock.{hidden-the_row-Ty-0, shown-the_row-Ty-0}
use denote.Hole.Carrier.{hidden, out, shown}
use Rattle.al_typed.specs.declared.expression.BinaryOp.{BinaryOp}
use Rattle.al_typed.specs.declared.expression.BinaryOp.TheVariants as binary
use Rattle.al_typed.specs.Types.{promoted, is_void, is_array}
use Rattle.al_typed.specs.Layout.{unit_at}
use Rattle.al_typed.specs.WellTyped.{result_kind}
use Rattle.al_meaning.specs.Words.{bits_of, integer_words, computed, operated, sum, stepped_by}
use Rattle.al_meaning.specs.Here.{units_in, size_in}
use Rattle.al_meaning.specs.Evaluate.{next_value}
use Rattle.al_meaning.specs.Tasks.{Still, Outcome, Env}
use Rattle.al_meaning.specs.Told.{quotient}
use Rattle.al_ir.specs.declared.ir.Operation.{Operation}
use Rattle.al_ir.specs.declared.op.Op.TheVariants.{WordBy, Extract, Offset}
use Rattle.al_ir.specs.Control.{Slots, put}
use Rattle.al_ir.specs.Step.{word_kind}
use Rattle.al_lower_words.specs.Units.{AreOf}
use Rattle.al_lower_words.proofs.Integers.{length_of, words_are, units_of_kind, units_of_pointer, one_word, one_fits, integer_not_void, integer_not_array, pointer_not_void, pointer_not_array}
use Rattle.al_lower_code.specs.Homes.{operation, here}
use Rattle.al_lower_code.specs.Moving.{constants}
use Rattle.al_lower_code.specs.Operators.{arith_of, is_swapped, operator, step_operator, step_bytes, step_integer, step_code}
use Rattle.al_lower_steps.specs.Slots.{Holds, Outside}
use Rattle.al_lower_steps.specs.Site.{HasOperation}
use Rattle.al_lower_steps.proofs.Slots.{put_same, put_outside, holds_outside}
use Rattle.al_lower_steps.proofs.Steps.{moved, comes_out, sets, has_front, has_back}
use Rattle.al_lower_steps.proofs.Plain.{extract_does, offset_does}
use Rattle.al_lower_claims.proofs.Moving.{constants_do}
use Rattle.al_lower_claims.proofs.Variables.{Put}
use Rattle.al_lower_claims.proofs.Claims.{Setting, site, spot, Run, Has, UnitsOf, count_of}
use Rattle.al_lower_claims.proofs.Plain.{one_of}
use Rattle.al_lower_values.proofs.Operating.{operates, operates_by}
use Rattle.al_lower_integers.proofs.Constants.{integer_fits}
use Rattle.al_lower_conversions.proofs.Wrapping.{wrapped_within}
use Rattle.al_lower_conversions.proofs.Integers.{integer_counts}
use Rattle.al_lower_changes.proofs.Changing.{stepped_is, stepped_small}

abbrev pub next_of : Setting → (back : Bool) → Ty → List ℕ → List ℕ
next_of k back t v = next_value k.ways.program back t (out-Ty t) v

-- A value that stands in slots before `free` becomes the next one in slots of its own or in others. Below `free` only those change.
pub record StepDoes (k : Setting) (back : Bool) (t : Ty) : Type 0 where
  pub not_void : is_void t ≡ false
  pub not_array : is_array t ≡ false
  pub fits : (v : List ℕ) → UnitsOf k t v → UnitsOf k t (next_of k back t v)
  pub does : (to from free pc : ℕ) (v : List ℕ) (slots last : Slots) (s : Still) (o : Outcome) → Has k pc (step_code (spot k) back t to from free) → from + count_of k t ≤ free → Holds slots from v → UnitsOf k t v → ((now : Slots) → Put (count_of k t) to free now slots → Holds now to (next_of k back t v) → Run k o (pc + length (step_code (spot k) back t to from free)) now last s) → Run k o pc slots last s

-- ---- integers

abbrev step_op_of : Bool → BinaryOp
step_op_of back = if back then binary.Subtract else binary.Add

abbrev next_integer : Bool → Kind → List ℕ → List ℕ
next_integer back i ws = unwrap_or (operated (step_op_of back) i ws (integer_words i 1)) ws

rest_is : (w : ℕ) (z : ℤ) (k m : ℕ) → z +ℤ pos (k * 2 ^ w) ≡ pos m → wrapped w z ≡ m % 2 ^ w
rest_is w z k m e = ap unsigned_abs (int_rem_euclid_is z (pos (2 ^ w)) (2 ^ w) k m (pow_pos w) refl e)

-- a short number more or less, in 32 bits, keeps the lower ones
sint_more : (below : Bool) (a : ℕ) → a < 2 ^ 16 → wrapped 16 ((if below then pos a -ℤ pos (2 ^ 16) else pos a) +ℤ pos 1) ≡ (a + 1) % 2 ^ 16
sint_more true a lt = rest_is 16 (pos a -ℤ pos (2 ^ 16) +ℤ pos 1) 1 (a + 1) (omega (arith, ints, lt))
sint_more false a lt = refl

sint_less : (below : Bool) (a : ℕ) → a < 2 ^ 16 → wrapped 16 ((if below then pos a -ℤ pos (2 ^ 16) else pos a) -ℤ pos 1) ≡ (a + 2 ^ 16 - 1) % 2 ^ 16
sint_less true a lt = rest_is 16 (pos a -ℤ pos (2 ^ 16) -ℤ pos 1) 2 (a + 2 ^ 16 - 1) (omega (arith, ints, lt))
sint_less false a lt = rest_is 16 (pos a -ℤ pos 1) 1 (a + 2 ^ 16 - 1) (omega (arith, ints, lt))

word_less : (a : ℕ) → wrapped 32 (pos (a % 2 ^ 32) -ℤ pos 1) ≡ (a % 2 ^ 32 + 2 ^ 32 - 1) % 2 ^ 32
word_less a = rest_is 32 (pos (a % 2 ^ 32) -ℤ pos 1) 1 (a % 2 ^ 32 + 2 ^ 32 - 1) (omega (arith, ints))

-- of 1 byte and of 2
byte_cut : (n m : ℕ) → n % 256 ≡ m % 256 → n / 256 ^ 0 % 256 ^ 1 ≡ m % 256
byte_cut n m e = omega (arith, e)

short_cut : (n m : ℕ) → n % 2 ^ 16 ≡ m % 2 ^ 16 → n / 256 ^ 0 % 256 ^ 2 ≡ m % 2 ^ 16
short_cut n m e = omega (arith, e)

abbrev exact_step : Bool → Kind → ℕ → ℤ
exact_step back i a = if back then integer_of i a -ℤ integer_of i 1 else integer_of i a +ℤ integer_of i 1

-- the kinds of fewer than 32 bits, and how many bytes they have
pub data Short : Type 0 where
  byte : Short
  sint : Short
  usint : Short

abbrev short_kind : Short → Kind
short_kind byte = kind.Byte
short_kind sint = kind.Sint
short_kind usint = kind.Usint

abbrev short_size : Short → ℕ
short_size byte = 1
short_size sint = 2
short_size usint = 2

short_step : (back : Bool) (i : Short) (a : ℕ) → wrapped 32 (exact_step back kind.Uint a) / 256 ^ 0 % 256 ^ short_size i ≡ wrapped (width_of (short_kind i)) (exact_step back (short_kind i) a)
short_step false byte a = omega arith
short_step false usint a = omega arith
short_step false sint a =
    let lt : a % 2 ^ 16 < 2 ^ 16 = omega arith in
    let more = sint_more (nat_le (2 ^ 15) (a % 2 ^ 16)) (a % 2 ^ 16) lt in
    omega (arith, more)
short_step true byte a =
    let wide = word_less a in
    let narrow = rest_is 8 (pos (a % 2 ^ 8) -ℤ pos 1) 1 (a % 2 ^ 8 + 2 ^ 8 - 1) (omega (arith, ints)) in
    omega (arith, wide, narrow)
short_step true usint a =
    let wide = word_less a in
    let narrow = rest_is 16 (pos (a % 2 ^ 16) -ℤ pos 1) 1 (a % 2 ^ 16 + 2 ^ 16 - 1) (omega (arith, ints)) in
    omega (arith, wide, narrow)
short_step true sint a =
    let lt : a % 2 ^ 16 < 2 ^ 16 = omega arith in
    let wide = word_less a in
    let narrow = sint_less (nat_le (2 ^ 15) (a % 2 ^ 16)) (a % 2 ^ 16) lt in
    omega (arith, wide, narrow)

module _ (k : Setting) where
  -- where an operation puts the next value, and slots from `free` on serve it
  abbrev Steps : (back : Bool) → Kind → List Operation → (to from free : ℕ) → Type 0
  Steps back i code to from free =
      (pc : ℕ) (v : List ℕ) (slots last : Slots) (s : Still) (o : Outcome) → Has k pc code → from + count_of k (ty.Integer i) ≤ free → Holds slots from v → UnitsOf k (ty.Integer i) v → ((now : Slots) → Put (count_of k (ty.Integer i)) to free now slots → Holds now to (next_integer back i v) → Run k o (pc + length code) now last s) → Run k o pc slots last s

  next_fits : (back : Bool) (i : Kind) (v : List ℕ) → UnitsOf k (ty.Integer i) (next_integer back i v)
  next_fits true i v = integer_fits k i _ (wrapped_within (width_of i) _)
  next_fits false i v = integer_fits k i _ (wrapped_within (width_of i) _)

  no_env : Env
  no_env = record { locals = []; block = 0; around = []; turns = [] }

  one_small : (i : Kind) → 1 < 2 ^ width_of i
  one_small kind.Byte = omega arith
  one_small kind.Sint = omega arith
  one_small kind.Usint = omega arith
  one_small kind.Int = omega arith
  one_small kind.Uint = omega arith
  one_small kind.Lint = omega arith
  one_small kind.Ulint = omega arith

  -- no division
  always_some : (back : Bool) (i : Kind) (a b : List ℕ) (s : Still) (o : Outcome) → o ≡ quotient k.ways (operated (step_op_of back) i a b) no_env s (λ p env s. o)
  always_some true i a b s o = refl
  always_some false i a b s o = refl

  always_computed : (back : Bool) (signed : Bool) (a b : ℕ) (s : Still) (o : Outcome) → o ≡ quotient k.ways (option_map (integer_words (result_kind (step_op_of back) (word_kind signed))) (computed (step_op_of back) (word_kind signed) a b)) no_env s (λ p env s. o)
  always_computed true signed a b s o = refl
  always_computed false signed a b s o = refl

  next_is : (back : Bool) (i : Kind) (v : List ℕ) (z : ℕ) → computed (step_op_of back) i (bits_of v) (bits_of (integer_words i 1)) ≡ Some z → integer_words (result_kind (step_op_of back) i) z ≡ next_integer back i v
  next_is back i v z e = sym (ap (λ r. unwrap_or (option_map (integer_words (result_kind (step_op_of back) i)) r) v) e)

  next_length : (back : Bool) (i : Kind) (v : List ℕ) → length (next_integer back i v) ≡ count_of k (ty.Integer i)
  next_length back i v = length_of _ _ (next_fits back i v) ∙ sym (integer_counts k i)

  -- two words, by a constant in slots
  long_steps : (back : Bool) (i : Kind) → promoted i ≡ i → integer_words i 1 ≡ 1 ∷ 0 ∷ [] → (to from free : ℕ) → Steps back i (constants k.ways.line free (1 ∷ 0 ∷ []) ++ here (spot k) (operator (step_op_of back) i to from free)) to from free
  long_steps back i is_promoted one to from free pc v slots last s o has le holds fits go =
      let ca = constants k.ways.line free (1 ∷ 0 ∷ []) in
      let cb = here (spot k) (operator (step_op_of back) i to from free) in
      let len : pc + length ca + 1 ≡ pc + length (ca ++ cb) = omega (arith, length-append ca cb) in
      let lv : length v ≡ count_of k (ty.Integer i) = length_of _ _ fits ∙ sym (integer_counts k i) in
      constants_do (site k) (1 ∷ 0 ∷ []) k.ways.line free pc slots last s o (has_front (site k) pc ca cb has) (λ now1 out1 holds1.
      let held : Holds now1 from v = holds_outside v from free 2 now1 slots (inl (omega (arith, lv, le))) out1 holds in
      comes_out (site k) (always_some back i v (integer_words i 1) s o)
      (operates (site k) k.ways (pc + length ca) to now1 last no_env s (λ p env s. o) (step_op_of back) i is_promoted v (integer_words i 1) fits (integer_fits k i 1 (one_small i)) from free held (subst (Holds now1 free) (sym one) holds1) (has_back (site k) pc ca cb has).0 (λ z e f now3 out3 holds3.
      let is = next_is back i v z e in
      let count : length (integer_words (result_kind (step_op_of back) i) z) ≡ count_of k (ty.Integer i) = ap length is ∙ next_length back i v in
      moved (site k) len (go now3 (λ j lt a. subst (λ n. Outside to n now3 now1) count out3 j a ∙ out1 j (inl lt)) (subst (Holds now3 to) is holds3)))))

  -- one word
  word_steps : (back signed : Bool) → is_swapped (step_op_of back) ≡ false → (to from free : ℕ) → Steps back (word_kind signed) (here (spot k) (WordBy (arith_of (step_op_of back)) signed to from 1)) to from free
  word_steps back signed order to from free pc v slots last s o has le holds fits go =
      let one = one_word 0 v (subst (λ us. AreOf us v) (word_units signed) fits) in
      comes_out (site k) (always_computed back signed one.word 1 s o)
      (operates_by (site k) k.ways pc to slots last no_env s (λ p env s. o) (step_op_of back) signed one.word 1 from order (subst (Holds slots from) one.is holds).0 has.0 (λ z e f now3 out3 holds3.
      let is = next_is back (word_kind signed) v z (ap (λ n. computed (step_op_of back) (word_kind signed) n (bits_of (integer_words (word_kind signed) 1))) (ap bits_of one.is) ∙ (ap (λ n. computed (step_op_of back) (word_kind signed) one.word n) (ones signed) ∙ e)) in
      let count : length (integer_words (result_kind (step_op_of back) (word_kind signed)) z) ≡ count_of k (ty.Integer (word_kind signed)) = ap length is ∙ next_length back (word_kind signed) v in
      go now3 (λ j lt a. subst (λ n. Outside to n now3 slots) count out3 j a) (subst (Holds now3 to) is holds3)))
    where
      word_units : (signed : Bool) → units_in k.ways.program (ty.Integer (word_kind signed)) ≡ unit_at 0 4 ∷ []
      word_units true = units_of_kind k.ways.program kind.Int
      word_units false = units_of_kind k.ways.program kind.Uint

      ones : (signed : Bool) → bits_of (integer_words (word_kind signed) 1) ≡ 1
      ones true = refl
      ones false = refl

  -- less than one word: it is computed in 32 bits and cut
  short_steps : (back : Bool) (i : Short) (to from free : ℕ) → Steps back (short_kind i) (operation k.ways.line (WordBy (step_operator back) false to from 1) ∷ operation k.ways.line (Extract to to 0 (short_size i)) ∷ []) to from free
  short_steps back i to from free pc v slots last s o has le holds fits go =
      let one = one_of 0 0 v (length_of _ _ fits ∙ short_length i) in
      let held : slots from ≡ Some one.0 = (subst (Holds slots from) one.1 holds).0 in
      let z = wrapped 32 (exact_step back kind.Uint one.0) in
      let w = z / 256 ^ 0 % 256 ^ short_size i in
      let end : pc + 1 + 1 ≡ pc + 2 = omega arith in
      let count : 1 ≡ count_of k (ty.Integer (short_kind i)) = sym (ap length one.1) ∙ (length_of _ _ fits ∙ sym (integer_counts k (short_kind i))) in
      computes back one.0 held has.0
      (extract_does (site k) has.1.0 (put_same slots to z)
      (moved (site k) end (go (put to w (put to z slots)) (λ j lt a. let b : (j < to) ⊎ (to + 1 ≤ j) = subst (λ n. (j < to) ⊎ (to + n ≤ j)) (sym count) a in put_outside to w (put to z slots) j b ∙ put_outside to z slots j b) (subst (Holds (put to w (put to z slots)) to) (next_short back i one.0 ∙ ap (next_integer back (short_kind i)) (sym one.1)) (put_same (put to z slots) to w, tt)))))
    where
      computes : (back : Bool) (a : ℕ) → slots from ≡ Some a → HasOperation (site k) pc k.ways.line (WordBy (step_operator back) false to from 1) → Run k o (pc + 1) (put to (wrapped 32 (exact_step back kind.Uint a)) slots) last s → Run k o pc slots last s
      computes true a there has r = sets (site k) (put to (wrapped 32 (exact_step true kind.Uint a)) slots) has (rw there refl) r
      computes false a there has r = sets (site k) (put to (wrapped 32 (exact_step false kind.Uint a)) slots) has (rw there refl) r

      short_length : (i : Short) → length (units_in k.ways.program (ty.Integer (short_kind i))) ≡ 1
      short_length byte = ap length (units_of_kind k.ways.program kind.Byte)
      short_length sint = ap length (units_of_kind k.ways.program kind.Sint)
      short_length usint = ap length (units_of_kind k.ways.program kind.Usint)

      next_short : (back : Bool) (i : Short) (a : ℕ) → wrapped 32 (exact_step back kind.Uint a) / 256 ^ 0 % 256 ^ short_size i ∷ [] ≡ next_integer back (short_kind i) (a ∷ [])
      next_short true byte a = ap (λ n. n ∷ []) (short_step true byte a)
      next_short true sint a = ap (λ n. n ∷ []) (short_step true sint a)
      next_short true usint a = ap (λ n. n ∷ []) (short_step true usint a)
      next_short false byte a = ap (λ n. n ∷ []) (short_step false byte a)
      next_short false sint a = ap (λ n. n ∷ []) (short_step false sint a)
      next_short false usint a = ap (λ n. n ∷ []) (short_step false usint a)

  integer_step : (back : Bool) (i : Kind) (to from free : ℕ) → Steps back i (step_integer (spot k) back i to from free) to from free
  integer_step true kind.Byte to from free = short_steps true byte to from free
  integer_step true kind.Sint to from free = short_steps true sint to from free
  integer_step true kind.Usint to from free = short_steps true usint to from free
  integer_step true kind.Int to from free = word_steps true true refl to from free
  integer_step true kind.Uint to from free = word_steps true false refl to from free
  integer_step true kind.Lint to from free = long_steps true kind.Lint refl refl to from free
  integer_step true kind.Ulint to from free = long_steps true kind.Ulint refl refl to from free
  integer_step false kind.Byte to from free = short_steps false byte to from free
  integer_step false kind.Sint to from free = short_steps false sint to from free
  integer_step false kind.Usint to from free = short_steps false usint to from free
  integer_step false kind.Int to from free = word_steps false true refl to from free
  integer_step false kind.Uint to from free = word_steps false false refl to from free
  integer_step false kind.Lint to from free = long_steps false kind.Lint refl refl to from free
  integer_step false kind.Ulint to from free = long_steps false kind.Ulint refl refl to from free

  next_integer_is : (back : Bool) (i : Kind) (v : List ℕ) → next_of k back (ty.Integer i) v ≡ next_integer back i v
  unfolding out-Ty out
  next_integer_is back i v = refl

  pub integer_steps : (back : Bool) (i : Kind) → StepDoes k back (ty.Integer i)
  unfolding step_code out-Ty out
  integer_steps back i = record {
    not_void = integer_not_void i;
    not_array = integer_not_array i;
    fits = λ v h. next_fits back i v;
    does = λ to from free pc v slots last s o has le holds fits go. integer_step back i to from free pc v slots last s o has le holds fits go;
  }

  -- ---- pointers

  pointer_step : (back : Bool) (u : Ty) (to from pc : ℕ) (v : List ℕ) (slots last : Slots) (s : Still) (o : Outcome) → Has k pc (here (spot k) (Offset to from (step_bytes back (size_in k.ways.program u) 1))) → Holds slots from v → UnitsOf k (ty.Pointer u) v → ((now : Slots) → Outside to 1 now slots → Holds now to (stepped_by back (size_in k.ways.program u) (bits_of v) 1 ∷ []) → Run k o (pc + 1) now last s) → Run k o pc slots last s
  pointer_step back u to from pc v slots last s o has holds fits go =
      let one = one_word 0 v (subst (λ us. AreOf us v) (units_of_pointer k.ways.program u) fits) in
      let w = sum one.word (step_bytes back (size_in k.ways.program u) 1) in
      let is : w ≡ stepped_by back (size_in k.ways.program u) (bits_of v) 1 = sym (ap (λ q. stepped_by back (size_in k.ways.program u) (bits_of q) 1) one.is ∙ stepped_is back (size_in k.ways.program u) 1 one.word) in
      offset_does (site k) has.0 (subst (Holds slots from) one.is holds).0 (go (put to w slots) (put_outside to w slots) (put_same slots to w ∙ ap Some is, tt))

  pointer_fits : (back : Bool) (u : Ty) (v : List ℕ) → UnitsOf k (ty.Pointer u) (stepped_by back (size_in k.ways.program u) (bits_of v) 1 ∷ [])
  pointer_fits back u v = subst (λ us. AreOf us (stepped_by back (size_in k.ways.program u) (bits_of v) 1 ∷ [])) (sym (units_of_pointer k.ways.program u)) (one_fits 0 (stepped_by back (size_in k.ways.program u) (bits_of v) 1) (stepped_small back (size_in k.ways.program u) (bits_of v) 1))

  pointer_count : (u : Ty) → count_of k (ty.Pointer u) ≡ 1
  pointer_count u = words_are k.ways.program (ty.Pointer u) (pointer_not_array u) ∙ ap length (units_of_pointer k.ways.program u)

  pub pointer_steps : (back : Bool) (u : Ty) → StepDoes k back (ty.Pointer u)
  unfolding step_code out-Ty out hidden-the_row-Ty-0 shown-the_row-Ty-0 hidden shown
  pointer_steps back u = record {
    not_void = pointer_not_void u;
    not_array = pointer_not_array u;
    fits = λ v h. pointer_fits back u v;
    does = λ to from free pc v slots last s o has le holds fits go.
        pointer_step back u to from pc v slots last s o has holds fits (λ now out holds2. go now (λ i lt a. subst (λ n. Outside to n now slots) (sym (pointer_count u)) out i a) holds2);
  }
