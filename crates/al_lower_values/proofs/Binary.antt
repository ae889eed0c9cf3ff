-- Operators on two integers.
use Rattle.std.proofs.Common.{◌≡◌, ℕ, ◌+◌, List, [], ◌∷◌, ◌++◌, length, Option, Some, None, refl, sym, ap, ◌∙◌, subst, arith, length-append}
use Rattle.std.specs.Prelude.{Bool, true, false, ◌==◌, ◌&&◌, not, if◌then◌else◌, option_map}
use Rattle.al_base.specs.Arith.{is_signed, applied, divides}
use Rattle.al_base.specs.declared.arith.Kind.{Kind}
use Rattle.al_base.specs.declared.arith.Kind.TheVariants as kind
use Rattle.al_typed.specs.declared.ty.Ty.{Ty}
use Rattle.al_typed.specs.declared.ty.Ty.TheVariants as ty
use Rattle.al_typed.specs.declared.ty.Ty.TheViews.{out-Ty}
use denote.Hole.Carrier.{out}
use Rattle.al_typed.specs.declared.expression.BinaryOp.{BinaryOp}
use Rattle.al_typed.specs.declared.expression.BinaryOp.TheVariants as binary
use Rattle.al_typed.specs.Types.{promoted, is_void, is_array}
use Rattle.al_typed.specs.Layout.{unit_at}
use Rattle.al_typed.specs.WellTyped.{result_kind}
use Rattle.al_meaning.specs.Words.{bits_of, integer_words, computed, operated, is_zero}
use Rattle.al_meaning.specs.Shown.{kind_of}
use Rattle.al_meaning.specs.Here.{units_in}
use Rattle.al_meaning.specs.Tasks.{Still, Env, Rest, Task}
use Rattle.al_meaning.specs.Told.{value, needed, quotient}
use Rattle.al_ir.specs.declared.ir.Operation.{Operation}
use Rattle.al_ir.specs.declared.op.Op.TheVariants.{SkipUnless}
use Rattle.al_ir.specs.Control.{Slots}
use Rattle.al_ir.specs.Step.{word_kind}
use Rattle.al_lower_words.specs.Units.{AreOf}
use Rattle.al_lower_words.proofs.Integers.{integer_not_void, integer_not_array, words_are, length_of, units_of_kind, one_word}
use Rattle.al_lower_code.specs.Homes.{here}
use Rattle.al_lower_code.specs.Operators.{arith_of, is_swapped, compares, is_long, is_short, operator, operator_by, takes_constant}
use Rattle.al_lower_code.specs.Coded.{Coded, plain, operand_slot, operand_code, first_slot}
use Rattle.al_lower_code.specs.Values.{pair_code, constant_right, binary_value, binary_coded, skip_unless}
use Rattle.al_lower_steps.specs.Slots.{Holds, Outside}
use Rattle.al_lower_steps.specs.Site.{HasOperation}
use Rattle.al_lower_steps.proofs.Steps.{moved, comes_out, has_front, has_back}
use Rattle.al_lower_steps.proofs.Jumps.{skip_unless_does}
use Rattle.al_lower_claims.proofs.Variables.{Stays, Dest, put_outside_is}
use Rattle.al_lower_claims.proofs.Claims.{Setting, scene, site, spot, Run, Has, HasVars, HasRoom, UnitsOf, count_of, GoesOn, ValueDoes, UnlessDoes, CodedDoes}
use Rattle.al_lower_claims.proofs.Operands.{both_true, operand_does, pair_does}
use Rattle.al_lower_claims.proofs.Plain.{plain_does}
use Rattle.al_lower_values.proofs.Operating.{computed_is, result_words, word_fits, compared_truth, operates, operates_by, GoesOn as OperatorGoesOn}

-- ---- types

pub kind_of_integer : (j : Kind) → kind_of (ty.Integer j) ≡ j
unfolding kind_of out-Ty out
kind_of_integer j = refl

pub not_void_integer : (t : Ty) (j : Kind) → t ≡ ty.Integer j → is_void t ≡ false
not_void_integer t j e = subst (λ q. is_void q ≡ false) (sym e) (integer_not_void j)

pub not_array_integer : (t : Ty) (j : Kind) → t ≡ ty.Integer j → is_array t ≡ false
not_array_integer t j e = subst (λ q. is_array q ≡ false) (sym e) (integer_not_array j)

pub counts_integer : (k : Setting) (t : Ty) (j : Kind) → t ≡ ty.Integer j → count_of k t ≡ length (units_in k.ways.program t)
counts_integer k t j e = words_are k.ways.program t (not_array_integer t j e)

-- ---- a constant on the right

known_right : (op : BinaryOp) (j : Kind) (o : Option ℕ) (bits : ℕ) → (elim o [ Some n ↦ if takes_constant op j n then Some n else None | None ↦ None ]) ≡ Some bits → (o ≡ Some bits) × (takes_constant op j bits ≡ true)
known_right op j None bits e = absurd (cc)
known_right op j (Some n) bits e = on (takes_constant op j n) refl e
  where
    on : (b : Bool) → takes_constant op j n ≡ b → (if b then Some n else None) ≡ Some bits → (Some n ≡ Some bits) × (takes_constant op j bits ≡ true)
    on true q e = let same : n ≡ bits = cc in (e, subst (λ m. takes_constant op j m ≡ true) same q)
    on false q e = absurd (cc)

not_true : (b : Bool) → not b ≡ true → b ≡ false
not_true true e = absurd (cc)
not_true false e = refl

-- no swapped operator takes one
takes_in_order : (op : BinaryOp) (j : Kind) (n : ℕ) → takes_constant op j n ≡ true → (is_long j ≡ false) × (is_swapped op ≡ false)
takes_in_order op j n e = let a = both_true (not (is_long j) && not (is_swapped op) && is_short n) (not (divides (arith_of op) && (n == 0))) e in let b = both_true (not (is_long j) && not (is_swapped op)) (is_short n) a.0 in let c = both_true (not (is_long j)) (not (is_swapped op)) b.0 in (not_true (is_long j) c.0, not_true (is_swapped op) c.1)

-- a comparison always gives something
compared_some : (op : BinaryOp) (j : Kind) (a b : ℕ) → compares op ≡ true → (z : ℕ) × (computed op j a b ≡ Some z)
compared_some binary.Less j a b e = (_, refl)
compared_some binary.Greater j a b e = (_, refl)
compared_some binary.LessEqual j a b e = (_, refl)
compared_some binary.GreaterEqual j a b e = (_, refl)
compared_some binary.Equal j a b e = (_, refl)
compared_some binary.NotEqual j a b e = (_, refl)
compared_some _ j a b e = absurd (cc)

module _ (k : Setting) {m o : Task (Option (List ℕ))} {left right : Coded} (t u v : Ty) (op : BinaryOp) (j : Kind) (is_promoted : promoted j ≡ j) (tu : u ≡ ty.Integer j) (tv : v ≡ ty.Integer j) (tt2 : t ≡ ty.Integer (result_kind op j)) (hl : CodedDoes k m u left) (hr : CodedDoes k o v right) where
  abbrev pub means : Task (Option (List ℕ))
  means env s next = value m env s (λ x env s. value o env s (λ y env s. quotient k.ways (operated op j x y) env s next))

  abbrev value_by : Option ℕ → (dest to : ℕ) → List Operation
  value_by c dest to = elim c [ Some bits ↦ operand_code left to ++ here (spot k) (operator_by op j dest (operand_slot left to) bits) | None ↦ pair_code (count_of k u) left right to ++ here (spot k) (operator op j dest (first_slot left right to) (operand_slot right (to + count_of k u))) ]

  -- the value comes to stand where it is wanted
  finishes : (dest to end : ℕ) (env env2 : Env) (s : Still) (slots now last : Slots) (next : Option (List ℕ) → Rest) (a b : ℕ) → HasVars k env2 now → Stays (scene k) to now slots → ((left.keeps && right.keeps) ≡ true → env2 ≡ env) → GoesOn k t (left.keeps && right.keeps) (compares op) env slots next dest to end → (z : ℕ) → computed op j a b ≡ Some z → AreOf (units_in k.ways.program (ty.Integer (result_kind op j))) (integer_words (result_kind op j) z) → (now3 : Slots) → Outside dest (length (integer_words (result_kind op j) z)) now3 now → Holds now3 dest (integer_words (result_kind op j) z) → Run k (next (Some (integer_words (result_kind op j) z)) env2 s) end now3 last s
  finishes dest to end env env2 s slots now last next a b vars st same go z e fits now3 out holds =
      let ws = integer_words (result_kind op j) z in
      let fits2 : UnitsOf k t ws = subst (λ q. AreOf (units_in k.ways.program q) ws) (sym tt2) fits in
      let count : length ws ≡ count_of k t = length_of _ _ fits2 ∙ sym (counts_integer k t (result_kind op j) tt2) in
      go (Some ws) env2 s now now3 last (not_void_integer t (result_kind op j) tt2, fits2) vars st (put_outside_is (count_of k t) dest to now3 now (subst (λ n. Outside dest n now3 now) count out)) holds same (λ c. compared_truth op j a b z c e)

  binary_values : ValueDoes k means t (left.keeps && right.keeps) (compares op) (binary_value (spot k) op j (count_of k u) left right)
  binary_values = record { by = λ dest to pc slots last env s next d room vars has go. on dest to pc slots last env s next d room vars (constant_right op j right) refl has go }
    where
      two : (dest to pc : ℕ) (slots last : Slots) (env : Env) (s : Still) (next : Option (List ℕ) → Rest) → HasRoom k to → HasVars k env slots → Has k pc (pair_code (count_of k u) left right to ++ here (spot k) (operator op j dest (first_slot left right to) (operand_slot right (to + count_of k u)))) → GoesOn k t (left.keeps && right.keeps) (compares op) env slots next dest to (pc + length (pair_code (count_of k u) left right to ++ here (spot k) (operator op j dest (first_slot left right to) (operand_slot right (to + count_of k u))))) → Run k (means env s next) pc slots last s
      two dest to pc slots last env s next room vars has go =
          let ca = pair_code (count_of k u) left right to in
          let cb = here (spot k) (operator op j dest (first_slot left right to) (operand_slot right (to + count_of k u))) in
          pair_does k hl hr (not_void_integer u j tu) (not_void_integer v j tv) (count_of k u) (counts_integer k u j tu) to pc slots last env s (λ x y env s. quotient k.ways (operated op j x y) env s next) room vars (has_front (site k) pc ca cb has) (λ x y env2 s now last2 fx fy vars2 st2 hx hy same.
          let len : pc + length ca + 1 ≡ pc + length (ca ++ cb) = omega (arith, length-append ca cb) in
          operates (site k) k.ways (pc + length ca) dest now last2 env2 s next op j is_promoted x y (subst (λ q. AreOf (units_in k.ways.program q) x) tu fx) (subst (λ q. AreOf (units_in k.ways.program q) y) tv fy) (first_slot left right to) (operand_slot right (to + count_of k u)) hx hy (has_back (site k) pc ca cb has).0 (λ z e fits now3 out holds.
          moved (site k) len (finishes dest to (pc + length (ca ++ cb)) env env2 s slots now last2 next (bits_of x) (bits_of y) vars2 st2 same go z e fits now3 out holds)))

      by_constant : (bits : ℕ) (signed : Bool) → j ≡ word_kind signed → right.known ≡ Some bits → is_swapped op ≡ false → (dest to pc : ℕ) (slots last : Slots) (env : Env) (s : Still) (next : Option (List ℕ) → Rest) → HasRoom k to → HasVars k env slots → Has k pc (operand_code left to ++ here (spot k) (operator_by op j dest (operand_slot left to) bits)) → GoesOn k t (left.keeps && right.keeps) (compares op) env slots next dest to (pc + length (operand_code left to ++ here (spot k) (operator_by op j dest (operand_slot left to) bits))) → Run k (means env s next) pc slots last s
      by_constant bits signed ej er sw dest to pc slots last env s next room vars has go =
          let ca = operand_code left to in
          let cb = here (spot k) (operator_by op j dest (operand_slot left to) bits) in
          let known = hr.known bits er in
          operand_does k hl (not_void_integer u j tu) to pc slots last env s (λ x env s. value o env s (λ y env s. quotient k.ways (operated op j x y) env s next)) room vars (has_front (site k) pc ca cb has) (λ x env2 s now last2 fx vars2 st2 hx same.
          let len : pc + length ca + 1 ≡ pc + length (ca ++ cb) = omega (arith, length-append ca cb) in
          let one = one_word 0 x (subst (λ us. AreOf us x) (ap (units_in k.ways.program) (tu ∙ ap ty.Integer ej) ∙ word_units signed) fx) in
          let y = integer_words (kind_of v) bits in
          let ey : y ≡ bits ∷ [] = ap (λ q. integer_words q bits) (ap kind_of tv ∙ (kind_of_integer j ∙ ej)) ∙ word_words signed in
          let code = has_back (site k) pc ca cb has in
          let both : computed op j (bits_of x) (bits_of y) ≡ computed op j one.word bits = ap (λ q. computed op j (bits_of q) (bits_of y)) one.is ∙ ap (λ q. computed op j one.word (bits_of q)) ey in
          comes_out (site k) (known.means env2 s (λ p env s. needed p env s (λ y env s. quotient k.ways (operated op j x y) env s next)))
          (comes_out (site k) (ap (λ c. quotient k.ways (option_map (integer_words (result_kind op j)) c) env2 s next) both)
          (in_kind signed ej one.word bits dest (pc + length ca) now last2 env2 s next sw (subst (Holds now (operand_slot left to)) one.is hx).0 code.0 (λ z e fits now3 out holds.
          moved (site k) len (finishes dest to (pc + length (ca ++ cb)) env env2 s slots now last2 next one.word bits vars2 st2 (λ e. same (both_true left.keeps right.keeps e).0) go z e fits now3 out holds)))))
        where
          word_units : (signed : Bool) → units_in k.ways.program (ty.Integer (word_kind signed)) ≡ unit_at 0 4 ∷ []
          word_units true = units_of_kind k.ways.program kind.Int
          word_units false = units_of_kind k.ways.program kind.Uint

          word_words : (signed : Bool) → integer_words (word_kind signed) bits ≡ bits ∷ []
          word_words true = refl
          word_words false = refl

          in_kind : (signed : Bool) → j ≡ word_kind signed → (x n dest pc : ℕ) (slots last : Slots) (env : Env) (s : Still) (next : Option (List ℕ) → Rest) → is_swapped op ≡ false → slots (operand_slot left to) ≡ Some x → HasOperation (site k) pc k.ways.line (operator_by op j dest (operand_slot left to) n) → OperatorGoesOn (site k) k.ways pc dest slots last env s next op j x n → Run k (quotient k.ways (option_map (integer_words (result_kind op j)) (computed op j x n)) env s next) pc slots last s
          in_kind true ej x n dest pc slots last env s next sw there code go =
              subst (λ j. HasOperation (site k) pc k.ways.line (operator_by op j dest (operand_slot left to) n) → OperatorGoesOn (site k) k.ways pc dest slots last env s next op j x n → Run k (quotient k.ways (option_map (integer_words (result_kind op j)) (computed op j x n)) env s next) pc slots last s) (sym ej)
              (λ code go. operates_by (site k) k.ways pc dest slots last env s next op true x n (operand_slot left to) sw there code go) code go
          in_kind false ej x n dest pc slots last env s next sw there code go =
              subst (λ j. HasOperation (site k) pc k.ways.line (operator_by op j dest (operand_slot left to) n) → OperatorGoesOn (site k) k.ways pc dest slots last env s next op j x n → Run k (quotient k.ways (option_map (integer_words (result_kind op j)) (computed op j x n)) env s next) pc slots last s) (sym ej)
              (λ code go. operates_by (site k) k.ways pc dest slots last env s next op false x n (operand_slot left to) sw there code go) code go

      kinds : (j : Kind) → promoted j ≡ j → is_long j ≡ false → (signed : Bool) × (j ≡ word_kind signed)
      kinds kind.Int e l = (true, refl)
      kinds kind.Uint e l = (false, refl)
      kinds kind.Lint e l = absurd (cc)
      kinds kind.Ulint e l = absurd (cc)
      kinds kind.Byte e l = absurd (cc)
      kinds kind.Sint e l = absurd (cc)
      kinds kind.Usint e l = absurd (cc)

      on : (dest to pc : ℕ) (slots last : Slots) (env : Env) (s : Still) (next : Option (List ℕ) → Rest) → Dest (scene k) (count_of k t) dest to → HasRoom k to → HasVars k env slots → (c : Option ℕ) → constant_right op j right ≡ c → Has k pc (value_by c dest to) → GoesOn k t (left.keeps && right.keeps) (compares op) env slots next dest to (pc + length (value_by c dest to)) → Run k (means env s next) pc slots last s
      on dest to pc slots last env s next d room vars None e has go = two dest to pc slots last env s next room vars has go
      on dest to pc slots last env s next d room vars (Some bits) e has go =
          let r = known_right op j right.known bits e in
          let order = takes_in_order op j bits r.1 in
          let q = kinds j is_promoted order.0 in
          by_constant bits q.0 q.1 r.0 order.1 dest to pc slots last env s next room vars has go

  -- ---- a comparison of words as a condition

  signed_of : (signed : Bool) → is_signed (word_kind signed) ≡ signed
  signed_of true = refl
  signed_of false = refl

  word_kinds : (j : Kind) → promoted j ≡ j → is_long j ≡ false → (signed : Bool) × (j ≡ word_kind signed)
  word_kinds kind.Int e l = (true, refl)
  word_kinds kind.Uint e l = (false, refl)
  word_kinds kind.Lint e l = absurd (cc)
  word_kinds kind.Ulint e l = absurd (cc)
  word_kinds kind.Byte e l = absurd (cc)
  word_kinds kind.Sint e l = absurd (cc)
  word_kinds kind.Usint e l = absurd (cc)

  units_word : (signed : Bool) → units_in k.ways.program (ty.Integer (word_kind signed)) ≡ unit_at 0 4 ∷ []
  units_word true = units_of_kind k.ways.program kind.Int
  units_word false = units_of_kind k.ways.program kind.Uint

  -- where the operands stand
  jumps : (c : compares op ≡ true) (signed : Bool) (x y a b pc count z : ℕ) (ws : List ℕ) (slots last : Slots) (env : Env) (s : Still) (next : List ℕ → Rest) → slots a ≡ Some x → slots b ≡ Some y → computed op (word_kind signed) x y ≡ Some z → ws ≡ z ∷ [] → Has k pc (if is_swapped op then here (spot k) (SkipUnless (arith_of op) signed b a count) else here (spot k) (SkipUnless (arith_of op) signed a b count)) → Run k (next ws env s) (if is_zero ws then pc + 1 + count else pc + 1) slots last s → Run k (next ws env s) pc slots last s
  jumps c signed x y a b pc count z ws slots last env s next hx hy e w has go = on (is_swapped op) (sym (computed_is op (word_kind signed) x y) ∙ e) has
    where
      zero : is_zero ws ≡ (z == 0)
      zero = ap is_zero w

      over : (z == 0) ≡ true → Run k (next ws env s) (pc + 1 + count) slots last s
      over q = moved (site k) (sym (ap (λ b. if b then pc + 1 + count else pc + 1) (zero ∙ q))) go

      behind : (z == 0) ≡ false → Run k (next ws env s) (pc + 1) slots last s
      behind q = moved (site k) (sym (ap (λ b. if b then pc + 1 + count else pc + 1) (zero ∙ q))) go

      on : (sw : Bool) → (if sw then applied (arith_of op) (word_kind signed) y x else applied (arith_of op) (word_kind signed) x y) ≡ Some z → Has k pc (if sw then here (spot k) (SkipUnless (arith_of op) signed b a count) else here (spot k) (SkipUnless (arith_of op) signed a b count)) → Run k (next ws env s) pc slots last s
      on true q has = skip_unless_does (site k) (λ b. next ws env s) has.0 hy hx q over behind
      on false q has = skip_unless_does (site k) (λ b. next ws env s) has.0 hx hy q over behind

  compares_does : compares op ≡ true → is_long j ≡ false → UnlessDoes k means t (left.keeps && right.keeps) (λ to count. pair_code (count_of k u) left right to ++ skip_unless (spot k) op j (first_slot left right to) (operand_slot right (to + count_of k u)) count)
  compares_does c long = record {
    by = λ to count pc slots last env s next room vars has go.
        let ca = pair_code (count_of k u) left right to in
        let cb = skip_unless (spot k) op j (first_slot left right to) (operand_slot right (to + count_of k u)) count in
        let kd = word_kinds j is_promoted long in
        let in_words : (w : List ℕ) → AreOf (units_in k.ways.program (ty.Integer j)) w → AreOf (unit_at 0 4 ∷ []) w = λ w f. subst (λ us. AreOf us w) (ap (λ q. units_in k.ways.program (ty.Integer q)) kd.1 ∙ units_word kd.0) f in
        pair_does k hl hr (not_void_integer u j tu) (not_void_integer v j tv) (count_of k u) (counts_integer k u j tu) to pc slots last env s (λ x y env s. quotient k.ways (operated op j x y) env s (λ p env s. needed p env s next)) room vars (has_front (site k) pc ca cb has) (λ x y env2 s now last2 fx fy vars2 st2 hx hy same.
        let one = one_word 0 x (in_words x (subst (λ q. AreOf (units_in k.ways.program q) x) tu fx)) in
        let two = one_word 0 y (in_words y (subst (λ q. AreOf (units_in k.ways.program q) y) tv fy)) in
        let some = compared_some op j (bits_of x) (bits_of y) c in
        let z = some.0 in
        let ws = integer_words (result_kind op j) z in
        let is : ws ≡ z ∷ [] = ap (λ q. integer_words (result_kind op q) z) kd.1 ∙ result_words op kd.0 z in
        let fits : AreOf (units_in k.ways.program (ty.Integer (result_kind op j))) ws = subst (λ q. AreOf (units_in k.ways.program (ty.Integer (result_kind op q))) (integer_words (result_kind op q) z)) (sym kd.1) (word_fits op kd.0 k.ways.program (bits_of x) (bits_of y) z (ap (λ q. computed op q (bits_of x) (bits_of y)) (sym kd.1) ∙ some.1)) in
        let words : computed op (word_kind kd.0) one.word two.word ≡ Some z = ap (λ q. computed op (word_kind kd.0) q two.word) (sym (ap bits_of one.is)) ∙ (ap (λ q. computed op (word_kind kd.0) (bits_of x) q) (sym (ap bits_of two.is)) ∙ (ap (λ q. computed op q (bits_of x) (bits_of y)) (sym kd.1) ∙ some.1)) in
        let sign : is_signed j ≡ kd.0 = ap is_signed kd.1 ∙ signed_of kd.0 in
        let code = subst (λ signed. Has k (pc + length ca) (if is_swapped op then here (spot k) (SkipUnless (arith_of op) signed (operand_slot right (to + count_of k u)) (first_slot left right to) count) else here (spot k) (SkipUnless (arith_of op) signed (first_slot left right to) (operand_slot right (to + count_of k u)) count))) sign (has_back (site k) pc ca cb has) in
        let one_op : length cb ≡ 1 = one_long (is_swapped op) (first_slot left right to) (operand_slot right (to + count_of k u)) count in
        let len : pc + length ca + 1 ≡ pc + length (ca ++ cb) = omega (arith, length-append ca cb, one_op) in
        let to2 : (if is_zero ws then pc + length ca + 1 + count else pc + length ca + 1) ≡ (if is_zero ws then pc + length (ca ++ cb) + count else pc + length (ca ++ cb)) = ap (λ n. if is_zero ws then n + count else n) len in
        comes_out (site k) (ap (λ c. quotient k.ways (option_map (integer_words (result_kind op j)) c) env2 s (λ p env s. needed p env s next)) some.1)
        (jumps c kd.0 one.word two.word (first_slot left right to) (operand_slot right (to + count_of k u)) (pc + length ca) count z ws now last2 env2 s next (subst (Holds now (first_slot left right to)) one.is hx).0 (subst (Holds now (operand_slot right (to + count_of k u))) two.is hy).0 words is code
        (moved (site k) to2 (go ws env2 s now last2 (subst (λ q. AreOf (units_in k.ways.program q) ws) (sym tt2) fits) vars2 st2 same))));
  }
    where
      one_long : (sw : Bool) (a b count : ℕ) → length (if sw then here (spot k) (SkipUnless (arith_of op) (is_signed j) b a count) else here (spot k) (SkipUnless (arith_of op) (is_signed j) a b count)) ≡ 1
      one_long true a b count = refl
      one_long false a b count = refl

  pub binary_does : CodedDoes k means t (binary_coded (spot k) t op j (count_of k u) left right)
  binary_does = on (compares op) (is_long j) refl refl
    where
      p : CodedDoes k means t (plain (spot k) t None (left.keeps && right.keeps) (compares op) (binary_value (spot k) op j (count_of k u) left right))
      p = plain_does k None (left.keeps && right.keeps) (compares op) (binary_value (spot k) op j (count_of k u) left right) binary_values (λ slot e. absurd (cc))

      on : (b c : Bool) → compares op ≡ b → is_long j ≡ c → CodedDoes k means t (if b && not c then record (plain (spot k) t None (left.keeps && right.keeps) (compares op) (binary_value (spot k) op j (count_of k u) left right)) { unless = λ to count. pair_code (count_of k u) left right to ++ skip_unless (spot k) op j (first_slot left right to) (operand_slot right (to + count_of k u)) count } else plain (spot k) t None (left.keeps && right.keeps) (compares op) (binary_value (spot k) op j (count_of k u) left right))
      on true false e f = record {
        value = p.value;
        effect = p.effect;
        unless = λ test. compares_does e f;
        pointer = p.pointer;
        stored = p.stored;
        known = p.known;
        stands = p.stands;
      }
      on true true e f = p
      on false c e f = p
