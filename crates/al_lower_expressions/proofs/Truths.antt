-- What is 0 or 1 has one word.
use Rattle.std.proofs.Common.{◌≡◌, ℕ, ◌+◌, ◌-◌, ◌^◌, ◌++◌, length, Option, Some, None, refl, sym, ap, ◌∙◌, subst}
use Rattle.std.specs.Prelude.{Bool, true, false, not, ◌&&◌, if◌then◌else◌}
use Rattle.al_base.specs.declared.arith.Kind.{Kind}
use Rattle.al_base.specs.declared.arith.Kind.TheVariants as kind
use Rattle.al_typed.specs.declared.ty.Ty.{Ty, Integer, Tuple', Aggregate}
use Rattle.al_typed.specs.declared.ty.Ty.TheVariants as ty
use Rattle.al_typed.specs.declared.ty.Ty.TheViews.{out-Ty}
use denote.Hole.Carrier.{out}
use Rattle.al_typed.specs.declared.expression.UnaryOp.{UnaryOp}
use Rattle.al_typed.specs.declared.expression.UnaryOp.TheVariants as unary
use Rattle.al_typed.specs.declared.expression.BinaryOp.{BinaryOp}
use Rattle.al_typed.specs.declared.expression.BinaryOp.TheVariants as binary
use Rattle.al_typed.specs.declared.expression.Movement.TheVariants as movement
use Rattle.al_typed.specs.declared.expression.StepOp.{StepOp}
use Rattle.al_typed.specs.declared.expression.TExpr.{TExpr, Constant, Text, Nil, Function, SizeofType, Tuple' as TupleOf', Call', CallPointer', Print', Sequence', Iterator, end_of-TExpr, more_of-TExpr}
use Rattle.al_typed.specs.ExpressionForms as form
use Rattle.al_typed.specs.Typed.{type_of}
use Rattle.al_typed.specs.Types.{int, is_scalar}
use Rattle.al_typed.specs.WellTyped.{IsValue, converts, is_word, result_kind}
use Rattle.al_constant.specs.Constants.{constant}
use Rattle.al_meaning.specs.Shown.{kind_of}
use Rattle.al_ir.specs.declared.op.Op.TheVariants.{Complement, Convert}
use Rattle.al_lower_words.proofs.Integers.{units_of_kind}
use Rattle.al_lower_code.specs.Moving.{home_of, copies, moves}
use Rattle.al_lower_code.specs.Operators.{compares, is_long, keeps_bits, all_stay, convert_parts}
use Rattle.al_lower_code.specs.Homes.{here}
use Rattle.al_lower_code.specs.Coded.{Coded, Placed, Aimed, plain, folded, valued, operand_slot, operand_code, first_slot}
use Rattle.al_lower_code.specs.Values.{less_than_constant, unary_coded, converted_coded, binary_coded, binary_value, pair_code, skip_unless}
use Rattle.al_lower_code.specs.Actions.{changing, assigns_one, assigned_slot, assigns_parts, gives_old, steps_home, steps_place, steps_variable, clears_place, clears_variable}
use Rattle.al_lower_code.specs.Expressions.{coded, placed, aimed}
use Rattle.al_lower_claims.proofs.Claims.{Setting, spot, count_of}
use Rattle.al_lower_conversions.proofs.Integers.{integer_counts, same_length}
use Rattle.al_lower_expressions.proofs.Types.{both_hold, word_of}
use Rattle.al_lower_expressions.proofs.Premises.{Premises, scope_of}

compared_int : (op : BinaryOp) (j : Kind) → compares op ≡ true → result_kind op j ≡ kind.Int
compared_int binary.Less j e = refl
compared_int binary.Greater j e = refl
compared_int binary.LessEqual j e = refl
compared_int binary.GreaterEqual j e = refl
compared_int binary.Equal j e = refl
compared_int binary.NotEqual j e = refl
compared_int _ j e = absurd (cc)

integer_scalar : (j : Kind) → is_scalar (Integer j) ≡ true
unfolding is_scalar out-Ty out
integer_scalar j = refl

tuple_not_scalar : (s : _) (r : _) → is_scalar (Tuple' s r) ≡ true → ⊥
unfolding is_scalar out-Ty out
tuple_not_scalar s r e = cc

aggregate_not_scalar : (n : ℕ) → is_scalar (Aggregate n) ≡ true → ⊥
unfolding is_scalar out-Ty out
aggregate_not_scalar n e = cc

never : false ≡ true → ⊥
never e = cc

module _ (k : Setting) where
  -- a scalar of one word
  pub record IsShort (t : Ty) : Type 0 where
    pub scalar : is_scalar t ≡ true
    pub one : count_of k t ≡ 1

  word_short : (t : Ty) → is_word t ≡ true → IsShort t
  word_short t e = let w = word_of k t e in record { scalar = w.scalar; one = w.counts }

  int_short : (t : Ty) → t ≡ int → IsShort t
  int_short t e = subst IsShort (sym e) (record { scalar = integer_scalar kind.Int; one = integer_counts k kind.Int ∙ ap length (units_of_kind k.ways.program kind.Int) })

  -- a constant is neither
  unfolded : (t : Ty) (o : Option ℕ) (c : Coded) → (folded (spot k) t o c).is_truth ≡ true → c.is_truth ≡ true
  unfolded t None c e = e
  unfolded t (Some bits) c e = absurd (cc)

  either_record : (b : Bool) (c d : Coded) → d.is_truth ≡ c.is_truth → (if b then d else c).is_truth ≡ true → c.is_truth ≡ true
  either_record true c d s e = sym s ∙ e
  either_record false c d s e = e

  chosen : (b : Bool) (c d : Coded) → d.is_truth ≡ false → (if b then c else d).is_truth ≡ true → (b ≡ true) × (c.is_truth ≡ true)
  chosen true c d q e = (refl, e)
  chosen false c d q e = absurd (cc)

  neither : (b : Bool) (c d : Coded) → c.is_truth ≡ false → d.is_truth ≡ false → (if b then c else d).is_truth ≡ true → ⊥
  neither true c d p q e = cc
  neither false c d p q e = cc

  unary_truth : (t : Ty) (op : UnaryOp) (c : Coded) → (c.is_truth ≡ true → IsShort t) → (unary_coded (spot k) t op c).is_truth ≡ true → IsShort t
  unary_truth t unary.Plus c h e = h e
  unary_truth t unary.Minus c h e = absurd (cc)
  unary_truth t unary.Complement c h e = absurd (neither (is_long (kind_of t)) (less_than_constant (spot k) t (kind_of t) (2 ^ 64 - 1) c) (valued (spot k) t c.keeps (λ dest to. operand_code c to ++ here (spot k) (Complement dest (operand_slot c to)))) refl refl e)

  converted_truth : (from into : Ty) (c : Coded) → converts from into ≡ true → (c.is_truth ≡ true → IsShort from) → (converted_coded (spot k) from into c).is_truth ≡ true → IsShort into
  converted_truth (Integer i) (Integer j) c e h t =
      let q = chosen (keeps_bits i j) c (valued (spot k) (Integer j) c.keeps (λ dest to. operand_code c to ++ here (spot k) (Convert i j dest (operand_slot c to)))) refl t in
      let x = h q.1 in
      record { scalar = integer_scalar j; one = integer_counts k j ∙ (sym (same_length k i j q.0) ∙ (sym (integer_counts k i) ∙ x.one)) }
  converted_truth (Tuple' a f) (Tuple' b i) c e h t =
      let q = chosen (all_stay f i) c (valued (spot k) (Tuple' b i) c.keeps (λ dest to. c.value (to + count_of k (Tuple' b i)) (to + count_of k (Tuple' b i)) ++ convert_parts (spot k) f i dest (to + count_of k (Tuple' b i)))) refl t in
      absurd (tuple_not_scalar a f (h q.1).scalar)
  converted_truth (Aggregate n) (Aggregate m) c e h t = absurd (aggregate_not_scalar n (h t).scalar)
  converted_truth from into c e h t = word_short into (both_hold (is_word from) (is_word into) e).1

  abbrev pub assigned_as : Ty → Aimed → Coded → Option Placed → Coded
  assigned_as t target c o = elim o [ Some pl ↦ changing (spot k) t (assigns_one (spot k) t pl c) (assigned_slot pl c) | None ↦ changing (spot k) t (assigns_parts target c) (λ to. to + target.count) ]

  assigned_truth : (t : Ty) (target : Aimed) (c : Coded) (o : Option Placed) → (assigned_as t target c o).is_truth ≡ true → ⊥
  assigned_truth t target c (Some pl) e = never e
  assigned_truth t target c None e = never e

  abbrev stepped_as : Ty → StepOp → Placed → Option ℕ → Coded
  stepped_as t op pl o = elim o [ Some slot ↦ steps_variable (spot k) t op slot | None ↦ changing (spot k) t (λ to. steps_place (spot k) t op pl (if gives_old op then to + 1 + count_of k t else to + 1) to) (λ to. to + 1) ]

  stepped_truth : (t : Ty) (op : StepOp) (pl : Placed) (o : Option ℕ) → (stepped_as t op pl o).is_truth ≡ true → ⊥
  stepped_truth t op pl (Some slot) e = neither (gives_old op) (record (valued (spot k) t false (λ dest to. copies k.ways.line to slot (count_of k t) ++ (steps_home (spot k) t op slot (to + count_of k t) ++ moves k.ways.line dest to (count_of k t)))) { effect = steps_home (spot k) t op slot }) (changing (spot k) t (steps_home (spot k) t op slot) (λ to. slot)) refl refl e
  stepped_truth t op pl None e = never e

  abbrev cleared_as : Ty → Placed → Option ℕ → Coded
  cleared_as t pl o = elim o [ Some slot ↦ clears_variable (spot k) t slot | None ↦ changing (spot k) t (clears_place (spot k) t pl) (λ to. to + 1) ]

  cleared_truth : (t : Ty) (pl : Placed) (o : Option ℕ) → (cleared_as t pl o).is_truth ≡ true → ⊥
  cleared_truth t pl (Some slot) e = never e
  cleared_truth t pl None e = never e

  -- the operations of a comparison
  compared_truth : (t : Ty) (op : BinaryOp) (j : Kind) (n : ℕ) (left right : Coded) → (binary_coded (spot k) t op j n left right).is_truth ≡ true → compares op ≡ true
  compared_truth t op j n left right e =
      let c = plain (spot k) t None (left.keeps && right.keeps) (compares op) (binary_value (spot k) op j n left right) in
      either_record (compares op && not (is_long j)) c (record c { unless = λ to count. pair_code n left right to ++ skip_unless (spot k) op j (first_slot left right to) (operand_slot right (to + n)) count }) refl e

module _ (k : Setting) (h : Premises k) where
  -- what is 0 or 1 is a scalar of one word
  pub truth_short : (e : TExpr) → IsValue (scope_of k h) e → (coded (spot k) e).is_truth ≡ true → IsShort k (type_of e)
  unfolding IsValue
  truth_short (form.unary t op of) v e = unary_truth k t op (coded (spot k) of) (λ q. subst (IsShort k) v.1.1 (truth_short of v.1.0 q)) (unfolded k t (constant k.ways.program.aggregates (form.unary t op of)) (unary_coded (spot k) t op (coded (spot k) of)) e)
  truth_short (form.negation t of) v e = int_short k t v.0
  truth_short (form.binary t op j left right) v e =
      let c = binary_coded (spot k) t op j (count_of k (type_of left)) (coded (spot k) left) (coded (spot k) right) in
      let q = compared_truth k t op j (count_of k (type_of left)) (coded (spot k) left) (coded (spot k) right) (unfolded k t (constant k.ways.program.aggregates (form.binary t op j left right)) c e) in
      int_short k t (v.0 ∙ ap ty.Integer (compared_int op j q))
  truth_short (form.logical t op left right) v e = int_short k t v.0
  truth_short (form.assign t target value) v e = absurd (assigned_truth k t (aimed (spot k) target) (coded (spot k) value) (aimed (spot k) target).single e)
  truth_short (form.stepped t op place) v e = absurd (stepped_truth k t op (placed (spot k) place) (home_of ((placed (spot k) place).at false 0)) e)
  truth_short (form.zerox t place) v e = absurd (cleared_truth k t (placed (spot k) place) (home_of ((placed (spot k) place).at false 0)) e)
  truth_short (form.can_receive t chan) v e = int_short k t v.0
  truth_short (form.can_send t chan) v e = int_short k t v.0
  truth_short (form.cast t of) v e = converted_truth k (type_of of) t (coded (spot k) of) v.1.1 (λ q. truth_short of v.1.0 q) (unfolded k t (constant k.ways.program.aggregates (form.cast t of)) (converted_coded (spot k) (type_of of) t (coded (spot k) of)) e)
  truth_short (form.convert t of) v e = converted_truth k (type_of of) t (coded (spot k) of) v.1.1 (λ q. truth_short of v.1.0 q) (unfolded k t (constant k.ways.program.aggregates (form.convert t of)) (converted_coded (spot k) (type_of of) t (coded (spot k) of)) e)
  truth_short (form.movement t movement.Forward pointer count) v e = absurd (never e)
  truth_short (form.movement t movement.CountFirst pointer count) v e = absurd (never e)
  truth_short (form.movement t movement.Back pointer count) v e = absurd (never e)
  truth_short (Constant t n) v e = absurd (never e)
  truth_short (Text t n) v e = absurd (never e)
  truth_short (Nil t) v e = absurd (never e)
  truth_short (Function t n) v e = absurd (never e)
  truth_short (form.load t place) v e = absurd (never e)
  truth_short (form.decay t place) v e = absurd (never e)
  truth_short (form.address t place) v e = absurd (never e)
  truth_short (SizeofType t of) v e = absurd (never e)
  truth_short (form.sizeof_place t place) v e = absurd (never e)
  truth_short (form.sizeof_value t of) v e = absurd (never e)
  truth_short (form.difference t left right) v e = absurd (never e)
  truth_short (form.update t place how value) v e = absurd (never e)
  truth_short (TupleOf' t _ parts) v e = absurd (never e)
  truth_short (Call' t n receiver _ arguments) v e = absurd (never e)
  truth_short (CallPointer' t _ (more_of-TExpr pointer end_of-TExpr) _ arguments) v e = absurd (never e)
  truth_short (Print' t format _ arguments) v e = absurd (never e)
  truth_short (form.terminate t status) v e = absurd (never e)
  truth_short (form.receive t chan) v e = absurd (never e)
  truth_short (form.send t chan value) v e = absurd (never e)
  truth_short (form.member_of t value path) v e = absurd (never e)
  truth_short (Sequence' t _ first _ (more_of-TExpr last end_of-TExpr)) v e = absurd (never e)
  truth_short (Iterator t n) v e = absurd (never e)
