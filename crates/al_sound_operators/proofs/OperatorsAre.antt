-- Operators on integers, on pointers and on conditions.
use Rattle.std.proofs.Common.{◌≡◌, Bool, true, false, ◌&&◌, refl, sym, ap, ap₂, ◌∙◌, inl, inr}
use Rattle.std.specs.Prelude.{◌||◌, not, if◌then◌else◌}
use Rattle.al_base.specs.declared.arith.Kind.{Kind}
use Rattle.al_base.specs.declared.arith.Kind.TheVariants as kind
use Rattle.al_base.specs.declared.place.Place.{Place}
use Rattle.al_rules.specs.Outcome.{Good}
use Rattle.al_tree.specs.declared.expression.BinaryOp.{BinaryOp as Written}
use Rattle.al_tree.specs.declared.expression.BinaryOp.TheVariants as written
use Rattle.al_typed.specs.declared.ty.Ty.{Ty}
use Rattle.al_typed.specs.declared.ty.Ty.TheVariants as ty
use Rattle.al_typed.specs.declared.expression.UnaryOp.{UnaryOp}
use Rattle.al_typed.specs.declared.expression.BinaryOp.{BinaryOp}
use Rattle.al_typed.specs.declared.expression.BinaryOp.TheVariants as op
use Rattle.al_typed.specs.declared.expression.Logic.{Logic}
use Rattle.al_typed.specs.declared.expression.Logic.TheVariants as logic
use Rattle.al_typed.specs.declared.expression.Movement.{Movement}
use Rattle.al_typed.specs.declared.expression.Movement.TheVariants as movement
use Rattle.al_typed.specs.declared.expression.TExpr.{TExpr}
use Rattle.al_typed.specs.declared.expression.TExpr.TheVariants as expr
use Rattle.al_typed.specs.Types.{int, promoted, points_to_complete}
use Rattle.al_typed.specs.Typed.{type_of}
use Rattle.al_typed.specs.WellTyped as well
use Rattle.al_typed.specs.WellTyped.{IsValue, Scope, is_sound, result_kind, rows}
use Rattle.al_typed.proofs.ValueRules.{IsValue-Binary, IsValue-Unary, IsValue-Not, IsValue-Logical, IsValue-Move, IsValue-Difference}
use Rattle.al_convert.specs.Same.{same}
use Rattle.al_convert.specs.Kinds.{is_integer, is_channel}
use Rattle.al_convert.specs.Conversions.{type_converts}
use Rattle.al_operands.specs.declared.operand.Operand.{Operand}
use Rattle.al_operands.specs.Rules.{is_nil, is_pointer, is_channel_or_nil, are_ordered, rule_24_adds, rule_24_subtracts, rule_24_multiplies, rule_24_signs, rule_25_has_integers, rule_25_complements, rule_26_orders, rule_26_equates, rule_27_is_condition}
use Rattle.al_operands.specs.Operands.{converted, in_kind, promoted_kind, arithmetic_kind, plain, plains}
use Rattle.al_operators.specs.Operators.{addition, added, binary, bitwise, combined, compared, complement, complement_value, condition, conditions, decision, difference, equality, logical, moved, multiplication, multiplied, negation, operated, operated_in, order, promoted_by, remaining, shift, shifted, shifted_by, signed, signed_in, signed_value, subtracted, subtraction, sum}
use Rattle.al_sound_operators.specs.Typed.{IfGood, IsOperand, IsUsable}
use Rattle.al_sound_operators.specs.Operands.{AreUsable}
use Rattle.al_sound_operators.specs.Operators.{IsAsked, OfOperand, OfOperands, OfValues}
use Rattle.al_sound_operators.proofs.TypeForms.{a_channel, a_pointer, a_complete_pointer}
use Rattle.al_sound_operators.proofs.SameTypes.{and_both}
use Rattle.al_sound_operators.proofs.SoundTypes.{whole-Integer}
use Rattle.al_sound_operators.proofs.Conversions.{pointer_after, pointer_converts}
use Rattle.al_sound_operators.proofs.Outcomes.{after, asked, paired}
use Rattle.al_sound_operators.proofs.OperandsAre.{converted_is, in_kind_is, plain_usable, plains_are}
use Rattle.al_sound_operators.proofs.OperatorKinds.{AreCompared, IsAddress, address_converts, address_no_integer, either, integer_converts, nil_operand, not_true, promoted-arithmetic_kind, promoted-promoted_kind, same_pointer}

-- what has the type of an integer is usable, where it is well typed
pub integer_usable : (s : Scope) (k : Kind) (e : TExpr) → IsValue s e → type_of e ≡ ty.Integer k → IsUsable s e
integer_usable s k e v is = record {
  value = v;
  sound = ap (is_sound (rows s)) is;
  whole = rw is (whole-Integer (rows s) k);
}

-- ---- on integers

operated_in_is : (s : Scope) (k : Kind) (how : BinaryOp) (a b : TExpr) → promoted k ≡ k → IsUsable s a → IsUsable s b
    → well.converts (type_of a) (ty.Integer k) ≡ true → well.converts (type_of b) (ty.Integer k) ≡ true → IsUsable s (operated_in k how a b)
unfolding operated_in
operated_in_is s k how a b p u w h g =
    let x = in_kind_is s k a u h in
    let y = in_kind_is s k b w g in
    integer_usable s (result_kind how k) (operated_in k how a b)
    (rw (IsValue-Binary s (ty.Integer (result_kind how k)) how k (in_kind k a) (in_kind k b)) ((refl, (p, (x.usable.value, (x.is, (y.usable.value, y.is)))))))
    refl

operated_is : (s : Scope) (how : BinaryOp) (a b : TExpr) → IsUsable s a → IsUsable s b → is_integer (type_of a) ≡ true → is_integer (type_of b) ≡ true → IsUsable s (operated how a b)
unfolding operated
operated_is s how a b u w h g =
    let k = arithmetic_kind (type_of a) (type_of b) in
    operated_in_is s k how a b (promoted-arithmetic_kind (type_of a) (type_of b)) u w (integer_converts (type_of a) k h) (integer_converts (type_of b) k g)

shifted_is : (s : Scope) (how : BinaryOp) (a b : TExpr) → IsUsable s a → IsUsable s b → is_integer (type_of a) ≡ true → is_integer (type_of b) ≡ true → IsUsable s (shifted how a b)
unfolding shifted
shifted_is s how a b u w h g =
    let k = promoted_kind (type_of a) in
    operated_in_is s k how a b (promoted-promoted_kind (type_of a)) u w (integer_converts (type_of a) k h) (integer_converts (type_of b) k g)

pub multiplied_is : (how : BinaryOp) → OfValues (λ s at a b. IfGood (multiplied at how a b) (IsUsable s))
unfolding multiplied rule_24_multiplies
multiplied_is how s at a b u w =
    asked (IsUsable s) 24 at (rule_24_multiplies (type_of a) (type_of b)) (operated how a b)
    (λ q. let both = and_both (is_integer (type_of a)) (is_integer (type_of b)) q in operated_is s how a b u w both.0 both.1)

pub combined_is : (how : BinaryOp) → OfValues (λ s at a b. IfGood (combined at how a b) (IsUsable s))
unfolding combined rule_25_has_integers
combined_is how s at a b u w =
    asked (IsUsable s) 25 at (rule_25_has_integers (type_of a) (type_of b)) (operated how a b)
    (λ q. let both = and_both (is_integer (type_of a)) (is_integer (type_of b)) q in operated_is s how a b u w both.0 both.1)

pub shifted_by_is : (how : BinaryOp) → OfValues (λ s at a b. IfGood (shifted_by at how a b) (IsUsable s))
unfolding shifted_by rule_25_has_integers
shifted_by_is how s at a b u w =
    asked (IsUsable s) 25 at (rule_25_has_integers (type_of a) (type_of b)) (shifted how a b)
    (λ q. let both = and_both (is_integer (type_of a)) (is_integer (type_of b)) q in shifted_is s how a b u w both.0 both.1)

pub multiplication_is : (how : BinaryOp) → OfOperands (λ s at x y. IfGood (multiplication at how x y) (IsUsable s))
unfolding multiplication
multiplication_is how s at x y o p = after (AreUsable s) (IsUsable s) (plains x y) (λ p. multiplied at how p.0 p.1) (plains_are s x y o p) (λ p h. multiplied_is how s at p.0 p.1 h.0 h.1)

pub bitwise_is : (how : BinaryOp) → OfOperands (λ s at x y. IfGood (bitwise at how x y) (IsUsable s))
unfolding bitwise
bitwise_is how s at x y o p = after (AreUsable s) (IsUsable s) (plains x y) (λ p. combined at how p.0 p.1) (plains_are s x y o p) (λ p h. combined_is how s at p.0 p.1 h.0 h.1)

pub shift_is : (how : BinaryOp) → OfOperands (λ s at x y. IfGood (shift at how x y) (IsUsable s))
unfolding shift
shift_is how s at x y o p = after (AreUsable s) (IsUsable s) (plains x y) (λ p. shifted_by at how p.0 p.1) (plains_are s x y o p) (λ p h. shifted_by_is how s at p.0 p.1 h.0 h.1)

promoted_by_is : (s : Scope) (how : UnaryOp) (a : TExpr) → IsUsable s a → is_integer (type_of a) ≡ true → IsUsable s (promoted_by how a)
unfolding promoted_by signed_in
promoted_by_is s how a u h =
    let k = promoted_kind (type_of a) in
    let x = in_kind_is s k a u (integer_converts (type_of a) k h) in
    integer_usable s k (promoted_by how a) (rw (IsValue-Unary s (ty.Integer k) how (in_kind k a)) (((k, (refl, promoted-promoted_kind (type_of a))), (x.usable.value, x.is)))) refl

signed_value_is : (s : Scope) (at : Place) (how : UnaryOp) (a : TExpr) → IsUsable s a → IfGood (signed_value at how a) (IsUsable s)
unfolding signed_value rule_24_signs
signed_value_is s at how a u = asked (IsUsable s) 24 at (rule_24_signs (type_of a)) (promoted_by how a) (λ q. promoted_by_is s how a u q)

complement_value_is : (s : Scope) (at : Place) (how : UnaryOp) (a : TExpr) → IsUsable s a → IfGood (complement_value at how a) (IsUsable s)
unfolding complement_value rule_25_complements
complement_value_is s at how a u = asked (IsUsable s) 25 at (rule_25_complements (type_of a)) (promoted_by how a) (λ q. promoted_by_is s how a u q)

pub signed_is : (how : UnaryOp) → OfOperand (λ s at x. IfGood (signed at how x) (IsUsable s))
unfolding signed
signed_is how s at x o = after (IsUsable s) (IsUsable s) (plain x) (signed_value at how) (plain_usable s x o) (λ a h. signed_value_is s at how a h)

pub complement_is : (how : UnaryOp) → OfOperand (λ s at x. IfGood (complement at how x) (IsUsable s))
unfolding complement
complement_is how s at x o = after (IsUsable s) (IsUsable s) (plain x) (complement_value at how) (plain_usable s x o) (λ a h. complement_value_is s at how a h)

-- ---- sums, and pointers that move

moved_is : (s : Scope) (how : Movement) (a b : TExpr) → IsUsable s a → IsUsable s b → points_to_complete (rows s) (type_of a) ≡ true → is_integer (type_of b) ≡ true → IsUsable s (moved how a b)
unfolding moved
moved_is s how a b u w h g =
    let y = in_kind_is s kind.Int b w (integer_converts (type_of b) kind.Int g) in
    record {
      value = rw (IsValue-Move s (type_of a) how a (in_kind kind.Int b)) ((h, (u.value, (refl, (y.usable.value, y.is)))));
      sound = u.sound;
      whole = u.whole;
    }

difference_is : (s : Scope) (a b : TExpr) → IsUsable s a → IsUsable s b → points_to_complete (rows s) (type_of a) ≡ true → same false (type_of a) (type_of b) ≡ true → IsUsable s (difference a b)
unfolding difference
difference_is s a b u w h g =
    let p = a_complete_pointer (rows s) (type_of a) h in
    let q = same_pointer p.0 (type_of b) (sym (ap (λ t. same false t (type_of b)) p.1) ∙ g) in
    let y = converted_is s (type_of a) b w u.sound (ap₂ well.converts q.1 p.1 ∙ pointer_converts q.0 p.0) in
    integer_usable s kind.Int (difference a b) (rw (IsValue-Difference s int a (converted (type_of a) b)) ((refl, (h, (u.value, (y.usable.value, y.is)))))) refl

sum_is : (s : Scope) (a b : TExpr) → IsUsable s a → IsUsable s b → rule_24_adds (rows s) (type_of a) (type_of b) ≡ true → IsUsable s (sum a b)
unfolding sum rule_24_adds
sum_is s a b u w h = on (is_integer (type_of a)) (is_integer (type_of b)) refl refl h
  where
    on : (i j : Bool) → is_integer (type_of a) ≡ i → is_integer (type_of b) ≡ j
        → ((i && (j || points_to_complete (rows s) (type_of b))) || (points_to_complete (rows s) (type_of a) && j)) ≡ true
        → IsUsable s (if i then (if j then operated op.Add a b else moved movement.CountFirst b a) else moved movement.Forward a b)
    on true true p q h = operated_is s op.Add a b u w p q
    on true false p q h = elim (either (points_to_complete (rows s) (type_of b)) _ h) [
      | inl g ↦ moved_is s movement.CountFirst b a w u g p
      | inr g ↦ not_true (and_both (points_to_complete (rows s) (type_of a)) false g).1
    ]
    on false j p q h = let both = and_both (points_to_complete (rows s) (type_of a)) j h in moved_is s movement.Forward a b u w both.0 (q ∙ both.1)

remaining_is : (s : Scope) (a b : TExpr) → IsUsable s a → IsUsable s b → rule_24_subtracts (rows s) (type_of a) (type_of b) ≡ true → IsUsable s (remaining a b)
unfolding remaining rule_24_subtracts
remaining_is s a b u w h = on (is_integer (type_of a)) (is_integer (type_of b)) refl refl h
  where
    on : (i j : Bool) → is_integer (type_of a) ≡ i → is_integer (type_of b) ≡ j
        → ((i && j) || (points_to_complete (rows s) (type_of a) && (j || same false (type_of a) (type_of b)))) ≡ true
        → IsUsable s (if j then (if i then operated op.Subtract a b else moved movement.Back a b) else difference a b)
    on true true p q h = operated_is s op.Subtract a b u w p q
    on false true p q h = moved_is s movement.Back a b u w (and_both (points_to_complete (rows s) (type_of a)) true h).0 q
    on true false p q h = let both = and_both (points_to_complete (rows s) (type_of a)) (same false (type_of a) (type_of b)) h in difference_is s a b u w both.0 both.1
    on false false p q h = let both = and_both (points_to_complete (rows s) (type_of a)) (same false (type_of a) (type_of b)) h in difference_is s a b u w both.0 both.1

pub added_is : OfValues (λ s at a b. IfGood (added (rows s) at a b) (IsUsable s))
unfolding added
added_is s at a b u w = asked (IsUsable s) 24 at (rule_24_adds (rows s) (type_of a) (type_of b)) (sum a b) (λ q. sum_is s a b u w q)

pub subtracted_is : OfValues (λ s at a b. IfGood (subtracted (rows s) at a b) (IsUsable s))
unfolding subtracted
subtracted_is s at a b u w = asked (IsUsable s) 24 at (rule_24_subtracts (rows s) (type_of a) (type_of b)) (remaining a b) (λ q. remaining_is s a b u w q)

pub addition_is : OfOperands (λ s at x y. IfGood (addition (rows s) at x y) (IsUsable s))
unfolding addition
addition_is s at x y o p = after (AreUsable s) (IsUsable s) (plains x y) (λ p. added (rows s) at p.0 p.1) (plains_are s x y o p) (λ p h. added_is s at p.0 p.1 h.0 h.1)

pub subtraction_is : OfOperands (λ s at x y. IfGood (subtraction (rows s) at x y) (IsUsable s))
unfolding subtraction
subtraction_is s at x y o p = after (AreUsable s) (IsUsable s) (plains x y) (λ p. subtracted (rows s) at p.0 p.1) (plains_are s x y o p) (λ p h. subtracted_is s at p.0 p.1 h.0 h.1)

-- ---- comparisons

compared_is : (s : Scope) (how : BinaryOp) (a b : TExpr) → IsUsable s a → IsUsable s b → AreCompared (type_of a) (type_of b) → IsUsable s (compared how a b)
unfolding compared
compared_is s how a b u w (inl h) =
    let k = arithmetic_kind (type_of a) (type_of b) in
    rw h.0
    (operated_in_is s k how a b (promoted-arithmetic_kind (type_of a) (type_of b)) u w (integer_converts (type_of a) k h.0) (integer_converts (type_of b) k h.1))
compared_is s how a b u w (inr h) =
    rw (address_no_integer (type_of a) h.0)
    (operated_in_is s kind.Uint how a b refl u w (address_converts (type_of a) h.0) (address_converts (type_of b) h.1))

-- integers, or pointers that convert
ordered_are : (a b : Ty) → are_ordered a b ≡ true → AreCompared a b
ordered_are a b h = elim (either (is_integer a && is_integer b) _ h) [
  | inl g ↦ inl (and_both (is_integer a) (is_integer b) g)
  | inr g ↦
      let both = and_both (is_pointer a) (type_converts a b) g in
      let x = a_pointer a both.0 in
      let y = pointer_after x.0 b (sym (ap (λ t. type_converts t b) x.1) ∙ both.1) in
      inr ((inl x, inl y))
]

channels_or_nils : (s : Scope) (x : Operand) → IsOperand s x → is_channel_or_nil x ≡ true → IsAddress (type_of x.value)
channels_or_nils s x o h = elim (either (is_channel (type_of x.value)) (is_nil x.written) h) [
  | inl g ↦ inr (a_channel (type_of x.value) g)
  | inr g ↦ inl ((ty.Void, nil_operand x.written (type_of x.value) o.written g))
]

pub order_is : (how : BinaryOp) → OfOperands (λ s at x y. IfGood (order at how x y) (IsUsable s))
unfolding order rule_26_orders
order_is how s at x y o p =
    asked (IsUsable s) 26 at (rule_26_orders x y) (compared how x.value y.value)
    (λ q. compared_is s how x.value y.value o.usable p.usable
    (ordered_are (type_of x.value) (type_of y.value)
    (and_both (not (is_nil y.written)) (are_ordered (type_of x.value) (type_of y.value)) (and_both (not (is_nil x.written)) _ q).1).1))

pub equality_is : (how : BinaryOp) → OfOperands (λ s at x y. IfGood (equality at how x y) (IsUsable s))
unfolding equality rule_26_equates
equality_is how s at x y o p =
    asked (IsUsable s) 26 at (rule_26_equates x y) (compared how x.value y.value)
    (λ q. compared_is s how x.value y.value o.usable p.usable
    (elim (either (are_ordered (type_of x.value) (type_of y.value)) _ q) [
      | inl g ↦ ordered_are (type_of x.value) (type_of y.value) g
      | inr g ↦ let both = and_both (is_channel_or_nil x) (is_channel_or_nil y) g in inr ((channels_or_nils s x o both.0, channels_or_nils s y p both.1))
    ]))

-- ---- conditions

pub condition_is : OfOperand (λ s at x. IfGood (condition at x) (IsAsked s))
unfolding condition rule_27_is_condition
condition_is s at x o =
    after (IsUsable s) (IsAsked s) (plain x) _ (plain_usable s x o)
    (λ a h. asked (IsAsked s) 27 at (rule_27_is_condition (type_of a)) a (λ q. record { usable = h; scalar = q }))

pub negation_is : OfOperand (λ s at x. IfGood (negation at x) (IsUsable s))
unfolding negation
negation_is s at x o =
    after (IsAsked s) (IsUsable s) (condition at x) (λ a. Good (expr.Not int a)) (condition_is s at x o)
    (λ a h. integer_usable s kind.Int (expr.Not int a) (rw (IsValue-Not s int a) ((refl, (h.usable.value, h.scalar)))) refl)

pub decision_is : (how : Logic) → OfOperands (λ s at x y. IfGood (decision at how x y) (IsUsable s))
unfolding decision
decision_is how s at x y o p =
    after (λ (p : TExpr × TExpr). IsAsked s p.0 × IsAsked s p.1) (IsUsable s) (conditions at x y) (λ p. Good (logical how p.0 p.1))
    (paired (IsAsked s) (IsAsked s) (condition at x) (condition at y) (condition_is s at x o) (condition_is s at y p))
    (λ p h. integer_usable s kind.Int (logical how p.0 p.1)
    (rw (IsValue-Logical s int how p.0 p.1) ((refl, (h.0.usable.value, (h.0.scalar, (h.1.usable.value, h.1.scalar))))))
    refl)

-- ---- each operator between two operands

pub binary_is : (how : Written) → OfOperands (λ s at x y. IfGood (binary (rows s) at how x y) (IsUsable s))
unfolding binary
binary_is written.Multiply s at x y o p = multiplication_is op.Multiply s at x y o p
binary_is written.Divide s at x y o p = multiplication_is op.Divide s at x y o p
binary_is written.Remainder s at x y o p = bitwise_is op.Remainder s at x y o p
binary_is written.Add s at x y o p = addition_is s at x y o p
binary_is written.Subtract s at x y o p = subtraction_is s at x y o p
binary_is written.ShiftLeft s at x y o p = shift_is op.ShiftLeft s at x y o p
binary_is written.ShiftRight s at x y o p = shift_is op.ShiftRight s at x y o p
binary_is written.Less s at x y o p = order_is op.Less s at x y o p
binary_is written.Greater s at x y o p = order_is op.Greater s at x y o p
binary_is written.LessEqual s at x y o p = order_is op.LessEqual s at x y o p
binary_is written.GreaterEqual s at x y o p = order_is op.GreaterEqual s at x y o p
binary_is written.Equal s at x y o p = equality_is op.Equal s at x y o p
binary_is written.NotEqual s at x y o p = equality_is op.NotEqual s at x y o p
binary_is written.BitAnd s at x y o p = bitwise_is op.BitAnd s at x y o p
binary_is written.BitXor s at x y o p = bitwise_is op.BitXor s at x y o p
binary_is written.BitOr s at x y o p = bitwise_is op.BitOr s at x y o p
binary_is written.And s at x y o p = decision_is logic.And s at x y o p
binary_is written.Or s at x y o p = decision_is logic.Or s at x y o p
