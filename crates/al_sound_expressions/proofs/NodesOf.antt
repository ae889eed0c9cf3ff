-- Nodes with parts that are known.
use Rattle.std.proofs.Common.{◌≡◌, ℕ, ◌<◌, ◌≤◌, ◌^◌, Bool, true, false, Option, Some, None, refl, sym, ap, ◌∙◌, subst, inl, arith}
use Rattle.std.specs.Prelude.{◌==◌, nat_lt, if◌then◌else◌}
use Rattle.std.proofs.Math.Nat.{mod-le}
use Rattle.std.proofs.lemmas.Bool.{eqb-true, ltb-true}
use Rattle.std.proofs.lemmas.Nat.{mod_below}
use Rattle.al_base.specs.Arith.{bits_in, width_of}
use Rattle.al_base.specs.declared.arith.Kind.{Kind}
use Rattle.al_base.specs.declared.arith.Kind.TheVariants as kind
use Rattle.al_base.specs.declared.place.Place.{Place}
use Rattle.al_rules.specs.Outcome.{Outcome, Good, and_then}
use Rattle.al_lex.specs.Values.{kind_of_value}
use Rattle.al_tree.specs.declared.expression.UnaryOp.{UnaryOp as Prefix}
use Rattle.al_tree.specs.declared.expression.UnaryOp.TheVariants as prefix
use Rattle.al_tree.specs.declared.expression.PostfixOp.{PostfixOp}
use Rattle.al_tree.specs.declared.expression.PostfixOp.TheVariants as postfix
use Rattle.al_tree.specs.declared.expression.Access.{Access}
use Rattle.al_tree.specs.declared.expression.Access.TheVariants as access
use Rattle.al_typed.specs.declared.ty.Ty.{Ty}
use Rattle.al_typed.specs.declared.ty.Ty.TheVariants as ty
use Rattle.al_typed.specs.declared.expression.UnaryOp.TheVariants as unary_op
use Rattle.al_typed.specs.declared.expression.StepOp.TheVariants as step_op
use Rattle.al_typed.specs.declared.expression.TExpr.{TExpr}
use Rattle.al_typed.specs.declared.expression.TExpr.TheVariants as expr
use Rattle.al_typed.specs.declared.expression.TPlace.{TPlace}
use Rattle.al_typed.specs.Types.{byte_pointer, int, is_void, is_void_at, void_pointer}
use Rattle.al_typed.specs.WellTyped.{Scope, is_sound, rows, strings_of}
use Rattle.al_typed.proofs.ValueRules.{IsValue-Constant, IsValue-Iterator, IsValue-Nil, IsValue-Text}
use Rattle.al_convert.specs.declared.literal.Literal.TheVariants as literal
use Rattle.al_convert.specs.Same.{is_of_kind, is_of_kind_at, passes}
use Rattle.al_environment.specs.declared.environment.Environment.{Environment}
use Rattle.al_environment.specs.declared.environment.Here.{Here}
use Rattle.al_operands.specs.declared.operand.Operand.{Operand}
use Rattle.al_operators.specs.Operators.{can_receive, can_send, cast, complement, negation, received, signed}
use Rattle.al_places.specs.Places.{indirection, stepped, zeroed}
use Rattle.al_type_nodes.specs.declared.found.Found.{Found}
use Rattle.al_type_nodes.specs.Uses.{addressed, operand, place_of, placed, value}
use Rattle.al_type_nodes.specs.Members.{arrow}
use Rattle.al_type_calls.specs.Callees.{arrow_callee}
use Rattle.al_type_expr.specs.Leaves.{character, iterator_found, nil_found, number, text_found, zero}
use Rattle.al_type_expr.specs.Parts.{cast_of, cast_to, gives, is_at, member_callee, member_found, postfix_found, type_sized, unary}
use Rattle.al_sound_operators.specs.Typed.{IfGood, IsOperand, IsSoundPlace, IsTyped, IsUsable, has_type}
use Rattle.al_sound_operators.specs.Operands.{IsOf}
use Rattle.al_sound_operators.specs.Places.{IsOpenPlace}
use Rattle.al_sound_nodes.specs.Nodes.{IsFound, IsShared, Tells}
use Rattle.al_sound_nodes.specs.Callees.{IsCallee}
use Rattle.al_sound_operators.proofs.TypeForms.{out_at-Integer, pointed-Pointer, out_at-Void}
use Rattle.al_sound_operators.proofs.SoundTypes.{whole-Pointer, sound-Pointer}
use Rattle.al_sound_operators.proofs.Literals.{has_type-Nil, has_type-Other, has_type-Zero}
use Rattle.al_sound_operators.proofs.Outcomes.{after, also}
use Rattle.al_sound_operators.proofs.OperatorsAre.{integer_usable, negation_is, signed_is, complement_is}
use Rattle.al_sound_operators.proofs.CastsAre.{can_receive_is, can_send_is, cast_is, received_is, size_of_type_is}
use Rattle.al_sound_operators.proofs.PlacesAre.{indirection_is, stepped_is, zeroed_is}
use Rattle.al_sound_nodes.proofs.NodesAre.{addressed_is, arrow_is, dot_is, operand_is, placed_is, usable_found, usable_typed, value_found}
use Rattle.al_sound_nodes.proofs.CalleesAre.{arrow_callee_is, dot_callee_is}

-- ---- what is found

pub gives_typed : (s : Scope) (o : Outcome TExpr) → IfGood o (IsTyped s) → IfGood (gives o) (IsFound s)
gives_typed s o h = after (IsTyped s) (IsFound s) o (λ e. Good (value e)) h (λ e t. value_found s e t)

pub gives_usable : (s : Scope) (o : Outcome TExpr) → IfGood o (IsUsable s) → IfGood (gives o) (IsFound s)
gives_usable s o h = after (IsUsable s) (IsFound s) o (λ e. Good (value e)) h (λ e u. usable_found s e u)

pub is_at_is : (s : Scope) (o : Outcome TPlace) → IfGood o (IsOpenPlace s) → IfGood (is_at o) (IsFound s)
is_at_is s o h = after (IsOpenPlace s) (IsFound s) o (λ p. Good (place_of p)) h (λ p q. record { place = q.place; open_to = λ e. inl q.address })

-- ---- leaves

value_room : (n bits : ℕ) → bits ≤ n → bits < 2 ^ 64 → bits < 2 ^ width_of (kind_of_value n)
value_room n bits l h = on (nat_lt n (2 ^ 31)) (nat_lt n (2 ^ 32)) (nat_lt n (2 ^ 63)) refl refl refl
  where
    on : (a b c : Bool) → nat_lt n (2 ^ 31) ≡ a → nat_lt n (2 ^ 32) ≡ b → nat_lt n (2 ^ 63) ≡ c
        → bits < 2 ^ width_of (if a then kind.Int else (if b then kind.Uint else (if c then kind.Lint else kind.Ulint)))
    on true b c p q r = omega (arith, l, ltb-true n (2 ^ 31) p)
    on false true c p q r = omega (arith, l, ltb-true n (2 ^ 32) q)
    on false false true p q r = h
    on false false false p q r = h

byte_room : (bits : ℕ) → bits < 2 ^ 8 → bits < 2 ^ width_of kind.Int
byte_room bits h = omega (arith, h)

int_type : is_of_kind kind.Int (ty.Integer kind.Int) ≡ true
unfolding is_of_kind
int_type = ap (is_of_kind_at kind.Int) (out_at-Integer kind.Int)

-- the number 0 is an int
zero_has_type : (n : ℕ) → has_type (zero n) (ty.Integer (kind_of_value n)) ≡ true
zero_has_type n = on (n == 0) refl
  where
    on : (b : Bool) → (n == 0) ≡ b → has_type (if b then literal.Zero else literal.Other) (ty.Integer (kind_of_value n)) ≡ true
    on true e = has_type-Zero (ty.Integer (kind_of_value n)) ∙ ap (λ m. is_of_kind kind.Int (ty.Integer (kind_of_value m))) (eqb-true n 0 e) ∙ int_type
    on false e = has_type-Other (ty.Integer (kind_of_value n))

constant_usable : (s : Scope) (k : Kind) (bits : ℕ) → bits < 2 ^ width_of k → IsUsable s (expr.Constant (ty.Integer k) bits)
constant_usable s k bits h =
    integer_usable s k (expr.Constant (ty.Integer k) bits) (rw (IsValue-Constant s (ty.Integer k) bits) ((k, (refl, h)))) refl

pub number_is : (s : Scope) (n : ℕ) → IsFound s (number n)
unfolding number
number_is s n = record {
  typed = usable_typed s (expr.Constant (ty.Integer (kind_of_value n)) (bits_in 64 n))
      (constant_usable s (kind_of_value n) (bits_in 64 n) (value_room n (bits_in 64 n) (mod-le n (2 ^ 64)) (mod_below n (2 ^ 64) (omega arith))));
  written = zero_has_type n;
}

pub character_is : (s : Scope) (n : ℕ) → IsFound s (character n)
unfolding character
character_is s n = usable_found s (expr.Constant int (bits_in 8 n)) (constant_usable s kind.Int (bits_in 8 n) (byte_room (bits_in 8 n) (mod_below n (2 ^ 8) (omega arith))))

pub text_is : (s : Scope) (at : Place) (o : Option ℕ) → ((n : ℕ) → o ≡ Some n → n < strings_of s.names) → IfGood (text_found at o) (IsFound s)
unfolding text_found
text_is s at None h = tt
text_is s at (Some n) h = usable_found s (expr.Text byte_pointer n) (record {
  value = rw (IsValue-Text s byte_pointer n) ((refl, h n refl));
  sound = sound-Pointer (rows s) (ty.Integer kind.Byte);
  whole = whole-Pointer (rows s) (ty.Integer kind.Byte);
})

void_type : is_void ty.Void ≡ true
unfolding is_void
void_type = ap is_void_at out_at-Void

pub nil_is : (s : Scope) (at : Place) → IsFound s (nil_found at)
unfolding nil_found
nil_is s at = record {
  typed = usable_typed s (expr.Nil void_pointer) (record {
    value = rw (IsValue-Nil s void_pointer) refl;
    sound = sound-Pointer (rows s) ty.Void;
    whole = whole-Pointer (rows s) ty.Void;
  });
  written = has_type-Nil at void_pointer ∙ ap (passes is_void) (pointed-Pointer ty.Void) ∙ void_type;
}

pub iterator_is : (s : Scope) (at : Place) (o : Option ℕ) → ((n : ℕ) → o ≡ Some n → n < s.iterators) → IfGood (iterator_found at o) (IsFound s)
unfolding iterator_found
iterator_is s at None h = tt
iterator_is s at (Some n) h = usable_found s (expr.Iterator int n) (integer_usable s kind.Int (expr.Iterator int n) (rw (IsValue-Iterator s int n) ((refl, h n refl))) refl)

-- ---- operators on one operand

of_operand : (s : Scope) (of : Place) (f : Found) (g : Operand → Outcome TExpr) → IsFound s f → ((x : Operand) → IsOperand s x → IfGood (g x) (IsUsable s))
    → IfGood (gives (and_then (operand (rows s) of f) g)) (IsFound s)
of_operand s of f g h k = gives_usable s (and_then (operand (rows s) of f) g) (after (IsOperand s) (IsUsable s) (operand (rows s) of f) g (operand_is s of f h) k)

of_place : (s : Scope) (at : Place) (f : Found) (g : TPlace → Outcome TExpr) → IsFound s f → ((p : TPlace) → IsSoundPlace s p → IfGood (g p) (IsUsable s))
    → IfGood (gives (and_then (placed at f) g)) (IsFound s)
of_place s at f g h k = gives_usable s (and_then (placed at f) g) (after (IsSoundPlace s) (IsUsable s) (placed at f) g (placed_is s at f h) k)

pub unary_is : (s : Scope) (at : Place) (op : Prefix) (of : Place) (f : Found) → IsFound s f → (op ≡ prefix.Address → IsShared s f) → IfGood (unary (rows s) at op of f) (IsFound s)
unfolding unary
unary_is s at prefix.Plus of f h k = of_operand s of f (signed at unary_op.Plus) h (λ x o. signed_is unary_op.Plus s at x o)
unary_is s at prefix.Minus of f h k = of_operand s of f (signed at unary_op.Minus) h (λ x o. signed_is unary_op.Minus s at x o)
unary_is s at prefix.Not of f h k = of_operand s of f (negation at) h (λ x o. negation_is s at x o)
unary_is s at prefix.Complement of f h k = of_operand s of f (complement at unary_op.Complement) h (λ x o. complement_is unary_op.Complement s at x o)
unary_is s at prefix.Indirect of f h k =
    is_at_is s (and_then (operand (rows s) of f) (indirection at)) (after (IsOperand s) (IsOpenPlace s) (operand (rows s) of f) (indirection at) (operand_is s of f h) (λ x o. indirection_is s at x o))
unary_is s at prefix.Address of f h k = gives_usable s (addressed at f) (addressed_is s at f h (k refl))
unary_is s at prefix.Increment of f h k = of_place s at f (stepped (rows s) at step_op.PreIncrement) h (λ p q. stepped_is s at step_op.PreIncrement p q)
unary_is s at prefix.Decrement of f h k = of_place s at f (stepped (rows s) at step_op.PreDecrement) h (λ p q. stepped_is s at step_op.PreDecrement p q)
unary_is s at prefix.Receive of f h k = of_operand s of f (received at) h (λ x o. received_is s at x o)
unary_is s at prefix.CanReceive of f h k = of_operand s of f (can_receive at) h (λ x o. can_receive_is s at x o)
unary_is s at prefix.Zerox of f h k = of_place s at f (zeroed (rows s) at) h (λ p q. zeroed_is s at p q)

pub postfix_is : (s : Scope) (at : Place) (op : PostfixOp) (of : Place) (f : Found) → IsFound s f → IfGood (postfix_found (rows s) at op of f) (IsFound s)
unfolding postfix_found
postfix_is s at postfix.Increment of f h = of_place s at f (stepped (rows s) at step_op.PostIncrement) h (λ p q. stepped_is s at step_op.PostIncrement p q)
postfix_is s at postfix.Decrement of f h = of_place s at f (stepped (rows s) at step_op.PostDecrement) h (λ p q. stepped_is s at step_op.PostDecrement p q)
postfix_is s at postfix.CanSend of f h = of_operand s of f (can_send at) h (λ x o. can_send_is s at x o)

-- ---- written types

pub cast_to_is : (s : Scope) (at : Place) (o : Option Ty) (of : Place) (f : Found) → IsFound s f → ((t : Ty) → o ≡ Some t → is_sound (rows s) t ≡ true)
    → IfGood (cast_to (rows s) at o of f) (IsTyped s)
unfolding cast_to cast_of
cast_to_is s at None of f h k = tt
cast_to_is s at (Some t) of f h k =
    after (IsOperand s) (IsTyped s) (operand (rows s) of f) (cast at t) (operand_is s of f h)
    (λ x o. also (IsOf s t) (IsTyped s) (cast at t x) (cast_is t s at x o (k t refl)) (λ e u. usable_typed s e u.usable))

pub type_sized_is : (s : Scope) (at : Place) (o : Option Ty) → ((t : Ty) → o ≡ Some t → is_sound (rows s) t ≡ true) → IfGood (type_sized (rows s) at o) (IsUsable s)
unfolding type_sized
type_sized_is s at None k = tt
type_sized_is s at (Some t) k = size_of_type_is s at t (k t refl)

-- ---- members

operand_in_is : (s : Scope) (env : Environment) (here : Here) → Tells s env here → (at : Place) (f : Found) → IsFound s f → IfGood (operand env.aggregates at f) (IsOperand s)
operand_in_is s env here t at f h = subst (λ rs. IfGood (operand rs at f) (IsOperand s)) (sym t.aggregates) (operand_is s at f h)

pub member_found_is : (s : Scope) (env : Environment) (here : Here) → Tells s env here → (at : Place) (how : Access) (name : ℕ) (of : Place) (f : Found) → IsFound s f
    → IfGood (member_found env here at how name of f) (IsFound s)
unfolding member_found
member_found_is s env here t at access.Dot name of f h = dot_is s env here t at name f h
member_found_is s env here t at access.Arrow name of f h =
    after (IsOperand s) (IsFound s) (operand env.aggregates of f) (arrow env here at name) (operand_in_is s env here t of f h) (λ x o. arrow_is s env here t at name x o)

pub member_callee_is : (s : Scope) (env : Environment) (here : Here) → Tells s env here → (at : Place) (how : Access) (name : ℕ) (of : Place) (f : Found) → IsFound s f
    → IfGood (member_callee env here at how name of f) (IsCallee s)
unfolding member_callee
member_callee_is s env here t at access.Dot name of f h = dot_callee_is s env here t at name f h
member_callee_is s env here t at access.Arrow name of f h =
    after (IsOperand s) (IsCallee s) (operand env.aggregates of f) (arrow_callee env here at name) (operand_in_is s env here t of f h) (λ x o. arrow_callee_is s env here t at name x o)
