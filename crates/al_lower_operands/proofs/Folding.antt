-- Expressions that are made as constants, and those that are not.
use Rattle.std.proofs.Common.{◌≡◌, ℕ, Option, Some, None, refl, ap, sym, ◌∙◌}
use Rattle.al_base.specs.declared.arith.Kind.{Kind}
use Rattle.al_typed.specs.ExpressionForms as form
use Rattle.al_typed.specs.declared.ty.Ty.{Ty}
use Rattle.al_typed.specs.declared.expression.UnaryOp.{UnaryOp}
use Rattle.al_typed.specs.declared.expression.BinaryOp.{BinaryOp}
use Rattle.al_typed.specs.declared.expression.Logic.{Logic}
use Rattle.al_typed.specs.declared.expression.TExpr.{TExpr, Constant, Text, Nil, Function, SizeofType, Tuple', Call', CallPointer', Print', Sequence', Iterator, end_of-TExpr, more_of-TExpr}
use Rattle.al_typed.specs.declared.expression.TExpr.TheBlock.{hidden-the_row-TPlace-0, hidden-the_row-TExpr-1, hidden-the_row-TTarget-2, hidden-the_row-TReceiver-4}
use Rattle.al_typed.specs.declared.expression.TExpr.TheVariants as expr
use Rattle.al_typed.specs.declared.expression.TPlace.{TPlace}
use denote.Hole.Carrier.{hidden}
use Rattle.al_typed.specs.Typed.{type_of, place_type}
use Rattle.al_meaning.specs.Places.{text_place, function_address}
use Rattle.al_lower_code.specs.Homes.{Spot, words, size}
use Rattle.al_lower_code.specs.Coded.{constant_coded, folded}
use Rattle.al_lower_code.specs.Values.{unary_coded, negation_coded, binary_coded, logical_coded, converted_coded}
use Rattle.al_lower_code.specs.Expressions.{constant_in, coded}
use Rattle.al_lower_operands.specs.Folded.{folded_bits}
use Rattle.al_lower_operands.proofs.Forms.{coded-Unary, coded-Not, coded-Binary, coded-Logical, coded-Cast, coded-Convert}

pub folded-Constant : (s : Spot) (t : Ty) (bits : ℕ) → folded_bits s (expr.Constant t bits) ≡ Some bits
unfolding hidden-the_row-TPlace-0 hidden-the_row-TExpr-1 hidden-the_row-TTarget-2 hidden-the_row-TReceiver-4 hidden
folded-Constant s t bits = refl

pub folded-Text : (s : Spot) (t : Ty) (number : ℕ) → folded_bits s (expr.Text t number) ≡ Some (text_place s.program number)
unfolding hidden-the_row-TPlace-0 hidden-the_row-TExpr-1 hidden-the_row-TTarget-2 hidden-the_row-TReceiver-4 hidden
folded-Text s t number = refl

pub folded-Nil : (s : Spot) (t : Ty) → folded_bits s (expr.Nil t) ≡ Some 0
unfolding hidden-the_row-TPlace-0 hidden-the_row-TExpr-1 hidden-the_row-TTarget-2 hidden-the_row-TReceiver-4 hidden
folded-Nil s t = refl

pub folded-Function : (s : Spot) (t : Ty) (number : ℕ) → folded_bits s (expr.Function t number) ≡ Some (function_address number)
unfolding hidden-the_row-TPlace-0 hidden-the_row-TExpr-1 hidden-the_row-TTarget-2 hidden-the_row-TReceiver-4 hidden
folded-Function s t number = refl

pub folded-SizeofType : (s : Spot) (t : Ty) (of : Ty) → folded_bits s (expr.SizeofType t of) ≡ Some (size s of)
unfolding hidden-the_row-TPlace-0 hidden-the_row-TExpr-1 hidden-the_row-TTarget-2 hidden-the_row-TReceiver-4 hidden
folded-SizeofType s t of = refl

pub folded-SizeofPlace : (s : Spot) (t : Ty) (x : TPlace) → folded_bits s (expr.SizeofPlace t x) ≡ Some (size s (place_type x))
unfolding hidden-the_row-TPlace-0 hidden-the_row-TExpr-1 hidden-the_row-TTarget-2 hidden-the_row-TReceiver-4 hidden
folded-SizeofPlace s t x = refl

pub folded-SizeofValue : (s : Spot) (t : Ty) (a : TExpr) → folded_bits s (expr.SizeofValue t a) ≡ Some (size s (type_of a))
unfolding hidden-the_row-TPlace-0 hidden-the_row-TExpr-1 hidden-the_row-TTarget-2 hidden-the_row-TReceiver-4 hidden
folded-SizeofValue s t a = refl

pub folded-Unary : (s : Spot) (t : Ty) (op : UnaryOp) (a : TExpr) → folded_bits s (expr.Unary t op a) ≡ constant_in s (expr.Unary t op a)
unfolding hidden-the_row-TPlace-0 hidden-the_row-TExpr-1 hidden-the_row-TTarget-2 hidden-the_row-TReceiver-4 hidden
folded-Unary s t op a = refl

pub folded-Not : (s : Spot) (t : Ty) (a : TExpr) → folded_bits s (expr.Not t a) ≡ constant_in s (expr.Not t a)
unfolding hidden-the_row-TPlace-0 hidden-the_row-TExpr-1 hidden-the_row-TTarget-2 hidden-the_row-TReceiver-4 hidden
folded-Not s t a = refl

pub folded-Binary : (s : Spot) (t : Ty) (op : BinaryOp) (k : Kind) (a : TExpr) (b : TExpr) → folded_bits s (expr.Binary t op k a b) ≡ constant_in s (expr.Binary t op k a b)
unfolding hidden-the_row-TPlace-0 hidden-the_row-TExpr-1 hidden-the_row-TTarget-2 hidden-the_row-TReceiver-4 hidden
folded-Binary s t op k a b = refl

pub folded-Logical : (s : Spot) (t : Ty) (op : Logic) (a : TExpr) (b : TExpr) → folded_bits s (expr.Logical t op a b) ≡ constant_in s (expr.Logical t op a b)
unfolding hidden-the_row-TPlace-0 hidden-the_row-TExpr-1 hidden-the_row-TTarget-2 hidden-the_row-TReceiver-4 hidden
folded-Logical s t op a b = refl

pub folded-Cast : (s : Spot) (t : Ty) (a : TExpr) → folded_bits s (expr.Cast t a) ≡ constant_in s (expr.Cast t a)
unfolding hidden-the_row-TPlace-0 hidden-the_row-TExpr-1 hidden-the_row-TTarget-2 hidden-the_row-TReceiver-4 hidden
folded-Cast s t a = refl

pub folded-Convert : (s : Spot) (t : Ty) (a : TExpr) → folded_bits s (expr.Convert t a) ≡ constant_in s (expr.Convert t a)
unfolding hidden-the_row-TPlace-0 hidden-the_row-TExpr-1 hidden-the_row-TTarget-2 hidden-the_row-TReceiver-4 hidden
folded-Convert s t a = refl

pub ruleset folded_are = (folded-Constant, folded-Text, folded-Nil, folded-Function, folded-SizeofType, folded-SizeofPlace, folded-SizeofValue, folded-Unary, folded-Not, folded-Binary, folded-Logical, folded-Cast, folded-Convert)

-- no other form is
pub folded-rest : (s : Spot) (e : TExpr)
    → ((t : Ty) (bits : ℕ) → e ≡ expr.Constant t bits → ⊥)
    → ((t : Ty) (number : ℕ) → e ≡ expr.Text t number → ⊥)
    → ((t : Ty) → e ≡ expr.Nil t → ⊥)
    → ((t : Ty) (number : ℕ) → e ≡ expr.Function t number → ⊥)
    → ((t : Ty) (of : Ty) → e ≡ expr.SizeofType t of → ⊥)
    → ((t : Ty) (x : TPlace) → e ≡ expr.SizeofPlace t x → ⊥)
    → ((t : Ty) (a : TExpr) → e ≡ expr.SizeofValue t a → ⊥)
    → ((t : Ty) (op : UnaryOp) (a : TExpr) → e ≡ expr.Unary t op a → ⊥)
    → ((t : Ty) (a : TExpr) → e ≡ expr.Not t a → ⊥)
    → ((t : Ty) (op : BinaryOp) (k : Kind) (a : TExpr) (b : TExpr) → e ≡ expr.Binary t op k a b → ⊥)
    → ((t : Ty) (op : Logic) (a : TExpr) (b : TExpr) → e ≡ expr.Logical t op a b → ⊥)
    → ((t : Ty) (a : TExpr) → e ≡ expr.Cast t a → ⊥)
    → ((t : Ty) (a : TExpr) → e ≡ expr.Convert t a → ⊥)
    → folded_bits s e ≡ None
unfolding hidden-the_row-TPlace-0 hidden-the_row-TExpr-1 hidden-the_row-TTarget-2 hidden-the_row-TReceiver-4 hidden
folded-rest s (Constant t bits) n0 n1 n2 n3 n4 n5 n6 n7 n8 n9 n10 n11 n12 = absurd (n0 t bits refl)
folded-rest s (Text t number) n0 n1 n2 n3 n4 n5 n6 n7 n8 n9 n10 n11 n12 = absurd (n1 t number refl)
folded-rest s (Nil t) n0 n1 n2 n3 n4 n5 n6 n7 n8 n9 n10 n11 n12 = absurd (n2 t refl)
folded-rest s (Function t number) n0 n1 n2 n3 n4 n5 n6 n7 n8 n9 n10 n11 n12 = absurd (n3 t number refl)
folded-rest s (SizeofType t of) n0 n1 n2 n3 n4 n5 n6 n7 n8 n9 n10 n11 n12 = absurd (n4 t of refl)
folded-rest s (form.sizeof_place t x) n0 n1 n2 n3 n4 n5 n6 n7 n8 n9 n10 n11 n12 = absurd (n5 t x refl)
folded-rest s (form.sizeof_value t a) n0 n1 n2 n3 n4 n5 n6 n7 n8 n9 n10 n11 n12 = absurd (n6 t a refl)
folded-rest s (form.unary t op a) n0 n1 n2 n3 n4 n5 n6 n7 n8 n9 n10 n11 n12 = absurd (n7 t op a refl)
folded-rest s (form.negation t a) n0 n1 n2 n3 n4 n5 n6 n7 n8 n9 n10 n11 n12 = absurd (n8 t a refl)
folded-rest s (form.binary t op k a b) n0 n1 n2 n3 n4 n5 n6 n7 n8 n9 n10 n11 n12 = absurd (n9 t op k a b refl)
folded-rest s (form.logical t op a b) n0 n1 n2 n3 n4 n5 n6 n7 n8 n9 n10 n11 n12 = absurd (n10 t op a b refl)
folded-rest s (form.cast t a) n0 n1 n2 n3 n4 n5 n6 n7 n8 n9 n10 n11 n12 = absurd (n11 t a refl)
folded-rest s (form.convert t a) n0 n1 n2 n3 n4 n5 n6 n7 n8 n9 n10 n11 n12 = absurd (n12 t a refl)
folded-rest s (form.load t x) n0 n1 n2 n3 n4 n5 n6 n7 n8 n9 n10 n11 n12 = refl
folded-rest s (form.decay t x) n0 n1 n2 n3 n4 n5 n6 n7 n8 n9 n10 n11 n12 = refl
folded-rest s (form.address t x) n0 n1 n2 n3 n4 n5 n6 n7 n8 n9 n10 n11 n12 = refl
folded-rest s (form.movement t how a b) n0 n1 n2 n3 n4 n5 n6 n7 n8 n9 n10 n11 n12 = refl
folded-rest s (form.difference t a b) n0 n1 n2 n3 n4 n5 n6 n7 n8 n9 n10 n11 n12 = refl
folded-rest s (form.assign t x a) n0 n1 n2 n3 n4 n5 n6 n7 n8 n9 n10 n11 n12 = refl
folded-rest s (form.update t x how a) n0 n1 n2 n3 n4 n5 n6 n7 n8 n9 n10 n11 n12 = refl
folded-rest s (form.stepped t op x) n0 n1 n2 n3 n4 n5 n6 n7 n8 n9 n10 n11 n12 = refl
folded-rest s (form.zerox t x) n0 n1 n2 n3 n4 n5 n6 n7 n8 n9 n10 n11 n12 = refl
folded-rest s (form.terminate t a) n0 n1 n2 n3 n4 n5 n6 n7 n8 n9 n10 n11 n12 = refl
folded-rest s (form.receive t a) n0 n1 n2 n3 n4 n5 n6 n7 n8 n9 n10 n11 n12 = refl
folded-rest s (form.send t a b) n0 n1 n2 n3 n4 n5 n6 n7 n8 n9 n10 n11 n12 = refl
folded-rest s (form.can_receive t a) n0 n1 n2 n3 n4 n5 n6 n7 n8 n9 n10 n11 n12 = refl
folded-rest s (form.can_send t a) n0 n1 n2 n3 n4 n5 n6 n7 n8 n9 n10 n11 n12 = refl
folded-rest s (form.member_of t a path) n0 n1 n2 n3 n4 n5 n6 n7 n8 n9 n10 n11 n12 = refl
folded-rest s (Iterator t number) n0 n1 n2 n3 n4 n5 n6 n7 n8 n9 n10 n11 n12 = refl
folded-rest s (Tuple' t w row) n0 n1 n2 n3 n4 n5 n6 n7 n8 n9 n10 n11 n12 = refl
folded-rest s (Call' t number r w row) n0 n1 n2 n3 n4 n5 n6 n7 n8 n9 n10 n11 n12 = refl
folded-rest s (CallPointer' t _ (more_of-TExpr a end_of-TExpr) w row) n0 n1 n2 n3 n4 n5 n6 n7 n8 n9 n10 n11 n12 = refl
folded-rest s (Print' t format w row) n0 n1 n2 n3 n4 n5 n6 n7 n8 n9 n10 n11 n12 = refl
folded-rest s (Sequence' t w row _ (more_of-TExpr a end_of-TExpr)) n0 n1 n2 n3 n4 n5 n6 n7 n8 n9 n10 n11 n12 = refl

some_is : (a b : ℕ) → Some a ≡ Some b → a ≡ b
some_is a b h = cc

none_some : (b : ℕ) → None ≡ Some b → ⊥
none_some b h = cc

-- what is made as a constant is no more than that
pub constant_is : (s : Spot) (e : TExpr) (bits : ℕ) → folded_bits s e ≡ Some bits → coded s e ≡ constant_coded s (type_of e) bits
unfolding hidden-the_row-TPlace-0 hidden-the_row-TExpr-1 hidden-the_row-TTarget-2 hidden-the_row-TReceiver-4 hidden
constant_is s (Constant t it) bits h = ap (constant_coded s t) (some_is (it) bits h)
constant_is s (Text t number) bits h = ap (constant_coded s t) (some_is (text_place s.program number) bits h)
constant_is s (Nil t) bits h = ap (constant_coded s t) (some_is (0) bits h)
constant_is s (Function t number) bits h = ap (constant_coded s t) (some_is (function_address number) bits h)
constant_is s (SizeofType t of) bits h = ap (constant_coded s t) (some_is (size s of) bits h)
constant_is s (form.sizeof_place t x) bits h = ap (constant_coded s t) (some_is (size s (place_type x)) bits h)
constant_is s (form.sizeof_value t a) bits h = ap (constant_coded s t) (some_is (size s (type_of a)) bits h)
constant_is s (form.unary t op a) bits h = ap (λ (o : Option ℕ). folded s t o (unary_coded s t op (coded s a))) h
constant_is s (form.negation t a) bits h = ap (λ (o : Option ℕ). folded s t o (negation_coded s t (words s (type_of a)) (coded s a))) h
constant_is s (form.binary t op k a b) bits h = ap (λ (o : Option ℕ). folded s t o (binary_coded s t op k (words s (type_of a)) (coded s a) (coded s b))) h
constant_is s (form.logical t op a b) bits h = ap (λ (o : Option ℕ). folded s t o (logical_coded s t op (words s (type_of b)) (coded s a) (coded s b))) h
constant_is s (form.cast t a) bits h = ap (λ (o : Option ℕ). folded s t o (converted_coded s (type_of a) t (coded s a))) h
constant_is s (form.convert t a) bits h = ap (λ (o : Option ℕ). folded s t o (converted_coded s (type_of a) t (coded s a))) h
constant_is s (form.load t x) bits h = absurd (none_some bits h)
constant_is s (form.decay t x) bits h = absurd (none_some bits h)
constant_is s (form.address t x) bits h = absurd (none_some bits h)
constant_is s (form.movement t how a b) bits h = absurd (none_some bits h)
constant_is s (form.difference t a b) bits h = absurd (none_some bits h)
constant_is s (form.assign t x a) bits h = absurd (none_some bits h)
constant_is s (form.update t x how a) bits h = absurd (none_some bits h)
constant_is s (form.stepped t op x) bits h = absurd (none_some bits h)
constant_is s (form.zerox t x) bits h = absurd (none_some bits h)
constant_is s (form.terminate t a) bits h = absurd (none_some bits h)
constant_is s (form.receive t a) bits h = absurd (none_some bits h)
constant_is s (form.send t a b) bits h = absurd (none_some bits h)
constant_is s (form.can_receive t a) bits h = absurd (none_some bits h)
constant_is s (form.can_send t a) bits h = absurd (none_some bits h)
constant_is s (form.member_of t a path) bits h = absurd (none_some bits h)
constant_is s (Iterator t number) bits h = absurd (none_some bits h)
constant_is s (Tuple' t w row) bits h = absurd (none_some bits h)
constant_is s (Call' t number r w row) bits h = absurd (none_some bits h)
constant_is s (CallPointer' t _ (more_of-TExpr a end_of-TExpr) w row) bits h = absurd (none_some bits h)
constant_is s (Print' t format w row) bits h = absurd (none_some bits h)
constant_is s (Sequence' t w row _ (more_of-TExpr a end_of-TExpr)) bits h = absurd (none_some bits h)

-- ---- operators and conversions that are evaluated

pub open-Unary : (s : Spot) (t : Ty) (op : UnaryOp) (a : TExpr) → folded_bits s (expr.Unary t op a) ≡ None → coded s (expr.Unary t op a) ≡ unary_coded s t op (coded s a)
open-Unary s t op a h = coded-Unary s t op a ∙ ap (λ (o : Option ℕ). folded s t o (unary_coded s t op (coded s a))) (sym (folded-Unary s t op a) ∙ h)

pub open-Not : (s : Spot) (t : Ty) (a : TExpr) → folded_bits s (expr.Not t a) ≡ None → coded s (expr.Not t a) ≡ negation_coded s t (words s (type_of a)) (coded s a)
open-Not s t a h = coded-Not s t a ∙ ap (λ (o : Option ℕ). folded s t o (negation_coded s t (words s (type_of a)) (coded s a))) (sym (folded-Not s t a) ∙ h)

pub open-Binary : (s : Spot) (t : Ty) (op : BinaryOp) (k : Kind) (a : TExpr) (b : TExpr) → folded_bits s (expr.Binary t op k a b) ≡ None → coded s (expr.Binary t op k a b) ≡ binary_coded s t op k (words s (type_of a)) (coded s a) (coded s b)
open-Binary s t op k a b h = coded-Binary s t op k a b ∙ ap (λ (o : Option ℕ). folded s t o (binary_coded s t op k (words s (type_of a)) (coded s a) (coded s b))) (sym (folded-Binary s t op k a b) ∙ h)

pub open-Logical : (s : Spot) (t : Ty) (op : Logic) (a : TExpr) (b : TExpr) → folded_bits s (expr.Logical t op a b) ≡ None → coded s (expr.Logical t op a b) ≡ logical_coded s t op (words s (type_of b)) (coded s a) (coded s b)
open-Logical s t op a b h = coded-Logical s t op a b ∙ ap (λ (o : Option ℕ). folded s t o (logical_coded s t op (words s (type_of b)) (coded s a) (coded s b))) (sym (folded-Logical s t op a b) ∙ h)

pub open-Cast : (s : Spot) (t : Ty) (a : TExpr) → folded_bits s (expr.Cast t a) ≡ None → coded s (expr.Cast t a) ≡ converted_coded s (type_of a) t (coded s a)
open-Cast s t a h = coded-Cast s t a ∙ ap (λ (o : Option ℕ). folded s t o (converted_coded s (type_of a) t (coded s a))) (sym (folded-Cast s t a) ∙ h)

pub open-Convert : (s : Spot) (t : Ty) (a : TExpr) → folded_bits s (expr.Convert t a) ≡ None → coded s (expr.Convert t a) ≡ converted_coded s (type_of a) t (coded s a)
open-Convert s t a h = coded-Convert s t a ∙ ap (λ (o : Option ℕ). folded s t o (converted_coded s (type_of a) t (coded s a))) (sym (folded-Convert s t a) ∙ h)
