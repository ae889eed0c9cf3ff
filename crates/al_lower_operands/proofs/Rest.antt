-- The forms of expressions of which nothing is known before they are made.
use Rattle.std.proofs.Common.{◌≡◌, ℕ, Bool, false, Some, None, refl, ap, ◌∙◌}
use Rattle.al_base.specs.declared.arith.Kind.{Kind}
use Rattle.al_typed.specs.ExpressionForms as form
use Rattle.al_typed.specs.declared.ty.Ty.{Ty}
use Rattle.al_typed.specs.declared.expression.UnaryOp.{UnaryOp}
use Rattle.al_typed.specs.declared.expression.BinaryOp.{BinaryOp}
use Rattle.al_typed.specs.declared.expression.Logic.{Logic}
use Rattle.al_typed.specs.declared.expression.TExpr.{TExpr, Constant, Text, Nil, Function, SizeofType, Tuple', Call', CallPointer', Print', Sequence', Iterator, end_of-TExpr, more_of-TExpr}
use Rattle.al_typed.specs.declared.expression.TExpr.TheBlock.{hidden-the_row-TPlace-0, hidden-the_row-TExpr-1, hidden-the_row-TTarget-2, hidden-the_row-TReceiver-4}
use Rattle.al_typed.specs.declared.expression.TExpr.TheVariants as expr
use Rattle.al_typed.specs.declared.expression.TPlace.{TPlace}
use denote.Hole.Carrier.{hidden}
use Rattle.al_typed.specs.Typed.{type_of, place_type}
use Rattle.al_meaning.specs.Places.{text_place, function_address}
use Rattle.al_lower_code.specs.Homes.{Spot, words, size}
use Rattle.al_lower_code.specs.Coded.{Coded}
use Rattle.al_lower_code.specs.Moving.{Stored}
use Rattle.al_lower_code.specs.Expressions.{coded, placed, aimed}
use Rattle.al_lower_operands.specs.Folded.{folded_bits}
use Rattle.al_lower_operands.proofs.Folding.{open-Not, open-Binary, open-Logical}
use Rattle.al_lower_operands.proofs.Plain.{at_to, binary_known, binary_stands, binary_leads, logical_known, logical_stands, logical_leads, movement_known, movement_is_truth, movement_stands, movement_leads, assign_known, assign_is_truth, assign_stands, assign_leads, stepped_known, stepped_is_truth, stepped_stands, stepped_leads, zerox_known, zerox_is_truth, zerox_stands, zerox_leads}

some_none : (n : ℕ) → Some n ≡ None → ⊥
some_none n h = cc

-- the bits of no other form that is evaluated are known
pub known-rest : (s : Spot) (e : TExpr) → folded_bits s e ≡ None
    → ((t : Ty) (op : UnaryOp) (a : TExpr) → e ≡ expr.Unary t op a → ⊥)
    → ((t : Ty) (a : TExpr) → e ≡ expr.Cast t a → ⊥)
    → ((t : Ty) (a : TExpr) → e ≡ expr.Convert t a → ⊥)
    → (coded s e).known ≡ None
unfolding hidden-the_row-TPlace-0 hidden-the_row-TExpr-1 hidden-the_row-TTarget-2 hidden-the_row-TReceiver-4 hidden
known-rest s (form.unary t op a) h n0 n1 n2 = absurd (n0 t op a refl)
known-rest s (form.cast t a) h n0 n1 n2 = absurd (n1 t a refl)
known-rest s (form.convert t a) h n0 n1 n2 = absurd (n2 t a refl)
known-rest s (form.negation t a) h n0 n1 n2 = ap (λ (c : Coded). c.known) (open-Not s t a h)
known-rest s (form.binary t op k a b) h n0 n1 n2 = ap (λ (c : Coded). c.known) (open-Binary s t op k a b h) ∙ binary_known s t op k (words s (type_of a)) (coded s a) (coded s b)
known-rest s (form.logical t op a b) h n0 n1 n2 = ap (λ (c : Coded). c.known) (open-Logical s t op a b h) ∙ logical_known s t op (words s (type_of b)) (coded s a) (coded s b)
known-rest s (form.movement t how a b) h n0 n1 n2 = movement_known s t how (coded s a) (coded s b)
known-rest s (form.assign t x a) h n0 n1 n2 = assign_known s t (aimed s x) (coded s a)
known-rest s (form.stepped t op x) h n0 n1 n2 = stepped_known s t op (placed s x)
known-rest s (form.zerox t x) h n0 n1 n2 = zerox_known s t (placed s x)
known-rest s (Constant t bits) h n0 n1 n2 = absurd (some_none (bits) h)
known-rest s (Text t number) h n0 n1 n2 = absurd (some_none (text_place s.program number) h)
known-rest s (Nil t) h n0 n1 n2 = absurd (some_none (0) h)
known-rest s (Function t number) h n0 n1 n2 = absurd (some_none (function_address number) h)
known-rest s (SizeofType t of) h n0 n1 n2 = absurd (some_none (size s of) h)
known-rest s (form.sizeof_place t x) h n0 n1 n2 = absurd (some_none (size s (place_type x)) h)
known-rest s (form.sizeof_value t a) h n0 n1 n2 = absurd (some_none (size s (type_of a)) h)
known-rest s (form.load t x) h n0 n1 n2 = refl
known-rest s (form.decay t x) h n0 n1 n2 = refl
known-rest s (form.address t x) h n0 n1 n2 = refl
known-rest s (form.difference t a b) h n0 n1 n2 = refl
known-rest s (form.update t x how a) h n0 n1 n2 = refl
known-rest s (form.terminate t a) h n0 n1 n2 = refl
known-rest s (form.receive t a) h n0 n1 n2 = refl
known-rest s (form.send t a b) h n0 n1 n2 = refl
known-rest s (form.can_receive t a) h n0 n1 n2 = refl
known-rest s (form.can_send t a) h n0 n1 n2 = refl
known-rest s (form.member_of t a path) h n0 n1 n2 = refl
known-rest s (Iterator t number) h n0 n1 n2 = refl
known-rest s (Tuple' t w row) h n0 n1 n2 = refl
known-rest s (Call' t number r w row) h n0 n1 n2 = refl
known-rest s (CallPointer' t _ (more_of-TExpr a end_of-TExpr) w row) h n0 n1 n2 = refl
known-rest s (Print' t format w row) h n0 n1 n2 = refl
known-rest s (Sequence' t w row _ (more_of-TExpr a end_of-TExpr)) h n0 n1 n2 = refl

-- no other form is 0 or 1
pub is_truth-rest : (s : Spot) (e : TExpr) → folded_bits s e ≡ None
    → ((t : Ty) (a : TExpr) → e ≡ expr.Not t a → ⊥)
    → ((t : Ty) (op : Logic) (a : TExpr) (b : TExpr) → e ≡ expr.Logical t op a b → ⊥)
    → ((t : Ty) (a : TExpr) → e ≡ expr.CanReceive t a → ⊥)
    → ((t : Ty) (a : TExpr) → e ≡ expr.CanSend t a → ⊥)
    → ((t : Ty) (op : BinaryOp) (k : Kind) (a : TExpr) (b : TExpr) → e ≡ expr.Binary t op k a b → ⊥)
    → ((t : Ty) (op : UnaryOp) (a : TExpr) → e ≡ expr.Unary t op a → ⊥)
    → ((t : Ty) (a : TExpr) → e ≡ expr.Cast t a → ⊥)
    → ((t : Ty) (a : TExpr) → e ≡ expr.Convert t a → ⊥)
    → (coded s e).is_truth ≡ false
unfolding hidden-the_row-TPlace-0 hidden-the_row-TExpr-1 hidden-the_row-TTarget-2 hidden-the_row-TReceiver-4 hidden
is_truth-rest s (form.negation t a) h n0 n1 n2 n3 n4 n5 n6 n7 = absurd (n0 t a refl)
is_truth-rest s (form.logical t op a b) h n0 n1 n2 n3 n4 n5 n6 n7 = absurd (n1 t op a b refl)
is_truth-rest s (form.can_receive t a) h n0 n1 n2 n3 n4 n5 n6 n7 = absurd (n2 t a refl)
is_truth-rest s (form.can_send t a) h n0 n1 n2 n3 n4 n5 n6 n7 = absurd (n3 t a refl)
is_truth-rest s (form.binary t op k a b) h n0 n1 n2 n3 n4 n5 n6 n7 = absurd (n4 t op k a b refl)
is_truth-rest s (form.unary t op a) h n0 n1 n2 n3 n4 n5 n6 n7 = absurd (n5 t op a refl)
is_truth-rest s (form.cast t a) h n0 n1 n2 n3 n4 n5 n6 n7 = absurd (n6 t a refl)
is_truth-rest s (form.convert t a) h n0 n1 n2 n3 n4 n5 n6 n7 = absurd (n7 t a refl)
is_truth-rest s (form.movement t how a b) h n0 n1 n2 n3 n4 n5 n6 n7 = movement_is_truth s t how (coded s a) (coded s b)
is_truth-rest s (form.assign t x a) h n0 n1 n2 n3 n4 n5 n6 n7 = assign_is_truth s t (aimed s x) (coded s a)
is_truth-rest s (form.stepped t op x) h n0 n1 n2 n3 n4 n5 n6 n7 = stepped_is_truth s t op (placed s x)
is_truth-rest s (form.zerox t x) h n0 n1 n2 n3 n4 n5 n6 n7 = zerox_is_truth s t (placed s x)
is_truth-rest s (Constant t bits) h n0 n1 n2 n3 n4 n5 n6 n7 = absurd (some_none (bits) h)
is_truth-rest s (Text t number) h n0 n1 n2 n3 n4 n5 n6 n7 = absurd (some_none (text_place s.program number) h)
is_truth-rest s (Nil t) h n0 n1 n2 n3 n4 n5 n6 n7 = absurd (some_none (0) h)
is_truth-rest s (Function t number) h n0 n1 n2 n3 n4 n5 n6 n7 = absurd (some_none (function_address number) h)
is_truth-rest s (SizeofType t of) h n0 n1 n2 n3 n4 n5 n6 n7 = absurd (some_none (size s of) h)
is_truth-rest s (form.sizeof_place t x) h n0 n1 n2 n3 n4 n5 n6 n7 = absurd (some_none (size s (place_type x)) h)
is_truth-rest s (form.sizeof_value t a) h n0 n1 n2 n3 n4 n5 n6 n7 = absurd (some_none (size s (type_of a)) h)
is_truth-rest s (form.load t x) h n0 n1 n2 n3 n4 n5 n6 n7 = refl
is_truth-rest s (form.decay t x) h n0 n1 n2 n3 n4 n5 n6 n7 = refl
is_truth-rest s (form.address t x) h n0 n1 n2 n3 n4 n5 n6 n7 = refl
is_truth-rest s (form.difference t a b) h n0 n1 n2 n3 n4 n5 n6 n7 = refl
is_truth-rest s (form.update t x how a) h n0 n1 n2 n3 n4 n5 n6 n7 = refl
is_truth-rest s (form.terminate t a) h n0 n1 n2 n3 n4 n5 n6 n7 = refl
is_truth-rest s (form.receive t a) h n0 n1 n2 n3 n4 n5 n6 n7 = refl
is_truth-rest s (form.send t a b) h n0 n1 n2 n3 n4 n5 n6 n7 = refl
is_truth-rest s (form.member_of t a path) h n0 n1 n2 n3 n4 n5 n6 n7 = refl
is_truth-rest s (Iterator t number) h n0 n1 n2 n3 n4 n5 n6 n7 = refl
is_truth-rest s (Tuple' t w row) h n0 n1 n2 n3 n4 n5 n6 n7 = refl
is_truth-rest s (Call' t number r w row) h n0 n1 n2 n3 n4 n5 n6 n7 = refl
is_truth-rest s (CallPointer' t _ (more_of-TExpr a end_of-TExpr) w row) h n0 n1 n2 n3 n4 n5 n6 n7 = refl
is_truth-rest s (Print' t format w row) h n0 n1 n2 n3 n4 n5 n6 n7 = refl
is_truth-rest s (Sequence' t w row _ (more_of-TExpr a end_of-TExpr)) h n0 n1 n2 n3 n4 n5 n6 n7 = refl

-- no other form stands in slots
pub stands-rest : (s : Spot) (e : TExpr) → folded_bits s e ≡ None
    → ((t : Ty) (x : TPlace) → e ≡ expr.Load t x → ⊥)
    → ((t : Ty) (number : ℕ) → e ≡ expr.Iterator t number → ⊥)
    → ((t : Ty) (op : UnaryOp) (a : TExpr) → e ≡ expr.Unary t op a → ⊥)
    → ((t : Ty) (a : TExpr) → e ≡ expr.Cast t a → ⊥)
    → ((t : Ty) (a : TExpr) → e ≡ expr.Convert t a → ⊥)
    → (coded s e).stands ≡ None
unfolding hidden-the_row-TPlace-0 hidden-the_row-TExpr-1 hidden-the_row-TTarget-2 hidden-the_row-TReceiver-4 hidden
stands-rest s (form.load t x) h n0 n1 n2 n3 n4 = absurd (n0 t x refl)
stands-rest s (Iterator t number) h n0 n1 n2 n3 n4 = absurd (n1 t number refl)
stands-rest s (form.unary t op a) h n0 n1 n2 n3 n4 = absurd (n2 t op a refl)
stands-rest s (form.cast t a) h n0 n1 n2 n3 n4 = absurd (n3 t a refl)
stands-rest s (form.convert t a) h n0 n1 n2 n3 n4 = absurd (n4 t a refl)
stands-rest s (form.negation t a) h n0 n1 n2 n3 n4 = ap (λ (c : Coded). c.stands) (open-Not s t a h)
stands-rest s (form.binary t op k a b) h n0 n1 n2 n3 n4 = ap (λ (c : Coded). c.stands) (open-Binary s t op k a b h) ∙ binary_stands s t op k (words s (type_of a)) (coded s a) (coded s b)
stands-rest s (form.logical t op a b) h n0 n1 n2 n3 n4 = ap (λ (c : Coded). c.stands) (open-Logical s t op a b h) ∙ logical_stands s t op (words s (type_of b)) (coded s a) (coded s b)
stands-rest s (form.movement t how a b) h n0 n1 n2 n3 n4 = movement_stands s t how (coded s a) (coded s b)
stands-rest s (form.assign t x a) h n0 n1 n2 n3 n4 = assign_stands s t (aimed s x) (coded s a)
stands-rest s (form.stepped t op x) h n0 n1 n2 n3 n4 = stepped_stands s t op (placed s x)
stands-rest s (form.zerox t x) h n0 n1 n2 n3 n4 = zerox_stands s t (placed s x)
stands-rest s (Constant t bits) h n0 n1 n2 n3 n4 = absurd (some_none (bits) h)
stands-rest s (Text t number) h n0 n1 n2 n3 n4 = absurd (some_none (text_place s.program number) h)
stands-rest s (Nil t) h n0 n1 n2 n3 n4 = absurd (some_none (0) h)
stands-rest s (Function t number) h n0 n1 n2 n3 n4 = absurd (some_none (function_address number) h)
stands-rest s (SizeofType t of) h n0 n1 n2 n3 n4 = absurd (some_none (size s of) h)
stands-rest s (form.sizeof_place t x) h n0 n1 n2 n3 n4 = absurd (some_none (size s (place_type x)) h)
stands-rest s (form.sizeof_value t a) h n0 n1 n2 n3 n4 = absurd (some_none (size s (type_of a)) h)
stands-rest s (form.decay t x) h n0 n1 n2 n3 n4 = refl
stands-rest s (form.address t x) h n0 n1 n2 n3 n4 = refl
stands-rest s (form.difference t a b) h n0 n1 n2 n3 n4 = refl
stands-rest s (form.update t x how a) h n0 n1 n2 n3 n4 = refl
stands-rest s (form.terminate t a) h n0 n1 n2 n3 n4 = refl
stands-rest s (form.receive t a) h n0 n1 n2 n3 n4 = refl
stands-rest s (form.send t a b) h n0 n1 n2 n3 n4 = refl
stands-rest s (form.can_receive t a) h n0 n1 n2 n3 n4 = refl
stands-rest s (form.can_send t a) h n0 n1 n2 n3 n4 = refl
stands-rest s (form.member_of t a path) h n0 n1 n2 n3 n4 = refl
stands-rest s (Tuple' t w row) h n0 n1 n2 n3 n4 = refl
stands-rest s (Call' t number r w row) h n0 n1 n2 n3 n4 = refl
stands-rest s (CallPointer' t _ (more_of-TExpr a end_of-TExpr) w row) h n0 n1 n2 n3 n4 = refl
stands-rest s (Print' t format w row) h n0 n1 n2 n3 n4 = refl
stands-rest s (Sequence' t w row _ (more_of-TExpr a end_of-TExpr)) h n0 n1 n2 n3 n4 = refl

-- any other address stands in slots, without an offset
pub leads-rest : (s : Spot) (e : TExpr) (lasting : Bool) (to : ℕ) → folded_bits s e ≡ None
    → ((t : Ty) (x : TPlace) → e ≡ expr.Decay t x → ⊥)
    → ((t : Ty) (x : TPlace) → e ≡ expr.Address t x → ⊥)
    → ((t : Ty) (x : TPlace) → e ≡ expr.Load t x → ⊥)
    → ((t : Ty) (number : ℕ) → e ≡ expr.Iterator t number → ⊥)
    → ((t : Ty) (op : UnaryOp) (a : TExpr) → e ≡ expr.Unary t op a → ⊥)
    → ((t : Ty) (a : TExpr) → e ≡ expr.Cast t a → ⊥)
    → ((t : Ty) (a : TExpr) → e ≡ expr.Convert t a → ⊥)
    → (coded s e).leads lasting to ≡ Stored to 0
unfolding hidden-the_row-TPlace-0 hidden-the_row-TExpr-1 hidden-the_row-TTarget-2 hidden-the_row-TReceiver-4 hidden
leads-rest s (form.decay t x) lasting to h n0 n1 n2 n3 n4 n5 n6 = absurd (n0 t x refl)
leads-rest s (form.address t x) lasting to h n0 n1 n2 n3 n4 n5 n6 = absurd (n1 t x refl)
leads-rest s (form.load t x) lasting to h n0 n1 n2 n3 n4 n5 n6 = absurd (n2 t x refl)
leads-rest s (Iterator t number) lasting to h n0 n1 n2 n3 n4 n5 n6 = absurd (n3 t number refl)
leads-rest s (form.unary t op a) lasting to h n0 n1 n2 n3 n4 n5 n6 = absurd (n4 t op a refl)
leads-rest s (form.cast t a) lasting to h n0 n1 n2 n3 n4 n5 n6 = absurd (n5 t a refl)
leads-rest s (form.convert t a) lasting to h n0 n1 n2 n3 n4 n5 n6 = absurd (n6 t a refl)
leads-rest s (form.negation t a) lasting to h n0 n1 n2 n3 n4 n5 n6 = ap (λ (c : Coded). c.leads lasting to) (open-Not s t a h) ∙ at_to lasting to
leads-rest s (form.binary t op k a b) lasting to h n0 n1 n2 n3 n4 n5 n6 = ap (λ (c : Coded). c.leads lasting to) (open-Binary s t op k a b h) ∙ binary_leads s t op k (words s (type_of a)) (coded s a) (coded s b) lasting to
leads-rest s (form.logical t op a b) lasting to h n0 n1 n2 n3 n4 n5 n6 = ap (λ (c : Coded). c.leads lasting to) (open-Logical s t op a b h) ∙ logical_leads s t op (words s (type_of b)) (coded s a) (coded s b) lasting to
leads-rest s (form.movement t how a b) lasting to h n0 n1 n2 n3 n4 n5 n6 = movement_leads s t how (coded s a) (coded s b) lasting to
leads-rest s (form.assign t x a) lasting to h n0 n1 n2 n3 n4 n5 n6 = assign_leads s t (aimed s x) (coded s a) lasting to
leads-rest s (form.stepped t op x) lasting to h n0 n1 n2 n3 n4 n5 n6 = stepped_leads s t op (placed s x) lasting to
leads-rest s (form.zerox t x) lasting to h n0 n1 n2 n3 n4 n5 n6 = zerox_leads s t (placed s x) lasting to
leads-rest s (Constant t bits) lasting to h n0 n1 n2 n3 n4 n5 n6 = absurd (some_none (bits) h)
leads-rest s (Text t number) lasting to h n0 n1 n2 n3 n4 n5 n6 = absurd (some_none (text_place s.program number) h)
leads-rest s (Nil t) lasting to h n0 n1 n2 n3 n4 n5 n6 = absurd (some_none (0) h)
leads-rest s (Function t number) lasting to h n0 n1 n2 n3 n4 n5 n6 = absurd (some_none (function_address number) h)
leads-rest s (SizeofType t of) lasting to h n0 n1 n2 n3 n4 n5 n6 = absurd (some_none (size s of) h)
leads-rest s (form.sizeof_place t x) lasting to h n0 n1 n2 n3 n4 n5 n6 = absurd (some_none (size s (place_type x)) h)
leads-rest s (form.sizeof_value t a) lasting to h n0 n1 n2 n3 n4 n5 n6 = absurd (some_none (size s (type_of a)) h)
leads-rest s (form.difference t a b) lasting to h n0 n1 n2 n3 n4 n5 n6 = at_to lasting to
leads-rest s (form.update t x how a) lasting to h n0 n1 n2 n3 n4 n5 n6 = at_to lasting to
leads-rest s (form.terminate t a) lasting to h n0 n1 n2 n3 n4 n5 n6 = at_to lasting to
leads-rest s (form.receive t a) lasting to h n0 n1 n2 n3 n4 n5 n6 = at_to lasting to
leads-rest s (form.send t a b) lasting to h n0 n1 n2 n3 n4 n5 n6 = at_to lasting to
leads-rest s (form.can_receive t a) lasting to h n0 n1 n2 n3 n4 n5 n6 = at_to lasting to
leads-rest s (form.can_send t a) lasting to h n0 n1 n2 n3 n4 n5 n6 = at_to lasting to
leads-rest s (form.member_of t a path) lasting to h n0 n1 n2 n3 n4 n5 n6 = at_to lasting to
leads-rest s (Tuple' t w row) lasting to h n0 n1 n2 n3 n4 n5 n6 = at_to lasting to
leads-rest s (Call' t number r w row) lasting to h n0 n1 n2 n3 n4 n5 n6 = at_to lasting to
leads-rest s (CallPointer' t _ (more_of-TExpr a end_of-TExpr) w row) lasting to h n0 n1 n2 n3 n4 n5 n6 = at_to lasting to
leads-rest s (Print' t format w row) lasting to h n0 n1 n2 n3 n4 n5 n6 = at_to lasting to
leads-rest s (Sequence' t w row _ (more_of-TExpr a end_of-TExpr)) lasting to h n0 n1 n2 n3 n4 n5 n6 = at_to lasting to
