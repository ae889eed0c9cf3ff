-- Expressions that have the operations of a part of them, and operators on one value.
use Rattle.std.proofs.Common.{◌≡◌, ℕ, ◌+◌, ◌-◌, ◌^◌, Bool, true, false, if◌then◌else◌, List, ◌++◌, None, ◌⊎◌, inl, inr, refl, sym, ap, ◌∙◌, subst}
use Rattle.std.proofs.lemmas.Bool.{true≢false}
use Rattle.al_base.specs.declared.arith.Op.TheVariants as arith
use Rattle.al_typed.specs.declared.ty.Ty.{Ty}
use Rattle.al_typed.specs.declared.expression.UnaryOp.{UnaryOp}
use Rattle.al_typed.specs.declared.expression.UnaryOp.TheVariants as unary
use Rattle.al_typed.specs.declared.expression.TExpr.{TExpr, Constant, Text, Nil, Function, SizeofType, Tuple', Call', CallPointer', Print', Sequence', Iterator, end_of-TExpr, more_of-TExpr}
use Rattle.al_typed.specs.declared.expression.TExpr.TheBlock.{hidden-the_row-TPlace-0, hidden-the_row-TExpr-1, hidden-the_row-TTarget-2, hidden-the_row-TReceiver-4}
use Rattle.al_typed.specs.declared.expression.TExpr.TheVariants as expr
use Rattle.al_typed.specs.ExpressionForms as form
use denote.Hole.Carrier.{hidden}
use Rattle.al_typed.specs.Typed.{type_of}
use Rattle.al_meaning.specs.Words.{integer_words}
use Rattle.al_meaning.specs.Shown.{kind_of}
use Rattle.al_ir.specs.declared.op.Op.TheVariants.{Complement}
use Rattle.al_lower_code.specs.Homes.{Spot, words, here}
use Rattle.al_lower_code.specs.Moving.{constants}
use Rattle.al_lower_code.specs.Operators.{is_long, arithmetic, stays}
use Rattle.al_lower_code.specs.Coded.{Coded, operand_code, operand_slot}
use Rattle.al_lower_code.specs.Values.{complement_coded, unary_coded, converted_coded}
use Rattle.al_lower_code.specs.Expressions.{coded}
use Rattle.al_lower_operands.specs.Folded.{folded_bits}
use Rattle.al_lower_operands.proofs.Folding.{open-Unary, open-Cast, open-Convert}
use Rattle.al_lower_operands.proofs.Plain.{converted_stays}
use Rattle.al_lower_forms.specs.declared.same.Form.{Form}
use Rattle.al_lower_forms.specs.declared.same.Form.TheVariants as found
use Rattle.al_lower_forms.specs.Same.{is_plus, is_same, Same, IsForm}

-- ---- which they are

pub same-Unary : (t : Ty) (op : UnaryOp) (a : TExpr) → is_same (expr.Unary t op a) ≡ is_plus op
unfolding hidden-the_row-TPlace-0 hidden-the_row-TExpr-1 hidden-the_row-TTarget-2 hidden-the_row-TReceiver-4 hidden
same-Unary t op a = refl

pub same-Cast : (t : Ty) (a : TExpr) → is_same (expr.Cast t a) ≡ stays (type_of a) t
unfolding hidden-the_row-TPlace-0 hidden-the_row-TExpr-1 hidden-the_row-TTarget-2 hidden-the_row-TReceiver-4 hidden
same-Cast t a = refl

pub same-Convert : (t : Ty) (a : TExpr) → is_same (expr.Convert t a) ≡ stays (type_of a) t
unfolding hidden-the_row-TPlace-0 hidden-the_row-TExpr-1 hidden-the_row-TTarget-2 hidden-the_row-TReceiver-4 hidden
same-Convert t a = refl

pub same-rest : (e : TExpr)
    → ((t : Ty) (op : UnaryOp) (a : TExpr) → e ≡ expr.Unary t op a → ⊥)
    → ((t : Ty) (a : TExpr) → e ≡ expr.Cast t a → ⊥)
    → ((t : Ty) (a : TExpr) → e ≡ expr.Convert t a → ⊥)
    → is_same e ≡ false
unfolding hidden-the_row-TPlace-0 hidden-the_row-TExpr-1 hidden-the_row-TTarget-2 hidden-the_row-TReceiver-4 hidden
same-rest (Constant t bits) n0 n1 n2 = refl
same-rest (Text t number) n0 n1 n2 = refl
same-rest (Nil t) n0 n1 n2 = refl
same-rest (Function t number) n0 n1 n2 = refl
same-rest (SizeofType t of) n0 n1 n2 = refl
same-rest (form.sizeof_place t x) n0 n1 n2 = refl
same-rest (form.sizeof_value t a) n0 n1 n2 = refl
same-rest (form.unary t op a) n0 n1 n2 = absurd (n0 t op a refl)
same-rest (form.negation t a) n0 n1 n2 = refl
same-rest (form.binary t op k a b) n0 n1 n2 = refl
same-rest (form.logical t op a b) n0 n1 n2 = refl
same-rest (form.cast t a) n0 n1 n2 = absurd (n1 t a refl)
same-rest (form.convert t a) n0 n1 n2 = absurd (n2 t a refl)
same-rest (form.load t x) n0 n1 n2 = refl
same-rest (form.decay t x) n0 n1 n2 = refl
same-rest (form.address t x) n0 n1 n2 = refl
same-rest (form.movement t how a b) n0 n1 n2 = refl
same-rest (form.difference t a b) n0 n1 n2 = refl
same-rest (form.assign t x a) n0 n1 n2 = refl
same-rest (form.update t x how a) n0 n1 n2 = refl
same-rest (form.stepped t op x) n0 n1 n2 = refl
same-rest (form.zerox t x) n0 n1 n2 = refl
same-rest (form.terminate t a) n0 n1 n2 = refl
same-rest (form.receive t a) n0 n1 n2 = refl
same-rest (form.send t a b) n0 n1 n2 = refl
same-rest (form.can_receive t a) n0 n1 n2 = refl
same-rest (form.can_send t a) n0 n1 n2 = refl
same-rest (form.member_of t a path) n0 n1 n2 = refl
same-rest (Iterator t number) n0 n1 n2 = refl
same-rest (Tuple' t w row) n0 n1 n2 = refl
same-rest (Call' t number r w row) n0 n1 n2 = refl
same-rest (CallPointer' t _ (more_of-TExpr a end_of-TExpr) w row) n0 n1 n2 = refl
same-rest (Print' t format w row) n0 n1 n2 = refl
same-rest (Sequence' t w row _ (more_of-TExpr a end_of-TExpr)) n0 n1 n2 = refl

-- ---- their operations

pub same_sign : (e part a : TExpr) (t : Ty) (op : UnaryOp) → e ≡ expr.Unary t op a → op ≡ unary.Plus → part ≡ a → Same e part
same_sign e part a t op form plus same s h =
    ap (coded s) form ∙ open-Unary s t op a (ap (folded_bits s) (sym form) ∙ h)
    ∙ ap (λ (o : UnaryOp). unary_coded s t o (coded s a)) plus ∙ ap (coded s) (sym same)

pub same_change : (e part a : TExpr) (t : Ty) → (e ≡ expr.Cast t a) ⊎ (e ≡ expr.Convert t a) → stays (type_of part) t ≡ true → part ≡ a → Same e part
same_change e part a t (inl form) stay same s h =
    ap (coded s) form ∙ open-Cast s t a (ap (folded_bits s) (sym form) ∙ h)
    ∙ ap (λ (x : TExpr). converted_coded s (type_of x) t (coded s x)) (sym same) ∙ converted_stays s (type_of part) t (coded s part) stay
same_change e part a t (inr form) stay same s h =
    ap (coded s) form ∙ open-Convert s t a (ap (folded_bits s) (sym form) ∙ h)
    ∙ ap (λ (x : TExpr). converted_coded s (type_of x) t (coded s x)) (sym same) ∙ converted_stays s (type_of part) t (coded s part) stay

pub changes : (e part a : TExpr) (t : Ty) → (e ≡ expr.Cast t a) ⊎ (e ≡ expr.Convert t a) → stays (type_of part) t ≡ false → part ≡ a → is_same e ≡ false
changes e part a t (inl form) stay same = ap is_same form ∙ same-Cast t a ∙ ap (λ (x : TExpr). stays (type_of x) t) (sym same) ∙ stay
changes e part a t (inr form) stay same = ap is_same form ∙ same-Convert t a ∙ ap (λ (x : TExpr). stays (type_of x) t) (sym same) ∙ stay

pub signs : (e a : TExpr) (t : Ty) (op : UnaryOp) → e ≡ expr.Unary t op a → (op ≡ unary.Minus) ⊎ (op ≡ unary.Complement) → is_same e ≡ false
signs e a t op form (inl is) = ap is_same form ∙ same-Unary t op a ∙ ap is_plus is
signs e a t op form (inr is) = ap is_same form ∙ same-Unary t op a ∙ ap is_plus is

-- an expression that is not has a conversion that changes bits
pub changed : {e a part : TExpr} {t : Ty} → is_same e ≡ false → (e ≡ expr.Cast t a) ⊎ (e ≡ expr.Convert t a) → part ≡ a → stays (type_of part) t ≡ false
changed {e} {a} {part} {t} h (inl form) same = ap (λ (x : TExpr). stays (type_of x) t) same ∙ sym (same-Cast t a) ∙ sym (ap is_same form) ∙ h
changed {e} {a} {part} {t} h (inr form) same = ap (λ (x : TExpr). stays (type_of x) t) same ∙ sym (same-Convert t a) ∙ sym (ap is_same form) ∙ h

pub is_form : (s : Spot) (e : TExpr) (f g : Form) → IsForm s e f → f ≡ g → IsForm s e g
is_form s e f g made is = subst (IsForm s e) is made

pub open_folded : (s : Spot) (e : TExpr) (f : Form) → IsForm s e f → f ≡ found.Open → folded_bits s e ≡ None
open_folded s e f made is = (subst (IsForm s e) is made).0

pub open_same : (s : Spot) (e : TExpr) (f : Form) → IsForm s e f → f ≡ found.Open → is_same e ≡ false
open_same s e f made is = (subst (IsForm s e) is made).1

-- ---- operators

first_of_two : {A : Type 0} (field : Coded → A) (b : Bool) (x y : Coded) (a : A) → b ≡ true → field x ≡ a → field (if b then x else y) ≡ a
first_of_two field true x y a h q = q
first_of_two field false x y a h q = absurd (true≢false (sym h))

other_of : {A : Type 0} (field : Coded → A) (b : Bool) (x y : Coded) (a : A) → b ≡ false → field y ≡ a → field (if b then x else y) ≡ a
other_of field true x y a h q = absurd (true≢false h)
other_of field false x y a h q = q

pub long_complement : (t : Ty) → is_long (kind_of t) ≡ true → (s : Spot) (c : Coded) (dest to : ℕ)
    → (complement_coded s t (kind_of t) c).value dest to
    ≡ operand_code c to ++ (constants s.line (to + words s t) (integer_words (kind_of t) (2 ^ 64 - 1)) ++ here s (arithmetic (kind_of t) arith.Sub dest (to + words s t) (operand_slot c to)))
long_complement t h s c dest to = first_of_two (λ (x : Coded). x.value dest to) (is_long (kind_of t)) _ _ _ h refl

pub word_complement : (t : Ty) → is_long (kind_of t) ≡ false → (s : Spot) (c : Coded) (dest to : ℕ)
    → (complement_coded s t (kind_of t) c).value dest to ≡ operand_code c to ++ here s (Complement dest (operand_slot c to))
word_complement t h s c dest to = other_of (λ (x : Coded). x.value dest to) (is_long (kind_of t)) _ _ _ h refl
