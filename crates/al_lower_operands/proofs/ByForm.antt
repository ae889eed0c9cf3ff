-- What holds of the operations of an expression, by its form.
use Rattle.std.proofs.Common.{◌≡◌, ℕ, Option, Some, None, ◌⊎◌, inl, inr, sym, ap, ◌∙◌, subst}
use Rattle.al_typed.specs.declared.ty.Ty.{Ty}
use Rattle.al_typed.specs.declared.expression.UnaryOp.{UnaryOp}
use Rattle.al_typed.specs.declared.expression.UnaryOp.TheVariants as unary
use Rattle.al_typed.specs.declared.expression.TExpr.{TExpr}
use Rattle.al_typed.specs.declared.expression.TExpr.TheVariants as expr
use Rattle.al_typed.specs.declared.expression.TPlace.{TPlace}
use Rattle.al_typed.specs.Typed.{type_of, place_type}
use Rattle.al_lower_code.specs.Homes.{Spot, size}
use Rattle.al_lower_code.specs.Coded.{Coded, constant_coded}
use Rattle.al_lower_code.specs.Values.{unary_coded, complement_coded, converted_coded, less_than_constant}
use Rattle.al_lower_code.specs.Expressions.{coded}
use Rattle.al_meaning.specs.Shown.{kind_of}
use Rattle.al_lower_operands.specs.Folded.{folded_bits}
use Rattle.al_lower_operands.proofs.Folding.{constant_is, folded-SizeofPlace, folded-SizeofValue, open-Unary, open-Cast, open-Convert}

pub by_form : (P : Coded → Type 0) (s : Spot) (e v : TExpr) (c : Coded) → e ≡ v → coded s v ≡ c → P c → P (coded s e)
by_form P s e v c is form made = subst P (sym (ap (coded s) is ∙ form)) made

-- the bits that were looked for are those of the expression: it is made as a constant, or it is not
pub by_constant : (P : Coded → Type 0) (s : Spot) (e : TExpr) (found : Option ℕ) (bits : ℕ) → found ≡ folded_bits s e → found ≡ Some bits
    → P (constant_coded s (type_of e) bits) → P (coded s e)
by_constant P s e found bits is some made = subst P (sym (constant_is s e bits (sym is ∙ some))) made

pub not_folded : (s : Spot) (e v : TExpr) (found : Option ℕ) → found ≡ folded_bits s e → found ≡ None → e ≡ v → folded_bits s v ≡ None
not_folded s e v found is none form = sym (ap (folded_bits s) form) ∙ sym is ∙ none

pub by_unary : (P : Coded → Type 0) (s : Spot) (e : TExpr) (t : Ty) (op : UnaryOp) (a b : TExpr) (found : Option ℕ) → found ≡ folded_bits s e → found ≡ None
    → e ≡ expr.Unary t op a → b ≡ a → P (unary_coded s t op (coded s b)) → P (coded s e)
by_unary P s e t op a b found is none form same made =
    by_form P s e (expr.Unary t op a) _ form
    (open-Unary s t op a (not_folded s e _ found is none form) ∙ ap (λ (x : TExpr). unary_coded s t op (coded s x)) (sym same)) made

pub by_conversion : (P : Coded → Type 0) (s : Spot) (e : TExpr) (t : Ty) (a b : TExpr) (found : Option ℕ) → found ≡ folded_bits s e → found ≡ None
    → (e ≡ expr.Cast t a) ⊎ (e ≡ expr.Convert t a) → b ≡ a → P (converted_coded s (type_of b) t (coded s b)) → P (coded s e)
by_conversion P s e t a b found is none (inl form) same made =
    by_form P s e (expr.Cast t a) _ form
    (open-Cast s t a (not_folded s e _ found is none form) ∙ ap (λ (x : TExpr). converted_coded s (type_of x) t (coded s x)) (sym same)) made
by_conversion P s e t a b found is none (inr form) same made =
    by_form P s e (expr.Convert t a) _ form
    (open-Convert s t a (not_folded s e _ found is none form) ∙ ap (λ (x : TExpr). converted_coded s (type_of x) t (coded s x)) (sym same)) made

-- any operator on one value but `+`
pub by_sign : (P : Coded → Type 0) (s : Spot) (t : Ty) (op : UnaryOp) (c : Coded) → (op ≡ unary.Minus) ⊎ (op ≡ unary.Complement)
    → P (less_than_constant s t (kind_of t) 0 c) → P (complement_coded s t (kind_of t) c) → P (unary_coded s t op c)
by_sign P s t op c (inl is) minus complement = subst (λ (o : UnaryOp). P (unary_coded s t o c)) (sym is) minus
by_sign P s t op c (inr is) minus complement = subst (λ (o : UnaryOp). P (unary_coded s t o c)) (sym is) complement

-- how many bytes a place has, or a value
pub place_folds : (s : Spot) (e : TExpr) (t u : Ty) (x y : TPlace) (n : ℕ) → e ≡ expr.SizeofPlace t x → y ≡ x → u ≡ place_type y → n ≡ size s u → Some n ≡ folded_bits s e
place_folds s e t u x y n form same typed is =
    ap (λ (k : ℕ). Some k) (is ∙ ap (size s) (typed ∙ ap place_type same)) ∙ sym (ap (folded_bits s) form ∙ folded-SizeofPlace s t x)

pub value_folds : (s : Spot) (e : TExpr) (t u : Ty) (a b : TExpr) (n : ℕ) → e ≡ expr.SizeofValue t a → b ≡ a → u ≡ type_of b → n ≡ size s u → Some n ≡ folded_bits s e
value_folds s e t u a b n form same typed is =
    ap (λ (k : ℕ). Some k) (is ∙ ap (size s) (typed ∙ ap type_of same)) ∙ sym (ap (folded_bits s) form ∙ folded-SizeofValue s t a)
