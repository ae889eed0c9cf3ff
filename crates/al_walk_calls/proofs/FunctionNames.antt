-- Which function a value names.
use Rattle.std.proofs.Common.{◌≡◌, ◌≢◌, ◌==◌, ℕ, zero, suc, ◌+◌, Bool, IsTrue, true, false, if◌then◌else◌, List, [], ◌∷◌, Option, Some, None, refl, sym, ap, ap₂, ◌∙◌, add-zero, zero-add, eq-eqb, min, take, length, arith}
use Rattle.std.proofs.lemmas.Bool.{eqb-true, false≢true}
use Rattle.std.proofs.lemmas.List.{take_min}
use Rattle.std.specs.Prelude.{slice_get, unwrap_or}
use Rattle.al_typed.specs.declared.program.Function.{Function}
use Rattle.al_typed.specs.declared.program.Local.{Local}
use Rattle.al_typed.specs.declared.program.Program.{Program}
use Rattle.al_typed.specs.Typed.{function_type, local_types}
use Rattle.al_typed.specs.declared.ty.Ty.{Ty, out-Ty}
use Rattle.al_typed.specs.declared.ty.Ty.TheOpen.{Ty-F}
use Rattle.al_typed.specs.declared.ty.Ty.TheVariants as ty
use Rattle.al_convert.specs.Same.{pointed, pointed_at, same}
use Rattle.al_typed.specs.Alike.{are_alike}
use Rattle.al_meaning.specs.Calls.{has_type, named_by}
use Rattle.al_meaning.specs.Here.{pointee, pointee_at}
use Rattle.al_meaning.specs.Places.{function_address, function_at}
use Rattle.al_walk_calls.specs.Names.{of_type}
use Rattle.al_convert.proofs.Alikes.{alike}

one_further : (start k : ℕ) → (start + 1) + k ≡ start + suc k
one_further start k = omega arith

skips : (t : Ty) (value start : ℕ) (f : Function) (fs : List Function) → value ≢ function_address start
    → named_by t value start (f ∷ fs) ≡ named_by t value (start + 1) fs
skips t value start f fs ne =
    elim (function_address start == value) as (λ b. (function_address start == value) ≡ b → (if b then (if has_type t f.around f then Some start else None) else named_by t value (start + 1) fs) ≡ named_by t value (start + 1) fs)
    [ true ↦ λ e. absurd (ne (sym (eqb-true _ _ e))) | false ↦ λ e. refl ] refl

hits : (t : Ty) (start : ℕ) (f : Function) (fs : List Function) → named_by t (function_address start) start (f ∷ fs) ≡ of_type t start (Some f)
hits t start f fs = ap (λ b. if b then (if has_type t f.around f then Some start else None) else named_by t (function_address start) (start + 1) fs) (eq-eqb (function_address start) (function_address start) refl)

named_from : (t : Ty) (value start k : ℕ) (fs : List Function) → value ≡ function_address (start + k) → named_by t value start fs ≡ of_type t (start + k) (slice_get fs k)
named_from t value start k [] e = refl
named_from t value start zero (f ∷ fs) e =
    ap (λ v. named_by t v start (f ∷ fs)) (e ∙ ap function_address (add-zero start)) ∙ hits t start f fs ∙ ap (λ n. of_type t n (Some f)) (sym (add-zero start))
named_from t value start (suc k) (f ∷ fs) e =
    skips t value start f fs (λ e'. omega (arith, e, e')) ∙ named_from t value (start + 1) k fs (e ∙ ap function_address (sym (one_further start k)))
    ∙ ap (λ n. of_type t n (slice_get fs k)) (one_further start k)

unnamed_from : (t : Ty) (value start : ℕ) (fs : List Function) → ((n : ℕ) → value ≢ function_address n) → named_by t value start fs ≡ None
unnamed_from t value start [] h = refl
unnamed_from t value start (f ∷ fs) h = skips t value start f fs (h start) ∙ unnamed_from t value (start + 1) fs h

pub unnamed : (t : Ty) (value : ℕ) (fs : List Function) → ((n : ℕ) → value ≢ function_address n) → None ≡ named_by t value 0 fs
unnamed t value fs h = sym (unnamed_from t value 0 fs h)

pub named_by-function_address : (t : Ty) (value n : ℕ) (p : Program) → value ≡ function_address n → named_by t value 0 p.functions ≡ of_type t n (function_at p n)
named_by-function_address t value n p e =
    named_from t value 0 n p.functions (e ∙ ap function_address (sym (zero-add n))) ∙ ap (λ k. of_type t k (function_at p n)) (zero-add n)

-- what a pointer leads to
pointee_is : (t : Ty-F Ty) → pointee_at t ≡ unwrap_or (pointed_at t) ty.Void
pointee_is Ty-F.Void = refl
pointee_is (Ty-F.Integer k) = refl
pointee_is (Ty-F.Pointer x) = refl
pointee_is (Ty-F.Array x n) = refl
pointee_is (Ty-F.Chan x n) = refl
pointee_is (Ty-F.Tuple xs) = refl
pointee_is (Ty-F.Aggregate n) = refl
pointee_is (Ty-F.Function x xs) = refl

pub pointed_to : (t to : Ty) → Some to ≡ pointed t → pointee t ≡ to
unfolding pointed pointee
pointed_to t to e = pointee_is (out-Ty t) ∙ ap (λ o. unwrap_or o ty.Void) (sym e)

not_pointed : (t : Ty) → None ≡ pointed t → pointee t ≡ ty.Void
unfolding pointed pointee
not_pointed t e = pointee_is (out-Ty t) ∙ ap (λ o. unwrap_or o ty.Void) (sym e)

-- void is no function's type
typeless : (f : Function) (around : List ℕ) → has_type ty.Void around f ≡ false
typeless f [] = refl
typeless f (n ∷ around) = refl

same_either : {A : Type 0} (b : Bool) (x : A) → (if b then x else x) ≡ x
same_either true x = refl
same_either false x = refl

void_named : (value start : ℕ) (fs : List Function) → named_by ty.Void value start fs ≡ None
void_named value start [] = refl
void_named value start (f ∷ fs) =
    ap (λ (b : Bool). if function_address start == value then (if b then Some start else None) else named_by ty.Void value (start + 1) fs) (typeless f f.around)
    ∙ ap (λ (r : Option ℕ). if function_address start == value then None else r) (void_named value (start + 1) fs)
    ∙ same_either (function_address start == value) None

pub no_pointer : (t : Ty) (value : ℕ) (fs : List Function) → None ≡ pointed t → None ≡ named_by (pointee t) value 0 fs
no_pointer t value fs e = sym (ap (λ u. named_by u value 0 fs) (not_pointed t e) ∙ void_named value 0 fs)

-- the type of a function, by the locals that are parameters
pub type_is : (f : Function) (slice cut : List Local) (k : ℕ) (returns : Ty) (parameters : List Ty) → slice ≡ f.locals → k ≡ min f.parameters (length slice)
    → cut ≡ take k slice → parameters ≡ local_types cut → returns ≡ f.returns → ty.Function returns parameters ≡ function_type f
type_is f slice cut k returns parameters same e is ps r =
    ap₂ ty.Function r (ps ∙ ap local_types (is ∙ ap (λ n. take n slice) e ∙ take_min f.parameters slice ∙ ap (take f.parameters) same))

-- a branch of a par has no type, and any other function its own
pub no_branch_type : (t : Ty) (around : List ℕ) (f : Function) → (around ≡ [] → IsTrue false) → false ≡ has_type t around f
no_branch_type t [] f some = absurd (false≢true (some refl))
no_branch_type t (n ∷ around) f some = refl

pub own_type : (t : Ty) (around : List ℕ) (f : Function) (own : Ty) (b : Bool) → around ≡ [] → own ≡ function_type f → b ≡ same false t own → b ≡ has_type t around f
own_type t around f own b none is e = e ∙ alike t own ∙ ap (are_alike t) is ∙ ap (λ a. has_type t a f) (sym none)
