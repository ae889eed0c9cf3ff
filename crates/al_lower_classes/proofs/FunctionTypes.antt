-- The types of functions.
use Rattle.std.proofs.Common.{◌≡◌, ℕ, Bool, IsTrue, false, List, [], ◌∷◌, refl, sym, ap, ap₂, ◌∙◌, min, take, length}
use Rattle.std.proofs.lemmas.Bool.{false≢true}
use Rattle.std.proofs.lemmas.List.{take_min}
use Rattle.al_typed.specs.declared.program.Function.{Function}
use Rattle.al_typed.specs.declared.program.Local.{Local}
use Rattle.al_typed.specs.Typed.{function_type, local_types}
use Rattle.al_typed.specs.declared.ty.Ty.{Ty}
use Rattle.al_typed.specs.declared.ty.Ty.TheVariants as ty
use Rattle.al_convert.specs.Same.{same}
use Rattle.al_typed.specs.Alike.{are_alike}
use Rattle.al_meaning.specs.Calls.{has_type}
use Rattle.al_convert.proofs.Alikes.{alike}

-- the type of a function, by the locals that are parameters
pub type_is : (f : Function) (slice cut : List Local) (k : ℕ) (returns : Ty) (parameters : List Ty) → slice ≡ f.locals → k ≡ min f.parameters (length slice)
    → cut ≡ take k slice → parameters ≡ local_types cut → returns ≡ f.returns → ty.Function returns parameters ≡ function_type f
type_is f slice cut k returns parameters same e is ps r =
    ap₂ ty.Function r (ps ∙ ap local_types (is ∙ ap (λ n. take n slice) e ∙ take_min f.parameters slice ∙ ap (take f.parameters) same))

-- a branch of a par has no type, and any other function its own
pub no_branch_type : (t : Ty) (around : List ℕ) (f : Function) → (around ≡ [] → IsTrue false) → false ≡ has_type t around f
no_branch_type t [] f some = absurd (false≢true (some refl))
no_branch_type t (n ∷ around) f some = refl

pub own_type : (t : Ty) (around : List ℕ) (f : Function) (own : Ty) (b : Bool) → around ≡ [] → own ≡ function_type f → b ≡ same false t own → b ≡ has_type t around f
own_type t around f own b none is e = e ∙ alike t own ∙ ap (are_alike t) is ∙ ap (λ a. has_type t a f) (sym none)
