-- What finding each kind of place does.
use Rattle.std.proofs.Common.{◌≡◌, ℕ, ◌<◌, ◌^◌, List, [], ◌∷◌, Result, IfOk, IfErr, refl, sym, ap, subst, ◌∙◌}
use Rattle.al_typed.specs.declared.ty.Ty.{Ty}
use Rattle.al_typed.specs.declared.expression.TExpr.{TExpr}
use Rattle.al_typed.specs.declared.expression.TExpr.TheBlock.{hidden-the_row-TPlace-0, hidden-the_row-TExpr-1}
use Rattle.al_typed.specs.declared.expression.TPlace.{TPlace}
use Rattle.al_typed.specs.declared.expression.TPlace.TheVariants as place
use Rattle.al_typed.specs.declared.program.Program.{Program}
use denote.Hole.Carrier.{hidden}
use Rattle.al_typed.specs.Typed.{type_of, place_type}
use Rattle.al_meaning.specs.Evaluate.{find_place}
use Rattle.al_meaning.specs.Here.{Here, Next as Step, does, pointee, size_in}
use Rattle.al_meaning.specs.Items.{Eval, Find, Index, Point, Within}
use Rattle.al_meaning.specs.Places.{path_offset}
use Rattle.al_control_values.specs.Fits.{IsSmall}
use Rattle.al_control.specs.declared.control.Next.{Next}
use Rattle.al_control.specs.declared.unmade.Unmade.{Unmade}
use Rattle.al_control.specs.Fits.{Explains}
use Rattle.al_control.specs.Models.{next_of}
use Rattle.al_walk_places.specs.Fits.{PlaceFits}

pub find-Pointed : (t : Ty) (pointer : TExpr) (h : Here) → find_place (place.Pointed t pointer) h ≡ does h (Eval pointer ∷ Point 0 ∷ [])
unfolding hidden-the_row-TExpr-1 hidden
find-Pointed t pointer h = refl

pub find-Element : (t : Ty) (base index : TExpr) (h : Here)
    → find_place (place.Element t base index) h ≡ does h (Eval base ∷ Eval index ∷ Index (size_in h.program t) ∷ [])
unfolding hidden-the_row-TExpr-1 hidden
find-Element t base index h = refl

pub find-Member : (t : Ty) (of : TPlace) (path : List ℕ) (h : Here)
    → find_place (place.Member t of path) h ≡ does h (Find of ∷ Within (path_offset h.program (place_type of) path) ∷ [])
unfolding hidden-the_row-TPlace-0 hidden
find-Member t of path h = refl

pub find-PointedMember : (t : Ty) (pointer : TExpr) (path : List ℕ) (h : Here)
    → find_place (place.PointedMember t pointer path) h
    ≡ does h (Eval pointer ∷ Point (path_offset h.program (pointee (type_of pointer)) path) ∷ [])
unfolding hidden-the_row-TExpr-1 hidden
find-PointedMember t pointer path h = refl

-- a place goes on as its kind does
pub place_becomes : (it v : TPlace) (h : Here) (n : Step) → it ≡ v → find_place v h ≡ n → n ≡ find_place it h
place_becomes it v h n is goes = sym (ap (λ (it : TPlace). find_place it h) is ∙ goes)

pub place_goes : {E : Type 0} (r : Result Next E) (it v : TPlace) (h : Here) (n : Step) → it ≡ v → find_place v h ≡ n → IfOk r (λ x. next_of x ≡ n)
    → IfOk r (λ x. next_of x ≡ find_place it h)
place_goes r it v h n is goes = subst (λ (s : Step). IfOk r (λ x. next_of x ≡ s)) (place_becomes it v h n is goes)

-- ---- what it needs

why_is : {T : Type 0} (r : Result T Unmade) (p : Program) (f : ℕ) (it v : TPlace) → it ≡ v → IfErr r (λ x. Explains x (PlaceFits p f v))
    → IfErr r (λ x. Explains x (PlaceFits p f it))
why_is r p f it v is why = subst (λ (it : TPlace). IfErr r (λ x. Explains x (PlaceFits p f it))) (sym is) why

pub why-Element : {T : Type 0} (r : Result T Unmade) (p : Program) (f : ℕ) (it : TPlace) (t : Ty) (base index : TExpr) → it ≡ place.Element t base index
    → IfErr r (λ x. Explains x (IsSmall p t)) → IfErr r (λ x. Explains x (PlaceFits p f it))
unfolding hidden-the_row-TExpr-1 hidden
why-Element r p f it t base index is why = why_is r p f it (place.Element t base index) is why

pub why-Member : {T : Type 0} (r : Result T Unmade) (p : Program) (f : ℕ) (it : TPlace) (t : Ty) (of : TPlace) (path : List ℕ) → it ≡ place.Member t of path
    → IfErr r (λ x. Explains x (path_offset p (place_type of) path < 2 ^ 32)) → IfErr r (λ x. Explains x (PlaceFits p f it))
unfolding hidden-the_row-TPlace-0 hidden
why-Member r p f it t of path is why = why_is r p f it (place.Member t of path) is why

pub why-PointedMember : {T : Type 0} (r : Result T Unmade) (p : Program) (f : ℕ) (it : TPlace) (t : Ty) (pointer : TExpr) (path : List ℕ)
    → it ≡ place.PointedMember t pointer path → IfErr r (λ x. Explains x (path_offset p (pointee (type_of pointer)) path < 2 ^ 32))
    → IfErr r (λ x. Explains x (PlaceFits p f it))
unfolding hidden-the_row-TExpr-1 hidden
why-PointedMember r p f it t pointer path is why = why_is r p f it (place.PointedMember t pointer path) is why
