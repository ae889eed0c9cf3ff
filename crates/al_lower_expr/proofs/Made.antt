-- The operations of an expression or a place, from those of its form at the parts that were lent.
use Rattle.std.proofs.Common.{◌≡◌, sym, ap, ◌∙◌, subst}
use Rattle.al_typed.specs.declared.expression.TExpr.{TExpr}
use Rattle.al_typed.specs.declared.expression.TPlace.{TPlace}
use Rattle.al_lower_code.specs.Homes.{Spot}
use Rattle.al_lower_code.specs.Coded.{Coded, Placed}
use Rattle.al_lower_code.specs.Expressions.{coded, placed}

-- a part that was lent is that of the form
pub by_part : {A : Type 0} (P : Coded → Type 0) (s : Spot) (e v : TExpr) (C : A → Coded) (a b : A) → e ≡ v → coded s v ≡ C a → b ≡ a → P (C b) → P (coded s e)
by_part P s e v C a b is form same made = subst P (sym (ap (coded s) is ∙ form ∙ ap C (sym same))) made

pub by_parts : {A B : Type 0} (P : Coded → Type 0) (s : Spot) (e v : TExpr) (C : A → B → Coded) (a b : A) (x y : B) → e ≡ v → coded s v ≡ C a x → b ≡ a → y ≡ x → P (C b y) → P (coded s e)
by_parts {A} {B} P s e v C a b x y is form same alike made =
    subst P (sym (ap (coded s) is ∙ form ∙ ap (λ (a : A). C a x) (sym same) ∙ ap (C b) (sym alike))) made

pub place_by_part : {A : Type 0} (P : Placed → Type 0) (s : Spot) (p v : TPlace) (C : A → Placed) (a b : A) → p ≡ v → placed s v ≡ C a → b ≡ a → P (C b) → P (placed s p)
place_by_part P s p v C a b is form same made = subst P (sym (ap (placed s) is ∙ form ∙ ap C (sym same))) made

pub place_by_parts : {A B : Type 0} (P : Placed → Type 0) (s : Spot) (p v : TPlace) (C : A → B → Placed) (a b : A) (x y : B) → p ≡ v → placed s v ≡ C a x → b ≡ a → y ≡ x → P (C b y) → P (placed s p)
place_by_parts {A} {B} P s p v C a b x y is form same alike made =
    subst P (sym (ap (placed s) is ∙ form ∙ ap (λ (a : A). C a x) (sym same) ∙ ap (C b) (sym alike))) made

pub place_by_form : (P : Placed → Type 0) (s : Spot) (p v : TPlace) (pl : Placed) → p ≡ v → placed s v ≡ pl → P pl → P (placed s p)
place_by_form P s p v pl is form made = subst P (sym (ap (placed s) is ∙ form)) made
