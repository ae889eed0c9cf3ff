-- Why a step is not made: what one number needs, another needs too.
use Rattle.std.proofs.Common.{◌≡◌, ℕ, ◌+◌, ◌<◌, List, [], ◌∷◌, ◌++◌, length, get_or, drop, take, Result, Err, IfErr, refl, subst, sym, ap, ◌∙◌}
use Rattle.std.specs.Prelude.{All}
use Rattle.std.specs.List.{flat_map, IsLastAndRest}
use Rattle.std.proofs.lemmas.Result.{IfErr-weaker}
use Rattle.std.proofs.lemmas.List.{drop_at, take_at, take-append-drop}
use Rattle.std.proofs.lemmas.List.Concat.{flat_map-append}
use Rattle.std.proofs.lemmas.List.Elements.{All-drop, All-head, All-take}
use Rattle.al_control.specs.declared.unmade.Unmade.{Unmade}
use Rattle.al_control.specs.declared.unmade.Unmade.TheVariants.{NoMemory, TooLarge}
use Rattle.al_control.specs.Fits.{Explains}
use Rattle.al_walk_loops.proofs.PutLists.{flat_from}

pub explained : (e : Unmade) (P Q : Type 0) → (Q → P) → Explains e P → Explains e Q
explained NoMemory P Q f x = tt
explained TooLarge P Q f x = λ q. x (f q)

pub why_else : {T : Type 0} (r : Result T Unmade) (P Q : Type 0) → (Q → P) → IfErr r (λ e. Explains e P) → IfErr r (λ e. Explains e Q)
why_else r P Q f why = IfErr-weaker r _ _ (λ e x. explained e P Q f x) why

-- an error that was passed on
pub passed_on : {T : Type 0} (r : Result T Unmade) (e : Unmade) (P Q : Type 0) → r ≡ Err e → (Q → P) → Explains e P → IfErr r (λ d. Explains d Q)
passed_on r e P Q is f x = subst (λ s. IfErr s (λ d. Explains d Q)) (sym is) (explained e P Q f x)

-- ---- of all, of each

all_left : {X : Type 0} (P : X → Type 0) (a b : List X) → All P (a ++ b) → All P a
all_left P a b h = subst (λ l. All P l) (take_at a b (length a) refl) (All-take P (length a) (a ++ b) h)

all_right : {X : Type 0} (P : X → Type 0) (a b : List X) → All P (a ++ b) → All P b
all_right P a b h = subst (λ l. All P l) (drop_at a b (length a) refl) (All-drop P (length a) (a ++ b) h)

pub rest_fits : {X : Type 0} (P : X → Type 0) (xs front : List X) (x : X) → IsLastAndRest xs x front → All P xs → All P front
rest_fits P xs front x cut h = all_left P front (x ∷ []) (subst (λ l. All P l) cut.0 h)

pub last_fits : {X : Type 0} (P : X → Type 0) (xs front : List X) (x : X) → IsLastAndRest xs x front → All P xs → P x
last_fits P xs front x cut h = All-head P x [] (all_right P front (x ∷ []) (subst (λ l. All P l) cut.0 h))

-- ---- what elements give

pub given_left : {X : Type 0} (P : X → Type 0) (a b : List X) → All P (a ++ b) → All P a
given_left P a b h = all_left P a b h

pub given_right : {X : Type 0} (P : X → Type 0) (a b : List X) → All P (a ++ b) → All P b
given_right P a b h = all_right P a b h

given_from : {A B : Type 0} (P : B → Type 0) (f : A → List B) (xs : List A) (k : ℕ) → All P (flat_map f xs) → All P (flat_map f (drop k xs))
given_from P f xs k h =
    all_right P (flat_map f (take k xs)) (flat_map f (drop k xs))
    (subst (λ l. All P l) (ap (flat_map f) (sym (take-append-drop k xs)) ∙ flat_map-append f (take k xs) (drop k xs)) h)

pub given_at : {A B : Type 0} (P : B → Type 0) (f : A → List B) (xs : List A) (k : ℕ) (x : A) → k < length xs → x ≡ get_or xs k x
    → All P (flat_map f xs) → All P (f x)
given_at P f xs k x below is h =
    all_left P (f x) (flat_map f (drop (k + 1) xs)) (subst (λ l. All P l) (flat_from f xs k x below is) (given_from P f xs k h))
