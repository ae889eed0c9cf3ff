-- Calls of functions by their names, put before the rest from the last to the first.
use Rattle.std.proofs.Common.{◌≡◌, List, [], ◌∷◌, ◌++◌, map, length, refl, sym, ap, subst, ◌∙◌, append_assoc, arith}
use Rattle.std.specs.Prelude.{All}
use Rattle.std.specs.List.{flat_map, IsLastAndRest}
use Rattle.std.proofs.lemmas.List.{map-append, append-nil, drop_at, take_at}
use Rattle.std.proofs.lemmas.List.Concat.{flat_map-append}
use Rattle.std.proofs.lemmas.List.Elements.{All-drop, All-head, All-take}
use Rattle.al_meaning.specs.Items.{Work, Item}
use Rattle.al_meaning.specs.Parts.{item}
use Rattle.al_meaning.specs.Here.{Here, with_work}

-- the frame with these items
with_these : Here → List Item → Here
with_these h items = record h { frame = record h.frame { items = items } }

with_work-append : (a b : List Work) (h : Here) → with_work (a ++ b) h ≡ with_work a (with_work b h)
unfolding with_these
with_work-append a b h =
    ap (with_these h)
    (ap (λ (its : List Item). its ++ h.frame.items) (map-append (item h.line) a b)
    ∙ append_assoc (map (item h.line) a) (map (item h.line) b) h.frame.items)

pub more_put : {A : Type 0} (f : A → List Work) (rest front : List A) (x : A) (h after : Here)
    → IsLastAndRest rest x front → after ≡ with_work (f x) h → with_work (flat_map f rest) h ≡ with_work (flat_map f front) after
more_put f rest front x h after cut is =
    ap (λ xs. with_work (flat_map f xs) h) cut.0
    ∙ ap (λ ws. with_work ws h) (flat_map-append f front (x ∷ []) ∙ ap (λ ws. flat_map f front ++ ws) (append-nil (f x)))
    ∙ with_work-append (flat_map f front) (f x) h
    ∙ ap (with_work (flat_map f front)) (sym is)

none_left : {A : Type 0} (xs : List A) → length xs ≡ 0 → xs ≡ []
none_left [] e = refl
none_left (x ∷ xs) e = absurd (omega arith)

pub all_put : {A : Type 0} (f : A → List Work) (rest : List A) (h : Here) → length rest ≡ 0 → with_work (flat_map f rest) h ≡ h
all_put f rest h e = ap (λ xs. with_work (flat_map f xs) h) (none_left rest e)

-- ---- what each needs

pub rest_fits : {X : Type 0} (P : X → Type 0) (xs front : List X) (x : X) → IsLastAndRest xs x front → All P xs → All P front
rest_fits P xs front x cut h = subst (λ l. All P l) (take_at front (x ∷ []) (length front) refl) (All-take P (length front) (front ++ x ∷ []) (subst (λ l. All P l) cut.0 h))

pub last_fits : {X : Type 0} (P : X → Type 0) (xs front : List X) (x : X) → IsLastAndRest xs x front → All P xs → P x
last_fits P xs front x cut h =
    All-head P x [] (subst (λ l. All P l) (drop_at front (x ∷ []) (length front) refl) (All-drop P (length front) (front ++ x ∷ []) (subst (λ l. All P l) cut.0 h)))
