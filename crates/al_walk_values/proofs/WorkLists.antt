-- Lists of work, put before the rest from the last to the first.
use Rattle.std.proofs.Common.{◌≡◌, ℕ, List, [], ◌∷◌, ◌++◌, map, length, refl, sym, ap, ◌∙◌, append_assoc, Result, Ok, Err, IfOk, arith}
use Rattle.std.specs.List.{flat_map}
use Rattle.std.proofs.lemmas.List.{map-append, append-nil}
use Rattle.std.proofs.lemmas.List.Concat.{flat_map-append}
use Rattle.al_meaning.specs.Items.{Work, Item}
use Rattle.al_meaning.specs.Parts.{item}
use Rattle.al_meaning.specs.Here.{Here, with_work}
use Rattle.al_control.specs.declared.control.Here.{Here as At}
use Rattle.al_control.specs.Models.{here_of}

-- the frame with these items
with_these : Here → List Item → Here
with_these h items = record h { frame = record h.frame { items = items } }

pub with_work-append : (a b : List Work) (h : Here) → with_work (a ++ b) h ≡ with_work a (with_work b h)
unfolding with_these
with_work-append a b h =
    ap (with_these h)
    (ap (λ (its : List Item). its ++ h.frame.items) (map-append (item h.line) a b)
    ∙ append_assoc (map (item h.line) a) (map (item h.line) b) h.frame.items)

-- work, and then other work before it
pub put_both : (a b : List Work) (h after last : Here) → after ≡ with_work b h → last ≡ with_work a after → last ≡ with_work (a ++ b) h
put_both a b h after last e f = f ∙ ap (with_work a) e ∙ sym (with_work-append a b h)

-- what is put behind other work, where that is put before it afterwards
pub put_before : {E : Type 0} (r : Result At E) (a b : List Work) (h after : Here) → after ≡ with_work b h
    → IfOk r (λ x. here_of x ≡ with_work a after) → IfOk r (λ x. here_of x ≡ with_work (a ++ b) h)
put_before (Ok x) a b h after e is = put_both a b h after (here_of x) e is
put_before (Err x) a b h after e is = tt

-- the same of three
pub put_before_both : {E : Type 0} (r : Result At E) (a b c : List Work) (h after : Here) → after ≡ with_work (b ++ c) h
    → IfOk r (λ x. here_of x ≡ with_work a after) → IfOk r (λ x. here_of x ≡ with_work (a ++ b ++ c) h)
put_before_both (Ok x) a b c h after e is = put_both a (b ++ c) h after (here_of x) e is ∙ ap (λ ws. with_work ws h) (sym (append_assoc a b c))
put_before_both (Err x) a b c h after e is = tt

-- ---- a work for each element

pub put_more : {A : Type 0} (f : A → Work) (rest front : List A) (x : A) (w : Work) (h after : Here)
    → rest ≡ front ++ x ∷ [] → w ≡ f x → after ≡ with_work (w ∷ []) h → with_work (map f rest) h ≡ with_work (map f front) after
put_more f rest front x w h after cut e is =
    ap (λ xs. with_work (map f xs) h) cut
    ∙ ap (λ ws. with_work ws h) (map-append f front (x ∷ []))
    ∙ with_work-append (map f front) (f x ∷ []) h
    ∙ ap (λ w. with_work (map f front) (with_work (w ∷ []) h)) (sym e)
    ∙ ap (with_work (map f front)) (sym is)

no_elements : {A : Type 0} (xs : List A) → length xs ≡ 0 → xs ≡ []
no_elements [] e = refl
no_elements (x ∷ xs) e = absurd (omega arith)

pub put_over : {A : Type 0} (f : A → Work) (rest : List A) (h : Here) → length rest ≡ 0 → with_work (map f rest) h ≡ h
put_over f rest h e = ap (λ xs. with_work (map f xs) h) (no_elements rest e)

-- ---- a list of work for each element

pub put_all_more : {A : Type 0} (f : A → List Work) (rest front : List A) (x : A) (h after : Here)
    → rest ≡ front ++ x ∷ [] → after ≡ with_work (f x) h → with_work (flat_map f rest) h ≡ with_work (flat_map f front) after
put_all_more f rest front x h after cut is =
    ap (λ xs. with_work (flat_map f xs) h) cut
    ∙ ap (λ ws. with_work ws h) (flat_map-append f front (x ∷ []) ∙ ap (λ ws. flat_map f front ++ ws) (append-nil (f x)))
    ∙ with_work-append (flat_map f front) (f x) h
    ∙ ap (with_work (flat_map f front)) (sym is)

pub put_all_over : {A : Type 0} (f : A → List Work) (rest : List A) (h : Here) → length rest ≡ 0 → with_work (flat_map f rest) h ≡ h
put_all_over f rest h e = ap (λ xs. with_work (flat_map f xs) h) (no_elements rest e)
