-- Texts in a set of vectors.
use Rattle.std.proofs.Common.{◌≡◌, ℕ, nat_eq, Bool, true, false, ◌||◌, if◌then◌else◌, List, [], ◌∷◌, ◌++◌, map, refl, sym, ap, ◌∙◌}
use Rattle.std.specs.Global.{Vec}
use Rattle.std.specs.List.{list_any}
use Rattle.std.proofs.lemmas.List.{map-append}
use Rattle.std.proofs.lemmas.List.Folds.{list_any-append}
use lib.Pointwise.{pointwise, bytes_decides}
use Rattle.indexmap.specs.IndexSet.{insert_key}
use Rattle.al_lex.specs.Written.{same_bytes}
use Rattle.al_link_text.specs.Linked.{among}

abbrev pub Text : Type 0
Text = Vec ℕ

abbrev pub same_text : Text → Text → Bool
same_text a b = pointwise nat_eq a.items b.items

abbrev pub texts_of : List Text → List (List ℕ)
texts_of texts = map (λ (t : Text). t.items) texts

pub any_text : (text : List ℕ) (texts : List Text) → list_any (λ (t : Text). pointwise nat_eq text t.items) texts ≡ among (texts_of texts) text
any_text text [] = refl
any_text text (x ∷ xs) = ap (λ b. same_bytes text x.items || b) (any_text text xs)

by_bool : {A : Type 0} (b : Bool) → (b ≡ true → A) → (b ≡ false → A) → A
by_bool true p q = p refl
by_bool false p q = q refl

if_true : {A : Type 0} (b : Bool) (x y : A) → b ≡ true → (if b then x else y) ≡ x
if_true true x y e = refl
if_true false x y e = absurd (let f : ⊥ = cc in f)

if_false : {A : Type 0} (b : Bool) (x y : A) → b ≡ false → (if b then x else y) ≡ y
if_false false x y e = refl
if_false true x y e = absurd (let f : ⊥ = cc in f)

or_false : (a b : Bool) → b ≡ false → (a || (b || false)) ≡ a
or_false true b e = refl
or_false false false e = refl
or_false false true e = absurd (let f : ⊥ = cc in f)

or_true : (a b : Bool) → a ≡ true → (a || b) ≡ true
or_true true b e = refl
or_true false b e = absurd (let f : ⊥ = cc in f)

-- a text that is there already changes nothing
again : (texts : List (List ℕ)) (text other : List ℕ) → among texts text ≡ true → among texts other ≡ among (texts ++ text ∷ []) other
again texts text other known =
    by_bool (same_bytes other text)
    (λ t. let same : other ≡ text = (bytes_decides other text).0 t in
    let here : among texts other ≡ true = ap (among texts) same ∙ known in
    here ∙ sym (list_any-append (same_bytes other) texts (text ∷ []) ∙ or_true (among texts other) (same_bytes other text || false) here))
    (λ f. sym (list_any-append (same_bytes other) texts (text ∷ []) ∙ or_false (among texts other) (same_bytes other text) f))

pub added : (texts : List Text) (text : Text) (other : List ℕ) → among (texts_of (insert_key same_text texts text)) other ≡ among (texts_of texts ++ text.items ∷ []) other
added texts text other =
    by_bool (list_any (same_text text) texts)
    (λ t. ap (λ l. among (texts_of l) other) (if_true (list_any (same_text text) texts) _ _ t) ∙ again (texts_of texts) text.items other (sym (any_text text.items texts) ∙ t))
    (λ f. ap (λ l. among (texts_of l) other) (if_false (list_any (same_text text) texts) _ _ f) ∙ ap (λ l. among l other) (map-append (λ (t : Text). t.items) texts (text ∷ [])))
