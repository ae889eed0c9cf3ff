-- What names stand for, with one entry more or less.
use Rattle.std.proofs.Common.{◌≡◌, ℕ, nat_eq, Bool, true, false, cond, List, [], ◌∷◌, ◌++◌, map, reverse, Option, Some, None, option_map, refl, ap, ◌∙◌, sym}
use Rattle.std.specs.List.{find}
use Rattle.std.proofs.lemmas.List.{reverse-append, map-append}
use Rattle.std.proofs.lemmas.Bool.{eqb-true}
use Rattle.al_scope.specs.declared.declaration.Declaration.{Declaration}
use Rattle.al_scope.specs.declared.known.Known.{Known}
use Rattle.al_scope.specs.declared.known.Entry.{Entry}
use Rattle.al_scope.specs.Names.{latest}
use Rattle.al_scope.specs.Shadows.{known_of, stands_for, put_at, IsShadowing}

pub reverse-push : {A : Type 0} (xs : List A) (x : A) → reverse (xs ++ x ∷ []) ≡ x ∷ reverse xs
reverse-push xs x = reverse-append xs (x ∷ [])

reverse-map : {A B : Type 0} (f : A → B) (xs : List A) → reverse (map f xs) ≡ map f (reverse xs)
reverse-map f [] = refl
reverse-map f (x ∷ xs) = reverse-append (f x ∷ []) (map f xs) ∙ ap (λ ys. ys ++ f x ∷ []) (reverse-map f xs) ∙ sym (map-append f (reverse xs) (x ∷ [])) ∙ ap (map f) (sym (reverse-append (x ∷ []) xs))

found : (es : List Entry) (name : ℕ) → option_map (λ (k : Known). k.declaration) (find (λ (k : Known). nat_eq k.name name) (map known_of es)) ≡ stands_for es name
found [] name = refl
found (e ∷ es) name =
    elim (nat_eq e.known.name name) as (λ b. option_map (λ (k : Known). k.declaration) (cond b (Some (known_of e)) (find (λ (k : Known). nat_eq k.name name) (map known_of es))) ≡ cond b (Some e.known.declaration) (stands_for es name))
    [ true ↦ refl | false ↦ found es name ]

-- the latest of a name
pub latest-stands_for : (es : List Entry) (name : ℕ) → latest (map known_of es) name ≡ stands_for (reverse es) name
unfolding latest
latest-stands_for es name = ap (λ ks. option_map (λ (k : Known). k.declaration) (find (λ (k : Known). nat_eq k.name name) ks)) (reverse-map known_of es) ∙ found (reverse es) name

-- the names stand for what they stood for before
pub put_at-before : (e : Entry) (es : List Entry) (q : ℕ) → e.before ≡ stands_for es e.known.name → put_at e.known.name e.before (stands_for (e ∷ es)) q ≡ stands_for es q
put_at-before e es q h =
    elim (nat_eq e.known.name q) as (λ b. nat_eq e.known.name q ≡ b → cond b e.before (cond b (Some e.known.declaration) (stands_for es q)) ≡ stands_for es q)
    [ true ↦ λ same. h ∙ ap (stands_for es) (eqb-true e.known.name q same) | false ↦ λ other. refl ] refl

pub ruleset pushed = (reverse-push, map-append)

pub ruleset popped = (reverse-push, map-append, put_at-before)

pub ruleset stand = (latest-stands_for)
