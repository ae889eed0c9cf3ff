-- Places that stand in a list no more often than among tokens.
use Rattle.std.proofs.Common.{◌≡◌, ℕ, ◌+◌, ◌≤◌, Bool, true, false, List, [], ◌∷◌, ◌++◌, map, flat_map, refl, sym, ap, ◌∙◌, subst, arith, append-nil, append_assoc}
use Rattle.al_base.specs.declared.place.Place.{Place}
use Rattle.al_lex.specs.declared.token.Token.{Token}
use Rattle.al_rules.specs.Outcome.{same_place}

abbrev pub one_if : Bool → ℕ
one_if true = 1
one_if false = 0

-- how often a place stands in a list
abbrev pub times : Place → List Place → ℕ
times at [] = 0
times at (p ∷ ps) = one_if (same_place at p) + times at ps

abbrev pub places : List Token → List Place
places [] = []
places (t ∷ ts) = t.place ∷ places ts

pub times_append : (at : Place) (ps qs : List Place) → times at (ps ++ qs) ≡ times at ps + times at qs
times_append at [] qs = omega arith
times_append at (p ∷ ps) qs = let e : times at (ps ++ qs) ≡ times at ps + times at qs = times_append at ps qs in omega (arith, e)

pub places_append : (u v : List Token) → places (u ++ v) ≡ places u ++ places v
places_append [] v = refl
places_append (t ∷ u) v = ap (λ ps. t.place ∷ ps) (places_append u v)

pub times_both : (at : Place) (u v : List Token) → times at (places (u ++ v)) ≡ times at (places u) + times at (places v)
times_both at u v = ap (times at) (places_append u v) ∙ times_append at (places u) (places v)

pub joined_map : {A : Type 0} (f : A → List Place) (xs : List A) → flat_map (λ ats. ats) (map f xs) ≡ flat_map f xs
joined_map f [] = refl
joined_map f (x ∷ xs) = ap (λ ats. f x ++ ats) (joined_map f xs)

pub flat_one_more : {A : Type 0} (f : A → List Place) (xs : List A) (x : A) → flat_map f (xs ++ x ∷ []) ≡ flat_map f xs ++ f x
flat_one_more f [] x = append-nil (f x)
flat_one_more f (y ∷ xs) x = ap (λ ats. f y ++ ats) (flat_one_more f xs x) ∙ sym (append_assoc (f y) (flat_map f xs) (f x))

pub joined_one_more : {A : Type 0} (f : A → List Place) (xs : List A) (x : A) → flat_map (λ ats. ats) (map f (xs ++ x ∷ [])) ≡ flat_map f xs ++ f x
joined_one_more f xs x = joined_map f (xs ++ x ∷ []) ∙ flat_one_more f xs x

pub record Within (u : List Token) (ats : List Place) : Type 0 where
  pub few : (at : Place) → times at ats ≤ times at (places u)

pub within_is : {u : List Token} {ats bts : List Place} → bts ≡ ats → Within u ats → Within u bts
within_is {u} e f = subst (Within u) (sym e) f

pub nothing : (u : List Token) → Within u []
nothing u = record { few = λ at. omega arith }

-- a token more
pub behind : (t : Token) {u : List Token} {ats : List Place} → Within u ats → Within (t ∷ u) ats
behind t {u} {ats} f = record { few = λ at. let c : times at ats ≤ times at (places u) = f.few at in omega (arith, c) }

-- a token more, with its place
pub first : (t : Token) {u : List Token} {ats : List Place} → Within u ats → Within (t ∷ u) (t.place ∷ ats)
first t {u} {ats} f = record { few = λ at. let c : times at ats ≤ times at (places u) = f.few at in omega (arith, c) }

pub both : (u v : List Token) (ats bts : List Place) → Within u ats → Within v bts → Within (u ++ v) (ats ++ bts)
both u v ats bts f g = record { few = λ at. omega (arith, f.few at, g.few at, times_both at u v, times_append at ats bts) }

-- tokens more
pub before : (u v : List Token) {ats : List Place} → Within u ats → Within (u ++ v) ats
before u v f = record { few = λ at. omega (arith, f.few at, times_both at u v) }

pub after : (u v : List Token) {ats : List Place} → Within v ats → Within (u ++ v) ats
after u v f = record { few = λ at. omega (arith, f.few at, times_both at u v) }

-- in another order
pub turned : {u : List Token} (ats bts : List Place) → Within u (ats ++ bts) → Within u (bts ++ ats)
turned ats bts f = record { few = λ at. omega (arith, f.few at, times_append at ats bts, times_append at bts ats) }

-- the first of them
pub some_of : {u : List Token} (ats bts : List Place) → Within u (ats ++ bts) → Within u ats
some_of ats bts f = record { few = λ at. omega (arith, f.few at, times_append at ats bts) }
