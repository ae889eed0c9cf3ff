-- Lists of string constants that are no more than tokens, and of each of which a test holds.
use Rattle.std.proofs.Common.{◌≡◌, ℕ, ◌≤◌, Bool, true, ◌&&◌, List, [], ◌∷◌, ◌++◌, length, map, flat_map, refl, sym, ap, ap₂, ◌∙◌, subst, arith, append-nil, append_assoc, length-append}
use Rattle.std.specs.List.{list_all}
use Rattle.std.proofs.lemmas.List.Folds.{list_all-append}
use Rattle.al_lex.specs.declared.token.Token.{Token}
use Rattle.al_tree_laws.specs.Texts.{Texts, joined}

pub joined_map : {A : Type 0} (f : A → Texts) (xs : List A) → joined (map f xs) ≡ flat_map f xs
joined_map f [] = refl
joined_map f (x ∷ xs) = ap (λ ts. f x ++ ts) (joined_map f xs)

pub flat_one_more : {A : Type 0} (f : A → Texts) (xs : List A) (x : A) → flat_map f (xs ++ x ∷ []) ≡ flat_map f xs ++ f x
flat_one_more f [] x = append-nil (f x)
flat_one_more f (y ∷ xs) x = ap (λ ts. f y ++ ts) (flat_one_more f xs x) ∙ sym (append_assoc (f y) (flat_map f xs) (f x))

pub joined_one_more : {A : Type 0} (f : A → Texts) (xs : List A) (x : A) → joined (map f (xs ++ x ∷ [])) ≡ flat_map f xs ++ f x
joined_one_more f xs x = joined_map f (xs ++ x ∷ []) ∙ flat_one_more f xs x

pub record Few (Q : List ℕ → Bool) (u : List Token) (ts : Texts) : Type 0 where
  pub count : length ts ≤ length u
  pub each : list_all Q ts ≡ true

module _ {Q : List ℕ → Bool} where
  pub few_is : {u : List Token} {ts rs : Texts} → rs ≡ ts → Few Q u ts → Few Q u rs
  few_is {u} e f = subst (Few Q u) (sym e) f

  pub nothing : (u : List Token) → Few Q u []
  nothing u = record { count = omega arith; each = refl }

  -- a token more
  pub behind : (t : Token) {u : List Token} {ts : Texts} → Few Q u ts → Few Q (t ∷ u) ts
  behind t {u} {ts} f = record { count = let c : length ts ≤ length u = f.count in omega (arith, c); each = f.each }

  pub both : (u v : List Token) (ts rs : Texts) → Few Q u ts → Few Q v rs → Few Q (u ++ v) (ts ++ rs)
  both u v ts rs f g = record {
    count = omega (arith, f.count, g.count, length-append u v, length-append ts rs);
    each = list_all-append Q ts rs ∙ ap₂ (λ a b. a && b) f.each g.each;
  }

  -- tokens more
  pub before : (u v : List Token) {ts : Texts} → Few Q u ts → Few Q (u ++ v) ts
  before u v f = record { count = omega (arith, f.count, length-append u v); each = f.each }

  pub after : (u v : List Token) {ts : Texts} → Few Q v ts → Few Q (u ++ v) ts
  after u v f = record { count = omega (arith, f.count, length-append u v); each = f.each }
