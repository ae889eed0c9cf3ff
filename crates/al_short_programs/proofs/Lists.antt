-- Lists of string constants that grow by no more than some; where a test holds of these, it holds of all.
use Rattle.std.proofs.Common.{◌≡◌, ℕ, zero, suc, ◌+◌, ◌≤◌, Bool, true, ◌&&◌, List, [], ◌∷◌, ◌++◌, length, flat_map, slice_get, Some, refl, sym, ap, ap₂, ◌∙◌, arith, length-append}
use Rattle.std.specs.List.{list_all}
use Rattle.std.proofs.lemmas.Bool.{and_parts}
use Rattle.std.proofs.lemmas.List.Folds.{list_all-append}
use Rattle.al_tree_laws.specs.Texts.{Texts}

-- from xs to ys no string constants are added but these, and not all of them need be
pub record Grows (Q : List ℕ → Bool) (ts xs ys : Texts) : Type 0 where
  pub count : length ys ≤ length xs + length ts
  pub each : list_all Q xs ≡ true → list_all Q ts ≡ true → list_all Q ys ≡ true

pub parts_hold : (Q : List ℕ → Bool) (xs ys : Texts) → list_all Q (xs ++ ys) ≡ true → (list_all Q xs ≡ true) × (list_all Q ys ≡ true)
parts_hold Q xs ys h = and_parts (list_all Q xs) (list_all Q ys) (sym (list_all-append Q xs ys) ∙ h)

pub both_hold : (Q : List ℕ → Bool) (xs ys : Texts) → list_all Q xs ≡ true → list_all Q ys ≡ true → list_all Q (xs ++ ys) ≡ true
both_hold Q xs ys h k = list_all-append Q xs ys ∙ ap₂ (λ a b. a && b) h k

pub stays : (Q : List ℕ → Bool) (xs : Texts) → Grows Q [] xs xs
stays Q xs = record { count = omega arith; each = λ h k. h }

pub grows : {Q : List ℕ → Bool} {ts rs xs ys zs : Texts} → Grows Q ts xs ys → Grows Q rs ys zs → Grows Q (ts ++ rs) xs zs
grows {Q} {ts} {rs} {xs} {ys} {zs} a b = record {
  count = omega (arith, a.count, b.count, length-append ts rs);
  each = λ h k. let p = parts_hold Q ts rs k in b.each (a.each h p.0) p.1;
}

-- those of one element
pub one_holds : {A : Type 0} (Q : List ℕ → Bool) (f : A → Texts) (xs : List A) (k : ℕ) (x : A) → slice_get xs k ≡ Some x → list_all Q (flat_map f xs) ≡ true → list_all Q (f x) ≡ true
one_holds Q f [] k x h s = absurd (let f : ⊥ = cc in f)
one_holds Q f (y ∷ ys) zero x h s = let e : y ≡ x = cc in ap (λ z. list_all Q (f z)) (sym e) ∙ (parts_hold Q (f y) (flat_map f ys) s).0
one_holds Q f (y ∷ ys) (suc k) x h s = one_holds Q f ys k x h (parts_hold Q (f y) (flat_map f ys) s).1

-- those of each element are of two kinds
pub two_count : {A : Type 0} (f g : A → Texts) (xs : List A) → length (flat_map (λ x. f x ++ g x) xs) ≡ length (flat_map f xs) + length (flat_map g xs)
two_count f g [] = refl
two_count f g (x ∷ xs) =
    let p : length (flat_map (λ y. f y ++ g y) xs) ≡ length (flat_map f xs) + length (flat_map g xs) = two_count f g xs in
    omega (arith, p, length-append (f x ++ g x) (flat_map (λ y. f y ++ g y) xs), length-append (f x) (g x), length-append (f x) (flat_map f xs), length-append (g x) (flat_map g xs))

pub two_hold : {A : Type 0} (Q : List ℕ → Bool) (f g : A → Texts) (xs : List A) → list_all Q (flat_map (λ x. f x ++ g x) xs) ≡ true
    → (list_all Q (flat_map f xs) ≡ true) × (list_all Q (flat_map g xs) ≡ true)
two_hold Q f g [] h = (refl, refl)
two_hold Q f g (x ∷ xs) h =
    let p = parts_hold Q (f x ++ g x) (flat_map (λ y. f y ++ g y) xs) h in
    let q = parts_hold Q (f x) (g x) p.0 in
    let r = two_hold Q f g xs p.1 in
    (both_hold Q (f x) (flat_map f xs) q.0 r.0, both_hold Q (g x) (flat_map g xs) q.1 r.1)
