-- The functions of a class, by the classes of all functions.
use Rattle.std.proofs.Common.{◌≡◌, ℕ, zero, suc, ◌+◌, ◌≤◌, List, [], ◌∷◌, map, length, Some, refl, sym, ap, ap₂, ◌∙◌, arith, add-zero}
use Rattle.std.specs.Prelude.{◌==◌, Bool, true, false, if◌then◌else◌, slice_get}
use Rattle.std.proofs.lemmas.Grind.{common_steps}
use Rattle.std.proofs.lemmas.Option.{slice_get_within}
use Rattle.al_typed.specs.declared.ty.Ty.{Ty}
use Rattle.al_typed.specs.declared.program.Function.{Function as FunctionRow}
use Rattle.al_typed.specs.declared.program.Program.{Program}
use Rattle.al_typed.specs.Typed.{function_type}
use Rattle.al_typed.specs.Alike.{are_alike}
use Rattle.al_meaning.specs.Calls.{has_type}
use Rattle.al_lower_code.specs.Classes.{first_of_type, all_of_type, class_number, class_at, classes_from, classes}
use Rattle.al_lower.specs.Alike.{own_class, class_of, numbers_of, numbers_at, lists_from}
use Rattle.al_lower.proofs.AlikeTypes.{alike_itself, alike_same}

equal : (n m : ℕ) → n ≡ m → (n == m) ≡ true
equal n m e = grind (arith, common_steps, e)

are_equal : (n m : ℕ) → (n == m) ≡ true → n ≡ m
are_equal n m e = grind (arith, common_steps, e)

-- not equal, where that would be a contradiction
unequal : (b : Bool) → (b ≡ true → false ≡ true) → b ≡ false
unequal true h = let e = h refl in cc
unequal false h = refl

-- ---- the first function of a type

no_less : (t : Ty) (n : ℕ) (fs : List FunctionRow) → n ≤ first_of_type t n fs
no_less t n [] = omega arith
no_less t n (f ∷ fs) = on (has_type t f.around f) (no_less t (n + 1) fs)
  where
    on : (b : Bool) → n + 1 ≤ first_of_type t (n + 1) fs → n ≤ (if b then n else first_of_type t (n + 1) fs)
    on true h = omega arith
    on false h = omega (arith, h)

-- it has that type
found : (t : Ty) (n j : ℕ) (fs : List FunctionRow) (g : FunctionRow) → first_of_type t n fs ≡ n + j → slice_get fs j ≡ Some g → has_type t g.around g ≡ true
found t n j [] g e at = absurd (cc)
found t n zero (f ∷ fs) g e at = on (has_type t f.around f) refl e
  where
    same : f ≡ g
    same = cc

    on : (b : Bool) → has_type t f.around f ≡ b → (if b then n else first_of_type t (n + 1) fs) ≡ n + zero → has_type t g.around g ≡ true
    on true h e = ap (λ (x : FunctionRow). has_type t x.around x) (sym same) ∙ h
    on false h e = absurd (omega (arith, no_less t (n + 1) fs, e))
found t n (suc j) (f ∷ fs) g e at = on (has_type t f.around f) (found t (n + 1) j fs g) e
  where
    next : n + suc j ≡ n + 1 + j
    next = omega arith

    on : (b : Bool) → (first_of_type t (n + 1) fs ≡ n + 1 + j → slice_get fs j ≡ Some g → has_type t g.around g ≡ true) → (if b then n else first_of_type t (n + 1) fs) ≡ n + suc j
        → has_type t g.around g ≡ true
    on true h e = absurd (omega (arith, e))
    on false h e = h (e ∙ next) at

found_first : (p : Program) (t : Ty) (k : ℕ) (g : FunctionRow) → class_number p t ≡ k → slice_get p.functions k ≡ Some g → has_type t g.around g ≡ true
found_first p t k g e at = let z : k ≡ 0 + k = omega arith in found t 0 k p.functions g (e ∙ z) at

first_same : (t u : Ty) → are_alike t u ≡ true → (n : ℕ) (fs : List FunctionRow) → first_of_type t n fs ≡ first_of_type u n fs
first_same t u e n [] = refl
first_same t u e n (f ∷ fs) = ap₂ (λ b m. if b then n else m) (on f.around) (first_same t u e (n + 1) fs)
  where
    on : (around : List ℕ) → has_type t around f ≡ has_type u around f
    on [] = alike_same t u e (function_type f)
    on (m ∷ around) = refl

-- ---- the functions of a class

-- g is the first function of its type, and k its number
module _ (p : Program) (k : ℕ) (g : FunctionRow) (at : slice_get p.functions k ≡ Some g) (none : g.around ≡ []) (first : class_number p (function_type g) ≡ k) where
  behind : (length p.functions == k) ≡ false
  behind = unequal (length p.functions == k) (λ e. let lt = slice_get_within p.functions k g at in let same = are_equal (length p.functions) k e in absurd (omega (arith, lt, same)))

  in_class : (h : FunctionRow) (b : Bool) → are_alike (function_type g) (function_type h) ≡ b → (class_number p (function_type h) == k) ≡ b
  in_class h true e = equal (class_number p (function_type h)) k (sym (first_same (function_type g) (function_type h) e 0 p.functions) ∙ first)
  in_class h false e = unequal (class_number p (function_type h) == k) (λ same.
      let there = found_first p (function_type h) k g (are_equal (class_number p (function_type h)) k same) at in
      let other : are_alike (function_type h) (function_type g) ≡ true = sym (ap (λ a. has_type (function_type h) a g) none) ∙ there in
      sym e ∙ (sym (alike_same (function_type h) (function_type g) other (function_type h)) ∙ alike_itself (function_type h)))

  is_in : (around : List ℕ) (h : FunctionRow) → (class_of p around h == k) ≡ has_type (function_type g) around h
  is_in [] h = in_class h (are_alike (function_type g) (function_type h)) refl
  is_in (n ∷ around) h = behind

  members : (n : ℕ) (fs : List FunctionRow) → numbers_of k n (map (own_class p) fs) ≡ all_of_type (function_type g) n fs
  members n [] = refl
  members n (f ∷ fs) = ap₂ (λ b ns. if b then n ∷ ns else ns) (is_in f.around f) (members (n + 1) fs)

-- ---- all classes

module _ (p : Program) where
  one : (k : ℕ) (g : FunctionRow) (around : List ℕ) → g.around ≡ around → slice_get p.functions k ≡ Some g
      → numbers_at (map (own_class p) p.functions) k (class_of p around g) ≡ class_at p k g
  one k g [] none at = on (class_number p (function_type g) == k) refl
    where
      on : (b : Bool) → (class_number p (function_type g) == k) ≡ b
          → (if b then numbers_of k 0 (map (own_class p) p.functions) else []) ≡ (if b then all_of_type (function_type g) 0 p.functions else [])
      on true e = members p k g at none (are_equal (class_number p (function_type g)) k e) 0 p.functions
      on false e = refl
  one k g (n ∷ around) is at =
      ap (λ b. if b then numbers_of k 0 (map (own_class p) p.functions) else []) behind_all
      ∙ sym (ap (λ b. if b then all_of_type (function_type g) 0 p.functions else []) other)
    where
      behind_all : (length p.functions == k) ≡ false
      behind_all = unequal (length p.functions == k) (λ e. let lt = slice_get_within p.functions k g at in let same = are_equal (length p.functions) k e in absurd (omega (arith, lt, same)))

      other : (class_number p (function_type g) == k) ≡ false
      other = unequal (class_number p (function_type g) == k) (λ e.
          let there = found_first p (function_type g) k g (are_equal (class_number p (function_type g)) k e) at in
          sym (ap (λ a. has_type (function_type g) a g) is) ∙ there)

  from : (k : ℕ) (fs : List FunctionRow) → ((j : ℕ) → slice_get fs j ≡ slice_get p.functions (k + j))
      → lists_from (map (own_class p) p.functions) k (map (own_class p) fs) ≡ classes_from p k fs
  from k [] rest = refl
  from k (f ∷ fs) rest =
      ap₂ (λ (ns : List ℕ) nss. ns ∷ nss)
      (one k f f.around refl (sym (rest 0 ∙ ap (slice_get p.functions) (add-zero k))))
      (from (k + 1) fs (λ j. let next : k + suc j ≡ k + 1 + j = omega arith in rest (suc j) ∙ ap (slice_get p.functions) next))

  pub lists_are : lists_from (map (own_class p) p.functions) 0 (map (own_class p) p.functions) ≡ classes p
  lists_are = from 0 p.functions (λ j. let z : j ≡ 0 + j = omega arith in ap (slice_get p.functions) z)
