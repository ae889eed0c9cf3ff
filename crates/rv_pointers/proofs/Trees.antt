-- The tree of a dispatcher finds the function of a class whose name has a value.
use Rattle.std.proofs.Common.{◌≡◌, ◌≢◌, ℕ, zero, suc, ◌+◌, ◌*◌, ◌^◌, ◌<◌, ◌≤◌, ◌==◌, Bool, true, false, cond, nat_le, nat_lt, if◌then◌else◌, List, [], ◌∷◌, Option, Some, None, refl, sym, ap, ◌∙◌, arith, subst, ◌⊎◌, inl, inr}
use Rattle.std.specs.Prelude.{filter}
use Rattle.std.proofs.Math.Nat.{pow-suc}
use Rattle.std.proofs.lemmas.Bool.{cases_eq}
use Rattle.std.proofs.lemmas.Bool.Decides.{nat_tests}
use Rattle.al_meaning.specs.Places.{function_address}
use Rattle.al_ir.specs.Step.{named_in}
use Rattle.rv_form.specs.Dispatch.{Tree, Nothing, Is, Split, split, tree_of}

-- what the tree finds
abbrev pub found_in : Tree → (value : ℕ) → Option ℕ
found_in Nothing v = None
found_in (Is f) v = if function_address f == v then Some f else None
found_in (Split f below above) v = if nat_le (function_address f) v then found_in above v else found_in below v

-- a tree of so many levels of splits
abbrev pub IsShallow : (levels : ℕ) → Tree → Type 0
IsShallow n Nothing = Unit {0}
IsShallow n (Is f) = Unit {0}
IsShallow zero (Split f below above) = ⊥
IsShallow (suc n) (Split f below above) = IsShallow n below × IsShallow n above

-- the functions of a tree are so, and its splits are at numbers of functions
abbrev pub HasAll : (P : ℕ → Type 0) → Tree → Type 0
HasAll P Nothing = Unit {0}
HasAll P (Is f) = P f
HasAll P (Split f below above) = (f ≤ 2 ^ 16) × (HasAll P below × HasAll P above)

abbrev pub Each : (P : ℕ → Type 0) → List ℕ → Type 0
Each P [] = Unit {0}
Each P (f ∷ fs) = P f × Each P fs

pub each_of : (P Q : ℕ → Type 0) → ((f : ℕ) → P f → Q f) → (fs : List ℕ) → Each P fs → Each Q fs
each_of P Q g [] a = tt
each_of P Q g (f ∷ fs) a = (g f a.0, each_of P Q g fs a.1)

each_filter : (P Q : ℕ → Type 0) (test : ℕ → Bool) → ((f : ℕ) → test f ≡ true → P f → Q f) → (fs : List ℕ) → Each P fs → Each Q (filter test fs)
each_filter P Q test g [] a = tt
each_filter P Q test g (f ∷ fs) a = on (each_filter P Q test g fs a.1) (test f) refl where
  on : Each Q (filter test fs) → (b : Bool) → test f ≡ b → Each Q (cond b (f ∷ filter test fs) (filter test fs))
  on rest true e = (g f e a.0, rest)
  on rest false e = rest

pub named_has : (P : ℕ → Type 0) (v g : ℕ) (fs : List ℕ) → Each P fs → named_in v fs ≡ Some g → P g
named_has P v g [] a e = absurd (cc)
named_has P v g (f ∷ fs) a e = on (named_has P v g fs a.1) (function_address f == v) e where
  on : (named_in v fs ≡ Some g → P g) → (b : Bool) → (if b then Some f else named_in v fs) ≡ Some g → P g
  on rest true q = let same : f ≡ g = cc in subst P same a.0
  on rest false q = rest q

-- ---- tests

pub equal_is : (i j : ℕ) → i ≡ j → (i == j) ≡ true
equal_is i j e = grind (arith, nat_tests, e)

pub other_is : (i j : ℕ) → i ≢ j → (i == j) ≡ false
other_is i j e = grind (arith, nat_tests, e)

le_is : (i j : ℕ) → i ≤ j → nat_le i j ≡ true
le_is i j e = grind (arith, nat_tests, e)

le_not : (i j : ℕ) → j < i → nat_le i j ≡ false
le_not i j e = grind (arith, nat_tests, e)

is_le : (i j : ℕ) → nat_le i j ≡ true → i ≤ j
is_le i j e = grind (arith, nat_tests, e)

is_lt : (i j : ℕ) → nat_lt i j ≡ true → i < j
is_lt i j e = grind (arith, nat_tests, e)

not_le : (i j : ℕ) → nat_le i j ≡ false → j < i
not_le i j e = grind (arith, nat_tests, e)

not_lt : (i j : ℕ) → nat_lt i j ≡ false → j ≤ i
not_lt i j e = grind (arith, nat_tests, e)

-- ---- one side of a split has no function of that value, and the other one has what there is

abbrev at_least : ℕ → ℕ → Bool
at_least mid = λ g. nat_le mid g

abbrev less_than : ℕ → ℕ → Bool
less_than mid = λ g. nat_lt g mid

-- a function that has another value is passed over
passed_over : (v f : ℕ) (fs : List ℕ) → function_address f ≢ v → named_in v (f ∷ fs) ≡ named_in v fs
passed_over v f fs other = ap (λ (b : Bool). if b then Some f else named_in v fs) (other_is (function_address f) v other)

none_named : (v : ℕ) (test : ℕ → Bool) → ((f : ℕ) → test f ≡ true → function_address f ≢ v) → (fs : List ℕ) → named_in v (filter test fs) ≡ None
none_named v test far [] = refl
none_named v test far (f ∷ fs) = on (none_named v test far fs) (test f) refl where
  on : named_in v (filter test fs) ≡ None → (b : Bool) → test f ≡ b → named_in v (cond b (f ∷ filter test fs) (filter test fs)) ≡ None
  on rest true e = passed_over v f (filter test fs) (far f e) ∙ rest
  on rest false e = rest

all_named : (v : ℕ) (test : ℕ → Bool) → ((f : ℕ) → test f ≡ false → function_address f ≢ v) → (fs : List ℕ) → named_in v (filter test fs) ≡ named_in v fs
all_named v test far [] = refl
all_named v test far (f ∷ fs) = on (all_named v test far fs) (test f) refl where
  on : named_in v (filter test fs) ≡ named_in v fs → (b : Bool) → test f ≡ b → named_in v (cond b (f ∷ filter test fs) (filter test fs)) ≡ named_in v (f ∷ fs)
  on rest true e = ap (λ (o : Option ℕ). if function_address f == v then Some f else o) rest
  on rest false e = rest ∙ sym (passed_over v f fs (far f e))

-- equal functions, of which none has the value
none_equal : (v f : ℕ) (fs : List ℕ) → Each (λ g. g ≡ f) fs → function_address f ≢ v → named_in v fs ≡ None
none_equal v f [] a other = refl
none_equal v f (g ∷ fs) a other = passed_over v g fs (λ e. other (omega (arith, e, a.0))) ∙ none_equal v f fs a.1 other

found_split : (mid v : ℕ) (below above : Tree) → (v < function_address mid → found_in above v ≡ None) → (function_address mid ≤ v → found_in below v ≡ None)
    → found_in (split mid below above) v ≡ (if nat_le (function_address mid) v then found_in above v else found_in below v)
found_split mid v Nothing above none_above none_below = on (nat_le (function_address mid) v) refl where
  on : (b : Bool) → nat_le (function_address mid) v ≡ b → found_in above v ≡ (if b then found_in above v else None)
  on true e = refl
  on false e = none_above (not_le (function_address mid) v e)
found_split mid v (Is g) Nothing none_above none_below = on (nat_le (function_address mid) v) refl where
  on : (b : Bool) → nat_le (function_address mid) v ≡ b → found_in (Is g) v ≡ (if b then None else found_in (Is g) v)
  on true e = none_below (is_le (function_address mid) v e)
  on false e = refl
found_split mid v (Split g x y) Nothing none_above none_below = on (nat_le (function_address mid) v) refl where
  on : (b : Bool) → nat_le (function_address mid) v ≡ b → found_in (Split g x y) v ≡ (if b then None else found_in (Split g x y) v)
  on true e = none_below (is_le (function_address mid) v e)
  on false e = refl
found_split mid v (Is g) (Is k) none_above none_below = refl
found_split mid v (Is g) (Split k x y) none_above none_below = refl
found_split mid v (Split g x y) (Is k) none_above none_below = refl
found_split mid v (Split g x y) (Split k z w) none_above none_below = refl

-- ---- the tree

abbrev pub Within : (from size : ℕ) → ℕ → Type 0
Within from size f = (from ≤ f) × (f < from + size)

pub found_tree : (n from v : ℕ) (fs : List ℕ) → Each (Within from (2 ^ n)) fs → found_in (tree_of n from fs) v ≡ named_in v fs
found_tree n from v [] a = refl
found_tree zero from v (f ∷ fs) a = on (cases_eq (function_address f) v) where
  same : (g : ℕ) → Within from 1 g → g ≡ f
  same g q = omega (arith, q.0, q.1, a.0.0, a.0.1)

  on : (function_address f ≡ v) ⊎ (function_address f ≢ v) → (if function_address f == v then Some f else None) ≡ named_in v (f ∷ fs)
  on (inl e) =
      let t = equal_is (function_address f) v e in
      ap (λ (b : Bool). if b then Some f else None) t ∙ sym (ap (λ (b : Bool). if b then Some f else named_in v fs) t)
  on (inr other) =
      ap (λ (b : Bool). if b then Some f else None) (other_is (function_address f) v other)
      ∙ sym (passed_over v f fs other ∙ none_equal v f fs (each_of (Within from 1) (λ g. g ≡ f) same fs a.1) other)
found_tree (suc n) from v (f ∷ fs) a =
    let mid : ℕ = from + 2 ^ n in
    let double : 2 ^ suc n ≡ 2 ^ n * 2 = pow-suc 2 n in
    let low : List ℕ = filter (λ g. nat_lt g (from + 2 ^ n)) (f ∷ fs) in
    let high : List ℕ = filter (λ g. nat_le (from + 2 ^ n) g) (f ∷ fs) in
    let t1 = found_tree n from v low (each_filter (Within from (2 ^ suc n)) (Within from (2 ^ n)) (λ g. nat_lt g (from + 2 ^ n)) (λ g e q. (q.0, is_lt g (from + 2 ^ n) e)) (f ∷ fs) a) in
    let t2 = found_tree n (from + 2 ^ n) v high (each_filter (Within from (2 ^ suc n)) (Within (from + 2 ^ n) (2 ^ n)) (λ g. nat_le (from + 2 ^ n) g) (λ g e q. (is_le (from + 2 ^ n) g e, omega (arith, q.1, double))) (f ∷ fs) a) in
    let none_above : v < function_address mid → named_in v high ≡ None = λ less. none_named v (λ g. nat_le (from + 2 ^ n) g) (λ g e q. absurd (omega (arith, is_le (from + 2 ^ n) g e, q, less))) (f ∷ fs) in
    let none_below : function_address mid ≤ v → named_in v low ≡ None = λ le. none_named v (λ g. nat_lt g (from + 2 ^ n)) (λ g e q. absurd (omega (arith, is_lt g (from + 2 ^ n) e, q, le))) (f ∷ fs) in
    found_split mid v (tree_of n from low) (tree_of n (from + 2 ^ n) high) (λ less. t2 ∙ none_above less) (λ le. t1 ∙ none_below le)
    ∙ on (nat_le (function_address mid) v) refl t1 t2 where
      on : (b : Bool) → nat_le (function_address (from + 2 ^ n)) v ≡ b
          → found_in (tree_of n from (filter (λ g. nat_lt g (from + 2 ^ n)) (f ∷ fs))) v ≡ named_in v (filter (λ g. nat_lt g (from + 2 ^ n)) (f ∷ fs))
          → found_in (tree_of n (from + 2 ^ n) (filter (λ g. nat_le (from + 2 ^ n) g) (f ∷ fs))) v ≡ named_in v (filter (λ g. nat_le (from + 2 ^ n) g) (f ∷ fs))
          → (if b then found_in (tree_of n (from + 2 ^ n) (filter (λ g. nat_le (from + 2 ^ n) g) (f ∷ fs))) v else found_in (tree_of n from (filter (λ g. nat_lt g (from + 2 ^ n)) (f ∷ fs))) v) ≡ named_in v (f ∷ fs)
      on true e t1 t2 = t2 ∙ all_named v (λ g. nat_le (from + 2 ^ n) g) (λ g k q. absurd (omega (arith, is_le (function_address (from + 2 ^ n)) v e, not_le (from + 2 ^ n) g k, q))) (f ∷ fs)
      on false e t1 t2 = t1 ∙ all_named v (λ g. nat_lt g (from + 2 ^ n)) (λ g k q. absurd (omega (arith, not_le (function_address (from + 2 ^ n)) v e, not_lt g (from + 2 ^ n) k, q))) (f ∷ fs)

-- ---- its levels and functions

deeper : (n : ℕ) (t : Tree) → IsShallow n t → IsShallow (suc n) t
deeper n Nothing q = tt
deeper n (Is f) q = tt
deeper zero (Split f x y) q = absurd q
deeper (suc n) (Split f x y) q = (deeper n x q.0, deeper n y q.1)

shallow_split : (n mid : ℕ) (below above : Tree) → IsShallow n below → IsShallow n above → IsShallow (suc n) (split mid below above)
shallow_split n mid Nothing above p q = deeper n above q
shallow_split n mid (Is g) Nothing p q = tt
shallow_split n mid (Split g x y) Nothing p q = deeper n (Split g x y) p
shallow_split n mid (Is g) (Is k) p q = (p, q)
shallow_split n mid (Is g) (Split k x y) p q = (p, q)
shallow_split n mid (Split g x y) (Is k) p q = (p, q)
shallow_split n mid (Split g x y) (Split k z w) p q = (p, q)

pub tree_is_shallow : (n from : ℕ) (fs : List ℕ) → IsShallow n (tree_of n from fs)
tree_is_shallow n from [] = tt
tree_is_shallow zero from (f ∷ fs) = tt
tree_is_shallow (suc n) from (f ∷ fs) =
    shallow_split n (from + 2 ^ n) (tree_of n from (filter (λ g. nat_lt g (from + 2 ^ n)) (f ∷ fs))) (tree_of n (from + 2 ^ n) (filter (λ g. nat_le (from + 2 ^ n) g) (f ∷ fs)))
    (tree_is_shallow n from (filter (λ g. nat_lt g (from + 2 ^ n)) (f ∷ fs))) (tree_is_shallow n (from + 2 ^ n) (filter (λ g. nat_le (from + 2 ^ n) g) (f ∷ fs)))

has_split : (P : ℕ → Type 0) (mid : ℕ) (below above : Tree) → mid ≤ 2 ^ 16 → HasAll P below → HasAll P above → HasAll P (split mid below above)
has_split P mid Nothing above few p q = q
has_split P mid (Is g) Nothing few p q = p
has_split P mid (Split g x y) Nothing few p q = p
has_split P mid (Is g) (Is k) few p q = (few, (p, q))
has_split P mid (Is g) (Split k x y) few p q = (few, (p, q))
has_split P mid (Split g x y) (Is k) few p q = (few, (p, q))
has_split P mid (Split g x y) (Split k z w) few p q = (few, (p, q))

pub tree_has : (P : ℕ → Type 0) (n from : ℕ) (fs : List ℕ) → from + 2 ^ n ≤ 2 ^ 16 → Each P fs → HasAll P (tree_of n from fs)
tree_has P n from [] few a = tt
tree_has P zero from (f ∷ fs) few a = a.0
tree_has P (suc n) from (f ∷ fs) few a =
    let double : 2 ^ suc n ≡ 2 ^ n * 2 = pow-suc 2 n in
    has_split P (from + 2 ^ n) (tree_of n from (filter (λ g. nat_lt g (from + 2 ^ n)) (f ∷ fs))) (tree_of n (from + 2 ^ n) (filter (λ g. nat_le (from + 2 ^ n) g) (f ∷ fs))) (omega (arith, few, double))
    (tree_has P n from (filter (λ g. nat_lt g (from + 2 ^ n)) (f ∷ fs)) (omega (arith, few, double)) (each_filter P P (λ g. nat_lt g (from + 2 ^ n)) (λ g e q. q) (f ∷ fs) a))
    (tree_has P n (from + 2 ^ n) (filter (λ g. nat_le (from + 2 ^ n) g) (f ∷ fs)) (omega (arith, few, double)) (each_filter P P (λ g. nat_le (from + 2 ^ n) g) (λ g e q. q) (f ∷ fs) a))
