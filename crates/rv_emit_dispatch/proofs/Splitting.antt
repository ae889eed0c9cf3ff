-- Trees of comparisons, as they are split.
use Rattle.std.proofs.Common.{◌≡◌, ℕ, zero, suc, ◌+◌, ◌-◌, ◌^◌, ◌<◌, Bool, true, false, cond, List, [], ◌∷◌, ◌++◌, length, nat_eq, nat_lt, nat_le, Some, None, refl, sym, ap, subst, ◌∙◌, arith, append_assoc, length-append}
use Rattle.std.proofs.lemmas.Bool.Decides.{nat_tests}
use Rattle.std.proofs.lemmas.List.{nil_from_length}
use Rattle.std.specs.List.{filter, slice_get}
use Rattle.rv_isa.specs.declared.instr.Instr.{Instr}
use Rattle.rv_isa.specs.declared.instr.BranchOp.TheVariants.{Bgeu}
use Rattle.al_meaning.specs.Places.{function_address}
use Rattle.rv_code.specs.declared.reach.Reach.TheVariants.{Long}
use Rattle.rv_code.specs.Jumps.{branch_code}
use Rattle.rv_form.specs.Flow.{wide_number}
use Rattle.rv_form.specs.Dispatch.{Tree, Nothing, Is, Split, split, tree_of, tree_width, tree_code}

abbrev Exists : Tree → Type 0
Exists Nothing = ⊥
Exists (Is f) = Unit {0}
Exists (Split f a b) = Unit {0}

none_above : (f : ℕ) (a : Tree) → split f a Nothing ≡ a
none_above f Nothing = refl
none_above f (Is g) = refl
none_above f (Split g b c) = refl

both : (f : ℕ) (a b : Tree) → Exists a → Exists b → split f a b ≡ Split f a b
both f Nothing b x y = absurd x
both f (Is g) Nothing x y = absurd y
both f (Is g) (Is h) x y = refl
both f (Is g) (Split h c d) x y = refl
both f (Split g a b) Nothing x y = absurd y
both f (Split g a b) (Is h) x y = refl
both f (Split g a b) (Split h c d) x y = refl

exists_low : (f : ℕ) (a b : Tree) → Exists a → Exists (split f a b)
exists_low f Nothing b x = absurd x
exists_low f (Is g) Nothing x = tt
exists_low f (Is g) (Is h) x = tt
exists_low f (Is g) (Split h c d) x = tt
exists_low f (Split g a b) Nothing x = tt
exists_low f (Split g a b) (Is h) x = tt
exists_low f (Split g a b) (Split h c d) x = tt

exists_high : (f : ℕ) (a b : Tree) → Exists b → Exists (split f a b)
exists_high f Nothing b y = y
exists_high f (Is g) Nothing y = absurd y
exists_high f (Is g) (Is h) y = tt
exists_high f (Is g) (Split h c d) y = tt
exists_high f (Split g a b) Nothing y = absurd y
exists_high f (Split g a b) (Is h) y = tt
exists_high f (Split g a b) (Split h c d) y = tt

abbrev pub lows : ℕ → List ℕ → List ℕ
lows middle fs = filter (λ g. nat_lt g middle) fs

abbrev pub highs : ℕ → List ℕ → List ℕ
highs middle fs = filter (λ g. nat_le middle g) fs

-- some functions make a tree
exists : (bits from f : ℕ) (fs : List ℕ) → Exists (tree_of bits from (f ∷ fs))
exists zero from f fs = tt
exists (suc n) from f fs =
    elim (nat_lt f (from + 2 ^ n)) as (λ b. nat_lt f (from + 2 ^ n) ≡ b → Exists (tree_of (suc n) from (f ∷ fs))) [
      | true ↦ λ less. exists_low (from + 2 ^ n) (tree_of n from (lows (from + 2 ^ n) (f ∷ fs))) (tree_of n (from + 2 ^ n) (highs (from + 2 ^ n) (f ∷ fs)))
          (subst (λ (b : Bool). Exists (tree_of n from (cond b (f ∷ lows (from + 2 ^ n) fs) (lows (from + 2 ^ n) fs)))) (sym less) (exists n from f (lows (from + 2 ^ n) fs)))
      | false ↦ λ not_less. exists_high (from + 2 ^ n) (tree_of n from (lows (from + 2 ^ n) (f ∷ fs))) (tree_of n (from + 2 ^ n) (highs (from + 2 ^ n) (f ∷ fs)))
          (let e : nat_le (from + 2 ^ n) f ≡ true = grind (arith, nat_tests) in
          subst (λ (b : Bool). Exists (tree_of n (from + 2 ^ n) (cond b (f ∷ highs (from + 2 ^ n) fs) (highs (from + 2 ^ n) fs)))) (sym e) (exists n (from + 2 ^ n) f (highs (from + 2 ^ n) fs)))
    ] refl

some : (bits from : ℕ) (fs : List ℕ) → (fs ≡ [] → ⊥) → Exists (tree_of bits from fs)
some bits from [] h = absurd (h refl)
some bits from (f ∷ fs) h = exists bits from f fs

-- ---- a tree of more than one bit

nothing : (bits from : ℕ) → tree_of bits from [] ≡ Nothing
nothing zero from = refl
nothing (suc n) from = refl

no_low_suc : (n from : ℕ) (fs : List ℕ) → (fs ≡ [] → ⊥) → lows (from + 2 ^ n) fs ≡ [] → tree_of (suc n) from fs ≡ tree_of n (from + 2 ^ n) (highs (from + 2 ^ n) fs)
no_low_suc n from [] h none = absurd (h refl)
no_low_suc n from (f ∷ fs) h none =
    ap (λ (xs : List ℕ). split (from + 2 ^ n) (tree_of n from xs) (tree_of n (from + 2 ^ n) (highs (from + 2 ^ n) (f ∷ fs)))) none
    ∙ ap (λ (t : Tree). split (from + 2 ^ n) t (tree_of n (from + 2 ^ n) (highs (from + 2 ^ n) (f ∷ fs)))) (nothing n from)

no_high_suc : (n from : ℕ) (fs : List ℕ) → (fs ≡ [] → ⊥) → highs (from + 2 ^ n) fs ≡ [] → tree_of (suc n) from fs ≡ tree_of n from (lows (from + 2 ^ n) fs)
no_high_suc n from [] h none = absurd (h refl)
no_high_suc n from (f ∷ fs) h none =
    ap (λ (xs : List ℕ). split (from + 2 ^ n) (tree_of n from (lows (from + 2 ^ n) (f ∷ fs))) (tree_of n (from + 2 ^ n) xs)) none
    ∙ (ap (λ (t : Tree). split (from + 2 ^ n) (tree_of n from (lows (from + 2 ^ n) (f ∷ fs))) t) (nothing n (from + 2 ^ n))
    ∙ none_above (from + 2 ^ n) (tree_of n from (lows (from + 2 ^ n) (f ∷ fs))))

two_parts_suc : (n from : ℕ) (fs : List ℕ) → (fs ≡ [] → ⊥) → (lows (from + 2 ^ n) fs ≡ [] → ⊥) → (highs (from + 2 ^ n) fs ≡ [] → ⊥)
    → tree_of (suc n) from fs ≡ Split (from + 2 ^ n) (tree_of n from (lows (from + 2 ^ n) fs)) (tree_of n (from + 2 ^ n) (highs (from + 2 ^ n) fs))
two_parts_suc n from [] h low high = absurd (h refl)
two_parts_suc n from (f ∷ fs) h low high =
    both (from + 2 ^ n) (tree_of n from (lows (from + 2 ^ n) (f ∷ fs))) (tree_of n (from + 2 ^ n) (highs (from + 2 ^ n) (f ∷ fs)))
    (some n from (lows (from + 2 ^ n) (f ∷ fs)) low) (some n (from + 2 ^ n) (highs (from + 2 ^ n) (f ∷ fs)) high)

-- the last of these numbers is that of the bits
from_suc : (bits from : ℕ) (fs : List ℕ) → 0 < bits → tree_of bits from fs ≡ tree_of (suc (bits - 1)) from fs
from_suc bits from fs positive = let e : bits ≡ suc (bits - 1) = omega (arith, positive) in ap (λ b. tree_of b from fs) e

no_low_at : (bits from : ℕ) (fs low high : List ℕ) → 0 < bits → (fs ≡ [] → ⊥) → low ≡ lows (from + 2 ^ (bits - 1)) fs → high ≡ highs (from + 2 ^ (bits - 1)) fs
    → low ≡ [] → tree_of bits from fs ≡ tree_of (bits - 1) (from + 2 ^ (bits - 1)) high
no_low_at bits from fs low high positive h is_low is_high none =
    from_suc bits from fs positive ∙ no_low_suc (bits - 1) from fs h (sym is_low ∙ none) ∙ ap (λ (xs : List ℕ). tree_of (bits - 1) (from + 2 ^ (bits - 1)) xs) (sym is_high)

no_high_at : (bits from : ℕ) (fs low high : List ℕ) → 0 < bits → (fs ≡ [] → ⊥) → low ≡ lows (from + 2 ^ (bits - 1)) fs → high ≡ highs (from + 2 ^ (bits - 1)) fs
    → high ≡ [] → tree_of bits from fs ≡ tree_of (bits - 1) from low
no_high_at bits from fs low high positive h is_low is_high none =
    from_suc bits from fs positive ∙ no_high_suc (bits - 1) from fs h (sym is_high ∙ none) ∙ ap (λ (xs : List ℕ). tree_of (bits - 1) from xs) (sym is_low)

two_parts_at : (bits from : ℕ) (fs low high : List ℕ) → 0 < bits → (fs ≡ [] → ⊥) → low ≡ lows (from + 2 ^ (bits - 1)) fs → high ≡ highs (from + 2 ^ (bits - 1)) fs
    → (low ≡ [] → ⊥) → (high ≡ [] → ⊥)
    → tree_of bits from fs ≡ Split (from + 2 ^ (bits - 1)) (tree_of (bits - 1) from low) (tree_of (bits - 1) (from + 2 ^ (bits - 1)) high)
two_parts_at bits from fs low high positive h is_low is_high low_some high_some =
    from_suc bits from fs positive
    ∙ two_parts_suc (bits - 1) from fs h (λ e. low_some (is_low ∙ e)) (λ e. high_some (is_high ∙ e))
    ∙ ap (λ (xs : List ℕ). Split (from + 2 ^ (bits - 1)) (tree_of (bits - 1) from xs) (tree_of (bits - 1) (from + 2 ^ (bits - 1)) (highs (from + 2 ^ (bits - 1)) fs))) (sym is_low)
    ∙ ap (λ (xs : List ℕ). Split (from + 2 ^ (bits - 1)) (tree_of (bits - 1) from low) (tree_of (bits - 1) (from + 2 ^ (bits - 1)) xs)) (sym is_high)

-- ---- the same for both parts as they were found, with `half` numbers in each

pub no_low : (bits from half : ℕ) (fs low high : List ℕ) → 0 < bits → half ≡ 2 ^ (bits - 1) → (fs ≡ [] → ⊥) → low ≡ lows (from + half) fs → high ≡ highs (from + half) fs
    → low ≡ [] → tree_of bits from fs ≡ tree_of (bits - 1) (from + half) high
no_low bits from half fs low high positive is_half some is_low is_high none =
    no_low_at bits from fs low high positive some (is_low ∙ ap (λ n. lows (from + n) fs) is_half) (is_high ∙ ap (λ n. highs (from + n) fs) is_half) none
    ∙ ap (λ n. tree_of (bits - 1) (from + n) high) (sym is_half)

pub no_high : (bits from half : ℕ) (fs low high : List ℕ) → 0 < bits → half ≡ 2 ^ (bits - 1) → (fs ≡ [] → ⊥) → low ≡ lows (from + half) fs → high ≡ highs (from + half) fs
    → high ≡ [] → tree_of bits from fs ≡ tree_of (bits - 1) from low
no_high bits from half fs low high positive is_half some is_low is_high none =
    no_high_at bits from fs low high positive some (is_low ∙ ap (λ n. lows (from + n) fs) is_half) (is_high ∙ ap (λ n. highs (from + n) fs) is_half) none

pub two_parts : (bits from half : ℕ) (fs low high : List ℕ) → 0 < bits → half ≡ 2 ^ (bits - 1) → (fs ≡ [] → ⊥) → low ≡ lows (from + half) fs → high ≡ highs (from + half) fs
    → (low ≡ [] → ⊥) → (high ≡ [] → ⊥) → tree_of bits from fs ≡ Split (from + half) (tree_of (bits - 1) from low) (tree_of (bits - 1) (from + half) high)
two_parts bits from half fs low high positive is_half some is_low is_high low_some high_some =
    two_parts_at bits from fs low high positive some (is_low ∙ ap (λ n. lows (from + n) fs) is_half) (is_high ∙ ap (λ n. highs (from + n) fs) is_half) low_some high_some
    ∙ ap (λ n. Split (from + n) (tree_of (bits - 1) from low) (tree_of (bits - 1) (from + n) high)) (sym is_half)

-- ---- lists that are empty, and others

pub none_by : (xs : List ℕ) (b : Bool) → b ≡ nat_eq (length xs) 0 → b ≡ true → xs ≡ []
none_by xs b is holds = let e : length xs ≡ 0 = grind (arith, nat_tests, is, holds) in nil_from_length xs e

pub some_by : (xs : List ℕ) (b : Bool) → b ≡ nat_eq (length xs) 0 → b ≡ false → xs ≡ [] → ⊥
some_by xs b is fails none = let e : b ≡ true = is ∙ ap (λ (ys : List ℕ). nat_eq (length ys) 0) none in cc

pub some_first : (xs : List ℕ) (x : ℕ) → Some x ≡ slice_get xs 0 → xs ≡ [] → ⊥
some_first xs x is none = let e : Some x ≡ None = is ∙ ap (λ (ys : List ℕ). slice_get ys 0) none in cc

-- ---- widths

pub length-tree_code : (entry stack : ℕ → ℕ) (at : ℕ) (t : Tree) → length (tree_code entry stack at t) ≡ tree_width t
length-tree_code entry stack at Nothing = refl
length-tree_code entry stack at (Is f) = refl
length-tree_code entry stack at (Split f a b) =
    omega (arith, length-append (tree_code entry stack (at + 5) a) (tree_code entry stack (at + 5 + tree_width a) b), length-tree_code entry stack (at + 5) a, length-tree_code entry stack (at + 5 + tree_width a) b)

-- what compares stands before both parts
pub parts_code : (entry stack : ℕ → ℕ) (f at half_width : ℕ) (a b : Tree) (old compared low all : List Instr) → at ≡ length old → half_width ≡ tree_width a
    → compared ≡ old ++ (wide_number 6 (function_address f) ++ branch_code Long Bgeu 10 6 (at + 2) (at + 5 + half_width))
    → low ≡ compared ++ tree_code entry stack (length compared) a → all ≡ low ++ tree_code entry stack (length low) b
    → all ≡ old ++ tree_code entry stack (length old) (Split f a b)
parts_code entry stack f at half_width a b old compared low all is_at is_width compares is_low is_all =
    let test : List Instr = wide_number 6 (function_address f) ++ branch_code Long Bgeu 10 6 (length old + 2) (length old + 5 + tree_width a) in
    let compared_is : compared ≡ old ++ test =
    compares ∙ (ap (λ n. old ++ (wide_number 6 (function_address f) ++ branch_code Long Bgeu 10 6 (n + 2) (n + 5 + half_width))) is_at
    ∙ ap (λ n. old ++ (wide_number 6 (function_address f) ++ branch_code Long Bgeu 10 6 (length old + 2) (length old + 5 + n))) is_width) in
    let test_length : length test ≡ 5 = refl in
    let second : length compared ≡ length old + 5 = ap length compared_is ∙ (length-append old test ∙ ap (λ n. length old + n) test_length) in
    let third : length low ≡ length old + 5 + tree_width a =
    ap length is_low ∙ (length-append compared (tree_code entry stack (length compared) a)
    ∙ (ap (λ n. length compared + n) (length-tree_code entry stack (length compared) a) ∙ ap (λ n. n + tree_width a) second)) in
    let A : List Instr = tree_code entry stack (length old + 5) a in
    let B : List Instr = tree_code entry stack (length old + 5 + tree_width a) b in
    is_all ∙ (ap (λ n. low ++ tree_code entry stack n b) third
    ∙ (ap (λ (c : List Instr). c ++ B) (is_low ∙ (ap (λ n. compared ++ tree_code entry stack n a) second ∙ ap (λ (c : List Instr). c ++ A) compared_is))
    ∙ (append_assoc (old ++ test) A B ∙ append_assoc old test (A ++ B))))
