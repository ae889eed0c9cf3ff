-- The numbers of the first branches of items, with one more.
use Rattle.std.proofs.Common.{◌≡◌, ℕ, zero, suc, ◌+◌, ◌^◌, ◌-◌, ◌∷◌, ◌++◌, min, List, [], length, ap, ◌∙◌, sym, arith, add-one}
use Rattle.std.proofs.lemmas.List.Sums.{sum_by_push}
use Rattle.std.proofs.lemmas.List.FromFn.{map-range_with_len_more}
use Rattle.std.specs.List.{sum_by, range_with_len}
use Rattle.al_tree.specs.declared.item.Item.{Item}
use Rattle.al_declare.specs.declared.function.Defined.{Defined}
use Rattle.al_typed.specs.Capped.{capped}
use Rattle.al_branches.specs.Numbers.{given, first}
use Rattle.al_branches.specs.Tables.{all_firsts}

range-more : (a n : ℕ) → range_with_len a (suc n) ≡ range_with_len a n ++ (a + n) ∷ []
range-more a zero = ap (λ x. x ∷ []) (omega arith)
range-more a (suc n) =
    ap (λ xs. a ∷ xs) (range-more (a + 1) n ∙ ap (λ x. range_with_len (a + 1) n ++ x ∷ []) (omega arith))

pub sum-more : (f : ℕ → ℕ) (n : ℕ) → sum_by f (range_with_len 0 (n + 1)) ≡ sum_by f (range_with_len 0 n) + f n
sum-more f n =
    ap (λ k. sum_by f (range_with_len 0 k)) (add-one n)
    ∙ ap (sum_by f) (range-more 0 n)
    ∙ sum_by_push f (range_with_len 0 n) (0 + n)
    ∙ ap (λ k. sum_by f (range_with_len 0 n) + f k) (omega arith)

pub first-none : (items : List Item) (ds : List Defined) → first items ds 0 ≡ length ds
unfolding first
first-none items ds = omega arith

pub first-more : (items : List Item) (ds : List Defined) (i : ℕ) → first items ds (i + 1) ≡ first items ds i + given items ds i
unfolding first
first-more items ds i =
    ap (λ x. length ds + x) (sum-more (given items ds) i)
    ∙ regrouped (length ds) (sum_by (given items ds) (range_with_len 0 i)) (given items ds i)
  where
    regrouped : (a b c : ℕ) → a + (b + c) ≡ a + b + c
    regrouped a b c = omega arith

pub firsts-more : (items : List Item) (ds : List Defined) (i : ℕ) → all_firsts items ds (i + 1) ≡ all_firsts items ds i ++ capped (first items ds i) ∷ []
firsts-more items ds i = map-range_with_len_more (λ k. capped (first items ds k)) 0 i i (omega arith)

-- the next number, as code adds it
pub first-capped : (items : List Item) (ds : List Defined) (i n g : ℕ) → n ≡ capped (first items ds i) → g ≡ capped (given items ds i)
    → min (n + g) (2 ^ 64 - 1) ≡ capped (first items ds (i + 1))
first-capped items ds i n g e f =
    let more = first-more items ds i in
    added (first items ds i) (given items ds i) n g e f ∙ ap capped (sym more)
  where
    added : (a b n g : ℕ) → n ≡ capped a → g ≡ capped b → min (n + g) (2 ^ 64 - 1) ≡ capped (a + b)
    added a b n g e f = omega arith

pub ruleset firsts_are = (first-none, firsts-more)
