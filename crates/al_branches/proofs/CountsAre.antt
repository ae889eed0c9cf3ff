-- How many functions are of each item, with one more.
use Rattle.std.proofs.Common.{◌≡◌, ◌==◌, ℕ, ◌+◌, ◌<◌, ◌≤◌, ◌++◌, ◌∷◌, List, [], length, get_or, take, refl, ap, ◌∙◌, sym, subst, arith, inl, inr}
use Rattle.std.proofs.Math.ListN.{set, length-set}
use Rattle.std.proofs.lemmas.Bool.{eq-eqb, ne_eqb, cases_eq}
use Rattle.std.proofs.lemmas.Grind.{get_or-set_at}
use Rattle.std.proofs.lemmas.List.{get_or-set_other}
use Rattle.std.proofs.lemmas.List.FromFn.{fill_by_all, length-map-range_with_len, get_or-map-range_with_len, map-range_with_len_more}
use Rattle.std.proofs.lemmas.List.Sums.{count_by-le-length, count_by_more_no, count_by_more_yes}
use Rattle.al_declare.specs.declared.function.Defined.{Defined}
use Rattle.al_branches.specs.Numbers.{uses}
use Rattle.al_branches.specs.Tables.{all_uses}

pub uses-none : (i : ℕ) → uses [] i ≡ 0
unfolding uses
uses-none i = refl

pub none-more : (n : ℕ) → all_uses [] n ++ 0 ∷ [] ≡ all_uses [] (n + 1)
none-more n = ap (λ u. all_uses [] n ++ u ∷ []) (sym (uses-none n)) ∙ sym (map-range_with_len_more (uses []) 0 n n (omega arith))

pub ruleset none_more = (none-more)

-- function number k is of its item
uses-same : (ds : List Defined) (k i : ℕ) (p : Defined) → k < length ds → i ≡ (get_or ds k p).item → uses (take (k + 1) ds) i ≡ uses (take k ds) i + 1
unfolding uses
uses-same ds k i p h e = count_by_more_yes (λ (d : Defined). d.item == i) ds k p h (eq-eqb (get_or ds k p).item i (sym e))

-- and of no other
uses-other : (ds : List Defined) (k i : ℕ) (p : Defined) → k < length ds → (i ≡ (get_or ds k p).item → ⊥) → uses (take (k + 1) ds) i ≡ uses (take k ds) i
unfolding uses
uses-other ds k i p h ne = count_by_more_no (λ (d : Defined). d.item == i) ds k p h (ne_eqb (get_or ds k p).item i (λ e. ne (sym e)))

-- what stands in a table
pub use-at : (ds : List Defined) (n i u : ℕ) (us : List ℕ) → us ≡ all_uses ds n → i < n → u ≡ get_or us i u → u ≡ uses ds i
use-at ds n i u us e h is = is ∙ ap (λ l. get_or l i u) e ∙ get_or-map-range_with_len (uses ds) 0 n i i u h (omega arith)

pub use-fits : (ds : List Defined) (n i u : ℕ) (us : List ℕ) → us ≡ all_uses ds n → i < n → u ≡ get_or us i u → u ≤ length ds
unfolding uses
use-fits ds n i u us e h is = subst (λ x. x ≤ length ds) (sym (use-at ds n i u us e h is)) (count_by-le-length (λ (d : Defined). d.item == i) ds)

pub uses-length : (ds : List Defined) (n : ℕ) → length (all_uses ds n) ≡ n
uses-length ds n = length-map-range_with_len (uses ds) 0 n

-- a table has as many items as it is long
pub own_length : (ds : List Defined) (n : ℕ) (us : List ℕ) → us ≡ all_uses ds n → length us ≡ n
own_length ds n us e = ap length e ∙ uses-length ds n

-- a table with function number k
pub use-more : (ds : List Defined) (k n u : ℕ) (p : Defined) (us : List ℕ) → k < length ds → us ≡ all_uses (take k ds) n → (get_or ds k p).item < n
    → u ≡ get_or us (get_or ds k p).item u → set us (get_or ds k p).item (u + 1) ≡ all_uses (take (k + 1) ds) n
use-more ds k n u p us h e within at =
    let item : ℕ = (get_or ds k p).item in
    let long : length us ≡ n = own_length (take k ds) n us e in
    let there : item < length us = subst (λ m. item < m) (sym long) within in
    let was : u ≡ uses (take k ds) item = use-at (take k ds) n item u us e within at in
    fill_by_all (uses (take (k + 1) ds)) (set us item (u + 1)) n 0 (length-set us item (u + 1) ∙ long)
    (λ i below. elim (cases_eq i item) [
      | inl same ↦ get_or-set_at us item i (u + 1) 0 same there ∙ ap (λ x. x + 1) (was ∙ ap (uses (take k ds)) (sym same)) ∙ sym (uses-same ds k i p h same)
      | inr other ↦
          get_or-set_other us item i (u + 1) 0 other ∙ ap (λ l. get_or l i 0) e ∙ get_or-map-range_with_len (uses (take k ds)) 0 n i i 0 below (omega arith)
          ∙ sym (uses-other ds k i p h other)
    ])

-- an item past the end counts in no table
pub use-past : (ds : List Defined) (k n : ℕ) (p : Defined) → k < length ds → n ≤ (get_or ds k p).item → all_uses (take k ds) n ≡ all_uses (take (k + 1) ds) n
use-past ds k n p h past =
    fill_by_all (uses (take (k + 1) ds)) (all_uses (take k ds) n) n 0 (uses-length (take k ds) n)
    (λ i below.
    get_or-map-range_with_len (uses (take k ds)) 0 n i i 0 below (omega arith)
    ∙ sym (uses-other ds k i p h (λ (e : i ≡ (get_or ds k p).item). omega arith)))
