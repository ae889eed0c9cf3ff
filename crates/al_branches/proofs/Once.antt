-- The branches of a program have the numbers behind its functions, each of them one.
use Rattle.std.proofs.Common.{◌≡◌, ℕ, zero, suc, ◌+◌, ◌*◌, ◌-◌, ◌/◌, ◌%◌, ◌<◌, ◌≤◌, Bool, List, [], ◌∷◌, ◌++◌, length, take, refl, ap, ◌∙◌, sym, subst, arith, inl, inr, add-one, Some, None}
use Rattle.std.specs.Prelude.{if◌then◌else◌, slice_get}
use Rattle.std.specs.List.{sum_by, range_with_len}
use Rattle.std.proofs.Math.Nat.{div-add-mod, div-lt_iff_lt-mul, mod-lt, mul_comm}
use Rattle.std.proofs.lemmas.Bool.{cases_lt, cases_eq, le-leb}
use Rattle.std.proofs.lemmas.Option.{slice_get_past}
use Rattle.std.proofs.lemmas.List.Sums.{sum_by-cons}
use Rattle.al_base.specs.declared.place.Place.{Place}
use Rattle.al_tree.specs.declared.item.Item.{Item}
use Rattle.al_declare.specs.declared.function.Defined.{Defined}
use Rattle.al_environment.specs.declared.numbered.Numbered.{Numbered}
use Rattle.al_branches.specs.Numbers.{branches_if, branches_at, uses, given, first, numbered_at, numbered, numbers_of, numbers_from, branch_numbers}
use Rattle.al_branches.specs.Law.{IsBranch, number_of, branch_count, Found}
use Rattle.al_branches.proofs.FirstsAre.{first-none, sum-more}
use Rattle.al_branches.proofs.Ranks.{one_if, uses-cons, uses-empty, one-yes, one-no, rank-below, rank-rises, Ranked, ranked}
use Rattle.al_branches.proofs.Ranges.{pair-within, pair-once, first-rises, first-before, Located, located}

-- ---- sums over items

one-more : (f : ℕ → ℕ) (n : ℕ) → sum_by f (range_with_len 0 (suc n)) ≡ sum_by f (range_with_len 0 n) + f n
one-more f n = ap (λ k. sum_by f (range_with_len 0 k)) (sym (add-one n)) ∙ sum-more f n

sum-none : (f : ℕ → ℕ) (n : ℕ) → ((i : ℕ) → i < n → f i ≡ 0) → sum_by f (range_with_len 0 n) ≡ 0
sum-none f zero h = refl
sum-none f (suc n) h =
    let e = one-more f n in
    let here : f n ≡ 0 = h n (omega arith) in
    let rest = sum-none f n (λ i below. h i (omega arith)) in
    omega arith

sum-one : (f : ℕ → ℕ) (at n : ℕ) → at < n → ((i : ℕ) → (at ≡ i → ⊥) → f i ≡ 0) → sum_by f (range_with_len 0 n) ≡ f at
sum-one f at zero below h = absurd (omega arith)
sum-one f at (suc n) below h =
    let e = one-more f n in
    elim (cases_eq at n) [
      | inl same ↦
          let rest = sum-none f n (λ i less. h i (λ (g : at ≡ i). omega arith)) in
          let here : f n ≡ f at = ap f (sym same) in
          omega arith
      | inr other ↦
          let rest = sum-one f at n (omega arith) h in
          let here : f n ≡ 0 = h n other in
          omega arith
    ]

sum-both : (f g h : ℕ → ℕ) (n : ℕ) → ((i : ℕ) → f i ≡ g i + h i) → sum_by f (range_with_len 0 n) ≡ sum_by g (range_with_len 0 n) + sum_by h (range_with_len 0 n)
sum-both f g h zero e = refl
sum-both f g h (suc n) e =
    let a = one-more f n in
    let b = one-more g n in
    let c = one-more h n in
    let rest = sum-both f g h n e in
    let here = e n in
    omega arith

module _ (items : List Item) where
  branches-past : (i : ℕ) → length items ≤ i → length (branches_at items i) ≡ 0
  branches-past i h = ap (λ o. length (branches_if o)) (slice_get_past items i h)

  -- what one function has, as a sum over the items
  abbrev of_one : Defined → ℕ → ℕ
  of_one d i = length (branches_at items i) * one_if d i

  of_one-yes : (d : Defined) → of_one d d.item ≡ length (branches_at items d.item)
  of_one-yes d = ap (λ n. length (branches_at items d.item) * n) (one-yes d d.item refl) ∙ times_one (length (branches_at items d.item))
    where
      times_one : (n : ℕ) → n * 1 ≡ n
      times_one n = omega arith

  of_one-no : (d : Defined) (i : ℕ) → (d.item ≡ i → ⊥) → of_one d i ≡ 0
  of_one-no d i ne = ap (λ n. length (branches_at items i) * n) (one-no d i ne) ∙ times_zero (length (branches_at items i))
    where
      times_zero : (n : ℕ) → n * 0 ≡ 0
      times_zero n = omega arith

  one-sum : (d : Defined) → sum_by (of_one d) (range_with_len 0 (length items)) ≡ length (branches_at items d.item)
  one-sum d = elim (cases_lt d.item (length items)) [
    | inl below ↦ sum-one (of_one d) d.item (length items) below (of_one-no d) ∙ of_one-yes d
    | inr past ↦ sum-none (of_one d) (length items) (λ i less. of_one-no d i (λ (g : d.item ≡ i). omega arith)) ∙ sym (branches-past d.item past)
  ]

  all-sum : (ds : List Defined) → sum_by (given items ds) (range_with_len 0 (length items)) ≡ branch_count items ds
  all-sum [] = sum-none (given items []) (length items) (λ i less. ap (λ n. length (branches_at items i) * n) (uses-empty i) ∙ times_zero (length (branches_at items i)))
    where
      times_zero : (n : ℕ) → n * 0 ≡ 0
      times_zero n = omega arith
  all-sum (d ∷ ds) =
      sum-both (given items (d ∷ ds)) (of_one d) (given items ds) (length items)
      (λ i. ap (λ n. length (branches_at items i) * n) (uses-cons d ds i) ∙ distributed (length (branches_at items i)) (one_if d i) (uses ds i))
      ∙ ap (λ n. n + sum_by (given items ds) (range_with_len 0 (length items))) (one-sum d)
      ∙ ap (λ n. length (branches_at items d.item) + n) (all-sum ds)
      ∙ sym (sum_by-cons (λ (x : Defined). length (branches_at items x.item)) d ds)
    where
      distributed : (a b c : ℕ) → a * (b + c) ≡ a * b + a * c
      distributed a b c = grind arith

  pub end-is : (ds : List Defined) → first items ds (length items) ≡ length ds + branch_count items ds
  unfolding first
  end-is ds = ap (λ n. length ds + n) (all-sum ds)

-- ---- branches

module _ (items : List Item) (ds : List Defined) where
  low : (k : ℕ) (d : Defined) (j : ℕ) → first items ds d.item ≤ number_of items ds k d j
  low k d j = omega arith

  high : (k : ℕ) (d : Defined) (j : ℕ) → IsBranch items ds k d j → number_of items ds k d j < first items ds d.item + given items ds d.item
  high k d j b =
      let rank = rank-below ds k d b.is in
      let within : uses (take k ds) d.item + j * uses ds d.item < length (branches_at items d.item) * uses ds d.item =
      pair-within (uses ds d.item) (length (branches_at items d.item)) (uses (take k ds) d.item) j (omega arith) b.has in
      omega arith

  -- branches stand behind the functions
  pub behind : (k : ℕ) (d : Defined) (j : ℕ) → IsBranch items ds k d j → length ds ≤ number_of items ds k d j
  behind k d j b =
      let none = first-none items ds in
      let rises : first items ds 0 ≤ first items ds (0 + d.item) = first-rises items ds 0 d.item in
      let here : first items ds (0 + d.item) ≡ first items ds d.item = ap (first items ds) (zero_add d.item) in
      let above = low k d j in
      omega arith
    where
      zero_add : (n : ℕ) → 0 + n ≡ n
      zero_add n = omega arith

  -- and there are no numbers between
  pub within : (k : ℕ) (d : Defined) (j : ℕ) → IsBranch items ds k d j → number_of items ds k d j < length ds + branch_count items ds
  within k d j b =
      let less = high k d j b in
      let end = end-is items ds in
      elim (cases_lt d.item (length items)) [
        | inl below ↦ let before = first-before items ds d.item (length items) below in omega arith
        | inr past ↦ let none = branches-past items d.item past in let has = b.has in absurd (omega arith)
      ]

  same-item : (k m : ℕ) (d e : Defined) (j l : ℕ) → IsBranch items ds k d j → IsBranch items ds m e l → number_of items ds k d j ≡ number_of items ds m e l → d.item < e.item → ⊥
  same-item k m d e j l b c same less =
      let top = high k d j b in
      let before = first-before items ds d.item e.item less in
      let bottom = low m e l in
      omega arith

  once-of : (k m : ℕ) (d e : Defined) (j l : ℕ) → IsBranch items ds k d j → IsBranch items ds m e l → number_of items ds k d j ≡ number_of items ds m e l → d.item ≡ e.item → (k ≡ m) × (j ≡ l)
  once-of k m d e j l b c same item =
      let own = rank-below ds k d b.is in
      let other : uses (take m ds) d.item + 1 ≤ uses ds d.item = subst (λ i. uses (take m ds) i + 1 ≤ uses ds i) (sym item) (rank-below ds m e c.is) in
      let equal : number_of items ds k d j ≡ first items ds d.item + uses (take m ds) d.item + l * uses ds d.item =
      same ∙ ap (λ i. first items ds i + uses (take m ds) i + l * uses ds i) (sym item) in
      let pairs : uses (take k ds) d.item + j * uses ds d.item ≡ uses (take m ds) d.item + l * uses ds d.item = omega arith in
      let found = pair-once (uses ds d.item) (uses (take k ds) d.item) j (uses (take m ds) d.item) l (omega arith) (omega arith) pairs in
      let ranks = found.0 in
      elim (cases_lt k m) [
        | inl less ↦ let rises = rank-rises ds k m d e b.is c.is less in absurd (omega arith)
        | inr most ↦ elim (cases_lt m k) [
          | inl less ↦
              let rises : uses (take m ds) d.item + 1 ≤ uses (take k ds) d.item =
              subst (λ i. uses (take m ds) i + 1 ≤ uses (take k ds) i) (sym item) (rank-rises ds m k e d c.is b.is less) in
              absurd (omega arith)
          | inr least ↦ (omega arith, found.1)
        ]
      ]

  -- two branches have different numbers
  pub once : (k m : ℕ) (d e : Defined) (j l : ℕ) → IsBranch items ds k d j → IsBranch items ds m e l → number_of items ds k d j ≡ number_of items ds m e l → (k ≡ m) × (j ≡ l)
  once k m d e j l b c same = elim (cases_lt d.item e.item) [
    | inl less ↦ absurd (same-item k m d e j l b c same less)
    | inr most ↦ elim (cases_lt e.item d.item) [
      | inl less ↦ absurd (same-item m k e d l j c b (sym same) less)
      | inr least ↦ once-of k m d e j l b c same (omega arith)
    ]
  ]

  positive : (c u m : ℕ) → m < c * u → 0 < u
  positive c zero m h = let none : c * 0 ≡ 0 = omega arith in absurd (omega arith)
  positive c (suc u) m h = omega arith

  found-at : (n : ℕ) (p : Located items ds n) (q j : ℕ) → Ranked ds p.i q → j < length (branches_at items p.i) → first items ds p.i + q + j * uses ds p.i ≡ n → Found items ds n
  found-at n p q j r has e = record {
    k = r.k;
    d = r.d;
    j = j;
    branch = record { is = r.is; has = subst (λ i. j < length (branches_at items i)) (sym r.of) has };
    number =
        ap (λ i. first items ds i + uses (take r.k ds) i + j * uses ds i) r.of
        ∙ ap (λ x. first items ds p.i + x + j * uses ds p.i) r.rank
        ∙ e;
  }

  in-item : (n : ℕ) → Located items ds n → Found items ds n
  in-item n p =
      let u : ℕ = uses ds p.i in
      let m : ℕ = n - first items ds p.i in
      let c : ℕ = length (branches_at items p.i) in
      let low = p.low in
      let high = p.high in
      let small : m < c * u = omega arith in
      let some : 0 < u = positive c u m small in
      let whole = div-add-mod m u in
      let turned = mul_comm u (m / u) in
      let rest : m % u < u = mod-lt m some in
      found-at n p (m % u) (m / u) (ranked ds p.i (m % u) rest) ((div-lt_iff_lt-mul some).1 small) (omega arith)

  -- each number is that of a branch
  pub all : (n : ℕ) → length ds ≤ n → n < length ds + branch_count items ds → Found items ds n
  all n above below = let end = end-is items ds in in-item n (located items ds (length items) n above (omega arith))

-- ---- lists of numbers

abbrev one_numbered : ℕ → Place → Numbered
one_numbered n at = record { at = at; number = n }

abbrev if_small : Bool → ℕ → Place → List Numbered
if_small b n at = if b then one_numbered n at ∷ [] else []

small-at : (n : ℕ) (at : Place) → n ≤ 4294967295 → numbered_at n at ≡ one_numbered n at ∷ []
small-at n at h = ap (λ b. if_small b n at) (le-leb n 4294967295 h)

no_place : (at : Place) → None ≡ Some at → ⊥
no_place at h = cc

place_is : (a at : Place) → Some a ≡ Some at → a ≡ at
place_is a at h = cc

times-suc : (j n : ℕ) → suc j * n ≡ n + j * n
times-suc j n = grind arith

numbered-get : (ats : List Place) (from apart j : ℕ) (at : Place) → slice_get ats j ≡ Some at → from + j * apart ≤ 4294967295
    → slice_get (numbered from apart ats) j ≡ Some (one_numbered (from + j * apart) at)
unfolding numbered
numbered-get [] from apart j at is small = absurd (no_place at is)
numbered-get (a ∷ ats) from apart zero at is small =
    let none : from ≡ from + 0 * apart = omega arith in
    ap (λ ns. slice_get (ns ++ numbered (from + apart) apart ats) 0) (small-at from a (omega arith))
    ∙ ap (λ p. Some (one_numbered from p)) (place_is a at is)
    ∙ ap (λ n. Some (one_numbered n at)) none
numbered-get (a ∷ ats) from apart (suc j) at is small =
    let step = times-suc j apart in
    let next : from + apart + j * apart ≡ from + suc j * apart = omega arith in
    ap (λ ns. slice_get (ns ++ numbered (from + apart) apart ats) (suc j)) (small-at from a (omega arith))
    ∙ numbered-get ats (from + apart) apart j at is (omega arith)
    ∙ ap (λ n. Some (one_numbered n at)) next

module _ (items : List Item) (ds : List Defined) where
  -- a number that a program can have is given
  pub numbers-get : (k : ℕ) (d : Defined) (j : ℕ) (at : Place) → slice_get (branches_at items d.item) j ≡ Some at → number_of items ds k d j ≤ 4294967295
      → slice_get (numbers_of items ds k d) j ≡ Some (record { at = at; number = number_of items ds k d j })
  unfolding numbers_of
  numbers-get k d j at is small =
      numbered-get (branches_at items d.item) (first items ds d.item + uses (take k ds) d.item) (uses ds d.item) j at is small

  from-get : (list : List Defined) (from k : ℕ) (d : Defined) → slice_get list k ≡ Some d → slice_get (numbers_from items ds from list) k ≡ Some (numbers_of items ds (from + k) d)
  unfolding numbers_from
  from-get [] from k d h = absurd (none d h)
    where
      none : (d : Defined) → None ≡ Some d → ⊥
      none d h = cc
  from-get (x ∷ xs) from zero d h = ap Some (ap (λ k. numbers_of items ds k x) (add_zero from) ∙ ap (numbers_of items ds (from + 0)) (some_is x d h))
    where
      add_zero : (n : ℕ) → n ≡ n + 0
      add_zero n = omega arith

      some_is : (x d : Defined) → Some x ≡ Some d → x ≡ d
      some_is x d h = cc
  from-get (x ∷ xs) from (suc k) d h = from-get xs (from + 1) k d h ∙ ap (λ k. Some (numbers_of items ds k d)) (regrouped from k)
    where
      regrouped : (from k : ℕ) → from + 1 + k ≡ from + suc k
      regrouped from k = omega arith

  pub function-get : (k : ℕ) (d : Defined) → slice_get ds k ≡ Some d → slice_get (branch_numbers items ds) k ≡ Some (numbers_of items ds k d)
  unfolding branch_numbers
  function-get k d h = from-get ds 0 k d h ∙ ap (λ k. Some (numbers_of items ds k d)) (zero_add k)
    where
      zero_add : (n : ℕ) → 0 + n ≡ n
      zero_add n = omega arith
