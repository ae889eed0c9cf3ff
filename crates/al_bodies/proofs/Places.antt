-- Places of numbers.
use Rattle.std.proofs.Common.{◌≡◌, ℕ, ◌+◌, ◌-◌, ◌<◌, ◌≤◌, cond, List, [], ◌∷◌, ◌++◌, length, get_or, reverse, ap, ◌∙◌, sym, arith, inl, inr, Option, Some, None, option_map, append_assoc}
use Rattle.std.specs.Prelude.{nat_le, if◌then◌else◌, replicate, slice_set}
use Rattle.std.specs.List.{flat_map, find}
use Rattle.std.specs.Option.{option_to_list}
use Rattle.std.proofs.Math.ListN.{set, length-set}
use Rattle.std.proofs.lemmas.Bool.{eq-eqb, ne_eqb, cases_eq, cases_lt, le-leb, lt-leb}
use Rattle.std.proofs.lemmas.Grind.{get_or-set_at}
use Rattle.std.proofs.lemmas.List.{set_past, get_or-set_other, replicate-append-replicate, reverse-append, append-nil, get_or-replicate, length-replicate}
use Rattle.std.proofs.lemmas.List.FromFn.{fill_by_all, length-map-range_with_len, get_or-map-range_with_len}
use Rattle.al_type_function.specs.declared.branch.NumberedBranch.{NumberedBranch}
use Rattle.al_bodies.specs.Placing.{function_of, has_number, branch_of, by_number}

-- ---- lists

pub empty-more : {A : Type 0} (n : ℕ) (o : Option A) → o ≡ None → replicate n None ++ o ∷ [] ≡ replicate (n + 1) None
empty-more n o e = ap (λ x. replicate n None ++ x ∷ []) e ∙ replicate-append-replicate n 1 None

pub ruleset empty_more = (empty-more)

pub no_place : {A : Type 0} (xs : List A) (i : ℕ) (x : A) → length xs ≤ i → slice_set xs i x ≡ xs
no_place xs i x h = set_past xs i x h

pub ruleset past_end = (no_place)

there-append : {A : Type 0} (xs : List (Option A)) (x : Option A) → flat_map option_to_list (xs ++ x ∷ []) ≡ flat_map option_to_list xs ++ option_to_list x
there-append [] x = append-nil (option_to_list x)
there-append (y ∷ xs) x = ap (λ l. option_to_list y ++ l) (there-append xs x) ∙ sym (append_assoc (option_to_list y) (flat_map option_to_list xs) (option_to_list x))

pub there-some : {A : Type 0} (all xs : List (Option A)) (x : A) (list : List A) → all ≡ xs ++ Some x ∷ [] → flat_map option_to_list all ++ reverse list ≡ flat_map option_to_list xs ++ reverse (list ++ x ∷ [])
there-some all xs x list e =
    ap (λ l. flat_map option_to_list l ++ reverse list) e
    ∙ ap (λ l. l ++ reverse list) (there-append xs (Some x))
    ∙ append_assoc (flat_map option_to_list xs) (x ∷ []) (reverse list)
    ∙ ap (λ l. flat_map option_to_list xs ++ l) (sym (reverse-append list (x ∷ [])))

pub there-none : {A : Type 0} (all xs : List (Option A)) → all ≡ xs ++ None ∷ [] → flat_map option_to_list all ≡ flat_map option_to_list xs
there-none all xs e = ap (flat_map option_to_list) e ∙ there-append xs None ∙ append-nil (flat_map option_to_list xs)

pub ruleset there_more = (there-some, there-none)

-- ---- branches

-- no branch has a number
pub no_branches : (from n : ℕ) → replicate n None ≡ by_number from n []
unfolding branch_of
no_branches from n =
    fill_by_all (λ i. branch_of [] (from + i)) (replicate n None) n None (length-replicate n None) (λ i h. get_or-replicate n i None None h)

branch-same : (b : NumberedBranch) (bs : List NumberedBranch) (n : ℕ) → b.number ≡ n → branch_of (b ∷ bs) n ≡ Some b.function
unfolding branch_of
branch-same b bs n e = ap (λ t. option_map function_of (cond t (Some b) (find (has_number n) bs))) (eq-eqb b.number n e)

branch-other : (b : NumberedBranch) (bs : List NumberedBranch) (n : ℕ) → (b.number ≡ n → ⊥) → branch_of (b ∷ bs) n ≡ branch_of bs n
unfolding branch_of
branch-other b bs n ne = ap (λ t. option_map function_of (cond t (Some b) (find (has_number n) bs))) (ne_eqb b.number n ne)

places-length : (from n : ℕ) (bs : List NumberedBranch) → length (by_number from n bs) ≡ n
places-length from n bs = length-map-range_with_len (λ i. branch_of bs (from + i)) 0 n

place-at : (from n i : ℕ) (bs : List NumberedBranch) → i < n → get_or (by_number from n bs) i None ≡ branch_of bs (from + i)
place-at from n i bs h = get_or-map-range_with_len (λ i. branch_of bs (from + i)) 0 n i i None h (omega arith)

-- a branch before others, at the place of its number
put-at : (from n at : ℕ) (b : NumberedBranch) (bs : List NumberedBranch) → from + at ≡ b.number → set (by_number from n bs) at (Some b.function) ≡ by_number from n (b ∷ bs)
put-at from n at b bs e =
    fill_by_all (λ i. branch_of (b ∷ bs) (from + i)) (set (by_number from n bs) at (Some b.function)) n None
    (length-set (by_number from n bs) at (Some b.function) ∙ places-length from n bs)
    (λ i h. elim (cases_eq i at) [
      | inl same ↦
          let long = places-length from n bs in
          get_or-set_at (by_number from n bs) at i (Some b.function) None same (omega arith)
          ∙ sym (branch-same b bs (from + i) (omega arith))
      | inr other ↦
          get_or-set_other (by_number from n bs) at i (Some b.function) None other
          ∙ place-at from n i bs h
          ∙ sym (branch-other b bs (from + i) (λ (f : b.number ≡ from + i). other (omega arith)))
    ])

-- one that has a smaller number has no place
put-below : (from n : ℕ) (b : NumberedBranch) (bs : List NumberedBranch) → b.number < from → by_number from n bs ≡ by_number from n (b ∷ bs)
put-below from n b bs below =
    fill_by_all (λ i. branch_of (b ∷ bs) (from + i)) (by_number from n bs) n None (places-length from n bs)
    (λ i h. place-at from n i bs h ∙ sym (branch-other b bs (from + i) (λ (f : b.number ≡ from + i). omega arith)))

-- a branch before others
pub put-before : (from n : ℕ) (b : NumberedBranch) (bs : List NumberedBranch)
    → (if nat_le from b.number then slice_set (by_number from n bs) (b.number - from) (Some b.function) else by_number from n bs) ≡ by_number from n (b ∷ bs)
put-before from n b bs = elim (cases_lt b.number from) [
  | inl below ↦ ap (λ t. if t then set (by_number from n bs) (b.number - from) (Some b.function) else by_number from n bs) (lt-leb from b.number below) ∙ put-below from n b bs below
  | inr above ↦
      ap (λ t. if t then set (by_number from n bs) (b.number - from) (Some b.function) else by_number from n bs) (le-leb from b.number above)
      ∙ put-at from n (b.number - from) b bs (omega arith)
]
