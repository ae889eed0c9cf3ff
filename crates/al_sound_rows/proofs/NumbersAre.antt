-- The numbers that the branches of a function have by their places.
use Rattle.std.proofs.Common.{◌≡◌, ℕ, zero, suc, ◌+◌, ◌*◌, ◌<◌, ◌≤◌, Bool, true, false, List, [], ◌∷◌, ◌++◌, get_or, Option, Some, None, cond, refl, sym, ap, ◌∙◌, subst, arith, append_assoc, inl, inr}
use Rattle.std.specs.Prelude.{◌&&◌, ◌==◌, All, find, if◌then◌else◌, nat_le, option_map, slice_get, ⊤}
use Rattle.std.specs.List.{AllPairs}
use Rattle.std.proofs.lemmas.Bool.{cases_lt, eq-eqb, lt-leb, le-leb}
use Rattle.std.proofs.lemmas.List.Elements.{All-append, All-cons, All-head, All-nil, All-tail}
use Rattle.al_base.specs.declared.place.Place.{Place}
use Rattle.al_rules.specs.Outcome.{Good, same_place}
use Rattle.al_environment.specs.declared.numbered.Numbered.{Numbered}
use Rattle.al_environment.specs.Firsts.{number_at}
use Rattle.al_branches.specs.Numbers.{numbered, numbered_at}
use Rattle.al_type_stmt.specs.declared.within.Within.{Within}
use Rattle.al_type_stmt.specs.Statements.{branch_at, branch_number}
use Rattle.al_type_function.specs.declared.branch.NumberedBranch.{NumberedBranch}
use Rattle.al_sound_rows.proofs.Outcomes.{good_is, some_is}
use Rattle.al_sound_rows.proofs.Lists.{Along, along_weaker, left_all}

-- ---- branches of which each has a number so far above that of the one before

abbrev pub Run : (from apart : ℕ) → List NumberedBranch → Type 0
Run from apart [] = ⊤
Run from apart (b ∷ bs) = (b.number ≡ from) × Run (from + apart) apart bs

pub run_get : (from apart : ℕ) (bs : List NumberedBranch) (j : ℕ) (b : NumberedBranch) → Run from apart bs → slice_get bs j ≡ Some b → b.number ≡ from + j * apart
run_get from apart [] j b h e = absurd (cc)
run_get from apart (c ∷ bs) zero b h e = ap (λ (x : NumberedBranch). x.number) (sym (some_is e)) ∙ h.0 ∙ first from apart
  where
    first : (from apart : ℕ) → from ≡ from + 0 * apart
    first from apart = omega arith
run_get from apart (c ∷ bs) (suc j) b h e = run_get (from + apart) apart bs j b h.1 e ∙ next from apart j
  where
    next : (from apart j : ℕ) → from + apart + j * apart ≡ from + suc j * apart
    next from apart j = omega arith

-- later branches have greater numbers
abbrev pub IsBehind : ℕ → NumberedBranch → Type 0
IsBehind n b = n < b.number

abbrev pub Increasing : List NumberedBranch → Type 0
Increasing [] = ⊤
Increasing (b ∷ bs) = All (IsBehind b.number) bs × Increasing bs

pub run_behind : (n from apart : ℕ) (bs : List NumberedBranch) → n < from → Run from apart bs → All (IsBehind n) bs
run_behind n from apart [] h r = All-nil (IsBehind n)
run_behind n from apart (b ∷ bs) h r = All-cons (IsBehind n) b bs (let e = r.0 in omega arith) (run_behind n (from + apart) apart bs (omega arith) r.1)

pub run_increases : (from apart : ℕ) (bs : List NumberedBranch) → 1 ≤ apart → Run from apart bs → Increasing bs
run_increases from apart [] h r = tt
run_increases from apart (b ∷ bs) h r = (run_behind b.number (from + apart) apart bs (let e = r.0 in omega arith) r.1, run_increases (from + apart) apart bs h r.1)

pub left_increases : (xs ys : List NumberedBranch) → Increasing (xs ++ ys) → Increasing xs
left_increases [] ys h = tt
left_increases (x ∷ xs) ys h = (left_all (IsBehind x.number) xs ys h.0, left_increases xs ys h.1)

pub right_increases : (xs ys : List NumberedBranch) → Increasing (xs ++ ys) → Increasing ys
right_increases [] ys h = h
right_increases (x ∷ xs) ys h = right_increases xs ys h.1

-- ---- a table of numbers by places

abbrev is_at : Place → Numbered → Bool
is_at at n = same_place n.at at

-- this stands at another place
abbrev IsApart : Place → Numbered → Type 0
IsApart at n = same_place n.at at ≡ false

abbrev found : List Numbered → Place → Option Numbered
found list at = find (is_at at) list

passed_over : (at : Place) (front rest : List Numbered) → All (IsApart at) front → found (front ++ rest) at ≡ found rest at
passed_over at [] rest h = refl
passed_over at (n ∷ front) rest h = ap (λ b. cond b (Some n) (found (front ++ rest) at)) (All-head (IsApart at) n front h) ∙ passed_over at front rest (All-tail (IsApart at) n front h)

itself : (at : Place) → same_place at at ≡ true
itself at = both (at.line == at.line) (at.col == at.col) (eq-eqb at.line at.line refl) (eq-eqb at.col at.col refl)
  where
    both : (a b : Bool) → a ≡ true → b ≡ true → (a && b) ≡ true
    both a b e f = ap (λ x. x && b) e ∙ f

-- past the greatest number there is none
past : (from apart : ℕ) (ats : List Place) → 4294967295 < from → numbered from apart ats ≡ []
unfolding numbered
past from apart [] h = refl
past from apart (at ∷ ats) h =
    ap (λ b. (if b then record { at = at; number = from } ∷ [] else []) ++ numbered (from + apart) apart ats) (lt-leb from 4294967295 h) ∙ past (from + apart) apart ats (omega arith)

abbrev number_of : Option Numbered → Option ℕ
number_of o = option_map (λ (n : Numbered). n.number) o

-- the first of a table has its number, or no number has room
first_has : (from apart : ℕ) (at : Place) (ats : List Place) (n : ℕ) → number_of (found (numbered from apart (at ∷ ats)) at) ≡ Some n → n ≡ from
unfolding numbered
first_has from apart at ats n e = elim (cases_lt 4294967295 from) [
  | inl great ↦ absurd (nothing (ap (λ l. number_of (found l at)) (sym (past from apart (at ∷ ats) great)) ∙ e))
  | inr small ↦ sym (some_is (sym (ap (λ b. number_of (found ((if b then record { at = at; number = from } ∷ [] else []) ++ numbered (from + apart) apart ats) at)) (le-leb from 4294967295 small)
      ∙ ap (λ b. number_of (cond b (Some (record { at = at; number = from })) (found (numbered (from + apart) apart ats) at))) (itself at)) ∙ e))
]
  where
    nothing : {n : ℕ} → None ≡ Some n → ⊥
    nothing h = cc

abbrev Has : List Numbered → Place → NumberedBranch → Type 0
Has table at b = number_of (found table at) ≡ Some b.number

abbrev Apart : Place → Place → Type 0
Apart a b = same_place a b ≡ false

first_apart : (a : Place) (ats : List Place) → AllPairs Apart (a ∷ ats) → All (Apart a) ats
first_apart a ats h = λ k d lt. h 0 (suc k) d (omega arith) (omega arith)

rest_apart : (a : Place) (ats : List Place) → AllPairs Apart (a ∷ ats) → AllPairs Apart ats
rest_apart a ats h = λ i j d lt within. h (suc i) (suc j) d (omega arith) (omega arith)

one_apart : (from : ℕ) (a at : Place) → Apart a at → All (IsApart at) (numbered_at from a)
one_apart from a at h = by_size (nat_le from 4294967295)
  where
    by_size : (b : Bool) → All (IsApart at) (if b then record { at = a; number = from } ∷ [] else [])
    by_size true = All-cons (IsApart at) (record { at = a; number = from }) [] h (All-nil (IsApart at))
    by_size false = All-nil (IsApart at)

more_apart : (from : ℕ) (a : Place) (ats : List Place) (front : List Numbered) → All (λ at. All (IsApart at) front) ats → All (Apart a) ats
    → All (λ at. All (IsApart at) (front ++ numbered_at from a)) ats
more_apart from a [] front h k = All-nil (λ at. All (IsApart at) (front ++ numbered_at from a))
more_apart from a (at ∷ ats) front h k =
    All-cons (λ to. All (IsApart to) (front ++ numbered_at from a)) at ats
    (All-append (IsApart at) front (numbered_at from a) (All-head (λ to. All (IsApart to) front) at ats h) (one_apart from a at (All-head (Apart a) at ats k)))
    (more_apart from a ats front (All-tail (λ to. All (IsApart to) front) at ats h) (All-tail (Apart a) at ats k))

runs : (from apart : ℕ) (ats : List Place) (bs : List NumberedBranch) (front : List Numbered) → All (λ at. All (IsApart at) front) ats → AllPairs Apart ats
    → Along (Has (front ++ numbered from apart ats)) ats bs → Run from apart bs
unfolding numbered
runs from apart [] [] front h p r = tt
runs from apart (a ∷ ats) (b ∷ bs) front h p r = (
  first_has from apart a ats b.number
      (ap number_of (sym (passed_over a front (numbered from apart (a ∷ ats)) (All-head (λ at. All (IsApart at) front) a ats h))) ∙ r.0),
  runs (from + apart) apart ats bs (front ++ numbered_at from a)
      (more_apart from a ats front (All-tail (λ at. All (IsApart at) front) a ats h) (first_apart a ats p)) (rest_apart a ats p)
      (subst (λ t. Along (Has t) ats bs) (sym (append_assoc front (numbered_at from a) (numbered (from + apart) apart ats))) r.1),
)
runs from apart [] (b ∷ bs) front h p r = absurd r
runs from apart (a ∷ ats) [] front h p r = absurd r

number_there : (w : Within) (at : Place) (o : Option ℕ) (n : ℕ) → branch_number w at o ≡ Good n → o ≡ Some n
number_there w at None n e = absurd (cc)
number_there w at (Some m) n e = ap Some (good_is e)

has_number_of : (w : Within) (table : List Numbered) (at : Place) (b : NumberedBranch) → w.branches ≡ table → branch_at w at ≡ Good b.number → Has table at b
unfolding branch_at number_at
has_number_of w table at b same e = ap (λ t. number_at t at) (sym same) ∙ number_there w at (number_at w.branches at) b.number e

-- where the places are apart, branches have the numbers of the table in their order
pub numbers_run : (w : Within) (from apart : ℕ) (ats : List Place) (bs : List NumberedBranch) → w.branches ≡ numbered from apart ats → AllPairs Apart ats
    → Along (λ at (b : NumberedBranch). branch_at w at ≡ Good b.number) ats bs → Run from apart bs
numbers_run w from apart ats bs same p r =
    runs from apart ats bs [] (λ k d lt. All-nil (IsApart (get_or ats k d))) p
    (along_weaker (λ at (b : NumberedBranch). branch_at w at ≡ Good b.number) (Has (numbered from apart ats)) (λ at b e. has_number_of w (numbered from apart ats) at b same e) ats bs r)
