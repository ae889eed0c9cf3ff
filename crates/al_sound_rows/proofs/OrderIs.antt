-- Branches stand by their numbers behind the functions.
use Rattle.std.proofs.Common.{◌≡◌, ℕ, zero, suc, ◌+◌, ◌-◌, ◌<◌, ◌≤◌, Bool, true, false, List, [], ◌∷◌, ◌++◌, length, map, Some, cond, refl, sym, ap, ◌∙◌, arith, length-append}
use Rattle.std.specs.Prelude.{find, option_map, slice_get}
use Rattle.std.specs.List.{flat_map, range_with_len}
use Rattle.std.specs.Option.{option_to_list}
use Rattle.std.proofs.lemmas.Bool.{eq-eqb, eqb-true}
use Rattle.std.proofs.lemmas.Option.{slice_get_within}
use Rattle.al_typed.specs.declared.program.Function.{Function}
use Rattle.al_type_function.specs.declared.branch.NumberedBranch.{NumberedBranch}
use Rattle.al_bodies.specs.Placing.{branch_of, function_of, has_number, in_order}
use Rattle.al_sound_rows.proofs.Outcomes.{some_is}
use Rattle.al_sound_rows.proofs.Lists.{get_behind}

-- ---- the branch of a number

record IsFound (n : ℕ) (bs : List NumberedBranch) : Type 0 where
  branch : NumberedBranch
  place : ℕ
  found : find (has_number n) bs ≡ Some branch
  stands : slice_get bs place ≡ Some branch
  number : branch.number ≡ n

one_found : (n : ℕ) (x : NumberedBranch) (bs : List NumberedBranch) (t : Bool) → has_number n x ≡ t → (t ≡ false → IsFound n bs) → IsFound n (x ∷ bs)
one_found n x bs true e rest = record {
  branch = x;
  place = zero;
  found = ap (λ t. cond t (Some x) (find (has_number n) bs)) e;
  stands = refl;
  number = eqb-true x.number n e;
}
one_found n x bs false e rest =
    let r = rest refl in
    record { branch = r.branch; place = suc r.place; found = ap (λ t. cond t (Some x) (find (has_number n) bs)) e ∙ r.found; stands = r.stands; number = r.number }

is_found : (n : ℕ) (bs : List NumberedBranch) (j : ℕ) (b : NumberedBranch) → slice_get bs j ≡ Some b → b.number ≡ n → IsFound n bs
is_found n [] j b e h = absurd (cc)
is_found n (x ∷ bs) zero b e h = one_found n x bs (has_number n x) refl (λ no_. absurd (cross (has_number n x) (eq-eqb x.number n (ap (λ (y : NumberedBranch). y.number) (some_is e) ∙ h)) no_))
  where
    cross : (t : Bool) → t ≡ true → t ≡ false → ⊥
    cross t a b = cc
is_found n (x ∷ bs) (suc j) b e h = one_found n x bs (has_number n x) refl (λ rest. is_found n bs j b e h)

-- ---- those of numbers one after the other

abbrev listed : (from a n : ℕ) → List NumberedBranch → List Function
listed from a n bs = flat_map option_to_list (map (λ i. branch_of bs (from + i)) (range_with_len a n))

abbrev AreThere : (from a n : ℕ) → List NumberedBranch → Type 0
AreThere from a n bs = (i : ℕ) → i < n → (f : Function) × (branch_of bs (from + (a + i)) ≡ Some f)

module _ (from : ℕ) (bs : List NumberedBranch) where
  at_first : (a n : ℕ) (there : AreThere from a (suc n) bs) → branch_of bs (from + a) ≡ Some (there 0 (omega arith)).0
  at_first a n there = ap (λ k. branch_of bs (from + k)) (same a) ∙ (there 0 (omega arith)).1
    where
      same : (a : ℕ) → a ≡ a + 0
      same a = omega arith

  at_rest : (a n : ℕ) → AreThere from a (suc n) bs → AreThere from (a + 1) n bs
  at_rest a n there i lt = let t = there (suc i) (omega arith) in (t.0, ap (λ k. branch_of bs (from + k)) (same a i) ∙ t.1)
    where
      same : (a i : ℕ) → a + 1 + i ≡ a + suc i
      same a i = omega arith

  listed_get : (a n : ℕ) → AreThere from a n bs → (i : ℕ) → i < n → slice_get (listed from a n bs) i ≡ branch_of bs (from + (a + i))
  listed_get a zero there i lt = absurd (omega arith)
  listed_get a (suc n) there zero lt =
      ap (λ o. slice_get (option_to_list o ++ listed from (a + 1) n bs) zero) (at_first a n there) ∙ sym (there 0 (omega arith)).1
  listed_get a (suc n) there (suc i) lt =
      ap (λ o. slice_get (option_to_list o ++ listed from (a + 1) n bs) (suc i)) (at_first a n there)
      ∙ listed_get (a + 1) n (at_rest a n there) i (omega arith) ∙ ap (λ k. branch_of bs (from + k)) (same a i)
    where
      same : (a i : ℕ) → a + 1 + i ≡ a + suc i
      same a i = omega arith

  listed_length : (a n : ℕ) → AreThere from a n bs → length (listed from a n bs) ≡ n
  listed_length a zero there = refl
  listed_length a (suc n) there =
      ap (λ o. length (option_to_list o ++ listed from (a + 1) n bs)) (at_first a n there) ∙ ap suc (listed_length (a + 1) n (at_rest a n there))

-- ---- rows

-- the branches have the numbers behind so many functions, each of them one
pub record AreNumbered (count : ℕ) (bs : List NumberedBranch) : Type 0 where
  pub every : (i : ℕ) → i < length bs → (j : ℕ) × (b : NumberedBranch) × (slice_get bs j ≡ Some b) × (b.number ≡ count + i)
  pub within : (j : ℕ) (b : NumberedBranch) → slice_get bs j ≡ Some b → (count ≤ b.number) × (b.number < count + length bs)
  pub once : (i j : ℕ) (b c : NumberedBranch) → slice_get bs i ≡ Some b → slice_get bs j ≡ Some c → b.number ≡ c.number → b ≡ c

module _ (fs : List Function) (bs : List NumberedBranch) (are : AreNumbered (length fs) bs) where
  the_branch : (j : ℕ) (b : NumberedBranch) → slice_get bs j ≡ Some b → branch_of bs b.number ≡ Some b.function
  unfolding branch_of
  the_branch j b e =
      let f = is_found b.number bs j b e refl in
      ap (option_map function_of) f.found ∙ ap (λ (x : NumberedBranch). Some x.function) (are.once f.place j f.branch b f.stands e f.number)

  all_there : AreThere (length fs) 0 (length bs) bs
  all_there i lt =
      let t = are.every i lt in
      (t.1.function, ap (branch_of bs) (same (length fs) i ∙ sym t.3) ∙ the_branch t.0 t.1 t.2)
    where
      same : (n i : ℕ) → n + (0 + i) ≡ n + i
      same n i = omega arith

  pub rows_many : length (fs ++ in_order (length fs) bs) ≡ length fs + length bs
  unfolding in_order
  rows_many = length-append fs (in_order (length fs) bs) ∙ ap (λ n. length fs + n) (listed_length (length fs) bs 0 (length bs) all_there)

  -- the row of a branch is that of its number
  pub row_of : (j : ℕ) (b : NumberedBranch) → slice_get bs j ≡ Some b → slice_get (fs ++ in_order (length fs) bs) b.number ≡ Some b.function
  unfolding in_order
  row_of j b e =
      let w = are.within j b e in
      let low = w.0 in
      let high = w.1 in
      let n : ℕ = length fs in
      let i : ℕ = b.number - n in
      let split : b.number ≡ n + i = omega arith in
      let again : n + (0 + i) ≡ b.number = omega arith in
      ap (slice_get (fs ++ in_order n bs)) split ∙ get_behind fs (in_order n bs) i ∙ listed_get n bs 0 (length bs) all_there i (omega arith) ∙ ap (branch_of bs) again ∙ the_branch j b e

  -- what stands behind the functions is the row of a branch
  pub behind_functions : (number : ℕ) (f : Function) → length fs ≤ number → slice_get (fs ++ in_order (length fs) bs) number ≡ Some f
      → (j : ℕ) × (b : NumberedBranch) × (slice_get bs j ≡ Some b) × (b.number ≡ number) × (b.function ≡ f)
  unfolding in_order
  behind_functions number f low e =
      let n : ℕ = length fs in
      let within = slice_get_within (fs ++ in_order n bs) number f e in
      let both = length-append fs (in_order n bs) in
      let long : length (in_order n bs) ≡ length bs = listed_length n bs 0 (length bs) all_there in
      let i : ℕ = number - n in
      let t = are.every i (omega arith) in
      let same : t.1.number ≡ number = (let a = t.3 in omega arith) in
      (t.0, t.1, t.2, same, some_is (sym (row_of t.0 t.1 t.2) ∙ ap (slice_get (fs ++ in_order n bs)) same ∙ e))
