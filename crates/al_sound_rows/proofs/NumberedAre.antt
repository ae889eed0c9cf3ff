-- The branches of all functions have the numbers behind these, each of them one.
use Rattle.std.proofs.Common.{◌≡◌, ℕ, zero, suc, ◌+◌, ◌<◌, ◌≤◌, false, List, [], ◌∷◌, length, take, Option, Some, refl, sym, ap, ◌∙◌, subst, arith, length-append}
use Rattle.std.specs.Prelude.{All, slice_get}
use Rattle.std.specs.List.{AllPairs, flat_map}
use Rattle.std.proofs.lemmas.List.Sums.{sum_by-cons}
use Rattle.std.proofs.lemmas.Option.{slice_get_within}
use Rattle.al_base.specs.declared.place.Place.{Place}
use Rattle.al_tree.specs.declared.item.Tree.{Tree}
use Rattle.al_rules.specs.Outcome.{same_place}
use Rattle.al_typed.specs.declared.program.Function.{Function}
use Rattle.al_environment.specs.declared.environment.Environment.{Environment}
use Rattle.al_declare.specs.declared.function.Defined.{Defined}
use Rattle.al_branches.specs.Statements.{branch_places}
use Rattle.al_branches.specs.Numbers.{branches_at, branches_if, branches_of, first, numbered, numbers_of, uses}
use Rattle.al_branches.specs.Law.{Found, IsBranch, branch_count, number_of}
use Rattle.al_branches.proofs.Ranks.{rank-below}
use Rattle.al_branches.proofs.Once as once_law
use Rattle.al_type_function.specs.declared.branch.NumberedBranch.{NumberedBranch}
use Rattle.al_type_function.specs.Functions.{in_branches}
use Rattle.al_sound_rows.specs.Rows.{BranchesAreApart}
use Rattle.al_sound_rows.proofs.Outcomes.{some_is}
use Rattle.al_sound_rows.proofs.Lists.{Along, along_length, among_lists, get_append, get_behind}
use Rattle.al_sound_rows.proofs.Trees.{places_are}
use Rattle.al_sound_rows.proofs.TypedAre.{IsNumbered, places_along}
use Rattle.al_sound_rows.proofs.NumbersAre.{Increasing, IsBehind, Run, numbers_run, run_behind, run_get, run_increases}
use Rattle.al_sound_rows.proofs.OrderIs.{AreNumbered}
use Rattle.al_sound_rows.proofs.FunctionsAre.{IsMade}
use Rattle.al_sound_rows.proofs.GathersAre.{AreMade, MadeOf, all_in, made_length, made_of}

-- ---- elements of lists

there_is : {A : Type 0} (xs : List A) (i : ℕ) → i < length xs → (x : A) × (slice_get xs i ≡ Some x)
there_is [] i lt = absurd (omega arith)
there_is (x ∷ xs) zero lt = (x, refl)
there_is (x ∷ xs) (suc i) lt = there_is xs i (omega arith)

in_lists : {A : Type 0} (xss : List (List A)) (k : ℕ) (xs : List A) (j : ℕ) (x : A) → slice_get xss k ≡ Some xs → slice_get xs j ≡ Some x
    → (i : ℕ) × (slice_get (flat_map (λ l. l) xss) i ≡ Some x)
in_lists [] k xs j x e f = absurd (cc)
in_lists (ys ∷ xss) zero xs j x e f = (j, get_append ys (flat_map (λ l. l) xss) j x (ap (λ l. slice_get l j) (some_is e) ∙ f))
in_lists (ys ∷ xss) (suc k) xs j x e f = let r = in_lists xss k xs j x e f in (length ys + r.0, get_behind ys (flat_map (λ l. l) xss) r.0 ∙ r.1)

one_of : {A : Type 0} {a b : A} (o : Option A) → o ≡ Some a → o ≡ Some b → a ≡ b
one_of o e f = some_is (sym e ∙ f)

module _ (env : Environment) (tree : Tree) (ds : List Defined) (strings : ℕ) (apart : BranchesAreApart tree.items) where
  -- ---- one function

  places_of : (k : ℕ) (f : Function) (bs : List NumberedBranch) (m : IsMade env tree ds strings k f bs) → branches_at tree.items m.is.defined.item ≡ branch_places m.body
  unfolding branches_of
  places_of k f bs m = ap branches_if m.is.stands

  apart_in : (k : ℕ) (f : Function) (bs : List NumberedBranch) (m : IsMade env tree ds strings k f bs) → AllPairs (λ (a b : Place). same_place a b ≡ false) (branch_places m.body)
  apart_in k f bs m = apart m.is.defined.item m.is.at m.is.scope m.is.base m.is.head m.body m.is.stands

  along_places : (k : ℕ) (f : Function) (bs : List NumberedBranch) (m : IsMade env tree ds strings k f bs)
      → Along (IsNumbered env tree.names (in_branches m.within)) (branch_places m.body) bs
  along_places k f bs m =
      subst (λ ats. Along (IsNumbered env tree.names (in_branches m.within)) ats bs) (sym (places_are m.body)) (places_along env tree.names (in_branches m.within) m.typed)

  -- the numbers of its branches
  abbrev first_number : (k : ℕ) → Defined → ℕ
  first_number k d = first tree.items ds d.item + uses (take k ds) d.item

  pub runs_on : (k : ℕ) (f : Function) (bs : List NumberedBranch) (m : IsMade env tree ds strings k f bs) → Run (first_number k m.is.defined) (uses ds m.is.defined.item) bs
  unfolding numbers_of
  runs_on k f bs m =
      let d : Defined = m.is.defined in
      numbers_run (in_branches m.within) (first_number k d) (uses ds d.item) (branch_places m.body) bs
      (m.is.branches ∙ ap (numbered (first_number k d) (uses ds d.item)) (places_of k f bs m)) (apart_in k f bs m) (along_places k f bs m)

  many : (k : ℕ) (f : Function) (bs : List NumberedBranch) (m : IsMade env tree ds strings k f bs) → length (branches_at tree.items m.is.defined.item) ≡ length bs
  many k f bs m =
      ap length (places_of k f bs m) ∙ along_length (IsNumbered env tree.names (in_branches m.within)) (branch_places m.body) bs (along_places k f bs m)

  is_branch : (k : ℕ) (f : Function) (bs : List NumberedBranch) (m : IsMade env tree ds strings k f bs) (j : ℕ) → j < length bs → IsBranch tree.items ds k m.is.defined j
  is_branch k f bs m j lt = let n = many k f bs m in record { is = m.is.is; has = omega arith }

  numbered_as : (k : ℕ) (f : Function) (bs : List NumberedBranch) (m : IsMade env tree ds strings k f bs) (j : ℕ) (b : NumberedBranch) → slice_get bs j ≡ Some b
      → b.number ≡ number_of tree.items ds k m.is.defined j
  numbered_as k f bs m j b e = run_get (first_number k m.is.defined) (uses ds m.is.defined.item) bs j b (runs_on k f bs m) e

  starts : (i : ℕ) → length ds ≤ first tree.items ds i
  unfolding first
  starts i = omega arith

  low : (k a u : ℕ) → length ds ≤ a → k < length ds → k < a + u
  low k a u h l = omega arith

  -- they rise, and stand behind the functions
  pub rises : (k : ℕ) (f : Function) (bs : List NumberedBranch) → IsMade env tree ds strings k f bs → Increasing bs
  rises k f bs m =
      let ranked = rank-below ds k m.is.defined m.is.is in
      run_increases (first_number k m.is.defined) (uses ds m.is.defined.item) bs (omega arith) (runs_on k f bs m)

  pub all_behind : (k : ℕ) (f : Function) (bs : List NumberedBranch) → IsMade env tree ds strings k f bs → All (IsBehind k) bs
  all_behind k f bs m =
      let within : k < length ds = slice_get_within ds k m.is.defined m.is.is in
      run_behind k (first_number k m.is.defined) (uses ds m.is.defined.item) bs (low k (first tree.items ds m.is.defined.item) (uses (take k ds) m.is.defined.item) (starts m.is.defined.item) within)
      (runs_on k f bs m)

  -- ---- all functions

  pub total : (k : ℕ) (es : List Defined) (fs : List Function) (bss : List (List NumberedBranch)) → AreMade env tree ds strings k es fs bss
      → length (all_in bss) ≡ branch_count tree.items es
  total k [] [] [] h = refl
  total k (d ∷ es) (f ∷ fs) (bs ∷ bss) h =
      let count = λ (x : Defined). length (branches_at tree.items x.item) in
      let rest = total (k + 1) es fs bss h.2 in
      let whole = length-append bs (all_in bss) in
      let sum = sum_by-cons count d es in
      let here : length bs ≡ count d = sym (many k f bs h.1) ∙ ap count (one_of (slice_get ds k) h.1.is.is h.0) in
      omega arith
  total k [] [] (bs ∷ bss) h = absurd h
  total k [] (f ∷ fs) bss h = absurd h
  total k (d ∷ es) [] bss h = absurd h
  total k (d ∷ es) (f ∷ fs) [] h = absurd h

  module _ (fs : List Function) (bss : List (List NumberedBranch)) (made : AreMade env tree ds strings 0 ds fs bss) where
    abbrev bs : List NumberedBranch
    bs = all_in bss

    -- a branch of the function of a number
    pub record IsOf (b : NumberedBranch) : Type 0 where
      pub k : ℕ
      pub row : Function
      pub row_stands : slice_get fs k ≡ Some row
      pub inner : List NumberedBranch
      pub stands : slice_get bss k ≡ Some inner
      pub is : IsMade env tree ds strings k row inner
      pub j : ℕ
      pub at : slice_get inner j ≡ Some b

    made_at : (k : ℕ) → k < length ds → MadeOf env tree ds strings 0 fs bss k
    made_at k lt = made_of env tree ds strings 0 ds fs bss k made lt

    pub is_of : (i : ℕ) (b : NumberedBranch) → slice_get bs i ≡ Some b → IsOf b
    is_of i b e =
        let a = among_lists bss i b e in
        let long = (made_length env tree ds strings 0 ds fs bss made).1 in
        let within = slice_get_within bss a.0 a.1 a.3 in
        let m = made_at a.0 (omega arith) in
        record {
          k = a.0;
          row = m.row;
          row_stands = m.stands;
          inner = m.inner;
          stands = m.inner_stands;
          is = subst (λ n. IsMade env tree ds strings n m.row m.inner) (omega arith) m.is;
          j = a.2;
          at = ap (λ l. slice_get l a.2) (one_of (slice_get bss a.0) m.inner_stands a.3) ∙ a.4;
        }

    branch_is : (b : NumberedBranch) (o : IsOf b) → IsBranch tree.items ds o.k o.is.is.defined o.j
    branch_is b o = is_branch o.k o.row o.inner o.is o.j (slice_get_within o.inner o.j b o.at)

    number_is : (b : NumberedBranch) (o : IsOf b) → b.number ≡ number_of tree.items ds o.k o.is.is.defined o.j
    number_is b o = numbered_as o.k o.row o.inner o.is o.j b o.at

    within_all : (i : ℕ) (b : NumberedBranch) → slice_get bs i ≡ Some b → (length fs ≤ b.number) × (b.number < length fs + length bs)
    within_all i b e =
        let o = is_of i b e in
        let n = number_is b o in
        let low = once_law.behind tree.items ds o.k o.is.is.defined o.j (branch_is b o) in
        let high = once_law.within tree.items ds o.k o.is.is.defined o.j (branch_is b o) in
        let count = total 0 ds fs bss made in
        let long = (made_length env tree ds strings 0 ds fs bss made).0 in
        (omega arith, omega arith)

    every_number : (i : ℕ) → i < length bs → (j : ℕ) × (b : NumberedBranch) × (slice_get bs j ≡ Some b) × (b.number ≡ length fs + i)
    every_number i lt =
        let count = total 0 ds fs bss made in
        let long = (made_length env tree ds strings 0 ds fs bss made).0 in
        let found : Found tree.items ds (length ds + i) = once_law.all tree.items ds (length ds + i) (omega arith) (omega arith) in
        let k : ℕ = found.k in
        let m = made_at k (slice_get_within ds k found.d found.branch.is) in
        let is : IsMade env tree ds strings k m.row m.inner = subst (λ n. IsMade env tree ds strings n m.row m.inner) (omega arith) m.is in
        let same : is.is.defined ≡ found.d = one_of (slice_get ds k) is.is.is found.branch.is in
        let many_are = many k m.row m.inner is in
        let has : found.j < length (branches_at tree.items is.is.defined.item) = subst (λ (d : Defined). found.j < length (branches_at tree.items d.item)) (sym same) found.branch.has in
        let b = there_is m.inner found.j (omega arith) in
        let at = in_lists bss k m.inner found.j b.0 m.inner_stands b.1 in
        let number = numbered_as k m.row m.inner is found.j b.0 b.1 in
        (at.0, b.0, at.1, number ∙ ap (λ (d : Defined). number_of tree.items ds k d found.j) same ∙ found.number ∙ ap (λ n. n + i) (sym long))

    once_each : (i j : ℕ) (b c : NumberedBranch) → slice_get bs i ≡ Some b → slice_get bs j ≡ Some c → b.number ≡ c.number → b ≡ c
    once_each i j b c e f same =
        let o = is_of i b e in
        let p = is_of j c f in
        let one = once_law.once tree.items ds o.k p.k o.is.is.defined p.is.is.defined o.j p.j (branch_is b o) (branch_is c p) (sym (number_is b o) ∙ same ∙ number_is c p) in
        let inner : o.inner ≡ p.inner = one_of (slice_get bss o.k) o.stands (ap (slice_get bss) one.0 ∙ p.stands) in
        some_is (sym o.at ∙ ap (slice_get o.inner) one.1 ∙ ap (λ l. slice_get l p.j) inner ∙ p.at)

    pub all_numbered : AreNumbered (length fs) (all_in bss)
    all_numbered = record { every = every_number; within = within_all; once = once_each }
