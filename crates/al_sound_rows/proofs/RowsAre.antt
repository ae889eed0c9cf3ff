-- Each row of the functions of a text is a unit.
use Rattle.std.proofs.Common.{◌≡◌, ℕ, ◌+◌, ◌<◌, ◌≤◌, List, [], ◌∷◌, ◌++◌, get_or, length, Some, refl, sym, ap, ◌∙◌, subst, arith, inl, inr, length-append}
use Rattle.std.specs.Prelude.{All, Contains, slice_get}
use Rattle.std.specs.List.{flat_map}
use Rattle.std.proofs.lemmas.Bool.{cases_lt}
use Rattle.std.proofs.lemmas.Option.{slice_get-get_or, slice_get_within}
use Rattle.std.proofs.lemmas.List.Elements.{All-contains, All-contains_itself, All-head, All-tail}
use Rattle.al_tree.specs.declared.item.Tree.{Tree}
use Rattle.al_tree_walks.specs.Statements.{own_branches}
use Rattle.al_tree_walks.specs.Statements.{branches as all_branches}
use Rattle.al_typed.specs.declared.program.Function.{Function}
use Rattle.al_environment.specs.declared.environment.Environment.{Environment}
use Rattle.al_declare.specs.declared.function.Defined.{Defined}
use Rattle.al_branches.specs.Law.{branch_count}
use Rattle.al_type_function.specs.declared.branch.NumberedBranch.{NumberedBranch}
use Rattle.al_type_function.specs.Functions.{in_branches, site_of}
use Rattle.al_bodies.specs.declared.found.Bodies.{Bodies}
use Rattle.al_bodies.specs.Placing.{in_order}
use Rattle.al_sound_rows.specs.Units.{IsUnit, of_function}
use Rattle.al_sound_rows.specs.Rows.{BranchesAreApart, FunctionUnit, RowsAreUnits, Unit}
use Rattle.al_sound_rows.proofs.Outcomes.{some_is}
use Rattle.al_sound_rows.proofs.Lists.{get_append, get_contains, lists_contain}
use Rattle.al_sound_rows.proofs.Trees.{all_are, with_inner}
use Rattle.al_sound_rows.proofs.Pars.{AllPars}
use Rattle.al_sound_rows.proofs.Flows.{AreFew, HasFew, few_in}
use Rattle.al_sound_rows.proofs.OrderIs.{AreNumbered, behind_functions, row_of, rows_many}
use Rattle.al_sound_rows.proofs.FunctionsAre.{IsMade}
use Rattle.al_sound_rows.proofs.GathersAre.{AreBodies, MadeOf, all_in, are_bodies, made_length, made_of}
use Rattle.al_sound_rows.proofs.NumbersAre.{Increasing, IsBehind}
use Rattle.al_sound_rows.proofs.NumberedAre.{IsOf, all_behind, all_numbered, is_of, rises, total}
use Rattle.al_sound_rows.proofs.KnownAre.{is_known}
use Rattle.al_sound_rows.proofs.RoundsAre.{round_is}
use Rattle.al_sound_rows.proofs.ParametersAre.{parameters_are, small_is}
use Rattle.al_sound_rows.proofs.UnitsAre.{IsGood, IsInner, IsRound, IsRow, has_branches_of, units}

both_hold : {A : Type 0} (P Q : A → Type 0) (xs : List A) → All P xs → All Q xs → All (λ x. P x × Q x) xs
both_hold P Q xs h g = λ k d lt. (h k d lt, g k d lt)

-- ---- a function

module _ (env : Environment) (tree : Tree) (ds : List Defined) (strings : ℕ) (rows : List Function) (k : ℕ) (f : Function) (bs : List NumberedBranch) (m : IsMade env tree ds strings k f bs)
    (small : k ≤ 4294967295) (stands : slice_get rows k ≡ Some f) (are : All (IsRow env tree ds strings rows (in_branches m.within) m.body) bs) where
  few : HasFew m.body
  few = few_in m.body m.within.targets m.is.flow

  unit_of : IsUnit env tree ds strings rows k f m.within m.here m.body
  unit_of = of_function k f m.within m.here m.body stands m.is

  round_of_function : IsRound env tree ds strings rows (in_branches m.within) m.body (site_of m.here k) k f m.within m.body
  round_of_function = record {
    unit = unit_of;
    around = ap (λ n. n ∷ []) (small_is k small) ∙ ap (λ l. l ++ k ∷ []) (sym m.is.around);
    within = refl;
    level = ap (λ l. length l + 1) (sym m.is.outermost);
    iterators = m.is.typed.iterators;
  }

  itself_inside : All (Contains (m.body ∷ all_branches m.body)) (m.body ∷ all_branches m.body)
  itself_inside = All-contains_itself (m.body ∷ all_branches m.body)

  function_unit : Unit env tree ds strings rows k f
  function_unit = record {
    within = m.within;
    here = m.here;
    statement = m.body;
    is = unit_of;
    branches = has_branches_of env tree ds strings rows (in_branches m.within) m.body (site_of m.here k) bs k f m.within m.body round_of_function few.itself m.typed are;
    body = m.body;
    flow = m.is.flow;
    among = All-head (Contains (m.body ∷ all_branches m.body)) m.body (all_branches m.body) itself_inside;
  }

  inner_ones : All (IsInner env tree ds strings rows (in_branches m.within) m.body) (flat_map with_inner (own_branches m.body))
  inner_ones =
      subst (All (IsInner env tree ds strings rows (in_branches m.within) m.body)) (all_are m.body)
      (both_hold (Contains (m.body ∷ all_branches m.body)) (AllPars AreFew) (all_branches m.body)
      (All-tail (Contains (m.body ∷ all_branches m.body)) m.body (all_branches m.body) itself_inside) few.inner)

  branches_good : All (IsBehind k) bs → Increasing bs → All (IsGood env tree ds strings rows (in_branches m.within) m.body) bs
  branches_good behind rising =
      units env tree ds strings rows (in_branches m.within) m.body m.typed k f m.within m.body round_of_function (All-contains_itself (own_branches m.body)) inner_ones are behind rising

  -- a branch in it
  branch_unit : All (IsBehind k) bs → Increasing bs → (b : NumberedBranch) → Contains bs b → Unit env tree ds strings rows b.number b.function
  branch_unit behind rising b c =
      let good = All-contains (IsGood env tree ds strings rows (in_branches m.within) m.body) bs b (branches_good behind rising) c in
      record {
        within = in_branches m.within;
        here = good.here;
        statement = good.statement;
        is = good.unit;
        branches = good.branches;
        body = m.body;
        flow = m.is.flow;
        among = good.among;
      }

-- ---- all rows

module _ (env : Environment) (tree : Tree) (ds : List Defined) (texts : ℕ) (b : Bodies) (a : AreBodies env tree ds texts b) where
  abbrev strings : ℕ
  strings = texts + length b.texts

  made_at : (k : ℕ) → k < length ds → MadeOf env tree ds strings 0 a.rows a.branches k
  made_at k lt = made_of env tree ds strings 0 ds a.rows a.branches k a.made lt

  is_made : (k : ℕ) (lt : k < length ds) → IsMade env tree ds strings k (made_at k lt).row (made_at k lt).inner
  is_made k lt = subst (λ n. IsMade env tree ds strings n (made_at k lt).row (made_at k lt).inner) (omega arith) (made_at k lt).is

  row_stands : (k : ℕ) (f : Function) → slice_get a.rows k ≡ Some f → slice_get b.functions k ≡ Some f
  row_stands k f e = ap (λ fs. slice_get fs k) a.are ∙ get_append a.rows (in_order (length a.rows) (all_in a.branches)) k f e

  pub function_of : (number : ℕ) (d : Defined) → slice_get ds number ≡ Some d → FunctionUnit env tree ds strings b.functions number
  function_of number d e =
      let lt : number < length ds = slice_get_within ds number d e in
      let m = made_at number lt in
      let is = is_made number lt in
      record { row = m.row; within = is.within; here = is.here; body = is.body; stands = row_stands number m.row m.stands; is = is.is }

  numbered : BranchesAreApart tree.items → AreNumbered (length a.rows) (all_in a.branches)
  numbered apart = all_numbered env tree ds strings apart a.rows a.branches a.made

  pub row_count : BranchesAreApart tree.items → length b.functions ≡ length ds + branch_count tree.items ds
  row_count apart =
      let whole : length b.functions ≡ length (a.rows ++ in_order (length a.rows) (all_in a.branches)) = ap length a.are in
      let rows : length (a.rows ++ in_order (length a.rows) (all_in a.branches)) ≡ length a.rows + length (all_in a.branches) = rows_many a.rows (all_in a.branches) (numbered apart) in
      let long : length a.rows ≡ length ds = (made_length env tree ds strings 0 ds a.rows a.branches a.made).0 in
      let inner : length (all_in a.branches) ≡ branch_count tree.items ds = total env tree ds strings apart 0 ds a.rows a.branches a.made in
      whole ∙ rows ∙ ap (λ n. n + length (all_in a.branches)) long ∙ ap (λ n. length ds + n) inner

  module _ (apart : BranchesAreApart tree.items) (room : length b.functions ≤ 4294967296) where
    branch_stands : (j : ℕ) (c : NumberedBranch) → slice_get (all_in a.branches) j ≡ Some c → slice_get b.functions c.number ≡ Some c.function
    branch_stands j c e = ap (λ fs. slice_get fs c.number) a.are ∙ row_of a.rows (all_in a.branches) (numbered apart) j c e

    all_stand : All (λ (c : NumberedBranch). slice_get b.functions c.number ≡ Some c.function) (all_in a.branches)
    all_stand = λ j d lt. branch_stands j (get_or (all_in a.branches) j d) (slice_get-get_or (all_in a.branches) j d lt)

    small : (k : ℕ) → k < length ds → k ≤ 4294967295
    small k lt =
        let long = (made_length env tree ds strings 0 ds a.rows a.branches a.made).0 in
        let whole : length b.functions ≡ length (a.rows ++ in_order (length a.rows) (all_in a.branches)) = ap length a.are in
        let both = length-append a.rows (in_order (length a.rows) (all_in a.branches)) in
        omega arith

    as_function : (number : ℕ) (f : Function) → number < length ds → slice_get b.functions number ≡ Some f → Unit env tree ds strings b.functions number f
    as_function number f lt e =
        let m = made_at number lt in
        let stands = row_stands number m.row m.stands in
        subst (Unit env tree ds strings b.functions number) (some_is (sym stands ∙ e))
        (function_unit env tree ds strings b.functions number m.row m.inner (is_made number lt) (small number lt) stands
        (lists_contain (λ (c : NumberedBranch). slice_get b.functions c.number ≡ Some c.function) a.branches number m.inner all_stand m.inner_stands))

    of_one : (j : ℕ) (c : NumberedBranch) → slice_get (all_in a.branches) j ≡ Some c → Unit env tree ds strings b.functions c.number c.function
    of_one j c e =
        let o : IsOf env tree ds strings apart a.rows a.branches a.made c = is_of env tree ds strings apart a.rows a.branches a.made j c e in
        let lt : o.k < length ds = slice_get_within ds o.k o.is.is.defined o.is.is.is in
        branch_unit env tree ds strings b.functions o.k o.row o.inner o.is (small o.k lt) (row_stands o.k o.row o.row_stands)
        (lists_contain (λ (x : NumberedBranch). slice_get b.functions x.number ≡ Some x.function) a.branches o.k o.inner all_stand o.stands)
        (all_behind env tree ds strings apart o.k o.row o.inner o.is) (rises env tree ds strings apart o.k o.row o.inner o.is) c (get_contains o.inner o.j c o.at)

    as_branch : (number : ℕ) (f : Function) → length a.rows ≤ number → slice_get b.functions number ≡ Some f → Unit env tree ds strings b.functions number f
    as_branch number f low e =
        let t = behind_functions a.rows (all_in a.branches) (numbered apart) number f low (ap (λ fs. slice_get fs number) (sym a.are) ∙ e) in
        let c : NumberedBranch = t.1 in
        subst (λ n. Unit env tree ds strings b.functions n f) t.3 (subst (Unit env tree ds strings b.functions c.number) t.4 (of_one t.0 c t.2))

    pub unit_of_row : (number : ℕ) (f : Function) → slice_get b.functions number ≡ Some f → Unit env tree ds strings b.functions number f
    unit_of_row number f e =
        let long = (made_length env tree ds strings 0 ds a.rows a.branches a.made).0 in
        elim (cases_lt number (length ds)) [
          | inl lt ↦ as_function number f lt e
          | inr low ↦ as_branch number f (omega arith) e
        ]

pub rows_are_units : RowsAreUnits
rows_are_units = record {
  functions = λ env tree ds texts b e are number d is. function_of env tree ds texts b (are_bodies env tree ds texts b e are) number d is;
  parameters = parameters_are;
  known = is_known;
  rounds = round_is;
  count = λ env tree ds texts b e are apart. row_count env tree ds texts b (are_bodies env tree ds texts b e are) apart;
  units = λ env tree ds texts b e are apart room number f is. unit_of_row env tree ds texts b (are_bodies env tree ds texts b e are) apart room number f is;
}
