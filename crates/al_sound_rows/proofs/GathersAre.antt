-- All functions of a text, each with the branches in it.
use Rattle.std.proofs.Common.{◌≡◌, ℕ, zero, suc, ◌+◌, ◌<◌, ◌≤◌, true, List, [], ◌∷◌, ◌++◌, length, Some, refl, sym, ap, ◌∙◌, subst, arith, append_assoc, length-append}
use Rattle.std.specs.Prelude.{slice_get, ⊤}
use Rattle.std.specs.List.{flat_map}
use Rattle.std.proofs.lemmas.List.{append-nil}
use Rattle.std.proofs.lemmas.List.Elements.{All-head, All-tail}
use Rattle.al_tree.specs.declared.type_tree.TypeTree.{TypeTree}
use Rattle.al_tree.specs.declared.statement.Stmt.{Stmt}
use Rattle.al_tree.specs.declared.item.Head.{Head}
use Rattle.al_tree.specs.declared.item.Item.{Item}
use Rattle.al_tree.specs.declared.item.Item.TheVariants as item
use Rattle.al_tree.specs.declared.item.Tree.{Tree}
use Rattle.al_rules.specs.Outcome.{Good}
use Rattle.al_typed.specs.Capped.{capped}
use Rattle.al_typed.specs.declared.program.Function.{Function}
use Rattle.al_environment.specs.declared.numbered.Numbered.{Numbered}
use Rattle.al_environment.specs.declared.environment.Environment.{Environment}
use Rattle.al_declare.specs.declared.function.Defined.{Defined}
use Rattle.al_declare.specs.Functions.{is_definition}
use Rattle.al_branches.specs.Numbers.{branch_numbers, numbers_from, numbers_of}
use Rattle.al_type_function.specs.declared.branch.NumberedBranch.{NumberedBranch}
use Rattle.al_type_function.specs.declared.function.TypedFunction.{TypedFunction}
use Rattle.al_type_function.specs.Functions.{function}
use Rattle.al_bodies.specs.declared.found.Bodies.{Bodies}
use Rattle.al_bodies.specs.Bodies.{bodies, completed}
use Rattle.al_bodies.specs.Gathering.{first_of, gathered, next, none, numbers_for, rest_of, with_function, with_item}
use Rattle.al_bodies.specs.Placing.{in_order}
use Rattle.al_sound_rows.specs.Unnamed.{Gathered}
use Rattle.al_sound_rows.specs.Rows.{HaveBodies}
use Rattle.al_sound_rows.proofs.Outcomes.{and_then_good, good_is}
use Rattle.al_sound_rows.proofs.FunctionsAre.{IsDefinedBy, IsMade, function_made}

abbrev pub all_in : List (List NumberedBranch) → List NumberedBranch
all_in bss = flat_map (λ bs. bs) bss

abbrev HasBody : List Item → Defined → Type 0
HasBody items d = (i : Item) × (slice_get items d.item ≡ Some i) × (is_definition i ≡ true)

module _ (env : Environment) (tree : Tree) (all : List Defined) (strings : ℕ) where
  -- these functions with these branches are what is made of these definitions, of which the first has the number k
  abbrev pub AreMade : ℕ → List Defined → List Function → List (List NumberedBranch) → Type 0
  AreMade k [] [] [] = ⊤
  AreMade k (d ∷ ds) (f ∷ fs) (bs ∷ bss) = (slice_get all k ≡ Some d) × IsMade env tree all strings k f bs × AreMade (k + 1) ds fs bss
  AreMade k [] [] (bs ∷ bss) = ⊥
  AreMade k [] (f ∷ fs) bss = ⊥
  AreMade k (d ∷ ds) [] bss = ⊥
  AreMade k (d ∷ ds) (f ∷ fs) [] = ⊥

  -- ---- one of them

  pub record MadeOf (k : ℕ) (fs : List Function) (bss : List (List NumberedBranch)) (i : ℕ) : Type 0 where
    pub row : Function
    pub inner : List NumberedBranch
    pub stands : slice_get fs i ≡ Some row
    pub inner_stands : slice_get bss i ≡ Some inner
    pub is : IsMade env tree all strings (k + i) row inner

  pub made_of : (k : ℕ) (ds : List Defined) (fs : List Function) (bss : List (List NumberedBranch)) (i : ℕ) → AreMade k ds fs bss → i < length ds → MadeOf k fs bss i
  made_of k [] fs bss i h lt = absurd (omega arith)
  made_of k (d ∷ ds) (f ∷ fs) (bs ∷ bss) zero h lt = record {
    row = f;
    inner = bs;
    stands = refl;
    inner_stands = refl;
    is = subst (λ n. IsMade env tree all strings n f bs) (omega arith) h.1;
  }
  made_of k (d ∷ ds) (f ∷ fs) (bs ∷ bss) (suc i) h lt =
      let r = made_of (k + 1) ds fs bss i h.2 (omega arith) in
      record {
        row = r.row;
        inner = r.inner;
        stands = r.stands;
        inner_stands = r.inner_stands;
        is = subst (λ n. IsMade env tree all strings n r.row r.inner) (omega arith) r.is;
      }
  made_of k (d ∷ ds) [] bss i h lt = absurd h
  made_of k (d ∷ ds) (f ∷ fs) [] i h lt = absurd h

  pub made_length : (k : ℕ) (ds : List Defined) (fs : List Function) (bss : List (List NumberedBranch)) → AreMade k ds fs bss → (length fs ≡ length ds) × (length bss ≡ length ds)
  made_length k [] [] [] h = (refl, refl)
  made_length k (d ∷ ds) (f ∷ fs) (bs ∷ bss) h = let r = made_length (k + 1) ds fs bss h.2 in (ap suc r.0, ap suc r.1)
  made_length k [] [] (bs ∷ bss) h = absurd h
  made_length k [] (f ∷ fs) bss h = absurd h
  made_length k (d ∷ ds) [] bss h = absurd h
  made_length k (d ∷ ds) (f ∷ fs) [] h = absurd h

module _ (env : Environment) (tree : Tree) (all : List Defined) (texts : ℕ) where
  -- ---- one more function

  -- what one more function adds
  record Adds (k : ℕ) (d : Defined) (ns : List Numbered) (g h : Gathered) : Type 0 where
    base : TypeTree
    head : Head
    body : Stmt
    typed : TypedFunction
    by : slice_get all k ≡ Some d → IsDefinedBy tree all k d base head body
    is : function env tree.names (numbers_for texts k d g) ns base head body ≡ Good typed
    adds : with_function g typed ≡ h

  item_adds : (k : ℕ) (d : Defined) (ns : List Numbered) (i : Item) (g h : Gathered) → slice_get tree.items d.item ≡ Some i → is_definition i ≡ true
      → with_item env tree.names (numbers_for texts k d g) ns (Some i) g ≡ Good h → Adds k d ns g h
  unfolding is_definition
  item_adds k d ns (item.Function at scope base head body) g h is so e =
      let a = and_then_good (function env tree.names (numbers_for texts k d g) ns base head body) (λ t. Good (with_function g t)) h e in
      record {
        base = base;
        head = head;
        body = body;
        typed = a.0;
        by = λ there. record { defined = there; at = at; scope = scope; item = is };
        is = a.1;
        adds = good_is a.2;
      }
  item_adds k d ns _ g h is so e = absurd (cc)

  next_adds : (k : ℕ) (d : Defined) (ns : List Numbered) (g h : Gathered) → HasBody tree.items d → next env tree.names tree.items texts k d ns g ≡ Good h → Adds k d ns g h
  unfolding next
  next_adds k d ns g h is e =
      item_adds k d ns is.0 g h is.1 is.2 (subst (λ o. with_item env tree.names (numbers_for texts k d g) ns o g ≡ Good h) is.1 e)

  -- ---- all of them

  texts_grow : (k : ℕ) (ds : List Defined) (ns : List (List Numbered)) (g h : Gathered) → HaveBodies tree.items ds → gathered env tree.names tree.items texts k ds ns g ≡ Good h
      → length g.texts ≤ length h.texts
  unfolding gathered
  texts_grow k [] ns g h are e = subst (λ (x : Gathered). length g.texts ≤ length x.texts) (good_is e) (omega arith)
  texts_grow k (d ∷ ds) ns g h are e =
      let a = and_then_good (next env tree.names tree.items texts k d (first_of ns) g) (gathered env tree.names tree.items texts (k + 1) ds (rest_of ns)) h e in
      let one = next_adds k d (first_of ns) g a.0 (All-head (HasBody tree.items) d ds are) a.1 in
      let made : length a.0.texts ≡ length g.texts + length one.typed.texts = ap (λ (x : Gathered). length x.texts) (sym one.adds) ∙ length-append g.texts one.typed.texts in
      let rest = texts_grow (k + 1) ds (rest_of ns) a.0 h (All-tail (HasBody tree.items) d ds are) a.2 in
      omega arith

  module _ (strings : ℕ) where
    pub record Gathers (k : ℕ) (ds : List Defined) (g h : Gathered) : Type 0 where
      pub rows : List Function
      pub branches : List (List NumberedBranch)
      pub functions_are : h.functions ≡ g.functions ++ rows
      pub branches_are : h.branches ≡ g.branches ++ all_in branches
      pub made : AreMade env tree all strings k ds rows branches

    all_gather : (k : ℕ) (ds : List Defined) (g h : Gathered) → HaveBodies tree.items ds → ((i : ℕ) (d : Defined) → slice_get ds i ≡ Some d → slice_get all (k + i) ≡ Some d)
        → texts + length h.texts ≤ strings → gathered env tree.names tree.items texts k ds (numbers_from tree.items all k ds) g ≡ Good h → Gathers k ds g h
    unfolding gathered numbers_from
    all_gather k [] g h are at few e =
        subst (Gathers k [] g) (good_is e)
        (record { rows = []; branches = []; functions_are = sym (append-nil g.functions); branches_are = sym (append-nil g.branches); made = tt })
    all_gather k (d ∷ ds) g h are at few e =
        let ns = numbers_of tree.items all k d in
        let rest_ns = numbers_from tree.items all (k + 1) ds in
        let a = and_then_good (next env tree.names tree.items texts k d ns g) (gathered env tree.names tree.items texts (k + 1) ds rest_ns) h e in
        let one = next_adds k d ns g a.0 (All-head (HasBody tree.items) d ds are) a.1 in
        let t : TypedFunction = one.typed in
        let grown : length a.0.texts ≡ length g.texts + length t.texts = ap (λ (x : Gathered). length x.texts) (sym one.adds) ∙ length-append g.texts t.texts in
        let grows = texts_grow (k + 1) ds rest_ns a.0 h (All-tail (HasBody tree.items) d ds are) a.2 in
        let there : slice_get all k ≡ Some d = subst (λ n. slice_get all n ≡ Some d) (omega arith) (at 0 d refl) in
        let made = function_made env tree all strings k d (capped (texts + length g.texts)) one.base one.head one.body t (one.by there) one.is (omega arith) in
        let rest = all_gather (k + 1) ds a.0 h (All-tail (HasBody tree.items) d ds are)
        (λ i b q. subst (λ n. slice_get all n ≡ Some b) (omega arith) (at (suc i) b q)) few a.2 in
        record {
          rows = t.function ∷ rest.rows;
          branches = t.branches ∷ rest.branches;
          functions_are = rest.functions_are ∙ ap (λ (x : Gathered). x.functions ++ rest.rows) (sym one.adds) ∙ append_assoc g.functions (t.function ∷ []) rest.rows;
          branches_are = rest.branches_are ∙ ap (λ (x : Gathered). x.branches ++ all_in rest.branches) (sym one.adds) ∙ append_assoc g.branches t.branches (all_in rest.branches);
          made = (there, made, rest.made);
        }

-- ---- the functions of a text

-- the rows of a text: those of its functions, and behind them the branches in them by their numbers
pub record AreBodies (env : Environment) (tree : Tree) (ds : List Defined) (texts : ℕ) (b : Bodies) : Type 0 where
  pub rows : List Function
  pub branches : List (List NumberedBranch)
  pub made : AreMade env tree ds (texts + length b.texts) 0 ds rows branches
  pub are : b.functions ≡ rows ++ in_order (length rows) (all_in branches)

pub are_bodies : (env : Environment) (tree : Tree) (ds : List Defined) (texts : ℕ) (b : Bodies) → bodies env tree ds texts ≡ Good b → HaveBodies tree.items ds → AreBodies env tree ds texts b
unfolding bodies branch_numbers
are_bodies env tree ds texts b e are =
    let a = and_then_good (gathered env tree.names tree.items texts 0 ds (branch_numbers tree.items ds) none) (λ g. Good (completed g)) b e in
    let g : Gathered = a.0 in
    let same : completed g ≡ b = good_is a.2 in
    let h = all_gather env tree ds texts (texts + length g.texts) 0 ds none g are (λ i d q. subst (λ n. slice_get ds n ≡ Some d) (omega arith) q) (omega arith) a.1 in
    subst (AreBodies env tree ds texts) same (record {
      rows = h.rows;
      branches = h.branches;
      made = h.made;
      are = ap (λ fs. fs ++ in_order (length g.functions) g.branches) h.functions_are
          ∙ ap (λ fs. h.rows ++ in_order (length fs) g.branches) h.functions_are ∙ ap (λ bs. h.rows ++ in_order (length h.rows) bs) h.branches_are;
    })
