-- The rows of all functions of a text, and of all branches in them.
use Rattle.std.proofs.Common.{◌≡◌, ℕ, zero, suc, ◌+◌, ◌≤◌, Bool, true, false, List, [], ◌∷◌, map, length, Option, Some, None, cond, refl, sym, ap, ◌∙◌, subst, arith, length-append}
use Rattle.std.specs.Prelude.{All, find, slice_get, option_map}
use Rattle.std.specs.List.{flat_map, range_with_len}
use Rattle.std.specs.Option.{option_to_list}
use Rattle.std.proofs.lemmas.Bool.{and_parts}
use Rattle.std.proofs.lemmas.List.Elements.{All-append, All-cons, All-head, All-nil, All-push, All-tail}
use Rattle.al_tree.specs.declared.type_tree.TypeTree.{TypeTree}
use Rattle.al_tree.specs.declared.statement.Stmt.{Stmt}
use Rattle.al_tree.specs.declared.item.Head.{Head}
use Rattle.al_tree.specs.declared.item.Item.{Item}
use Rattle.al_tree.specs.declared.item.Item.TheVariants as item
use Rattle.al_tree.specs.declared.item.Tree.{Tree}
use Rattle.al_rules.specs.Outcome.{Good}
use Rattle.al_poly.specs.declared.instance.Instance.{Instance}
use Rattle.al_poly.specs.declared.names.Names.{Names}
use Rattle.al_poly.specs.Types.{names_of}
use Rattle.al_declare.specs.declared.function.Defined.{Defined}
use Rattle.al_declare.specs.Functions.{belongs, defined, defined_if, definitions, functions as functions_of, is_definition, of_instances}
use Rattle.al_typed.specs.declared.program.Function.{Function}
use Rattle.al_environment.specs.declared.numbered.Numbered.{Numbered}
use Rattle.al_environment.specs.declared.environment.Environment.{Environment}
use Rattle.al_branches.specs.Numbers.{branch_numbers}
use Rattle.al_type_function.specs.declared.branch.NumberedBranch.{NumberedBranch}
use Rattle.al_type_function.specs.declared.function.TypedFunction.{TypedFunction}
use Rattle.al_type_function.specs.Functions.{function}
use Rattle.al_bodies.specs.declared.found.Bodies.{Bodies}
use Rattle.al_sound_programs.specs.Unnamed.{Gathered}
use Rattle.al_bodies.specs.Bodies.{bodies, completed}
use Rattle.al_bodies.specs.Gathering.{first_of, gathered, next, none, numbers_for, rest_of, with_function, with_item}
use Rattle.al_bodies.specs.Placing.{branch_of, function_of, has_number, in_order}
use Rattle.al_sound_operators.proofs.Outcomes.{and_then_good}
use Rattle.al_sound_programs.specs.Functions.{BodiesAreTyped, IsSoundRow}
use Rattle.al_sound_programs.proofs.FunctionsAre.{function_is}

good_is : {A : Type 0} {a b : A} → Good a ≡ Good b → a ≡ b
good_is h = cc

some_is : {A : Type 0} {a b : A} → Some a ≡ Some b → a ≡ b
some_is h = cc

-- ---- definitions

-- a definition is of an item that has a body
abbrev pub IsDefined : List Item → Defined → Type 0
IsDefined items d = (i : Item) × (slice_get items d.item ≡ Some i) × (is_definition i ≡ true)

-- these stand in a list from a number on
abbrev StandFrom : List Item → ℕ → List Item → Type 0
StandFrom items from is = (j : ℕ) (i : Item) → slice_get is j ≡ Some i → slice_get items (from + j) ≡ Some i

one_defined : (names : Names) (items : List Item) (owner instance : Option ℕ) (from : ℕ) (i : Item) (b : Bool) → slice_get items from ≡ Some i → belongs names owner i ≡ b → All (IsDefined items) (defined_if b (defined from instance))
one_defined names items owner instance from i true at e = All-cons (IsDefined items) (defined from instance) [] (i, at, (and_parts (is_definition i) _ e).0) (All-nil (IsDefined items))
one_defined names items owner instance from i false at e = All-nil (IsDefined items)

definitions_are : (names : Names) (items : List Item) (owner instance : Option ℕ) (from : ℕ) (is : List Item) → StandFrom items from is → All (IsDefined items) (definitions names owner instance from is)
unfolding definitions
definitions_are names items owner instance from [] at = All-nil (IsDefined items)
definitions_are names items owner instance from (i ∷ is) at =
    let here : slice_get items from ≡ Some i = subst (λ n. slice_get items n ≡ Some i) (omega arith) (at 0 i refl) in
    All-append (IsDefined items) (defined_if (belongs names owner i) (defined from instance)) (definitions names owner instance (from + 1) is)
    (one_defined names items owner instance from i (belongs names owner i) here refl)
    (definitions_are names items owner instance (from + 1) is (λ j k e. subst (λ n. slice_get items n ≡ Some k) (omega arith) (at (suc j) k e)))

from_first : (items : List Item) → StandFrom items 0 items
from_first items j i e = subst (λ n. slice_get items n ≡ Some i) (omega arith) e

instances_are : (names : Names) (items : List Item) (from : ℕ) (is : List Instance) → All (IsDefined items) (of_instances names items from is)
unfolding of_instances
instances_are names items from [] = All-nil (IsDefined items)
instances_are names items from (i ∷ is) =
    All-append (IsDefined items) (definitions names (Some i.adt) (Some from) 0 items) (of_instances names items (from + 1) is)
    (definitions_are names items (Some i.adt) (Some from) 0 items (from_first items)) (instances_are names items (from + 1) is)

pub all_defined : (items : List Item) (is : List Instance) → All (IsDefined items) (functions_of items is)
unfolding functions_of
all_defined items is =
    All-append (IsDefined items) (definitions (names_of items) None None 0 items) (of_instances (names_of items) items 0 is)
    (definitions_are (names_of items) items None None 0 items (from_first items)) (instances_are (names_of items) items 0 is)

-- ---- one more function

-- what one more function adds
record Adds (env : Environment) (names : List (List ℕ)) (items : List Item) (texts k : ℕ) (d : Defined) (bs : List Numbered) (g h : Gathered) : Type 0 where
  base : TypeTree
  head : Head
  body : Stmt
  typed : TypedFunction
  is : function env names (numbers_for texts k d g) bs base head body ≡ Good typed
  adds : with_function g typed ≡ h

item_adds : (env : Environment) (names : List (List ℕ)) (items : List Item) (texts k : ℕ) (d : Defined) (bs : List Numbered) (i : Item) (g h : Gathered) → slice_get items d.item ≡ Some i
    → is_definition i ≡ true → with_item env names (numbers_for texts k d g) bs (Some i) g ≡ Good h → Adds env names items texts k d bs g h
unfolding is_definition
item_adds env names items texts k d bs (item.Function at scope base head body) g h is so e =
    let a = and_then_good (function env names (numbers_for texts k d g) bs base head body) (λ t. Good (with_function g t)) h e in
    record { base = base; head = head; body = body; typed = a.0; is = a.1; adds = good_is a.2 }
item_adds env names items texts k d bs _ g h is so e = absurd (cc)

next_adds : (env : Environment) (names : List (List ℕ)) (items : List Item) (texts k : ℕ) (d : Defined) (bs : List Numbered) (g h : Gathered) → IsDefined items d
    → next env names items texts k d bs g ≡ Good h → Adds env names items texts k d bs g h
unfolding next
next_adds env names items texts k d bs g h is e =
    item_adds env names items texts k d bs is.0 g h is.1 is.2 (subst (λ o. with_item env names (numbers_for texts k d g) bs o g ≡ Good h) is.1 e)

-- ---- all of them

-- how many there are
record Counts (n : ℕ) (g h : Gathered) : Type 0 where
  texts : length g.texts ≤ length h.texts
  functions : length g.functions + n ≤ length h.functions

one_counts : (env : Environment) (names : List (List ℕ)) (items : List Item) (texts k : ℕ) (d : Defined) (bs : List Numbered) (g h : Gathered) → Adds env names items texts k d bs g h → Counts 1 g h
one_counts env names items texts k d bs g h a =
    subst (Counts 1 g) a.adds (record {
      texts = (let n = length-append g.texts a.typed.texts in omega arith);
      functions = (let n = length-append g.functions (a.typed.function ∷ []) in omega arith);
    })

all_count : (env : Environment) (names : List (List ℕ)) (items : List Item) (texts k : ℕ) (ds : List Defined) (ns : List (List Numbered)) (g h : Gathered) → All (IsDefined items) ds
    → gathered env names items texts k ds ns g ≡ Good h → Counts (length ds) g h
unfolding gathered
all_count env names items texts k [] ns g h are e = subst (Counts 0 g) (good_is e) (record { texts = omega arith; functions = omega arith })
all_count env names items texts k (d ∷ ds) ns g h are e =
    let a = and_then_good (next env names items texts k d (first_of ns) g) (gathered env names items texts (k + 1) ds (rest_of ns)) h e in
    let one = one_counts env names items texts k d (first_of ns) g a.0 (next_adds env names items texts k d (first_of ns) g a.0 (All-head (IsDefined items) d ds are) a.1) in
    let rest = all_count env names items texts (k + 1) ds (rest_of ns) a.0 h (All-tail (IsDefined items) d ds are) a.2 in
    let few = one.texts in
    let more = rest.texts in
    let some = one.functions in
    let others = rest.functions in
    record { texts = omega arith; functions = omega arith }

module _ (env : Environment) (strings functions : ℕ) (law : BodiesAreTyped env strings functions) where
  abbrev IsRow : Function → Type 0
  IsRow = IsSoundRow env.aggregates strings functions

  abbrev IsBranchRow : NumberedBranch → Type 0
  IsBranchRow b = IsRow b.function

  record AreRows (g : Gathered) : Type 0 where
    functions_are : All IsRow g.functions
    branches_are : All IsBranchRow g.branches

  one_row : (names : List (List ℕ)) (items : List Item) (texts k : ℕ) (d : Defined) (bs : List Numbered) (g h : Gathered) → Adds env names items texts k d bs g h → texts + length h.texts ≤ strings → AreRows g → AreRows h
  one_row names items texts k d bs g h a few are =
      let count : length h.texts ≡ length g.texts + length a.typed.texts = ap (λ (x : Gathered). length x.texts) (sym a.adds) ∙ length-append g.texts a.typed.texts in
      let t = function_is env strings functions law names (numbers_for texts k d g) bs a.base a.head a.body a.typed a.is (omega arith) in
      subst AreRows a.adds (record {
        functions_are = All-push IsRow g.functions a.typed.function are.functions_are t.function;
        branches_are = All-append IsBranchRow g.branches a.typed.branches are.branches_are t.branches;
      })

  all_rows : (names : List (List ℕ)) (items : List Item) (texts k : ℕ) (ds : List Defined) (ns : List (List Numbered)) (g h : Gathered) → All (IsDefined items) ds
      → texts + length h.texts ≤ strings → AreRows g → gathered env names items texts k ds ns g ≡ Good h → AreRows h
  unfolding gathered
  all_rows names items texts k [] ns g h defined few are e = subst AreRows (good_is e) are
  all_rows names items texts k (d ∷ ds) ns g h defined few are e =
      let a = and_then_good (next env names items texts k d (first_of ns) g) (gathered env names items texts (k + 1) ds (rest_of ns)) h e in
      let rest = All-tail (IsDefined items) d ds defined in
      let grows = (all_count env names items texts (k + 1) ds (rest_of ns) a.0 h rest a.2).texts in
      let one = next_adds env names items texts k d (first_of ns) g a.0 (All-head (IsDefined items) d ds defined) a.1 in
      all_rows names items texts (k + 1) ds (rest_of ns) a.0 h rest few (one_row names items texts k d (first_of ns) g a.0 one (omega arith) are) a.2

  -- ---- branches in the order of their numbers

  found_if : (x : Bool) (b : NumberedBranch) (o : Option NumberedBranch) → IsBranchRow b → All IsRow (option_to_list (option_map function_of o))
      → All IsRow (option_to_list (option_map function_of (cond x (Some b) o)))
  found_if true b o h k = All-cons IsRow b.function [] h (All-nil IsRow)
  found_if false b o h k = k

  found_row : (n : ℕ) (bs : List NumberedBranch) → All IsBranchRow bs → All IsRow (option_to_list (option_map function_of (find (has_number n) bs)))
  found_row n [] h = All-nil IsRow
  found_row n (b ∷ bs) h = found_if (has_number n b) b (find (has_number n) bs) (All-head IsBranchRow b bs h) (found_row n bs (All-tail IsBranchRow b bs h))

  ordered : (from a n : ℕ) (bs : List NumberedBranch) → All IsBranchRow bs → All IsRow (flat_map option_to_list (map (λ i. branch_of bs (from + i)) (range_with_len a n)))
  unfolding branch_of
  ordered from a zero bs h = All-nil IsRow
  ordered from a (suc n) bs h =
      All-append IsRow (option_to_list (branch_of bs (from + a))) (flat_map option_to_list (map (λ i. branch_of bs (from + i)) (range_with_len (a + 1) n)))
      (found_row (from + a) bs h) (ordered from (a + 1) n bs h)

  in_order_rows : (from : ℕ) (bs : List NumberedBranch) → All IsBranchRow bs → All IsRow (in_order from bs)
  unfolding in_order
  in_order_rows from bs h = ordered from 0 (length bs) bs h

  pub bodies_are : (tree : Tree) (ds : List Defined) (texts : ℕ) (b : Bodies) → All (IsDefined tree.items) ds → bodies env tree ds texts ≡ Good b
      → texts + length b.texts ≤ strings → All IsRow b.functions
  unfolding bodies
  bodies_are tree ds texts b defined e few =
      let a = and_then_good (gathered env tree.names tree.items texts 0 ds (branch_numbers tree.items ds) none) (λ g. Good (completed g)) b e in
      let g : Gathered = a.0 in
      let same : completed g ≡ b = good_is a.2 in
      let rows = all_rows tree.names tree.items texts 0 ds (branch_numbers tree.items ds) none g defined (subst (λ (x : Bodies). texts + length x.texts ≤ strings) (sym same) few)
      (record { functions_are = All-nil IsRow; branches_are = All-nil IsBranchRow }) a.1 in
      subst (λ (x : Bodies). All IsRow x.functions) same
      (All-append IsRow g.functions (in_order (length g.functions) g.branches) rows.functions_are (in_order_rows (length g.functions) g.branches rows.branches_are))

-- there is a row for each definition
pub bodies_count : (env : Environment) (tree : Tree) (ds : List Defined) (texts : ℕ) (b : Bodies) → All (IsDefined tree.items) ds → bodies env tree ds texts ≡ Good b → length ds ≤ length b.functions
unfolding bodies
bodies_count env tree ds texts b defined e =
    let a = and_then_good (gathered env tree.names tree.items texts 0 ds (branch_numbers tree.items ds) none) (λ g. Good (completed g)) b e in
    let g : Gathered = a.0 in
    let c = (all_count env tree.names tree.items texts 0 ds (branch_numbers tree.items ds) none g defined a.1).functions in
    let both = length-append g.functions (in_order (length g.functions) g.branches) in
    subst (λ (x : Bodies). length ds ≤ length x.functions) (good_is a.2) (omega arith)
