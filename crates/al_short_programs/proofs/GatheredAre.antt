-- The functions of a program have no string constants but those of the bodies of the items that define them.
use Rattle.std.proofs.Common.{◌≡◌, ℕ, ◌+◌, Bool, true, List, [], ◌∷◌, ◌++◌, map, flat_map, slice_get, Option, Some, None, refl, sym, ◌∙◌, subst, arith, length-append}
use Rattle.std.specs.List.{list_all}
use Rattle.std.proofs.lemmas.List.Folds.{list_all-map}
use Rattle.std.proofs.lemmas.List.{length-map}
use Rattle.al_tree.specs.declared.type_tree.TypeTree.{TypeTree}
use Rattle.al_tree.specs.declared.statement.Stmt.{Stmt}
use Rattle.al_tree.specs.declared.item.Head.{Head}
use Rattle.al_tree.specs.declared.item.Item.{Item}
use Rattle.al_tree.specs.declared.item.Item.TheVariants as item
use Rattle.al_tree.specs.declared.item.Tree.{Tree}
use Rattle.al_rules.specs.Outcome.{Good}
use Rattle.al_environment.specs.declared.numbered.Numbered.{Numbered}
use Rattle.al_environment.specs.declared.environment.Environment.{Environment}
use Rattle.al_environment.specs.declared.environment.Here.{Here}
use Rattle.al_body_parts.specs.Statements.{parts}
use Rattle.al_declare.specs.declared.function.Defined.{Defined}
use Rattle.al_type_function.specs.declared.numbers.FunctionNumbers.{FunctionNumbers}
use Rattle.al_type_function.specs.declared.function.TypedFunction.{TypedFunction}
use Rattle.al_type_function.specs.Texts.{bytes_in}
use Rattle.al_type_function.specs.Functions.{function}
use Rattle.al_branches.specs.Numbers.{branch_numbers}
use Rattle.al_bodies.specs.declared.found.Bodies.{Bodies}
use Rattle.al_bodies.specs.Gathering.{first_of, gathered, next, none, numbers_for, rest_of, with_function, with_head, with_item}
use Rattle.al_bodies.specs.Bodies.{bodies, completed}
use Rattle.al_tree_laws.specs.Texts.{Texts, body_texts, statement_texts}
use Rattle.al_short_programs.specs.Unnamed.{Gathered}
use Rattle.al_short_programs.proofs.Outcomes.{good_is, and_then_good}
use Rattle.al_short_programs.proofs.PartsAre.{parts_grow}
use Rattle.al_short_programs.proofs.FunctionsAre.{function_texts}
use Rattle.al_short_programs.proofs.DefinedAre.{at_item, of_defined}
use Rattle.al_short_programs.proofs.Lists.{Grows, both_hold, grows, one_holds, stays}

abbrev pub texts_at : Option Item → Texts
texts_at = at_item body_texts

abbrev pub defined_texts : List Item → Defined → Texts
defined_texts = of_defined body_texts

module _ (Q : List ℕ → Bool) (env : Environment) (names : List (List ℕ)) where
  body_grows : (here : Here) (body : Stmt) (xs : Texts) → Grows Q (statement_texts body) xs (xs ++ map bytes_in (parts env here body).texts)
  body_grows here body xs =
      let a = parts_grow Q env here body in
      let ts = (parts env here body).texts in
      record {
        count = omega (arith, a.count, length-append xs (map bytes_in ts), length-map ts bytes_in);
        each = λ h k. both_hold Q xs (map bytes_in ts) h (list_all-map Q bytes_in ts ∙ a.each_holds refl k);
      }

  function_grows : (g : Gathered) (body : Stmt) (t : TypedFunction) → (here : Here) × (t.texts ≡ map bytes_in (parts env here body).texts) → Grows Q (statement_texts body) g.texts (with_function g t).texts
  function_grows g body t p = subst (λ ts. Grows Q (statement_texts body) g.texts (g.texts ++ ts)) (sym p.1) (body_grows p.0 body g.texts)

  head_grows : (numbers : FunctionNumbers) (branches : List Numbered) (base : TypeTree) (head : Head) (body : Stmt) (g r : Gathered)
      → with_head env names numbers branches base head body g ≡ Good r → Grows Q (statement_texts body) g.texts r.texts
  head_grows numbers branches base head body g r h =
      let a = and_then_good (function env names numbers branches base head body) (λ t. Good (with_function g t)) r h in
      subst (λ (x : Gathered). Grows Q (statement_texts body) g.texts x.texts) (good_is (with_function g a.0) r a.2)
      (function_grows g body a.0 (function_texts env names numbers branches base head body a.0 a.1))

  nothing_grows : (g r : Gathered) → Good g ≡ Good r → Grows Q [] g.texts r.texts
  nothing_grows g r h = subst (λ (x : Gathered). Grows Q [] g.texts x.texts) (good_is g r h) (stays Q g.texts)

  item_grows : (numbers : FunctionNumbers) (branches : List Numbered) (o : Option Item) (g r : Gathered) → with_item env names numbers branches o g ≡ Good r → Grows Q (texts_at o) g.texts r.texts
  item_grows numbers branches None g r h = nothing_grows g r h
  item_grows numbers branches (Some (item.Typedef at base dcl)) g r h = nothing_grows g r h
  item_grows numbers branches (Some (item.FunctionType at base stars name ps)) g r h = nothing_grows g r h
  item_grows numbers branches (Some (item.Forward at kind name)) g r h = nothing_grows g r h
  item_grows numbers branches (Some (item.Aggregate at kind name members)) g r h = nothing_grows g r h
  item_grows numbers branches (Some (item.Adt at name ps members)) g r h = nothing_grows g r h
  item_grows numbers branches (Some (item.Enum at name list)) g r h = nothing_grows g r h
  item_grows numbers branches (Some (item.Declare at scope base list)) g r h = nothing_grows g r h
  item_grows numbers branches (Some (item.Function at scope base head body)) g r h = head_grows numbers branches base head body g r h

  module _ (items : List Item) (texts : ℕ) where
    next_grows : (k : ℕ) (d : Defined) (branches : List Numbered) (g r : Gathered) → next env names items texts k d branches g ≡ Good r → Grows Q (defined_texts items d) g.texts r.texts
    unfolding next
    next_grows k d branches g r h = item_grows (numbers_for texts k d g) branches (slice_get items d.item) g r h

    gathered_grow : (k : ℕ) (ds : List Defined) (ns : List (List Numbered)) (g r : Gathered) → gathered env names items texts k ds ns g ≡ Good r → Grows Q (flat_map (defined_texts items) ds) g.texts r.texts
    unfolding gathered
    gathered_grow k [] ns g r h = nothing_grows g r h
    gathered_grow k (d ∷ ds) ns g r h =
        let a = and_then_good (next env names items texts k d (first_of ns) g) (gathered env names items texts (k + 1) ds (rest_of ns)) r h in
        grows (next_grows k d (first_of ns) g a.0 a.1) (gathered_grow (k + 1) ds (rest_of ns) a.0 r a.2)

pub bodies_grow : (Q : List ℕ → Bool) (env : Environment) (tree : Tree) (ds : List Defined) (texts : ℕ) (b : Bodies) → bodies env tree ds texts ≡ Good b → Grows Q (flat_map (defined_texts tree.items) ds) [] b.texts
unfolding bodies
bodies_grow Q env tree ds texts b h =
    let a = and_then_good (gathered env tree.names tree.items texts 0 ds (branch_numbers tree.items ds) none) (λ g. Good (completed g)) b h in
    subst (λ (x : Bodies). Grows Q (flat_map (defined_texts tree.items) ds) [] x.texts) (good_is (completed a.0) b a.2)
    (gathered_grow Q env tree.names tree.items texts 0 ds (branch_numbers tree.items ds) none a.0 a.1)

-- each of them is one of an item
pub defined_hold : (Q : List ℕ → Bool) (items : List Item) (ds : List Defined) → list_all Q (flat_map body_texts items) ≡ true → list_all Q (flat_map (defined_texts items) ds) ≡ true
defined_hold Q items [] h = refl
defined_hold Q items (d ∷ ds) h = both_hold Q (defined_texts items d) (flat_map (defined_texts items) ds) (on (slice_get items d.item) refl) (defined_hold Q items ds h)
  where
    on : (o : Option Item) → slice_get items d.item ≡ o → list_all Q (texts_at o) ≡ true
    on None e = refl
    on (Some i) e = one_holds Q body_texts items d.item i e h
