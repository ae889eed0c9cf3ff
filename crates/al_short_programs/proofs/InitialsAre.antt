-- The initializers of a text have no string constants but those of its items, and a program has the globals of the environment.
use Rattle.std.proofs.Common.{◌≡◌, ◌++◌, ℕ, suc, ◌+◌, Bool, false, List, [], ◌∷◌, length, map, flat_map, Option, Some, None, refl, sym, ap, ◌∙◌, subst}
use Rattle.al_tree.specs.declared.item.Initializer.{Initializer, roll-Initializer, map-Initializer, fold-roll-Initializer}
use Rattle.al_tree.specs.declared.item.Initializer.TheFolds.{ind-Initializer}
use Rattle.al_tree.specs.declared.item.Initializer.TheOpen.{Initializer-F}
use Rattle.al_tree.specs.declared.item.Declarator.{Declarator}
use Rattle.al_tree.specs.declared.item.Declarator.TheVariants as declarator
use Rattle.al_tree.specs.declared.item.Item.{Item}
use Rattle.al_tree.specs.declared.item.Item.TheVariants as item
use Rattle.al_tree.specs.declared.item.Tree.{Tree}
use Rattle.al_rules.specs.Outcome.{Good}
use Rattle.al_environment.specs.declared.environment.Environment.{Environment}
use Rattle.al_environment.specs.declared.environment.Here.{Here}
use Rattle.al_environment.specs.declared.environment.Variable.{Variable}
use Rattle.al_body_parts.specs.declared.parts.Parts.{Parts}
use Rattle.al_body_parts.specs.Parts.{nothing}
use Rattle.al_initial.specs.Walks.{Starts, Gathering, each, optional, written_step, written, written_by, written_in}
use Rattle.al_initial.specs.Whole.{outside, bytes_in, globals_from, gathered, judged, of_written, starts, numbered, types_faults, whole, initial}
use Rattle.al_initial.specs.declared.globals.Initial.{Initial}
use Rattle.al_tree_laws.specs.Texts.{Texts, joined, initializer_step, initializer_texts, declarator_texts, global_texts}
use Rattle.al_tree_laws.specs.Texts as tree
use Rattle.al_short_programs.proofs.Outcomes.{good_is, and_then_good, judge_good}
use Rattle.al_short_programs.proofs.PartsAre.{Adds, none, next, expression_grows}

module _ (Q : List ℕ → Bool) (env : Environment) (here : Here) where
  abbrev Grows : Initializer → Type 0
  Grows i = (q : Parts) → Adds Q (initializer_texts i) q (written env here i q)

  abbrev Checked : Type 0
  Checked = (i : Initializer) × Grows i

  abbrev trees : List Checked → List Initializer
  trees ys = map (λ y. y.0) ys

  each_grows : (ys : List Checked) (q : Parts) → Adds Q (joined (map initializer_texts (trees ys))) q (each (λ (g : Gathering). g) (map (written env here) (trees ys)) q)
  each_grows [] q = none Q q q refl
  each_grows (y ∷ ys) q = next Q (y.1 q) (each_grows ys (written env here y.0 q))

  abbrev tree_of : Initializer-F Checked → Initializer-F Initializer
  tree_of y = map-Initializer Checked Initializer (λ c. c.0) y

  step_grows : (y : Initializer-F Checked) (q : Parts)
      → Adds Q (initializer_step (map-Initializer Initializer Texts initializer_texts (tree_of y))) q (written_step env here (map-Initializer Initializer Gathering (written env here) (tree_of y)) q)
  step_grows (Initializer-F.Value e) q = expression_grows Q env here e false q
  step_grows (Initializer-F.Braces at parts) q = each_grows parts q

  rolled_grows : (y : Initializer-F Checked) → Grows (roll-Initializer (tree_of y))
  unfolding initializer_texts written
  rolled_grows y q =
      let z = tree_of y in
      subst (λ ts. Adds Q ts q (written env here (roll-Initializer z) q)) (sym (fold-roll-Initializer Texts initializer_step z))
      (subst (λ (g : Gathering). Adds Q (initializer_step (map-Initializer Initializer Texts initializer_texts z)) q (g q)) (sym (fold-roll-Initializer Gathering (written_step env here) z)) (step_grows y q))

  initializer_grows : (i : Initializer) (q : Parts) → Adds Q (initializer_texts i) q (written env here i q)
  initializer_grows i = ind-Initializer Grows (λ x y is. subst (λ z. Grows (roll-Initializer z)) is (rolled_grows y)) i

  optional_grows : (o : Option Initializer) (q : Parts) → Adds Q (tree.optional initializer_texts o) q (optional (written env here) o q)
  optional_grows None q = none Q q q refl
  optional_grows (Some i) q = initializer_grows i q

  declarator_grows : (d : Declarator) (q : Parts) → Adds Q (declarator_texts d) q (written_by env here d q)
  declarator_grows (declarator.Global dcl value) q = optional_grows value q
  declarator_grows (declarator.Function head) q = none Q q q refl

  declarators_grow : (ds : List Declarator) (q : Parts) → Adds Q (flat_map declarator_texts ds) q (each (written_by env here) ds q)
  declarators_grow [] q = none Q q q refl
  declarators_grow (d ∷ ds) q = next Q (declarator_grows d q) (declarators_grow ds (written_by env here d q))

  item_grows : (i : Item) (q : Parts) → Adds Q (global_texts i) q (written_in env here i q)
  unfolding written_in
  item_grows (item.Typedef at base dcl) q = none Q q q refl
  item_grows (item.FunctionType at base stars name ps) q = none Q q q refl
  item_grows (item.Forward at kind name) q = none Q q q refl
  item_grows (item.Aggregate at kind name members) q = none Q q q refl
  item_grows (item.Adt at name ps members) q = none Q q q refl
  item_grows (item.Enum at name list) q = none Q q q refl
  item_grows (item.Declare at scope base list) q = declarators_grow list q
  item_grows (item.Function at scope base head body) q = none Q q q refl

  items_grow : (is : List Item) (q : Parts) → Adds Q (flat_map global_texts is) q (each (written_in env here) is q)
  items_grow [] q = none Q q q refl
  items_grow (i ∷ is) q = next Q (item_grows i q) (items_grow is (written_in env here i q))

pub gathered_grows : (Q : List ℕ → Bool) (env : Environment) (tree : Tree) → Adds Q (flat_map global_texts tree.items) nothing (gathered env tree)
gathered_grows Q env tree = items_grow Q env (outside []) tree.items nothing

globals_same : (env : Environment) (tree : Tree) (s : Starts) (k : ℕ) (vs : List Variable) → length (globals_from env tree s k vs) ≡ length vs
unfolding globals_from
globals_same env tree s k [] = refl
globals_same env tree s k (v ∷ vs) = ap (λ n. suc n) (globals_same env tree s (k + 1) vs)

-- the globals and the string constants of what initializers give
pub record IsInitial (env : Environment) (tree : Tree) (i : Initial) : Type 0 where
  pub globals : length i.globals ≡ length env.globals
  pub texts : i.texts ≡ map bytes_in (gathered env tree).texts

pub initial_is : (env : Environment) (tree : Tree) (i : Initial) → initial env tree ≡ Good i → IsInitial env tree i
unfolding initial
initial_is env tree i h =
    let a = and_then_good (judged env.aggregates (gathered env tree)) (of_written env tree) i h in
    let w = judge_good ((gathered env tree).faults ++ types_faults env.aggregates (gathered env tree).types) (record { texts = (gathered env tree).texts; types = (gathered env tree).types }) a.0 a.1 in
    let b = and_then_good (starts env tree (numbered 0 a.0.texts)) (λ s. Good (whole env tree a.0 s)) i a.2 in
    let e = good_is (whole env tree a.0 b.0) i b.2 in
    record {
      globals = sym (ap (λ (x : Initial). length x.globals) e) ∙ globals_same env tree b.0 0 env.globals;
      texts = sym (ap (λ (x : Initial). x.texts) e) ∙ sym (ap (λ (x : _). map bytes_in x.texts) w);
    }
