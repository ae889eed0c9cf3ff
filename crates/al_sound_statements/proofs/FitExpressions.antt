-- Expressions are fit where the types are sound that are written in them, and their names reach what they stand for.
use Rattle.std.proofs.Common.{◌≡◌, ℕ, zero, suc, ◌<◌, List, [], ◌∷◌, ◌++◌, map, Some, refl, sym, subst, ◌⊎◌, inl, inr, arith}
use Rattle.std.specs.Prelude.{Contains}
use Rattle.std.proofs.lemmas.List.Elements.{Contains-append_cases, Contains-append_left, Contains-append_right}
use Rattle.al_base.specs.declared.place.Place.{Place}
use Rattle.al_tree.specs.declared.expression.UnaryOp.{UnaryOp}
use Rattle.al_tree.specs.declared.expression.UnaryOp.TheVariants as prefix
use Rattle.al_tree.specs.declared.expression.Expr.{Expr, fold-roll-Expr, map-Expr, out-Expr, roll-Expr}
use Rattle.al_tree.specs.declared.expression.Expr.TheViews.{out-roll-Expr}
use Rattle.al_tree.specs.declared.expression.Expr.TheFolds.{ind-Expr}
use Rattle.al_tree.specs.declared.expression.Expr.TheOpen.{Expr-F}
use Rattle.al_tree.specs.declared.type_tree.TypeTree.{TypeTree}
use Rattle.al_tree_walks.specs.Expressions.{Addressed, addressed, addressed_places, addressed_step, all_places, behind, each_addressed, name_places, names_step}
use Rattle.al_typed.specs.WellTyped.{Scope, strings_of}
use Rattle.al_environment.specs.declared.environment.Environment.{Environment}
use Rattle.al_environment.specs.declared.environment.Here.{Here}
use Rattle.al_environment.specs.Firsts.{number_at}
use Rattle.al_type_expr.specs.Nodes.{Node, node}
use Rattle.al_sound_expressions.specs.Expressions.{AreFit, EachPart, Every, IsFit, IsSoundWritten}
use Rattle.al_sound_statements.specs.Statements.{IsFitExpr}
use Rattle.al_sound_statements.specs.Bodies.{all_types, expr_types, expr_types_step}
use Rattle.al_sound_statements.specs.Named.{IsReachedAt, IsSharedAt}
use Rattle.al_sound_statements.proofs.AddressedNames.{address_shared}
use Rattle.al_sound_statements.proofs.StatementLists.{every_also, every_split}

-- ---- lists of trees

no_tree : {A X : Type 0} (x : A) → Contains [] x → X
no_tree x c = absurd (omega (arith, c.1))

one_of : {A : Type 0} (x y : A) (xs : List A) → Contains (x ∷ xs) y → (x ≡ y) ⊎ Contains xs y
one_of x y xs (zero, lt, q) = inl q
one_of x y xs (suc k, lt, q) = inr (k, omega (arith, lt), q)

pub first_of : {A : Type 0} (x : A) (xs : List A) → Contains (x ∷ xs) x
first_of x xs = Contains-append_left (x ∷ []) xs x (0, omega arith, refl)

each_part_also : {A : Type 0} (P Q : A → Type 0) → ((a : A) → P a → Q a) → (z : Expr-F A) → EachPart P z → EachPart Q z
each_part_also P Q f (Expr-F.Number at value) h = tt
each_part_also P Q f (Expr-F.Char at value) h = tt
each_part_also P Q f (Expr-F.Text at bytes) h = tt
each_part_also P Q f (Expr-F.Nil at) h = tt
each_part_also P Q f (Expr-F.Name at name) h = tt
each_part_also P Q f (Expr-F.Tuple at parts) h = every_also P Q f parts h
each_part_also P Q f (Expr-F.Unary at op a) h = f a h
each_part_also P Q f (Expr-F.Cast at to a) h = f a h
each_part_also P Q f (Expr-F.SizeofType at of) h = tt
each_part_also P Q f (Expr-F.SizeofValue at a) h = f a h
each_part_also P Q f (Expr-F.Index at a b) h = (f a h.0, f b h.1)
each_part_also P Q f (Expr-F.Member at a how name) h = f a h
each_part_also P Q f (Expr-F.Call at a xs) h = (f a h.0, every_also P Q f xs h.1)
each_part_also P Q f (Expr-F.Postfix at op a) h = f a h
each_part_also P Q f (Expr-F.Binary at op a b) h = (f a h.0, f b h.1)
each_part_also P Q f (Expr-F.Iterator at a b) h = (f a h.0, f b h.1)
each_part_also P Q f (Expr-F.Assign at op a b) h = (f a h.0, f b h.1)
each_part_also P Q f (Expr-F.Sequence at parts) h = every_also P Q f parts h

module _ (s : Scope) (env : Environment) (here : Here) where
  -- ---- trees that are fit

  abbrev pub Fit : Expr → Type 0
  Fit = IsFitExpr s env here

  abbrev IsFitNode : Expr-F Expr → Type 0
  IsFitNode z = IsFit s env here (map-Expr Expr Node (node env here) z)

  none_fit : AreFit s env here []
  none_fit = record { parts = λ e c. no_tree e c; fit = λ e c. no_tree e c }

  both_fit : (xs ys : List Expr) → AreFit s env here xs → AreFit s env here ys → AreFit s env here (xs ++ ys)
  both_fit xs ys h k = record { parts = λ e c. parts_in e (Contains-append_cases xs ys e c); fit = λ e c. fit_in e (Contains-append_cases xs ys e c) }
    where
      parts_in : (e : Expr) → Contains xs e ⊎ Contains ys e → EachPart (Contains (xs ++ ys)) (out-Expr e)
      parts_in e (inl c) = each_part_also (Contains xs) (Contains (xs ++ ys)) (λ a. Contains-append_left xs ys a) (out-Expr e) (h.parts e c)
      parts_in e (inr c) = each_part_also (Contains ys) (Contains (xs ++ ys)) (λ a. Contains-append_right xs ys a) (out-Expr e) (k.parts e c)

      fit_in : (e : Expr) → Contains xs e ⊎ Contains ys e → IsFitNode (out-Expr e)
      fit_in e (inl c) = h.fit e c
      fit_in e (inr c) = k.fit e c

  one_more_fit : (x : Expr) (xs : List Expr) → EachPart (Contains xs) (out-Expr x) → IsFitNode (out-Expr x) → AreFit s env here xs → AreFit s env here (x ∷ xs)
  one_more_fit x xs p f h = record { parts = λ e c. parts_in e (one_of x e xs c); fit = λ e c. fit_in e (one_of x e xs c) }
    where
      also_in : (a : Expr) → Contains xs a → Contains (x ∷ xs) a
      also_in a c = Contains-append_right (x ∷ []) xs a c

      parts_in : (e : Expr) → (x ≡ e) ⊎ Contains xs e → EachPart (Contains (x ∷ xs)) (out-Expr e)
      parts_in e (inl q) = subst (λ (a : Expr). EachPart (Contains (x ∷ xs)) (out-Expr a)) q (each_part_also (Contains xs) (Contains (x ∷ xs)) also_in (out-Expr x) p)
      parts_in e (inr c) = each_part_also (Contains xs) (Contains (x ∷ xs)) also_in (out-Expr e) (h.parts e c)

      fit_in : (e : Expr) → (x ≡ e) ⊎ Contains xs e → IsFitNode (out-Expr e)
      fit_in e (inl q) = subst (λ (a : Expr). IsFitNode (out-Expr a)) q f
      fit_in e (inr c) = h.fit e c

  -- fit trees that have all of these
  abbrev Have : ((Expr → Type 0) → Type 0) → Type 0
  Have Parts = (trees : List Expr) × (AreFit s env here trees × Parts (Contains trees))

  gathered : (es : List Expr) → Every Fit es → Have (λ P. Every P es)
  gathered [] h = ([], (none_fit, tt))
  gathered (e ∷ es) h =
      let rest = gathered es h.1 in (
        h.0.trees ++ rest.0,
        (
          both_fit h.0.trees rest.0 h.0.fit rest.1.0,
          (Contains-append_left h.0.trees rest.0 e h.0.among, every_also (Contains rest.0) (Contains (h.0.trees ++ rest.0)) (λ a. Contains-append_right h.0.trees rest.0 a) es rest.1.1),
        ),
      )

  one_part : (a : Expr) → Fit a → Have (λ P. P a)
  one_part a h = (h.trees, (h.fit, h.among))

  two_parts : (a b : Expr) → Fit a → Fit b → Have (λ P. P a × P b)
  two_parts a b h k = let g = gathered (a ∷ b ∷ []) (h, (k, tt)) in (g.0, (g.1.0, (g.1.1.0, g.1.1.1.0)))

  parts_fit : (z : Expr-F Expr) → EachPart Fit z → Have (λ P. EachPart P z)
  parts_fit (Expr-F.Number at value) h = ([], (none_fit, tt))
  parts_fit (Expr-F.Char at value) h = ([], (none_fit, tt))
  parts_fit (Expr-F.Text at bytes) h = ([], (none_fit, tt))
  parts_fit (Expr-F.Nil at) h = ([], (none_fit, tt))
  parts_fit (Expr-F.Name at name) h = ([], (none_fit, tt))
  parts_fit (Expr-F.Tuple at parts) h = gathered parts h
  parts_fit (Expr-F.Unary at op a) h = one_part a h
  parts_fit (Expr-F.Cast at to a) h = one_part a h
  parts_fit (Expr-F.SizeofType at of) h = ([], (none_fit, tt))
  parts_fit (Expr-F.SizeofValue at a) h = one_part a h
  parts_fit (Expr-F.Index at a b) h = two_parts a b h.0 h.1
  parts_fit (Expr-F.Member at a how name) h = one_part a h
  parts_fit (Expr-F.Call at f xs) h = gathered (f ∷ xs) h
  parts_fit (Expr-F.Postfix at op a) h = one_part a h
  parts_fit (Expr-F.Binary at op a b) h = two_parts a b h.0 h.1
  parts_fit (Expr-F.Iterator at a b) h = two_parts a b h.0 h.1
  parts_fit (Expr-F.Assign at op a b) h = two_parts a b h.0 h.1
  parts_fit (Expr-F.Sequence at parts) h = gathered parts h

  -- ---- what is asked of nodes

  -- of strings and iterators
  pub record AreThere : Type 0 where
    pub texts : (at : Place) (n : ℕ) → number_at here.texts at ≡ Some n → n < strings_of s.names
    pub iterators : (at : Place) (n : ℕ) → number_at here.iterators at ≡ Some n → n < s.iterators

  abbrev Sound : TypeTree → Type 0
  Sound = IsSoundWritten s env here

  abbrev Reached : Place → Type 0
  Reached = IsReachedAt s env here

  abbrev Shared : Place → Type 0
  Shared = IsSharedAt s env here

  -- of written types, of names, and of names behind `&`
  abbrev pub Has : List TypeTree → List Place → List Place → Type 0
  Has ts ns ps = Every Sound ts × (Every Reached ns × Every Shared ps)

  split : (ts us : List TypeTree) (ns ms ps qs : List Place) → Has (ts ++ us) (ns ++ ms) (ps ++ qs) → Has ts ns ps × Has us ms qs
  split ts us ns ms ps qs h =
      let t = every_split Sound ts us h.0 in
      let n = every_split Reached ns ms h.1.0 in
      let p = every_split Shared ps qs h.1.1 in
      ((t.0, (n.0, p.0)), (t.1, (n.1, p.1)))

  -- of an expression
  abbrev pub HasAll : Expr → Type 0
  HasAll e = Has (expr_types e) (name_places e) (addressed_places e)

  -- of all names at once
  pub anywhere : ((at : Place) → Reached at) → ((at : Place) → Shared at) → (e : Expr) → Every Sound (expr_types e) → HasAll e
  anywhere f g e h = (h, (each Reached f (name_places e), each Shared g (addressed_places e)))
    where
      each : (P : Place → Type 0) → ((at : Place) → P at) → (ats : List Place) → Every P ats
      each P f [] = tt
      each P f (at ∷ ats) = (f at, each P f ats)

  module _ (there : AreThere) where
    unary_fit : (at : Place) (op : UnaryOp) (a : Expr) → Every Shared (behind op (addressed a).name) → IsFitNode (Expr-F.Unary at op a)
    unary_fit at prefix.Plus a h = tt
    unary_fit at prefix.Minus a h = tt
    unary_fit at prefix.Not a h = tt
    unary_fit at prefix.Complement a h = tt
    unary_fit at prefix.Indirect a h = tt
    unary_fit at prefix.Address a h = address_shared s env here a h
    unary_fit at prefix.Increment a h = tt
    unary_fit at prefix.Decrement a h = tt
    unary_fit at prefix.Receive a h = tt
    unary_fit at prefix.CanReceive a h = tt
    unary_fit at prefix.Zerox a h = tt

    abbrev HasNode : Expr-F Expr → Type 0
    HasNode z =
        Has (expr_types_step (map-Expr Expr (List TypeTree) expr_types z)) (names_step (map-Expr Expr (List Place) name_places z))
        (addressed_step (map-Expr Expr Addressed addressed z)).places

    node_fit : (z : Expr-F Expr) → HasNode z → IsFitNode z
    node_fit (Expr-F.Number at value) h = tt
    node_fit (Expr-F.Char at value) h = tt
    node_fit (Expr-F.Text at bytes) h = there.texts at
    node_fit (Expr-F.Nil at) h = tt
    node_fit (Expr-F.Name at name) h = h.1.0.0
    node_fit (Expr-F.Tuple at parts) h = tt
    node_fit (Expr-F.Unary at op a) h = unary_fit at op a (every_split Shared (behind op (addressed a).name) (addressed_places a) h.1.1).0
    node_fit (Expr-F.Cast at to a) h = h.0.0
    node_fit (Expr-F.SizeofType at of) h = h.0.0
    node_fit (Expr-F.SizeofValue at a) h = tt
    node_fit (Expr-F.Index at a b) h = tt
    node_fit (Expr-F.Member at a how name) h = tt
    node_fit (Expr-F.Call at f xs) h = tt
    node_fit (Expr-F.Postfix at op a) h = tt
    node_fit (Expr-F.Binary at op a b) h = tt
    node_fit (Expr-F.Iterator at a b) h = there.iterators at
    node_fit (Expr-F.Assign at op a b) h = tt
    node_fit (Expr-F.Sequence at parts) h = tt

    -- ---- trees

    abbrev Holds : Expr → Type 0
    Holds e = HasAll e → Fit e

    abbrev Checked : Type 0
    Checked = (e : Expr) × Holds e

    abbrev trees_of : List Checked → List Expr
    trees_of ys = map (λ y. y.0) ys

    abbrev tree_of : Expr-F Checked → Expr-F Expr
    tree_of y = map-Expr Checked Expr (λ c. c.0) y

    abbrev HasEach : List Expr → Type 0
    HasEach es = Has (all_types (map expr_types es)) (all_places (map name_places es)) (each_addressed (map addressed es))

    every_fit : (ys : List Checked) → HasEach (trees_of ys) → Every Fit (trees_of ys)
    every_fit [] h = tt
    every_fit (y ∷ ys) h =
        let es = trees_of ys in
        let b = split (expr_types y.0) (all_types (map expr_types es)) (name_places y.0) (all_places (map name_places es)) (addressed_places y.0) (each_addressed (map addressed es)) h in
        (y.1 b.0, every_fit ys b.1)

    both_parts : (a b : Checked) → Has (expr_types a.0 ++ expr_types b.0) (name_places a.0 ++ name_places b.0) (addressed_places a.0 ++ addressed_places b.0) → Fit a.0 × Fit b.0
    both_parts a b h = let p = split (expr_types a.0) (expr_types b.0) (name_places a.0) (name_places b.0) (addressed_places a.0) (addressed_places b.0) h in (a.1 p.0, b.1 p.1)

    each_fit : (y : Expr-F Checked) → HasNode (tree_of y) → EachPart Fit (tree_of y)
    each_fit (Expr-F.Number at value) h = tt
    each_fit (Expr-F.Char at value) h = tt
    each_fit (Expr-F.Text at bytes) h = tt
    each_fit (Expr-F.Nil at) h = tt
    each_fit (Expr-F.Name at name) h = tt
    each_fit (Expr-F.Tuple at parts) h = every_fit parts h
    each_fit (Expr-F.Unary at op a) h = a.1 (h.0, (h.1.0, (every_split Shared (behind op (addressed a.0).name) (addressed_places a.0) h.1.1).1))
    each_fit (Expr-F.Cast at to a) h = a.1 (h.0.1, h.1)
    each_fit (Expr-F.SizeofType at of) h = tt
    each_fit (Expr-F.SizeofValue at a) h = a.1 h
    each_fit (Expr-F.Index at a b) h = both_parts a b h
    each_fit (Expr-F.Member at a how name) h = a.1 h
    each_fit (Expr-F.Call at f xs) h =
        let es = trees_of xs in
        let b = split (expr_types f.0) (all_types (map expr_types es)) (name_places f.0) (all_places (map name_places es)) (addressed_places f.0) (each_addressed (map addressed es)) h in
        (f.1 b.0, every_fit xs b.1)
    each_fit (Expr-F.Postfix at op a) h = a.1 h
    each_fit (Expr-F.Binary at op a b) h = both_parts a b h
    each_fit (Expr-F.Iterator at a b) h = both_parts a b h
    each_fit (Expr-F.Assign at op a b) h = both_parts a b h
    each_fit (Expr-F.Sequence at parts) h = every_fit parts h

    by_parts : (y : Expr-F Checked) → Holds (roll-Expr (tree_of y))
    unfolding expr_types name_places addressed
    by_parts y h =
        let z = tree_of y in
        let e = roll-Expr z in
        let same : out-Expr e ≡ z = out-roll-Expr z in
        let has : HasNode z = (
          subst (Every Sound) (fold-roll-Expr (List TypeTree) expr_types_step z) h.0,
          (
            subst (Every Reached) (fold-roll-Expr (List Place) names_step z) h.1.0,
            subst (λ (a : Addressed). Every Shared a.places) (fold-roll-Expr Addressed addressed_step z) h.1.1,
          ),
        ) in
        let g = parts_fit z (each_fit y has) in
        record {
          trees = e ∷ g.0;
          fit = one_more_fit e g.0 (subst (EachPart (Contains g.0)) (sym same) g.1.1) (subst IsFitNode (sym same) (node_fit z has)) g.1.0;
          among = first_of e g.0;
        }

    pub expression_fits : (e : Expr) → HasAll e → Fit e
    expression_fits = ind-Expr Holds (λ x y is. subst (λ z. Holds (roll-Expr z)) is (by_parts y))
