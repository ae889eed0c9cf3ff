-- The types that are written in initializers are among those that are gathered of them.
use Rattle.std.proofs.Common.{◌≡◌, ℕ, Bool, true, false, List, [], ◌∷◌, ◌++◌, map, Option, Some, None, refl, sym, ap, ◌∙◌, subst, append-nil, append_assoc}
use Rattle.std.specs.Prelude.{All, Contains, if◌then◌else◌}
use Rattle.std.specs.List.{AllByRecursion, flat_map}
use Rattle.std.proofs.lemmas.List.Elements.{All-append, All-cons, All-nil, All-weaker, Contains-append_left, Contains-append_right}
use Rattle.al_base.specs.declared.place.Place.{Place}
use Rattle.al_tree.specs.declared.type_tree.TypeTree.{TypeTree}
use Rattle.al_tree.specs.declared.expression.Expr.{Expr, fold-roll-Expr, map-Expr, roll-Expr}
use Rattle.al_tree.specs.declared.expression.Expr.TheFolds.{ind-Expr}
use Rattle.al_tree.specs.declared.expression.Expr.TheOpen.{Expr-F}
use Rattle.al_tree.specs.declared.statement.Stmt.{Stmt, fold-roll-Stmt, roll-Stmt}
use Rattle.al_tree.specs.declared.statement.Stmt.TheOpen.{Stmt-F}
use Rattle.al_tree.specs.declared.item.Initializer.{Initializer, fold-roll-Initializer, map-Initializer, roll-Initializer}
use Rattle.al_tree.specs.declared.item.Initializer.TheFolds.{ind-Initializer}
use Rattle.al_tree.specs.declared.item.Initializer.TheOpen.{Initializer-F}
use Rattle.al_tree.specs.declared.item.Declarator.{Declarator}
use Rattle.al_tree.specs.declared.item.Declarator.TheVariants as declarator
use Rattle.al_tree.specs.declared.item.Item.{Item}
use Rattle.al_tree.specs.declared.item.Item.TheVariants as item
use Rattle.al_tree.specs.declared.item.Tree.{Tree}
use Rattle.al_typed.specs.declared.ty.Ty.{Ty}
use Rattle.al_environment.specs.declared.environment.Environment.{Environment}
use Rattle.al_environment.specs.declared.environment.Here.{Here}
use Rattle.al_environment.specs.Written.{written}
use Rattle.al_body_parts.specs.declared.parts.Parts.{Parts}
use Rattle.al_body_parts.specs.Parts.{listed, nothing, with_text, with_type}
use Rattle.al_body_parts.specs.Expressions.{Part, Way, behind_format, each, expr, is_print, part, step}
use Rattle.al_body_parts.specs.Statements.{parts, stmt, stmt_step}
use Rattle.al_initial.specs.Walks.{Gathering, each as each_in, optional as optional_in, written as written_of, written_by, written_in, written_step}
use Rattle.al_initial.specs.Whole.{gathered, outside}
use Rattle.al_sound_statements.specs.Bodies.{expr_types, types_in, types_step}
use Rattle.al_sound_statements.specs.Gathered.{TypesAreGathered}
use Rattle.al_sound_programs.specs.Starts.{declared_values, item_values, values_if, values_in, values_step}

module _ (env : Environment) (here : Here) where
  -- ---- expressions add types behind those that were gathered

  record Appends (way : Way) : Type 0 where
    new : Bool → List Ty
    is : (inside : Bool) (q : Parts) → (way inside q).types ≡ q.types ++ new inside

  none_more : Appends (λ inside q. q)
  none_more = record { new = λ inside. []; is = λ inside q. sym (append-nil q.types) }

  text_more : (at : Place) (bytes : List ℕ) → Appends (λ inside q. with_text at bytes q)
  text_more at bytes = record { new = λ inside. []; is = λ inside q. sym (append-nil q.types) }

  type_more : (at : Place) (t : TypeTree) → Appends (λ inside q. with_type env here at t q)
  unfolding with_type
  type_more at t = record { new = λ inside. listed (written env here t); is = λ inside q. refl }

  then_more : (f g : Way) → Appends f → Appends g → Appends (λ inside q. g inside (f inside q))
  then_more f g a b = record {
    new = λ inside. a.new inside ++ b.new inside;
    is = λ inside q. b.is inside (f inside q) ∙ ap (λ ts. ts ++ b.new inside) (a.is inside q) ∙ append_assoc q.types (a.new inside) (b.new inside);
  }

  abbrev IsMore : Part → Type 0
  IsMore p = Appends p.way

  abbrev way_in : Part → Way
  way_in p = p.way

  each_more : (ps : List Part) → AllByRecursion IsMore ps → Appends (each way_in ps)
  each_more [] h = none_more
  each_more (p ∷ ps) h = then_more p.way (each way_in ps) h.0 (each_more ps h.1)

  format_more : (b : Bool) (p : Part) (ps : List Part) → AllByRecursion IsMore (p ∷ ps) → AllByRecursion IsMore (if b then ps else p ∷ ps)
  format_more true p ps h = h.1
  format_more false p ps h = h

  behind_more : (b : Bool) (ps : List Part) → AllByRecursion IsMore ps → AllByRecursion IsMore (behind_format (λ (p : Part). p.is_text) b ps)
  behind_more false ps h = h
  behind_more true [] h = h
  behind_more true (p ∷ ps) h = format_more p.is_text p ps h

  abbrev Holds : Expr → Type 0
  Holds e = Appends (expr env here e)

  abbrev Checked : Type 0
  Checked = (e : Expr) × Holds e

  abbrev parts_of : List Checked → List Part
  parts_of ys = map (part env here) (map (λ y. y.0) ys)

  all_more : (ys : List Checked) → AllByRecursion IsMore (parts_of ys)
  all_more [] = tt
  all_more (y ∷ ys) = (y.1, all_more ys)

  abbrev tree_of : Expr-F Checked → Expr-F Expr
  tree_of y = map-Expr Checked Expr (λ c. c.0) y

  step_more : (y : Expr-F Checked) → IsMore (step env here (map-Expr Expr Part (part env here) (tree_of y)))
  step_more (Expr-F.Number at value) = none_more
  step_more (Expr-F.Char at value) = none_more
  step_more (Expr-F.Text at bytes) = text_more at bytes
  step_more (Expr-F.Nil at) = none_more
  step_more (Expr-F.Name at name) = none_more
  step_more (Expr-F.Tuple at ys) = each_more (parts_of ys) (all_more ys)
  step_more (Expr-F.Unary at op a) = a.1
  step_more (Expr-F.Cast at to a) = then_more (λ inside q. with_type env here at to q) (expr env here a.0) (type_more at to) a.1
  step_more (Expr-F.SizeofType at of) = type_more at of
  step_more (Expr-F.SizeofValue at a) = a.1
  step_more (Expr-F.Index at a b) = then_more (expr env here a.0) (expr env here b.0) a.1 b.1
  step_more (Expr-F.Member at a how name) = a.1
  step_more (Expr-F.Call at f ys) =
      let b = is_print env.scopes.names (part env here f.0).name in
      let ps = behind_format (λ (p : Part). p.is_text) b (parts_of ys) in
      then_more (expr env here f.0) (each way_in ps) f.1 (each_more ps (behind_more b (parts_of ys) (all_more ys)))
  step_more (Expr-F.Postfix at op a) = a.1
  step_more (Expr-F.Binary at op a b) = then_more (expr env here a.0) (expr env here b.0) a.1 b.1
  step_more (Expr-F.Iterator at a b) = then_more (expr env here a.0) (expr env here b.0) a.1 b.1
  step_more (Expr-F.Assign at op a b) = then_more (expr env here a.0) (expr env here b.0) a.1 b.1
  step_more (Expr-F.Sequence at ys) = each_more (parts_of ys) (all_more ys)

  roll_more : (y : Expr-F Checked) → Holds (roll-Expr (tree_of y))
  unfolding part
  roll_more y = subst IsMore (sym (fold-roll-Expr Part (step env here) (tree_of y))) (step_more y)

  expr_more : (e : Expr) → Holds e
  expr_more = ind-Expr Holds (λ x y is. subst (λ z. Holds (roll-Expr z)) is (roll_more y))

  -- ---- what is written in an expression is among them

  module _ (law : TypesAreGathered) where
    -- types that are written in it, where they have a meaning
    abbrev IsAmong : List Ty → Expr → Type 0
    IsAmong us e = (t : TypeTree) → Contains (expr_types e) t → (u : Ty) → written env here t ≡ Some u → Contains us u

    -- an expression as a statement
    abbrev alone : Expr → Stmt
    alone e = roll-Stmt (Stmt-F.Value (record { line = 1; col = 1 }) e)

    alone_types : (e : Expr) → types_in (alone e) ≡ expr_types e
    unfolding types_in
    alone_types e = fold-roll-Stmt (List TypeTree) types_step (Stmt-F.Value (record { line = 1; col = 1 }) e)

    alone_parts : (e : Expr) → parts env here (alone e) ≡ expr env here e false nothing
    unfolding parts stmt
    alone_parts e = ap (λ (w : Way). w false nothing) (fold-roll-Stmt Way (stmt_step env here) (Stmt-F.Value (record { line = 1; col = 1 }) e))

    met_by : (e : Expr) (q : Parts) → IsAmong (expr env here e false q).types e
    met_by e q t c u w =
        let found = law.types env here here refl (alone e) t (subst (λ ts. Contains ts t) (sym (alone_types e)) c) u w in
        let more = expr_more e in
        let new : Contains (more.new false) u = subst (λ us. Contains us u) (ap (λ (p : Parts). p.types) (alone_parts e) ∙ more.is false nothing) found in
        subst (λ us. Contains us u) (sym (more.is false q)) (Contains-append_right q.types (more.new false) u new)

    kept_by : (e : Expr) (q : Parts) (u : Ty) → Contains q.types u → Contains (expr env here e false q).types u
    kept_by e q u c = let more = expr_more e in subst (λ us. Contains us u) (sym (more.is false q)) (Contains-append_left q.types (more.new false) u c)

    -- ---- what adds the types of these values, and keeps those that were gathered
    record Gathers (es : List Expr) (g : Gathering) : Type 0 where
      kept : (q : Parts) (u : Ty) → Contains q.types u → Contains (g q).types u
      met : (q : Parts) → All (IsAmong (g q).types) es

    no_values : Gathers [] (λ q. q)
    no_values = record { kept = λ q u c. c; met = λ q. All-nil (IsAmong q.types) }

    one_value : (e : Expr) → Gathers (e ∷ []) (λ q. expr env here e false q)
    one_value e = record {
      kept = kept_by e;
      met = λ q. All-cons (IsAmong (expr env here e false q).types) e [] (met_by e q) (All-nil (IsAmong (expr env here e false q).types));
    }

    more_values : (es ds : List Expr) (f g : Gathering) → Gathers es f → Gathers ds g → Gathers (es ++ ds) (λ q. g (f q))
    more_values es ds f g a b = record {
      kept = λ q u c. b.kept (f q) u (a.kept q u c);
      met = λ q. All-append (IsAmong (g (f q)).types) es ds
          (All-weaker (IsAmong (f q).types) (IsAmong (g (f q)).types) (λ e h t c u w. b.kept (f q) u (h t c u w)) es (a.met q))
          (b.met (f q));
    }

    all_values : {A : Type 0} (f : A → Gathering) (v : A → List Expr) → ((x : A) → Gathers (v x) (f x)) → (xs : List A) → Gathers (flat_map v xs) (each_in f xs)
    all_values f v h [] = no_values
    all_values f v h (x ∷ xs) = more_values (v x) (flat_map v xs) (f x) (each_in f xs) (h x) (all_values f v h xs)

    -- ---- initializers

    abbrev IsGathered : Initializer → Type 0
    IsGathered i = Gathers (values_in i) (written_of env here i)

    abbrev Known : Type 0
    Known = (i : Initializer) × IsGathered i

    abbrev start_of : Initializer-F Known → Initializer-F Initializer
    start_of y = map-Initializer Known Initializer (λ c. c.0) y

    parts_gathered : (ys : List Known) → Gathers (flat_map (λ es. es) (map values_in (map (λ (y : Known). y.0) ys))) (each_in (λ g. g) (map (written_of env here) (map (λ (y : Known). y.0) ys)))
    parts_gathered [] = no_values
    parts_gathered (y ∷ ys) =
        more_values (values_in y.0) (flat_map (λ es. es) (map values_in (map (λ (y : Known). y.0) ys))) (written_of env here y.0)
        (each_in (λ g. g) (map (written_of env here) (map (λ (y : Known). y.0) ys))) y.1 (parts_gathered ys)

    step_gathered : (y : Initializer-F Known)
        → Gathers (values_step (map-Initializer Initializer (List Expr) values_in (start_of y))) (written_step env here (map-Initializer Initializer Gathering (written_of env here) (start_of y)))
    step_gathered (Initializer-F.Value e) = one_value e
    step_gathered (Initializer-F.Braces at ys) = parts_gathered ys

    roll_gathered : (y : Initializer-F Known) → IsGathered (roll-Initializer (start_of y))
    unfolding values_in written_of
    roll_gathered y =
        subst (λ es. Gathers es (written_of env here (roll-Initializer (start_of y)))) (sym (fold-roll-Initializer (List Expr) values_step (start_of y)))
        (subst (Gathers (values_step (map-Initializer Initializer (List Expr) values_in (start_of y)))) (sym (fold-roll-Initializer Gathering (written_step env here) (start_of y))) (step_gathered y))

    initializer_gathered : (i : Initializer) → IsGathered i
    initializer_gathered = ind-Initializer IsGathered (λ x y is. subst (λ z. IsGathered (roll-Initializer z)) is (roll_gathered y))

    -- ---- items

    if_gathered : (o : Option Initializer) → Gathers (values_if o) (optional_in (written_of env here) o)
    if_gathered None = no_values
    if_gathered (Some i) = initializer_gathered i

    declarator_gathered : (d : Declarator) → Gathers (declared_values d) (written_by env here d)
    declarator_gathered (declarator.Global dcl value) = if_gathered value
    declarator_gathered (declarator.Function head) = no_values

    item_gathered : (i : Item) → Gathers (item_values i) (written_in env here i)
    unfolding written_in
    item_gathered (item.Declare at scope base list) = all_values (written_by env here) declared_values declarator_gathered list
    item_gathered _ = no_values

    items_gathered : (is : List Item) → Gathers (flat_map item_values is) (each_in (written_in env here) is)
    items_gathered is = all_values (written_in env here) item_values item_gathered is

-- the types of an expression, where they have a meaning, are among these
abbrev pub AreAmong : Environment → Here → List Ty → Expr → Type 0
AreAmong env here us e = (t : TypeTree) → Contains (expr_types e) t → (u : Ty) → written env here t ≡ Some u → Contains us u

pub values_are_gathered : TypesAreGathered → (env : Environment) (tree : Tree) → All (AreAmong env (outside []) (gathered env tree).types) (flat_map item_values tree.items)
values_are_gathered law env tree = (items_gathered env (outside []) law tree.items).met nothing
