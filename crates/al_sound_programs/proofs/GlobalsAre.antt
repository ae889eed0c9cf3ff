-- The globals of a text: each starts with what its initializer gives.
use Rattle.std.proofs.Common.{◌≡◌, ℕ, zero, suc, ◌+◌, Bool, true, List, [], ◌∷◌, ◌++◌, map, length, Option, Some, None, refl, sym, ap, ◌∙◌, subst, arith}
use Rattle.std.specs.Prelude.{All, fold, slice_get, slice_set, unwrap_or}
use Rattle.std.specs.List.{flat_map, list_all}
use Rattle.std.proofs.lemmas.List.{length-map}
use Rattle.std.proofs.lemmas.List.Elements.{All-cons, All-head, All-nil, All-tail}
use Rattle.al_base.specs.declared.place.Place.{Place}
use Rattle.al_tree.specs.declared.expression.Expr.{Expr}
use Rattle.al_tree.specs.declared.item.Initializer.{Initializer}
use Rattle.al_tree.specs.declared.item.Declarator.{Declarator}
use Rattle.al_tree.specs.declared.item.Declarator.TheVariants as declarator
use Rattle.al_tree.specs.declared.item.Item.{Item}
use Rattle.al_tree.specs.declared.item.Item.TheVariants as item
use Rattle.al_tree.specs.declared.item.Tree.{Tree}
use Rattle.al_rules.specs.declared.fault.TypeFault.{TypeFault}
use Rattle.al_rules.specs.Outcome.{Outcome, Good, Bad, both, and_then, judge}
use Rattle.al_scope.specs.Firsts.{declaration_at}
use Rattle.al_typed.specs.declared.program.Aggregate.{Aggregate}
use Rattle.al_typed.specs.declared.program.Program.{Program}
use Rattle.al_typed.specs.declared.program.StartValue.{StartValue}
use Rattle.al_typed.specs.Layout.{IsLaidOut}
use Rattle.al_typed.specs.Sound.{IsSoundGlobal}
use Rattle.al_typed.specs.WellTyped.{is_sound, is_stored}
use Rattle.al_environment.specs.declared.environment.Environment.{Environment}
use Rattle.al_environment.specs.declared.environment.Here.{Here}
use Rattle.al_environment.specs.declared.environment.Variable.{Variable}
use Rattle.al_operands.specs.declared.operand.Operand.{Operand}
use Rattle.al_type_expr.specs.Nodes.{value_of}
use Rattle.al_body_parts.specs.declared.parts.Parts.{Parts}
use Rattle.al_sound_programs.specs.Unnamed.{Written}
use Rattle.al_initial.specs.declared.globals.Initial.{Initial}
use Rattle.al_initial.specs.Adts.{adts}
use Rattle.al_initial.specs.Initializers.{initializer}
use Rattle.al_initial.specs.Walks.{Starts, global_in, global_start, known_start, numbered_start, started_by, started_if, started_in, with_start}
use Rattle.al_initial.specs.Whole.{bytes_in, first_place, gathered, global, globals_from, initial, judged, no_start, numbered, of_written, outside, starts, types_faults, whole}
use Rattle.al_sound_operators.specs.Typed.{IfGood}
use Rattle.al_sound_operators.proofs.Outcomes.{and_then_good}
use Rattle.al_sound_programs.specs.Starts.{AreStarts, MembersAreStored, StartsIn, TextIsThere, TextsAreThere, declared_values, item_values, numbered_outside, values_if, values_in}
use Rattle.al_sound_programs.proofs.Frames.{asked_none, judged_good as faults_judged, none_left}
use Rattle.al_sound_programs.proofs.InitializersAre.{All-back, All-front, initializers_start}
use Rattle.al_sound_programs.proofs.SmallTypes.{stored_small}
use Rattle.al_sound_programs.proofs.StartsAre.{starts_of_global}

good_is : {A : Type 0} {a b : A} → Good a ≡ Good b → a ≡ b
good_is h = cc

some_is : {A : Type 0} {a b : A} → Some a ≡ Some b → a ≡ b
some_is h = cc

abbrev at_or : {A : Type 0} → A → List A → ℕ → A
at_or none xs k = unwrap_or (slice_get xs k) none

-- what stands at a number in a list where something was set: that, or what stood there
set_at : {A : Type 0} (P : ℕ → A → Type 0) (none : A) (xs : List A) (n k : ℕ) (x : A) → P n x → P k (at_or none xs k) → P k (at_or none (slice_set xs n x) k)
set_at P none [] n k x h g = g
set_at P none (y ∷ xs) zero zero x h g = h
set_at P none (y ∷ xs) zero (suc k) x h g = g
set_at P none (y ∷ xs) (suc n) zero x h g = g
set_at P none (y ∷ xs) (suc n) (suc k) x h g = set_at (λ j a. P (suc j) a) none xs n k x h g

none_start : (vs : List Variable) (k : ℕ) → at_or [] (map no_start vs) k ≡ []
none_start [] k = refl
none_start (v ∷ vs) zero = refl
none_start (v ∷ vs) (suc k) = none_start vs k

module _ (p : Program) (env : Environment) (here : Here) (marks : List Bool) (same : env.aggregates ≡ p.aggregates) (laid : IsLaidOut p.aggregates)
    (members : MembersAreStored p.aggregates) (stored : (k : ℕ) (v : Variable) → slice_get env.globals k ≡ Some v → is_stored p.aggregates v.ty ≡ true) where
  abbrev Text : Expr → Type 0
  Text e = (x : Operand) → value_of env here e ≡ Good x → TextIsThere p x.value

  -- what the global of a number starts with
  abbrev StartsWith : ℕ → List StartValue → Type 0
  StartsWith k vs = (v : Variable) → slice_get env.globals k ≡ Some v → AreStarts p v.ty 0 vs

  abbrev AllStart : Starts → Type 0
  AllStart s = (k : ℕ) → StartsWith k (at_or [] s k)

  abbrev IsStarted : ℕ × List StartValue → Type 0
  IsStarted s = StartsWith s.0 s.1

  no_starts : AllStart (map no_start env.globals)
  no_starts k v is = subst (AreStarts p v.ty 0) (sym (none_start env.globals k)) (All-nil (StartsIn p v.ty 0))

  with_values : (i : Initializer) (n : ℕ) (v : Variable) (o : Outcome (List StartValue)) → slice_get env.globals n ≡ Some v → TextsAreThere p env here (values_in i) → initializer env here marks i v.ty 0 ≡ o
      → IfGood (and_then o (λ values. Good (n, values))) IsStarted
  with_values i n v (Bad fs) is texts e = tt
  with_values i n v (Good vs) is texts e = λ u at.
      let one : v ≡ u = some_is (sym is ∙ at) in
      subst (λ (w : Variable). AreStarts p w.ty 0 vs) one
      (initializers_start p env here marks same laid members i v.ty 0 vs texts (stored n v is) (let small = stored_small p.aggregates v.ty (stored n v is) in omega arith) e)

  of_known : (at : Place) (i : Initializer) (n : ℕ) (o : Option Variable) → slice_get env.globals n ≡ o → TextsAreThere p env here (values_in i) → IfGood (known_start env here marks at i n o) IsStarted
  of_known at i n None is texts = tt
  of_known at i n (Some v) is texts = with_values i n v (initializer env here marks i v.ty 0) is texts refl

  of_number : (at : Place) (i : Initializer) (o : Option ℕ) → TextsAreThere p env here (values_in i) → IfGood (numbered_start env here marks at i o) IsStarted
  of_number at i None texts = tt
  of_number at i (Some n) texts = of_known at i n (slice_get env.globals n) refl texts

  of_global : (at : Place) (i : Initializer) → TextsAreThere p env here (values_in i) → IfGood (global_start env here marks at i) IsStarted
  unfolding global_start
  of_global at i texts = of_number at i (global_in (declaration_at env.scopes.names at)) texts

  put : (a : Outcome Starts) (b : Outcome (ℕ × List StartValue)) → IfGood a AllStart → IfGood b IsStarted → IfGood (both a b with_start) AllStart
  put (Good s) (Good x) h g = λ k. set_at StartsWith [] s x.0 k x.1 g (h k)
  put (Good s) (Bad fs) h g = tt
  put (Bad fs) (Good x) h g = tt
  put (Bad fs) (Bad gs) h g = tt

  by_value : (s : Outcome Starts) (at : Place) (o : Option Initializer) → TextsAreThere p env here (values_if o) → IfGood s AllStart → IfGood (started_if env here marks s at o) AllStart
  by_value s at None texts h = h
  by_value s at (Some i) texts h = put s (global_start env here marks at i) h (of_global at i texts)

  by_declarator : (s : Outcome Starts) (d : Declarator) → TextsAreThere p env here (declared_values d) → IfGood s AllStart → IfGood (started_by env here marks s d) AllStart
  by_declarator s (declarator.Global dcl value) texts h = by_value s dcl.name.at value texts h
  by_declarator s (declarator.Function head) texts h = h

  by_list : (ds : List Declarator) (s : Outcome Starts) → TextsAreThere p env here (flat_map declared_values ds) → IfGood s AllStart → IfGood (fold (started_by env here marks) s ds) AllStart
  by_list [] s texts h = h
  by_list (d ∷ ds) s texts h =
      by_list ds (started_by env here marks s d) (All-back Text (declared_values d) (flat_map declared_values ds) texts)
      (by_declarator s d (All-front Text (declared_values d) (flat_map declared_values ds) texts) h)

  by_item : (i : Item) (s : Outcome Starts) → TextsAreThere p env here (item_values i) → IfGood s AllStart → IfGood (started_in env here marks s i) AllStart
  unfolding started_in
  by_item (item.Declare at scope base list) s texts h = by_list list s texts h
  by_item _ s texts h = h

  by_items : (is : List Item) (s : Outcome Starts) → TextsAreThere p env here (flat_map item_values is) → IfGood s AllStart → IfGood (fold (started_in env here marks) s is) AllStart
  by_items [] s texts h = h
  by_items (i ∷ is) s texts h =
      by_items is (started_in env here marks s i) (All-back Text (item_values i) (flat_map item_values is) texts)
      (by_item i s (All-front Text (item_values i) (flat_map item_values is) texts) h)

  -- ---- the rows

  global_is : (tree : Tree) (s : Starts) (k : ℕ) (v : Variable) → AllStart s → slice_get env.globals k ≡ Some v → IsSoundGlobal p (global env tree s k v)
  unfolding global
  global_is tree s k v h is = record { stored = stored k v is; starts = starts_of_global p (global env tree s k v) (at_or [] s k) (h k v is) }

  globals_are : (tree : Tree) (s : Starts) (k : ℕ) (vs : List Variable) → AllStart s → ((j : ℕ) (v : Variable) → slice_get vs j ≡ Some v → slice_get env.globals (k + j) ≡ Some v)
      → All (IsSoundGlobal p) (globals_from env tree s k vs)
  unfolding globals_from
  globals_are tree s k [] h at = All-nil (IsSoundGlobal p)
  globals_are tree s k (v ∷ vs) h at =
      let here_is : slice_get env.globals k ≡ Some v = subst (λ n. slice_get env.globals n ≡ Some v) (omega arith) (at 0 v refl) in
      All-cons (IsSoundGlobal p) (global env tree s k v) (globals_from env tree s (k + 1) vs) (global_is tree s k v h here_is)
      (globals_are tree s (k + 1) vs h (λ j u is. subst (λ n. slice_get env.globals n ≡ Some u) (omega arith) (at (suc j) u is)))

pub each_at : {A : Type 0} (P : A → Type 0) (xs : List A) → All P xs → (k : ℕ) (x : A) → slice_get xs k ≡ Some x → P x
each_at P [] h k x e = absurd (cc)
each_at P (y ∷ xs) h zero x e = subst P (some_is e) (All-head P y xs h)
each_at P (y ∷ xs) h (suc k) x e = each_at P xs (All-tail P y xs h) k x e

judged_by : (fs : List TypeFault) (v w : Written) → judge fs v ≡ Good w → w.texts ≡ v.texts
judged_by [] v w e = ap (λ (x : Written). x.texts) (sym (good_is e))
judged_by (f ∷ fs) v w e = absurd (cc)

judged_good : (rows : List Aggregate) (q : Parts) (w : Written) → judged rows q ≡ Good w → w.texts ≡ q.texts
judged_good rows q w e = judged_by (q.faults ++ types_faults rows q.types) (record { texts = q.texts; types = q.types }) w e

pub globals_start : (p : Program) (env : Environment) (tree : Tree) (i : Initial) → env.aggregates ≡ p.aggregates → IsLaidOut p.aggregates
    → MembersAreStored p.aggregates → All (λ (v : Variable). is_stored p.aggregates v.ty ≡ true) env.globals
    → TextsAreThere p env (numbered_outside env tree) (flat_map item_values tree.items) → initial env tree ≡ Good i → All (IsSoundGlobal p) i.globals
unfolding initial
globals_start p env tree i same laid members stored texts e =
    let a = and_then_good (judged env.aggregates (gathered env tree)) (of_written env tree) i e in
    let w : Written = a.0 in
    let b = and_then_good (starts env tree (numbered 0 w.texts)) (λ s. Good (whole env tree w s)) i a.2 in
    let s : Starts = b.0 in
    let at : (k : ℕ) (v : Variable) → slice_get env.globals k ≡ Some v → is_stored p.aggregates v.ty ≡ true = each_at (λ (v : Variable). is_stored p.aggregates v.ty ≡ true) env.globals stored in
    let here : Here = outside (numbered 0 w.texts) in
    let texts_here = subst (λ ts. TextsAreThere p env (outside (numbered 0 ts)) (flat_map item_values tree.items)) (sym (judged_good env.aggregates (gathered env tree) w a.1)) texts in
    let marks : List Bool = adts env tree.items in
    let all = by_items p env here marks same laid members at tree.items (Good (map no_start env.globals)) texts_here (no_starts p env here marks same laid members at) in
    let good : (k : ℕ) (v : Variable) → slice_get env.globals k ≡ Some v → AreStarts p v.ty 0 (at_or [] s k) = subst (λ o. IfGood o (AllStart p env here marks same laid members at)) b.1 all in
    subst (λ (j : Initial). All (IsSoundGlobal p) j.globals) (good_is b.2)
    (globals_are p env here marks same laid members at tree s 0 env.globals good (λ j v is. subst (λ n. slice_get env.globals n ≡ Some v) (omega arith) is))

-- the string constants of initializers
pub initial_texts : (env : Environment) (tree : Tree) (i : Initial) → initial env tree ≡ Good i → length i.texts ≡ length (gathered env tree).texts
unfolding initial
initial_texts env tree i e =
    let a = and_then_good (judged env.aggregates (gathered env tree)) (of_written env tree) i e in
    let w : Written = a.0 in
    let b = and_then_good (starts env tree (numbered 0 w.texts)) (λ s. Good (whole env tree w s)) i a.2 in
    ap (λ (j : Initial). length j.texts) (sym (good_is b.2)) ∙ length-map w.texts bytes_in ∙ ap length (judged_good env.aggregates (gathered env tree) w a.1)

-- what initializers write is sound
pub initial_types : (env : Environment) (tree : Tree) (i : Initial) → initial env tree ≡ Good i → list_all (is_sound env.aggregates) (gathered env tree).types ≡ true
unfolding initial
initial_types env tree i e =
    let q : Parts = gathered env tree in
    let asked = types_faults env.aggregates q.types in
    let a = and_then_good (judged env.aggregates q) (of_written env tree) i e in
    let j = faults_judged (q.faults ++ asked) (record { texts = q.texts; types = q.types }) a.0 a.1 in
    asked_none 18 first_place (list_all (is_sound env.aggregates) q.types) (none_left q.faults asked j.0).1
