-- Statements of expressions alone.
use Rattle.std.proofs.Common.{◌≡◌, ℕ, Bool, true, false, List, [], ◌∷◌, length, Option, Some, None, refl, sym, ap, ◌∙◌, subst, inl, inr}
use Rattle.std.specs.Prelude.{◌⊎◌, not, is_some}
use Rattle.std.specs.List.{flat_map}
use Rattle.al_base.specs.declared.place.Place.{Place}
use Rattle.al_rules.specs.Outcome.{Good, and_then}
use Rattle.al_tree.specs.declared.expression.Expr.{Expr}
use Rattle.al_tree.specs.declared.statement.Variable.{Variable}
use Rattle.al_scope.specs.declared.declaration.Declaration.{Declaration}
use Rattle.al_scope.specs.declared.declaration.Declaration.TheVariants as declaration
use Rattle.al_scope.specs.Expressions.{place as expr_place}
use Rattle.al_scope.specs.Firsts.{declaration_at}
use Rattle.al_typed.specs.declared.ty.Ty.{Ty}
use Rattle.al_typed.specs.declared.ty.Ty.TheViews.{out-Ty}
use Rattle.al_typed.specs.declared.ty.Ty.TheVariants as ty
use Rattle.al_typed.specs.declared.program.Aggregate.{Aggregate as AggregateRow}
use Rattle.al_typed.specs.declared.expression.TExpr.{TExpr}
use Rattle.al_typed.specs.declared.expression.TPlace.{TPlace}
use Rattle.al_typed.specs.declared.expression.TPlace.TheVariants as place
use Rattle.al_typed.specs.declared.statement.TStmt.TheVariants as stmt
use denote.Hole.Carrier.{out}
use Rattle.al_typed.specs.Types.{is_array, is_complete, is_void, is_whole, points_to_complete}
use Rattle.al_typed.specs.Typed.{callee_of, place_type, type_of}
use Rattle.al_typed.specs.WellTyped.{Allocates, GivesBack, IsCall, IsChannel, IsCondition, IsHandedOn, IsInitializer, IsLocalOfType, IsReturned, IsStatement, Nest, Returns, Scope, is_sound, rows}
use Rattle.al_typed.proofs.StatementRules as rules
use Rattle.al_convert.specs.Kinds.{is_channel}
use Rattle.al_convert.specs.Same.{same}
use Rattle.al_environment.specs.declared.environment.Environment.{Environment}
use Rattle.al_environment.specs.declared.environment.Here.{Here}
use Rattle.al_environment.specs.declared.environment.Variable.{Variable as Known}
use Rattle.al_operands.specs.declared.operand.Operand.{Operand}
use Rattle.al_operands.specs.Operands.{converted, plain, taken}
use Rattle.al_operands.specs.Rules.{is_pointer, rule_33_converts}
use Rattle.al_operators.specs.Operators.{condition}
use Rattle.al_type_nodes.specs.declared.found.Found.{Found}
use Rattle.al_type_nodes.specs.declared.found.Found.TheVariants as found_as
use Rattle.al_type_nodes.specs.Uses.{operand, placed}
use Rattle.al_type_expr.specs.Lists.{each}
use Rattle.al_type_expr.specs.Nodes.{dropped_value, found, node, place_in, value_of}
use Rattle.al_statements.specs.Rules.{rule_23_initializes, rule_45_allocates, rule_46_gives_back, rule_47_is_void, rule_48_goes_on, rule_55_starts}
use Rattle.al_statements.specs.Parts.{allocated, became, became_call, became_found, became_operand, became_value, given_back, given_value, initialized, is_any_call, returned, returned_nothing, returned_value, started}
use Rattle.al_type_stmt.specs.declared.within.Within.{Within}
use Rattle.al_type_stmt.specs.Statements.{alloc_at, alloc_place, become_at, check_at, condition_of, declared, initializer, initializer_for, initializer_of, initializers, known_initializer, local_at, local_named, proc_at, return_at, returns, start_of, started_with, task_at, unalloc_at, unalloc_value}
use Rattle.al_sound_operators.specs.Typed.{IfGood, IsOperand, IsSoundPlace, IsTyped, IsUsable}
use Rattle.al_sound_operators.specs.Operands.{IsOf}
use Rattle.al_sound_operators.specs.Operators.{IsAsked}
use Rattle.al_sound_nodes.specs.Nodes.{IsFound, Tells}
use Rattle.al_sound_expressions.specs.Expressions.{Every, IsNode}
use Rattle.al_sound_statements.specs.Statements.{GoesOn, IfThere, IsFitExpr}
use Rattle.al_sound_operators.proofs.TypeForms.{a_channel, a_pointer, there, void_is}
use Rattle.al_sound_operators.proofs.SameTypes.{and_both}
use Rattle.al_sound_operators.proofs.OperatorKinds.{either, negated, not_true}
use Rattle.al_sound_operators.proofs.Outcomes.{after, also, asked, if_good, where_good}
use Rattle.al_sound_statements.proofs.StatementLists.{AreMany, each_is, every_all, every_append, if_either, judged, of_each_is, optional_is}
use Rattle.al_sound_statements.proofs.Known.{Laws, local_place}

-- ---- rules

allocates : (rs : List AggregateRow) (t : Ty) → rule_45_allocates rs t ≡ true → (points_to_complete rs t ≡ true) ⊎ IsChannel t
unfolding rule_45_allocates
allocates rs t h = on (either (points_to_complete rs t) (is_channel t) h)
  where
    on : (points_to_complete rs t ≡ true) ⊎ (is_channel t ≡ true) → (points_to_complete rs t ≡ true) ⊎ IsChannel t
    on (inl p) = inl p
    on (inr c) = let h = a_channel t c in inr (h.0, (h.1, h.2))

gives_back : (t : Ty) → rule_46_gives_back t ≡ true → ((to : Ty) × (t ≡ ty.Pointer to)) ⊎ IsChannel t
unfolding rule_46_gives_back
gives_back t h = on (either (is_pointer t) (is_channel t) h)
  where
    on : (is_pointer t ≡ true) ⊎ (is_channel t ≡ true) → ((to : Ty) × (t ≡ ty.Pointer to)) ⊎ IsChannel t
    on (inl p) = inl (a_pointer t p)
    on (inr c) = let h = a_channel t c in inr (h.0, (h.1, h.2))

starts : (e : TExpr) → rule_55_starts e ≡ true → (number : ℕ) × (callee_of e ≡ Some number)
unfolding rule_55_starts
starts e h = there (callee_of e) h

goes_on : (t : Ty) (e : TExpr) → rule_48_goes_on t e ≡ true → ((number : ℕ) × (callee_of e ≡ Some number)) × (same false (type_of e) t ≡ true)
unfolding rule_48_goes_on
goes_on t e h = let b = and_both (is_some (callee_of e)) (same false (type_of e) t) h in (there (callee_of e) b.0, b.1)

is_nothing : (t : Ty) → rule_47_is_void t ≡ true → t ≡ ty.Void
unfolding rule_47_is_void
is_nothing t h = void_is t h

not_whole : (rs : List AggregateRow) → is_whole rs ty.Void ≡ true → ⊥
unfolding is_complete is_array out-Ty out
not_whole rs h = not_true h

-- a value is no void
no_void : (rs : List AggregateRow) (t : Ty) → is_whole rs t ≡ true → is_void t ≡ false
no_void rs t h = by (is_void t) refl
  where
    by : (b : Bool) → is_void t ≡ b → b ≡ false
    by true q = absurd (not_whole rs (subst (λ u. is_whole rs u ≡ true) (void_is t q) h))
    by false q = refl

initializes : (x : Operand) (t : Ty) → rule_23_initializes x t ≡ true → (is_array t ≡ false) × (rule_33_converts x t ≡ true)
unfolding rule_23_initializes
initializes x t h = let b = and_both (not (is_array t)) (rule_33_converts x t) h in (negated (is_array t) b.0, b.1)

-- ---- parts of statements

module _ (law : Laws) (s : Scope) where
  -- what converts, by the rule that takes it
  of_taken : (at : Place) (t : Ty) (x : Operand) → IsOperand s x → is_sound (rows s) t ≡ true → rule_33_converts x t ≡ true → IsOf s t (converted t x.value)
  unfolding taken
  of_taken at t x o k q = judged (IsOf s t) 23 at (rule_33_converts x t) (converted t x.value) (law.operands.taken s 23 at t x o k) q

  pub initialized_is : (at : Place) (t : Ty) (x : Operand) → IsOperand s x → is_sound (rows s) t ≡ true → IfGood (initialized at t x) (λ e. IsOf s t e × (is_array t ≡ false))
  unfolding initialized
  initialized_is at t x o k =
      asked (λ e. IsOf s t e × (is_array t ≡ false)) 23 at (rule_23_initializes x t) (converted t x.value)
      (λ q. let r = initializes x t q in (of_taken at t x o k r.1, r.0))

  allocated_is : (at : Place) (p : TPlace) → IsSoundPlace s p → IfGood (allocated (rows s) at p) (Allocates s)
  unfolding allocated
  allocated_is at p o = asked (Allocates s) 45 at (rule_45_allocates (rows s) (place_type p)) p (λ q. (o.place, allocates (rows s) (place_type p) q))

  given_value_is : (at : Place) (e : TExpr) → IsUsable s e → IfGood (given_value at e) (GivesBack s)
  unfolding given_value
  given_value_is at e u = asked (GivesBack s) 46 at (rule_46_gives_back (type_of e)) e (λ q. (u.value, gives_back (type_of e) q))

  pub plain_usable : (x : Operand) → IsOperand s x → IfGood (plain x) (IsUsable s)
  plain_usable x o = also (λ e. e ≡ x.value) (IsUsable s) (plain x) (law.operands.plain x) (λ e q. subst (IsUsable s) (sym q) o.usable)

  given_back_is : (at : Place) (x : Operand) → IsOperand s x → IfGood (given_back at x) (GivesBack s)
  unfolding given_back
  given_back_is at x o = after (IsUsable s) (GivesBack s) (plain x) (given_value at) (plain_usable x o) (λ e u. given_value_is at e u)

  started_is : (at : Place) (e : TExpr) → IsTyped s e → IfGood (started at e) (IsCall s)
  unfolding started
  started_is at e t = asked (IsCall s) 55 at (rule_55_starts e) e (λ q. (t.value, starts e q))

  -- ---- returns

  module _ (t : Ty) (is : IsReturned s.names t) (sound : is_sound (rows s) t ≡ true) where
    of_value : (e : TExpr) → IsOf s t e → Returns s (Some e)
    of_value e q = (q.usable.value, (no_void (rows s) (type_of e) q.usable.whole, subst (IsReturned s.names) (sym q.is) is))

    returned_is : (at : Place) (x : Option Operand) → IfThere (IsOperand s) x → IfGood (returned at t x) (Returns s)
    unfolding returned returned_nothing returned_value
    returned_is at None h = asked (Returns s) 47 at (rule_47_is_void t) None (λ q. subst (IsReturned s.names) (is_nothing t q) is)
    returned_is at (Some x) o =
        after (IsOf s t) (Returns s) (taken 47 at t x) (λ e. Good (Some e)) (law.operands.taken s 47 at t x o sound) (λ e q. of_value e q)

    became_value_is : (n : Nest) (line : ℕ) (at : Place) (x : Operand) → IsOperand s x → IfGood (became_value line at t x) (IsStatement s n)
    unfolding became_value
    became_value_is n line at x o =
        after (IsOf s t) (IsStatement s n) (taken 48 at t x) (λ e. Good (stmt.Return line (Some e))) (law.operands.taken s 48 at t x o sound)
        (λ e q. rw (rules.IsStatement-Return s n line (Some e)) (of_value e q))

    became_found_is : (n : Nest) (line : ℕ) (at value_at : Place) (f : Found) → IsFound s f → IfGood (became_found (rows s) line at t value_at f) (IsStatement s n)
    became_found_is n line at value_at f h =
        after (IsOperand s) (IsStatement s n) (operand (rows s) value_at f) (became_value line at t) (law.nodes.operand s value_at f h) (λ x o. became_value_is n line at x o)

    became_call_is : (n : Nest) (line : ℕ) (at : Place) (e : TExpr) → IsTyped s e → ((number : ℕ) → callee_of e ≡ Some number → same false (type_of e) t ≡ true → IsHandedOn s.names (type_of e))
        → IfGood (became_call line at t e) (IsStatement s n)
    unfolding became_call
    became_call_is n line at e h goes =
        asked (IsStatement s n) 48 at (rule_48_goes_on t e) (stmt.Become line e)
        (λ q. let r = goes_on t e q in rw (rules.IsStatement-Become s n line e) (((h.value, r.0), goes r.0.0 r.0.1 r.1)))

    became_is : (n : Nest) (line : ℕ) (at value_at : Place) (f : Found) → IsFound s f → ((x : Operand) (number : ℕ) → f ≡ found_as.Value x → callee_of x.value ≡ Some number → same false (type_of x.value) t ≡ true → IsHandedOn s.names (type_of x.value))
        → IfGood (became (rows s) line at t value_at f) (IsStatement s n)
    unfolding became became_operand
    became_is n line at value_at (found_as.Place p is_private) h goes = became_found_is n line at value_at (found_as.Place p is_private) h
    became_is n line at value_at (found_as.Value x) h goes =
        if_either (IsStatement s n) (is_any_call x.value) (became_call line at t x.value) (became_found (rows s) line at t value_at (found_as.Value x))
        (became_call_is n line at x.value h.typed (λ number c. goes x number refl c))
        (became_found_is n line at value_at (found_as.Value x) h)

-- ---- statements

module _ (law : Laws) (s : Scope) (n : Nest) (env : Environment) (here : Here) (tells : Tells s env here) where
  abbrev Fit : Expr → Type 0
  Fit = IsFitExpr s env here

  pub value_is : (e : Expr) → Fit e → IfGood (value_of env here e) (IsOperand s)
  value_is e f = law.expressions.value_of s env here tells f.trees f.fit e f.among

  pub dropped_is : (e : Expr) → Fit e → IfGood (dropped_value env here e) (IsTyped s)
  dropped_is e f = law.expressions.dropped_value s env here tells f.trees f.fit e f.among

  node_is : (e : Expr) → Fit e → IsNode s (node env here e)
  node_is e f = law.expressions.node s env here tells f.trees f.fit e f.among

  pub condition_is : (e : Expr) → Fit e → IfGood (condition_of env here e) (IsCondition s)
  unfolding condition_of
  condition_is e f =
      after (IsOperand s) (IsCondition s) (value_of env here e) (condition (expr_place e)) (value_is e f)
      (λ x o. also (IsAsked s) (IsCondition s) (condition (expr_place e) x) (law.operators.condition s (expr_place e) x o) (λ v q. (q.usable.value, q.scalar)))

  pub check_is : (at : Place) (e : Expr) → Fit e → IfGood (check_at env here at e) (IsStatement s n)
  unfolding check_at
  check_is at e f =
      after (IsCondition s) (IsStatement s n) (condition_of env here e) (λ v. Good (stmt.Check at.line v)) (condition_is e f)
      (λ v q. rw (rules.IsStatement-Check s n at.line v) q)

  -- ---- lists behind a word

  alloc_place_is : (e : Expr) → Fit e → IfGood (alloc_place env here e) (Allocates s)
  unfolding alloc_place
  alloc_place_is e f =
      after (IsSoundPlace s) (Allocates s) (place_in (expr_place e) (node env here e)) (allocated env.aggregates (expr_place e))
      (after (IsFound s) (IsSoundPlace s) (node env here e).found (placed (expr_place e)) (node_is e f).found (λ x h. law.nodes.placed s (expr_place e) x h))
      (λ p o. subst (λ rs. IfGood (allocated rs (expr_place e) p) (Allocates s)) (sym tells.aggregates) (allocated_is law s (expr_place e) p o))

  unalloc_value_is : (e : Expr) → Fit e → IfGood (unalloc_value env here e) (GivesBack s)
  unfolding unalloc_value
  unalloc_value_is e f =
      after (IsOperand s) (GivesBack s) (value_of env here e) (given_back (expr_place e)) (value_is e f) (λ x o. given_back_is law s (expr_place e) x o)

  start_is : (e : Expr) → Fit e → IfGood (start_of env here e) (IsCall s)
  unfolding start_of
  start_is e f =
      after (IsTyped s) (IsCall s) (dropped_value env here e) (started (expr_place e)) (dropped_is e f) (λ v t. started_is law s (expr_place e) v t)

  pub alloc_is : (at : Place) (es : List Expr) → Every Fit es → IfGood (alloc_at env here at es) (IsStatement s n)
  unfolding alloc_at
  alloc_is at es h =
      after (AreMany (Allocates s) (length es)) (IsStatement s n) _ (λ ps. Good (stmt.Alloc at.line ps)) (of_each_is Fit (Allocates s) (alloc_place env here) es h alloc_place_is)
      (λ ps q. rw (rules.IsStatement-Alloc s n at.line ps) (every_all (Allocates s) ps q.0))

  pub unalloc_is : (at : Place) (es : List Expr) → Every Fit es → IfGood (unalloc_at env here at es) (IsStatement s n)
  unfolding unalloc_at
  unalloc_is at es h =
      after (AreMany (GivesBack s) (length es)) (IsStatement s n) _ (λ vs. Good (stmt.Unalloc at.line vs)) (of_each_is Fit (GivesBack s) (unalloc_value env here) es h unalloc_value_is)
      (λ vs q. rw (rules.IsStatement-Unalloc s n at.line vs) (every_all (GivesBack s) vs q.0))

  pub proc_is : (at : Place) (es : List Expr) → Every Fit es → IfGood (proc_at env here at es) (IsStatement s n)
  unfolding proc_at
  proc_is at es h =
      after (AreMany (IsCall s) (length es)) (IsStatement s n) _ (λ vs. Good (stmt.Proc at.line vs)) (of_each_is Fit (IsCall s) (start_of env here) es h start_is)
      (λ vs q. rw (rules.IsStatement-Proc s n at.line vs) (every_all (IsCall s) vs q.0))

  pub task_is : (at : Place) (es : List Expr) → Every Fit es → IfGood (task_at env here at es) (IsStatement s n)
  unfolding task_at
  task_is at es h =
      after (AreMany (IsCall s) (length es)) (IsStatement s n) _ (λ vs. Good (stmt.Task at.line vs)) (of_each_is Fit (IsCall s) (start_of env here) es h start_is)
      (λ vs q. rw (rules.IsStatement-Task s n at.line vs) (every_all (IsCall s) vs q.0))

  -- ---- declarations

  known_local : (at : Place) (v : Known) → local_named env here at ≡ Some v → IsSoundPlace s (place.Local v.ty v.number)
  unfolding local_named
  known_local at v q = by (declaration_at env.scopes.names at) q
    where
      by : (d : Option Declaration) → local_at env here d ≡ Some v → IsSoundPlace s (place.Local v.ty v.number)
      by None q = absurd (cc)
      by (Some (declaration.Local k)) q = tells.locals k v q
      by (Some (declaration.Global k)) q = absurd (cc)
      by (Some (declaration.Function k)) q = absurd (cc)
      by (Some (declaration.Constant k)) q = absurd (cc)
      by (Some (declaration.Outer j k)) q = absurd (cc)
      by (Some declaration.Print) q = absurd (cc)
      by (Some declaration.Terminate) q = absurd (cc)

  is_initializer : (v : Known) (e : TExpr) → IsSoundPlace s (place.Local v.ty v.number) → IsOf s v.ty e → is_array v.ty ≡ false → IsInitializer s (initializer env here v e)
  is_initializer v e p o a =
      let l = local_place s v.ty v.number p.place in
      (o.usable.value, (subst (IsLocalOfType s.names v.number) (sym o.is) l, ap is_array o.is ∙ a))

  known_is : (at : Place) (e : Expr) (v : Known) → Fit e → IsSoundPlace s (place.Local v.ty v.number) → IfGood (known_initializer env here at e v) (IsInitializer s)
  unfolding known_initializer
  known_is at e v f p =
      after (λ t. IsOf s v.ty t × (is_array v.ty ≡ false)) (IsInitializer s) (and_then (value_of env here e) (initialized at v.ty)) (λ t. Good (initializer env here v t))
      (after (IsOperand s) (λ t. IsOf s v.ty t × (is_array v.ty ≡ false)) (value_of env here e) (initialized at v.ty) (value_is e f) (λ x o. initialized_is law s at v.ty x o p.sound))
      (λ t q. is_initializer v t p q.0 q.1)

  initializer_is : (at : Place) (e : Expr) → Fit e → IfGood (initializer_of env here at e) (IsInitializer s)
  unfolding initializer_of
  initializer_is at e f = on (local_named env here at) refl
    where
      on : (o : Option Known) → local_named env here at ≡ o → IfGood (initializer_for env here at e o) (IsInitializer s)
      on None q = tt
      on (Some v) q = known_is at e v f (known_local at v q)

  started_with_is : (at : Place) (o : Option Expr) → IfThere Fit o → Every (λ x. IfGood x (IsInitializer s)) (started_with env here at o)
  started_with_is at None f = tt
  started_with_is at (Some e) f = (initializer_is at e f, tt)

  initializers_are : (vs : List Variable) → Every (λ (v : Variable). IfThere Fit v.value) vs → Every (λ x. IfGood x (IsInitializer s)) (flat_map (initializers env here) vs)
  initializers_are [] h = tt
  initializers_are (v ∷ vs) h =
      every_append (λ x. IfGood x (IsInitializer s)) (initializers env here v) (flat_map (initializers env here) vs) (started_with_is v.dcl.name.at v.value h.0) (initializers_are vs h.1)

  pub declared_is : (line : ℕ) (vs : List Variable) → Every (λ (v : Variable). IfThere Fit v.value) vs → IfGood (declared env here line vs) (IsStatement s n)
  unfolding declared
  declared_is line vs h =
      after (AreMany (IsInitializer s) (length (flat_map (initializers env here) vs))) (IsStatement s n) (each (flat_map (initializers env here) vs)) (λ xs. Good (stmt.Declare line xs))
      (each_is (IsInitializer s) (flat_map (initializers env here) vs) (initializers_are vs h))
      (λ xs q. rw (rules.IsStatement-Declare s n line xs) (every_all (IsInitializer s) xs q.0))

  -- ---- returns

  module _ (w : Within) (is : IsReturned s.names w.returns) (sound : is_sound (rows s) w.returns ≡ true) where
    pub return_is : (at : Place) (e : Option Expr) → IfThere Fit e → IfGood (return_at w env here at e) (IsStatement s n)
    unfolding return_at
    return_is at e f =
        after (IfThere (IsOperand s)) (IsStatement s n) _ (returns w at) (optional_is Fit (IsOperand s) (value_of env here) e f value_is)
        (λ x o. after (Returns s) (IsStatement s n) (returned at w.returns x) (λ v. Good (stmt.Return at.line v)) (returned_is law s w.returns is sound at x o)
        (λ v q. rw (rules.IsStatement-Return s n at.line v) q))

    pub become_is : (at : Place) (e : Expr) → Fit e → IfGood (found env here e) (GoesOn s w) → IfGood (become_at w env here at e) (IsStatement s n)
    unfolding become_at
    become_is at e f goes =
        after (λ x. IsFound s x × GoesOn s w x) (IsStatement s n) (found env here e) (became env.aggregates at.line at w.returns (expr_place e))
        (where_good (λ x. IsFound s x × GoesOn s w x) (found env here e) (λ x q. (if_good (IsFound s) (found env here e) x (node_is e f).found q, if_good (GoesOn s w) (found env here e) x goes q)))
        (λ x h. subst (λ rs. IfGood (became rs at.line at w.returns (expr_place e) x) (IsStatement s n)) (sym tells.aggregates) (became_is law s w.returns is sound n at.line at (expr_place e) x h.0 h.1))
