-- Every statement does what it means, by induction over statements.
use Rattle.std.proofs.Common.{◌≡◌, ℕ, suc, ◌+◌, List, [], ◌∷◌, ◌++◌, length, Option, Some, None, refl, sym, ap, ◌∙◌, subst, inl, inr, ⊎_elim, arith}
use Rattle.std.specs.Prelude.{true, false, All}
use Rattle.std.specs.List.{AllByRecursion}
use Rattle.std.proofs.lemmas.List.Elements.{All-head, All-tail}
use Rattle.al_base.specs.declared.arith.Kind.{Kind}
use Rattle.al_typed.specs.declared.ty.Ty.{Ty}
use Rattle.al_typed.specs.declared.ty.Ty.TheVariants as ty
use Rattle.al_typed.specs.declared.ty.Ty.TheViews.{out-Ty}
use denote.Hole.Carrier.{out}
use Rattle.al_typed.specs.declared.expression.TExpr.{TExpr, Call'}
use Rattle.al_typed.specs.declared.expression.TPlace.{TPlace, Local}
use Rattle.al_typed.specs.declared.statement.TBounds.{TBounds}
use Rattle.al_typed.specs.declared.statement.TInitializer.{TInitializer}
use Rattle.al_typed.specs.declared.statement.TCommunication.{TCommunication}
use Rattle.al_typed.specs.declared.statement.TCommunication.TheVariants as talk
use Rattle.al_typed.specs.declared.statement.TStmt.{TStmt, Empty, Block', Declare, Value, If', Switch', Case, Default, Alt', AltCase, Par, Raise, Goto, Return, Become, Break, Continue, Alloc, Unalloc, Check, Proc, Task, Held-TStmt-If-3, Row_of-TStmt, end_of-TStmt, more_of-TStmt}
use Rattle.al_typed.specs.declared.statement.TStmt as stmt
use Rattle.al_typed.specs.StatementForms as part
use Rattle.al_typed.specs.Alike.{are_alike}
use Rattle.al_typed.specs.Types.{is_void, is_array, is_scalar}
use Rattle.al_typed.specs.Typed.{target_type, type_of, place_type, row_types, parameter_types}
use Rattle.al_typed.specs.WellTyped.{Nest, inside, in_loop, in_cases, switch_labels, alt_labels, IsValue, IsPlace, IsStatement, IsOther, AreStatements, IsCondition, IsOptionalCondition, IsOptionalValue, IsCall, AreBounds, IsInitializer, Allocates, GivesBack, IsBranch, IsChannelOf, Communicates, alt_cases}
use Rattle.al_meaning.specs.Here.{units_in}
use Rattle.al_meaning.specs.Meant.{returned, become_in, optionally, condition, start_of}
use Rattle.al_lower_code.specs.Homes.{at_line}
use Rattle.al_lower_code.specs.Heads.{optional_code, optional_test, optional_size, cases_in}
use Rattle.al_lower_words.proofs.Integers.{channel_not_void, units_of_channel}
use Rattle.al_lower_code.specs.Simple.{become_code}
use Rattle.al_lower_flow.proofs.Pieces.{effect_piece, nothing_piece}
use Rattle.al_lower_bodies.proofs.Bodies.{Body, site_of, vars_of, spot_in, scope_of, IsKnown, EffectIn, StmtIn, ElseIn, ValueIn}
use Rattle.al_lower_bodies.proofs.Forms as form
use Rattle.al_lower_bodies.proofs.Tests.{condition_does, optional_does}
use Rattle.al_lower_bodies.proofs.Storing.{block, channel, is_new}
use Rattle.al_lower_bodies.proofs.Effects.{optional_effect, InitialDoes, declare_does, NewDoes, alloc_does, OldDoes, unalloc_does, check_does}
use Rattle.al_lower_bodies.proofs.Fors.{for_piece}
use Rattle.al_lower_received.proofs.Receiving.{received_went}
use Rattle.al_lower_conversions.proofs.Plain.{converts_to_value, converts_to_no_array}
use Rattle.al_lower_pointers.proofs.Alike.{alike_void, alike_array, alike_units, each_parameter, same_calls}
use Rattle.al_lower_statements.proofs.Terms.{IsPassed, Premises}
use Rattle.al_lower_returns.proofs.Returns.{return_none_does, return_value_does, become_in_does}
use Rattle.al_lower_switch.proofs.Cases.{RowsIn, all_in}
use Rattle.al_lower_switch.proofs.Switches.{CasesFit, switch_does}
use Rattle.al_lower_iterators.proofs.Bounds.{BoundIn}
use Rattle.al_lower_iterators.proofs.Iterators.{value_statement_does}
use Rattle.al_lower_alts.proofs.Talks.{ChannelIn, TalkIn}
use Rattle.al_lower_alts.proofs.Dispatch.{WentIn, nothing_went, sending_went}
use Rattle.al_lower_alts.proofs.Alts.{alt_does}
use Rattle.al_lower_starts.proofs.Starts.{StartsIn, BranchIn, procs_do, tasks_do, par_does}

every : {A : Type 0} (P Q : A → Type 0) → ((x : A) → P x → Q x) → (xs : List A) → All P xs → AllByRecursion Q xs
every P Q f [] h = tt
every P Q f (x ∷ xs) h = (f x (All-head P x xs h), every P Q f xs (All-tail P x xs h))

all_back : {A : Type 0} (P : A → Type 0) (xs ys : List A) → AllByRecursion P (xs ++ ys) → AllByRecursion P ys
all_back P [] ys h = h
all_back P (x ∷ xs) ys h = all_back P xs ys h.1

all_front : {A : Type 0} (P : A → Type 0) (xs ys : List A) → AllByRecursion P (xs ++ ys) → AllByRecursion P xs
all_front P [] ys h = tt
all_front P (x ∷ xs) ys h = (h.0, all_front P xs ys h.1)

no_arrays : (ts : List Ty) → AllByRecursion IsPassed ts → AllByRecursion (λ t. is_array t ≡ false) ts
no_arrays [] h = tt
no_arrays (t ∷ ts) h = (h.0.1, no_arrays ts h.1)

alike_passed : (a b : Ty) → are_alike a b ≡ true → IsPassed b → IsPassed a
alike_passed a b e h = (alike_void a b e ∙ h.0, alike_array a b e ∙ h.1)

same_term : (d e : TExpr) → Some d ≡ Some e → d ≡ e
same_term d e q = cc

void_is : is_void ty.Void ≡ true
unfolding is_void out-Ty out
void_is = refl

module _ (b : Body) (X : Premises b) where
  value_in : (line iterators : ℕ) (e : TExpr) → IsValue (scope_of b iterators) e → ValueIn b line iterators e
  value_in line iterators e h = X.terms.value line iterators e h

  -- ---- parts of statements

  initial_in : (line : ℕ) (i : TInitializer) → IsInitializer (scope_of b 0) i → InitialDoes b line i
  unfolding IsPlace
  initial_in line i h =
      let l = h.1.0 in
      record {
        not_void = ap is_void (sym l.1.1) ∙ X.locals i.local l.0 l.1.0;
        not_array = h.1.1;
        value = value_in line 0 i.value h.0;
        place = X.terms.place line 0 (Local (type_of i.value) i.local) h.1.0;
      }

  bound_in : (line : ℕ) (t : TBounds) → AreBounds (scope_of b 0) t → BoundIn b line t
  bound_in line t h = record { from_int = h.1.0; to_int = h.1.1.1; from = value_in line 0 t.from h.0; to = value_in line 0 t.to h.1.1.0 }

  new_in : (line : ℕ) (place : TPlace) → Allocates (scope_of b 0) place → NewDoes b line place
  new_in line place h = record { new = is_new b.program.aggregates (place_type place) h.1; does = X.terms.place line 0 place h.0 }

  old_in : (line : ℕ) (e : TExpr) → GivesBack (scope_of b 0) e → OldDoes b line e
  old_in line e h = record { old = ⊎_elim (λ x. block x.0 x.1) (λ x. channel x.0 x.1.0 x.1.1) h.1; does = value_in line 0 e h.0 }

  start_in : (line : ℕ) (e : TExpr) → IsCall (scope_of b 0) e → StartsIn b line e
  unfolding IsValue
  start_in line (Call' t function receiver shape arguments) h =
      let v = h.0 in
      let g = v.1.1.1 in
      let passed = each_parameter IsPassed alike_passed t g.0.returns (v.0 ++ row_types arguments) (parameter_types g.0) g.1.1 (X.parameters function g.0 g.1.0) in
      let behind = all_back IsPassed v.0 (row_types arguments) passed in
      record {
        given = v.0;
        object_does = X.terms.object line 0 receiver v.0 v.1.0 (all_front IsPassed v.0 (row_types arguments) passed);
        values_do = X.terms.values line 0 arguments v.1.1.0 behind;
        row = g.0;
        there = g.1.0.0;
        no_branch = g.1.0.1;
        same = same_calls b.program t g.0.returns (v.0 ++ row_types arguments) (parameter_types g.0) g.1.1;
        no_arrays = no_arrays (row_types arguments) behind;
      }
  start_in line e h = absurd (let q = h.1.1 in cc)

  become_case : (line : ℕ) (e : TExpr) → IsCall (scope_of b 0) e → are_alike (type_of e) b.row.returns ≡ true → EffectIn b line (become_code (at_line line (spot_in b)) e) (λ w env s next. start_of e w env s (λ start env s. w.become line start.code start.words env s))
  become_case line (Call' t function receiver shape arguments) h same = become_in_does b shape arguments (alike_void t b.row.returns same) (alike_units b.program t b.row.returns same) (start_in line (Call' t function receiver shape arguments) h)
  become_case line e h same = absurd (let q = h.1.1 in cc)

  branch_in : (branch : ℕ) → IsBranch b.program b.row b.function branch → BranchIn b branch
  branch_in branch h = record { row = h.0; there = h.1.0; around = h.1.1; parameters = X.branches branch h.0 h.1.0 h.1.1 }

  -- ---- places of statements

  deeper : {x y : ℕ} (a : TStmt) → StmtIn b (x + 1) (y + 1) a → StmtIn b (suc x) (suc y) a
  deeper {x} {y} a h = let e : x + 1 ≡ suc x = omega arith in let f : y + 1 ≡ suc y = omega arith in subst (λ i. StmtIn b i (suc y) a) e (subst (λ i. StmtIn b (x + 1) i a) f h)

  rows_deeper : (x y : ℕ) {m : _} (row : Row_of-TStmt m) → RowsIn b (x + 1) y row → RowsIn b (suc x) y row
  rows_deeper x y row h = let e : x + 1 ≡ suc x = omega arith in subst (λ i. RowsIn b i y row) e h

  cases_fit : (n : Nest) (k : Kind) {m : _} (row : Row_of-TStmt m) → AreStatements (scope_of b 0) (in_cases (switch_labels k) n) row → CasesFit k row
  unfolding AreStatements IsStatement
  cases_fit n k end_of-TStmt h = tt
  cases_fit n k (more_of-TStmt (Case label bits) rest) h = (h.0.1.1, cases_fit n k rest h.1)
  cases_fit n k (more_of-TStmt a rest) h = cases_fit n k rest h.1

  -- ---- cases of alts

  channel_in : (line : ℕ) (chan : TExpr) (t : Ty) → IsValue (scope_of b 0) chan → IsChannelOf (type_of chan) t → ChannelIn b line chan
  channel_in line chan t h c = record {
    not_void = ap is_void c.1 ∙ channel_not_void t c.0;
    units = ap (units_in b.program) c.1 ∙ units_of_channel b.program t c.0;
    does = value_in line 0 chan h;
  }

  talk_in : (line : ℕ) (c : TCommunication) → Communicates (scope_of b 0) c → TalkIn b line c
  talk_in line (talk.Receive t chan) h = channel_in line chan t h.0 h.1
  talk_in line (talk.ReceiveInto t target chan) h = channel_in line chan t h.1.0 h.1.1.0
  talk_in line (talk.Send chan value) h =
      let v = X.terms.carried chan (type_of value) h.0 h.1.1 in
      (channel_in line chan (type_of value) h.0 h.1.1, record { not_void = v.0; not_array = v.1; does = value_in line 0 value h.1.0 })

  went_in : (line : ℕ) (c : TCommunication) → Communicates (scope_of b 0) c → WentIn b line c
  went_in line (talk.Receive t chan) h = nothing_went b line t chan
  went_in line (talk.ReceiveInto t target chan) h =
      received_went b line t target chan h.1.1.1 (X.terms.target line target h.0 (converts_to_value t (target_type target) h.1.1.1, converts_to_no_array t (target_type target) h.1.1.1))
  went_in line (talk.Send chan value) h = sending_went b line chan value

  cases_talk : (line : ℕ) (n : Nest) {m : _} (row : Row_of-TStmt m) → AreStatements (scope_of b 0) (in_cases alt_labels n) row → AllByRecursion (TalkIn b line) (cases_in row)
  unfolding AreStatements IsStatement
  cases_talk line n end_of-TStmt h = tt
  cases_talk line n (more_of-TStmt (AltCase c) rest) h = (talk_in line c h.0, cases_talk line n rest h.1)
  cases_talk line n (more_of-TStmt a rest) h = cases_talk line n rest h.1

  cases_went : (line : ℕ) (n : Nest) {m : _} (row : Row_of-TStmt m) → AreStatements (scope_of b 0) (in_cases alt_labels n) row → AllByRecursion (WentIn b line) (cases_in row)
  unfolding AreStatements IsStatement
  cases_went line n end_of-TStmt h = tt
  cases_went line n (more_of-TStmt (AltCase c) rest) h = (went_in line c h.0, cases_went line n rest h.1)
  cases_went line n (more_of-TStmt a rest) h = cases_went line n rest h.1

  cases_count : {m : _} (row : Row_of-TStmt m) → alt_cases row ≡ length (cases_in row)
  cases_count end_of-TStmt = refl
  cases_count (more_of-TStmt (AltCase c) rest) = let h = cases_count rest in omega (arith, h)
  cases_count (more_of-TStmt a rest) = cases_count rest

  -- ---- parts that may be absent

  optional_value : (line : ℕ) (o : Option TExpr) → IsOptionalValue (scope_of b 0) o → (e : TExpr) → o ≡ Some e → ValueIn b line 0 e
  optional_value line None h e q = absurd (cc)
  optional_value line (Some d) h e q = value_in line 0 e (subst (IsValue (scope_of b 0)) (same_term d e q) h)

  optional_condition : (line : ℕ) (o : Option TExpr) → IsOptionalCondition (scope_of b 0) o → (e : TExpr) → o ≡ Some e → (is_scalar (type_of e) ≡ true) × ValueIn b line 0 e
  optional_condition line None h e q = absurd (cc)
  optional_condition line (Some d) h e q =
      let c = subst (IsCondition (scope_of b 0)) (same_term d e q) h in (c.1, value_in line 0 e c.0)

  -- ---- the induction

  mutual
    unfolding IsStatement AreStatements IsOther

    pub statement_does : (n : Nest) → n.number ≡ b.function → (a : TStmt) → IsStatement (scope_of b 0) n a → StmtIn b n.breaks n.loops a
    statement_does n own (Empty line) h = form.empty_does (site_of b) (vars_of b) (spot_in b) b.call (returned b.row.locals b.given) (become_in b.row.locals b.instead b.given) (IsKnown b) line
    statement_does n own (Block' line shape body) h = form.block_does (site_of b) (vars_of b) (spot_in b) b.call (returned b.row.locals b.given) (become_in b.row.locals b.instead b.given) (IsKnown b) line shape body (all_in b body (rows_do (inside n) own body h))
    statement_does n own (Declare line is) h = effect_piece (site_of b) (vars_of b) (spot_in b) b.call (returned b.row.locals b.given) (become_in b.row.locals b.instead b.given) (IsKnown b) (declare_does b is (every (IsInitializer (scope_of b 0)) (InitialDoes b line) (initial_in line) is h))
    statement_does n own (Value line ts e) h = value_statement_does b ts e (record { bounds = every (AreBounds (scope_of b 0)) (BoundIn b line) (bound_in line) ts h.0; value = value_in line (length ts) e h.1 })
    statement_does n own (part.label line number body) h = form.label_does (site_of b) (vars_of b) (spot_in b) b.call (returned b.row.locals b.given) (become_in b.row.locals b.instead b.given) (IsKnown b) line number body (statement_does (inside n) own body h)
    statement_does n own (If' line e _ (more_of-TStmt chosen end_of-TStmt) other) h =
        form.if_does (site_of b) (vars_of b) (spot_in b) b.call (returned b.row.locals b.given) (become_in b.row.locals b.instead b.given) (IsKnown b) line e chosen other (condition_does b line e h.0.1 (value_in line 0 e h.0.0)) (statement_does (inside n) own chosen h.1.0) (other_does n own line other h.1.1)
    statement_does n own (part.while_loop line e body) h =
        form.while_does (site_of b) (vars_of b) (spot_in b) b.call (returned b.row.locals b.given) (become_in b.row.locals b.instead b.given) (IsKnown b) line e body (condition_does b line e h.0.1 (value_in line 0 e h.0.0)) (deeper body (statement_does (in_loop n) own body h.1))
    statement_does n own (part.do_loop line body e) h =
        form.do_does (site_of b) (vars_of b) (spot_in b) b.call (returned b.row.locals b.given) (become_in b.row.locals b.instead b.given) (IsKnown b) line e body (condition_does b line e h.1.1 (value_in line 0 e h.1.0)) (deeper body (statement_does (in_loop n) own body h.0))
    statement_does n own (part.for_loop line start test step body) h =
        for_piece (site_of b) (vars_of b) (spot_in b) b.call (returned b.row.locals b.given) (become_in b.row.locals b.instead b.given) (IsKnown b) line (optional_code (at_line line (spot_in b)) start) (optional_code (at_line line (spot_in b)) step) (optionally start) (optionally step) (optional_test (at_line line (spot_in b)) test) (optional_size (at_line line (spot_in b)) test) (condition test)
        (optional_effect b start (optional_value line start h.0)) (optional_effect b step (optional_value line step h.1.1.0)) (optional_does b line test (optional_condition line test h.1.0))
        (deeper body (statement_does (in_loop n) own body h.1.1.1))
    statement_does n own (Switch' line e shape body) h =
        let k = h.1.0 in
        switch_does b n.breaks n.loops line e k h.1.1.0 h.1.1.1.0 (value_in line 0 e h.0) shape body (cases_fit n k body h.1.1.1.1) (rows_deeper n.breaks n.loops body (rows_do (in_cases (switch_labels k) n) own body h.1.1.1.1))
    statement_does n own (Case label bits) h = nothing_piece (site_of b) (vars_of b) (spot_in b) b.call (returned b.row.locals b.given) (become_in b.row.locals b.instead b.given) (IsKnown b) {breaks = n.breaks} {loops = n.loops}
    statement_does n own Default h = nothing_piece (site_of b) (vars_of b) (spot_in b) b.call (returned b.row.locals b.given) (become_in b.row.locals b.instead b.given) (IsKnown b) {breaks = n.breaks} {loops = n.loops}
    statement_does n own (Alt' line shape body) h =
        let count = cases_count body in
        let some = h.0 in
        let few = h.1.0 in
        alt_does b line n.breaks n.loops shape body (omega (arith, count, some)) (omega (arith, count, few)) (cases_talk line n body h.1.1) (cases_went line n body h.1.1) (rows_deeper n.breaks n.loops body (rows_do (in_cases alt_labels n) own body h.1.1))
    statement_does n own (AltCase communication) h = nothing_piece (site_of b) (vars_of b) (spot_in b) b.call (returned b.row.locals b.given) (become_in b.row.locals b.instead b.given) (IsKnown b) {breaks = n.breaks} {loops = n.loops}
    statement_does n own (Par line branches) h = effect_piece (site_of b) (vars_of b) (spot_in b) b.call (returned b.row.locals b.given) (become_in b.row.locals b.instead b.given) (IsKnown b) (par_does b branches (every (IsBranch b.program b.row n.number) (BranchIn b) (λ branch x. branch_in branch (subst (λ i. IsBranch b.program b.row i branch) own x)) branches h.1.1))
    statement_does n own (part.rescue line number body) h = form.rescue_does (site_of b) (vars_of b) (spot_in b) b.call (returned b.row.locals b.given) (become_in b.row.locals b.instead b.given) (IsKnown b) line number body (statement_does (inside n) own body h)
    statement_does n own (Raise line rescue) h = form.raise_does (site_of b) (vars_of b) (spot_in b) b.call (returned b.row.locals b.given) (become_in b.row.locals b.instead b.given) (IsKnown b) {breaks = n.breaks} {loops = n.loops} line rescue (inr h)
    statement_does n own (Goto line label) h = form.goto_does (site_of b) (vars_of b) (spot_in b) b.call (returned b.row.locals b.given) (become_in b.row.locals b.instead b.given) (IsKnown b) {breaks = n.breaks} {loops = n.loops} line label (inl h)
    statement_does n own (Return line None) h = effect_piece (site_of b) (vars_of b) (spot_in b) b.call (returned b.row.locals b.given) (become_in b.row.locals b.instead b.given) (IsKnown b) (return_none_does b (ap is_void (sym h) ∙ void_is))
    statement_does n own (Return line (Some e)) h = effect_piece (site_of b) (vars_of b) (spot_in b) b.call (returned b.row.locals b.given) (become_in b.row.locals b.instead b.given) (IsKnown b) (return_value_does b e (record { is = h.1.1; not_void = h.1.0; not_array = ap is_array h.1.1 ∙ X.returns (ap is_void (sym h.1.1) ∙ h.1.0); does = value_in line 0 e h.0 }))
    statement_does n own (Become line call) h = effect_piece (site_of b) (vars_of b) (spot_in b) b.call (returned b.row.locals b.given) (become_in b.row.locals b.instead b.given) (IsKnown b) (become_case line call h.0 h.1)
    statement_does n own (Break line levels) h = form.break_does (site_of b) (vars_of b) (spot_in b) b.call (returned b.row.locals b.given) (become_in b.row.locals b.instead b.given) (IsKnown b) {breaks = n.breaks} {loops = n.loops} line levels h.0 h.1
    statement_does n own (Continue line levels) h = form.continue_does (site_of b) (vars_of b) (spot_in b) b.call (returned b.row.locals b.given) (become_in b.row.locals b.instead b.given) (IsKnown b) {breaks = n.breaks} {loops = n.loops} line levels h.0 h.1
    statement_does n own (Alloc line places) h = effect_piece (site_of b) (vars_of b) (spot_in b) b.call (returned b.row.locals b.given) (become_in b.row.locals b.instead b.given) (IsKnown b) (alloc_does b places (every (Allocates (scope_of b 0)) (NewDoes b line) (new_in line) places h))
    statement_does n own (Unalloc line es) h = effect_piece (site_of b) (vars_of b) (spot_in b) b.call (returned b.row.locals b.given) (become_in b.row.locals b.instead b.given) (IsKnown b) (unalloc_does b es (every (GivesBack (scope_of b 0)) (OldDoes b line) (old_in line) es h))
    statement_does n own (Check line e) h = effect_piece (site_of b) (vars_of b) (spot_in b) b.call (returned b.row.locals b.given) (become_in b.row.locals b.instead b.given) (IsKnown b) (check_does b e h.1 (value_in line 0 e h.0))
    statement_does n own (Proc line calls) h = effect_piece (site_of b) (vars_of b) (spot_in b) b.call (returned b.row.locals b.given) (become_in b.row.locals b.instead b.given) (IsKnown b) (procs_do b calls (every (IsCall (scope_of b 0)) (StartsIn b line) (start_in line) calls h))
    statement_does n own (Task line calls) h = effect_piece (site_of b) (vars_of b) (spot_in b) b.call (returned b.row.locals b.given) (become_in b.row.locals b.instead b.given) (IsKnown b) (tasks_do b calls (every (IsCall (scope_of b 0)) (StartsIn b line) (start_in line) calls h))

    other_does : (n : Nest) → n.number ≡ b.function → (line : ℕ) (other : Held-TStmt-If-3) → IsOther (scope_of b 0) n other → ElseIn b n.breaks n.loops line other
    other_does n own line stmt.None' h = form.no_else_does (site_of b) (vars_of b) (spot_in b) b.call (returned b.row.locals b.given) (become_in b.row.locals b.instead b.given) (IsKnown b) {breaks = n.breaks} {loops = n.loops} line
    other_does n own line (stmt.Some' _ (more_of-TStmt other end_of-TStmt)) h = form.else_does (site_of b) (vars_of b) (spot_in b) b.call (returned b.row.locals b.given) (become_in b.row.locals b.instead b.given) (IsKnown b) other (statement_does (inside n) own other h)

    rows_do : (n : Nest) → n.number ≡ b.function → {m : _} (row : Row_of-TStmt m) → AreStatements (scope_of b 0) n row → RowsIn b n.breaks n.loops row
    rows_do n own end_of-TStmt h = tt
    rows_do n own (more_of-TStmt a rest) h = (statement_does n own a h.0, rows_do n own rest h.1)
