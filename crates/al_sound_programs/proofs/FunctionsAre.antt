-- The row of a function of a text, and those of the branches in it.
use Rattle.std.proofs.Common.{◌≡◌, ℕ, ◌+◌, ◌≤◌, ap, ◌∙◌, true, List, [], ◌++◌, length, refl, sym, subst, arith}
use Rattle.std.specs.Prelude.{All}
use Rattle.std.specs.List.{list_all}
use Rattle.std.proofs.lemmas.List.{length-map}
use Rattle.std.proofs.lemmas.List.Elements.{All-nil}
use Rattle.al_tree.specs.declared.type_tree.TypeTree.{TypeTree}
use Rattle.al_tree.specs.declared.item.Head.{Head}
use Rattle.al_tree.specs.declared.statement.Stmt.{Stmt}
use Rattle.al_rules.specs.Outcome.{Good}
use Rattle.al_flow.specs.Flow.{targets}
use Rattle.al_shared.specs.Statements.{shared}
use Rattle.al_typed.specs.declared.statement.TStmt.{TStmt}
use Rattle.al_typed.specs.Sound.{outermost}
use Rattle.al_typed.specs.WellTyped.{IsStatement, is_sound}
use Rattle.al_environment.specs.declared.environment.Environment.{Environment}
use Rattle.al_environment.specs.declared.environment.Here.{Here}
use Rattle.al_environment.specs.declared.environment.Round.{Round}
use Rattle.al_environment.specs.declared.numbered.Numbered.{Numbered}
use Rattle.al_type_rules.specs.Types.{signature}
use Rattle.al_adt_functions.specs.Owned.{here_in}
use Rattle.al_body_parts.specs.Statements.{parts}
use Rattle.al_type_stmt.specs.declared.within.Within.{Within}
use Rattle.al_type_stmt.specs.Statements.{statement}
use Rattle.al_type_function.specs.declared.numbers.FunctionNumbers.{FunctionNumbers}
use Rattle.al_type_function.specs.declared.branch.NumberedBranch.{NumberedBranch}
use Rattle.al_sound_programs.specs.Unnamed.{Opened}
use Rattle.al_type_function.specs.declared.function.TypedFunction.{TypedFunction}
use Rattle.al_type_function.specs.Own.{own_adt}
use Rattle.al_type_function.specs.Locals.{frame_of, locals_faults, result_faults, rule_18_locals, types_faults}
use Rattle.al_type_function.specs.Texts.{bytes_in, numbered}
use Rattle.al_type_function.specs.Branches.{branches}
use Rattle.al_type_function.specs.Functions.{bodies, completed, declared, faults_of, function, function_frame, here_of, in_branches, opened, opened_in, opened_with, site_of, typed_with, within_of}
use Rattle.al_sound_operators.proofs.Outcomes.{if_good}
use Rattle.al_sound_programs.specs.Functions.{BodiesAreTyped, IsReady, IsSoundRow, among_any}
use Rattle.al_sound_programs.proofs.Frames.{IsBelow, IsStoredLocal, IsStoredVariable, hold_of, judged_good, locals_hold, none_left, result_of, small_of, texts_below, variables_hold, written_hold}
use Rattle.al_sound_programs.proofs.BranchesAre.{after_pair, branches_are}

good_is : {A : Type 0} {a b : A} → Good a ≡ Good b → a ≡ b
good_is h = cc

-- a function before its body is typed
record IsOpened (env : Environment) (numbers : FunctionNumbers) (body : Stmt) (here : Here) (o : Opened) : Type 0 where
  locals : All (IsStoredLocal env.aggregates) o.outline.locals
  variables : All (IsStoredVariable env.aggregates) o.variables
  small : rule_18_locals env.aggregates o.outline.locals ≡ true
  returns : is_sound env.aggregates o.outline.returns ≡ true
  written : list_all (is_sound env.aggregates) (parts env here body).types ≡ true
  own : here.own ≡ o.own
  texts_at : o.numbered ≡ numbered numbers.texts (parts env here body).texts
  texts : length o.texts ≡ length (parts env here body).texts

opened_is : (env : Environment) (names : List (List ℕ)) (numbers : FunctionNumbers) (base : TypeTree) (head : Head) (body : Stmt) (here : Here) (o : Opened)
    → opened_in env names numbers base head body here ≡ Good o → IsOpened env numbers body here o
unfolding opened_in opened_with frame_of
opened_is env names numbers base head body here o e =
    let rows = env.aggregates in
    let s = signature env here base head.stars head.parameters in
    let p = parts env here body in
    let f = function_frame env names head body s p in
    let made = opened_with names numbers head here.own s.returns p f in
    let at = head.name.at in
    let locals_asked = locals_faults rows at f.locals in
    let types_asked = types_faults rows at f.locals p.types in
    let result_asked = result_faults rows at s.returns in
    let j = judged_good (faults_of env head s.returns p f) made o e in
    let behind = none_left p.faults (locals_asked ++ (types_asked ++ result_asked)) j.0 in
    let none = none_left locals_asked (types_asked ++ result_asked) behind.1 in
    let last = none_left types_asked result_asked none.1 in
    let holds = hold_of rows at f.locals p.types last.0 in
    let locals = locals_hold rows f.locals p.types holds in
    let ds = declared head s p in
    subst (IsOpened env numbers body here) j.1 (record {
      locals = locals;
      variables = variables_hold rows names (shared env.scopes.names 0 (length ds) body) 0 ds locals;
      small = small_of rows at f.locals none.0;
      returns = result_of rows at s.returns last.1;
      written = written_hold rows f.locals p.types holds;
      own = refl;
      texts_at = refl;
      texts = length-map p.texts bytes_in;
    })

-- what is at hand in its body
abbrev here_in_body : Opened → Here
here_in_body o = here_of o.own o.variables o.numbered

pub record IsSoundTyped (env : Environment) (strings functions : ℕ) (t : TypedFunction) : Type 0 where
  pub function : IsSoundRow env.aggregates strings functions t.function
  pub branches : All (λ (b : NumberedBranch). IsSoundRow env.aggregates strings functions b.function) t.branches

module _ (env : Environment) (strings functions : ℕ) (law : BodiesAreTyped env strings functions) where
  body_ready : (numbers : FunctionNumbers) (body : Stmt) (here : Here) (o : Opened) → IsOpened env numbers body here o → numbers.texts + length o.texts ≤ strings → IsReady env.aggregates strings (here_in_body o)
  body_ready numbers body here o is few = record {
    locals = is.variables;
    around = All-nil (λ (r : Round). All (IsStoredVariable env.aggregates) r.locals);
    texts = subst (All (IsBelow strings)) (sym is.texts_at) (texts_below strings numbers.texts (parts env here body).texts (let n = is.texts in omega arith));
    iterators = refl;
  }

  -- from what its body gives
  typed_is : (names : List (List ℕ)) (numbers : FunctionNumbers) (w : Within) (body : Stmt) (at : Here) (o : Opened) (typed : TStmt) (bs : List NumberedBranch) → w.returns ≡ o.outline.returns
      → IsOpened env numbers body at o → numbers.texts + length o.texts ≤ strings → statement w env (here_in_body o) body ≡ Good typed
      → branches env names (in_branches w) body (site_of (here_in_body o) numbers.number) [] ≡ Good bs → IsSoundTyped env strings functions (typed_with o (typed, bs))
  typed_is names numbers w body at o typed bs returns is few e g =
      let here : Here = here_in_body o in
      let ready = body_ready numbers body at o is few in
      let sound = law w here at body ready is.own (ap (is_sound env.aggregates) returns ∙ is.returns) is.written in
      record {
        function = record {
          locals = is.locals;
          returns = is.returns;
          shared = is.small;
          body = if_good (IsStatement (among_any env.aggregates strings functions) outermost) (statement w env here body) typed sound e;
        };
        branches = branches_are env strings functions law names (in_branches w) refl body (site_of here numbers.number) [] bs ready
            (All-nil (λ (b : NumberedBranch). IsSoundRow env.aggregates strings functions b.function)) g;
      }

  pub function_is : (names : List (List ℕ)) (numbers : FunctionNumbers) (bs : List Numbered) (base : TypeTree) (head : Head) (body : Stmt) (t : TypedFunction)
      → function env names numbers bs base head body ≡ Good t → numbers.texts + length t.texts ≤ strings → IsSoundTyped env strings functions t
  unfolding function completed bodies
  function_is names numbers bs base head body t e few =
      let a = after_pair (opened env names numbers base head body) (targets body) (λ p. completed env names numbers.number bs body p.0 p.1) t e in
      let o : Opened = a.0 in
      let w : Within = within_of o a.1 bs in
      let here : Here = here_in_body o in
      let c = after_pair (statement w env here body) (branches env names (in_branches w) body (site_of here numbers.number) []) (λ p. Good (typed_with o p)) t a.4 in
      let made : typed_with o (c.0, c.1) ≡ t = good_is c.4 in
      let at : Here = here_in (own_adt env head.owner numbers.instance) in
      let is = opened_is env names numbers base head body at o a.2 in
      subst (IsSoundTyped env strings functions) made
      (typed_is names numbers w body at o c.0 c.1 refl is (subst (λ (u : TypedFunction). numbers.texts + length u.texts ≤ strings) (sym made) few) c.2 c.3)
