-- A function of a text with the branches in it.
use Rattle.std.proofs.Common.{◌≡◌, ℕ, ◌+◌, ◌<◌, ◌≤◌, Bool, true, false, List, [], ◌∷◌, ◌++◌, length, map, Some, refl, sym, subst, arith}
use Rattle.std.specs.Prelude.{All, if◌then◌else◌, nat_le, slice_get, Option}
use Rattle.std.proofs.lemmas.List.{length-map}
use Rattle.std.proofs.lemmas.List.Elements.{All-append, All-cons, All-nil}
use Rattle.al_base.specs.declared.place.Place.{Place}
use Rattle.al_tree.specs.declared.type_tree.TypeTree.{TypeTree}
use Rattle.al_tree.specs.declared.statement.Stmt.{Stmt}
use Rattle.al_tree.specs.declared.item.Head.{Head}
use Rattle.al_tree.specs.declared.item.Item.TheVariants as item
use Rattle.al_tree.specs.declared.item.Scope.{Scope}
use Rattle.al_tree.specs.declared.item.Tree.{Tree}
use Rattle.al_tree_walks.specs.Statements.{own_branches}
use Rattle.al_rules.specs.Outcome.{Good}
use Rattle.al_flow.specs.declared.target.Target.{Target}
use Rattle.al_flow.specs.Flow.{targets}
use Rattle.al_typed.specs.declared.program.Function.{Function}
use Rattle.al_typed.specs.declared.statement.TStmt.{TStmt}
use Rattle.al_typed.specs.WellTyped.{is_sound}
use Rattle.al_sound_types.specs.Types.{types_hold}
use Rattle.al_environment.specs.declared.numbered.Numbered.{Numbered}
use Rattle.al_environment.specs.declared.environment.Environment.{Environment}
use Rattle.al_environment.specs.declared.environment.Here.{Here}
use Rattle.al_declare.specs.declared.function.Defined.{Defined}
use Rattle.al_branches.specs.Numbers.{numbers_of}
use Rattle.al_body_parts.specs.declared.parts.WrittenText.{WrittenText}
use Rattle.al_body_parts.specs.Statements.{parts}
use Rattle.al_type_stmt.specs.declared.within.Within.{Within}
use Rattle.al_type_stmt.specs.Iterators.{numbered_at}
use Rattle.al_type_stmt.specs.Statements.{statement}
use Rattle.al_type_function.specs.declared.numbers.FunctionNumbers.{FunctionNumbers}
use Rattle.al_type_function.specs.declared.branch.NumberedBranch.{NumberedBranch}
use Rattle.al_type_function.specs.declared.function.TypedFunction.{TypedFunction}
use Rattle.al_type_function.specs.Locals.{frame_of, locals_faults, result_faults, rule_18_locals, types_faults}
use Rattle.al_type_function.specs.Texts.{bytes_in, numbered}
use Rattle.al_type_function.specs.Branches.{branches, with_body}
use Rattle.al_type_function.specs.Functions.{bodies, completed, faults_of, function, function_frame, here_of, in_branches, opened, opened_in, opened_with, site_of, typed_with, within_of}
use Rattle.al_sound_rows.specs.Unnamed.{Opened}
use Rattle.al_sound_rows.specs.Units.{IsFunction, at_head, signature_of}
use Rattle.al_sound_rows.proofs.Outcomes.{after_pair, asked_none, good_is, judged_good, none_left}
use Rattle.al_sound_rows.proofs.TypedAre.{Typed, branches_typed}

-- ---- the numbers of string constants

abbrev pub IsBelow : ℕ → Numbered → Type 0
IsBelow most m = m.number < most

one_below : (b : Bool) (most : ℕ) (m : Numbered) → m.number < most → All (IsBelow most) (if b then m ∷ [] else [])
one_below true most m h = All-cons (IsBelow most) m [] h (All-nil (IsBelow most))
one_below false most m h = All-nil (IsBelow most)

texts_below : (most from : ℕ) (ts : List WrittenText) → from + length ts ≤ most → All (IsBelow most) (numbered from ts)
unfolding numbered
texts_below most from [] h = All-nil (IsBelow most)
texts_below most from (t ∷ ts) h =
    All-append (IsBelow most) (numbered_at from t.at) (numbered (from + 1) ts)
    (one_below (nat_le from 4294967295) most (record { at = t.at; number = from }) (omega arith)) (texts_below most (from + 1) ts (omega arith))

-- ---- a function

abbrev here_in_body : Opened → Here
here_in_body o = here_of o.own o.variables o.numbered

-- a function with the branches in it, of which each is typed where it stands
pub record IsMade (env : Environment) (tree : Tree) (ds : List Defined) (strings k : ℕ) (f : Function) (bs : List NumberedBranch) : Type 0 where
  pub within : Within
  pub here : Here
  pub body : Stmt
  pub is : IsFunction env tree ds strings k f within here body
  pub typed : Typed env tree.names (in_branches within) (site_of here k) (own_branches body) bs

-- the item of a definition
pub record IsDefinedBy (tree : Tree) (ds : List Defined) (k : ℕ) (d : Defined) (base : TypeTree) (head : Head) (body : Stmt) : Type 0 where
  pub defined : slice_get ds k ≡ Some d
  pub at : Place
  pub scope : Option Scope
  pub item : slice_get tree.items d.item ≡ Some (item.Function at scope base head body)

module _ (env : Environment) (tree : Tree) (ds : List Defined) (strings k : ℕ) (d : Defined) (texts : ℕ) where
  abbrev numbers : FunctionNumbers
  numbers = record { number = k; instance = d.instance; texts = texts }

  -- before its body is typed
  abbrev Makes : TypeTree → Head → Stmt → Opened → Type 0
  Makes base head body o = (ts : List Target) (typed : TStmt) (bs : List NumberedBranch) → targets body ≡ Good ts
      → statement (within_of o ts (numbers_of tree.items ds k d)) env (here_in_body o) body ≡ Good typed
      → branches env tree.names (in_branches (within_of o ts (numbers_of tree.items ds k d))) body (site_of (here_in_body o) k) [] ≡ Good bs → texts + length o.texts ≤ strings
      → IsMade env tree ds strings k (with_body o.outline typed) bs

  opened_makes : (base : TypeTree) (head : Head) (body : Stmt) (o : Opened) → IsDefinedBy tree ds k d base head body
      → opened_in env tree.names numbers base head body (at_head env head d) ≡ Good o → Makes base head body o
  unfolding opened_in opened_with frame_of
  opened_makes base head body o by e =
      let rows = env.aggregates in
      let s = signature_of env d base head in
      let p = parts env (at_head env head d) body in
      let f = function_frame env tree.names head body s p in
      let made = opened_with tree.names numbers head (at_head env head d).own s.returns p f in
      let at = head.name.at in
      let locals_asked = locals_faults rows at f.locals in
      let types_asked = types_faults rows at f.locals p.types in
      let result_asked = result_faults rows at s.returns in
      let j = judged_good (faults_of env head s.returns p f) made o e in
      let behind = none_left p.faults (locals_asked ++ (types_asked ++ result_asked)) j.0 in
      let none = none_left locals_asked (types_asked ++ result_asked) behind.1 in
      let last = none_left types_asked result_asked none.1 in
      let small = asked_none 18 at (rule_18_locals rows f.locals) none.0 in
      let holds = asked_none 18 at (types_hold rows f.locals p.types) last.0 in
      let sound = asked_none 18 at (is_sound rows s.returns) last.1 in
      let own_texts : length (map bytes_in p.texts) ≡ length p.texts = length-map p.texts bytes_in in
      subst (Makes base head body) j.1 (λ ts typed bs flow t g few. record {
        within = within_of made ts (numbers_of tree.items ds k d);
        here = here_in_body made;
        body = body;
        is = record {
          defined = d;
          is = by.defined;
          at = by.at;
          scope = by.scope;
          base = base;
          head = head;
          stands = by.item;
          flow = flow;
          branches = refl;
          typed = record { body = t; returns = refl; locals = refl; variables = refl; labels = refl; own = refl; iterators = refl; small = small; sound = holds };
          faultless = behind.0;
          returns = refl;
          sound = sound;
          parameters = refl;
          around = refl;
          outermost = refl;
          texts = texts_below strings texts p.texts (omega arith);
        };
        typed = branches_typed env tree.names (in_branches (within_of made ts (numbers_of tree.items ds k d))) body (site_of (here_in_body made) k) bs g;
      })

  pub function_made : (base : TypeTree) (head : Head) (body : Stmt) (t : TypedFunction) → IsDefinedBy tree ds k d base head body
      → function env tree.names numbers (numbers_of tree.items ds k d) base head body ≡ Good t → texts + length t.texts ≤ strings → IsMade env tree ds strings k t.function t.branches
  unfolding function completed bodies
  function_made base head body t by e few =
      let ns = numbers_of tree.items ds k d in
      let a = after_pair (opened env tree.names numbers base head body) (targets body) (λ p. completed env tree.names k ns body p.0 p.1) t e in
      let o : Opened = a.0 in
      let w : Within = within_of o a.1 ns in
      let here : Here = here_in_body o in
      let c = after_pair (statement w env here body) (branches env tree.names (in_branches w) body (site_of here k) []) (λ p. Good (typed_with o p)) t a.4 in
      let made : typed_with o (c.0, c.1) ≡ t = good_is {a = typed_with o (c.0, c.1)} {b = t} c.4 in
      subst (λ (u : TypedFunction). IsMade env tree ds strings k u.function u.branches) made
      (opened_makes base head body o by a.2 a.1 c.0 c.1 a.3 c.2 c.3 (subst (λ (u : TypedFunction). texts + length u.texts ≤ strings) {y = typed_with o (c.0, c.1)} (sym made) few))
