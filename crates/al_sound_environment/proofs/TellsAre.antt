-- The environment of a text tells of any names.
use Rattle.std.proofs.Common.{◌≡◌, ℕ, ◌<◌, ◌≤◌, Bool, true, false, ◌&&◌, ◌||◌, cond, List, [], ◌∷◌, Option, Some, None, arith, refl, sym, ap, subst, ◌∙◌}
use Rattle.std.specs.Prelude.{find, nat_eq, slice_get}
use Rattle.std.specs.List.{list_all}
use Rattle.std.proofs.lemmas.List.Sums.{AllPass-from_list_all}
use Rattle.al_tree.specs.declared.item.Tree.{Tree}
use Rattle.al_rules.specs.Outcome.{Good}
use Rattle.al_scope.specs.declared.declaration.Declaration.{Declaration}
use Rattle.al_scope.specs.declared.declaration.Declaration.TheVariants as declaration
use Rattle.al_scope.specs.declared.declaration.Scopes.{Scopes}
use Rattle.al_scope.specs.Items.{resolved}
use Rattle.al_typed.specs.declared.program.Aggregate.{Aggregate}
use Rattle.al_typed.specs.declared.ty.Ty.{Ty}
use Rattle.al_typed.specs.declared.ty.Ty.TheVariants as ty
use Rattle.al_typed.specs.declared.expression.TPlace.TheVariants as place
use Rattle.al_typed.specs.Layout.{members_of}
use Rattle.al_typed.specs.Types.{is_complete, is_void, is_whole}
use Rattle.al_typed.specs.WellTyped.{IsPlace, is_sound, is_stored}
use Rattle.al_poly.specs.declared.instance.Instance.{Instance}
use Rattle.al_declare.specs.Functions.{functions as functions_of}
use Rattle.al_environment.specs.declared.environment.Environment.{Environment}
use Rattle.al_environment.specs.declared.environment.Here.{Here}
use Rattle.al_environment.specs.declared.environment.MemberNames.{MemberNames}
use Rattle.al_environment.specs.declared.environment.NamedFunction.{NamedFunction}
use Rattle.al_environment.specs.declared.environment.Signature.{Signature}
use Rattle.al_environment.specs.declared.environment.Variable.{Variable}
use Rattle.al_environment.specs.Lookups.{function, function_named, functions_in}
use Rattle.al_form.specs.Forms.{forms}
use Rattle.al_globals.specs.Numbers.{numbers}
use Rattle.al_sound_types.specs.Environment.{functions_hold, is_global, method_holds, signature_holds}
use Rattle.al_sound_types.specs.Types.{is_part, is_returned}
use Rattle.al_build_environment.specs.Whole.{environment, types_of}
use Rattle.al_sound_operators.specs.Typed.{IsSoundPlace}
use Rattle.al_sound_nodes.specs.Nodes.{Calls, IsFunctionOf, IsGlobalOf, IsReached, Tells, is_passed}
use Rattle.al_sound_environment.specs.Members.{AreOwn, AreStored, HaveMembers}
use Rattle.al_sound_environment.specs.Tells.{EnvironmentTells, HasStored, any_scope, bodies_in}
use Rattle.al_sound_environment.proofs.Lists.{all_at, and_both, both, every_at, some_is}
use Rattle.al_sound_environment.proofs.Forms.{sound-Function, sound-Pointer}
use Rattle.al_sound_environment.proofs.RowsAre.{rows_of}
use Rattle.al_sound_environment.proofs.OrdersAre.{are_forms}
use Rattle.al_sound_environment.proofs.MembersAre.{members_are_sound}
use Rattle.al_sound_environment.proofs.OwnAre.{own_are}
use Rattle.al_sound_environment.proofs.NumbersAre.{found_numbered, numbers_below}
use Rattle.al_sound_environment.proofs.ConstantsAre.{constants_are_within}
use Rattle.al_sound_environment.proofs.WholeIs.{Holds, IsBuilt, holds_are, is_built, members_stored}

-- the types of a function
record IsSoundSignature (rows : List Aggregate) (f : Signature) : Type 0 where
  sound : is_sound rows f.returns ≡ true
  whole : (is_void f.returns || is_whole rows f.returns) ≡ true
  passed : list_all (is_passed rows) f.parameters ≡ true

signature_is : (rows : List Aggregate) (f : Signature) → signature_holds rows f ≡ true → IsSoundSignature rows f
unfolding is_returned
signature_is rows f h =
    let a = and_both (is_sound rows f.returns && is_returned rows f.returns) (list_all (is_part rows) f.parameters) h in
    let b = and_both (is_sound rows f.returns) (is_returned rows f.returns) a.0 in
    record { sound = b.0; whole = b.1; passed = a.1 }

found_true : {A : Type 0} (p test : A → Bool) (xs : List A) (x : A) → find test xs ≡ Some x → list_all p xs ≡ true → p x ≡ true
found_true p test [] x h all = absurd (cc)
found_true p test (y ∷ ys) x h all = go (test y) h (λ e. found_true p test ys x e (and_both (p y) _ all).1)
  where
    go : (b : Bool) → cond b (Some y) (find test ys) ≡ Some x → (find test ys ≡ Some x → p x ≡ true) → p x ≡ true
    go true h rest = subst (λ z. p z ≡ true) (some_is h) (and_both (p y) _ all).0
    go false h rest = rest h

stored_at : (rows : List Aggregate) → ((k : ℕ) (a : Aggregate) → slice_get rows k ≡ Some a → list_all (is_stored rows) (members_of (Some a)) ≡ true) → AreStored rows
stored_at rows h n i t e = go (slice_get rows n) refl e
  where
    go : (o : Option Aggregate) → slice_get rows n ≡ o → slice_get (members_of o) i ≡ Some t → is_stored rows t ≡ true
    go None is e = absurd (cc)
    go (Some a) is e = all_at (is_stored rows) (members_of (Some a)) i t e (h n a is)

sound_of : (rows : List Aggregate) (t : Ty) → is_stored rows t ≡ true → is_sound rows t ≡ true
sound_of rows t h = (and_both (is_sound rows t) (is_complete rows t) h).0

module _ (tree : Tree) (is : List Instance) (scopes : Scopes) (env : Environment) (b : IsBuilt tree is scopes env) (h : Holds env) where
  stored : AreStored env.aggregates
  stored = stored_at env.aggregates (members_stored env h)

  have : HaveMembers (forms tree is) b.laid.numbers env.aggregates b.laid.forms
  have =
      subst (λ rows. HaveMembers (forms tree is) b.laid.numbers rows b.laid.forms) (sym b.rows_are)
      (members_are_sound.have_members (forms tree is) b.laid.numbers b.laid.forms b.laid.aggregates (are_forms (forms tree is) b.laid b.laid_is) (rows_of (forms tree is) b.laid b.laid_is))

  own : AreOwn b.own
  own = own_are (types_of tree (forms tree is) scopes b.laid) tree.items (functions_of tree.items is) (forms tree is) b.laid.numbers b.own b.own_is

  method_is : (aggregate name : ℕ) (f : NamedFunction) → function_named env aggregate name ≡ Some f → IsSoundSignature env.aggregates f.signature
  unfolding function_named
  method_is aggregate name f e = signature_is env.aggregates f.signature (go (slice_get env.names aggregate) refl e)
    where
      go : (o : Option MemberNames) → slice_get env.names aggregate ≡ o → find (λ (x : NamedFunction). nat_eq x.name name) (functions_in o) ≡ Some f → method_holds env.aggregates f ≡ true
      go None at e = absurd (cc)
      go (Some x) at e =
          found_true (method_holds env.aggregates) (λ (y : NamedFunction). nat_eq y.name name) x.functions f e (all_at (functions_hold env.aggregates) env.names aggregate x at h.methods)

  number_is : (n number : ℕ) (f : Signature) → function env n ≡ Some f → f.number ≡ Some number → number < bodies_in tree is
  number_is n number f at e =
      let ns = numbers tree.names tree.items (functions_of tree.items is) in
      let below = numbers_below tree.names tree.items (functions_of tree.items is) in
      let all = found_numbered (types_of tree (forms tree is) scopes b.laid) ns (bodies_in tree is) below tree b.found b.found_is in
      every_at _ b.found.functions n f (ap (λ (l : List Signature). slice_get l n) (sym b.functions_are) ∙ at) all number e

  module _ (strings functions iterators : ℕ) (many : bodies_in tree is ≤ functions) where
    calls_of : (f : Signature) (number : ℕ) (given : List Ty) → IsSoundSignature env.aggregates f → Calls (any_scope env strings functions iterators) f number given
    calls_of f number given s = record {
      takes = s.sound;
      sound = s.sound;
      whole = s.whole;
      passed = AllPass-from_list_all (is_passed env.aggregates) f.parameters s.passed;
    }

    function_of : (n number : ℕ) (f : Signature) → function env n ≡ Some f → f.number ≡ Some number → IsFunctionOf (any_scope env strings functions iterators) f number
    function_of n number f at e =
        let s = signature_is env.aggregates f (all_at (signature_holds env.aggregates) env.functions n f at h.functions) in
        let below = number_is n number f at e in
        record {
          calls = calls_of f number [] s;
          value = (
            sound-Pointer env.aggregates (ty.Function f.returns f.parameters) ∙ sound-Function env.aggregates f.returns f.parameters ∙ both _ _ (both _ _ s.sound s.whole) s.passed,
            omega (arith, below, many),
          );
        }

place_of : (env : Environment) (strings functions iterators : ℕ) (v : Variable) → is_stored env.aggregates v.ty ≡ true
    → IsSoundPlace (any_scope env strings functions iterators) (place.Local v.ty v.number)
unfolding IsPlace
place_of env strings functions iterators v e = record { place = e; sound = sound_of env.aggregates v.ty e }

global_of : (env : Environment) (strings functions iterators : ℕ) (v : Variable) → is_stored env.aggregates v.ty ≡ true
    → IsGlobalOf (any_scope env strings functions iterators) v
unfolding IsPlace
global_of env strings functions iterators v e = record { sound = record { place = e; sound = sound_of env.aggregates v.ty e }; open_to = λ _. tt }

tells_of : (tree : Tree) (is : List Instance) (scopes : Scopes) (env : Environment) → resolved tree ≡ Good scopes → environment tree is scopes ≡ Good env
    → (strings functions iterators : ℕ) → bodies_in tree is ≤ functions → (here : Here) → HasStored env.aggregates here
    → Tells (any_scope env strings functions iterators) env here
tells_of tree is scopes env r e strings functions iterators many here at_hand =
    let b = is_built tree is scopes env e in
    let h = holds_are env b.holds in
    let fs = forms tree is in
    record {
      aggregates = refl;
      globals = λ n v at. global_of env strings functions iterators v (all_at (is_global env.aggregates) env.globals n v at h.globals);
      locals = λ n v at. place_of env strings functions iterators v (at_hand.locals n v at);
      constants = λ n c i at v. constants_are_within.scopes_are tree scopes r n c i (ap (λ (s : Scopes). slice_get s.constants.list n) (sym b.scopes_are) ∙ at) v;
      functions = λ n number f at v. function_of tree is scopes env b h strings functions iterators many n number f at v;
      members = λ a name m at.
          let x = members_are_sound.named fs b.laid.numbers b.laid.forms env.aggregates b.own env (have tree is scopes env b h) (stored tree is scopes env b h) (own tree is scopes env b h) b.names_are a name m at in
          record { leads = x.leads; stored = x.stored };
      methods = λ a name number f at v.
          let x = members_are_sound.owned fs b.laid.numbers b.laid.forms env.aggregates b.own env (have tree is scopes env b h) (stored tree is scopes env b h) (own tree is scopes env b h) b.names_are a name f at in
          record {
            object = ty.Aggregate x.adt;
            leads = x.leads;
            calls = calls_of tree is scopes env b h strings functions iterators many f.signature number _ (method_is tree is scopes env b h a name f at);
          };
    }

reached_of : (env : Environment) (strings functions iterators : ℕ) (here : Here) → HasStored env.aggregates here → (d : Option Declaration)
    → IsReached (any_scope env strings functions iterators) here d
unfolding IsPlace
reached_of env strings functions iterators here at_hand (Some (declaration.Outer k n)) = λ r v around at.
    let e = at_hand.outers k n r v around at in
    record { place = e; sound = sound_of env.aggregates v.ty e }
reached_of env strings functions iterators here at_hand (Some (declaration.Global n)) = tt
reached_of env strings functions iterators here at_hand (Some (declaration.Function n)) = tt
reached_of env strings functions iterators here at_hand (Some (declaration.Constant n)) = tt
reached_of env strings functions iterators here at_hand (Some (declaration.Local n)) = tt
reached_of env strings functions iterators here at_hand (Some declaration.Print) = tt
reached_of env strings functions iterators here at_hand (Some declaration.Terminate) = tt
reached_of env strings functions iterators here at_hand None = tt

pub environment_tells : EnvironmentTells
environment_tells = record { tells = tells_of; reached = reached_of }
