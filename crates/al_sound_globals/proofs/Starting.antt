-- What a global starts with stands in ascending order.
use Rattle.std.proofs.Common.{◌≡◌, ℕ, zero, suc, ◌+◌, Bool, true, List, [], ◌∷◌, map, Option, Some, None, refl, sym, ◌∙◌, subst, arith}
use Rattle.std.specs.Prelude.{fold, slice_get, slice_set, unwrap_or}
use Rattle.al_base.specs.declared.place.Place.{Place}
use Rattle.al_tree.specs.declared.item.Initializer.{Initializer}
use Rattle.al_tree.specs.declared.item.Declarator.{Declarator}
use Rattle.al_tree.specs.declared.item.Declarator.TheVariants as declarator
use Rattle.al_tree.specs.declared.item.Item.{Item}
use Rattle.al_tree.specs.declared.item.Item.TheVariants as item
use Rattle.al_rules.specs.Outcome.{Outcome, Good, Bad, and_then, both}
use Rattle.al_scope.specs.Firsts.{declaration_at}
use Rattle.al_typed.specs.declared.program.StartValue.{StartValue}
use Rattle.al_typed.specs.Layout.{IsLaidOut, size_of}
use Rattle.al_typed.specs.WellTyped.{is_stored}
use Rattle.al_environment.specs.declared.environment.Environment.{Environment}
use Rattle.al_environment.specs.declared.environment.Here.{Here}
use Rattle.al_environment.specs.declared.environment.Variable.{Variable}
use Rattle.al_initial.specs.Initializers.{initializer}
use Rattle.al_initial.specs.Walks.{Starts, global_in, global_start, known_start, numbered_start, started_by, started_if, started_in, with_start}
use Rattle.al_initial.specs.Whole.{no_start}
use Rattle.al_sound_operators.specs.Typed.{IfGood}
use Rattle.al_sound_programs.specs.Starts.{MembersAreStored}
use Rattle.al_sound_programs.proofs.SmallTypes.{stored_small}
use Rattle.al_sound_globals.proofs.Ascending.{Ascend, initializers_ascend}

some_is : {A : Type 0} {a b : A} → Some a ≡ Some b → a ≡ b
some_is h = cc

abbrev at_or : {A : Type 0} → A → List A → ℕ → A
at_or none xs k = unwrap_or (slice_get xs k) none

-- what stands at a number in a list where something was set: that, or what stood there
set_at : {A : Type 0} (P : ℕ → A → Type 0) (none : A) (xs : List A) (n k : ℕ) (x : A) → P n x → P k (at_or none xs k) → P k (at_or none (slice_set xs n x) k)
set_at P none [] n k x h g = g
set_at P none (y ∷ xs) zero zero x h g = h
set_at P none (y ∷ xs) zero (suc k) x h g = g
set_at P none (y ∷ xs) (suc n) zero x h g = g
set_at P none (y ∷ xs) (suc n) (suc k) x h g = set_at (λ j a. P (suc j) a) none xs n k x h g

pub none_start : (vs : List Variable) (k : ℕ) → at_or [] (map no_start vs) k ≡ []
none_start [] k = refl
none_start (v ∷ vs) zero = refl
none_start (v ∷ vs) (suc k) = none_start vs k

module _ (env : Environment) (here : Here) (marks : List Bool) (laid : IsLaidOut env.aggregates) (members : MembersAreStored env.aggregates)
    (stored : (k : ℕ) (v : Variable) → slice_get env.globals k ≡ Some v → is_stored env.aggregates v.ty ≡ true) where
  -- what the global of a number starts with
  abbrev StartsWith : ℕ → List StartValue → Type 0
  StartsWith k vs = (v : Variable) → slice_get env.globals k ≡ Some v → Ascend 0 (0 + size_of env.aggregates v.ty) vs

  abbrev pub AllAscend : Starts → Type 0
  AllAscend s = (k : ℕ) → StartsWith k (at_or [] s k)

  abbrev IsStarted : ℕ × List StartValue → Type 0
  IsStarted s = StartsWith s.0 s.1

  none_ascend : AllAscend (map no_start env.globals)
  none_ascend k v is = subst (Ascend 0 (0 + size_of env.aggregates v.ty)) (sym (none_start env.globals k)) tt

  with_values : (i : Initializer) (n : ℕ) (v : Variable) (o : Outcome (List StartValue)) → slice_get env.globals n ≡ Some v → initializer env here marks i v.ty 0 ≡ o → IfGood (and_then o (λ values. Good (n, values))) IsStarted
  with_values i n v (Bad fs) is e = tt
  with_values i n v (Good vs) is e = λ u at.
      let one : v ≡ u = some_is (sym is ∙ at) in
      subst (λ (w : Variable). Ascend 0 (0 + size_of env.aggregates w.ty) vs) one
      (initializers_ascend env here marks laid members i v.ty 0 vs (stored n v is) (let small = stored_small env.aggregates v.ty (stored n v is) in omega (arith, small)) e)

  of_known : (at : Place) (i : Initializer) (n : ℕ) (o : Option Variable) → slice_get env.globals n ≡ o → IfGood (known_start env here marks at i n o) IsStarted
  of_known at i n None is = tt
  of_known at i n (Some v) is = with_values i n v (initializer env here marks i v.ty 0) is refl

  of_number : (at : Place) (i : Initializer) (o : Option ℕ) → IfGood (numbered_start env here marks at i o) IsStarted
  of_number at i None = tt
  of_number at i (Some n) = of_known at i n (slice_get env.globals n) refl

  of_global : (at : Place) (i : Initializer) → IfGood (global_start env here marks at i) IsStarted
  unfolding global_start
  of_global at i = of_number at i (global_in (declaration_at env.scopes.names at))

  put : (a : Outcome Starts) (b : Outcome (ℕ × List StartValue)) → IfGood a AllAscend → IfGood b IsStarted → IfGood (both a b with_start) AllAscend
  put (Good s) (Good x) h g = λ k. set_at StartsWith [] s x.0 k x.1 g (h k)
  put (Good s) (Bad fs) h g = tt
  put (Bad fs) (Good x) h g = tt
  put (Bad fs) (Bad gs) h g = tt

  by_value : (s : Outcome Starts) (at : Place) (o : Option Initializer) → IfGood s AllAscend → IfGood (started_if env here marks s at o) AllAscend
  by_value s at None h = h
  by_value s at (Some i) h = put s (global_start env here marks at i) h (of_global at i)

  by_declarator : (s : Outcome Starts) (x : Declarator) → IfGood s AllAscend → IfGood (started_by env here marks s x) AllAscend
  by_declarator s (declarator.Global dcl value) h = by_value s dcl.name.at value h
  by_declarator s (declarator.Function head) h = h

  by_list : (ds : List Declarator) (s : Outcome Starts) → IfGood s AllAscend → IfGood (fold (started_by env here marks) s ds) AllAscend
  by_list [] s h = h
  by_list (x ∷ ds) s h = by_list ds (started_by env here marks s x) (by_declarator s x h)

  by_item : (i : Item) (s : Outcome Starts) → IfGood s AllAscend → IfGood (started_in env here marks s i) AllAscend
  unfolding started_in
  by_item (item.Declare at scope base list) s h = by_list list s h
  by_item _ s h = h

  by_items : (is : List Item) (s : Outcome Starts) → IfGood s AllAscend → IfGood (fold (started_in env here marks) s is) AllAscend
  by_items [] s h = h
  by_items (i ∷ is) s h = by_items is (started_in env here marks s i) (by_item i s h)

  pub all_ascend : (is : List Item) → IfGood (fold (started_in env here marks) (Good (map no_start env.globals)) is) AllAscend
  all_ascend is = by_items is (Good (map no_start env.globals)) none_ascend
