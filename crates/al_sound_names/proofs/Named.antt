-- The names in a unit stand for what the program has.
use Rattle.std.proofs.Common.{◌≡◌, ℕ, zero, suc, ◌+◌, ◌≤◌, Bool, true, false, ◌&&◌, List, [], ◌∷◌, length, Option, Some, None, refl, sym, ap, ◌∙◌, subst, arith}
use Rattle.std.specs.Prelude.{All, Contains, slice_get}
use Rattle.al_base.specs.declared.place.Place.{Place}
use Rattle.al_tree.specs.declared.expression.Expr.{Expr}
use Rattle.al_tree.specs.declared.item.Tree.{Tree}
use Rattle.al_tree.specs.declared.statement.Stmt.{Stmt}
use Rattle.al_tree_walks.specs.Expressions.{addressed_places, name_places}
use Rattle.al_tree_walks.specs.Statements.{own_expressions}
use Rattle.al_scope.specs.declared.declaration.Declaration.{Declaration}
use Rattle.al_scope.specs.declared.declaration.Declaration.TheVariants as declaration
use Rattle.al_scope.specs.Firsts.{declaration_at}
use Rattle.al_typed.specs.declared.expression.TPlace.TheVariants as place
use Rattle.al_typed.specs.declared.program.Function.{Function}
use Rattle.al_typed.specs.declared.program.Local.{Local}
use Rattle.al_typed.specs.declared.program.Program.{Program}
use Rattle.al_typed.specs.declared.ty.Ty.{Ty}
use Rattle.al_typed.specs.Types.{is_complete}
use Rattle.al_typed.specs.WellTyped.{IsPlace, Scope, is_sound, is_stored, names_in}
use Rattle.al_declare.specs.declared.function.Defined.{Defined}
use Rattle.al_environment.specs.declared.environment.Environment.{Environment}
use Rattle.al_environment.specs.declared.environment.Here.{Here}
use Rattle.al_environment.specs.declared.environment.Round.{Round}
use Rattle.al_environment.specs.declared.environment.Variable.{Variable}
use Rattle.al_environment.specs.Lookups.{local}
use Rattle.al_shared.specs.Statements.{shared}
use Rattle.al_type_function.specs.Locals.{variable}
use Rattle.al_type_function.specs.Numbers.{indexed}
use Rattle.al_type_stmt.specs.declared.within.Within.{Within}
use Rattle.al_body_parts.specs.Statements.{parts}
use Rattle.al_sound_operators.specs.Typed.{IsSoundPlace}
use Rattle.al_sound_nodes.specs.Nodes.{IsReached}
use Rattle.al_sound_statements.specs.Named.{IsReachedAt, IsSharedAt}
use Rattle.al_sound_programs.proofs.Frames.{IsStoredLocal, locals_hold}
use Rattle.al_sound_rows.specs.Units.{IsTypedFrom, IsUnit, at_head, of_branch, of_function}
use Rattle.al_sound_rows.specs.Unnamed.{Declared}
use Rattle.al_sound_rows.proofs.KnownAre.{is_known}
use Rattle.al_sound_rows.proofs.RoundsAre.{round_is}
use Rattle.al_sound_shared.proofs.SharedAre.{shared_are_marked}
use Rattle.al_sound_names.proofs.Indexed.{some_is}
use Rattle.al_sound_names.proofs.Units.{IsVariable, round_number, variable_is}
use Rattle.al_sound_names.proofs.Walks.{statement_holds}

-- ---- what a unit was typed from

pub record TypedUnit (env : Environment) (tree : Tree) (w : Within) (here : Here) (u : Stmt) (f : Function) : Type 0 where
  pub outside : Here
  pub declared : List Declared
  pub typed : IsTypedFrom env tree.names w outside here declared u f

pub length_indexed : {A B : Type 0} (f : ℕ → A → B) (from : ℕ) (xs : List A) → length (indexed f from xs) ≡ length xs
unfolding indexed
length_indexed f from [] = refl
length_indexed f from (x ∷ xs) = ap suc (length_indexed f (from + 1) xs)

both_true : (a b : Bool) → (a && b) ≡ true → (a ≡ true) × (b ≡ true)
both_true true true e = (refl, refl)
both_true true false e = absurd (cc)
both_true false b e = absurd (cc)

all_at : {A : Type 0} (P : A → Type 0) (xs : List A) (n : ℕ) (x : A) → All P xs → slice_get xs n ≡ Some x → P x
all_at P [] n x h e = absurd (cc)
all_at P (y ∷ xs) zero x h e = subst P (some_is e) (h 0 y (omega arith))
all_at P (y ∷ xs) (suc n) x h e = all_at P xs n x (λ k d lt. h (suc k) d (omega (arith, lt))) e

module _ (env : Environment) (tree : Tree) (ds : List Defined) (strings : ℕ) (p : Program) (aggregates : p.aggregates ≡ env.aggregates) where
  abbrev pub Unit_of : ℕ → Function → Within → Here → Stmt → Type 0
  Unit_of = IsUnit env tree ds strings p.functions

  -- each unit has fewer variables than 32 bits have numbers
  abbrev pub AreRoomy : Type 0
  AreRoomy = (number : ℕ) (f : Function) (w : Within) (here : Here) (u : Stmt) → Unit_of number f w here u → length here.locals ≤ 4294967295

  pub typed_of : (number : ℕ) (f : Function) (w : Within) (here : Here) (u : Stmt) → Unit_of number f w here u → TypedUnit env tree w here u f
  typed_of _ _ _ _ _ (of_function number f w here u stands is) = record { outside = at_head env is.head is.defined; declared = _; typed = is.typed }
  typed_of _ _ _ _ _ (of_branch outer g v there s number f w here u parent stands is) = record { outside = there; declared = _; typed = is.typed }

  module _ (few : length p.functions ≤ 4294967296) (roomy : AreRoomy) where
    pub variable_of : (number : ℕ) (f : Function) (w : Within) (here : Here) (u : Stmt) → Unit_of number f w here u → (n : ℕ) (v : Variable) → slice_get here.locals n ≡ Some v
        → IsVariable env here u f (length here.locals) n v
    variable_of number f w here u is n v e =
        let t = typed_of number f w here u is in
        let same : length t.declared ≡ length here.locals = sym (ap length t.typed.variables ∙ length_indexed variable 0 t.declared) in
        let room = roomy number f w here u is in
        subst (λ count. IsVariable env here u f count n v) same (variable_is env tree.names w t.outside here t.declared u f t.typed (omega (arith, same, room)) n v e)

    -- the locals of a unit are stored
    pub stored_at : (number : ℕ) (f : Function) (w : Within) (here : Here) (u : Stmt) → Unit_of number f w here u → (n : ℕ) (l : Local) → slice_get f.locals n ≡ Some l
        → is_stored p.aggregates l.ty ≡ true
    stored_at number f w here u is n l e =
        let t = typed_of number f w here u is in
        subst (λ rows. is_stored rows l.ty ≡ true) (sym aggregates)
        (all_at (IsStoredLocal env.aggregates) f.locals n l (locals_hold env.aggregates f.locals (parts env t.outside u).types t.typed.sound) e)

    sound_of : (t : Ty) → is_stored p.aggregates t ≡ true → is_sound p.aggregates t ≡ true
    sound_of t h = (both_true (is_sound p.aggregates t) (is_complete p.aggregates t) h).0

    abbrev pub scope_in : Function → ℕ → Scope
    scope_in f iterators = record { names = names_in p f; iterators = iterators }

    -- ---- locals

    pub local_sound : (number : ℕ) (f : Function) (w : Within) (here : Here) (u : Stmt) → Unit_of number f w here u → (iterators n : ℕ) (v : Variable) → local here n ≡ Some v
        → IsSoundPlace (scope_in f iterators) (place.Local v.ty v.number)
    unfolding IsPlace
    local_sound number f w here u is iterators n v e =
        let x = variable_of number f w here u is n v e in
        record {
          place = (x.row, (ap (slice_get f.locals) x.number ∙ x.is, x.ty));
          sound = subst (λ t. is_sound p.aggregates t ≡ true) x.ty (sound_of x.row.ty (stored_at number f w here u is n x.row x.is));
        }

    pub address_shared : (number : ℕ) (f : Function) (w : Within) (here : Here) (u : Stmt) → Unit_of number f w here u → (iterators : ℕ) (e : Expr) → Contains (own_expressions u) e
        → (at : Place) → Contains (addressed_places e) at → IsSharedAt (scope_in f iterators) env here at
    address_shared number f w here u is iterators e among at named n v stands there =
        let x = variable_of number f w here u is n v there in
        let marked = shared_are_marked.addressed env.scopes.names (length here.around) (length here.locals) u e at n among named stands x.below in
        (x.row, (ap (slice_get f.locals) x.number ∙ x.is, x.shared marked))

    -- ---- locals of the units round a branch

    outer_sound : (number : ℕ) (f : Function) (w : Within) (here : Here) (u : Stmt) → Unit_of number f w here u → (iterators : ℕ) (e : Expr) → Contains (own_expressions u) e
        → (at : Place) → Contains (name_places e) at → (k n : ℕ) → declaration_at env.scopes.names at ≡ Some (declaration.Outer k n)
        → IsReached (scope_in f iterators) here (Some (declaration.Outer k n))
    unfolding IsPlace
    outer_sound number f w here u is iterators e among at named k n stands r v around there =
        let o = round_is env tree ds strings p.functions number f w here u is k r around in
        let x = variable_of o.outer o.g o.v o.there o.s o.unit n v (ap (λ (y : Round). slice_get y.locals n) (sym o.is) ∙ there) in
        let in_it = (statement_holds u).own e among in
        let marked : slice_get (shared env.scopes.names (length o.there.around) (length o.there.locals) o.s) n ≡ Some true =
        shared_are_marked.outer env.scopes.names (length o.there.around) (length o.there.locals) o.s u e at n o.inner in_it named
        (stands ∙ ap (λ i. Some (declaration.Outer i n)) (sym o.depth)) x.below in
        record {
          place = record {
            outer = o.outer;
            is_round = ap (slice_get f.around) (round_number env tree ds strings p.functions few f u k r o) ∙ o.stands;
            function = o.g;
            is_there = (is_known env tree ds strings p.functions o.outer o.g o.v o.there o.s o.unit).row;
            var = x.row;
            is_local = ap (slice_get o.g.locals) x.number ∙ x.is;
            is_shared = x.shared marked;
            is = x.ty;
          };
          sound = subst (λ t. is_sound p.aggregates t ≡ true) x.ty (sound_of x.row.ty (stored_at o.outer o.g o.v o.there o.s o.unit n x.row x.is));
        }

    pub name_reached : (number : ℕ) (f : Function) (w : Within) (here : Here) (u : Stmt) → Unit_of number f w here u → (iterators : ℕ) (e : Expr) → Contains (own_expressions u) e
        → (at : Place) → Contains (name_places e) at → IsReachedAt (scope_in f iterators) env here at
    name_reached number f w here u is iterators e among at named = on (declaration_at env.scopes.names at) refl
      where
        on : (d : Option Declaration) → declaration_at env.scopes.names at ≡ d → IsReached (scope_in f iterators) here d
        on None q = tt
        on (Some (declaration.Global n)) q = tt
        on (Some (declaration.Function n)) q = tt
        on (Some (declaration.Constant n)) q = tt
        on (Some (declaration.Local n)) q = tt
        on (Some (declaration.Outer k n)) q = outer_sound number f w here u is iterators e among at named k n q
        on (Some declaration.Print) q = tt
        on (Some declaration.Terminate) q = tt
