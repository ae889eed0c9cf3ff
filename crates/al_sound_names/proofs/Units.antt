-- The variables of a unit, and the units round it.
use Rattle.std.proofs.Common.{◌≡◌, ℕ, ◌+◌, ◌<◌, ◌≤◌, Bool, true, false, ◌||◌, List, [], ◌∷◌, length, Some, refl, sym, ap, ◌∙◌, arith}
use Rattle.std.specs.Prelude.{slice_get}
use Rattle.std.proofs.lemmas.List.{length-append}
use Rattle.al_tree.specs.declared.item.Tree.{Tree}
use Rattle.al_tree.specs.declared.statement.Stmt.{Stmt}
use Rattle.al_typed.specs.declared.program.Function.{Function}
use Rattle.al_typed.specs.declared.program.Local.{Local}
use Rattle.al_declare.specs.declared.function.Defined.{Defined}
use Rattle.al_environment.specs.declared.environment.Environment.{Environment}
use Rattle.al_environment.specs.declared.environment.Here.{Here}
use Rattle.al_environment.specs.declared.environment.Round.{Round}
use Rattle.al_environment.specs.declared.environment.Variable.{Variable}
use Rattle.al_shared.specs.Statements.{shared}
use Rattle.al_type_function.specs.Locals.{is_marked, local, variable}
use Rattle.al_type_function.specs.Numbers.{capped}
use Rattle.al_type_stmt.specs.declared.within.Within.{Within}
use Rattle.al_sound_rows.specs.Units.{IsRoundOf, IsTypedFrom, IsUnit, of_branch, of_function}
use Rattle.al_sound_rows.proofs.KnownAre.{is_known}
use Rattle.al_sound_rows.specs.Unnamed.{Declared}
use Rattle.al_sound_shared.specs.Marked.{IsMarked}
use Rattle.al_sound_names.proofs.Indexed.{capped_is, get_below, get_indexed, indexed_get}

-- ---- the variables of a unit

-- A variable of that number at hand is the local of that number in the row.
pub record IsVariable (env : Environment) (here : Here) (u : Stmt) (f : Function) (count n : ℕ) (v : Variable) : Type 0 where
  pub number : v.number ≡ n
  pub below : n < count
  pub row : Local
  pub is : slice_get f.locals n ≡ Some row
  pub ty : row.ty ≡ v.ty
  pub shared : IsMarked (shared env.scopes.names (length here.around) count u) n → row.is_shared ≡ true

marked_is : (b c : Bool) → b ≡ true → (b || c) ≡ true
marked_is true c e = refl
marked_is false c e = absurd (cc)

pub variable_is : (env : Environment) (names : List (List ℕ)) (w : Within) (outside here : Here) (ds : List Declared) (u : Stmt) (f : Function) → IsTypedFrom env names w outside here ds u f
    → length ds ≤ 4294967296 → (n : ℕ) (v : Variable) → slice_get here.locals n ≡ Some v → IsVariable env here u f (length ds) n v
variable_is env names w outside here ds u f t few n v e =
    let a = indexed_get variable 0 ds n v (ap (λ vs. slice_get vs n) (sym t.variables) ∙ e) in
    let d : Declared = a.0 in
    let below = get_below ds n d a.1 in
    let plain : 0 + n ≡ n = omega arith in
    let marks = shared env.scopes.names (length here.around) (length ds) u in
    let row : Local = local names marks (0 + n) d in
    let there : slice_get f.locals n ≡ Some row = ap (λ ls. slice_get ls n) t.locals ∙ get_indexed (local names marks) 0 ds n d a.1 in
    record {
      number = sym (ap (λ (x : Variable). x.number) a.2) ∙ ap capped plain ∙ capped_is n (omega (arith, below, few));
      below = below;
      row = row;
      is = there;
      ty = ap (λ (x : Variable). x.ty) a.2;
      shared = λ m. marked_is (is_marked marks (0 + n)) _ (ap (is_marked marks) plain ∙ marked marks n m);
    }
  where
    marked : (bs : List Bool) (k : ℕ) → slice_get bs k ≡ Some true → is_marked bs k ≡ true
    marked bs k m = rw m refl

-- ---- the units round a unit

-- no more are round a unit than rows stand before it
pub few_round : (env : Environment) (tree : Tree) (ds : List Defined) (strings : ℕ) (rows : List Function) (number : ℕ) (f : Function) (w : Within) (here : Here) (u : Stmt)
    → IsUnit env tree ds strings rows number f w here u → length f.around ≤ number
few_round env tree ds strings rows _ _ _ _ _ (of_function number f w here u stands is) = let none = ap length is.around in omega (arith, none)
few_round env tree ds strings rows _ _ _ _ _ (of_branch outer g v there s number f w here u parent stands is) =
    let low = few_round env tree ds strings rows outer g v there s parent in
    let long = length-append g.around (outer ∷ []) in
    let rowed = ap length is.around in
    let behind = is.behind in
    omega (arith, rowed, long, low, behind)

-- what is at hand of the function round a branch has that function's place among those round it
pub round_number : (env : Environment) (tree : Tree) (ds : List Defined) (strings : ℕ) (rows : List Function) → length rows ≤ 4294967296 → (f : Function) (u : Stmt) (k : ℕ) (r : Round)
    → IsRoundOf env tree ds strings rows f u k r → r.number ≡ k
round_number env tree ds strings rows few f u k r o =
    let known = is_known env tree ds strings rows o.outer o.g o.v o.there o.s o.unit in
    let low = few_round env tree ds strings rows o.outer o.g o.v o.there o.s o.unit in
    let below = get_below rows o.outer o.g known.row in
    let level = known.level in
    ap (λ (x : Round). x.number) o.is ∙ capped_is (length o.there.around) (omega (arith, low, below, level, few)) ∙ o.depth
