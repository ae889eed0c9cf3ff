-- The globals of a text that the typing rules accept, and the elements of the channel types that it names.
use Rattle.std.proofs.Common.{◌≡◌, ℕ, zero, suc, ◌+◌, ◌≤◌, Bool, true, false, List, [], ◌∷◌, map, length, flat_map, fold, Option, Some, refl, sym, ap, ◌∙◌, subst, arith}
use Rattle.std.specs.Prelude.{All, if◌then◌else◌, nat_le, slice_get, unwrap_or}
use Rattle.std.proofs.lemmas.Bool.Decides.{nat_tests}
use Rattle.std.proofs.lemmas.List.Elements.{All-cons, All-head, All-nil, All-tail, All-weaker}
use Rattle.std.proofs.lemmas.Option.{slice_get_within}
use Rattle.al_tree.specs.declared.item.Tree.{Tree}
use Rattle.al_rules.specs.Outcome.{Good, and_then}
use Rattle.al_scope.specs.declared.declaration.Scopes.{Scopes}
use Rattle.al_scope.specs.Items.{resolved}
use Rattle.al_typed.specs.declared.program.Function.{Function}
use Rattle.al_typed.specs.declared.program.Global.{Global}
use Rattle.al_typed.specs.declared.program.Program.{Program}
use Rattle.al_typed.specs.Layout.{size_of}
use Rattle.al_typed.specs.Sound.{IsSoundFunction, IsSoundGlobal}
use Rattle.al_typed.specs.WellTyped.{IsGlobal, is_stored}
use Rattle.al_poly.specs.declared.instance.Instance.{Instance}
use Rattle.al_declare.specs.Functions.{functions}
use Rattle.al_environment.specs.declared.environment.Environment.{Environment}
use Rattle.al_environment.specs.declared.environment.Here.{Here}
use Rattle.al_environment.specs.declared.environment.Variable.{Variable}
use Rattle.al_form.specs.Forms.{forms}
use Rattle.al_layout.specs.declared.row.LaidOut.{LaidOut}
use Rattle.al_layout.specs.Rows.{laid_out}
use Rattle.al_globals.specs.declared.found.Found.{Found}
use Rattle.al_globals.specs.Globals.{asked_main, begun, capped, globals, outside, with_item, with_main}
use Rattle.al_globals.specs.Numbers.{numbers}
use Rattle.al_sound_types.specs.Environment.{environment_holds}
use Rattle.al_build_environment.specs.Whole.{checked, environment, first_place, globals_of, laid_whole, named, names_of, types_faults, types_of, whole, with_names}
use Rattle.al_initial.specs.declared.globals.Initial.{Initial}
use Rattle.al_initial.specs.Adts.{adts}
use Rattle.al_initial.specs.Walks.{Starts, started_in}
use Rattle.al_initial.specs.Whole.{gathered, global, globals_from, initial, judged, no_start, numbered, of_written, outside as outside_of, starts, whole as whole_initial}
use Rattle.al_tree_places.specs.Entries.{IsFound}
use Rattle.al_sound_operators.specs.Typed.{IfGood}
use Rattle.al_sound_environment.specs.Whole.{IsSoundEnvironment}
use Rattle.al_sound_environment.proofs.Lists.{asked_true, good_is, judged_good, none_in, some_is, then_good}
use Rattle.al_sound_environment.proofs.WholeIs.{environment_is_sound, holds_are}
use Rattle.al_sound_programs.specs.Unnamed.{Written}
use Rattle.al_sound_programs.proofs.GlobalsAre.{each_at}
use Rattle.al_sound_globals.specs.Globals.{GlobalsAreTyped, HasSoundVariables, HaveNumbers, HaveRows, IsGood}
use Rattle.al_sound_globals.proofs.Ascending.{Ascend, ascending}
use Rattle.al_sound_globals.proofs.ElementsHold.{elements_stored}
use Rattle.al_sound_globals.proofs.Finding.{Holds, Unstarted, all_found}
use Rattle.al_sound_globals.proofs.Numbering.{AreNumbered, declarators_in, globals_numbered}
use Rattle.al_sound_globals.proofs.Starting.{all_ascend, none_start}
use Rattle.al_sound_globals.proofs.Written.{bodies_types, initial_types}

-- ---- what the environment is built from

-- its globals are those that are found with these types
record IsMade (tree : Tree) (is : List Instance) (scopes : Scopes) (env : Environment) : Type 0 where
  types : Environment
  ns : List (Option ℕ)
  found : Found
  found_is : globals types tree ns ≡ Good found
  scopes_are : types.scopes ≡ scopes
  globals_are : env.globals ≡ found.globals
  same_scopes : env.scopes ≡ scopes
  holds : environment_holds env ≡ true

is_made : (tree : Tree) (is : List Instance) (scopes : Scopes) (env : Environment) → environment tree is scopes ≡ Good env → IsMade tree is scopes env
unfolding environment whole checked
is_made tree is scopes env h =
    let fs = forms tree is in
    let defined = functions tree.items is in
    let a = then_good (laid_out fs) (laid_whole tree scopes defined fs) env h in
    let laid : LaidOut = a.0 in
    let types = types_of tree fs scopes laid in
    let b = then_good (names_of types tree defined fs laid.forms laid.numbers) (λ names. and_then (globals_of types tree defined) (named types names)) env a.2 in
    let d = then_good (globals_of types tree defined) (named types b.0) env b.2 in
    let made = with_names types b.0 d.0 in
    let j = judged_good (types_faults made) made env d.2 in
    subst (IsMade tree is scopes) {x = made} j.1 (record {
      types = types;
      ns = numbers tree.names tree.items defined;
      found = d.0;
      found_is = d.1;
      scopes_are = refl {a = scopes};
      globals_are = refl {a = d.0.globals};
      same_scopes = refl {a = scopes};
      holds = asked_true 18 first_place (environment_holds made) j.0;
    })

-- what is found of the items, without a fault
found_in : (types : Environment) (tree : Tree) (ns : List (Option ℕ)) (f : Found) → globals types tree ns ≡ Good f
    → ((fold (with_item types outside ns) begun tree.items).faults ≡ []) × ((fold (with_item types outside ns) begun tree.items).globals ≡ f.globals)
unfolding globals
found_in types tree ns f e =
    let g = fold (with_item types outside ns) begun tree.items in
    let w = with_main tree types g in
    let j = judged_good w.faults (record { globals = w.globals; values = w.values; functions = w.functions; faults = [] }) f e in
    ((none_in g.faults (asked_main tree types g) j.0).0, ap (λ (x : Found). x.globals) j.1)

-- ---- numbers

capped_is : (n : ℕ) → n ≤ 4294967295 → capped n ≡ n
capped_is n h = on (nat_le n 4294967295) refl
  where
    on : (b : Bool) → nat_le n 4294967295 ≡ b → (if b then n else 4294967295) ≡ n
    on true e = refl
    on false e = absurd (grind (arith, nat_tests))

-- ---- rows

module _ (tree : Tree) (is : List Instance) (scopes : Scopes) (env : Environment) (places : IsFound tree scopes) (resolves : resolved tree ≡ Good scopes) (built : environment tree is scopes ≡ Good env) where
  made : IsMade tree is scopes env
  made = is_made tree is scopes env built

  abbrev collected : Found
  collected = fold (with_item made.types outside made.ns) begun tree.items

  sound : IsSoundEnvironment env
  sound = environment_is_sound.sound tree is scopes env built

  -- with what initializers start them, wherever these stand
  all_hold : (here : Here) (marks : List Bool) → Holds collected (fold (started_in env here marks) (Good (map no_start env.globals)) tree.items)
  all_hold here marks =
      let names : made.types.scopes.names ≡ scopes.names = ap (λ (s : Scopes). s.names) made.scopes_are in
      let same : env.scopes.names ≡ made.types.scopes.names = ap (λ (s : Scopes). s.names) made.same_scopes ∙ sym names in
      let numbered_all = subst (λ l. AreNumbered l 0 (flat_map declarators_in tree.items)) (sym names) (globals_numbered tree scopes resolves places) in
      all_found made.types made.ns env same here marks tree.items begun (Good (map no_start env.globals)) numbered_all (found_in made.types tree made.ns made.found made.found_is).0
      (record {
        globals = record { count = refl; each = λ n v e. absurd (let f : ⊥ = cc in f) };
        starts = λ n e. none_start env.globals n;
      })

  abbrev there : (n : ℕ) (v : Variable) → slice_get env.globals n ≡ Some v → slice_get collected.globals n ≡ Some v
  there n v e = ap (λ (l : List Variable). slice_get l n) ((found_in made.types tree made.ns made.found made.found_is).1 ∙ sym made.globals_are) ∙ e

  numbers_are : length env.globals ≤ 4294967296 → HaveNumbers env
  numbers_are few n v e =
      let g = (all_hold outside []).globals.each n v (there n v e) in
      let k = slice_get_within env.globals n v e in
      g.0 ∙ capped_is n (omega (arith, few, k))

  module _ (here : Here) (marks : List Bool) (s : Starts) (started : fold (started_in env here marks) (Good (map no_start env.globals)) tree.items ≡ Good s) where
    row_is : (k : ℕ) (v : Variable) → slice_get env.globals k ≡ Some v → IsGood (global env tree s k v)
    unfolding global
    row_is k v e =
        let h = all_hold here marks in
        let g = h.globals.each k v (there k v e) in
        let none : Unstarted collected.values s = subst (λ o. IfGood o (Unstarted collected.values)) started h.starts in
        let stored = λ (j : ℕ) (u : Variable) (i : slice_get env.globals j ≡ Some u). each_at (λ (x : Variable). is_stored env.aggregates x.ty ≡ true) env.globals sound.globals j u i in
        let all = subst (λ o. IfGood o (λ (t : Starts). (j : ℕ) (u : Variable) → slice_get env.globals j ≡ Some u → Ascend 0 (0 + size_of env.aggregates u.ty) (unwrap_or (slice_get t j) []))) started
        (all_ascend env here marks sound.laid_out sound.members stored tree.items) in
        record {
          is_private = λ p. let q = g.1 p in (q.0, none k (ap (λ (o : Option Bool). unwrap_or o false) q.1));
          ascending = ascending 0 (0 + size_of env.aggregates v.ty) (unwrap_or (slice_get s k) []) (all k v e);
        }

    rows_are : (k : ℕ) (vs : List Variable) → ((j : ℕ) (v : Variable) → slice_get vs j ≡ Some v → slice_get env.globals (k + j) ≡ Some v) → All IsGood (globals_from env tree s k vs)
    unfolding globals_from
    rows_are k [] at = All-nil IsGood
    rows_are k (v ∷ vs) at =
        let here_is : slice_get env.globals k ≡ Some v = subst (λ n. slice_get env.globals n ≡ Some v) (omega arith) (at 0 v refl) in
        All-cons IsGood (global env tree s k v) (globals_from env tree s (k + 1) vs) (row_is k v here_is)
        (rows_are (k + 1) vs (λ j u e. subst (λ n. slice_get env.globals n ≡ Some u) (omega arith) (at (suc j) u e)))

  row_at : (s : Starts) (k : ℕ) (vs : List Variable) (n : ℕ) (v : Variable) → slice_get vs n ≡ Some v
      → (g : Global) × ((slice_get (globals_from env tree s k vs) n ≡ Some g) × ((g.ty ≡ v.ty) × (g.is_private ≡ v.is_private)))
  unfolding globals_from global
  row_at s k [] n v e = absurd (let f : ⊥ = cc in f)
  row_at s k (u ∷ us) zero v e = let is = some_is e in (global env tree s k u, (refl, (ap (λ (x : Variable). x.ty) is, ap (λ (x : Variable). x.is_private) is)))
  row_at s k (u ∷ us) (suc n) v e = row_at s (k + 1) us n v e

  rows_have : (i : Initial) → initial env tree ≡ Good i → HaveRows env i
  unfolding initial
  rows_have i e n v at =
      let a = then_good (judged env.aggregates (gathered env tree)) (of_written env tree) i e in
      let w : Written = a.0 in
      let b = then_good (starts env tree (numbered 0 w.texts)) (λ s. Good (whole_initial env tree w s)) i a.2 in
      subst (λ (x : Initial). (g : Global) × ((slice_get x.globals n ≡ Some g) × ((g.ty ≡ v.ty) × (g.is_private ≡ v.is_private)))) (good_is b.2) (row_at b.0 0 env.globals n v at)

  globals_are : (i : Initial) → initial env tree ≡ Good i → All IsGood i.globals
  unfolding initial
  globals_are i e =
      let a = then_good (judged env.aggregates (gathered env tree)) (of_written env tree) i e in
      let w : Written = a.0 in
      let b = then_good (starts env tree (numbered 0 w.texts)) (λ s. Good (whole_initial env tree w s)) i a.2 in
      subst (λ (x : Initial). All IsGood x.globals) (good_is b.2)
      (rows_are (outside_of (numbered 0 w.texts)) (adts env tree.items) b.0 b.1 0 env.globals (λ j v is. subst (λ n. slice_get env.globals n ≡ Some v) (omega arith) is))

pub globals_are_typed : GlobalsAreTyped
globals_are_typed tree is scopes env i ds texts b places resolves built initials bodies_are rows = record {
  numbers = numbers_are tree is scopes env places resolves built;
  rows = rows_have tree is scopes env places resolves built i initials;
  globals = globals_are tree is scopes env places resolves built i initials;
  elements = elements_stored env (holds_are env (is_made tree is scopes env built).holds) b.functions i.types b.types rows (initial_types env tree i initials) (bodies_types env tree ds texts b bodies_are);
}

-- with what is known of the types of globals and of the units of what they start with
pub all_well_typed : (p : Program) (gs : List Global) → All (IsSoundGlobal p) gs → All IsGood gs → All (IsGlobal p) gs
all_well_typed p [] s h = All-nil (IsGlobal p)
all_well_typed p (g ∷ gs) typed kept =
    let s = All-head (IsSoundGlobal p) g gs typed in
    let h = All-head IsGood g gs kept in
    All-cons (IsGlobal p) g gs (record { stored = s.stored; is_private = h.is_private; starts = s.starts; ascending = h.ascending })
    (all_well_typed p gs (All-tail (IsSoundGlobal p) g gs typed) (All-tail IsGood g gs kept))

-- the premise on rows, where the types of the functions are sound
pub variables_sound : (p : Program) (fs : List Function) → All (IsSoundFunction p) fs → All (HasSoundVariables p.aggregates) fs
variables_sound p fs h = All-weaker (IsSoundFunction p) (HasSoundVariables p.aggregates) (λ f s. record { locals = s.locals; returns = s.returns }) fs h
