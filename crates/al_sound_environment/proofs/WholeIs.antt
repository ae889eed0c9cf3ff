-- The environment of a whole text is sound.
use Rattle.std.proofs.Common.{◌≡◌, ℕ, ◌<◌, true, ◌&&◌, List, [], length, Option, Some, None, arith, refl, sym, ap, subst, ◌∙◌}
use Rattle.std.specs.Prelude.{nat_lt, slice_get}
use Rattle.std.specs.List.{list_all}
use Rattle.std.proofs.lemmas.Bool.Decides.{nat_tests}
use Rattle.std.proofs.lemmas.List.Sums.{AllPass-from_list_all}
use Rattle.al_tree.specs.declared.item.Tree.{Tree}
use Rattle.al_rules.specs.Outcome.{Good, and_then}
use Rattle.al_scope.specs.declared.declaration.Scopes.{Scopes}
use Rattle.al_typed.specs.declared.program.Aggregate.{Aggregate}
use Rattle.al_typed.specs.declared.ty.Ty.{Ty}
use Rattle.al_typed.specs.declared.ty.Ty.TheVariants as ty
use Rattle.al_typed.specs.Layout.{IsLaidOut, members_of}
use Rattle.al_typed.specs.WellTyped.{is_sound, is_stored}
use Rattle.al_poly.specs.declared.instance.Instance.{Instance}
use Rattle.al_environment.specs.declared.environment.Environment.{Environment}
use Rattle.al_environment.specs.declared.environment.InstanceType.{InstanceType}
use Rattle.al_environment.specs.Lookups.{plain_type, there}
use Rattle.al_form.specs.Forms.{forms}
use Rattle.al_layout.specs.declared.row.LaidOut.{LaidOut}
use Rattle.al_layout.specs.Rows.{laid_out}
use Rattle.al_declare.specs.Functions.{functions}
use Rattle.al_member_names.specs.declared.function.OwnFunction.{OwnFunction}
use Rattle.al_member_names.specs.Members.{aggregate_of, member_names}
use Rattle.al_adt_functions.specs.Functions.{functions as own_functions}
use Rattle.al_adt_functions.specs.Owned.{aggregate_named, here_in}
use Rattle.al_globals.specs.Numbers.{numbers}
use Rattle.al_globals.specs.declared.found.Found.{Found}
use Rattle.al_globals.specs.Globals.{globals}
use Rattle.al_sound_types.specs.Environment.{environment_holds, functions_hold, has_stored, is_global, is_instance, is_known, signature_holds}
use Rattle.al_build_environment.specs.Whole.{checked, environment, first_place, globals_of, laid_whole, named, names_of, types_faults, types_of, whole, with_names}
use Rattle.al_tree_laws.specs.Unions.{tree_has_members}
use Rattle.al_sound_environment.specs.Whole.{EnvironmentIsSound, IsSoundEnvironment, UnionsAreFilled}
use Rattle.al_sound_environment.proofs.Lists.{all_at, and_both, asked_true, every_at, judged_good, then_good, then_some}
use Rattle.al_sound_environment.proofs.RowsAre.{are_rows, rows_of, small_row}
use Rattle.al_sound_environment.proofs.MembersAre.{aggregate_of-is}
use Rattle.al_sound_environment.proofs.FormsAre.{forms_filled}
use Rattle.al_sound_environment.proofs.UnionsAre.{IsFilledRow, rows_filled}

-- what an environment is built from
pub record IsBuilt (tree : Tree) (is : List Instance) (scopes : Scopes) (env : Environment) : Type 0 where
  pub laid : LaidOut
  pub laid_is : laid_out (forms tree is) ≡ Good laid
  pub own : List (List OwnFunction)
  pub own_is : own_functions (types_of tree (forms tree is) scopes laid) tree.items (functions tree.items is) (forms tree is) laid.numbers ≡ Good own
  pub names_are : member_names (forms tree is) laid.numbers laid.forms own ≡ Good env.names
  pub found : Found
  pub found_is : globals (types_of tree (forms tree is) scopes laid) tree (numbers tree.names tree.items (functions tree.items is)) ≡ Good found
  pub functions_are : env.functions ≡ found.functions
  pub rows_are : env.aggregates ≡ laid.aggregates
  pub scopes_are : env.scopes ≡ scopes
  pub holds : environment_holds env ≡ true

pub is_built : (tree : Tree) (is : List Instance) (scopes : Scopes) (env : Environment) → environment tree is scopes ≡ Good env → IsBuilt tree is scopes env
unfolding environment whole checked
is_built tree is scopes env h =
    let fs = forms tree is in
    let defined = functions tree.items is in
    let a = then_good (laid_out fs) (laid_whole tree scopes defined fs) env h in
    let laid = a.0 in
    let types = types_of tree fs scopes laid in
    let b = then_good (names_of types tree defined fs laid.forms laid.numbers) (λ names. and_then (globals_of types tree defined) (named types names)) env a.2 in
    let c = then_good (own_functions types tree.items defined fs laid.numbers) (member_names fs laid.numbers laid.forms) b.0 b.1 in
    let d = then_good (globals_of types tree defined) (named types b.0) env b.2 in
    let made = with_names types b.0 d.0 in
    let j = judged_good (types_faults made) made env d.2 in
    subst (IsBuilt tree is scopes) {x = made} j.1 (record {
      laid = laid;
      laid_is = a.1;
      own = c.0;
      own_is = c.1;
      names_are = c.2;
      found = d.0;
      found_is = d.1;
      functions_are = refl {a = d.0.functions};
      rows_are = refl {a = laid.aggregates};
      scopes_are = refl {a = scopes};
      holds = asked_true 18 first_place (environment_holds made) j.0;
    })

-- ---- what is asked of the types

pub record Holds (env : Environment) : Type 0 where
  pub rows : list_all (has_stored env.aggregates) env.aggregates ≡ true
  pub types : list_all (is_known env.aggregates) env.types ≡ true
  pub instances : list_all (is_instance env.aggregates) env.instances ≡ true
  pub globals : list_all (is_global env.aggregates) env.globals ≡ true
  pub functions : list_all (signature_holds env.aggregates) env.functions ≡ true
  pub methods : list_all (functions_hold env.aggregates) env.names ≡ true

pub holds_are : (env : Environment) → environment_holds env ≡ true → Holds env
unfolding environment_holds
holds_are env h =
    let rows = env.aggregates in
    let e = and_both (list_all (has_stored rows) rows && list_all (is_known rows) env.types && list_all (is_instance rows) env.instances && list_all (is_global rows) env.globals
    && list_all (signature_holds rows) env.functions) (list_all (functions_hold rows) env.names) h in
    let d = and_both (list_all (has_stored rows) rows && list_all (is_known rows) env.types && list_all (is_instance rows) env.instances && list_all (is_global rows) env.globals)
    (list_all (signature_holds rows) env.functions) e.0 in
    let c = and_both (list_all (has_stored rows) rows && list_all (is_known rows) env.types && list_all (is_instance rows) env.instances) (list_all (is_global rows) env.globals) d.0 in
    let b = and_both (list_all (has_stored rows) rows && list_all (is_known rows) env.types) (list_all (is_instance rows) env.instances) c.0 in
    let a = and_both (list_all (has_stored rows) rows) (list_all (is_known rows) env.types) b.0 in
    record { rows = a.0; types = a.1; instances = b.1; globals = c.1; functions = d.1; methods = e.1 }

lt_is : (m n : ℕ) → nat_lt m n ≡ true → m < n
lt_is m n h = grind (arith, nat_tests)

module _ (env : Environment) (h : Holds env) where
  pub members_stored : (k : ℕ) (a : Aggregate) → slice_get env.aggregates k ≡ Some a → list_all (is_stored env.aggregates) (members_of (Some a)) ≡ true
  members_stored k a e = all_at (has_stored env.aggregates) env.aggregates k a e h.rows

  known_sound : (name : ℕ) (t : Ty) → slice_get env.types name ≡ Some (Some t) → is_sound env.aggregates t ≡ true
  known_sound name t e = all_at (is_known env.aggregates) env.types name (Some t) e h.types

  instance_within : (k : ℕ) (i : InstanceType) → slice_get env.instances k ≡ Some i → i.aggregate < length env.aggregates
  instance_within k i e = lt_is i.aggregate (length env.aggregates) (and_both _ _ (all_at (is_instance env.aggregates) env.instances k i e h.instances)).0

  -- an aggregate that is sound is there
  sound_within : (n : ℕ) (t : Ty) → is_sound env.aggregates t ≡ true → t ≡ ty.Aggregate n → n < length env.aggregates
  sound_within n t s e = lt_is n (length env.aggregates) (and_both _ _ (subst (λ u. is_sound env.aggregates u ≡ true) e s)).0

  adt_within : (name n : ℕ) → aggregate_named env name ≡ Some n → n < length env.aggregates
  unfolding plain_type
  adt_within name n e =
      let t = then_some aggregate_of (plain_type env (here_in None) name) n e in
      sound_within n t.0 (known_sound name t.0 (there_is (slice_get env.types name) t.0 t.1)) (aggregate_of-is t.0 n t.2)
    where
      there_is : (o : Option (Option Ty)) (t : Ty) → there o ≡ Some t → o ≡ Some (Some t)
      there_is None t e = absurd (cc)
      there_is (Some x) t e = ap Some e

sound_is : (tree : Tree) (is : List Instance) (scopes : Scopes) (env : Environment) → environment tree is scopes ≡ Good env → IsSoundEnvironment env
sound_is tree is scopes env e =
    let b = is_built tree is scopes env e in
    let h = holds_are env b.holds in
    let r = are_rows (forms tree is) b.laid b.laid_is in
    record {
      laid_out = subst IsLaidOut (sym b.rows_are) r.laid;
      small = λ k a at. small_row b.laid.aggregates k a r (ap (λ (l : List Aggregate). slice_get l k) (sym b.rows_are) ∙ at);
      members = λ k a at. AllPass-from_list_all (is_stored env.aggregates) (members_of (Some a)) (members_stored env h k a at);
      globals = AllPass-from_list_all (is_global env.aggregates) env.globals h.globals;
      types = known_sound env h;
      instances = instance_within env h;
      adts = adt_within env h;
    }

unions_are : (tree : Tree) (is : List Instance) (scopes : Scopes) (env : Environment) → tree_has_members tree ≡ true → environment tree is scopes ≡ Good env → UnionsAreFilled env.aggregates
unions_are tree is scopes env m e k a at =
    let b = is_built tree is scopes env e in
    let fs = forms tree is in
    let all = rows_filled fs b.laid.numbers (forms_filled tree is m) [] b.laid.forms b.laid.aggregates tt (rows_of fs b.laid b.laid_is) in
    every_at IsFilledRow b.laid.aggregates k a (ap (λ (l : List Aggregate). slice_get l k) (sym b.rows_are) ∙ at) all

pub environment_is_sound : EnvironmentIsSound
environment_is_sound = record { sound = sound_is; unions = unions_are }
