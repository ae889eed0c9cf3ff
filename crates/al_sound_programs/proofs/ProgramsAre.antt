-- The program of a text that the typing rules accept has sound types, by what the environment tells and what bodies give.
use Rattle.std.proofs.Common.{◌≡◌, ℕ, ◌+◌, true, List, length, Option, Some, None, refl, subst, arith, length-append}
use Rattle.std.specs.Prelude.{All}
use Rattle.std.proofs.lemmas.List.Elements.{All-weaker}
use Rattle.al_tree.specs.declared.item.Tree.{Tree}
use Rattle.al_rules.specs.Outcome.{Good, and_then}
use Rattle.al_scope.specs.declared.declaration.Scopes.{Scopes}
use Rattle.al_scope.specs.Items.{resolved}
use Rattle.al_typed.specs.declared.program.Program.{Program}
use Rattle.al_typed.specs.Sound.{HasSoundTypes, IsSoundFunction}
use Rattle.al_called.specs.Items.{names_are_called}
use Rattle.al_poly.specs.declared.instance.Instance.{Instance}
use Rattle.al_declare.specs.Functions.{functions as functions_of}
use Rattle.al_declare.specs.Items.{names_hold}
use Rattle.al_environment.specs.declared.environment.Environment.{Environment}
use Rattle.al_environment.specs.declared.environment.Here.{Here}
use Rattle.al_environment.specs.declared.environment.Round.{Round}
use Rattle.al_build_environment.specs.Whole.{environment}
use Rattle.al_initial.specs.declared.globals.Initial.{Initial}
use Rattle.al_initial.specs.Whole.{initial}
use Rattle.al_bodies.specs.declared.found.Bodies.{Bodies}
use Rattle.al_check.specs.Checked.{bodies_of, check, main_number, program, whole, with_bodies, with_flows, with_globals, with_main, with_names}
use Rattle.al_check.specs.Flow.{all_targets}
use Rattle.al_tree_laws.specs.Unions.{tree_has_members}
use Rattle.al_sound_nodes.specs.Nodes.{Tells}
use Rattle.al_sound_environment.specs.Tells.{EnvironmentTells, HasStored}
use Rattle.al_sound_environment.specs.Whole.{EnvironmentIsSound}
use Rattle.al_sound_statements.specs.Bodies.{BodiesAreSound}
use Rattle.al_sound_statements.specs.Gathered.{TypesAreGathered}
use Rattle.al_sound_operators.proofs.Outcomes.{and_then_good}
use Rattle.al_sound_programs.specs.Functions.{IsReady, IsSoundRow, ValuesAreTyped, among_any}
use Rattle.al_sound_programs.specs.Programs.{ProgramsAreSound}
use Rattle.al_sound_programs.proofs.BodiesAre.{bodies_typed}
use Rattle.al_sound_programs.proofs.Frames.{IsStoredVariable}
use Rattle.al_sound_programs.proofs.GathersAre.{all_defined, bodies_are, bodies_count}
use Rattle.al_sound_programs.proofs.GlobalsAre.{each_at, globals_start, initial_texts, initial_types}
use Rattle.al_sound_programs.proofs.TextsAre.{texts_there}

good_is : {A : Type 0} {a b : A} → Good a ≡ Good b → a ≡ b
good_is h = cc

-- what is known of environments and of bodies
pub record Laws : Type 0 where
  pub environment : EnvironmentIsSound
  pub tells : EnvironmentTells
  pub bodies : BodiesAreSound
  pub gathered : TypesAreGathered
  pub values : ValuesAreTyped

-- what a text is checked by, part by part
record IsChecked (tree : Tree) (is : List Instance) (p : Program) : Type 0 where
  scopes : Scopes
  scopes_are : resolved tree ≡ Good scopes
  env : Environment
  env_is : environment tree is scopes ≡ Good env
  first : Initial
  first_is : initial env tree ≡ Good first
  rows : Bodies
  rows_are : bodies_of tree is env (length first.texts) ≡ Good rows
  main : ℕ
  made : program env first rows main ≡ p

main_known : (env : Environment) (i : Initial) (b : Bodies) (o : Option ℕ) (p : Program) → with_main env i b o ≡ Good p → (main : ℕ) × (program env i b main ≡ p)
main_known env i b None p e = absurd (cc)
main_known env i b (Some main) p e = (main, good_is e)

is_checked : (tree : Tree) (is : List Instance) (p : Program) → check tree is ≡ Good p → IsChecked tree is p
unfolding check with_flows with_names with_globals with_bodies whole
is_checked tree is p e =
    let a = and_then_good (names_hold tree) (λ _. and_then (names_are_called tree) (λ _. and_then (all_targets tree.items) (λ _. with_flows tree is))) p e in
    let b = and_then_good (names_are_called tree) (λ _. and_then (all_targets tree.items) (λ _. with_flows tree is)) p a.2 in
    let c = and_then_good (all_targets tree.items) (λ _. with_flows tree is) p b.2 in
    let d = and_then_good (resolved tree) (with_names tree is) p c.2 in
    let scopes : Scopes = d.0 in
    let f = and_then_good (environment tree is scopes) (with_globals tree is) p d.2 in
    let env : Environment = f.0 in
    let g = and_then_good (initial env tree) (with_bodies tree is env) p f.2 in
    let i : Initial = g.0 in
    let h = and_then_good (bodies_of tree is env (length i.texts)) (whole tree env i) p g.2 in
    let m = main_known env i h.0 (main_number tree env) p h.2 in
    record { scopes = scopes; scopes_are = d.1; env = env; env_is = f.1; first = i; first_is = g.1; rows = h.0; rows_are = h.1; main = m.0; made = m.1 }

ready_stored : (env : Environment) (strings : ℕ) (here : Here) → IsReady env.aggregates strings here → HasStored env.aggregates here
ready_stored env strings here r = record {
  locals = λ n v e. each_at (IsStoredVariable env.aggregates) here.locals r.locals n v e;
  outers = λ k n round v at e.
      each_at (IsStoredVariable env.aggregates) round.locals (each_at (λ (x : Round). All (IsStoredVariable env.aggregates) x.locals) here.around r.around k round at) n v e;
}

module _ (laws : Laws) (tree : Tree) (is : List Instance) (members : tree_has_members tree ≡ true) where
  of_parts : (p : Program) (c : IsChecked tree is p) → HasSoundTypes (program c.env c.first c.rows c.main)
  of_parts p c =
      let env : Environment = c.env in
      let q : Program = program env c.first c.rows c.main in
      let sound = laws.environment.sound tree is c.scopes env c.env_is in
      let defined = all_defined tree.items is in
      let count = bodies_count env tree (functions_of tree.items is) (length c.first.texts) c.rows defined c.rows_are in
      let strings = length q.strings in
      let functions = length q.functions in
      let many : length q.strings ≡ length c.first.texts + length c.rows.texts = length-append c.first.texts c.rows.texts in
      let tells : (here : Here) → IsReady env.aggregates strings here → Tells (among_any env.aggregates strings functions) env here =
      λ here r. laws.tells.tells tree is c.scopes env c.scopes_are c.env_is strings functions 0 count here (ready_stored env strings here r) in
      let bodies = bodies_typed laws.bodies laws.gathered env strings functions tells in
      let first = initial_texts env tree c.first c.first_is in
      let texts = texts_there laws.values laws.gathered q env tree functions tells (omega arith) (initial_types env tree c.first c.first_is) in
      let rows = bodies_are env strings functions bodies tree (functions_of tree.items is) (length c.first.texts) c.rows defined c.rows_are (omega arith) in
      record {
        laid_out = sound.laid_out;
        members = sound.members;
        small = sound.small;
        unions = laws.environment.unions tree is c.scopes env members c.env_is;
        globals = globals_start q env tree c.first refl sound.laid_out sound.members sound.globals texts c.first_is;
        functions = All-weaker (IsSoundRow env.aggregates strings functions) (IsSoundFunction q)
            (λ f r. record { locals = r.locals; returns = r.returns; shared = r.shared; body = r.body }) c.rows.functions rows;
      }

  program_is : (p : Program) → check tree is ≡ Good p → HasSoundTypes p
  program_is p e = let c = is_checked tree is p e in subst HasSoundTypes c.made (of_parts p c)

pub programs_are : Laws → ProgramsAreSound
programs_are laws = record { sound = λ tree is p members e. program_is laws tree is members p e }
