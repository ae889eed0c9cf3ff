-- The program of a text that is accepted is well typed, by what is known of its parts.
use Rattle.std.proofs.Common.{◌≡◌, ℕ, ◌+◌, ◌≤◌, ◌^◌, ◌&&◌, List, [], ◌∷◌, ◌++◌, length, Option, Some, None, refl, sym, ap, ap₂, ◌∙◌, subst, ◌⊎◌, inl, inr, arith, length-append}
use Rattle.std.specs.Prelude.{slice_get}
use Rattle.al_lex.specs.TokenList.{TokenList}
use Rattle.al_tree.specs.declared.statement.Stmt.{Stmt}
use Rattle.al_tree.specs.declared.item.Tree.{Tree}
use Rattle.al_rules.specs.Outcome.{Good, and_then}
use Rattle.al_called.specs.Items.{names_are_called}
use Rattle.al_scope.specs.declared.declaration.Scopes.{Scopes}
use Rattle.al_scope.specs.Items.{resolved}
use Rattle.al_poly.specs.declared.instance.Instance.{Instance}
use Rattle.al_poly.specs.Instances.{instances}
use Rattle.al_typed.specs.declared.program.Function.{Function}
use Rattle.al_typed.specs.declared.program.Program.{Program}
use Rattle.al_typed.specs.declared.ty.Ty.{Ty}
use Rattle.al_typed.specs.declared.ty.Ty.TheVariants as ty
use Rattle.al_typed.specs.Sound.{HasSoundTypes, IsShort}
use Rattle.al_typed.specs.Typed.{parameter_types}
use Rattle.al_typed.specs.Types.{byte_pointer, int}
use Rattle.al_typed.specs.WellTyped.{IsMain, IsWellTyped, passes}
use Rattle.al_typed.specs.WellTyped as typed
use Rattle.al_declare.specs.declared.function.Defined.{Defined}
use Rattle.al_declare.specs.Functions.{functions as functions_of}
use Rattle.al_declare.specs.Items.{names_hold}
use Rattle.al_environment.specs.declared.environment.Environment.{Environment}
use Rattle.al_environment.specs.declared.environment.Here.{Here}
use Rattle.al_environment.specs.declared.environment.Signature.{Signature}
use Rattle.al_environment.specs.Lookups.{function}
use Rattle.al_build_environment.specs.Whole.{environment}
use Rattle.al_initial.specs.declared.globals.Initial.{Initial}
use Rattle.al_initial.specs.Whole.{initial}
use Rattle.al_bodies.specs.declared.found.Bodies.{Bodies}
use Rattle.al_globals.specs.Globals.{main_of}
use Rattle.al_type_stmt.specs.declared.within.Within.{Within}
use Rattle.al_check.specs.Checked.{bodies_of, check, function_at, main_number, number_in, program, whole, with_bodies, with_flows, with_globals, with_main, with_names}
use Rattle.al_check.specs.Flow.{all_targets}
use Rattle.al_front.specs.Accepted.{IsAccepted, IsRead}
use Rattle.al_tree_laws.proofs.CountsAre.{declared_are_few}
use Rattle.al_tree_places.specs.Apart.{IsApart}
use Rattle.al_tree_places.specs.Entries.{IsFound}
use Rattle.al_tree_places.proofs.LawsHold.{entries_are_found, places_are_apart}
use Rattle.al_short_programs.proofs.InitialsAre.{initial_is}
use Rattle.al_short_programs.proofs.TokensAre.{tokens_few}
use Rattle.al_sound_operators.proofs.Outcomes.{and_then_good}
use Rattle.al_sound_nodes.specs.Nodes.{Tells}
use Rattle.al_sound_environment.specs.Tells.{any_scope, bodies_in}
use Rattle.al_sound_environment.proofs.TellsAre.{environment_tells}
use Rattle.al_sound_statements.proofs.StatementsAre.{bodies_are_named}
use Rattle.al_sound_flow.proofs.FlowIs.{numbers_differ}
use Rattle.al_sound_programs.proofs.GathersAre.{all_defined}
use Rattle.al_sound_texts.proofs.Texts.{accepted_is_sound}
use Rattle.al_sound_rows.specs.Units.{IsFunction, signature_of}
use Rattle.al_sound_rows.specs.Rows.{BranchesAreApart, FunctionUnit}
use Rattle.al_sound_rows.proofs.RowsAre.{rows_are_units}
use Rattle.al_sound_calls.specs.Calls.{HasInstances, IsChecked}
use Rattle.al_sound_instances.specs.Instances.{IsTextOf}
use Rattle.al_sound_instances.proofs.TextsAre.{instances_have_types}
use Rattle.al_sound_calls.proofs.FunctionsLead.{functions_lead}
use Rattle.al_sound_calls.proofs.MethodsLead.{methods_lead}
use Rattle.al_sound_signatures.proofs.SignaturesAre.{signatures_are_plain}
use Rattle.al_sound_globals.specs.Globals.{AreGlobals}
use Rattle.al_sound_globals.proofs.GlobalsAre.{all_well_typed, globals_are_typed, variables_sound}
use Rattle.al_sound_names.specs.WellTyped.{AcceptedAreWellTyped}
use Rattle.al_sound_names.proofs.FewAre.{few_functions}
use Rattle.al_sound_names.proofs.Functions.{ArePlain, function_is}
use Rattle.al_sound_names.proofs.Leads.{leads_to, row_of}
use Rattle.al_sound_names.proofs.Rooms.{AreFew, parameters_few}
use Rattle.al_sound_names.proofs.TellsNames.{NumbersLead}

-- ---- a text part by part

good_is : {A : Type 0} {a b : A} → Good a ≡ Good b → a ≡ b
good_is h = cc

record IsMade (tree : Tree) (is : List Instance) (p : Program) : Type 0 where
  scopes : Scopes
  scopes_are : resolved tree ≡ Good scopes
  named : names_hold tree ≡ Good tt
  env : Environment
  env_is : environment tree is scopes ≡ Good env
  first : Initial
  first_is : initial env tree ≡ Good first
  rows : Bodies
  rows_are : bodies_of tree is env (length first.texts) ≡ Good rows
  main : ℕ
  main_is : main_number tree env ≡ Some main
  made : program env first rows main ≡ p

main_known : (env : Environment) (i : Initial) (b : Bodies) (o : Option ℕ) (p : Program) → with_main env i b o ≡ Good p → (main : ℕ) × (o ≡ Some main) × (program env i b main ≡ p)
main_known env i b None p e = absurd (let f : ⊥ = cc in f)
main_known env i b (Some main) p e = (main, refl, good_is e)

is_made : (tree : Tree) (is : List Instance) (p : Program) → check tree is ≡ Good p → IsMade tree is p
unfolding check with_flows with_names with_globals with_bodies whole
is_made tree is p e =
    let a = and_then_good (names_hold tree) (λ _. and_then (names_are_called tree) (λ _. and_then (all_targets tree.items) (λ _. with_flows tree is))) p e in
    let b = and_then_good (names_are_called tree) (λ _. and_then (all_targets tree.items) (λ _. with_flows tree is)) p a.2 in
    let c = and_then_good (all_targets tree.items) (λ _. with_flows tree is) p b.2 in
    let d = and_then_good (resolved tree) (with_names tree is) p c.2 in
    let f = and_then_good (environment tree is d.0) (with_globals tree is) p d.2 in
    let g = and_then_good (initial f.0 tree) (with_bodies tree is f.0) p f.2 in
    let h = and_then_good (bodies_of tree is f.0 (length g.0.texts)) (whole tree f.0 g.0) p g.2 in
    let m = main_known f.0 g.0 h.0 (main_number tree f.0) p h.2 in
    record {
      scopes = d.0;
      scopes_are = d.1;
      named = a.1;
      env = f.0;
      env_is = f.1;
      first = g.0;
      first_is = g.1;
      rows = h.0;
      rows_are = h.1;
      main = m.0;
      main_is = m.1;
      made = m.2;
    }

-- ---- main

record NamesMain (tree : Tree) (env : Environment) (main : ℕ) : Type 0 where
  n : ℕ
  named : main_of tree.names env.scopes.functions ≡ Some n
  f : Signature
  is : function env n ≡ Some f
  number : f.number ≡ Some main

main_named : (tree : Tree) (env : Environment) (main : ℕ) → main_number tree env ≡ Some main → NamesMain tree env main
main_named tree env main e = on (main_of tree.names env.scopes.functions) refl e
  where
    then : (n : ℕ) → main_of tree.names env.scopes.functions ≡ Some n → (s : Option Signature) → slice_get env.functions n ≡ s → number_in s ≡ Some main → NamesMain tree env main
    then n named None is q = absurd (let f : ⊥ = cc in f)
    then n named (Some f) is q = record { n = n; named = named; f = f; is = is; number = q }

    on : (o : Option ℕ) → main_of tree.names env.scopes.functions ≡ o → number_in (function_at env.functions o) ≡ Some main → NamesMain tree env main
    on None named q = absurd (let f : ⊥ = cc in f)
    on (Some n) named q = then n named (slice_get env.functions n) refl q

-- ---- the program

module _ (text : List ℕ) (tree : Tree) (read : IsRead text tree) (is : List Instance) (p : Program) (m : IsMade tree is p) (instanced : HasInstances m.env is) (sound : HasSoundTypes (program m.env m.first m.rows m.main))
    (short : IsShort (program m.env m.first m.rows m.main)) (within : length is ≤ 256) where
  abbrev env : Environment
  env = m.env

  abbrev q : Program
  q = program m.env m.first m.rows m.main

  abbrev ds : List Defined
  ds = functions_of tree.items is

  abbrev strings : ℕ
  strings = length m.first.texts + length m.rows.texts

  tokens : TokenList
  tokens = record { list = read.tokens; text = text }

  found : IsFound tree m.scopes
  found = entries_are_found text read.tokens tree read.is.height m.scopes read.cut read.is.is m.scopes_are

  apart : IsApart tree
  apart = places_are_apart text read.tokens tree read.is.height read.cut read.is.is

  checked : IsChecked tree is m.scopes m.env
  checked = record { resolved = m.scopes_are; found = found; named = m.named; environment = m.env_is }

  few : length q.functions ≤ 2 ^ 30
  few = few_functions text tree is env (length m.first.texts) m.rows read within m.rows_are

  small : AreFew tree 4194304
  small k i stands =
      let all = declared_are_few (record { list = read.tokens; text = text }) tree read.is.height read.is.is k i stands in
      let tokens = tokens_few text read.tokens read.cut in
      let short = read.short in
      omega (arith, all, tokens, short)

  unit_of : (number : ℕ) (d : Defined) → slice_get ds number ≡ Some d → FunctionUnit env tree ds strings q.functions number
  unit_of number d e = rows_are_units.functions env tree ds (length m.first.texts) m.rows m.rows_are (all_defined tree.items is) number d e

  parameters_of : (number : ℕ) (f : Function) (w : Within) (here : Here) (body : Stmt) (i : IsFunction env tree ds strings number f w here body)
      → parameter_types f ≡ (signature_of env i.defined i.base i.head).parameters
  parameters_of number f w here body i =
      let n = parameters_few env tree ds strings q.functions 4194304 small number f w here body i in
      rows_are_units.parameters env tree ds strings number f w here body i (omega (arith, n))

  globals_are : AreGlobals env m.first m.rows
  globals_are =
      globals_are_typed tree is m.scopes env m.first ds (length m.first.texts) m.rows found m.scopes_are m.env_is m.first_is m.rows_are
      (variables_sound q m.rows.functions sound.functions)

  lead : NumbersLead env q
  lead = record {
    globals = λ n v e.
        let g = globals_are.rows n v e in
        record { row = g.0; is = ap (slice_get q.globals) (globals_are.numbers many n v e) ∙ g.1.0; ty = g.1.1.0; is_private = g.1.1.1 };
    functions = λ n number f e k.
        let x = functions_lead.functions tree is m.scopes env checked n number f e k in
        leads_to env tree ds strings q.functions unit_of parameters_of q refl number x.defined x.base x.head f.parameters f.returns x.is x.types;
    methods = λ aggregate name number f e k.
        let x = methods_lead tree is m.scopes env checked instanced aggregate name number f e k in
        record {
          object = ty.Aggregate x.adt;
          leads = x.leads;
          row =
              leads_to env tree ds strings q.functions unit_of parameters_of q refl number x.defined x.base x.head (passes f.passed (ty.Aggregate x.adt) ++ f.signature.parameters) f.signature.returns
              x.is (ap₂ (λ a b. a && b) x.returns x.parameters);
        };
  }
    where
      many : length env.globals ≤ 4294967296
      many = let g = short.globals in let same = (initial_is env tree m.first m.first_is).globals in omega (arith, g, same)

  plain : ArePlain env tree ds
  plain many number f w here body i =
      signatures_are_plain.of_all tree is m.scopes env checked instanced number i.defined i.base i.head (record { numbered = i.is; at = i.at; scope = i.scope; body = body; stands = i.stands })

  abbrev nothing_here : Here
  nothing_here = record { own = None; locals = []; around = []; texts = []; iterators = [] }

  none_there : {A : Type 0} (n : ℕ) (x : A) → slice_get [] n ≡ Some x → ⊥
  none_there n x e = cc

  any : Tells (any_scope env 0 (bodies_in tree is) 0) env nothing_here
  any = environment_tells.tells tree is m.scopes env m.scopes_are m.env_is 0 (bodies_in tree is) 0 (omega arith) nothing_here (record {
    locals = λ n v e. absurd (none_there n v e);
    outers = λ k n r v e at. absurd (none_there k r e);
  })

  functions_are : (number : ℕ) (f : Function) → slice_get q.functions number ≡ Some f → typed.IsFunction q number f
  functions_are number f e =
      let u = rows_are_units.units env tree ds (length m.first.texts) m.rows m.rows_are (all_defined tree.items is) branches_apart (omega (arith, few)) number f e in
      function_is env tree ds strings q refl (sym (length-append m.first.texts m.rows.texts)) (omega (arith, few)) small lead apart.jumps bodies_are_named rows_are_units numbers_differ plain
      0 (bodies_in tree is) nothing_here any number f u.within u.here u.statement u.is u.branches
    where
      branches_apart : BranchesAreApart tree.items
      branches_apart k at scope base head body stands = apart.branches k body (record { at = at; scope = scope; base = base; head = head; is = stands })

  main_is : (f : Function) × IsMain q f
  main_is =
      let n = main_named tree env m.main m.main_is in
      let x = functions_lead.main tree is m.scopes env checked n.n m.main n.f n.named n.is n.number in
      let r = row_of env tree ds strings q.functions unit_of parameters_of m.main x.defined x.base x.head x.is in (
        r.row,
        record {
          is_there = (r.stands, r.around);
          returns = r.returns ∙ x.types.returns;
          parameters = either (parameter_types r.row) (signature_of env x.defined x.base x.head).parameters r.parameters x.types.parameters;
        },
      )
    where
      either : (ts us : List Ty) → ts ≡ us → (us ≡ []) ⊎ (us ≡ int ∷ ty.Pointer byte_pointer ∷ []) → (ts ≡ []) ⊎ (ts ≡ int ∷ ty.Pointer byte_pointer ∷ [])
      either ts us e (inl h) = inl (e ∙ h)
      either ts us e (inr h) = inr (e ∙ h)

  is_well_typed : IsWellTyped q
  is_well_typed = record {
    laid_out = sound.laid_out;
    members = sound.members;
    small = sound.small;
    globals = all_well_typed q m.first.globals sound.globals globals_are.globals;
    elements = globals_are.elements;
    functions = functions_are;
    main_function = main_is.0;
    main = main_is.1;
  }

pub accepted_are_well_typed : AcceptedAreWellTyped
accepted_are_well_typed text p a =
    let is = instances a.tree.items in
    let m = is_made a.tree is p a.typed.good in
    let s = accepted_is_sound text p a in
    let of : IsTextOf text a.tree =
    record { tokens = a.read.tokens; height = a.read.is.height; short = a.read.short; cut = a.read.cut; is = a.read.is.is; few = a.typed.few; named = m.named } in
    subst IsWellTyped m.made
    (is_well_typed text a.tree a.read is p m (instances_have_types text a.tree m.scopes m.env of m.env_is) (subst HasSoundTypes (sym m.made) s.0) (subst IsShort (sym m.made) s.1) a.typed.few)
