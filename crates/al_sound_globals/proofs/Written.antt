-- Types that are written in bodies and in initializers are sound.
use Rattle.std.proofs.Common.{◌≡◌, ℕ, ◌+◌, true, List, [], ◌∷◌, ◌++◌, Option, Some, subst}
use Rattle.std.specs.Prelude.{All, slice_get}
use Rattle.std.specs.List.{list_all}
use Rattle.std.proofs.lemmas.List.Elements.{All-append, All-nil}
use Rattle.std.proofs.lemmas.List.Sums.{AllPass-from_list_all}
use Rattle.al_tree.specs.declared.type_tree.TypeTree.{TypeTree}
use Rattle.al_tree.specs.declared.statement.Stmt.{Stmt}
use Rattle.al_tree.specs.declared.item.Head.{Head}
use Rattle.al_tree.specs.declared.item.Item.{Item}
use Rattle.al_tree.specs.declared.item.Item.TheVariants as item
use Rattle.al_tree.specs.declared.item.Tree.{Tree}
use Rattle.al_rules.specs.Outcome.{Good}
use Rattle.al_flow.specs.Flow.{targets}
use Rattle.al_declare.specs.declared.function.Defined.{Defined}
use Rattle.al_typed.specs.declared.ty.Ty.{Ty}
use Rattle.al_typed.specs.WellTyped.{is_sound}
use Rattle.al_environment.specs.declared.numbered.Numbered.{Numbered}
use Rattle.al_environment.specs.declared.environment.Environment.{Environment}
use Rattle.al_environment.specs.declared.environment.Here.{Here}
use Rattle.al_type_rules.specs.Types.{signature}
use Rattle.al_adt_functions.specs.Owned.{here_in}
use Rattle.al_body_parts.specs.declared.parts.Parts.{Parts}
use Rattle.al_body_parts.specs.Statements.{parts}
use Rattle.al_type_stmt.specs.Statements.{statement}
use Rattle.al_type_function.specs.declared.numbers.FunctionNumbers.{FunctionNumbers}
use Rattle.al_type_function.specs.declared.function.TypedFunction.{TypedFunction}
use Rattle.al_type_function.specs.Branches.{branches}
use Rattle.al_type_function.specs.Locals.{locals_faults, result_faults, types_faults}
use Rattle.al_type_function.specs.Own.{own_adt}
use Rattle.al_type_function.specs.Functions.{bodies as typed_bodies, completed as typed_completed, faults_of, function, function_frame, here_of, in_branches, opened, opened_in, opened_with, site_of, typed_with, within_of}
use Rattle.al_branches.specs.Numbers.{branch_numbers}
use Rattle.al_bodies.specs.declared.found.Bodies.{Bodies}
use Rattle.al_bodies.specs.Bodies.{bodies, completed}
use Rattle.al_bodies.specs.Gathering.{first_of, gathered, next, none, numbers_for, rest_of, with_function, with_item}
use Rattle.al_initial.specs.declared.globals.Initial.{Initial}
use Rattle.al_initial.specs.Whole.{first_place, gathered as gathered_in, initial, judged, numbered, of_written, starts, types_faults as initial_faults, whole}
use Rattle.al_sound_operators.proofs.Outcomes.{and_then_good}
use Rattle.al_sound_programs.specs.Unnamed.{Gathered, Opened, Written}
use Rattle.al_sound_programs.proofs.Frames.{asked_none, hold_of, judged_good, none_left, written_hold}
use Rattle.al_sound_programs.proofs.BranchesAre.{after_pair}

good_is : {A : Type 0} {a b : A} → Good a ≡ Good b → a ≡ b
good_is h = cc

abbrev Sound : Environment → Ty → Type 0
Sound env t = is_sound env.aggregates t ≡ true

-- ---- in bodies

opened_types : (env : Environment) (names : List (List ℕ)) (numbers : FunctionNumbers) (base : TypeTree) (head : Head) (body : Stmt) (here : Here) (o : Opened)
    → opened_in env names numbers base head body here ≡ Good o → All (Sound env) o.types
unfolding opened_in opened_with
opened_types env names numbers base head body here o e =
    let rows = env.aggregates in
    let s = signature env here base head.stars head.parameters in
    let p = parts env here body in
    let f = function_frame env names head body s p in
    let made = opened_with names numbers head here.own s.returns p f in
    let at = head.name.at in
    let locals_asked = locals_faults rows at f.locals in
    let types_asked = types_faults rows at f.locals p.types in
    let result_asked = result_faults rows at s.returns in
    let j = judged_good (faults_of env head s.returns p f) made o e in
    let behind = none_left p.faults (locals_asked ++ (types_asked ++ result_asked)) j.0 in
    let last = none_left types_asked result_asked (none_left locals_asked (types_asked ++ result_asked) behind.1).1 in
    subst (λ (x : Opened). All (Sound env) x.types) j.1 (AllPass-from_list_all (is_sound rows) p.types (written_hold rows f.locals p.types (hold_of rows at f.locals p.types last.0)))

function_types : (env : Environment) (names : List (List ℕ)) (numbers : FunctionNumbers) (bs : List Numbered) (base : TypeTree) (head : Head) (body : Stmt) (t : TypedFunction)
    → function env names numbers bs base head body ≡ Good t → All (Sound env) t.types
unfolding function typed_completed typed_bodies
function_types env names numbers bs base head body t e =
    let a = after_pair (opened env names numbers base head body) (targets body) (λ p. typed_completed env names numbers.number bs body p.0 p.1) t e in
    let o : Opened = a.0 in
    let w = within_of o a.1 bs in
    let here : Here = here_of o.own o.variables o.numbered in
    let c = after_pair (statement w env here body) (branches env names (in_branches w) body (site_of here numbers.number) []) (λ p. Good (typed_with o p)) t a.4 in
    subst (λ (u : TypedFunction). All (Sound env) u.types) (good_is c.4) (opened_types env names numbers base head body (here_in (own_adt env head.owner numbers.instance)) o a.2)

module _ (env : Environment) (names : List (List ℕ)) where
  abbrev AreSound : Gathered → Type 0
  AreSound g = All (Sound env) g.types

  item_types : (numbers : FunctionNumbers) (bs : List Numbered) (o : Option Item) (g h : Gathered) → AreSound g → with_item env names numbers bs o g ≡ Good h → AreSound h
  item_types numbers bs (Some (item.Function at scope base head body)) g h sound e =
      let a = and_then_good (function env names numbers bs base head body) (λ t. Good (with_function g t)) h e in
      subst AreSound (good_is a.2) (All-append (Sound env) g.types a.0.types sound (function_types env names numbers bs base head body a.0 a.1))
  item_types numbers bs _ g h sound e = subst AreSound (good_is e) sound

  module _ (items : List Item) (texts : ℕ) where
    all_types : (k : ℕ) (ds : List Defined) (ns : List (List Numbered)) (g h : Gathered) → AreSound g → gathered env names items texts k ds ns g ≡ Good h → AreSound h
    unfolding gathered next
    all_types k [] ns g h sound e = subst AreSound (good_is e) sound
    all_types k (d ∷ ds) ns g h sound e =
        let a = and_then_good (next env names items texts k d (first_of ns) g) (gathered env names items texts (k + 1) ds (rest_of ns)) h e in
        all_types (k + 1) ds (rest_of ns) a.0 h (item_types (numbers_for texts k d g) (first_of ns) (slice_get items d.item) g a.0 sound a.1) a.2

pub bodies_types : (env : Environment) (tree : Tree) (ds : List Defined) (texts : ℕ) (b : Bodies) → bodies env tree ds texts ≡ Good b → All (Sound env) b.types
unfolding bodies
bodies_types env tree ds texts b e =
    let a = and_then_good (gathered env tree.names tree.items texts 0 ds (branch_numbers tree.items ds) none) (λ g. Good (completed g)) b e in
    subst (λ (x : Bodies). All (Sound env) x.types) (good_is a.2) (all_types env tree.names tree.items texts 0 ds (branch_numbers tree.items ds) none a.0 (All-nil (Sound env)) a.1)

-- ---- in initializers

pub initial_types : (env : Environment) (tree : Tree) (i : Initial) → initial env tree ≡ Good i → All (Sound env) i.types
unfolding initial
initial_types env tree i e =
    let q : Parts = gathered_in env tree in
    let asked = initial_faults env.aggregates q.types in
    let a = and_then_good (judged env.aggregates q) (of_written env tree) i e in
    let w : Written = a.0 in
    let b = and_then_good (starts env tree (numbered 0 w.texts)) (λ s. Good (whole env tree w s)) i a.2 in
    let j = judged_good (q.faults ++ asked) (record { texts = q.texts; types = q.types }) w a.1 in
    let sound = asked_none 18 first_place (list_all (is_sound env.aggregates) q.types) (none_left q.faults asked j.0).1 in
    subst (λ (x : Initial). All (Sound env) x.types) (good_is b.2)
    (subst (λ (x : Written). All (Sound env) x.types) j.1 (AllPass-from_list_all (is_sound env.aggregates) q.types sound))
