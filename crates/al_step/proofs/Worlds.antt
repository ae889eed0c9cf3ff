-- Worlds that are made of parts.
use Rattle.std.proofs.Common.{◌≡◌, ℕ, true, false, ◌+◌, ◌<◌, ◌^◌, List, [], ◌++◌, length, Option, Some, None, IsSome, option_map, option_and_then, refl, ap, sym, subst, ◌∙◌, arith}
use Rattle.al_base.specs.declared.over.Over.{Over}
use Rattle.al_event.specs.declared.act.Start.{Start}
use Rattle.al_event.specs.Store.{Live}
use Rattle.al_world.specs.Control.{Asked}
use Rattle.al_world.specs.World.{TaskName, Shared, Held, Absent, Goes, Waits, World, Effect, at_task, at_proc, told}
use Rattle.al_world.specs.Actions.{first_task, performs}
use Rattle.al_world.specs.Permitted.{picks}
use Rattle.al_world.specs.Step.{counted, after, step_asked, step_held, opening_with, opening_shared, with_globals}
use Rattle.al_world.proofs.Permits.{done_in_range}
use Rattle.al_event.specs.declared.act.Act.{Act}
use Rattle.al_typed.specs.declared.program.Program.{Program}
use Rattle.al_meaning.specs.Items.{Control}
use Rattle.al_meaning.specs.Places.{opening_blocks, fresh_privates}
use Rattle.al_meaning.specs.Meaning as meaning
use Rattle.al_meaning.specs.Meaning.{source, main_start}
use Rattle.al_control.specs.declared.unmade.Unmade.{Unmade}
use Rattle.al_control.specs.declared.control.Control.{Control as Controls}
use Rattle.al_control.specs.Fits.{Explains}
use Rattle.al_control.specs.Models.{control_of}
use Rattle.al_opening.proofs.Explained.{explains}
use Rattle.al_script.specs.declared.tells.Effect.{Effect as Done}
use Rattle.al_script.specs.declared.world.Made.{Made}
use Rattle.al_script.specs.declared.world.State.{State}
use Rattle.al_script.specs.Worlds.{shared_of, effect_of}
use Rattle.al_script.proofs.PicksAre.{picks-are}
use Rattle.al_step_text.specs.StepText.{text_of}
use Rattle.al_tasks.specs.declared.tasks.Held.{Held as Tabled}
use Rattle.al_tasks.specs.declared.tasks.Held.TheVariants as tabled
use Rattle.al_tasks.specs.Tables.{held_of}
use Rattle.al_opening.specs.Opening.{OpeningFits}
use Rattle.al_walk_calls.specs.Fits.{BeginFits}
use Rattle.al_walk.specs.Asks.{AskFits}
use Rattle.al_step.specs.Sources.{asked_by, HeldFits, PrivatesFit, MainFits, StartFits}

module _ (p : Program) where
  abbrev made_with : Shared → (TaskName → Held Control) → (ℕ → List ℕ) → ℕ → World (source p)
  made_with shared tasks privates work = record { shared = shared; tasks = tasks; privates = privates; work = work }

  abbrev made_of : Shared → (TaskName → Held Control) → (ℕ → List ℕ) → World (source p)
  made_of shared tasks privates = made_with shared tasks privates 0

  same_world : (s t : Shared) (f g : TaskName → Held Control) (u v : ℕ → List ℕ) → s ≡ t → f ≡ g → u ≡ v → made_of s f u ≡ made_of t g v
  same_world s t f g u v a b c = ap (λ (x : Shared). made_of x f u) a ∙ (ap (λ (x : TaskName → Held Control). made_of t x u) b ∙ ap (λ (x : ℕ → List ℕ). made_of t g x) c)

  -- the first world
  pub opens : (region at : ℕ) (blocks : List Live) (over : Option Over) (s : Shared) (begin : Start) (c : Control) (f g : TaskName → Held Control) (fresh : List ℕ) (u : ℕ → List ℕ) → s ≡ opening_shared at blocks over → at ≡ region → opening_with region (with_globals region (opening_blocks p) []) ≡ opening_shared region blocks over → begin ≡ main_start p → c ≡ meaning.start p begin → g ≡ (λ _. Absent) → f ≡ at_task (first_task 0) (Goes c) g → fresh ≡ fresh_privates p → u ≡ (λ _. fresh) → meaning.run p region [] ≡ Some (made_of s f u)
  opens region at blocks over s begin c f g fresh u a same o main started none put own all =
      let shared : s ≡ opening_with region (with_globals region (opening_blocks p) []) = a ∙ (ap (λ (r : ℕ). opening_shared r blocks over) same ∙ sym o) in
      let control : c ≡ meaning.start p (main_start p) = started ∙ ap (meaning.start p) main in
      let tasks : f ≡ at_task (first_task 0) (Goes (meaning.start p (main_start p))) (λ _. Absent) = put ∙ (ap (λ (h : TaskName → Held Control). at_task (first_task 0) (Goes c) h) none ∙ ap (λ (x : Control). at_task (first_task 0) (Goes x) (λ _. Absent)) control) in
      let each : List ℕ → ℕ → List ℕ = λ ws proc. ws in
      let privates : u ≡ (λ _. fresh_privates p) = all ∙ ap each own in
      ap Some (sym (same_world _ _ _ _ _ _ shared tasks privates))

  -- an entry of a task goes by what the task asks
  pub held_asks : (w : World (source p)) (t : TaskName) (pick : ℕ) (h : Held Control) → step_held (source p) w t pick h ≡ option_and_then (λ (a : Asked Control (List ℕ)). step_asked (source p) w t pick a) (asked_by p h (w.privates t.proc))
  held_asks w t pick Absent = refl
  held_asks w t pick (Goes c) = refl
  held_asks w t pick (Waits act c) = refl

  -- the world after an entry is what its parts say
  pub steps : (w : World (source p)) (t : TaskName) (proc pick : ℕ) (a : Asked Control (List ℕ)) (e : Effect) (s : Shared) (f : TaskName → Held Control) (u : ℕ → List ℕ) → proc ≡ t.proc → w.work + a.work ≡ 0 → performs w.shared t a.act pick ≡ Some e → s ≡ counted proc a.line e.shared → f ≡ told (source p) e.told (at_task t (Waits a.act a.control) w.tasks) → u ≡ at_proc proc a.privates w.privates → Some (made_of s f u) ≡ step_asked (source p) w t pick a
  steps w t proc pick a e s f u own none perform is tasks privates =
      let shared : s ≡ counted t.proc a.line e.shared = is ∙ ap (λ (q : ℕ). counted q a.line e.shared) own in
      let all : u ≡ at_proc t.proc a.privates w.privates = privates ∙ ap (λ (q : ℕ). at_proc q a.privates w.privates) own in
      ap Some (same_world _ _ _ _ _ _ shared tasks all ∙ ap (made_with (counted t.proc a.line e.shared) (told (source p) e.told (at_task t (Waits a.act a.control) w.tasks)) (at_proc t.proc a.privates w.privates)) (sym none))
      ∙ ap (λ (o : Option Effect). option_map (after (source p) w t a) o) (sym perform)

  -- a pick out of range
  pub refused : (w : World (source p)) (t : TaskName) (pick : ℕ) (a : Asked Control (List ℕ)) → (pick < picks w.shared a.act → ⊥) → step_asked (source p) w t pick a ≡ None
  refused w t pick a out = on (performs w.shared t a.act pick) refl
    where
      on : (o : Option Effect) → performs w.shared t a.act pick ≡ o → option_map (after (source p) w t a) o ≡ None
      on None e = refl
      on (Some f) e = absurd (out ((done_in_range w.shared t a.act pick).0 (subst (λ (o : Option Effect). IsSome o) (sym e) refl)))

-- ---- what the first world needs

-- the first world has one proc
pub few_procs : (m : Made) (s : State) (region : ℕ) (blocks : List Live) (over : Option Over) → shared_of m s ≡ opening_shared region blocks over → length s.procs < 2 ^ 32
few_procs m s region blocks over e =
    let one : length s.procs ≡ 1 = ap (λ (x : Shared). length x.procs) e in
    omega (arith, one)

pub opening_explains : (p : Program) (e : Unmade) → Explains e (OpeningFits p) → Explains e (StartFits p)
opening_explains p e h = explains e (OpeningFits p) (StartFits p) (λ (f : StartFits p). f.opening) h

pub privates_explain : (p : Program) (e : Unmade) → Explains e (PrivatesFit p) → Explains e (StartFits p)
privates_explain p e h = explains e (PrivatesFit p) (StartFits p) (λ (f : StartFits p). f.privates) h

pub parameters_explain : (p : Program) (e : Unmade) → Explains e (MainFits p) → Explains e (StartFits p)
parameters_explain p e h = explains e (MainFits p) (StartFits p) (λ (f : StartFits p). f.parameters) h

pub main_explains : (p : Program) (e : Unmade) (begin : Start) → begin ≡ main_start p → Explains e (BeginFits p begin.code) → Explains e (StartFits p)
main_explains p e begin is h =
    explains e (BeginFits p begin.code) (StartFits p) (λ (f : StartFits p). subst (λ (b : Start). BeginFits p b.code) (sym is) f.main) h

pub ruleset starts_explain = (opening_explains, privates_explain, parameters_explain, main_explains, few_procs)

-- ---- the text

-- put behind nothing
pub text_is : (p : Program) (s : Shared) (tasks : TaskName → Held Control) (n m : ℕ) (out first : List ℕ) → out ≡ first ++ text_of p s tasks n → first ≡ [] → n ≡ m → out ≡ text_of p s tasks m
text_is p s tasks n m out first put none same = put ∙ (ap (λ (l : List ℕ). l ++ text_of p s tasks n) none ∙ ap (text_of p s tasks) same)

-- ---- what a task asks

pub same_asked : (p : Program) (h k : Held Control) (u v : List ℕ) → h ≡ k → u ≡ v → asked_by p h u ≡ asked_by p k v
same_asked p h k u v a b = ap (λ (x : Held Control). asked_by p x u) a ∙ ap (λ (x : List ℕ). asked_by p k x) b

pub goes_explains : (p : Program) (e : Unmade) (h : Tabled) (c d : Controls) (u : List ℕ) → h ≡ tabled.Goes d → c ≡ d → Explains e (AskFits p (control_of c) u) → Explains e (HeldFits p (held_of h) u)
goes_explains p e h c d u is same x =
    subst (λ (k : Tabled). Explains e (HeldFits p (held_of k) u)) (sym is)
    (subst (λ (k : Controls). Explains e (AskFits p (control_of k) u)) same x)

pub ruleset goes_explain = (goes_explains)

pub held_explains : (p : Program) (e : Unmade) (h k : Held Control) (u v : List ℕ) → h ≡ k → u ≡ v → Explains e (HeldFits p h u) → Explains e (HeldFits p k v)
held_explains p e h k u v a b x =
    subst (λ (w : List ℕ). Explains e (HeldFits p k w)) b (subst (λ (y : Held Control). Explains e (HeldFits p y u)) a x)

pub ruleset asks_explain = (held_explains)

-- ---- picks

pub ruleset picks_are = (picks-are)

-- an action is done under a pick that it has
pub not_none : (made : Made) (o : Option Done) (s : Shared) (t : TaskName) (act : Act) (pick : ℕ) → o ≡ None → option_map (effect_of made) o ≡ performs s t act pick → pick < picks s act → ⊥
not_none made o s t act pick none is below =
    let done : performs s t act pick ≡ None = sym is ∙ ap (option_map (effect_of made)) none in
    let some : IsSome (performs s t act pick) = (done_in_range s t act pick).1 below in
    let no : false ≡ true = subst (λ (x : Option Effect). IsSome x) done some in
    cc

pub ruleset in_range_is_done = (not_none)
