-- A control does what the meaning says of the parts of statements.
use Rattle.std.proofs.Common.{◌≡◌, ℕ, suc, ◌+◌, ◌^◌, List, [], ◌∷◌, ◌++◌, length, map, Option, Some, None, refl, sym, ap, subst, arith, length-append}
use Rattle.std.specs.List.{flat_map}
use Rattle.al_event.specs.declared.act.Act.{Act}
use Rattle.al_event.specs.declared.act.Act.TheVariants as act
use Rattle.al_event.specs.declared.act.Start.{Start}
use Rattle.al_typed.specs.declared.ty.Ty.{Ty, out-Ty}
use Rattle.al_typed.specs.declared.ty.Ty.TheOpen.{Ty-F}
use Rattle.al_typed.specs.declared.expression.TExpr.{TExpr, Call'}
use Rattle.al_typed.specs.declared.expression.TPlace.{TPlace}
use Rattle.al_typed.specs.declared.statement.TInitializer.{TInitializer}
use Rattle.al_typed.specs.declared.statement.TCommunication.{TCommunication}
use Rattle.al_typed.specs.declared.statement.TCommunication.TheVariants as talk
use Rattle.al_typed.specs.Types.{is_void}
use Rattle.al_typed.specs.Typed.{type_of, place_type, target_type}
use Rattle.al_meaning.specs.Words.{converted, fitted_to}
use Rattle.al_meaning.specs.Items.{Found, Words, Work, Give, Drop, StartProc, StartTask, Item, Frame, Control}
use Rattle.al_meaning.specs.Parts.{item, exprs, receiver_of}
use Rattle.al_meaning.specs.Here.{units_in}
use Rattle.al_meaning.specs.Calls.{evaluated, object_count, call_work, joined}
use Rattle.al_meaning.specs.Evaluate.{leaves_of, and_dropped, allocates, gives_back, went_work}
use Rattle.al_meaning.specs.Execute.{optionally, initializer_work, allocation_work, unallocation_work}
use Rattle.al_meaning.specs.Step.{private_step}
use Rattle.al_meaning.specs.Tasks.{Env, Still, Outcome, Rest, Task, Ways}
use Rattle.al_meaning.specs.Tasks as task
use Rattle.al_meaning.specs.Meant as meant
use Rattle.al_meaning.proofs.Does.{stuck, one, asks, asks_words, one_word}
use Rattle.al_meaning.proofs.Places.{pushed, values_taken, places_taken, pushed_both, at, place, slots_here, DoesIt, moved, val, dropped_does, save_does, saves_do}
use Rattle.al_meaning.proofs.Expressions.{CallsDo, expr_does, place_does, aim_does, object_does, all_do}

pub laid : (line : ℕ) (work more : List Work) (items : List Item) → map (item line) (work ++ more) ++ items ≡ map (item line) work ++ (map (item line) more ++ items)
laid line [] more items = refl
laid line (x ∷ work) more items = ap (λ is. item line x ∷ is) (laid line work more items)

module _ (w : Ways) (below : List Frame) (calls_do : CallsDo w.program w.call (slots_here w below)) where
  abbrev At : Env → List Item → List Found → Control
  At = at w below

  abbrev D : Outcome → Control → Still → Type 0
  D = DoesIt w below

  abbrev it : Work → Item
  it = item w.line

  pub shifted : {o : Outcome} {env : Env} {items : List Item} {fs : List Found} {s : Still} (old : List Item) → items ≡ old → D o (At env old fs) s → D o (At env items fs) s
  shifted {o} {env} {items} {fs} {s} old e h = subst (λ is. D o (At env is fs) s) (sym e) h

  pub evaluated_does : (e : TExpr) (items : List Item) {fs : List Found} (env : Env) (s : Still) (next : Unit {0} → Rest)
      → ((env : Env) (s : Still) → D (next tt env s) (At env items fs) s)
      → D (meant.evaluated e w env s next) (At env (map it (and_dropped e) ++ items) fs) s
  evaluated_does e items env s next h =
      expr_does w below calls_do e env s _ (λ o env s. dropped_does w below (is_void (type_of e)) o (λ ws. map it ws ++ items) items env s next refl refl (h env s))

  pub optionally_does : (o : Option TExpr) (more : List Work) (items : List Item) {fs : List Found} (env : Env) (s : Still) (next : Unit {0} → Rest)
      → ((env : Env) (s : Still) → D (next tt env s) (At env (map it more ++ items) fs) s)
      → D (meant.optionally o w env s next) (At env (map it (optionally o ++ more) ++ items) fs) s
  optionally_does None more items env s next h = h env s
  optionally_does (Some e) more items env s next h =
      shifted _ (laid w.line (and_dropped e) more items) (evaluated_does e (map it more ++ items) env s next h)

  pub values_do : (es : List TExpr) (more : List Work) (items : List Item) {fs : List Found} (env : Env) (s : Still) (next : List (List ℕ) → Rest)
      → ((vs : List (List ℕ)) (env : Env) (s : Still) → length vs ≡ length es → D (next vs env s) (At env (map it more ++ items) (pushed vs fs)) s)
      → D (meant.values_of es w env s next) (At env (map it (evaluated es ++ more) ++ items) fs) s
  values_do [] more items env s next h = h [] env s refl
  values_do (e ∷ es) more items env s next h =
      expr_does w below calls_do e env s _ (val w below _ (λ v env s. values_do es more items env s _ (λ vs env s l. h (v ∷ vs) env s (ap suc l))))

  pub initialized_does : (is : List TInitializer) (items : List Item) {fs : List Found} (env : Env) (s : Still) (next : Unit {0} → Rest)
      → ((env : Env) (s : Still) → D (next tt env s) (At env items fs) s)
      → D (meant.initialized is w env s next) (At env (map it (flat_map initializer_work is) ++ items) fs) s
  initialized_does [] items env s next h = h env s
  initialized_does (i ∷ rest) items env s next h =
      one refl (expr_does w below calls_do i.value _ s _ (val w below _ (λ v env s.
      one refl (save_does w below (type_of i.value) v _ env s _ (λ env s. initialized_does rest items env s next h)))))

  -- a call's object and arguments
  pub start_does : (e : TExpr) (then_do : ℕ → ℕ → Work) (items : List Item) {fs : List Found} (env : Env) (s : Still) (next : Start → Rest)
      → ((function count : ℕ) (vs : List (List ℕ)) (env : Env) (s : Still) → length vs ≡ count
      → D (next (record { code = function; words = joined vs }) env s) (At env (it (then_do function count) ∷ items) (pushed vs fs)) s)
      → D (meant.start_of e w env s next) (At env (map it (call_work w.program e then_do) ++ items) fs) s
  start_does (Call' t function receiver _ arguments) then_do items {fs} env s next h =
      let n : ℕ = object_count (receiver_of receiver) + length (exprs arguments) in
      object_does w below calls_do receiver (evaluated (exprs arguments)) (then_do function n ∷ []) items env s _ (λ os env s l.
      all_do w below calls_do arguments (then_do function n ∷ []) items env s _ (λ vs env s m.
      moved w below _ (pushed_both os vs fs) (h function n (os ++ vs) env s (omega (arith, l, m, length-append os vs)))))
  start_does _ then_do items env s next h = stuck

  pub starts_do : (how : Start → Act) (then_do : ℕ → ℕ → Work) (es : List TExpr) (items : List Item) {fs : List Found} (env : Env) (s : Still) (next : Unit {0} → Rest)
      → ((function count : ℕ) (vs : List (List ℕ)) (env : Env) (s : Still) (items : List Item) (next : List ℕ → Rest) → length vs ≡ count
      → ((env : Env) (s : Still) → D (next [] env s) (At env items fs) s)
      → D (task.asks w (how (record { code = function; words = joined vs })) env s next) (At env (it (then_do function count) ∷ items) (pushed vs fs)) s)
      → ((env : Env) (s : Still) → D (next tt env s) (At env items fs) s)
      → D (meant.starts_all how es w env s next) (At env (map it (flat_map (λ e. call_work w.program e then_do) es) ++ items) fs) s
  starts_do how then_do [] items env s next ask h = h env s
  starts_do how then_do (e ∷ es) items env s next ask h =
      shifted _ (laid w.line (call_work w.program e then_do) (flat_map (λ e. call_work w.program e then_do) es) items)
      (start_does e then_do _ env s _ (λ function count vs env s l. ask function count vs env s _ (λ words env s. meant.starts_all how es w env s next) l (λ env s. starts_do how then_do es items env s next ask h)))

  pub procs_do : (es : List TExpr) (items : List Item) {fs : List Found} (env : Env) (s : Still) (next : Unit {0} → Rest)
      → ((env : Env) (s : Still) → D (next tt env s) (At env items fs) s)
      → D (meant.starts_all act.Proc es w env s next) (At env (map it (flat_map (λ e. call_work w.program e StartProc) es) ++ items) fs) s
  procs_do es items {fs} env s next h = starts_do act.Proc StartProc es items env s next (λ function count vs env s items next l h.
      asks _ (values_taken count vs fs (place w below env items [] s) _ l) refl (λ words s. one refl (h env s))) h

  pub tasks_do : (es : List TExpr) (items : List Item) {fs : List Found} (env : Env) (s : Still) (next : Unit {0} → Rest)
      → ((env : Env) (s : Still) → D (next tt env s) (At env items fs) s)
      → D (meant.starts_all act.Task es w env s next) (At env (map it (flat_map (λ e. call_work w.program e StartTask) es) ++ items) fs) s
  tasks_do es items {fs} env s next h = starts_do act.Task StartTask es items env s next (λ function count vs env s items next l h.
      asks _ (values_taken count vs fs (place w below env items [] s) _ l) refl (λ words s. one refl (h env s))) h

  new_does : {items : List Item} {fs : List Found} {c : Control} (t : Ty-F Ty) (env : Env) (s : Still) (next : List ℕ → Rest)
      → private_step w.program c s.privates ≡ allocates t (place w below env items fs s)
      → ((v : List ℕ) (env : Env) (s : Still) → D (next v env s) (At env items (Words v ∷ fs)) s)
      → D (meant.new_of w t env s next) c s
  new_does (Ty-F.Pointer to) env s next e h = asks_words _ e refl (one_word (2 ^ 32)) (λ v s. one refl (h v env s))
  new_does (Ty-F.Chan element capacity) env s next e h = asks_words _ e refl (one_word (2 ^ 32)) (λ v s. one refl (h v env s))
  new_does _ env s next e h = stuck

  pub allocated_does : (places : List TPlace) (items : List Item) {fs : List Found} (env : Env) (s : Still) (next : Unit {0} → Rest)
      → ((env : Env) (s : Still) → D (next tt env s) (At env items fs) s)
      → D (meant.allocated places w env s next) (At env (map it (flat_map allocation_work places) ++ items) fs) s
  allocated_does [] items env s next h = h env s
  allocated_does (of ∷ rest) items env s next h =
      place_does w below calls_do of env s _ (λ f env s. new_does (out-Ty (place_type of)) env s _ refl (λ v env s.
      one refl (save_does w below (place_type of) v f env s _ (λ env s. allocated_does rest items env s next h))))

  freed_does : {items : List Item} {fs : List Found} {c : Control} (t : Ty-F Ty) (n : ℕ) (env : Env) (s : Still) (next : List ℕ → Rest)
      → private_step w.program c s.privates ≡ gives_back t n (place w below env items fs s)
      → ((env : Env) (s : Still) → D (next [] env s) (At env items fs) s)
      → D (meant.given_back w t n env s next) c s
  freed_does (Ty-F.Chan element capacity) n env s next e h = asks _ e refl (λ words s. one refl (h env s))
  freed_does _ n env s next e h = asks _ e refl (λ words s. one refl (h env s))

  pub unallocated_does : (es : List TExpr) (items : List Item) {fs : List Found} (env : Env) (s : Still) (next : Unit {0} → Rest)
      → ((env : Env) (s : Still) → D (next tt env s) (At env items fs) s)
      → D (meant.unallocated es w env s next) (At env (map it (flat_map unallocation_work es) ++ items) fs) s
  unallocated_does [] items env s next h = h env s
  unallocated_does (e ∷ es) items env s next h =
      expr_does w below calls_do e env s _ (val w below _ (λ v env s.
      freed_does (out-Ty (type_of e)) _ env s _ refl (λ env s. unallocated_does es items env s next h)))

  -- what the case of an alt that went does with what it received
  pub went_does : (c : TCommunication) (words : List ℕ) (items : List Item) {fs : List Found} (env : Env) (s : Still) (next : Unit {0} → Rest)
      → ((env : Env) (s : Still) → D (next tt env s) (At env items fs) s)
      → D (meant.went c words w env s next) (At env (map it (went_work w.program c words) ++ items) fs) s
  went_does (talk.ReceiveInto t target chan) words items {fs} env s next h =
      let v : List ℕ = converted w.program.aggregates t (target_type target) (fitted_to (units_in w.program t) words) in
      aim_does w below calls_do target env s _ (λ places env s l. one refl
      (one (places_taken (length (leaves_of target)) places fs (place w below env (it Drop ∷ items) [] s) _ l)
      (saves_do w below (it Drop ∷ items) (Give v ∷ []) (leaves_of target) places v env s _ (λ env s. one refl (one refl (h env s))))))
  went_does (talk.Receive t chan) words items env s next h = h env s
  went_does (talk.Send chan value) words items env s next h = h env s
