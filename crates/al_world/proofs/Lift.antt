-- Tasks that correspond one by one give runs that correspond.
use Rattle.std.proofs.Common.{◌≡◌, ℕ, List, [], ◌∷◌, true, false, cond, ◌==◌, Option, Some, None, option_map, option_and_then, refl, ap, ◌∙◌, subst}
use Rattle.std.specs.List.{AllByRecursion}
use Rattle.al_event.specs.declared.act.Start.{Start}
use Rattle.al_event.specs.declared.act.Act.{Act}
use Rattle.al_event.specs.declared.entry.Entry.{Entry}
use Rattle.al_world.specs.Control.{Asked, Kind}
use Rattle.al_world.specs.World.{TaskName, same_task, World, Shared, Held, Absent, Goes, Waits, Told, Answered, Begins, Effect, told, told_one, at_task, at_proc}
use Rattle.al_world.specs.Actions.{first_task, performs}
use Rattle.al_world.specs.Step.{task_of, after, step_asked, step_held, step, run, opening}
use Rattle.al_world.specs.Alike.{Relation, Alike, AsksAlike, Simulates, SimulatesFrom}
use Rattle.al_world.proofs.Cases.{IfSome'}
use Rattle.al_world.proofs.Starts.{IsKnown, TellsKnown, known_performs}

-- both none, or both some and related
abbrev pub OnBoth : {A B : Type 0} → (A → B → Type 0) → Option A → Option B → Type 0
OnBoth R None None = Unit {0}
OnBoth R (Some a) (Some b) = R a b
OnBoth R _ _ = ⊥

module _ (K L : Kind) (R : Relation K.Control L.Control K.Privates L.Privates) (A : Alike K L R) where
  abbrev pub HeldAlike : Held K.Control → Held L.Control → Type 0
  HeldAlike Absent Absent = Unit {0}
  HeldAlike (Goes c) (Goes d) = R.Going c d
  HeldAlike (Waits a c) (Waits b d) = (a ≡ b) × R.Waiting a c d
  HeldAlike _ _ = ⊥

  abbrev pub TasksAlike : (TaskName → Held K.Control) → (TaskName → Held L.Control) → Type 0
  TasksAlike f g = (t : TaskName) → HeldAlike (f t) (g t)

  abbrev pub PrivatesAlike : (ℕ → K.Privates) → (ℕ → L.Privates) → Type 0
  PrivatesAlike f g = (p : ℕ) → R.Private (f p) (g p)

  pub record WorldsAlike (w : World K) (v : World L) : Type 0 where
    pub shared : w.shared ≡ v.shared
    pub tasks : TasksAlike w.tasks v.tasks
    pub privates : PrivatesAlike w.privates v.privates

  resumed_alike : (a b : Act) (words : List ℕ) (c : K.Control) (d : L.Control) → a ≡ b → R.Waiting a c d → HeldAlike (told_one K (Answered words) (Waits a c)) (told_one L (Answered words) (Waits b d))
  resumed_alike a b words c d e r =
      subst (λ x. HeldAlike (told_one K (Answered words) (Waits a c)) (told_one L (Answered words) (Waits x d))) e (A.resumes a c d words r)

  told_one_alike : (t : TaskName) (m : Told) (h : Held K.Control) (k : Held L.Control) → IsKnown R.IsStart (t, m) → HeldAlike h k → HeldAlike (told_one K m h) (told_one L m k)
  told_one_alike t (Answered words) (Waits a c) (Waits b d) n r = resumed_alike a b words c d r.0 r.1
  told_one_alike t (Begins start) Absent Absent n r = A.starts start n
  told_one_alike t (Answered words) Absent Absent n r = r
  told_one_alike t (Answered words) (Goes c) (Goes d) n r = r
  told_one_alike t (Begins start) (Goes c) (Goes d) n r = r
  told_one_alike t (Begins start) (Waits a c) (Waits b d) n r = r
  told_one_alike t _ _ _ n r = absurd r

  at_task_alike : (t : TaskName) (h : Held K.Control) (k : Held L.Control) (f : TaskName → Held K.Control) (g : TaskName → Held L.Control) → HeldAlike h k → TasksAlike f g → TasksAlike (at_task t h f) (at_task t k g)
  at_task_alike t h k f g r rs u = elim (same_task u t) as (λ b. HeldAlike (cond b h (f u)) (cond b k (g u))) [ true ↦ r | false ↦ rs u ]

  at_proc_alike : (p : ℕ) (x : K.Privates) (y : L.Privates) (f : ℕ → K.Privates) (g : ℕ → L.Privates) → R.Private x y → PrivatesAlike f g → PrivatesAlike (at_proc p x f) (at_proc p y g)
  at_proc_alike p x y f g r rs q = elim (q == p) as (λ b. R.Private (cond b x (f q)) (cond b y (g q))) [ true ↦ r | false ↦ rs q ]

  told_alike : (ms : List (TaskName × Told)) (f : TaskName → Held K.Control) (g : TaskName → Held L.Control) → AllByRecursion (IsKnown R.IsStart) ms → TasksAlike f g → TasksAlike (told K ms f) (told L ms g)
  told_alike [] f g n r = r
  told_alike (m ∷ ms) f g n r = told_alike ms _ _ n.1 (at_task_alike m.0 _ _ f g (told_one_alike m.0 m.1 _ _ n.0 (r m.0)) r)

  after_alike : (w : World K) (v : World L) (t : TaskName) (a : Asked K.Control K.Privates) (b : Asked L.Control L.Privates) → WorldsAlike w v → AsksAlike R a b → (e : Effect) → TellsKnown R.IsStart e → WorldsAlike (after K w t a e) (after L v t b e)
  after_alike w v t a b r s e n = record {
    shared = rw s.line refl;
    tasks = told_alike e.told _ _ n.known (at_task_alike t (Waits a.act a.control) (Waits b.act b.control) w.tasks v.tasks (s.act, s.control) r.tasks);
    privates = at_proc_alike t.proc _ _ _ _ s.privates r.privates;
  }

  map_alike : (f : Effect → World K) (g : Effect → World L) (Q : Effect → Type 0) → ((e : Effect) → Q e → WorldsAlike (f e) (g e)) → (o : Option Effect) → IfSome' Q o → OnBoth WorldsAlike (option_map f o) (option_map g o)
  map_alike f g Q h None n = tt
  map_alike f g Q h (Some e) n = h e n

  step_asked_alike : (w : World K) (v : World L) (t : TaskName) (pick : ℕ) (a : Asked K.Control K.Privates) (b : Asked L.Control L.Privates) → WorldsAlike w v → AsksAlike R a b → OnBoth WorldsAlike (step_asked K w t pick a) (step_asked L v t pick b)
  step_asked_alike w v t pick a b r s =
      let same : performs w.shared t a.act pick ≡ performs v.shared t b.act pick = ap (λ x. performs x t a.act pick) r.shared ∙ ap (λ x. performs v.shared t x pick) s.act in
      subst (λ o. OnBoth WorldsAlike (step_asked K w t pick a) (option_map (after L v t b) o)) same
      (map_alike (after K w t a) (after L v t b) (TellsKnown R.IsStart) (after_alike w v t a b r s) (performs w.shared t a.act pick) (known_performs R.IsStart w.shared t a.act pick s.starts))

  step_held_alike : (w : World K) (v : World L) (t : TaskName) (pick : ℕ) (h : Held K.Control) (k : Held L.Control) → WorldsAlike w v → HeldAlike h k → OnBoth WorldsAlike (step_held K w t pick h) (step_held L v t pick k)
  step_held_alike w v t pick (Goes c) (Goes d) r s = step_asked_alike w v t pick _ _ r (A.asks c d _ _ s (r.privates t.proc))
  step_held_alike w v t pick Absent Absent r s = tt
  step_held_alike w v t pick (Waits a c) (Waits b d) r s = tt
  step_held_alike w v t pick _ _ r s = absurd s

  then_alike : {X : Type 0} (f : X → Option (World K)) (g : X → Option (World L)) → ((x : X) → OnBoth WorldsAlike (f x) (g x)) → (o : Option X) → OnBoth WorldsAlike (option_and_then f o) (option_and_then g o)
  then_alike f g h None = tt
  then_alike f g h (Some x) = h x

  pub step_alike : (w : World K) (v : World L) (e : Entry) → WorldsAlike w v → OnBoth WorldsAlike (step K w e) (step L v e)
  step_alike w v e r =
      subst (λ (s : Shared). OnBoth WorldsAlike (step K w e) (option_and_then (λ (t : TaskName). step_held L v t e.pick (v.tasks t)) (task_of s s.over e.proc))) r.shared
      (then_alike _ _ (λ t. step_held_alike w v t e.pick _ _ r (r.tasks t)) (task_of w.shared w.shared.over e.proc))

  run_alike : (h : List Entry) (o : Option (World K)) (p : Option (World L)) → OnBoth WorldsAlike o p → OnBoth WorldsAlike (run K h o) (run L h p)
  run_alike [] o p r = r
  run_alike (e ∷ es) None None r = run_alike es None None tt
  run_alike (e ∷ es) (Some w) (Some v) r = run_alike es _ _ (step_alike w v e r)
  run_alike (e ∷ es) _ _ r = absurd r

  seen_alike : (o : Option (World K)) (p : Option (World L)) → OnBoth WorldsAlike o p → option_map (λ (w : World K). w.shared) o ≡ option_map (λ (v : World L). v.shared) p
  seen_alike None None r = refl
  seen_alike (Some w) (Some v) r = ap Some r.shared
  seen_alike _ _ r = absurd r

  -- worlds whose tasks correspond are seen alike along every schedule
  pub lifting : (w : World K) (v : World L) → WorldsAlike w v → Simulates K L w v
  lifting w v r h = seen_alike _ _ (run_alike h (Some w) (Some v) r)

  pub alike_openings : (region : ℕ) (globals : List (List ℕ)) (start : Start) → R.IsStart start → WorldsAlike (opening K region globals start) (opening L region globals start)
  alike_openings region globals start n = record {
    shared = refl;
    tasks = at_task_alike (first_task 0) _ _ (λ _. Absent) (λ _. Absent) (A.starts start n) (λ t. tt);
    privates = λ p. A.fresh;
  }

  pub lifting_from_start : (start : Start) → R.IsStart start → SimulatesFrom K L start
  lifting_from_start start n region globals = lifting _ _ (alike_openings region globals start n)
