-- Tasks that correspond up to actions without an answer give runs that correspond.
use Rattle.std.proofs.Common.{◌≡◌, ℕ, List, [], ◌∷◌, true, false, cond, ◌==◌, Option, Some, None, option_map, option_and_then, refl, sym, ap, ◌∙◌, subst, subst₂}
use Rattle.std.specs.List.{AllByRecursion}
use Rattle.al_event.specs.declared.act.Start.{Start}
use Rattle.al_event.specs.declared.act.Act.{Act}
use Rattle.al_event.specs.declared.entry.Entry.{Entry}
use Rattle.al_world.specs.Control.{Asked, Kind}
use Rattle.al_world.specs.World.{TaskName, same_task, World, Shared, Held, Absent, Goes, Waits, Told, Answered, Begins, Effect, told, told_one, at_task, at_proc}
use Rattle.al_world.specs.Actions.{first_task, performs}
use Rattle.al_world.specs.Step.{task_of, after, step_asked, step_held, step, run, opening}
use Rattle.al_world.specs.Alike.{Relation, AsksAlike, SimulatesFrom}
use Rattle.al_until_last.specs.UntilLast.{is_last, AlikeUntilLast, IsAnswerable}
use Rattle.al_world.proofs.Maps.{at_task_cases}
use Rattle.al_world.proofs.Roles.{SoundWorld, sound_step, sound_opening}
use Rattle.al_until_last.proofs.Answerable.{TellsAnswerable, tells_answerable}
use Rattle.al_world.proofs.Cases.{IfSome'}
use Rattle.al_world.proofs.Starts.{IsKnown, TellsKnown, known_performs}
use Rattle.al_world.proofs.Runs.{run_none}
use Rattle.al_world.proofs.Lift.{OnBoth}

module _ (K L : Kind) (R : Relation K.Control L.Control K.Privates L.Privates) (A : AlikeUntilLast K L R) where
  abbrev pub HeldAlike : Held K.Control → Held L.Control → Type 0
  HeldAlike Absent Absent = Unit {0}
  HeldAlike (Goes c) (Goes d) = R.Going c d
  HeldAlike (Waits a c) (Waits b d) = (a ≡ b) × (is_last a ≡ false → R.Waiting a c d)
  HeldAlike _ _ = ⊥

  abbrev pub TasksAlike : (TaskName → Held K.Control) → (TaskName → Held L.Control) → Type 0
  TasksAlike f g = (t : TaskName) → HeldAlike (f t) (g t)

  abbrev pub PrivatesAlike : (ℕ → K.Privates) → (ℕ → L.Privates) → Type 0
  PrivatesAlike f g = (p : ℕ) → R.Private (f p) (g p)

  pub record WorldsAlike (w : World K) (v : World L) : Type 0 where
    pub shared : w.shared ≡ v.shared
    pub tasks : TasksAlike w.tasks v.tasks
    pub privates : PrivatesAlike w.privates v.privates

  resumed_alike : (a b : Act) (words : List ℕ) (c : K.Control) (d : L.Control) → a ≡ b → is_last a ≡ false → R.Waiting a c d → HeldAlike (told_one K (Answered words) (Waits a c)) (told_one L (Answered words) (Waits b d))
  resumed_alike a b words c d e f r =
      subst (λ x. HeldAlike (told_one K (Answered words) (Waits a c)) (told_one L (Answered words) (Waits x d))) e (A.resumes a c d words f r)

  told_one_alike : (t : TaskName) (m : Told) (h : Held K.Control) (k : Held L.Control) → IsKnown R.IsStart (t, m) → IsAnswerable (λ (_ : TaskName). h) (t, m) → HeldAlike h k → HeldAlike (told_one K m h) (told_one L m k)
  told_one_alike t (Answered words) (Waits a c) (Waits b d) n v r = let f = v a c refl in resumed_alike a b words c d r.0 f (r.1 f)
  told_one_alike t (Begins start) Absent Absent n v r = A.starts start n
  told_one_alike t (Answered words) Absent Absent n v r = r
  told_one_alike t (Answered words) (Goes c) (Goes d) n v r = r
  told_one_alike t (Begins start) (Goes c) (Goes d) n v r = r
  told_one_alike t (Begins start) (Waits a c) (Waits b d) n v r = r
  told_one_alike t _ _ _ n v r = absurd r

  at_task_alike : (t : TaskName) (h : Held K.Control) (k : Held L.Control) (f : TaskName → Held K.Control) (g : TaskName → Held L.Control) → HeldAlike h k → TasksAlike f g → TasksAlike (at_task t h f) (at_task t k g)
  at_task_alike t h k f g r rs u = elim (same_task u t) as (λ b. HeldAlike (cond b h (f u)) (cond b k (g u))) [ true ↦ r | false ↦ rs u ]

  at_proc_alike : (p : ℕ) (x : K.Privates) (y : L.Privates) (f : ℕ → K.Privates) (g : ℕ → L.Privates) → R.Private x y → PrivatesAlike f g → PrivatesAlike (at_proc p x f) (at_proc p y g)
  at_proc_alike p x y f g r rs q = elim (q == p) as (λ b. R.Private (cond b x (f q)) (cond b y (g q))) [ true ↦ r | false ↦ rs q ]

  -- who waits after a message waited before it
  waited : (m : Told) (h : Held K.Control) (a : Act) (c : K.Control) → told_one K m h ≡ Waits a c → h ≡ Waits a c
  waited (Answered words) (Waits b d) a c e = absurd (cc)
  waited (Begins start) Absent a c e = absurd (cc)
  waited (Answered words) Absent a c e = e
  waited (Answered words) (Goes d) a c e = e
  waited (Begins start) (Goes d) a c e = e
  waited (Begins start) (Waits b d) a c e = e

  waited_at : (m : TaskName × Told) (f : TaskName → Held K.Control) (u : TaskName) (a : Act) (c : K.Control) → at_task m.0 (told_one K m.1 (f m.0)) f u ≡ Waits a c → f u ≡ Waits a c
  waited_at m f u a c e =
      at_task_cases (λ h. h ≡ Waits a c → f u ≡ Waits a c) m.0 u (told_one K m.1 (f m.0)) f (λ same w. ap f same ∙ waited m.1 (f m.0) a c w) (λ other w. w) e

  still_answerable : (m : TaskName × Told) (f : TaskName → Held K.Control) (ms : List (TaskName × Told)) → AllByRecursion (IsAnswerable f) ms → AllByRecursion (IsAnswerable (at_task m.0 (told_one K m.1 (f m.0)) f)) ms
  still_answerable m f [] h = tt
  still_answerable m f ((u, Answered words) ∷ ms) h = ((λ a c e. h.0 a c (waited_at m f u a c e)), still_answerable m f ms h.1)
  still_answerable m f ((u, Begins start) ∷ ms) h = (tt, still_answerable m f ms h.1)

  answerable_here : (f : TaskName → Held K.Control) (u : TaskName) (m : Told) → IsAnswerable f (u, m) → IsAnswerable (λ (_ : TaskName). f u) (u, m)
  answerable_here f u (Answered words) h = h
  answerable_here f u (Begins start) h = tt

  told_alike : (ms : List (TaskName × Told)) (f : TaskName → Held K.Control) (g : TaskName → Held L.Control) → AllByRecursion (IsKnown R.IsStart) ms → AllByRecursion (IsAnswerable f) ms → TasksAlike f g → TasksAlike (told K ms f) (told L ms g)
  told_alike [] f g n v r = r
  told_alike (m ∷ ms) f g n v r = told_alike ms _ _ n.1 (still_answerable m f ms v.1) (at_task_alike m.0 _ _ f g (told_one_alike m.0 m.1 _ _ n.0 (answerable_here f m.0 m.1 v.0) (r m.0)) r)

  after_alike : (w : World K) (v : World L) (t : TaskName) (a : Asked K.Control K.Privates) (b : Asked L.Control L.Privates) → WorldsAlike w v → AsksAlike R a b → (e : Effect) → TellsKnown R.IsStart e → TellsAnswerable (at_task t (Waits a.act a.control) w.tasks) e → WorldsAlike (after K w t a e) (after L v t b e)
  after_alike w v t a b r s e n q = record {
    shared = rw s.line refl;
    tasks = told_alike e.told _ _ n.known q.told (at_task_alike t (Waits a.act a.control) (Waits b.act b.control) w.tasks v.tasks (s.act, λ _. s.control) r.tasks);
    privates = at_proc_alike t.proc _ _ _ _ s.privates r.privates;
  }

  map_alike : (f : Effect → World K) (g : Effect → World L) (P Q : Effect → Type 0) → ((e : Effect) → P e → Q e → WorldsAlike (f e) (g e)) → (o : Option Effect) → IfSome' P o → IfSome' Q o → OnBoth WorldsAlike (option_map f o) (option_map g o)
  map_alike f g P Q h None n q = tt
  map_alike f g P Q h (Some e) n q = h e n q

  step_asked_alike : (w : World K) (v : World L) (t : TaskName) (pick : ℕ) (a : Asked K.Control K.Privates) (b : Asked L.Control L.Privates) → WorldsAlike w v → AsksAlike R a b → IfSome' (TellsAnswerable (at_task t (Waits a.act a.control) w.tasks)) (performs w.shared t a.act pick) → OnBoth WorldsAlike (step_asked K w t pick a) (step_asked L v t pick b)
  step_asked_alike w v t pick a b r s q =
      let same : performs w.shared t a.act pick ≡ performs v.shared t b.act pick = ap (λ x. performs x t a.act pick) r.shared ∙ ap (λ x. performs v.shared t x pick) s.act in
      subst (λ o. OnBoth WorldsAlike (step_asked K w t pick a) (option_map (after L v t b) o)) same
      (map_alike (after K w t a) (after L v t b) (TellsKnown R.IsStart) (TellsAnswerable (at_task t (Waits a.act a.control) w.tasks)) (after_alike w v t a b r s) (performs w.shared t a.act pick) (known_performs R.IsStart w.shared t a.act pick s.starts) q)

  step_held_alike : (w : World K) (v : World L) (t : TaskName) (pick : ℕ) (h : Held K.Control) (k : Held L.Control) → WorldsAlike w v → HeldAlike h k → ((c : K.Control) → h ≡ Goes c → IfSome' (TellsAnswerable (at_task t (Waits (K.ask c (w.privates t.proc)).act (K.ask c (w.privates t.proc)).control) w.tasks)) (performs w.shared t (K.ask c (w.privates t.proc)).act pick)) → OnBoth WorldsAlike (step_held K w t pick h) (step_held L v t pick k)
  step_held_alike w v t pick (Goes c) (Goes d) r s q = step_asked_alike w v t pick _ _ r (A.asks c d _ _ s (r.privates t.proc)) (q c refl)
  step_held_alike w v t pick Absent Absent r s q = tt
  step_held_alike w v t pick (Waits a c) (Waits b d) r s q = tt
  step_held_alike w v t pick _ _ r s q = absurd s

  then_alike : {X : Type 0} (f : X → Option (World K)) (g : X → Option (World L)) (o : Option X) → ((x : X) → o ≡ Some x → OnBoth WorldsAlike (f x) (g x)) → OnBoth WorldsAlike (option_and_then f o) (option_and_then g o)
  then_alike f g None h = tt
  then_alike f g (Some x) h = h x refl

  none_over : (w : World K) (p : ℕ) (t : TaskName) → task_of w.shared w.shared.over p ≡ Some t → w.shared.over ≡ None
  none_over w p t e = on w.shared.over e
    where
      on : (o : Option _) → task_of w.shared o p ≡ Some t → o ≡ None
      on None e = refl
      on (Some x) e = absurd (cc)

  pub step_alike : (w : World K) (v : World L) (e : Entry) → SoundWorld K w → WorldsAlike w v → OnBoth WorldsAlike (step K w e) (step L v e)
  step_alike w v e sound r =
      subst (λ (s : Shared). OnBoth WorldsAlike (step K w e) (option_and_then (λ (t : TaskName). step_held L v t e.pick (v.tasks t)) (task_of s s.over e.proc))) r.shared
      (then_alike _ _ (task_of w.shared w.shared.over e.proc) (λ t at. step_held_alike w v t e.pick _ _ r (r.tasks t) (λ c going.
      tells_answerable K w t c e.pick (sound (none_over w e.proc t at)) going)))

  run_alike : (h : List Entry) (w : World K) (v : World L) → SoundWorld K w → WorldsAlike w v → OnBoth WorldsAlike (run K h (Some w)) (run L h (Some v))
  run_alike [] w v sound r = r
  run_alike (e ∷ es) w v sound r = on (step K w e) (step L v e) refl (step_alike w v e sound r) (λ x y. run_alike es x y)
    where
      on : (o : Option (World K)) (p : Option (World L)) → step K w e ≡ o → OnBoth WorldsAlike o p → ((x : World K) (y : World L) → SoundWorld K x → WorldsAlike x y → OnBoth WorldsAlike (run K es (Some x)) (run L es (Some y))) → OnBoth WorldsAlike (run K es o) (run L es p)
      on None None st r later = subst₂ (λ o p. OnBoth WorldsAlike o p) (sym (run_none K es)) (sym (run_none L es)) tt
      on (Some x) (Some y) st r later = later x y (sound_step K w x e sound st) r
      on None (Some y) st r later = absurd r
      on (Some x) None st r later = absurd r

  seen_alike : (o : Option (World K)) (p : Option (World L)) → OnBoth WorldsAlike o p → option_map (λ (w : World K). w.shared) o ≡ option_map (λ (v : World L). v.shared) p
  seen_alike None None r = refl
  seen_alike (Some w) (Some v) r = ap Some r.shared
  seen_alike _ _ r = absurd r

  pub alike_openings : (region : ℕ) (globals : List (List ℕ)) (start : Start) → R.IsStart start → WorldsAlike (opening K region globals start) (opening L region globals start)
  alike_openings region globals start n = record {
    shared = refl;
    tasks = at_task_alike (first_task 0) _ _ (λ _. Absent) (λ _. Absent) (A.starts start n) (λ t. tt);
    privates = λ p. A.fresh;
  }

  -- the law
  pub lifting_from_start : (start : Start) → R.IsStart start → SimulatesFrom K L start
  lifting_from_start start n region globals h = seen_alike _ _ (run_alike h _ _ (sound_opening K region globals start) (alike_openings region globals start n))
