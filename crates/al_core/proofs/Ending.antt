-- A task ends, and its proc with its last task; the task that waited for the proc may go on.
use Rattle.std.proofs.Common.{◌≡◌, ◌≢◌, ℕ, ◌-◌, List, [], ◌∷◌, ◌++◌, map, drop, Option, Some, None, option_map, option_and_then, refl, sym, ap, ap₂, ◌∙◌, subst, true, false, Bool, cond, ◌==◌, ◌⊎◌, inl, inr}
use Rattle.std.specs.Prelude.{slice_get, nat_eq}
use Rattle.std.specs.List.{AllByRecursion}
use Rattle.std.proofs.lemmas.Option.{same_Some, slice_get-map}
use Rattle.std.proofs.lemmas.Bool.Decides.{eqb_tells}
use Rattle.al_event.specs.declared.act.Act.TheVariants.{End}
use Rattle.rv_isa.specs.declared.image.Contents.{Contents}
use Rattle.al_world.specs.Procs.{ProcState, Ended, first_of, has_branches, joins, ends_proc, ends, loses_first, without_parent, joins_ready}
use Rattle.al_world.specs.World.{TaskName, same_task}
use Rattle.al_world.specs.Renamed.{renamed_proc, renamed_ended}
use Rattle.al_world.proofs.Lists.{all_append}
use Rattle.al_world.proofs.Maps.{get-changed-same, get-changed-other}
use Rattle.al_world.specs.Sound.{IsReady, ProcOk, NoDup}
use Rattle.task_book.specs.Table.{lives, home_of}
use Rattle.al_core.specs.Stands.{task_at}
use Rattle.al_core.specs.Acting.{Machinery, Posed}
use Rattle.al_core.proofs.Naming.{AllIn, procs_named}
use Rattle.al_core.proofs.Holding.{all_in_changed}
use Rattle.al_core.proofs.Talking.{all_unmap}
use Rattle.al_core.proofs.Branching.{n, home_is}

module _ {image : Contents} {slot : ℕ} {m : Machinery} (P : Posed image slot End m) where
  abbrev p : ℕ
  p = home_of m.table slot

  -- what ends at a slot is what ends in the world
  pub ends_named : ends same_task (λ (u : TaskName). u.proc) P.shared.procs (n P).proc ≡ renamed_ended (task_at P.name) (ends nat_eq (home_of m.table) m.table.procs p)
  ends_named =
      ap₂ (λ (l : List (ProcState TaskName)) q. ends same_task (λ (u : TaskName). u.proc) l q) (sym P.named.procs_is) (home_is P) ∙ (procs_named P.named).ends_same p

  -- a slot other than the one that ends, with a task
  abbrev pub Remains : ℕ → Type 0
  Remains u = (u ≢ slot) × (lives m.table u ≡ true)

  pub proc_ok : (q : ℕ) (r : ProcState ℕ) → slice_get m.table.procs q ≡ Some r → ProcOk P.tasks q (renamed_proc (task_at P.name) r)
  proc_ok q r g =
      P.sound.procs q (renamed_proc (task_at P.name) r) (ap (λ (l : List (ProcState TaskName)). slice_get l q) (sym P.named.procs_is) ∙ slice_get-map (renamed_proc (task_at P.name)) m.table.procs q ∙ ap (option_map (renamed_proc (task_at P.name))) g)

  -- no proc waits for the task that ends
  pub parent_remains : (q : ℕ) (r : ProcState ℕ) (u : ℕ) → slice_get m.table.procs q ≡ Some r → r.parent ≡ Some u → Remains u
  parent_remains q r u g e =
      (λ y. let j = (proc_ok q r g).parent (task_at P.name u) (ap (option_map (task_at P.name)) e) in let i = j.is in let no = sym P.going.is ∙ ap (λ s. P.tasks (task_at P.name s)) (sym y) ∙ i in cc, P.named.parents q r u g e)

  -- the ready tasks of another proc
  others_remain : (q : ℕ) (r : ProcState ℕ) → slice_get m.table.procs q ≡ Some r → q ≢ p → AllByRecursion Remains r.ready
  others_remain q r g ne =
      both r.ready (all_unmap (IsReady P.tasks q) (task_at P.name) r.ready (proc_ok q r g).ready) (P.named.ready q r g)
    where
      both : (l : List ℕ) → AllByRecursion (λ u. IsReady P.tasks q (task_at P.name u)) l → AllByRecursion (λ u. lives m.table u ≡ true) l → AllByRecursion Remains l
      both [] a b = tt
      both (u ∷ us) a b =
          ((λ y. ne (sym a.0.home ∙ ap (λ s. (task_at P.name s).proc) y ∙ home_is P), b.0), both us a.1 b.1)

  -- the ready tasks behind the one that ends
  rest_remains : (r : ProcState ℕ) → slice_get m.table.procs p ≡ Some r → AllByRecursion Remains (drop 1 r.ready)
  rest_remains r g = on r.ready refl
    where
      first : first_of r.ready ≡ Some slot
      first = ap (option_and_then (λ (r : ProcState ℕ). first_of r.ready)) (sym g) ∙ P.first

      differ : (us : List ℕ) → AllByRecursion (λ (k : TaskName). n P ≢ k) (map (task_at P.name) us) → AllByRecursion (λ u. lives m.table u ≡ true) us → AllByRecursion Remains us
      differ [] a b = tt
      differ (u ∷ us) a b = ((λ y. a.0 (ap (task_at P.name) (sym y)), b.0), differ us a.1 b.1)

      on : (l : List ℕ) → r.ready ≡ l → AllByRecursion Remains (drop 1 l)
      on [] e = tt
      on (u ∷ us) e =
          let is : u ≡ slot = same_Some u slot (ap first_of (sym e) ∙ first) in
          let d : NoDup (map (task_at P.name) (u ∷ us)) = subst (λ l. NoDup (map (task_at P.name) l)) e (proc_ok p r g).distinct in
          let a : AllByRecursion (λ u. lives m.table u ≡ true) (u ∷ us) = subst (AllByRecursion (λ u. lives m.table u ≡ true)) e (P.named.ready p r g) in
          differ us (subst (λ k. AllByRecursion (λ (j : TaskName). task_at P.name k ≢ j) (map (task_at P.name) us)) is d.0) a.1

  all_lost : AllIn Remains (loses_first p m.table.procs)
  all_lost = record {
    ready = λ q r g. (part q r g).0;
    parents = λ q r u g e. (part q r g).1 u e;
  }
    where
      here : (o : Option (ProcState ℕ)) (r : ProcState ℕ) → slice_get m.table.procs p ≡ o → option_map (λ (q : ProcState ℕ). record q { ready = drop 1 q.ready; live = q.live - 1 }) o ≡ Some r → AllByRecursion Remains r.ready × ((u : ℕ) → r.parent ≡ Some u → Remains u)
      here None r g e = absurd (cc)
      here (Some s) r g e =
          subst (λ (r : ProcState ℕ). AllByRecursion Remains r.ready × ((u : ℕ) → r.parent ≡ Some u → Remains u)) (same_Some _ _ e) (rest_remains s g, λ u f. parent_remains p s u g f)

      part : (q : ℕ) (r : ProcState ℕ) → slice_get (loses_first p m.table.procs) q ≡ Some r → AllByRecursion Remains r.ready × ((u : ℕ) → r.parent ≡ Some u → Remains u)
      part q r g = on (eqb_tells q p)
        where
          on : ((q == p ≡ true) × (q ≡ p)) ⊎ ((q == p ≡ false) × (q ≢ p)) → AllByRecursion Remains r.ready × ((u : ℕ) → r.parent ≡ Some u → Remains u)
          on (inl e) = here (slice_get m.table.procs p) r refl (sym (get-changed-same p (λ (q : ProcState ℕ). record q { ready = drop 1 q.ready; live = q.live - 1 }) m.table.procs) ∙ subst (λ q. slice_get (loses_first p m.table.procs) q ≡ Some r) e.1 g)
          on (inr e) =
              let old : slice_get m.table.procs q ≡ Some r = sym (get-changed-other p q (λ (q : ProcState ℕ). record q { ready = drop 1 q.ready; live = q.live - 1 }) m.table.procs e.1) ∙ g in
              (others_remain q r old e.1, λ u f. parent_remains q r u old f)

  -- what the procs name after the end
  pub all_ended : AllIn Remains (ends nat_eq (home_of m.table) m.table.procs p).procs
  all_ended = on (slice_get (loses_first p m.table.procs) p) refl
    where
      unparented : AllIn Remains (without_parent p (loses_first p m.table.procs))
      unparented = all_in_changed Remains p (λ (q : ProcState ℕ). record q { parent = None }) (loses_first p m.table.procs) (λ q g a. a) (λ q u e. absurd (cc)) all_lost

      by : (b : Bool) (x y : Ended ℕ) → AllIn Remains x.procs → AllIn Remains y.procs → AllIn Remains (cond {A = Ended ℕ} b x y).procs
      by true x y a c = a
      by false x y a c = c

      joined : (o : Option ℕ) → ((u : ℕ) → o ≡ Some u → Remains u) → AllIn Remains (joins nat_eq (home_of m.table) (without_parent p (loses_first p m.table.procs)) o).procs
      joined None h = unparented
      joined (Some u) h =
          by (has_branches nat_eq (home_of m.table) u (without_parent p (loses_first p m.table.procs))) (record { procs = without_parent p (loses_first p m.table.procs); proc_ended = true; woke = None }) (record { procs = joins_ready (home_of m.table u) u (without_parent p (loses_first p m.table.procs)); proc_ended = true; woke = Some u }) unparented
          (all_in_changed Remains (home_of m.table u) (λ (q : ProcState ℕ). record q { ready = q.ready ++ u ∷ [] }) (without_parent p (loses_first p m.table.procs)) (λ q g a. all_append Remains q.ready (u ∷ []) a (h u refl, tt)) (λ q u e. e) unparented)

      on : (o : Option (ProcState ℕ)) → slice_get (loses_first p m.table.procs) p ≡ o → AllIn Remains (ends_proc nat_eq (home_of m.table) (loses_first p m.table.procs) p o).procs
      on None g = all_lost
      on (Some q) g =
          by (q.live == 0) (joins nat_eq (home_of m.table) (without_parent p (loses_first p m.table.procs)) q.parent) (record { procs = loses_first p m.table.procs; proc_ended = false; woke = None }) (joined q.parent (λ u e. all_lost.parents p q u g e)) all_lost
