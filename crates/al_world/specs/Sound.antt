-- What holds of each world that a run comes to and that is not over: each ready task goes on and is ready once, each blocked
-- one waits for its talk, each parent for its par, and a task that was not started is absent.
use Rattle.std.specs.Prelude.{◌≡◌, ◌≢◌, ℕ, ◌≤◌, List, [], ◌∷◌, length, Some, slice_get}
use Rattle.std.specs.List.{AllByRecursion}
use Rattle.al_event.specs.declared.act.Branch.{Branch}
use Rattle.al_event.specs.declared.act.Start.{Start}
use Rattle.al_event.specs.declared.act.Act.TheVariants.{Talk, Par}
use Rattle.al_world.specs.Channels.{Offer}
use Rattle.al_world.specs.Procs.{ProcState}
use Rattle.al_world.specs.World.{TaskName, TalkName, Held, Absent, Waits}
use Rattle.al_world.specs.Laws.{IsGoing}

abbrev pub Offers : Type 0
Offers = List (Offer TalkName)

-- no task twice
abbrev pub NoDup : List TaskName → Type 0
NoDup [] = Unit {0}
NoDup (t ∷ ts) = AllByRecursion (λ (u : TaskName). t ≢ u) ts × NoDup ts

module _ {C : Type 0} where
  -- a blocked task, of whose talk this is a branch
  pub record IsTalking (o : Offer TalkName) (h : Held C) : Type 0 where
    pub branches : List Branch
    pub control : C
    pub is : h ≡ Waits (Talk branches) control
    pub at : slice_get branches o.number ≡ Some o.branch

  -- a task that waits for the branches of its par
  pub record IsJoining (h : Held C) : Type 0 where
    pub starts : List Start
    pub control : C
    pub is : h ≡ Waits (Par starts) control

  -- a ready task of proc p
  pub record IsReady (T : TaskName → Held C) (p : ℕ) (t : TaskName) : Type 0 where
    pub home : t.proc ≡ p
    pub going : IsGoing (T t)

  pub record ProcOk (T : TaskName → Held C) (p : ℕ) (q : ProcState TaskName) : Type 0 where
    pub ready : AllByRecursion (IsReady T p) q.ready
    pub distinct : NoDup q.ready
    pub parent : (u : TaskName) → q.parent ≡ Some u → IsJoining (T u)

  pub record Sound (ps : List (ProcState TaskName)) (ws : Offers) (started : ℕ → ℕ) (T : TaskName → Held C) : Type 0 where
    pub procs : (p : ℕ) (q : ProcState TaskName) → slice_get ps p ≡ Some q → ProcOk T p q
    pub waiting : AllByRecursion (λ (o : Offer TalkName). IsTalking o (T o.by.task)) ws
    pub absent : (t : TaskName) → started t.proc ≤ t.number → T t ≡ Absent
    pub unstarted : (p : ℕ) → length ps ≤ p → started p ≡ 0
