-- Laws that hold along the run of each history, and of each entry of it.
use Rattle.std.specs.Prelude.{◌≡◌, ◌≢◌, ◌⊎◌, ℕ, true, false, List, ◌∷◌, ◌++◌, Some}
use Rattle.al_event.specs.declared.act.Branch.{Branch}
use Rattle.al_event.specs.declared.act.Act.{Act}
use Rattle.al_event.specs.declared.act.Act.TheVariants.{Talk}
use Rattle.al_event.specs.declared.entry.Entry.{Entry}
use Rattle.al_world.specs.Channels.{Offer, has_bad, ready, is_some_ready}
use Rattle.al_world.specs.Procs.{first_ready}
use Rattle.al_world.specs.World.{TaskName, TalkName, World, Goes, Effect}
use Rattle.al_world.specs.Actions.{talk_of, performs}
use Rattle.al_world.specs.Laws.{IsKept}
use Rattle.al_world.specs.Transfers.{IsQueue, IsDistinct, names_in, IsIn, IsTalkEntry, AfterTalk, Takes, GoesOn, HandsWords}
use Rattle.rv_exec.specs.Hart.{Hart}
use Rattle.rv_exec.specs.Machine.{machine}
use Rattle.al_core.specs.History.{History, run_along, run_of, with_entry}

-- in each channel the values put are those got followed by what it holds or held when it was given up; each talk stands in
-- what went at most once, and a talk that did not trap and whose task went on stands there
pub record IsLawful (h : History) : Type 0 where
  pub in_order : (w : World (machine h.image)) → run_of h ≡ Some w → IsQueue w.shared.went w.shared.book.channels
  pub once : (w : World (machine h.image)) → run_of h ≡ Some w → IsDistinct (names_in w.shared.went)
  pub gone : (before more : List Entry) (e : Entry) (w v : World (machine h.image)) (t : TaskName) → run_along h before ≡ Some w → IsTalkEntry (machine h.image) w e t → run_along h (before ++ e ∷ more) ≡ Some v → AfterTalk (machine h.image) v (talk_of w.shared t)

-- an entry does this to the world
pub record IsDoneBy (h : History) (e : Entry) (w : World (machine h.image)) (t : TaskName) (act : Act) (effect : Effect) : Type 0 where
  pub before : run_of h ≡ Some w
  pub first : first_ready w.shared.procs e.proc ≡ Some t
  pub control : Hart
  pub goes : w.tasks t ≡ Goes control
  pub asks : act ≡ ((machine h.image).ask control (w.privates t.proc)).act
  pub does : performs w.shared t act e.pick ≡ Some effect

-- An entry leaves of each other proc the first ready task, its control and the private globals as they are. A talk that
-- neither traps nor blocks takes the pair that was picked, and what it hands over is equal at both ends. A branch that waits
-- stays, or its talk goes on by one branch and all its branches leave.
pub record IsLawfulEntry (h : History) (e : Entry) : Type 0 where
  pub local : (w v : World (machine h.image)) (p : ℕ) (t : TaskName) → run_of h ≡ Some w → run_of (with_entry e h) ≡ Some v → p ≢ e.proc → first_ready w.shared.procs p ≡ Some t → IsKept (machine h.image) w v p t
  pub taken : (w : World (machine h.image)) (t : TaskName) (branches : List Branch) (effect : Effect) → IsDoneBy h e w t (Talk branches) effect → has_bad w.shared.book branches ≡ false → is_some_ready (ready w.shared.book branches) ≡ true → Takes w.shared t branches e.pick effect
  pub equal : (w : World (machine h.image)) (t : TaskName) (branches : List Branch) (effect : Effect) → IsDoneBy h e w t (Talk branches) effect → HandsWords w.shared t branches effect
  pub left : (w : World (machine h.image)) (t : TaskName) (act : Act) (effect : Effect) (o : Offer TalkName) → IsDoneBy h e w t act effect → IsIn w.shared.book.waiting o → IsIn effect.shared.book.waiting o ⊎ GoesOn w.shared o effect
